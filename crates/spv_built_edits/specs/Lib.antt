pub mod Edits
pub mod Laws
pub mod Thinned
pub mod ThinnedLaws
pub mod RewrittenLaws
pub mod AddedLaws
pub mod Replaced
pub mod ReplacedLaws
