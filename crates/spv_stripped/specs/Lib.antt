pub mod Strip
pub mod Laws
pub mod StringLaws
