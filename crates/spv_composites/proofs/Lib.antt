pub mod FormsStand
pub mod Growing
pub mod KnownLengths
pub mod LengthLaws
pub mod MatchLemmas
pub mod Members
pub mod SameForms
pub mod Typing
