pub mod OneMore
pub mod ControlLaws
