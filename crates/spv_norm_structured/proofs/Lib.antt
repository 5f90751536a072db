pub mod Pieces
pub mod Again
pub mod Labels
pub mod Normal
pub mod Pointers
pub mod Depths
pub mod Trees
