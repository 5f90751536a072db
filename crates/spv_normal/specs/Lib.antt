pub mod Lines
pub mod Order
pub mod Normal
pub mod Facts
