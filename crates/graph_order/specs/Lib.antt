pub mod Order
pub mod Taking
