pub mod Numbers
pub mod Arith
pub mod Bits
pub mod Compare
pub mod Ext
pub mod Words
pub mod Eval
