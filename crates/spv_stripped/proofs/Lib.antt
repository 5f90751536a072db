pub mod Opcodes
pub mod Uses
pub mod Lines
pub mod Whole
pub mod StringLabels
pub mod StringUses
