pub mod Answering
pub mod Findings
