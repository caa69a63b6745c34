pub mod Rows
pub mod Blocks
pub mod Faults
pub mod Judging
pub mod Files
pub mod Laws
