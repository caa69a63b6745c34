pub mod Amending
pub mod Finding
