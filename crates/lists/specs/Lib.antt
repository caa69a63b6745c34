pub mod Bytes
pub mod Writes
pub mod Places
