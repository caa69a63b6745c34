pub mod Amendments
pub mod Gaps
pub mod Padding
pub mod Places
