pub mod Laying
pub mod Lookups
pub mod Ordering
