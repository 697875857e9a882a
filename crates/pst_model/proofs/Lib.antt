pub mod Operations
pub mod Rolled
