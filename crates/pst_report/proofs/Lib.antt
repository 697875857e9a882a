pub mod Collecting
pub mod Fields
pub mod Matching
