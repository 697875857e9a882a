pub mod Adding
pub mod Deleted
pub mod Kept
pub mod Preceding
pub mod Ruling
pub mod Turns
pub mod Verdicts
