pub mod Counting
pub mod Dropping
pub mod Lesser
pub mod Moving
mod Keeping
