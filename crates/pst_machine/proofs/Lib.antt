pub mod Entries
pub mod Falls
pub mod Reaching
pub mod Writing
pub mod Stepping
pub mod ValueTexts
pub mod Briefly
