pub mod One
pub mod Found
pub mod Meanings
