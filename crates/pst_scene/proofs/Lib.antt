pub mod Deciding
pub mod Descending
pub mod Failing
