-- what the public contracts cite
pub mod Reading
pub mod Writing
pub mod Spelled
pub mod Trees
pub mod Lines
pub mod Written
-- what the contracts within the crate cite
pub mod Shown
