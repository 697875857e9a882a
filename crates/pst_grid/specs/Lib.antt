-- what the public contracts cite
pub mod Merges
pub mod Orders
pub mod StepOutcomes
pub mod Answers
pub mod Bounds
pub mod Laws
-- what the contracts within a search cite
pub mod Completions
pub mod Kept
pub mod Covered
pub mod Remembered
pub mod Hashing
pub mod DoneCounts
pub mod Packings
