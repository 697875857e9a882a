-- what the public contracts cite
pub mod FaultName
pub mod Number
pub mod Candidates
pub mod Weight
pub mod Outcomes
pub mod Shrinking
-- what the contracts within the crate cite
pub mod Rounds
