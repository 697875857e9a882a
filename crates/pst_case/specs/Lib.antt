-- what the public contracts cite
pub mod Shape
pub mod OfModel
pub mod Matches
pub mod Recorded
pub mod Unknown
pub mod Times
pub mod Renumber
pub mod Laws
pub mod Refusal
pub mod FaultName
-- what the contracts within the crate cite
pub mod Banned
