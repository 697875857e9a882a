-- what the public contracts cite
pub mod Distinct
pub mod Failures
pub mod FaultName
pub mod InOrder
pub mod Kinds
pub mod Least
pub mod Object
pub mod Status
pub mod Text
pub mod UnknownOutcomes
pub mod Written
-- what the contracts within the crate cite
pub mod Matching
