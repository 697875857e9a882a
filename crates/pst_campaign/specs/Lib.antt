-- what the public contracts cite
pub mod FaultName
pub mod Entries
pub mod Working
-- what the contracts within the crate cite
pub mod Workers
-- lemmas that the laws of implementations cite
pub mod Moving
