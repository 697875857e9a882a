-- what the public contracts cite
pub mod Bursts
pub mod FaultName
pub mod Kept
