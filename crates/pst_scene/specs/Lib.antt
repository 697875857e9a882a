-- what the public contracts cite
pub mod Names
pub mod Outcomes
-- what serves within
pub mod Parts
