-- what the public contracts cite
pub mod Lawful
pub mod Listing
pub mod Machine
pub mod Outcomes
-- what the contracts within cite
pub mod Meets
pub mod Slots
pub mod Cells
