-- what the public contracts cite
pub mod Lines
pub mod Meaning
-- what the contracts within the crate cite
pub mod Plain
