-- what the public contracts cite
pub mod Functions
pub mod Code
-- what the contracts within cite
pub mod Scopes
pub mod Compiled
