-- what the public contracts cite
pub mod Callbacks
pub mod Places
pub mod Env
pub mod Meaning
pub mod Reach
pub mod Names
pub mod SymbolicLaws
-- what serves within: by it an evaluation ends
pub mod Weight
-- what these are made of
pub mod Substituted
