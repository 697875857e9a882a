-- what the public contracts cite
pub mod FaultName
pub mod Fits
pub mod Holds
pub mod Keys
pub mod Laws
pub mod Subst
pub mod Text
pub mod formers
-- what these are made of
pub mod Equality
