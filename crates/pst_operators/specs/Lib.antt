-- what the public contracts cite
pub mod Answers
pub mod Laws
pub mod Maps
pub mod Operators
pub mod Outcome
