-- what the public contracts cite
pub mod Reasons
pub mod Allowed
pub mod Equality
pub mod States
pub mod Answered
