-- what the public contracts cite
pub mod Blamed
pub mod Checked
pub mod FaultName
pub mod Gathering
pub mod Items
pub mod Laws
pub mod Operations
pub mod Scope
pub mod Adding
pub mod Forms
pub mod Nodes
pub mod Loading
-- what these are made of
pub mod Decision
pub mod Least
-- what the contracts within the crate cite
pub mod ByParts
pub mod Answers
