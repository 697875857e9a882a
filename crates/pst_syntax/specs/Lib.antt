-- what the public contracts cite
pub mod FaultName
pub mod Limits
pub mod Items
pub mod ItemShape
pub mod Reading
pub mod Shape
pub mod Heads
pub mod Names
pub mod Places
pub mod Counting
pub mod Faults
pub mod ModelFaults
-- what the borrowed shapes of the code stand for
pub mod Shown
pub mod ShownItems
