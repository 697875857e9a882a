-- what the public contracts cite
pub mod Items
pub mod Lawful
pub mod FaultName
pub mod WriteFaultName
pub mod Lines
pub mod Written
-- what these are made of
pub mod Forms
pub mod Commands
pub mod Reading
pub mod Replies
pub mod Times
pub mod Values
-- what the contracts within the crate cite
pub mod Shown
pub mod ReadAgain
