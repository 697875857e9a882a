pub mod Rooms
pub mod Counted
pub mod Complete
pub mod Deep
pub mod Plain
pub mod First
pub mod FirstOfModel
pub mod Operations
