pub mod Answering
pub mod Bursting
pub mod Calling
pub mod Ends
pub mod Lines
pub mod Losing
