pub mod Agree
pub mod FormAgrees
pub mod Points
pub mod Led
pub mod Counted
pub mod Accepted
