pub mod Places
pub mod Counted
pub mod Scanned
pub mod First
pub mod Found
