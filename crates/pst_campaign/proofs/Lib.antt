pub mod Zips
pub mod Given
pub mod Adding
pub mod Before
