-- what the public contracts cite
pub mod Precedences
pub mod Before
pub mod Laws
-- what the contracts within the crate cite
pub mod Listing
pub mod Deleting
