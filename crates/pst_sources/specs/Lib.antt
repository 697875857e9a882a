-- what the public contracts cite
pub mod Files
pub mod Paths
-- what the contracts of the functions that find trees cite
pub mod Scanning
