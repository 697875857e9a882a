-- what the public contracts cite
pub mod Fault
pub mod Grammar
pub mod Reading
pub mod Lawful
pub mod Spelling
pub mod Parts
pub mod Out
pub mod Writing
pub mod Names
pub mod Integers
-- what the contracts of the reader and the writer cite within the crate
pub mod Bytes
pub mod Scan
pub mod Spans
