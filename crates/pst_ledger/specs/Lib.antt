-- what the public contracts cite
pub mod Names
pub mod Count
pub mod Seats
pub mod Core
pub mod Line
pub mod Replay
-- what the contracts within the crate cite
pub mod Rule
pub mod Inside
