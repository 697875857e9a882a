pub mod Keeping
pub mod Seen
pub mod Levels
pub mod Walks
pub mod Unplaced
pub mod UnplacedModel
