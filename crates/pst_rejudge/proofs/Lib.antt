pub mod Collected
pub mod Joined
pub mod One
pub mod Permitted
pub mod Placed
pub mod Pushed
pub mod Refusing
pub mod Together
pub mod Answering
pub mod Splitting
mod Adding
mod ReadBack
