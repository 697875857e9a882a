pub mod Answering
pub mod Commands
pub mod Endings
pub mod Numbers
