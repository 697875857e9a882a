-- what the public contracts cite
pub mod Judging
pub mod Answers
pub mod Parts
pub mod StreamAnswers
pub mod Blocks
pub mod Lines
pub mod Verdicts
pub mod Objects
-- what the contracts within the crate cite
pub mod Places
