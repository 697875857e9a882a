-- what the public contracts cite
pub mod Settings
pub mod PlanView
pub mod Driving
pub mod JudgedRuns
pub mod Bursts
pub mod Sound
pub mod RecordView
-- lemmas that the laws of implementations cite
pub mod Moving
pub mod Steadiness
