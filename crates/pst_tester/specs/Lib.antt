-- the relations of a system that promises nothing
pub mod Promises
-- what relations of one's own speak of
pub use Rattle.pst_system.specs.declared.system.RealCall
pub use Rattle.pst_system.specs.declared.system.CallFault
pub use Rattle.pst_value.specs.declared.value.Value
-- what the contracts of systems cite
pub use Rattle.pst_system.specs.Kept
pub use Rattle.pst_system.specs.FaultName
-- what the contracts of plans and campaigns cite
pub use Rattle.pst_trial.specs.Settings
pub use Rattle.pst_trial.specs.PlanView
pub use Rattle.pst_trial.specs.RecordView
pub use Rattle.pst_trial.specs.Sound
pub use Rattle.pst_trial.specs.Driving
pub use Rattle.pst_trial.specs.JudgedRuns
pub use Rattle.pst_campaign.specs.Entries
pub use Rattle.pst_campaign.specs.Working
-- what the contracts of the calls from bytes to output cite
pub use Rattle.pst_cli.specs.Output
pub use Rattle.pst_cli.specs.Status
pub use Rattle.pst_cli.specs.CampaignOutput
pub use Rattle.pst_cli.specs.ExplainOutput
