-- what the public contracts cite
pub mod Absent
pub mod Answering
pub mod CampaignCalls
pub mod CampaignEnd
pub mod CampaignFailures
pub mod CampaignOutput
pub mod CampaignView
pub mod ChosenItem
pub mod Commands
pub mod ConvertOutput
pub mod DrivenItems
pub mod ExplainOutput
pub mod GenerateOutput
pub mod GraphOutput
pub mod JsonOutput
pub mod KeepingOn
pub mod Known
pub mod ListOutput
pub mod OneOutput
pub mod Output
pub mod RunOutput
pub mod Sending
pub mod Status
pub mod StreamOutput
-- what these are made of
pub mod Head
-- what the contracts within the crate cite
pub mod Answers
pub mod Generating
pub mod ItemReports
pub mod Kept
pub mod Losses
pub mod Outputs
pub mod Page
pub mod Rows
pub mod Smaller
pub mod Streaming
