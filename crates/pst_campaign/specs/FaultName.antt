-- The words for the faults of campaigns.
use Rattle.std.specs.Prelude.{ℕ, List, codes}
use Rattle.pst_campaign.specs.declared.campaigns.CampaignFault.{CampaignFault}
use Rattle.pst_campaign.specs.declared.campaigns.CampaignFault.TheVariants.{NoSystem, TooMany, NoMemory}

-- the bytes of a fault's name
abbrev pub fault_name : CampaignFault → List ℕ
fault_name NoSystem = codes "NoSystem"
fault_name TooMany = codes "TooMany"
fault_name NoMemory = codes "NoMemory"
