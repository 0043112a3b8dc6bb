pub mod ChainLemmas
pub mod ExplainLemmas
pub mod LineTexts
pub mod SummaryLemmas
pub mod UpgradeLines
pub mod UpgradeProof
pub mod UpgradedLemmas
