pub mod PairLaws
pub mod RuleShapes
pub mod NamedParts
pub mod WalkedLaws
pub mod WitnessStages
pub mod Told
