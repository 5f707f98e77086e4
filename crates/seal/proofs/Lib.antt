pub mod LaneLaws
pub mod WordSums
pub mod LaneTotals
pub mod TotalLaws
pub mod SealLaws
pub mod SealNoticed
pub mod CodeLaws
pub mod PutLaws
