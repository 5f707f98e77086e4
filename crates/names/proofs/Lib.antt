pub mod TokenLaws
pub mod FirstLaws
pub mod ScanLaws
pub mod ScannerLaws
pub mod NameLaws
pub mod PlaceLaws
pub mod FreeNames
pub mod TableFaults
