pub mod StoredReads
pub mod StoredPasses
pub mod StoredBytes
pub mod ConvertedLaws
