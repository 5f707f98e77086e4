pub mod JoinedBytes
pub mod JoinedPasses
pub mod Joining
pub mod AnyWay
pub mod Examples
