pub mod Joined
pub mod Joinable
pub mod Examples
pub mod BesideWrites
