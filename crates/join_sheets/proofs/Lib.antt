pub mod BelowSum
pub mod Joined
pub mod Together
pub mod Examples
pub mod Shifts
pub mod Beside
pub mod BlocksJoined
pub mod JoinStages
