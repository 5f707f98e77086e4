pub mod Rewritten
pub mod Trees
pub mod OnSheet
