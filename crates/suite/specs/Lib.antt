pub mod Numbers
pub mod CountNumbers
pub mod Games
pub mod Witnesses
pub mod SetNumbers
pub mod Version
