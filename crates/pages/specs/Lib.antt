pub mod Page
pub mod Print
pub mod Typed
pub mod Prints
pub mod Places
