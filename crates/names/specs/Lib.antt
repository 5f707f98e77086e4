pub mod Token
pub mod Scan
pub mod Scanned
pub mod Names
