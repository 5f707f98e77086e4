pub mod Printable
pub mod Printed
pub mod Opening
pub mod Added
