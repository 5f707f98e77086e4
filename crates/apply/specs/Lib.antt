pub mod Apply
pub mod Made
