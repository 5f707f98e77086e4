pub mod LogEdit
pub mod LoggedEdits
