pub mod OperationLaws
pub mod MemberWalks
pub mod Quantifiers
pub mod ColumnLaws
