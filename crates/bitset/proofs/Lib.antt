pub mod SetLaws
pub mod BitLaws
pub mod MemberLaws
pub mod WordLaws
pub mod ZeroBytes
mod ExchangedBlocks
mod ExchangeLaws
