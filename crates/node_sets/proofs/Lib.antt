pub mod NodeSetLaws
