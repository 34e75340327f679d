pub mod StoreLaws
pub mod HandleLaws
