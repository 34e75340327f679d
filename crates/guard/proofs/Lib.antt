pub mod OpenLaws
pub mod LookLaws
