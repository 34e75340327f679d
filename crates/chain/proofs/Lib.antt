pub mod WayLaws
pub mod PigeonholeLaws
pub mod MeansLaws
pub mod RecordLaws
pub mod WalkLaws
pub mod LiteralLaws
