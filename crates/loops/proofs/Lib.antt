pub mod BelowLaws
pub mod FirstBytes
pub mod RunningLaws
pub mod SearchLaws
pub mod TabulateLaws
pub mod TurnLaws
