pub mod HeldLaws
pub mod BackLaws
pub mod HeldTripLaws
pub mod HeldBytesHold
