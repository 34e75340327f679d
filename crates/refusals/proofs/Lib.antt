pub mod AfterLaws
pub mod GivenLaws
pub mod OwnerLaws
