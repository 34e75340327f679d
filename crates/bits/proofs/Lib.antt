pub mod SetLaws
pub mod OperationLaws
pub mod ByteLaws
