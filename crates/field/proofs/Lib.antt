pub mod FieldLaws
pub mod SubstitutionLaws
