pub mod StateLaws
pub mod KeyExpansionLaws
pub mod CipherLaws
