pub mod TextLaws
pub mod PutLaws
pub mod LineLaws
pub mod ExampleLaws
