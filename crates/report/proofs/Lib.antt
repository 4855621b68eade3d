pub mod RunLaws
pub mod OneList
pub mod ScalarLaws
pub mod PhraseLaws
pub mod SumLaws
