pub mod ChoiceLaws
pub mod FirstLaws
pub mod MetLaws
pub mod NameLaws
pub mod RefusalLaws
