pub mod FileNumberLaws
pub mod TrapsOnly
pub mod AnswerLaws
pub mod PlainLaws
pub mod RunLaws
pub mod HandedLaws
pub mod CallLaws
