pub mod ScriptLaws
pub mod SoughtLaws
pub mod RefutedLaws
