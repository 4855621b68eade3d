pub mod DraftLaws
pub mod EntryLaws
pub mod KeyLaws
pub mod LineLaws
pub mod MeantLaws
pub mod ScriptLaws
pub mod StandardLaws
