pub mod CopyingLaws
pub mod PostingLaws
