pub mod NestedLaws
pub mod ListedLaws
