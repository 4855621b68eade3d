pub mod ProductionLaws
pub mod ListingLaws
pub mod MarkedPartLaws
pub mod LevelLaws
pub mod ScalarNameLaws
pub mod StoredItemLaws
