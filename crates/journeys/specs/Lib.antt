pub mod Settings
pub mod Tellings
pub mod Stages
pub mod Journeys
pub mod HandedRecords
pub mod Laws
pub mod Examples
