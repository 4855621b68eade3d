pub mod SeatLaws
pub mod WorkerStepLaws
pub mod MainStepLaws
pub mod ViewStepLaws
pub mod EmptyTileLaws
