pub mod WorkerStepLaws
pub mod WorkersTogetherLaws
pub mod GatheringLaws
pub mod SeatMemoryLaws
pub mod TouchLaws
pub mod TurnLaws
pub mod FollowingLaws
