pub mod Progress
pub mod Laws
pub mod Machines
pub mod Ports
pub mod Workers
pub mod FollowRuns
pub mod Examples
