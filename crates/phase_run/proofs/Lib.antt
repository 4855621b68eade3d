mod LendingLaws
mod ReturningLaws
mod ClosingLaws
mod HandingLaws
