pub mod GrowingListLaws
pub mod FormLaws
pub mod PresentLaws
pub mod CandidateLaws
pub mod NestLaws
pub mod FileLaws
pub mod StandingLaws
pub mod OneListing
