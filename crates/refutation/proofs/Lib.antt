pub mod CheckLaws
pub mod PointLaws
