pub mod IntegerLaws
pub mod ListLaws
pub mod MembershipLaws
pub mod OrderLaws
