pub mod FaultLaws
pub mod ClaimLaws
pub mod RowLaws
pub mod YesLaws
