pub mod TakenWordLaws
pub mod DigitLaws
pub mod FoundWordLaws
pub mod ExampleLaws
pub mod InvocationLaws
