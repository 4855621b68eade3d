pub mod FirstTurnLaws
mod TurnLaws
mod ListingLaws
