mod TurnLaws
mod ListingLaws
