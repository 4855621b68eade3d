mod FirstTurnLaws
mod EmptyTileLaws
