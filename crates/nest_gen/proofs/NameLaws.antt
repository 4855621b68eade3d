-- The names in generated texts.
use Rattle.std.proofs.Common.{refl, codes, arith}
use Rattle.nest_tokens.specs.declared.token.Token.TheVariants as token
use Rattle.nest_tokens.specs.Tokens.{spelling, keyword_of}
use Rattle.nest_tokens.specs.Lexing.{name_of}
use Rattle.canonical.specs.Pieces.{Piece, name}
use Rattle.canonical.specs.Layout.{IsWritten}

abbrev pub named_i : Piece
named_i = name (name_of (codes "i"))

pub written-i : IsWritten (token.Name (name_of (codes "i")))
unfolding keyword_of spelling
written-i = (codes "i", refl, omega arith, refl, (refl, tt), refl)

abbrev pub named_j : Piece
named_j = name (name_of (codes "j"))

pub written-j : IsWritten (token.Name (name_of (codes "j")))
unfolding keyword_of spelling
written-j = (codes "j", refl, omega arith, refl, (refl, tt), refl)

abbrev pub named_p : Piece
named_p = name (name_of (codes "p"))

pub written-p : IsWritten (token.Name (name_of (codes "p")))
unfolding keyword_of spelling
written-p = (codes "p", refl, omega arith, refl, (refl, tt), refl)

abbrev pub named_tile : Piece
named_tile = name (name_of (codes "tile"))

pub written-tile : IsWritten (token.Name (name_of (codes "tile")))
unfolding keyword_of spelling
written-tile = (codes "tile", refl, omega arith, refl, (refl, (refl, (refl, (refl, tt)))), refl)
