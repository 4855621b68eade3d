-- Blanks and comments in a text.
use Rattle.std.proofs.Common.{◌≡◌, ℕ, ◌+◌, ◌<◌, ◌≤◌, List, length, drop, get_or, drop-cons, add-one, Some, None, Bool}
use Rattle.std.proofs.lemmas.List.{drop_all}
use Rattle.nest_tokens.specs.Lexing.{between, gap}

pub gap-stops : (text : List ℕ) (at : ℕ) (comment : Bool) → at < length text → between comment (get_or text at 0) ≡ None → gap comment (drop at text) ≡ drop at text
unfolding gap
gap-stops text at comment h e = rw (drop-cons text at 0, e)

pub gap-goes : (text : List ℕ) (at : ℕ) (comment next : Bool) → at < length text → between comment (get_or text at 0) ≡ Some next → gap comment (drop at text) ≡ gap next (drop (at + 1) text)
unfolding gap
gap-goes text at comment next h e = rw (drop-cons text at 0, e, add-one)

pub gap-ends : (text : List ℕ) (at : ℕ) (comment : Bool) → length text ≤ at → gap comment (drop at text) ≡ drop at text
unfolding gap
gap-ends text at comment h = rw (drop_all)

pub ruleset gaps = (gap-stops, gap-goes, gap-ends)
