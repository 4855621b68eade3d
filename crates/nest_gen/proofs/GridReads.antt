-- The text of a grid is read.
use Rattle.std.proofs.Common.{◌≡◌, ◌∙◌, ap, sym, subst, refl, ℕ, ◌*◌, ◌-◌, ◌<◌, ◌≤◌, pos, List, [], ◌∷◌, ◌++◌, length, codes, Ok, arith}
use Rattle.std.specs.Fmt.{decimal}
use Rattle.std.proofs.lemmas.Fmt.{decimal_digit}
use Rattle.nest_tokens.specs.declared.token.Mark.TheVariants as mark
use Rattle.nest_tokens.specs.Tokens.{spelling, keyword_of, is_mark}
use Rattle.nest_tokens.specs.Spellings.{name_text}
use Rattle.nest_grammar.specs.declared.file.File.{File}
use Rattle.nest_grammar.specs.declared.file.Item.TheVariants.{Ramp}
use Rattle.nest_grammar.specs.declared.version.Version.TheVariants.{One}
use Rattle.nest_grammar.specs.Limits.{most_bytes}
use Rattle.nest_grammar.specs.Sights.{Sight, here, skip, beyond, of_version}
use Rattle.nest_grammar.specs.Readings.{refused, need, obeys, number_where, minus, signed_where, more, many, end}
use Rattle.nest_grammar.specs.Names.{place_of, fresh, target}
use Rattle.nest_grammar.specs.Expressions.{start_of, product_of, addition_of, comparison_of, taken, closed, access, unary, term, sum, expr, expression}
use Rattle.nest_grammar.specs.Statements.{opening_of, statements, block}
use Rattle.nest_grammar.specs.Loops.{loop_keyword, body_end, loops}
use Rattle.nest_grammar.specs.Scripts.{word_spelling, word_of_name, command_word, row_begins, rows as script_rows, operands, command, script, candidates}
use Rattle.nest_grammar.specs.Contents.{reading}
use Rattle.nest_grammar.specs.Grammar as grammar
use Rattle.canonical.specs.Pieces.{Piece, Space, plain, number, piece_text, token_text, text_of}
use Rattle.canonical.specs.Layout.{words, AllWritten}
use Rattle.canonical.proofs.LayoutPieceLaws.{Laid, Free, is_sign, with_equals}
use Rattle.nest_gen.proofs.NameLaws.{named_i, named_j, named_tile, written-i, written-j, written-tile}
use Rattle.nest_gen.proofs.TextReads.{Parsed, sight, text-read, length-brief}
use Rattle.nest_gen.specs.Texts.{grid_of}
use Rattle.nest_gen.specs.Texts.{rows, upper, lower}
use Rattle.canonical.proofs.PieceLaws.{text-append}
use Rattle.nest_gen.proofs.ItemLaws.{ramp-in, one-is-not-zero, square-small}

module _ (m v : ℕ) (from : 2 ≤ m) (to : m ≤ 258) (small : v < 1000) where
  abbrev rows_pieces : List Piece
  rows_pieces = plain mark.Nest ∷ Space ∷ number 1 ∷ Space ∷ plain mark.Memory ∷ Space ∷ number (m * m) ∷ Space ∷ plain mark.Ramp ∷ Space ∷ number 0 ∷ Space ∷ number (m * m) ∷ Space ∷ number 1 ∷ Space ∷ number v ∷ Space ∷ number 1 ∷ Space ∷ plain mark.For ∷ Space ∷ named_i ∷ Space ∷ plain mark.Assign ∷ Space ∷ number 1 ∷ Space ∷ plain mark.Below ∷ Space ∷ number (m - 1) ∷ Space ∷ plain mark.OpenBrace ∷ Space ∷ plain mark.For ∷ Space ∷ named_j ∷ Space ∷ plain mark.Assign ∷ Space ∷ number 1 ∷ Space ∷ plain mark.Below ∷ Space ∷ number (m - 1) ∷ Space ∷ plain mark.OpenBrace ∷ Space ∷ []

  abbrev upper_pieces : List Piece
  upper_pieces = plain mark.OpenBracket ∷ number m ∷ Space ∷ plain mark.Times ∷ Space ∷ named_i ∷ Space ∷ plain mark.Plus ∷ Space ∷ named_j ∷ plain mark.CloseBracket ∷ Space ∷ plain mark.Assign ∷ Space ∷ plain mark.Open ∷ plain mark.OpenBracket ∷ number m ∷ Space ∷ plain mark.Times ∷ Space ∷ named_i ∷ Space ∷ plain mark.Plus ∷ Space ∷ named_j ∷ Space ∷ plain mark.Minus ∷ Space ∷ number m ∷ plain mark.CloseBracket ∷ Space ∷ plain mark.Plus ∷ Space ∷ plain mark.OpenBracket ∷ number m ∷ Space ∷ plain mark.Times ∷ Space ∷ named_i ∷ Space ∷ plain mark.Plus ∷ Space ∷ named_j ∷ Space ∷ plain mark.Minus ∷ Space ∷ number 1 ∷ plain mark.CloseBracket ∷ Space ∷ plain mark.Plus ∷ Space ∷ []

  abbrev lower_pieces : List Piece
  lower_pieces = plain mark.OpenBracket ∷ number m ∷ Space ∷ plain mark.Times ∷ Space ∷ named_i ∷ Space ∷ plain mark.Plus ∷ Space ∷ named_j ∷ plain mark.CloseBracket ∷ Space ∷ plain mark.Plus ∷ Space ∷ plain mark.OpenBracket ∷ number m ∷ Space ∷ plain mark.Times ∷ Space ∷ named_i ∷ Space ∷ plain mark.Plus ∷ Space ∷ named_j ∷ Space ∷ plain mark.Plus ∷ Space ∷ number 1 ∷ plain mark.CloseBracket ∷ Space ∷ plain mark.Plus ∷ Space ∷ plain mark.OpenBracket ∷ number m ∷ Space ∷ plain mark.Times ∷ Space ∷ named_i ∷ Space ∷ plain mark.Plus ∷ Space ∷ named_j ∷ Space ∷ plain mark.Plus ∷ Space ∷ number m ∷ plain mark.CloseBracket ∷ plain mark.Close ∷ Space ∷ plain mark.Divide ∷ Space ∷ number 5 ∷ Space ∷ plain mark.CloseBrace ∷ Space ∷ plain mark.CloseBrace ∷ Space ∷ plain mark.Candidate ∷ Space ∷ plain mark.OpenBrace ∷ Space ∷ named_tile ∷ Space ∷ number 1 ∷ Space ∷ number 8 ∷ plain mark.Semicolon ∷ Space ∷ named_tile ∷ Space ∷ number 2 ∷ Space ∷ number 8 ∷ Space ∷ plain mark.CloseBrace ∷ []

  abbrev grid-pieces : List Piece
  grid-pieces = rows_pieces ++ (upper_pieces ++ lower_pieces)

  -- the text, with the digits that stand in it in place of its short numbers
  abbrev rows_by : List ℕ → List ℕ → List ℕ
  rows_by d0 d1 = codes "nest " ++ (d1 ++ (codes " memory " ++ (decimal (m * m) ++ (codes " ramp " ++ (d0 ++ (codes " " ++ (decimal (m * m) ++ (codes " " ++ (d1 ++ (codes " " ++ (decimal (v) ++ (codes " " ++ (d1 ++ (codes " for i = " ++ (d1 ++ (codes " below " ++ (decimal (m - 1) ++ (codes " { for j = " ++ (d1 ++ (codes " below " ++ (decimal (m - 1) ++ (codes " { "))))))))))))))))))))))

  rows-by : rows m v ≡ rows_by (codes "0") (codes "1")
  rows-by = refl

  rows-pieces : rows_by (decimal 0) (decimal 1) ≡ text_of rows_pieces
  unfolding text_of piece_text token_text spelling name_text
  rows-pieces = refl

  pub rows-is : rows m v ≡ text_of rows_pieces
  rows-is = rows-by ∙ ap (λ d. rows_by d (codes "1")) (sym (decimal_digit 0 (omega arith))) ∙ ap (λ d. rows_by (decimal 0) d) (sym (decimal_digit 1 (omega arith))) ∙ rows-pieces

  -- the text, with the digits that stand in it in place of its short numbers
  abbrev upper_by : List ℕ → List ℕ
  upper_by d1 = codes "[" ++ (decimal (m) ++ (codes " * i + j] = ([" ++ (decimal (m) ++ (codes " * i + j - " ++ (decimal (m) ++ (codes "] + [" ++ (decimal (m) ++ (codes " * i + j - " ++ (d1 ++ (codes "] + "))))))))))

  upper-by : upper m ≡ upper_by (codes "1")
  upper-by = refl

  upper-pieces : upper_by (decimal 1) ≡ text_of upper_pieces
  unfolding text_of piece_text token_text spelling name_text
  upper-pieces = refl

  pub upper-is : upper m ≡ text_of upper_pieces
  upper-is = upper-by ∙ ap (λ d. upper_by d) (sym (decimal_digit 1 (omega arith))) ∙ upper-pieces

  -- the text, with the digits that stand in it in place of its short numbers
  abbrev lower_by : List ℕ → List ℕ → List ℕ → List ℕ → List ℕ
  lower_by d1 d2 d5 d8 = codes "[" ++ (decimal (m) ++ (codes " * i + j] + [" ++ (decimal (m) ++ (codes " * i + j + " ++ (d1 ++ (codes "] + [" ++ (decimal (m) ++ (codes " * i + j + " ++ (decimal (m) ++ (codes "]) / " ++ (d5 ++ (codes " } } candidate { tile " ++ (d1 ++ (codes " " ++ (d8 ++ (codes "; tile " ++ (d2 ++ (codes " " ++ (d8 ++ (codes " }"))))))))))))))))))))

  lower-by : lower m ≡ lower_by (codes "1") (codes "2") (codes "5") (codes "8")
  lower-by = refl

  lower-pieces : lower_by (decimal 1) (decimal 2) (decimal 5) (decimal 8) ≡ text_of lower_pieces
  unfolding text_of piece_text token_text spelling name_text
  lower-pieces = refl

  pub lower-is : lower m ≡ text_of lower_pieces
  lower-is = lower-by ∙ ap (λ d. lower_by d (codes "2") (codes "5") (codes "8")) (sym (decimal_digit 1 (omega arith))) ∙ ap (λ d. lower_by (decimal 1) d (codes "5") (codes "8")) (sym (decimal_digit 2 (omega arith))) ∙ ap (λ d. lower_by (decimal 1) (decimal 2) d (codes "8")) (sym (decimal_digit 5 (omega arith))) ∙ ap (λ d. lower_by (decimal 1) (decimal 2) (decimal 5) d) (sym (decimal_digit 8 (omega arith))) ∙ lower-pieces

  grid-is : grid_of m v ≡ text_of grid-pieces
  grid-is =
      ap (λ t. t ++ (upper m ++ lower m)) rows-is ∙ ap (λ t. text_of rows_pieces ++ (t ++ lower m)) upper-is ∙ ap (λ t. text_of rows_pieces ++ (text_of upper_pieces ++ t)) lower-is
      ∙ ap (λ t. text_of rows_pieces ++ t) (sym (text-append upper_pieces lower_pieces)) ∙ sym (text-append rows_pieces (upper_pieces ++ lower_pieces))

  grid-laid : Laid Free grid-pieces
  unfolding is_sign with_equals
  grid-laid = (tt, (tt, (tt, (tt, (tt, (tt, (tt, (tt, (tt, (tt, (tt, (tt, (tt, (tt, (tt, (tt, (tt, (tt, (tt, (tt, (tt, (tt, (tt, (tt, (tt, (refl, (tt, (tt, (tt, (tt, (refl, (tt, (tt, (refl, (refl, (tt, (tt, (tt, (tt, (tt, (tt, (refl, (tt, (tt, (refl, (tt, (tt, (tt, (tt, (tt, (tt, (refl, (tt, (tt, (refl, (tt, (tt, (tt, (tt, (refl, (tt, (tt, (refl, (tt, (tt, (tt, (tt, (tt, (tt, (refl, (tt, (tt, (refl, (tt, (tt, (tt, (tt, (tt, (tt, (refl, (refl, (tt, (tt, (tt, (tt, (tt, (tt, (tt, (tt, (tt, (refl, (tt, (tt, (tt, (tt, tt)))))))))))))))))))))))))))))))))))))))))))))))))))))))))))))))))))))))))))))))))))))))))))))))

  area : m * m ≤ 66564
  area = square-small m to

  grid-written : AllWritten grid-pieces
  grid-written = (tt, (omega arith, (tt, (omega (arith, area), (tt, (omega arith, (omega (arith, area), (omega arith, (omega arith, (omega arith, (tt, (written-i, (tt, (omega arith, (tt, (omega arith, (tt, (tt, (written-j, (tt, (omega arith, (tt, (omega arith, (tt, (tt, (omega arith, (tt, (written-i, (tt, (written-j, (tt, (tt, (tt, (tt, (omega arith, (tt, (written-i, (tt, (written-j, (tt, (omega arith, (tt, (tt, (tt, (omega arith, (tt, (written-i, (tt, (written-j, (tt, (omega arith, (tt, (tt, (tt, (omega arith, (tt, (written-i, (tt, (written-j, (tt, (tt, (tt, (omega arith, (tt, (written-i, (tt, (written-j, (tt, (omega arith, (tt, (tt, (tt, (omega arith, (tt, (written-i, (tt, (written-j, (tt, (omega arith, (tt, (tt, (tt, (omega arith, (tt, (tt, (tt, (tt, (written-tile, (omega arith, (omega arith, (tt, (written-tile, (omega arith, (omega arith, (tt, tt)))))))))))))))))))))))))))))))))))))))))))))))))))))))))))))))))))))))))))))))))))))))))))))))

  grid-short : length (text_of grid-pieces) ≤ most_bytes
  unfolding piece_text token_text spelling name_text
  grid-short = let h = length-brief grid-pieces refl grid-written in omega (arith, h)

  grid-parsed : (at : ℕ → ℕ) (size : ℕ) → Parsed (sight at size (words grid-pieces))
  unfolding spelling keyword_of is_mark here skip refused need obeys number_where minus signed_where more many end place_of fresh target start_of product_of addition_of comparison_of taken closed access unary term sum expr expression opening_of statements block loop_keyword body_end loops word_spelling word_of_name command_word row_begins script_rows operands command script candidates
  grid-parsed at size =
      let memory-at : Sight = of_version One (beyond 2 (sight at size (words grid-pieces))) in
      record {
        scalars = [];
        memory-at = memory-at;
        words = m * m;
        items = Ramp 0 (m * m) 1 (pos v) (pos 1) ∷ [];
        loops-at = beyond 6 (beyond 2 memory-at);
        version = grammar.one refl refl;
        has-scalars = grammar.none;
        memory = refl;
        number = refl;
        few = omega (arith, area);
        has-items = grammar.more grammar.none (grammar.ramp refl refl refl refl refl refl one-is-not-zero (grammar.unsigned refl) (grammar.unsigned refl) (ramp-in (m * m) 0 (m * m) 1 v 1 (λ k lt. omega (arith, lt)) (omega (arith, area))));
        loops = refl;
      }

  pub grid-reads : (file : File) × (reading (grid_of m v) ≡ Ok file)
  grid-reads = subst (λ (text : List ℕ). (file : File) × (reading text ≡ Ok file)) (sym grid-is) (text-read grid-pieces grid-laid grid-written grid-short grid-parsed)
