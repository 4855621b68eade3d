-- The text of a copy is read.
use Rattle.std.proofs.Common.{◌≡◌, ◌∙◌, ap, sym, subst, refl, ℕ, ◌*◌, ◌<◌, ◌≤◌, List, [], ◌∷◌, ◌++◌, length, codes, Ok, arith}
use Rattle.std.specs.Fmt.{decimal}
use Rattle.std.proofs.lemmas.Fmt.{decimal_digit}
use Rattle.nest_tokens.specs.declared.token.Mark.TheVariants as mark
use Rattle.nest_tokens.specs.Tokens.{spelling, keyword_of, is_mark}
use Rattle.nest_tokens.specs.Spellings.{name_text}
use Rattle.nest_grammar.specs.declared.file.File.{File}
use Rattle.nest_grammar.specs.declared.version.Version.TheVariants.{One}
use Rattle.nest_grammar.specs.Limits.{most_bytes}
use Rattle.nest_grammar.specs.Sights.{here, skip, beyond, of_version}
use Rattle.nest_grammar.specs.Readings.{refused, need, obeys, number_where, minus, signed_where, more, many, end}
use Rattle.nest_grammar.specs.Names.{place_of, fresh, target}
use Rattle.nest_grammar.specs.Expressions.{start_of, product_of, addition_of, comparison_of, taken, closed, access, unary, term, sum, expr, expression}
use Rattle.nest_grammar.specs.Statements.{opening_of, statements, block}
use Rattle.nest_grammar.specs.Loops.{loop_keyword, body_end, loops}
use Rattle.nest_grammar.specs.Scripts.{word_spelling, word_of_name, command_word, row_begins, rows, operands, command, script, candidates}
use Rattle.nest_grammar.specs.Contents.{reading}
use Rattle.nest_grammar.specs.Grammar as grammar
use Rattle.canonical.specs.Pieces.{Piece, Space, plain, number, piece_text, token_text, text_of}
use Rattle.canonical.specs.Layout.{words, AllWritten}
use Rattle.canonical.proofs.LayoutPieceLaws.{Laid, Free, is_sign, with_equals}
use Rattle.nest_gen.proofs.NameLaws.{named_i, written-i}
use Rattle.nest_gen.proofs.TextReads.{Parsed, sight, text-read, length-brief}
use Rattle.nest_gen.specs.Texts.{copy_of}

module _ (n k : ℕ) (many_words : n ≤ 16384) (small : k < 100) where
  abbrev copy_pieces : List Piece
  copy_pieces = plain mark.Nest ∷ Space ∷ number 1 ∷ Space ∷ plain mark.Memory ∷ Space ∷ number (2 * n) ∷ Space ∷ plain mark.For ∷ Space ∷ named_i ∷ Space ∷ plain mark.Assign ∷ Space ∷ number 0 ∷ Space ∷ plain mark.Below ∷ Space ∷ number n ∷ Space ∷ plain mark.OpenBrace ∷ Space ∷ plain mark.OpenBracket ∷ number n ∷ Space ∷ plain mark.Plus ∷ Space ∷ named_i ∷ plain mark.CloseBracket ∷ Space ∷ plain mark.Assign ∷ Space ∷ plain mark.OpenBracket ∷ named_i ∷ plain mark.CloseBracket ∷ Space ∷ plain mark.Plus ∷ Space ∷ number k ∷ Space ∷ plain mark.CloseBrace ∷ []

  -- the text, with the digits that stand in it in place of its short numbers
  abbrev copy_by : List ℕ → List ℕ → List ℕ
  copy_by d0 d1 = codes "nest " ++ (d1 ++ (codes " memory " ++ (decimal (2 * n) ++ (codes " for i = " ++ (d0 ++ (codes " below " ++ (decimal (n) ++ (codes " { [" ++ (decimal (n) ++ (codes " + i] = [i] + " ++ (decimal (k) ++ (codes " }"))))))))))))

  copy-by : copy_of n k ≡ copy_by (codes "0") (codes "1")
  copy-by = refl

  copy-pieces : copy_by (decimal 0) (decimal 1) ≡ text_of copy_pieces
  unfolding text_of piece_text token_text spelling name_text
  copy-pieces = refl

  pub copy-is : copy_of n k ≡ text_of copy_pieces
  copy-is = copy-by ∙ ap (λ d. copy_by d (codes "1")) (sym (decimal_digit 0 (omega arith))) ∙ ap (λ d. copy_by (decimal 0) d) (sym (decimal_digit 1 (omega arith))) ∙ copy-pieces

  copy-laid : Laid Free copy_pieces
  unfolding is_sign with_equals
  copy-laid = (tt, (tt, (tt, (tt, (tt, (tt, (tt, (tt, (tt, (tt, (tt, (tt, (refl, (tt, (tt, (refl, (tt, (tt, (refl, (refl, (tt, (tt, (tt, tt)))))))))))))))))))))))

  copy-written : AllWritten copy_pieces
  copy-written = (tt, (omega arith, (tt, (omega arith, (tt, (written-i, (tt, (omega arith, (tt, (omega arith, (tt, (tt, (omega arith, (tt, (written-i, (tt, (tt, (tt, (written-i, (tt, (tt, (omega arith, (tt, tt)))))))))))))))))))))))

  copy-short : length (text_of copy_pieces) ≤ most_bytes
  unfolding piece_text token_text spelling name_text
  copy-short = let h = length-brief copy_pieces refl copy-written in omega (arith, h)

  copy-parsed : (at : ℕ → ℕ) (size : ℕ) → Parsed (sight at size (words copy_pieces))
  unfolding spelling keyword_of is_mark here skip refused need obeys number_where minus signed_where more many end place_of fresh target start_of product_of addition_of comparison_of taken closed access unary term sum expr expression opening_of statements block loop_keyword body_end loops word_spelling word_of_name command_word row_begins rows operands command script candidates
  copy-parsed at size = record {
    scalars = [];
    memory-at = of_version One (beyond 2 (sight at size (words copy_pieces)));
    words = 2 * n;
    items = [];
    loops-at = beyond 2 (of_version One (beyond 2 (sight at size (words copy_pieces))));
    version = grammar.one refl refl;
    has-scalars = grammar.none;
    memory = refl;
    number = refl;
    few = omega arith;
    has-items = grammar.none;
    loops = refl;
  }

  pub copy-reads : (file : File) × (reading (copy_of n k) ≡ Ok file)
  copy-reads = subst (λ (text : List ℕ). (file : File) × (reading text ≡ Ok file)) (sym copy-is) (text-read copy_pieces copy-laid copy-written copy-short copy-parsed)
