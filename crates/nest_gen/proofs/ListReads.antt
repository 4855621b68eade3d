-- The text of a linked list is read.
use Rattle.std.proofs.Common.{◌≡◌, ◌∙◌, ap, sym, subst, refl, ℕ, suc, ◌+◌, ◌*◌, ◌-◌, ◌<◌, ◌≤◌, pos, true, List, [], ◌∷◌, ◌++◌, length, codes, Ok, arith}
use Rattle.std.specs.Fmt.{decimal}
use Rattle.std.specs.List.{list_all, flat_map}
use Rattle.std.proofs.lemmas.Fmt.{decimal_digit}
use Rattle.nest_tokens.specs.declared.token.Mark.TheVariants as mark
use Rattle.nest_tokens.specs.Tokens.{spelling, keyword_of, is_mark}
use Rattle.nest_tokens.specs.Spellings.{name_text}
use Rattle.nest_grammar.specs.declared.file.File.{File}
use Rattle.nest_grammar.specs.declared.file.Item.{Item}
use Rattle.nest_grammar.specs.declared.file.Item.TheVariants.{Ramp}
use Rattle.nest_grammar.specs.declared.version.Version.TheVariants.{One}
use Rattle.nest_grammar.specs.Limits.{most_bytes}
use Rattle.nest_grammar.specs.Sights.{Sight, here, skip, beyond, of_version}
use Rattle.nest_grammar.specs.Readings.{refused, need, obeys, number_where, minus, signed_where, more, many, end}
use Rattle.nest_grammar.specs.Names.{place_of, fresh, target}
use Rattle.nest_grammar.specs.Expressions.{start_of, product_of, addition_of, comparison_of, taken, closed, access, unary, term, sum, expr, expression}
use Rattle.nest_grammar.specs.Statements.{opening_of, statements, block}
use Rattle.nest_grammar.specs.Loops.{loop_keyword, body_end, loops}
use Rattle.nest_grammar.specs.Scripts.{word_spelling, word_of_name, command_word, row_begins, rows, operands, command, script, candidates}
use Rattle.nest_grammar.specs.Contents.{reading}
use Rattle.nest_grammar.specs.Grammar.{IsItems}
use Rattle.nest_grammar.specs.Grammar as grammar
use Rattle.canonical.specs.Pieces.{Piece, Space, plain, number, piece_text, token_text, text_of}
use Rattle.canonical.specs.Layout.{words, AllWritten}
use Rattle.canonical.proofs.LayoutPieceLaws.{Laid, Free, is_sign, with_equals}
use Rattle.nest_gen.proofs.NameLaws.{named_p, written-p}
use Rattle.nest_gen.proofs.TextReads.{Parsed, sight, text-read, length-brief}
use Rattle.nest_gen.specs.Texts.{shortcut, list_of}
use Rattle.nest_tokens.specs.Lexing.{name_of}
use Rattle.nest_gen.specs.Texts.{chain}
use Rattle.canonical.proofs.PieceLaws.{text-append}
use Rattle.nest_gen.proofs.TextReads.{is_brief}
use Rattle.nest_gen.proofs.ItemLaws.{ramp-in, two-is-not-zero}

-- each of these numbers is below n - 1
abbrev pub Below : ℕ → List ℕ → Type 0
Below n [] = Unit {0}
Below n (j ∷ js) = (j + 1 < n) × Below n js

module _ (n : ℕ) (from : 2 ≤ n) (to : n ≤ 16384) where
  abbrev shortcut-pieces : ℕ → List Piece
  shortcut-pieces j = plain mark.Data ∷ Space ∷ number (2 * j) ∷ plain mark.Colon ∷ Space ∷ number (2 * n + 2 + 2 * j) ∷ Space ∷ plain mark.Data ∷ Space ∷ number (2 * n + 2 + 2 * j) ∷ plain mark.Colon ∷ Space ∷ number (4 + 2 * j) ∷ Space ∷ []

  shortcut-is : (j : ℕ) → shortcut n j ≡ text_of (shortcut-pieces j)
  unfolding text_of piece_text token_text spelling name_text
  shortcut-is j = refl

  shortcuts-are : (nodes : List ℕ) → flat_map (shortcut n) nodes ≡ text_of (flat_map shortcut-pieces nodes)
  unfolding text_of
  shortcuts-are [] = refl
  shortcuts-are (j ∷ js) = ap (λ t. t ++ flat_map (shortcut n) js) (shortcut-is j) ∙ ap (λ t. text_of (shortcut-pieces j) ++ t) (shortcuts-are js) ∙ sym (text-append (shortcut-pieces j) (flat_map shortcut-pieces js))

  abbrev head_pieces : List Piece
  head_pieces = plain mark.Nest ∷ Space ∷ number 1 ∷ Space ∷ plain mark.Scalar ∷ Space ∷ named_p ∷ Space ∷ plain mark.Assign ∷ Space ∷ number 2 ∷ Space ∷ plain mark.Memory ∷ Space ∷ number (4 * n) ∷ Space ∷ plain mark.Ramp ∷ Space ∷ number 2 ∷ Space ∷ number (n - 1) ∷ Space ∷ number 2 ∷ Space ∷ number 4 ∷ Space ∷ number 2 ∷ Space ∷ []

  abbrev tail_pieces : List Piece
  tail_pieces = plain mark.While ∷ Space ∷ plain mark.OpenBracket ∷ named_p ∷ plain mark.CloseBracket ∷ Space ∷ plain mark.OpenBrace ∷ Space ∷ plain mark.OpenBracket ∷ named_p ∷ Space ∷ plain mark.Plus ∷ Space ∷ number 1 ∷ plain mark.CloseBracket ∷ Space ∷ plain mark.Assign ∷ Space ∷ plain mark.OpenBracket ∷ named_p ∷ Space ∷ plain mark.Plus ∷ Space ∷ number 1 ∷ plain mark.CloseBracket ∷ Space ∷ plain mark.Plus ∷ Space ∷ number 1 ∷ Space ∷ named_p ∷ Space ∷ plain mark.Assign ∷ Space ∷ plain mark.OpenBracket ∷ named_p ∷ plain mark.CloseBracket ∷ Space ∷ plain mark.CloseBrace ∷ []

  -- the text, with the digits that stand in it in place of its short numbers
  abbrev head_by : List ℕ → List ℕ → List ℕ → List ℕ
  head_by d1 d2 d4 = codes "nest " ++ (d1 ++ (codes " scalar p = " ++ (d2 ++ (codes " memory " ++ (decimal (4 * n) ++ (codes " ramp " ++ (d2 ++ (codes " " ++ (decimal (n - 1) ++ (codes " " ++ (d2 ++ (codes " " ++ (d4 ++ (codes " " ++ (d2 ++ (codes " "))))))))))))))))

  head-by : chain n ≡ head_by (codes "1") (codes "2") (codes "4")
  head-by = refl

  head-pieces : head_by (decimal 1) (decimal 2) (decimal 4) ≡ text_of head_pieces
  unfolding text_of piece_text token_text spelling name_text
  head-pieces = refl

  pub head-is : chain n ≡ text_of head_pieces
  head-is = head-by ∙ ap (λ d. head_by d (codes "2") (codes "4")) (sym (decimal_digit 1 (omega arith))) ∙ ap (λ d. head_by (decimal 1) d (codes "4")) (sym (decimal_digit 2 (omega arith))) ∙ ap (λ d. head_by (decimal 1) (decimal 2) d) (sym (decimal_digit 4 (omega arith))) ∙ head-pieces

  -- the text, with the digits that stand in it in place of its short numbers
  abbrev tail_by : List ℕ → List ℕ
  tail_by d1 = codes "while [p] { [p + " ++ (d1 ++ (codes "] = [p + " ++ (d1 ++ (codes "] + " ++ (d1 ++ (codes " p = [p] }"))))))

  tail-by : codes "while [p] { [p + 1] = [p + 1] + 1 p = [p] }" ≡ tail_by (codes "1")
  tail-by = refl

  tail-pieces : tail_by (decimal 1) ≡ text_of tail_pieces
  unfolding text_of piece_text token_text spelling name_text
  tail-pieces = refl

  pub tail-is : codes "while [p] { [p + 1] = [p + 1] + 1 p = [p] }" ≡ text_of tail_pieces
  tail-is = tail-by ∙ ap (λ d. tail_by d) (sym (decimal_digit 1 (omega arith))) ∙ tail-pieces

  abbrev list-pieces : List ℕ → List Piece
  list-pieces nodes = head_pieces ++ (flat_map shortcut-pieces nodes ++ tail_pieces)

  list-is : (nodes : List ℕ) → list_of n nodes ≡ text_of (list-pieces nodes)
  list-is nodes =
      let rest = flat_map shortcut-pieces nodes in
      ap (λ t. t ++ (flat_map (shortcut n) nodes ++ codes "while [p] { [p + 1] = [p + 1] + 1 p = [p] }")) head-is
      ∙ ap (λ t. text_of head_pieces ++ (t ++ codes "while [p] { [p + 1] = [p + 1] + 1 p = [p] }")) (shortcuts-are nodes)
      ∙ ap (λ t. text_of head_pieces ++ (text_of rest ++ t)) tail-is
      ∙ ap (λ t. text_of head_pieces ++ t) (sym (text-append rest tail_pieces))
      ∙ sym (text-append head_pieces (rest ++ tail_pieces))

  nodes-laid : (nodes : List ℕ) → Laid Free (flat_map shortcut-pieces nodes ++ tail_pieces)
  unfolding is_sign with_equals
  nodes-laid [] = (tt, (tt, (refl, (refl, (tt, (tt, (refl, (tt, (tt, (refl, (tt, (tt, (refl, (tt, (tt, (refl, (tt, (tt, (tt, (tt, (tt, (refl, (refl, (tt, tt))))))))))))))))))))))))
  nodes-laid (j ∷ js) = (tt, (tt, (refl, (tt, (tt, (tt, (refl, (tt, nodes-laid js))))))))

  list-laid : (nodes : List ℕ) → Laid Free (list-pieces nodes)
  unfolding is_sign with_equals
  list-laid nodes = (tt, (tt, (tt, (tt, (tt, (tt, (tt, (tt, (tt, (tt, (tt, (tt, (tt, (tt, nodes-laid nodes))))))))))))))

  nodes-written : (nodes : List ℕ) → Below n nodes → AllWritten (flat_map shortcut-pieces nodes ++ tail_pieces)
  nodes-written [] below = (tt, (tt, (written-p, (tt, (tt, (tt, (written-p, (tt, (omega arith, (tt, (tt, (tt, (written-p, (tt, (omega arith, (tt, (tt, (omega arith, (written-p, (tt, (tt, (written-p, (tt, (tt, tt))))))))))))))))))))))))
  nodes-written (j ∷ js) (h, below) = (tt, (omega (arith, h), (tt, (omega (arith, h), (tt, (omega (arith, h), (tt, (omega (arith, h), nodes-written js below))))))))

  list-written : (nodes : List ℕ) → Below n nodes → AllWritten (list-pieces nodes)
  list-written nodes below = (tt, (omega arith, (tt, (written-p, (tt, (omega arith, (tt, (omega arith, (tt, (omega arith, (omega arith, (omega arith, (omega arith, (omega arith, nodes-written nodes below))))))))))))))

  nodes-brief : (nodes : List ℕ) → list_all is_brief (flat_map shortcut-pieces nodes ++ tail_pieces) ≡ true
  unfolding piece_text token_text spelling name_text
  nodes-brief [] = refl
  nodes-brief (j ∷ js) = nodes-brief js

  list-brief : (nodes : List ℕ) → list_all is_brief (list-pieces nodes) ≡ true
  unfolding piece_text token_text spelling name_text
  list-brief nodes = nodes-brief nodes

  nodes-few : (nodes : List ℕ) → length (flat_map shortcut-pieces nodes ++ tail_pieces) ≤ 20 * length nodes + 40
  nodes-few [] = omega arith
  nodes-few (j ∷ js) = let h = nodes-few js in omega (arith, h)

  list-short : (nodes : List ℕ) → Below n nodes → length nodes ≤ 4 → length (text_of (list-pieces nodes)) ≤ most_bytes
  list-short nodes below few = let h = length-brief (list-pieces nodes) (list-brief nodes) (list-written nodes below) in let f = nodes-few nodes in omega (arith, h, f, few)

  data-items : (nodes : List ℕ) → Below n nodes → (at : ℕ → ℕ) (size : ℕ) (s : Sight) (is : List Item) → IsItems (4 * n) s is (sight at size (words (flat_map shortcut-pieces nodes ++ tail_pieces)))
      → (all : List Item) × (later : ℕ → ℕ) × IsItems (4 * n) s all (sight later size (words tail_pieces))
  unfolding here skip
  data-items [] below at size s is h = (is, at, h)
  data-items (j ∷ js) (lt, below) at size s is h =
      data-items js below (λ k. at (suc (suc (suc (suc (suc (suc (suc (suc k))))))))) size s _
      (grammar.more (grammar.more h (grammar.data_ {first = 2 * j} {vs = pos (2 * n + 2 + 2 * j) ∷ []} refl refl refl refl (grammar.one (omega (arith, lt)) (grammar.unsigned refl)))) (grammar.data_ {first = 2 * n + 2 + 2 * j} {vs = pos (4 + 2 * j) ∷ []} refl refl refl refl (grammar.one (omega (arith, lt)) (grammar.unsigned refl))))

  module _ (nodes : List ℕ) (below : Below n nodes) (at : ℕ → ℕ) (size : ℕ) where
    abbrev memory-from : Sight
    memory-from = beyond 4 (of_version One (beyond 2 (sight at size (words (list-pieces nodes)))))

    ramp-items : IsItems (4 * n) (beyond 2 memory-from) (Ramp 2 (n - 1) 2 (pos 4) (pos 2) ∷ []) (beyond 8 memory-from)
    unfolding here skip
    ramp-items = grammar.more grammar.none (grammar.ramp refl refl refl refl refl refl two-is-not-zero (grammar.unsigned refl) (grammar.unsigned refl) (ramp-in (4 * n) 2 (n - 1) 2 4 2 (λ k lt. omega (arith, lt)) (omega arith)))

    all-items : (all : List Item) × (later : ℕ → ℕ) × IsItems (4 * n) (beyond 2 memory-from) all (sight later size (words tail_pieces))
    unfolding skip
    all-items = data-items nodes below (λ k. at (suc (suc (suc (suc (suc (suc (suc (suc (suc (suc (suc (suc (suc (suc (k)))))))))))))))) size (beyond 2 memory-from) (Ramp 2 (n - 1) 2 (pos 4) (pos 2) ∷ []) ramp-items

    list-parsed : Parsed (sight at size (words (list-pieces nodes)))
    unfolding spelling keyword_of is_mark here skip refused need obeys number_where minus signed_where more many end place_of fresh target start_of product_of addition_of comparison_of taken closed access unary term sum expr expression opening_of statements block loop_keyword body_end loops word_spelling word_of_name command_word row_begins rows operands command script candidates
    list-parsed = record {
      scalars = record { name = name_of (codes "p"); value = pos 2 } ∷ [];
      memory-at = memory-from;
      words = 4 * n;
      items = all-items.0;
      loops-at = sight all-items.1 size (words tail_pieces);
      version = grammar.one refl refl;
      has-scalars = grammar.more grammar.none refl (omega arith) refl refl refl (grammar.unsigned refl);
      memory = refl;
      number = refl;
      few = omega arith;
      has-items = all-items.2;
      loops = refl;
    }

  pub list-reads : (nodes : List ℕ) → Below n nodes → length nodes ≤ 4 → (file : File) × (reading (list_of n nodes) ≡ Ok file)
  list-reads nodes below few = subst (λ (text : List ℕ). (file : File) × (reading text ≡ Ok file)) (sym (list-is nodes)) (text-read (list-pieces nodes) (list-laid nodes) (list-written nodes below) (list-short nodes below few) (list-parsed nodes below))
