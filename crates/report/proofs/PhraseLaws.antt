-- Words in a row, and texts that grow by one piece after another.
use Rattle.std.proofs.Common.{◌≡◌, ℕ, suc, ◌+◌, ◌<◌, ℤ, List, [], ◌∷◌, ◌++◌, length, get_or, map, take, arith, refl, sym, ap, ◌∙◌, flat_map, append_assoc}
use Rattle.std.specs.List.{join_with_byte}
use Rattle.std.specs.Fmt.{signed_decimal}
use Rattle.std.proofs.Math.Seq.{take-suc}
use Rattle.std.proofs.lemmas.List.{append-nil}
use Rattle.std.proofs.lemmas.List.Folds.{flat_map-map}
use Rattle.std.proofs.lemmas.Grind.{flat_map-append}
use Rattle.report.specs.Words.{next_word, phrase}

-- what is joined is the first word, and then each other behind the byte
pub joined-first : (byte : ℕ) (word : List ℕ) (words : List (List ℕ)) → join_with_byte byte (word ∷ words) ≡ word ++ flat_map (λ w. byte ∷ w) words
joined-first byte word [] = sym (append-nil word)
joined-first byte word (next ∷ words) = ap (λ (rest : List ℕ). word ++ byte ∷ rest) (joined-first byte next words)

-- numbers with a comma between each two, from the first of them and the others
pub joined-numbers : (numbers rest : List ℤ) (first : ℤ) (old text new : List ℕ) → numbers ≡ first ∷ rest → text ≡ old ++ signed_decimal first → new ≡ text ++ flat_map (λ n. 44 ∷ signed_decimal n) rest → new ≡ old ++ join_with_byte 44 (map signed_decimal numbers)
joined-numbers numbers rest first old text new split begun so =
    let whole : join_with_byte 44 (map signed_decimal numbers) ≡ signed_decimal first ++ flat_map (λ n. 44 ∷ signed_decimal n) rest =
    ap (λ (ns : List ℤ). join_with_byte 44 (map signed_decimal ns)) split
    ∙ joined-first 44 (signed_decimal first) (map signed_decimal rest)
    ∙ ap (λ (l : List ℕ). signed_decimal first ++ l) (flat_map-map (λ (w : List ℕ). 44 ∷ w) signed_decimal rest) in
    so
    ∙ ap (λ (l : List ℕ). l ++ flat_map (λ n. 44 ∷ signed_decimal n) rest) begun
    ∙ append_assoc old (signed_decimal first) (flat_map (λ n. 44 ∷ signed_decimal n) rest)
    ∙ ap (λ (l : List ℕ). old ++ l) (sym whole)

-- a phrase of three words and more
pub phrase-three : (one two three : List ℕ) (words : List (List ℕ)) → phrase (one ∷ two ∷ three ∷ words) ≡ one ++ 32 ∷ (two ++ 32 ∷ (three ++ flat_map next_word words))
phrase-three one two three words = ap (λ (l : List ℕ). one ++ 32 ∷ (two ++ 32 ∷ l)) (joined-first 32 three words)

-- the words of numbers, of a last one and of others
pub number-words : (numbers : List ℤ) (last : ℤ) (others : List (List ℕ)) → flat_map next_word (map signed_decimal (numbers ++ last ∷ []) ++ others) ≡ flat_map (λ n. 32 ∷ signed_decimal n) numbers ++ ((32 ∷ signed_decimal last) ++ flat_map next_word others)
number-words [] last others = refl
number-words (n ∷ ns) last others =
    ap (λ (l : List ℕ). (32 ∷ signed_decimal n) ++ l) (number-words ns last others)
    ∙ sym (append_assoc (32 ∷ signed_decimal n) (flat_map (λ m. 32 ∷ signed_decimal m) ns) ((32 ∷ signed_decimal last) ++ flat_map next_word others))

-- a text that grew twice
grown : (old x text y new : List ℕ) → text ≡ old ++ x → new ≡ text ++ y → new ≡ old ++ (x ++ y)
grown old x text y new begun so = so ∙ ap (λ (l : List ℕ). l ++ y) begun ∙ append_assoc old x y

-- the numbers of a form, and what stands behind them
pub form-words : (numbers : List ℤ) (last : ℤ) (others : List (List ℕ)) (old one two new : List ℕ) → one ≡ old ++ flat_map (λ n. 32 ∷ signed_decimal n) numbers → two ≡ one ++ (32 ∷ signed_decimal last) → new ≡ two ++ flat_map next_word others → new ≡ old ++ flat_map next_word (map signed_decimal (numbers ++ last ∷ []) ++ others)
form-words numbers last others old one two new is_one is_two is_new =
    let spaced : List ℕ = flat_map (λ n. 32 ∷ signed_decimal n) numbers in
    let number : List ℕ = 32 ∷ signed_decimal last in
    let more : List ℕ = flat_map next_word others in
    grown old (spaced ++ number) two more new (grown old spaced one number two is_one is_two) is_new
    ∙ ap (λ (l : List ℕ). old ++ l) (append_assoc spaced number more ∙ sym (number-words numbers last others))

-- the line of a form
pub form-phrase : (word block datum : List ℕ) (words : List (List ℕ)) (old one two three four new : List ℕ) → one ≡ old ++ (word ++ 32 ∷ []) → two ≡ one ++ block → three ≡ two ++ 32 ∷ [] → four ≡ three ++ datum → new ≡ four ++ flat_map next_word words → new ≡ old ++ phrase (word ∷ block ∷ datum ∷ words)
form-phrase word block datum words old one two three four new is_one is_two is_three is_four is_new =
    let space : List ℕ = 32 ∷ [] in
    let more : List ℕ = flat_map next_word words in
    grown old ((((word ++ space) ++ block) ++ space) ++ datum) four more new
    (grown old (((word ++ space) ++ block) ++ space) three datum four
    (grown old ((word ++ space) ++ block) two space three
    (grown old (word ++ space) one block two is_one is_two) is_three) is_four) is_new
    ∙ ap (λ (l : List ℕ). old ++ l)
    (append_assoc (((word ++ space) ++ block) ++ space) datum more
    ∙ append_assoc ((word ++ space) ++ block) space (datum ++ more)
    ∙ append_assoc (word ++ space) block (space ++ (datum ++ more))
    ∙ append_assoc word space (block ++ (space ++ (datum ++ more)))
    ∙ sym (phrase-three word block datum words))

-- the line of a committed chunk
pub commit-text : (word turns label number counts old one two new : List ℕ) → one ≡ old ++ (word ++ 32 ∷ turns) → two ≡ one ++ (32 ∷ (label ++ 32 ∷ (number ++ 32 ∷ []))) → new ≡ two ++ counts → new ≡ old ++ phrase (word ∷ turns ∷ label ∷ number ∷ counts ∷ [])
commit-text word turns label number counts old one two new is_one is_two is_new =
    let said : List ℕ = word ++ 32 ∷ turns in
    let labelled : List ℕ = 32 ∷ (label ++ 32 ∷ (number ++ 32 ∷ [])) in
    grown old (said ++ labelled) two counts new (grown old said one labelled two is_one is_two) is_new
    ∙ ap (λ (l : List ℕ). old ++ l)
    (append_assoc said labelled counts
    ∙ append_assoc word (32 ∷ turns) (labelled ++ counts)
    ∙ ap (λ (l : List ℕ). word ++ 32 ∷ (turns ++ 32 ∷ l))
    (append_assoc label (32 ∷ (number ++ 32 ∷ [])) counts ∙ ap (λ (l : List ℕ). label ++ 32 ∷ l) (append_assoc number (32 ∷ []) counts)))

-- a text that has the pieces of the first elements gains the piece of the next
pub text-at : {X : Type 0} (f : X → List ℕ) (xs : List X) (i : ℕ) (d : X) (start text new : List ℕ) → i < length xs → text ≡ start ++ flat_map f (take i xs) → new ≡ text ++ f (get_or xs i d) → new ≡ start ++ flat_map f (take (i + 1) xs)
text-at f xs i d start text new below so next =
    let more : i + 1 ≡ suc i = omega arith in
    let whole : flat_map f (take (i + 1) xs) ≡ flat_map f (take i xs) ++ f (get_or xs i d) =
    ap (λ (n : ℕ). flat_map f (take n xs)) more
    ∙ ap (flat_map f) (take-suc xs i d below)
    ∙ flat_map-append f (take i xs) (get_or xs i d ∷ [])
    ∙ ap (λ (l : List ℕ). flat_map f (take i xs) ++ l) (append-nil (f (get_or xs i d))) in
    next
    ∙ ap (λ (l : List ℕ). l ++ f (get_or xs i d)) so
    ∙ append_assoc start (flat_map f (take i xs)) (f (get_or xs i d))
    ∙ ap (λ (l : List ℕ). start ++ l) (sym whole)
