-- Parts: what was read part after part keeps what each part keeps.
use Rattle.std.proofs.Common.{◌≡◌, ℕ, zero, suc, length, refl, ◌∙◌, Option, Some, None, Ok}
use Rattle.nest_tokens.specs.declared.token.Token.{Token}
use Rattle.nest_grammar.specs.Sights.{Sight, stands}
use Rattle.nest_grammar.specs.Readings.{Reading, many, more, more_at}
use Rattle.nest_grammar.proofs.PartAfterPartLaws.{Parts, many-next}
use Rattle.nest_grammar.proofs.ReadingLaws.{given}
use Rattle.nest_grammar.proofs.PartAfterPartLaws.{bind-ok}

more-sound : {A B : Type 0} (P : A → Sight → Type 0) (begins : Token → Option B) (part : B → A → Reading A) → ((a : A) (t : Sight) (b : B) (x : A × Sight) → P a t → begins (stands t) ≡ Some b → part b a t ≡ Ok x → P x.0 x.1) → (n : ℕ) (a : A) (t : Sight) (x : A × Sight) → P a t → more n begins part a t ≡ Ok x → P x.0 x.1
unfolding more
more-sound P begins part step zero a t x i h = let e : x ≡ (a, t) = given a t x h in rw e i
more-sound P begins part step (suc n) a t x i h =
    elim (begins (stands t)) as (λ o. begins (stands t) ≡ o → more_at part (more n begins part) a o t ≡ Ok x → P x.0 x.1) [
      | None ↦ λ e k. (let q : x ≡ (a, t) = given a t x k in rw q i)
      | Some b ↦ λ e k. (let f = bind-ok (part b a t) (more n begins part) x k in
          more-sound P begins part step n f.0.0 f.0.1 x (step a t b f.0 i e f.1) f.2)
    ] refl h

-- what each part keeps is so behind the last
pub many-sound : {A B : Type 0} (P : A → Sight → Type 0) (begins : Token → Option B) (part : B → A → Reading A) → ((a : A) (t : Sight) (b : B) (x : A × Sight) → P a t → begins (stands t) ≡ Some b → part b a t ≡ Ok x → P x.0 x.1) → (a : A) (t : Sight) (x : A × Sight) → P a t → many begins part a t ≡ Ok x → P x.0 x.1
unfolding many
many-sound P begins part step a t x i h = more-sound P begins part step (length t.left) a t x i h

-- a part that stands here
pub many-reads : {A B : Type 0} (begins : Token → Option B) (part : B → A → Reading A) (a c : A) (s t : Sight) (b : B) → Parts begins part → begins (stands s) ≡ Some b → part b a s ≡ Ok (c, t) → many begins part a s ≡ many begins part c t
many-reads begins part a c s t b p e h = many-next begins part a s b p e ∙ (rw h refl)
