-- An instance over a port that verifies its accesses by itself runs as one whose addresses are verified.
use Rattle.std.proofs.Common.{◌≡◌, refl, ap, ◌∙◌, sym, ℤ, List}
use Rattle.nest_lang.specs.declared.tree.Access.{Access}
use Rattle.nest_lang.specs.declared.tree.AccessKind.{AccessKind}
use Rattle.nest_lang.specs.declared.tree.AccessKind.TheVariants as kind
use Rattle.nest_lang.specs.declared.tree.Head.{Head}
use Rattle.nest_lang.specs.declared.tree.Stmt.{Stmt}
use Rattle.nest_lang.specs.Accesses.{block_accesses, head_accesses}
use Rattle.nest_lang.specs.Heads.{head_of}
use Rattle.nest_lang.specs.Lookups.{Expectation}
use Rattle.nest_lang.specs.Statements.{instance_trace}
use Rattle.nest_lang.specs.Stores.{Store}
use Rattle.nest_lang.specs.Traces.{Occurrence}
use Rattle.plain_lemmas.specs.Lists.{Has}
use Rattle.follow.specs.Intervals.{Intervals, verified_by}
use Rattle.follow.specs.Plans.{frame_with}
use Rattle.follow.specs.Verifies.{expected_by, VerifiesOwn}
use Rattle.follow.proofs.AccessingLaws.{SameBy, Same, instance-same, head-same}

module _ (at : Occurrence) (values : List ℤ) (x : Expectation) (intervals : Intervals) where
  same : (accesses : List Access) → (own : VerifiesOwn x intervals accesses) → Same at values x (verified_by intervals) own.verifies accesses
  same accesses own = λ a has. each a a.kind refl has
    where
      each : (a : Access) (k : AccessKind) → a.kind ≡ k → Has accesses a → SameBy at values x (verified_by intervals) own.verifies k a.number
      each a kind.Load e has = sym (ap (λ (q : AccessKind). expected_by q x a.number) e) ∙ own.each a has
      each a kind.Store e has = sym (ap (λ (q : AccessKind). expected_by q x a.number) e) ∙ own.each a has

  pub verified-block : (block : List Stmt) (s : Store) → VerifiesOwn x intervals (block_accesses block)
      → instance_trace (frame_with at values x) block s ≡ instance_trace (frame_with at values (verified_by intervals)) block s
  verified-block block s own = instance-same at values x (verified_by intervals) own.verifies block s (same (block_accesses block) own)

  pub verified-head : (head : Head) (s : Store) → VerifiesOwn x intervals (head_accesses head)
      → head_of (frame_with at values x) head s ≡ head_of (frame_with at values (verified_by intervals)) head s
  verified-head head s own = head-same at values x (verified_by intervals) own.verifies head s (same (head_accesses head) own)
