-- The premises of the law on journeys can be met.
use Rattle.std.proofs.Common.{◌≡◌, refl, sym, subst, ℕ, ◌≤◌, ℤ, pos, [], ◌∷◌, ◌++◌, rules, arith}
use Rattle.std.specs.List.{All}
use Rattle.std.proofs.lemmas.Int.{ints}
use Rattle.std.proofs.lemmas.List.Elements.{All-cons, All-nil, All-replicate}
use Rattle.nest_lang.specs.declared.tree.Expr.{Expr}
use Rattle.nest_lang.specs.declared.tree.Expr as expr
use Rattle.nest_lang.specs.declared.tree.Expr.TheVariants.{Number, Var}
use Rattle.nest_lang.specs.declared.tree.Head.TheVariants.{For}
use Rattle.nest_lang.specs.declared.tree.Place.{Place}
use Rattle.nest_lang.specs.declared.tree.Place.TheVariants.{Counter}
use Rattle.nest_lang.specs.declared.tree.Stmt as stmt
use Rattle.nest_lang.specs.declared.tree.Stmt.TheVariants.{Store}
use Rattle.nest_lang.specs.Rules.{NestKeeps}
use Rattle.nest_grammar.specs.declared.file.NestUnit.{NestUnit}
use Rattle.nest_grammar.specs.Files.{first_memory}
use Rattle.profile.specs.Reach.{HasI64s, block_numbers, expression_numbers, head_numbers, statement_numbers}
use Rattle.profile.proofs.NumberLaws.{I64, pos-fits}
use Rattle.follow_chunk.specs.Laws.{one_row}
use Rattle.follow_chunk.proofs.PremiseLaws.{premises-can-hold}
use Rattle.journeys.specs.Examples.{PremisesCanHold}

number-numbers : (n : ℤ) → expression_numbers (Number n) ≡ n ∷ []
unfolding expression_numbers
number-numbers n = search (rules, expr.the_lemmas)

var-numbers : (p : Place) → expression_numbers (Var p) ≡ []
unfolding expression_numbers
var-numbers p = search (rules, expr.the_lemmas)

store-numbers : (access : ℕ) (a e : Expr) → statement_numbers (Store access a e) ≡ expression_numbers a ++ expression_numbers e
unfolding statement_numbers
store-numbers access a e = search (rules, stmt.the_lemmas)

small : (n : ℕ) → n ≤ 40 → I64 (pos n)
small n h = pos-fits n (omega (arith, h))

head-is : head_numbers (For (Number (pos 0)) (Number (pos 40)) (pos 1)) ≡ pos 0 ∷ pos 40 ∷ pos 1 ∷ []
head-is = rw (number-numbers (pos 0), number-numbers (pos 40)) refl

pre-is : block_numbers (Store 1 (Var (Counter 0)) (Number (pos 1)) ∷ []) ≡ pos 1 ∷ []
unfolding block_numbers
pre-is = rw (store-numbers 1 (Var (Counter 0)) (Number (pos 1)), var-numbers (Counter 0), number-numbers (pos 1)) refl

post-is : block_numbers [] ≡ []
unfolding block_numbers
post-is = refl

row-numbers : All HasI64s one_row
row-numbers = All-cons HasI64s _ [] (record {
  head = subst (All I64) (sym head-is) (All-cons I64 (pos 0) (pos 40 ∷ pos 1 ∷ []) (small 0 (omega arith)) (All-cons I64 (pos 40) (pos 1 ∷ []) (small 40 (omega arith)) (All-cons I64 (pos 1) [] (small 1 (omega arith)) (All-nil I64))));
  pre = subst (All I64) (sym pre-is) (All-cons I64 (pos 1) [] (small 1 (omega arith)) (All-nil I64));
  post = subst (All I64) (sym post-is) (All-nil I64);
}) (All-nil HasI64s)

pub premises-can-meet : PremisesCanHold
unfolding first_memory
premises-can-meet = record {
  keeps = record {
    few_scalars = omega arith;
    spelled = All-nil _;
    few_words = omega arith;
    items_fit = All-nil _;
    some_nest = omega arith;
    few_nests = omega arith;
    nests_keep = All-cons (λ (u : NestUnit). NestKeeps 0 u.nest.loops) _ [] premises-can-hold.keeps (All-nil _);
  };
  numbers = All-cons (λ (u : NestUnit). All HasI64s u.nest.loops) _ [] row-numbers (All-nil _);
  store = record { memory = All-replicate I64 40 (pos 0) (small 0 (omega arith)); scalars = All-nil I64; locals = All-nil I64 };
  sample = omega (arith, ints);
  chunk = omega (arith, ints);
  steps = omega arith;
}
