-- The premises can be met.
use Rattle.std.proofs.Common.{◌≡◌, refl, sym, ap, subst, ℕ, zero, suc, ◌<◌, ◌≤◌, pos, [], ◌∷◌, map, slice_get, Some, true, lit≤, arith}
use Rattle.std.specs.Prelude.{◌^◌}
use Rattle.std.proofs.lemmas.Int.{ints}
use Rattle.nest_lang.specs.declared.tree.Access.{Access as NestAccess}
use Rattle.nest_lang.specs.declared.tree.BlockRef.{BlockRef}
use Rattle.nest_lang.specs.declared.tree.Expr.TheVariants.{Number}
use Rattle.nest_lang.specs.declared.tree.Part.TheVariants.{Pre}
use Rattle.nest_lang.specs.declared.tree.Stmt.TheVariants.{Set}
use Rattle.nest_lang.specs.Accesses.{block_accesses}
use Rattle.nest_lang.specs.Blocks.{present_blocks, block_ref}
use Rattle.nest_lang.specs.Rules.{loops_keep}
use Rattle.nest_lang.proofs.AccessLaws.{expression_accesses-number, statement_accesses-set, block_accesses-cons, block_accesses-nil}
use Rattle.domain.specs.Tables.{IsTable, IsBlock, block_at, level_at, Reaches, stride_size}
use Rattle.domain.specs.Shapes.{IsTableOf, IsBlockOf, is_store}
use Rattle.compare.specs.Premises.{nest, expected, PremisesCanHold}

shape : IsTable 1 expected
shape = record {
  deep = refl;
  some = lit≤ tt;
  few = lit≤ tt;
  short = lit≤ tt;
  blocks = blocks;
  rising = λ i j l m. absurd (omega arith);
  heads = λ level l m. absurd (omega arith);
  outermost = refl;
  body = refl;
  strides = strides;
  reach = reach;
}
  where
    blocks : (rank : ℕ) → rank < 1 → IsBlock 1 (block_at expected rank)
    blocks zero l = record { from = lit≤ tt; to = lit≤ tt; scalars = lit≤ tt; accesses = lit≤ tt; outer = λ e. absurd (cc) }
    blocks (suc rank) l = absurd (omega arith)

    strides : (k : ℕ) → stride_size (level_at expected k).kind ≤ 2 ^ 63
    strides zero = lit≤ tt
    strides (suc k) = lit≤ tt

    reach : (k : ℕ) → Reaches (stride_size (level_at expected k).kind) (level_at expected k).trip
    reach zero = tt
    reach (suc k) = tt

no-accesses : block_accesses (Set 0 (Number (pos 1)) ∷ []) ≡ []
no-accesses = rw (block_accesses-cons, statement_accesses-set, expression_accesses-number, block_accesses-nil) refl

table : IsTableOf 1 nest expected
unfolding present_blocks
table = record { levels = refl; count = refl; each = each }
  where
    mine : IsBlockOf 1 nest (block_ref Pre 1) (block_at expected 0)
    mine = record { part = refl; level = refl; forms = refl; accesses = sym (ap (map (λ (a : NestAccess). is_store a.kind)) no-accesses) }

    each : (rank : ℕ) (block : BlockRef) → slice_get (block_ref Pre 1 ∷ []) rank ≡ Some block → IsBlockOf 1 nest block (block_at expected rank)
    each zero block e = subst (λ (b : BlockRef). IsBlockOf 1 nest b (block_at expected 0)) (let f : block_ref Pre 1 ≡ block = cc in f) mine
    each (suc rank) block e = absurd (cc)

keeps : loops_keep nest ≡ true
unfolding loops_keep
keeps = refl

pub premises_can_hold : PremisesCanHold
premises_can_hold = record {
  shape = shape;
  next = record { keeps = keeps; table = table; first = refl; from = omega (arith, ints); some = omega (arith, ints); turns = lit≤ tt };
  soon = omega (arith, ints);
  most = omega (arith, ints);
}
