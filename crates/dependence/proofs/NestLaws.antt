-- What refers to an access of a nest's table refers to an access of the nest.
use Rattle.std.proofs.Common.{◌≡◌, sym, ap, ◌∙◌, length, arith}
use Rattle.std.proofs.lemmas.List.{length-map}
use Rattle.nest_lang.specs.declared.tree.Access.{Access as NestAccess}
use Rattle.nest_lang.specs.Accesses.{accesses_of}
use Rattle.domain.specs.Tables.{Access, block_at}
use Rattle.domain.specs.Shapes.{is_store}
use Rattle.dependence.specs.Laws.{AccessesOfNest}

pub accesses_of_nest : AccessesOfNest
accesses_of_nest scalars loops t r of is = record {
  present = omega (arith, of.count, is.block);
  from = is.from;
  to = λ block e.
      let same = (of.each r.block block e).accesses in
      let long : length (block_at t r.block).accesses ≡ length (accesses_of loops block) = sym (length-map (block_at t r.block).accesses (λ (a : Access). a.stores)) ∙ ap length same ∙ length-map (accesses_of loops block) (λ (a : NestAccess). is_store a.kind) in
      omega (arith, is.to, long);
}
