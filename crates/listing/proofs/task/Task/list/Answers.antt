use Rattle.std.proofs.Common.{◌≡◌, refl, ap, ◌∙◌, List, [], ◌∷◌, ◌++◌, append_assoc, rules}
use Rattle.std.specs.Prelude.{unsigned_abs}
use Rattle.profile.specs.declared.first_turns.FirstProfile.TheVariants.{Whole}
use Rattle.profile.specs.FirstProfiles.{IsFirstProfile}
use Rattle.report.specs.declared.line.ListingLine.{ListingLine}
use Rattle.listing.specs.Listings.{profile_line}
use Rattle.listing.proofs.task.Task.list.Goals as goal

pub returns-in_ok-list_whole-in-Whole : goal.returns-in_ok-list_whole-in-Whole
returns-in_ok-list_whole-in-Whole c =
    let task = c.args.self.now in
    let first : IsFirstProfile task.unit.now.nest.loops (unsigned_abs task.options.sample) c.args.state.now c.args.steps.left (Whole c.in-Whole.samples) = search rules in
    let line : c.profile_line-in-Whole.result ≡ profile_line task.options.sample = search rules in
    let rest = c.in_ok-list_whole-in-Whole.ensures in (
      profile_line task.options.sample ∷ rest.0,
      (Whole c.in-Whole.samples, first, (rest.0, rest.1, refl)),
      rest.2
          ∙ ap (λ (ls : List ListingLine). ls ++ rest.0) (c.in_ok-push-in-Whole.ensures.items ∙ ap (λ (l : ListingLine). c.args.lines.now.items ++ l ∷ []) line)
          ∙ append_assoc c.args.lines.now.items (profile_line task.options.sample ∷ []) rest.0,
    )
