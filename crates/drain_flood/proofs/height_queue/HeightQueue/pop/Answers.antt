use Rattle.drain_flood.proofs.Names.{◌≡◌, ◌∙◌, sym, rules, to_z-of_z, first_le_from_greatest}
use Rattle.std.proofs.Common.{w64, to_z, of_z}
use Rattle.std.specs.Ordering.{nat_cmp}
use Rattle.drain_flood.proofs.Waits.{lowest_pair, taken_pair}
use Rattle.drain_flood.proofs.height_queue.HeightQueue.pop.Goals as goal

pub returns-clause-taken : goal.returns-clause-taken
returns-clause-taken c =
    let same : to_z w64 (of_z w64 c.height_at.result) ≡ c.height_at.result = search (rules, to_z-of_z) in
    taken_pair _ c.in_ok-depth.depth _ _ _ _ (sym c.height_at.ensures ∙ sym same) (sym c.self.view_is) c.in_ok-depth.ensures.permutation

pub returns-clause-lowest : goal.returns-clause-lowest
returns-clause-lowest c =
    let same : to_z w64 (of_z w64 c.height_at.result) ≡ c.height_at.result = search (rules, to_z-of_z) in
    lowest_pair _ c.in_ok-depth.depth _ (sym c.height_at.ensures ∙ sym same)
    (first_le_from_greatest nat_cmp _ _ (c.in_ok-depth.ensures.below_top c.self.inside.ordered))
