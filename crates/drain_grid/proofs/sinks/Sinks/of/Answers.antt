use Rattle.drain_grid.proofs.Names.{map, ap, ◌∙◌, subst, wide_place, IsPermutation, IsNonDecreasingBy-from_sort}
use Rattle.std.proofs.lemmas.Simd.{map-map}
use Rattle.drain_grid.proofs.sinks.Sinks.of.Goals as goal

pub invariant_of-result : goal.invariant_of-result
invariant_of-result c = record {
  rising = IsNonDecreasingBy-from_sort (λ x. x) _ c.sort_unstable.ensures.sorted;
  theirs =
      subst (λ places. IsPermutation places c.sort_unstable.new.self.items)
      (c.in_ok-places.ensures ∙ ap (map wide_place) c.cells.ensures ∙ map-map wide_place (λ s. s.cell) c.args.lines) c.sort_unstable.ensures.permutation;
  narrow = c.requires;
}
