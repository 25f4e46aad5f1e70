use Rattle.drain_flood.proofs.Names.{◌∙◌, inl, inr, get_or, sym, subst, arith, w64, to_z, of_z, cases_order, false≢true, to_z-of_z, East, directions, of_each, IsLowEdgeThere}
use Rattle.drain_flood.proofs.flats.Flats.low_edge_at_edge.Goals as goal

pub loop-direction-preserved : goal.loop-direction-preserved
loop-direction-preserved t c = λ i less there.
    (let s = c.args.self.now in
    let level = to_z w64 (of_z w64 c.args.level) in
    elim (cases_order i c.loop-direction.direction-index) [
      | inl here ↦ false≢true (sym c.if-is_low_edge.false ∙ c.is_low_edge.ensures.no
          (subst (λ j. IsLowEdgeThere s.extent c.args.surface.now s c.args.cell level (get_or directions j East)) here there))
      | inr (inl before) ↦ c.loop-direction.invariant i before there
      | inr (inr after) ↦ absurd (omega (arith, less, after))
    ])

pub returns : goal.returns
returns t c = λ d there.
    (let s = c.args.self.now in
    let level = to_z w64 (of_z w64 c.args.level) in
    of_each (λ x. ¬ IsLowEdgeThere s.extent c.args.surface.now s c.args.cell level x) c.loop-direction.direction-index (omega arith) c.loop-direction.invariant d
    (subst (λ z. IsLowEdgeThere s.extent c.args.surface.now s c.args.cell z d) (sym (to_z-of_z w64 c.args.level c.ranges.level)) there))
