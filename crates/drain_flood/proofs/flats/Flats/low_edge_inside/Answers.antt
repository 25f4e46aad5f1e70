use Rattle.drain_flood.proofs.Names.{◌∙◌, sym, subst, w64, to_z, of_z, false≢true, to_z-of_z, Direction, IsLowEdgeThere}
use Rattle.drain_flood.proofs.Looking.{last_direction}
use Rattle.drain_flood.proofs.flats.Flats.low_edge_inside.Goals as goal

pub returns : goal.returns
returns t c = λ d there.
    (let s = c.args.self.now in
    let P : Direction → Type 0 = IsLowEdgeThere s.extent c.args.surface.now s c.args.cell (to_z w64 (of_z w64 c.args.level)) in
    let held : P d = subst (λ z. IsLowEdgeThere s.extent c.args.surface.now s c.args.cell z d) (sym (to_z-of_z w64 c.args.level c.ranges.level)) there in
    false≢true (sym c.if-is_low_edge-8.false ∙ c.is_low_edge-8.ensures.no
    (last_direction P
    (λ h. false≢true (sym c.if-is_low_edge.false ∙ c.is_low_edge.ensures.no h))
    (λ h. false≢true (sym c.if-is_low_edge-2.false ∙ c.is_low_edge-2.ensures.no h))
    (λ h. false≢true (sym c.if-is_low_edge-3.false ∙ c.is_low_edge-3.ensures.no h))
    (λ h. false≢true (sym c.if-is_low_edge-4.false ∙ c.is_low_edge-4.ensures.no h))
    (λ h. false≢true (sym c.if-is_low_edge-5.false ∙ c.is_low_edge-5.ensures.no h))
    (λ h. false≢true (sym c.if-is_low_edge-6.false ∙ c.is_low_edge-6.ensures.no h))
    (λ h. false≢true (sym c.if-is_low_edge-7.false ∙ c.is_low_edge-7.ensures.no h))
    d held)))
