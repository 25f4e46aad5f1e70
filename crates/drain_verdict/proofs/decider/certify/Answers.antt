use Rattle.drain_verdict.proofs.Names.{◌≡◌, ◌∙◌, ℤ, List, ap, map, of_z, pos, rules, subst, sym, to_z, w64, Grid, Extent, Flow, UNKNOWN, AreFlowsOf}
use Rattle.drain_grid.specs.Grid.{Products}
use Rattle.drain_paths.specs.Ways.{IsRankRefusal, ground_of, directions_of}
use Rattle.drain_paths.proofs.StepLemmas.{AreRanks-steps}
use Rattle.drain_verdict.proofs.decider.certify.Goals as goal

lent : (g : Grid) (ps : Products) (e shape : Extent) (flows seen : List Flow) → shape ≡ e → seen ≡ flows → AreFlowsOf g ps e flows → AreFlowsOf g ps shape seen
lent g ps e shape flows seen same lent_are are =
    subst (AreFlowsOf g ps shape) (sym lent_are) (subst (λ (x : Extent). AreFlowsOf g ps x flows) (sym same) are)

pub returns-in_err-steps-clause-err : goal.returns-in_err-steps-clause-err
returns-in_err-steps-clause-err c =
    let g = ground_of c.args.elevation.now in
    let ps = directions_of c.args.dir.now in
    let why : IsRankRefusal g ps c.in_err-steps.field-0.0 = c.in_err-steps.ensures.err g ps
    (lent g ps c.args.elevation.now.extent c.shape-shape.result c.in-Ok.flows.items c.deref.result.now c.shape-shape.ensures c.deref.ensures.value c.in-Ok.ensures.flows) in
    search rules

pub returns-clause-ranks : goal.returns-clause-ranks
returns-clause-ranks c =
    let g = ground_of c.args.elevation.now in
    let ps = directions_of c.args.dir.now in
    let e = c.shape-shape.result in
    let steps = c.in_ok-steps.steps.items in
    let are = c.in_ok-steps.ensures.steps g ps
    (lent g ps c.args.elevation.now.extent e c.in-Ok.flows.items c.deref.result.now c.shape-shape.ensures c.deref.ensures.value c.in-Ok.ensures.flows) in
    let nodata : to_z w64 (of_z w64 c.from.result) ≡ pos UNKNOWN = ap (λ (z : ℤ). to_z w64 (of_z w64 z)) c.from.ensures in
    AreRanks-steps g ps e steps c.of_counts.result are
    (c.of_counts.ensures ∙ ap (λ (n : ℤ). record { extent = e; nodata = n; numbers = map (λ x. pos x) steps }) nodata)
