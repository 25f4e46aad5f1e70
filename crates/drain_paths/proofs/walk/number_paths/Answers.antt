use Rattle.drain_paths.proofs.Names.{◌≢◌, inl, inr, get_or, sym, subst, arith, rules, cases_order, index_of, in_grid, index_of-below}
use Rattle.drain_paths.specs.declared.flow.Flow.TheVariants.{Void}
use Rattle.drain_paths.proofs.FlowCells.{flow_of_data}
use Rattle.drain_paths.proofs.NumbersSoFar.{AreNumbers-all, first_endless}
use Rattle.drain_paths.proofs.walk.number_paths.Goals as goal

pub returns-in-Some : goal.returns-in-Some
returns-in-Some t c = λ g ps are.
    (let e = c.args.shape in
    let inv = c.loop-place.invariant in
    let told = c.in-Some.ensures.here in
    let stuck = told.1 g ps are in
    first_endless g ps e t.N.PathNumber.UNKNOWN t.N.PathNumber.number_of c.loop-place.numbers c.loop-place.place c.in-Some.cell (inv.so_far g ps are)
    (λ b there less. inv.passed b (in_grid g e b are.extent there.inside) less (flow_of_data g ps e (t.W.Ways.flows c.args.ways.now) are b there))
    told.0 stuck.0 stuck.1)

pub loop-place-preserved : goal.loop-place-preserved
loop-place-preserved t c =
    let e = c.args.shape in
    let flows = (t.W.Ways.flows c.args.ways.now) in
    let unknown = t.N.PathNumber.UNKNOWN in
    let numbers = c.number_from.new.numbers in
    record {
      counted = search rules;
      so_far = c.number_from.ensures.so_far;
      passed = λ d inside less some.
          elim (cases_order (index_of e d) c.loop-place.place) [
            | inl same ↦ subst (λ k. get_or numbers k 0 ≢ unknown) (sym same)
                (c.in_default.ensures.here (subst (λ k. get_or flows k Void ≢ Void) same some))
            | inr (inl before) ↦ c.number_from.ensures.others d inside (c.loop-place.invariant.passed d inside before some)
            | inr (inr after) ↦ absurd (omega (arith, less, after))
          ];
    }

pub returns : goal.returns
returns t c = λ g ps are.
    (let e = c.args.shape in
    let inv = c.loop-place.invariant in
    AreNumbers-all g ps e t.N.PathNumber.UNKNOWN t.N.PathNumber.number_of c.loop-place.numbers (inv.so_far g ps are) (λ d here.
    (let inside = in_grid g e d are.extent here.inside in
    let below = index_of-below e d inside in
    let cells = c.cells-place-end.ensures.product in
    inv.passed d inside (omega (arith, below, cells)) (flow_of_data g ps e (t.W.Ways.flows c.args.ways.now) are d here))))
