use Rattle.drain_paths.proofs.Names.{◌≡◌, ◌≢◌, ◌∙◌, subst, sym, arith, IsWalk-more, IsWalk-endless, cell_number}
use Rattle.drain_paths.proofs.FlowCells.{data_at}
use Rattle.drain_paths.proofs.FlowWalks.{too_far}
use Rattle.drain_paths.proofs.NumbersSoFar.{endless_here, numbered_at}
use Rattle.drain_paths.proofs.walk.number_ahead.Goals as goal

pub returns-then-number-UNKNOWN-clause-ahead : goal.returns-then-number-UNKNOWN-clause-ahead
returns-then-number-UNKNOWN-clause-ahead t c = λ g ps are.
    (let e = c.args.shape in
    let inv = c.loop-steps.invariant in
    let here = data_at g ps e (t.W.Ways.flows c.args.ways.now) are c.loop-steps.here inv.inside inv.has_data in
    record {
      walk = inv.walk g ps are;
      there = numbered_at g ps e t.N.PathNumber.UNKNOWN t.N.PathNumber.number_of c.args.numbers.now c.loop-steps.here c.number_at-number.result
          (c.requires.so_far g ps are) here c.number_at-number.ensures
          (subst (λ unknown. c.number_at-number.result ≢ unknown) c.UNKNOWN.ensures c.if-number-UNKNOWN.true);
    })

pub returns-in-None-clause-ahead : goal.returns-in-None-clause-ahead
returns-in-None-clause-ahead t c = λ g ps are.
    (let e = c.args.shape in
    let inv = c.loop-steps.invariant in
    let here = data_at g ps e (t.W.Ways.flows c.args.ways.now) are c.loop-steps.here inv.inside inv.has_data in
    let none : cell_number e c.args.numbers.now c.loop-steps.here ≡ t.N.PathNumber.UNKNOWN = sym {b = cell_number e c.args.numbers.now c.loop-steps.here} c.number_at-number.ensures ∙ (c.if-number-UNKNOWN.false ∙ c.UNKNOWN.ensures) in
    IsWalk-endless g ps c.loop-steps.steps c.args.start c.loop-steps.here (inv.walk g ps are)
    (endless_here g ps e t.N.PathNumber.UNKNOWN t.N.PathNumber.number_of c.args.numbers.now c.loop-steps.here (c.requires.so_far g ps are) here none
    (c.in-None.ensures.leads g ps are here)))

pub loop-steps-preserved : goal.loop-steps-preserved
loop-steps-preserved t c = record {
  inside = c.in-Some.ensures.inside;
  has_data = c.in-Some.ensures.has_data;
  first = λ none. absurd (omega arith);
  walk = λ g ps are.
      (let inv = c.loop-steps.invariant in
      let here = data_at g ps c.args.shape (t.W.Ways.flows c.args.ways.now) are c.loop-steps.here inv.inside inv.has_data in
      IsWalk-more g ps c.loop-steps.steps c.args.start c.loop-steps.here c.in-Some.next (inv.walk g ps are) (c.in-Some.ensures.leads g ps are here));
}

pub returns-clause-ahead : goal.returns-clause-ahead
returns-clause-ahead t c = λ g ps are.
    (let inv = c.loop-steps.invariant in
    let here = data_at g ps c.args.shape (t.W.Ways.flows c.args.ways.now) are c.loop-steps.here inv.inside inv.has_data in
    too_far g ps c.args.shape c.loop-steps.steps c.args.start c.loop-steps.here are.extent (record { to_data = here; walk = inv.walk g ps are })
    (let cells = c.cells-steps-end.ensures.product in omega (arith, cells)))
