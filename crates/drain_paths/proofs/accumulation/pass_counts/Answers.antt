use Rattle.drain_paths.proofs.Names.{◌≡◌, ◌≢◌, ◌<◌, ◌∙◌, get_or, arith, rules, sym, ap, subst, cell_at, DONE, Ends, cell_number, direction_of, flow_at, IsPassedOn}
use Rattle.drain_paths.specs.declared.flow.Flow.TheVariants.{Void}
use Rattle.drain_paths.proofs.CellPlaces.{IsPassedOn-set, IsPutAt-set, cell_of_place}
use Rattle.drain_paths.proofs.FlowCells.{data_at, leads_nowhere}
use Rattle.drain_paths.proofs.PassingLemmas.{IsPassing-last, IsPassing-on, flow_apart, flow_fits, flow_shorter, flow_some, stays_ahead}
use Rattle.drain_paths.proofs.accumulation.pass_counts.Goals as goal

pub returns-then-ends-clause-passing : goal.returns-then-ends-clause-passing
returns-then-ends-clause-passing t c = λ g ps are.
    (let e = c.args.shape in
    let flows = (t.O.Onward.flows c.args.onward.now) in
    let inv = c.walk.invariant in
    let at = cell_of_place e c.walk.here inv.inside in
    let flow : flow_at e flows (cell_at e c.walk.here) ≡ get_or flows c.walk.here Void = ap (λ k. get_or flows k Void) at.1 in
    let ends : get_or flows c.walk.here Void ≡ Ends = search rules in
    let here = data_at g ps e flows are (cell_at e c.walk.here) at.0 (λ void. inv.has_data (sym flow ∙ void)) in
    let ready : cell_number e c.walk.waits (cell_at e c.walk.here) ≡ 0 = ap (λ k. get_or c.walk.waits k 0) at.1 ∙ c.walk-test.true in
    IsPassing-last g ps e c.walk.waits c.walk.counts (inv.passing g ps are) (cell_at e c.walk.here) here ready _
    (leads_nowhere g ps e flows are (cell_at e c.walk.here) here (ap direction_of (flow ∙ ends)))
    (IsPutAt-set e c.walk.waits (cell_at e c.walk.here) c.walk.here DONE at.0 (sym at.1) inv.waits_counted))

pub place_ahead-ahead-requires-clause-ends : goal.place_ahead-ahead-requires-clause-ends
place_ahead-ahead-requires-clause-ends t c = λ g ps are. (c.walk.invariant.passing g ps are).ends

pub pass_on-requires-clause-some : goal.pass_on-requires-clause-some
pass_on-requires-clause-some t c =
    let e = c.args.shape in
    let flows = (t.O.Onward.flows c.args.onward.now) in
    let inv = c.walk.invariant in
    let at = cell_of_place e c.walk.here inv.inside in
    let flow : flow_at e flows (cell_at e c.walk.here) ≡ get_or flows c.walk.here Void = ap (λ k. get_or flows k Void) at.1 in
    let ready : cell_number e c.walk.waits (cell_at e c.walk.here) ≡ 0 = ap (λ k. get_or c.walk.waits k 0) at.1 ∙ c.walk-test.true in
    let ahead = c.place_ahead-ahead.result in
    let there = cell_of_place e ahead c.place_ahead-ahead.ensures.inside in
    subst (λ k. 0 < get_or c.walk.waits k 0) there.1
    (flow_some e flows c.walk.waits c.walk.counts inv.passing (cell_at e c.walk.here) (cell_at e ahead) at.0 (λ void. inv.has_data (sym flow ∙ void)) ready
    (λ g ps are here. c.place_ahead-ahead.ensures.leads g ps are))

pub pass_on-requires-clause-fits : goal.pass_on-requires-clause-fits
pass_on-requires-clause-fits t c =
    let e = c.args.shape in
    let flows = (t.O.Onward.flows c.args.onward.now) in
    let inv = c.walk.invariant in
    let at = cell_of_place e c.walk.here inv.inside in
    let flow : flow_at e flows (cell_at e c.walk.here) ≡ get_or flows c.walk.here Void = ap (λ k. get_or flows k Void) at.1 in
    let ready : cell_number e c.walk.waits (cell_at e c.walk.here) ≡ 0 = ap (λ k. get_or c.walk.waits k 0) at.1 ∙ c.walk-test.true in
    let ahead = c.place_ahead-ahead.result in
    let there = cell_of_place e ahead c.place_ahead-ahead.ensures.inside in
    let fits = flow_fits e flows c.walk.waits c.walk.counts inv.passing (cell_at e c.walk.here) (cell_at e ahead) at.0 (λ void. inv.has_data (sym flow ∙ void)) ready
    (λ g ps are here. c.place_ahead-ahead.ensures.leads g ps are) in
    let from : cell_number e c.walk.counts (cell_at e c.walk.here) ≡ get_or c.walk.counts c.walk.here 0 = ap (λ k. get_or c.walk.counts k 0) at.1 in
    let to : cell_number e c.walk.counts (cell_at e ahead) ≡ get_or c.walk.counts ahead 0 = ap (λ k. get_or c.walk.counts k 0) there.1 in
    omega (arith, fits, from, to, c.cells-cells.ensures.product, c.cells-cells.ensures.few)

pub walk-smaller : goal.walk-smaller
walk-smaller t c =
    let e = c.args.shape in
    let flows = (t.O.Onward.flows c.args.onward.now) in
    let inv = c.walk.invariant in
    let at = cell_of_place e c.walk.here inv.inside in
    let flow : flow_at e flows (cell_at e c.walk.here) ≡ get_or flows c.walk.here Void = ap (λ k. get_or flows k Void) at.1 in
    let ready : cell_number e c.walk.waits (cell_at e c.walk.here) ≡ 0 = ap (λ k. get_or c.walk.waits k 0) at.1 ∙ c.walk-test.true in
    flow_shorter e flows c.walk.waits c.walk.counts inv.passing (cell_at e c.walk.here) (cell_at e c.place_ahead-ahead.result) at.0 (λ void. inv.has_data (sym flow ∙ void)) ready
    (λ g ps are here. c.place_ahead-ahead.ensures.leads g ps are)

pub walk-preserved : goal.walk-preserved
walk-preserved t c =
    let e = c.args.shape in
    let flows = (t.O.Onward.flows c.args.onward.now) in
    let inv = c.walk.invariant in
    let at = cell_of_place e c.walk.here inv.inside in
    let flow : flow_at e flows (cell_at e c.walk.here) ≡ get_or flows c.walk.here Void = ap (λ k. get_or flows k Void) at.1 in
    let some : flow_at e flows (cell_at e c.walk.here) ≢ Void = λ void. inv.has_data (sym flow ∙ void) in
    let ready : cell_number e c.walk.waits (cell_at e c.walk.here) ≡ 0 = ap (λ k. get_or c.walk.waits k 0) at.1 ∙ c.walk-test.true in
    let ahead = c.place_ahead-ahead.result in
    let leads = c.place_ahead-ahead.ensures.leads in
    let there = cell_of_place e ahead c.place_ahead-ahead.ensures.inside in
    let apart = flow_apart e flows c.walk.waits c.walk.counts inv.passing (cell_at e c.walk.here) (cell_at e ahead) at.0 some ready (λ g ps are here. leads g ps are) in
    let waits_some = flow_some e flows c.walk.waits c.walk.counts inv.passing (cell_at e c.walk.here) (cell_at e ahead) at.0 some ready (λ g ps are here. leads g ps are) in
    let passed : IsPassedOn e c.walk.waits c.pass_on.new.waits c.walk.counts c.pass_on.new.counts (cell_at e c.walk.here) (cell_at e ahead) = rw (c.pass_on.ensures.waits, c.pass_on.ensures.counts)
    (IsPassedOn-set e c.walk.waits c.walk.counts (cell_at e c.walk.here) (cell_at e ahead) c.walk.here ahead inv.waits_counted inv.counts_counted at.0 there.0 apart waits_some (sym at.1) (sym there.1)) in
    record {
      waits_counted = search rules;
      counts_counted = search rules;
      inside = c.place_ahead-ahead.ensures.inside;
      has_data = c.place_ahead-ahead.ensures.has_data;
      passing = λ g ps are.
          IsPassing-on g ps e c.walk.waits c.walk.counts (inv.passing g ps are) (cell_at e c.walk.here) (data_at g ps e flows are (cell_at e c.walk.here) at.0 some) ready
          (cell_at e ahead) (leads g ps are) c.pass_on.new.waits c.pass_on.new.counts passed;
      start = stays_ahead e c.walk.waits c.pass_on.new.waits c.walk.counts c.pass_on.new.counts (cell_at e c.walk.here) (cell_at e ahead) (cell_at e c.args.start) passed
          (cell_of_place e c.args.start c.requires.inside).0 inv.start;
      others = λ d inside other. stays_ahead e c.walk.waits c.pass_on.new.waits c.walk.counts c.pass_on.new.counts (cell_at e c.walk.here) (cell_at e ahead) d passed
          inside (inv.others d inside other);
    }
