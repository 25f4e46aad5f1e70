use Rattle.drain_paths.proofs.Names.{◌+◌, ◌-◌, ap, arith, get_or, IsOffset}
use Rattle.drain_paths.specs.declared.flow.Flow.TheVariants.{Void}
use Rattle.drain_paths.proofs.PlacesAhead.{cols_few, few_on, goes_on_to, not_below}
use Rattle.drain_paths.proofs.places.place_ahead.Goals as goal

pub overflow_add-result : goal.overflow_add-result
overflow_add-result t c =
    let e = c.args.shape in
    let is : IsOffset e (get_or (t.O.Onward.flows c.args.onward.now) c.args.place Void) c.offset.result = rw (← c.requires.extent) c.offset.ensures in
    let few = few_on e (t.O.Onward.flows c.args.onward.now) c.args.place c.requires.inside c.requires.has_data c.requires.goes_on c.offset.result is c.requires.ends in
    let cols = cols_few e.rows e.cols c.args.place c.requires.inside in
    omega (arith, few, cols, c.requires.inside, c.cells-cells.ensures.product, c.cells-cells.ensures.few)

pub overflow_sub-result : goal.overflow_sub-result
overflow_sub-result t c =
    let e = c.args.shape in
    let is : IsOffset e (get_or (t.O.Onward.flows c.args.onward.now) c.args.place Void) c.offset.result = rw (← c.requires.extent) c.offset.ensures in
    let least = not_below e (t.O.Onward.flows c.args.onward.now) c.args.place c.requires.inside c.requires.has_data c.requires.goes_on c.offset.result is c.requires.ends in
    omega (arith, least, c.cols.ensures)

pub returns : goal.returns
returns t c =
    let e = c.args.shape in
    let is : IsOffset e (get_or (t.O.Onward.flows c.args.onward.now) c.args.place Void) c.offset.result = rw (← c.requires.extent) c.offset.ensures in
    let there = goes_on_to e (t.O.Onward.flows c.args.onward.now) c.args.place c.requires.inside c.requires.has_data c.requires.goes_on c.offset.result is c.requires.ends
    _ (ap (λ n. c.args.place + c.offset.result - (n + 1)) c.cols.ensures) in
    record { inside = there.0; has_data = there.1; leads = there.2 }
