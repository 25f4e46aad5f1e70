use Rattle.drain_fill.proofs.Names.{◌≡◌, None, rules, tests, any_direction, directions, Direction, neighbor}
use Rattle.std.proofs.lemmas.Iterator.{cases_from_any, YieldsList-from_slice}
use Rattle.drain_fill.proofs.opening.is_on_edge.Goals as goal

pub returns : goal.returns
returns c =
    let P : Direction → Type 0 = λ d. neighbor c.args.patch.now d ≡ None in
    let by_call = cases_from_any _ _ _ P (λ d. ¬ P d) c.any.ensures.ran (YieldsList-from_slice directions cc)
    (λ d q k. search (rules, tests)) (λ d q k. search (rules, tests)) in
    any_direction P _ by_call
