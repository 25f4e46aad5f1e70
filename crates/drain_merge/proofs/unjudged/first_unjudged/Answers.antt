use Rattle.drain_merge.proofs.Names.{ℕ, List, subst, IsFirstCrossing}
use Rattle.drain_merge.proofs.CornerCells.{first_of_corners}
use Rattle.drain_merge.proofs.unjudged.first_unjudged.Goals as goal

pub returns : goal.returns
returns c =
    let bounds = c.args.bounds.now in
    let places = c.args.places.now in
    let found = c.first_crossing.result in
    let rows = c.in_ok-rows.rows.items in
    let cols = c.in_ok-cols.cols.items in
    first_of_corners bounds places rows cols c.in_ok-rows.ensures.theirs c.in_ok-cols.ensures.theirs found
    (subst (λ (r : List ℕ). IsFirstCrossing bounds r cols places found) c.deref.ensures.value
    (subst (λ (k : List ℕ). IsFirstCrossing bounds c.deref.result.now k places found) c.deref-2.ensures.value c.first_crossing.ensures))
