use Rattle.drain_rules.proofs.Names.{sym, subst, HasPlacesRound}
use Rattle.drain_rules.proofs.InlandCells.{both_true, keeps_by_tests, places_round}
use Rattle.drain_rules.proofs.fill_inland.keeps_inland.Goals as goal

pub place_beside-parent-requires : goal.place_beside-parent-requires
place_beside-parent-requires c =
    let side = c.args.input.now.shape.rows in
    subst (HasPlacesRound side) (sym c.place-place.ensures.place) (places_round side c.args.input.now.bytes.now c.args.cell c.requires)

pub is_least-requires : goal.is_least-requires
is_least-requires c =
    let side = c.args.input.now.shape.rows in
    subst (HasPlacesRound side) (sym c.place-place.ensures.place) (places_round side c.args.input.now.bytes.now c.args.cell c.requires)

pub returns : goal.returns
returns c = λ passed.
    let three = both_true _ _ passed in
    let two = both_true _ _ three.0 in
    let one = both_true _ _ two.0 in
    keeps_by_tests c.args.input.now.shape.rows c.args.input.now.bytes.now c.args.cell c.requires c.place-place.result c.place_beside-parent.result
    c.likely_direction-direction.result c.place-place.ensures.place c.place_beside-parent.ensures.lies (c.names.ensures one.0) (c.is_raised_to.ensures one.1)
    (c.is_after.ensures two.1) (c.is_least.ensures three.1)
