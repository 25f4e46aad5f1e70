use Rattle.drain_c.proofs.Names.{◌≡◌, true, refl, sym, subst, bytes_left-value, as_five, has_rnk, AreJudgedOf, AreTilesOf}
use Rattle.drain_c.proofs.Spelling.{HasDem, HasTiles, answered_on_dem, answered_on_tiles}
use Rattle.drain_c.proofs.Told.{if_ranked}
use Rattle.drain_c.proofs.question.answer_to.Goals as goal

pub returns-then-is_ranked-clause-answer : goal.returns-then-is_ranked-clause-answer
returns-then-is_ranked-clause-answer g c =
    let bl = bytes_left-value.it in
    let call = c.args.call.now in
    let ranked : has_rnk call.judged ≡ true = cc in
    let sources = c.as_mut_slice-sources.result.now in
    let tiles : HasTiles bl call.elevations c.in-Tiles.side sources = rw c.in-Tiles.is (refl, subst (AreTilesOf bl c.in-Tiles.tiles.now) (sym c.as_mut_slice-sources.ensures.value) c.in_ok-owned-in-Tiles.ensures.same) in
    let five = c.in_ok-five-in-Tiles.five in
    answered_on_tiles bl call c.in-Tiles.side sources five tiles (if_ranked (λ judged. AreJudgedOf bl judged call.rasters five) call.judged ranked c.in_ok-five-in-Tiles.ensures.same)
    g.Q.Question.outcome g.Q.Question.says c.answer.result c.answer.ensures.answer c.answer.ensures.says

pub returns-in_ok-four-in-Tiles-clause-answer : goal.returns-in_ok-four-in-Tiles-clause-answer
returns-in_ok-four-in-Tiles-clause-answer g c =
    let bl = bytes_left-value.it in
    let call = c.args.call.now in
    let sources = c.as_mut_slice-sources.result.now in
    let tiles : HasTiles bl call.elevations c.in-Tiles.side sources = rw c.in-Tiles.is (refl, subst (AreTilesOf bl c.in-Tiles.tiles.now) (sym c.as_mut_slice-sources.ensures.value) c.in_ok-owned-in-Tiles.ensures.same) in
    answered_on_tiles bl call c.in-Tiles.side sources (as_five c.in_ok-four-in-Tiles.four) tiles (c.in_ok-four-in-Tiles.ensures.same cc)
    g.Q.Question.outcome g.Q.Question.says c.answer-in-Tiles.result c.answer-in-Tiles.ensures.answer c.answer-in-Tiles.ensures.says

pub returns-then-is_ranked-2-clause-answer : goal.returns-then-is_ranked-2-clause-answer
returns-then-is_ranked-2-clause-answer g c =
    let bl = bytes_left-value.it in
    let call = c.args.call.now in
    let ranked : has_rnk call.judged ≡ true = cc in
    let dem = c.in_ok-raster_input-in-Dem.field-0 in
    let one : HasDem bl call.elevations dem = rw c.in-Dem.is c.in_ok-raster_input-in-Dem.ensures.same in
    let five = c.in_ok-dem_five-in-Dem.dem_five in
    answered_on_dem bl call dem five one (if_ranked (λ judged. AreJudgedOf bl judged call.rasters five) call.judged ranked c.in_ok-dem_five-in-Dem.ensures.same)
    g.Q.Question.outcome g.Q.Question.says c.answer-then-is_ranked-2.result c.answer-then-is_ranked-2.ensures.answer c.answer-then-is_ranked-2.ensures.says

pub returns-in_ok-dem_four-in-Dem-clause-answer : goal.returns-in_ok-dem_four-in-Dem-clause-answer
returns-in_ok-dem_four-in-Dem-clause-answer g c =
    let bl = bytes_left-value.it in
    let call = c.args.call.now in
    let dem = c.in_ok-raster_input-in-Dem.field-0 in
    let one : HasDem bl call.elevations dem = rw c.in-Dem.is c.in_ok-raster_input-in-Dem.ensures.same in
    answered_on_dem bl call dem (as_five c.in_ok-dem_four-in-Dem.dem_four) one (c.in_ok-dem_four-in-Dem.ensures.same cc)
    g.Q.Question.outcome g.Q.Question.says c.answer-in-Dem.result c.answer-in-Dem.ensures.answer c.answer-in-Dem.ensures.says
