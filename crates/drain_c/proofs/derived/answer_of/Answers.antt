use Rattle.drain_c.proofs.Names.{refl, sym, subst, IfErr-weaker, IfOk-weaker, bytes_left-value, as_five, AreTilesOf}
use Rattle.drain_c.specs.Calls.{plain_call}
use Rattle.drain_c.proofs.Derivations.{derived_of_bytes, why_of_bytes}
use Rattle.drain_c.proofs.Spelling.{ForDemInputs, ForTiles, HasDem, HasTiles, dem_sources, one_dem, tile_sources}
use Rattle.drain_maker.specs.Derived.{AreDerivedIn, IsDeriveRefusalIn}
use Rattle.drain_verdict.proofs.StartAnswers.{of_tiles as of_tiles_set}
use Rattle.drain_c.proofs.derived.answer_of.Goals as goal

pub returns-in-Tiles-clause-derived : goal.returns-in-Tiles-clause-derived
returns-in-Tiles-clause-derived c =
    let bl = bytes_left-value.it in
    let call = plain_call c.args.call.now in
    let sources = c.as_mut_slice-sources.result.now in
    let tiles : HasTiles bl call.elevations c.in-Tiles.side sources = rw c.in-Tiles.is (refl, subst (AreTilesOf bl c.in-Tiles.tiles.now) (sym c.as_mut_slice-sources.ensures.value) c.in-Ok-tile_inputs.ensures.same) in
    let four = as_five c.in-Ok.four in
    IfOk-weaker c.derived_on.result _ _ (λ made is. derived_of_bytes call (ForTiles bl c.in-Tiles.side sources call.given four) (tile_sources bl call c.in-Tiles.side sources four tiles (c.in-Ok.ensures.same refl)) made.1
    (of_tiles_set bl c.in-Tiles.side sources call.given four (λ s. AreDerivedIn s made.1) is)) c.derived_on.ensures.derived

pub returns-in-Tiles-clause-err : goal.returns-in-Tiles-clause-err
returns-in-Tiles-clause-err c =
    let bl = bytes_left-value.it in
    let call = plain_call c.args.call.now in
    let sources = c.as_mut_slice-sources.result.now in
    let tiles : HasTiles bl call.elevations c.in-Tiles.side sources = rw c.in-Tiles.is (refl, subst (AreTilesOf bl c.in-Tiles.tiles.now) (sym c.as_mut_slice-sources.ensures.value) c.in-Ok-tile_inputs.ensures.same) in
    let four = as_five c.in-Ok.four in
    IfErr-weaker c.derived_on.result _ _ (λ why is. why_of_bytes call (ForTiles bl c.in-Tiles.side sources call.given four) (tile_sources bl call c.in-Tiles.side sources four tiles (c.in-Ok.ensures.same refl)) why
    (of_tiles_set bl c.in-Tiles.side sources call.given four (λ s. IsDeriveRefusalIn s why) is)) c.derived_on.ensures.err

pub returns-clause-derived : goal.returns-clause-derived
returns-clause-derived c =
    let bl = bytes_left-value.it in
    let call = plain_call c.args.call.now in
    let dem = c.in-Ok-raster_input.dem in
    let one : HasDem bl call.elevations dem = rw c.in-Dem.is c.in-Ok-raster_input.ensures.same in
    let four = as_five c.in-Ok.four in
    IfOk-weaker c.derived_on-in-Dem.result _ _ (λ made. derived_of_bytes call (ForDemInputs bl (one_dem dem) call.given four) (dem_sources bl call dem four one (c.in-Ok.ensures.same refl)) made.1) c.derived_on-in-Dem.ensures.derived

pub returns-clause-err : goal.returns-clause-err
returns-clause-err c =
    let bl = bytes_left-value.it in
    let call = plain_call c.args.call.now in
    let dem = c.in-Ok-raster_input.dem in
    let one : HasDem bl call.elevations dem = rw c.in-Dem.is c.in-Ok-raster_input.ensures.same in
    let four = as_five c.in-Ok.four in
    IfErr-weaker c.derived_on-in-Dem.result _ _ (λ why. why_of_bytes call (ForDemInputs bl (one_dem dem) call.given four) (dem_sources bl call dem four one (c.in-Ok.ensures.same refl)) why) c.derived_on-in-Dem.ensures.err
