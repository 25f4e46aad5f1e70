use Rattle.drain_mosaic.proofs.Names.{◌≡◌, ◌<◌, length, map, of_z, to_z, w16, arith, subst, sym, ◌∙◌, length-map, to_z-of_z, IsWithin}
use Rattle.drain_mosaic.proofs.Bounds.{step_is, least_step, greatest_step, within_least, within_greatest}
use Rattle.drain_mosaic.proofs.layout.lons.Goals as goal

pub loop-name-preserved : goal.loop-name-preserved
loop-name-preserved c =
    let names = c.args.names.now in
    let i = c.loop-name.name-index in
    let x = to_z w16 (of_z w16 c.lon-lon.result) in
    let seen = to_z-of_z w16 c.lon-lon.result (record { sfits = c.lon-lon.type_inv }) in
    let degrees : x ≡ c.name-item.result.lon = seen ∙ c.lon-lon.ensures.degrees in
    let here = step_is (λ c. c.lon) names i c.name-item.result x c.name-item.is c.loop-name-test.true degrees in
    let within = subst (IsWithin 180) (sym degrees) c.lon-lon.ensures.on_map.lon in
    let least = to_z-of_z w16 c.min-least.result (record { sfits = c.min-least.type_inv }) ∙ c.min-least.ensures.value in
    let greatest = to_z-of_z w16 c.max-greatest.result (record { sfits = c.max-greatest.type_inv }) ∙ c.max-greatest.ensures.value in
    let inside : i < length (map (λ c. c.lon) names) = omega (arith, length-map names (λ c. c.lon)) in (
      least_step (map (λ c. c.lon) names) i _ _ x _ inside here least c.loop-name.invariant.0,
      greatest_step (map (λ c. c.lon) names) i _ _ x _ inside here greatest c.loop-name.invariant.1,
      within_least 180 _ x _ c.loop-name.invariant.2 within least,
      within_greatest 180 _ x _ c.loop-name.invariant.3 within greatest,
    )
