use Rattle.drain_mosaic.proofs.Names.{◌≡◌, take, map, fold, pos, get_or, int_min, int_max, IsWithin}
use Rattle.drain_mosaic.proofs.layout.lons.Given as goal

abbrev pub invariant-loop-name : goal.invariant-loop-name
invariant-loop-name l =
    let all = map (λ c. c.lon) l.names in
    (l.least ≡ fold int_min (get_or all 0 (pos 0)) (take l.name-index all)) × (l.greatest ≡ fold int_max (get_or all 0 (pos 0)) (take l.name-index all)) × IsWithin 180 l.least × IsWithin 180 l.greatest
