use Rattle.drain_window.proofs.Names.{◌≡◌, ◌+◌, List, [], ◌∷◌, ◌++◌, take, sym, ap, ◌∙◌, arith, take_more}
use Rattle.std.proofs.lemmas.Option.{get_or_from_slice_get}
use Rattle.drain_hgt.specs.Corner.{Corner}
use Rattle.drain_window.proofs.tile_window.tile_names.Goals as goal

pub loop-i-preserved : goal.loop-i-preserved
loop-i-preserved c =
    let corners : List Corner = c.args.layout.now.corners in
    let i = c.loop-i.i in
    let name : Corner = c.name.result in
    let more : take (i + 1) corners ≡ take i corners ++ name ∷ [] =
    take_more corners i name (omega (arith, c.loop-i-test.true, c.len-i-end.ensures))
    ∙ ap (λ (x : Corner). take i corners ++ x ∷ []) (get_or_from_slice_get corners i name name (sym c.name.ensures)) in
    c.in_ok-push.ensures.items ∙ ap (λ (xs : List Corner). xs ++ name ∷ []) c.loop-i.invariant ∙ sym more
