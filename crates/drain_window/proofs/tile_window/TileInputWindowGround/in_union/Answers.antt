use Rattle.drain_window.proofs.Names.{◌∙◌, ap, sym, subst, ℕ, AllZip, IsNameOf, UnionGrid, map_origin, names_of}
use Rattle.drain_window.proofs.tile_window.TileInputWindowGround.in_union.Goals as goal

pub returns-clause-begins : goal.returns-clause-begins
returns-clause-begins g c =
    c.map_origin.ensures.origin ∙ (λ i. map_origin (record { side = sym c.side.ensures.side i; corners = sym c.in_ok-tiles.ensures i }))

pub returns-clause-named : goal.returns-clause-named
returns-clause-named g c = λ inputs fit. (
  ap (λ (side : ℕ). UnionGrid.Tiles side) c.side.ensures.side,
  subst (AllZip IsNameOf (names_of inputs)) (sym c.in_ok-tiles.ensures) fit.named,
)
