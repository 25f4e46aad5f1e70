use Rattle.drain_filled.proofs.Names.{DataCells, flood_is_filled, Flooding, IsBetween, IsSurfaceOf, listed_at, Extent, Grid, IsLeastSurface, List, subst, sym, ℤ, ◌∙◌, ◌≡◌}
use Rattle.drain_filled.proofs.FirstUnfilled.{cells_of, found_unfilled, ground_between}
use Rattle.drain_filled.proofs.compare.first_unfilled.Goals as goal

-- the heights of the flood are the least surface
least_heights : (g : Grid) (w : DataCells) (f : Flooding) (xs : List ℤ) → g.extent ≡ w.extent → xs ≡ f.con → IsSurfaceOf g f → IsLeastSurface g (listed_at w.extent xs)
least_heights g w f xs extent con surface =
    subst (λ (ys : List ℤ). IsLeastSurface g (listed_at w.extent ys)) (sym con)
    (subst (λ (e : Extent). IsLeastSurface g (listed_at e f.con)) extent (flood_is_filled g f surface).least)

pub returns-clause-first : goal.returns-clause-first
returns-clause-first c = λ g s same has.
    (let w = c.args.ground.now in
    let xs = c.args.elevation.now in
    let cells = cells_of g w xs c.args.sinks.now same in
    let between = subst (λ (ys : List ℤ). IsBetween g (listed_at w.extent ys)) (sym c.in_ok-heights.ensures) (ground_between g w xs c.args.sinks.now same) in
    found_unfilled g s w c.args.sinks.now c.args.con.now c.deref.result.now cells
    (least_heights g w c.in_ok-flood.flood c.deref.result.now cells.extent (c.deref.ensures.value ∙ c.into_parts-least.ensures.heights) (c.in_ok-flood.ensures.surface g cells between))
    has c.first_other.result c.first_other.ensures.first)

pub returns-clause-between : goal.returns-clause-between
returns-clause-between c = λ g s cells between has.
    (let w = c.args.ground.now in
    let from = subst (λ (ys : List ℤ). IsBetween g (listed_at w.extent ys)) (sym c.in_ok-heights.ensures) between in
    found_unfilled g s w c.args.sinks.now c.args.con.now c.deref.result.now cells
    (least_heights g w c.in_ok-flood.flood c.deref.result.now cells.extent (c.deref.ensures.value ∙ c.into_parts-least.ensures.heights) (c.in_ok-flood.ensures.surface g cells from))
    has c.first_other.result c.first_other.ensures.first)
