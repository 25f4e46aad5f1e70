use Rattle.drain_filled.proofs.Names.{IsVoided, flood_is_filled, Flooding, con_at, Extent, index_of, IsLeastSurface, List, ap, get_or, length, pos, subst, sym, ℕ, ℤ, ◌*◌, ◌<◌, ◌∙◌, ◌≡◌, to_z-of_z}
use mir.Syntax.{w64}
use Rattle.drain_filled.proofs.MarkedSurfaces.{ground_between, least_still, surface_of_least, void_there}
use Rattle.drain_filled.proofs.marked.filled_surface.Goals as goal

pub returns-clause-surface : goal.returns-clause-surface
returns-clause-surface c = λ g cells heights pixels.
    (let w = c.args.ground.now in
    let e = cells.extent in
    let flood = c.in_ok-flood.flood in
    let old = c.into_parts-con.result.0.items in
    let new = c.put_voids.new.con.items in
    let each = subst (λ z. (k : ℕ) → k < length old → IsVoided z (get_or w.marks k 0) (get_or old k (pos 0)) (get_or new k (pos 0)))
    (to_z-of_z w64 c.args.void c.ranges.void) c.put_voids.ensures.each in
    let long : length old ≡ w.extent.rows * w.extent.cols = c.into_parts-con.ensures.counted ∙ ap (λ (x : Extent). x.rows * x.cols) c.in_ok-flood.ensures.extent in
    let cells_g : w.extent.rows * w.extent.cols ≡ g.extent.rows * g.extent.cols = ap (λ (x : Extent). x.rows * x.cols) (sym e) in
    let f = c.new-2.result in
    let con : f.con ≡ new = ap (λ (x : Flooding). x.con) c.new-2.ensures ∙ c.new.ensures in
    let mark : f.mark ≡ flood.mark = ap (λ (x : Flooding). x.mark) c.new-2.ensures ∙ c.into_parts-con.ensures.marks in
    let surface = c.in_ok-flood.ensures.surface g cells (ground_between g w.extent c.args.elevation.items e heights) in
    let first : IsLeastSurface g (λ b. get_or old (index_of g.extent b) (pos 0)) =
    subst (λ (xs : List ℤ). IsLeastSurface g (λ b. get_or xs (index_of g.extent b) (pos 0))) (sym c.into_parts-con.ensures.heights) (flood_is_filled g flood surface).least in
    let least : IsLeastSurface g (con_at g.extent f) =
    subst (λ (xs : List ℤ). IsLeastSurface g (λ b. get_or xs (index_of g.extent b) (pos 0))) (sym con)
    (least_still g w old new c.args.void e long each cells.has_data first pixels) in
    surface_of_least g flood f surface (ap length con ∙ c.put_voids.ensures.len ∙ long ∙ cells_g) mark least)

pub returns-clause-voids : goal.returns-clause-voids
returns-clause-voids c = λ g cells at inside void.
    (let f = c.new-2.result in
    let w = c.args.ground.now in
    let old = c.into_parts-con.result.0.items in
    let new = c.put_voids.new.con.items in
    let each = subst (λ z. (k : ℕ) → k < length old → IsVoided z (get_or w.marks k 0) (get_or old k (pos 0)) (get_or new k (pos 0)))
    (to_z-of_z w64 c.args.void c.ranges.void) c.put_voids.ensures.each in
    let long : length old ≡ w.extent.rows * w.extent.cols = c.into_parts-con.ensures.counted ∙ ap (λ (x : Extent). x.rows * x.cols) c.in_ok-flood.ensures.extent in
    let con : f.con ≡ c.put_voids.new.con.items = ap (λ (x : Flooding). x.con) c.new-2.ensures ∙ c.new.ensures in
    ap (λ xs. get_or xs (index_of g.extent at) (pos 0)) con
    ∙ void_there g w old new c.args.void cells.extent long each
    at inside (cells.void at inside void))
