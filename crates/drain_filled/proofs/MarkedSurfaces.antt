-- A least surface with the marks of its cells is a surface from which ways are found; between pixels it has pixels' numbers.
use Rattle.drain_filled.proofs.Names.{HasHeights, ArePixelHeights, DataCells, IsVoided, data_mark, Flooding, IsBetween, IsSurfaceOf, con_at, mark_at, UNREACHED, least_at_open, least_beside, AreNeighbors-lies, step_lies, index_of-below, Extent, index_of, Grid, HasData, IsInside, height_at, IsLeastSurface, NeverRises, Surface, Cell, List, [], ap, arith, get_or, length, pos, refl, subst, sym, ℕ, ℤ, ◌*◌, ◌<◌, ◌∙◌, ◌∷◌, ◌≡◌, ◌≢◌, ◌≤ℤ◌, ints}
use Rattle.drain_grid.specs.declared.values.TheConstants.{LEAST_PIXEL, GREATEST_PIXEL}
use Rattle.drain_grid.specs.Values.{IsPixel}
use Rattle.drain_filled.proofs.LeastSurfaces.{same_cells_same_surface}

-- a surface of one height never rises
flat_falls : (g : Grid) (z : ℤ) (c : Cell) (rest : List Cell) → NeverRises (λ x. z) c rest
flat_falls g z c [] = tt
flat_falls g z c (n ∷ rest) = (omega (arith, ints), flat_falls g z n rest)

-- a least surface over pixels has pixels' numbers
pub least_is_pixel : (g : Grid) (s : Surface) → IsLeastSurface g s → ArePixelHeights g → (c : Cell) → HasData g c → IsPixel (s c)
least_is_pixel g s least ground c here = record {
  low = over LEAST_PIXEL (height_at g c) (s c) (ground c here).low (least.covers c here);
  high = least.least (λ x. GREATEST_PIXEL) (λ x at. (ground x at).high) (λ x at. (let way = least.drains x at in (way.0, way.1, flat_falls g GREATEST_PIXEL x way.0))) c here;
}
  where
    over : (a b z : ℤ) → a ≤ℤ b → b ≤ℤ z → a ≤ℤ z
    over a b z low high = omega (arith, ints, low, high)

-- the elevations themselves are between the ground and the least surface
pub ground_between : (g : Grid) (e : Extent) (xs : List ℤ) → g.extent ≡ e → HasHeights g (height_at g) xs → IsBetween g (λ c. get_or xs (index_of e c) (pos 0))
ground_between g e xs extent heights = record {
  covers = λ c here. same_at_most (height_at g c) _ (at c here);
  low = λ t covers drains c here. subst (λ z. z ≤ℤ t c) (at c here) (covers c here);
}
  where
    at : (c : Cell) → HasData g c → height_at g c ≡ get_or xs (index_of e c) (pos 0)
    at c here = heights c here ∙ ap (λ (x : Extent). get_or xs (index_of x c) (pos 0)) extent

    same_at_most : (a b : ℤ) → a ≡ b → a ≤ℤ b
    same_at_most a b same = omega (arith, ints, same)

-- a surface with other heights, if these are the least surface too
pub surface_of_least : (g : Grid) (old new : Flooding) → IsSurfaceOf g old → length new.con ≡ g.extent.rows * g.extent.cols → new.mark ≡ old.mark →
    IsLeastSurface g (con_at g.extent new) → IsSurfaceOf g new
surface_of_least g old new is con mark least = record {
  counted = record { con = con; mark = ap length mark ∙ is.counted.mark };
  voids = λ c inside void. same c ∙ is.voids c inside void;
  opened = λ c is_open. record {
    con = least_at_open g (con_at g.extent new) least c (record { inside = is_open.0; is_data = is_open.1.0 }) is_open;
    mark = same c ∙ (is.opened c is_open).mark;
  };
  closed = λ c here shut. same c ∙ is.closed c here shut;
  covers = least.covers;
  drains = least.drains;
  least = λ c n d here there leads. least_beside g (con_at g.extent new) least c n here there (AreNeighbors-lies c n d (step_lies g.extent c n d leads).1);
}
  where
    same : (c : Cell) → mark_at g.extent new c ≡ mark_at g.extent old c
    same c = ap (λ xs. get_or xs (index_of g.extent c) 0) mark

-- voids get their number, and the heights of data cells stay
module _ (g : Grid) (w : DataCells) (old new : List ℤ) (void : ℤ) (extent : g.extent ≡ w.extent) (long : length old ≡ w.extent.rows * w.extent.cols)
    (each : (k : ℕ) → k < length old → IsVoided void (get_or w.marks k 0) (get_or old k (pos 0)) (get_or new k (pos 0))) where
  at_cell : (c : Cell) → IsInside g c → IsVoided void (data_mark w c) (get_or old (index_of g.extent c) (pos 0)) (get_or new (index_of g.extent c) (pos 0))
  at_cell c inside =
      subst (λ (e : Extent). IsVoided void (get_or w.marks (index_of e c) 0) (get_or old (index_of g.extent c) (pos 0)) (get_or new (index_of g.extent c) (pos 0))) extent
      (each (index_of g.extent c) (subst (λ n. index_of g.extent c < n) (ap (λ (e : Extent). e.rows * e.cols) extent ∙ sym long) (index_of-below g.extent c inside)))

  pub void_there : (c : Cell) → IsInside g c → (data_mark w c ≢ UNREACHED) → get_or new (index_of g.extent c) (pos 0) ≡ void
  void_there c inside other = (at_cell c inside).at_void other

  pub least_still : ((c : Cell) → HasData g c → data_mark w c ≡ UNREACHED) → IsLeastSurface g (λ c. get_or old (index_of g.extent c) (pos 0)) → ArePixelHeights g →
      IsLeastSurface g (λ c. get_or new (index_of g.extent c) (pos 0))
  least_still marked least ground =
      same_cells_same_surface g g (λ c. get_or new (index_of g.extent c) (pos 0)) (λ c. get_or old (index_of g.extent c) (pos 0))
      (record { extent = refl; elevation = λ c inside. refl; sink = λ c inside. refl })
      (λ c here. (at_cell c here.inside).same (marked c here) (least_is_pixel g _ least ground c here)) least
