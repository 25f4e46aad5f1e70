-- A raster of elevations in samples of 16 bits: its grid has the cells of the samples' grid, so a flood of the one is a flood
-- of the other.
use Rattle.drain_maker.proofs.Names.{◌≡◌, ◌∙◌, ◌<◌, ◌*◌, ◌≤ℤ◌, ◌<ℤ◌, ℕ, ℤ, pos, Bool, true, List, Some, None, IsNone, [], length, get_or, if◌then◌else◌, refl, sym, ap, subst, arith, int_max, int_eq, Decides-int_eq, ints, clamps, get_or_default, Cell, SinkLine, Extent, IsCellOf, index_of, step, Grid, Heights, IsInside, Pixels, height_at, Distances, unit_spacing, number_at, spaced_grid, index_of-below, NO_HEIGHT, Flooding, IsFlooded, IsSurfaceOf, con_at, mark_at, HasCellsOf, spaced_dem_grid, AreRoutes, AreNarrowed, IsNarrowed, IsSampleOf}
use Rattle.drain_grid.specs.declared.tile.TheConstants.{VOID}
use Rattle.drain_filled.proofs.LeastSurfaces.{covers_back, data_there, drains_back, height_there, open_there, turned}
use Rattle.drain_maker.proofs.DemLemmas.{shows_voids, void_is}

-- What holds of a flood of one grid holds of each grid with its cells.

module _ (g h : Grid) (same : HasCellsOf g h) (f : Flooding) where
  con_there : (c : Cell) → con_at g.extent f c ≡ con_at h.extent f c
  con_there c = ap (λ (e : Extent). con_at e f c) same.extent

  mark_there : (c : Cell) → mark_at g.extent f c ≡ mark_at h.extent f c
  mark_there c = ap (λ (e : Extent). mark_at e f c) same.extent

  inside_there : (c : Cell) → IsInside g c → IsInside h c
  inside_there c inside = subst (λ (e : Extent). IsCellOf e c) same.extent inside

  none_there : (c : Cell) → IsInside g c → IsNone (g.elevation c) → IsNone (h.elevation c)
  none_there c inside none = subst IsNone (same.elevation c inside) none

  surface_there : IsSurfaceOf h f → IsSurfaceOf g f
  surface_there s = record {
    counted = record {
      con = s.counted.con ∙ ap (λ (e : Extent). e.rows * e.cols) (sym same.extent);
      mark = s.counted.mark ∙ ap (λ (e : Extent). e.rows * e.cols) (sym same.extent);
    };
    voids = λ c inside none. mark_there c ∙ s.voids c (inside_there c inside) (none_there c inside none);
    opened = λ c is_open.
        (let at = s.opened c (open_there g h same c is_open) in
        record {
          con = con_there c ∙ at.con ∙ sym (height_there g h same c (record { inside = is_open.0; is_data = is_open.1.0 }));
          mark = mark_there c ∙ at.mark;
        });
    closed = λ c here shut. mark_there c ∙ s.closed c (data_there g h same c here) (λ is_open. shut (open_there h g (turned g h same) c is_open));
    covers = covers_back g h same (con_at g.extent f) (con_at h.extent f) (λ c here. con_there c) s.covers;
    drains = drains_back g h same (con_at g.extent f) (con_at h.extent f) (λ c here. con_there c) s.drains;
    least = λ c n d here there leads.
        carried (con_at g.extent f c) (height_at g c) (con_at g.extent f n) (con_at h.extent f c) (height_at h c) (con_at h.extent f n)
        (con_there c) (height_there g h same c here) (con_there n)
        (s.least c n d (data_there g h same c here) (data_there g h same n there) (ap (λ (e : Extent). step e c d) (sym same.extent) ∙ leads));
  }
    where
      carried : (a z b a' z' b' : ℤ) → a ≡ a' → z ≡ z' → b ≡ b' → a' ≤ℤ int_max z' b' → a ≤ℤ int_max z b
      carried a z b a' z' b' e k n most = omega (arith, ints, clamps, e, k, n, most)

  pub flooded_there : IsFlooded h f → IsFlooded g f
  flooded_there is = record {
    surface = surface_there is.surface;
    blank = λ c inside none. con_there c ∙ is.blank c (inside_there c inside) (none_there c inside none);
    heights = λ c here. subst (λ z. NO_HEIGHT <ℤ z) (sym (height_there g h same c here)) (is.heights c (data_there g h same c here));
  }

-- the grid of the raster has the cells of the samples' grid
pub narrowed_cells : (spacing : ℕ → Distances) (p : Pixels) (h : Heights) (sinks : List SinkLine) → IsNarrowed p h →
    HasCellsOf (spaced_dem_grid spacing p sinks) (spaced_grid spacing h sinks)
narrowed_cells spacing p h sinks is = record {
  extent = sym is.extent;
  elevation = λ c inside. sym (is.elevation c inside);
  sink = λ c inside. refl;
}

-- ways on a flood whose voids have the number of samples are ways on the raster's surface
pub narrow_routes : (spacing : ℕ → Distances) (p : Pixels) (h : Heights) (sinks : List SinkLine) (con : List ℤ) (rnk dirs : List ℕ) → IsNarrowed p h →
    AreRoutes (spaced_dem_grid spacing p sinks) NO_HEIGHT con rnk dirs → AreRoutes (spaced_dem_grid spacing p sinks) p.nodata con rnk dirs
narrow_routes spacing p h sinks con rnk dirs is routes = record {
  flood = routes.flood;
  laying = routes.laying;
  surface = routes.surface;
  voids = shows_voids spacing p sinks routes.flood NO_HEIGHT routes.surface routes.voids.voids (λ c inside none. sym (is.void c inside none));
  ways = routes.ways;
  con_is = routes.con_is;
  rnk_is = routes.rnk_is;
  dir_is = routes.dir_is;
}

-- Samples of numbers give their elevations.

if_same : (a b : Bool) (x y : ℤ) → a ≡ b → x ≡ y → (if a then None else Some x) ≡ (if b then None else Some y)
if_same a b x y same one = ap (λ (c : Bool). if c then None else Some x) same ∙ ap (λ z. if b then None else Some z) one

pub narrowed : (p : Pixels) (h : Heights) → h.extent ≡ p.extent → length p.numbers ≡ p.extent.rows * p.extent.cols → AreNarrowed p.nodata p.numbers h.samples → IsNarrowed p h
narrowed p h extent long are = record {
  extent = extent;
  elevation = λ c inside. if_same (int_eq (sample c) VOID) (int_eq (number_at p c) p.nodata) (sample c) (number_at p c) (void c inside) (same c inside);
  void = λ c inside none.
      (let number : number_at p c ≡ p.nodata = void_is (λ row. unit_spacing) p [] c none in
      let is : int_eq (sample c) VOID ≡ true = void c inside ∙ (Decides-int_eq (number_at p c) p.nodata).1 number in
      sym number ∙ sym (same c inside) ∙ (Decides-int_eq (sample c) VOID).0 is);
}
  where
    sample : Cell → ℤ
    sample c = get_or h.samples (index_of h.extent c) VOID

    at : (c : Cell) → IsCellOf p.extent c → IsSampleOf p.nodata (number_at p c) (sample c)
    at c inside =
        let below : index_of p.extent c < length p.numbers = subst (λ n. index_of p.extent c < n) (sym long) (index_of-below p.extent c inside) in
        let place : index_of p.extent c ≡ index_of h.extent c = ap (λ (e : Extent). index_of e c) (sym extent) in
        subst (IsSampleOf p.nodata (number_at p c))
        (get_or_default h.samples (index_of p.extent c) (pos 0) VOID (subst (λ n. index_of p.extent c < n) (sym are.counted) below) ∙ ap (λ k. get_or h.samples k VOID) place)
        (are.each (index_of p.extent c) below)

    void : (c : Cell) → IsCellOf p.extent c → int_eq (sample c) VOID ≡ int_eq (number_at p c) p.nodata
    void c inside = (at c inside).void

    same : (c : Cell) → IsCellOf p.extent c → sample c ≡ number_at p c
    same c inside = (at c inside).same
