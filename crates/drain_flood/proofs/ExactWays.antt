-- The first steepest way down that a patch of the surface alone shows is that of the grid.
use Rattle.drain_flood.proofs.Names.{◌≡◌, ◌≢◌, ◌∙◌, inl, inr, ◌<◌, ◌≤ℤ◌, ◌<ℤ◌, ◌==◌, ℕ, ℤ, Option, Some, None, IsSome, if◌then◌else◌, refl, sym, ap, subst, arith, ne_eqb, false≢true, ints, by_lt_z, Cell, Direction, order_of, Extent, Grid, Products, HasData, IsInside, patch_at, values_at, IsLower, IsFirstSteepest, IsSteepest, key_to, Distances, Values, step_lies, cell_shown, shown_cell, VOID, Flooding, con_at, mark_at, IsSurfaceOf, IsCodeAt, IsLowerNeighbor, IsWayDown, key_down, marked_grid, marked_products, way_code}
use Rattle.std.proofs.Common.{eq-eqb}
use Rattle.drain_grid.specs.declared.patch.Patch.{Patch}
use Rattle.drain_flood.proofs.Cells.{none_or_some}
use Rattle.drain_flood.proofs.SteepestWays.{data_code}

some_unless : (mark : ℕ) (z : ℤ) → mark ≢ VOID → IsSome (if mark == VOID then None else Some z)
some_unless mark z other = subst (λ b. IsSome (if b then None else Some z)) (sym (ne_eqb mark VOID other)) refl

none_at : (mark : ℕ) (z : ℤ) → mark ≡ VOID → IsSome (if mark == VOID then None else Some z) → ⊥
none_at mark z is some = false≢true (subst (λ b. IsSome (if b then None else Some z)) (eq-eqb mark VOID is) some)

module _ (g : Grid) (f : Flooding) (surface : IsSurfaceOf g f) (c : Cell) (inside : IsInside g c) where
  abbrev gs : Grid
  gs = marked_grid (g.spacing c.row) g.extent f

  abbrev ps : Products
  ps = marked_products g.extent f

  abbrev p : Patch
  p = patch_at gs ps c

  data_there : (n : Cell) → HasData g n → HasData gs n
  data_there n here = record {
    inside = here.inside;
    is_data = some_unless (mark_at g.extent f n) (con_at g.extent f n) (data_code g f n surface here);
  }

  data_back : (n : Cell) → HasData gs n → HasData g n
  data_back n here =
      elim (none_or_some (g.elevation n)) [
        | inl void ↦ absurd (none_at (mark_at g.extent f n) (con_at g.extent f n) (surface.voids n here.inside void) here.is_data)
        | inr some ↦ record { inside = here.inside; is_data = some }
      ]

  shown : (d : Direction) (n : Cell) → IsLowerNeighbor g f c d n → IsLower p d (values_at gs ps n)
  shown d n lower = record {
    beside = shown_cell gs ps c n d (data_there n lower.has_data) (step_lies g.extent c n d lower.there).1;
    below = lower.below;
  }

  seen : (d : Direction) (v : Values) → IsLower p d v → (n : Cell) × (IsLowerNeighbor g f c d n × (values_at gs ps n ≡ v))
  seen d v lower =
      let found = cell_shown gs ps c d v lower.beside in (
        found.0,
        (
          record {
            there = found.1.there;
            has_data = data_back found.0 found.1.has_data;
            below = subst (λ (w : Values). w.con <ℤ con_at g.extent f c) (sym found.1.values) lower.below;
          },
          found.1.values,
        ),
      )

  none_down : ¬ (IsSome (gs.elevation c) × ((d : Direction) × ((n : Values) × IsLower p d n))) → HasData g c → IsWayDown g f c None
  none_down none here d n lower = none ((data_there c here).is_data, (d, (values_at gs ps n, shown d n lower)))

  some_down : (d : Direction) → IsSteepest p d → ((e : Direction) → order_of e < order_of d → ¬ IsSteepest p e) → IsWayDown g f c (Some d)
  some_down d steepest earlier =
      let v = steepest.0 in
      let found = seen d v steepest.1.lower in
      let n = found.0 in
      let key : key_to p d v ≡ key_down g f c d n = ap (key_to p d) (sym found.1.1) in
      let most : (e : Direction) (m : Cell) → IsLowerNeighbor g f c e m → key_down g f c e m ≤ℤ key_down g f c d n =
      λ e m lower. subst (λ k. key_down g f c e m ≤ℤ k) key (steepest.1.greatest e (values_at gs ps m) (shown e m lower)) in (
        n,
        record {
          lower = found.1.0;
          greatest = most;
          first = λ e m less lower.
              by_lt_z (key_down g f c e m) (key_down g f c d n) (λ below. below)
              (λ over. absurd (earlier e less (
                values_at gs ps m,
                record {
                  lower = shown e m lower;
                  greatest = λ x w low. over_all (key_to p x w) (key_to p d v) (key_down g f c d n) (key_down g f c e m) (steepest.1.greatest x w low) key over;
                },
              )));
        },
      )
    where
      over_all : (k top a b : ℤ) → k ≤ℤ top → top ≡ a → a ≤ℤ b → k ≤ℤ b
      over_all k top a b h is over = omega (arith, ints)

  code_of_steepest : (way : Option Direction) → IsFirstSteepest p way → (code : ℕ) → code ≡ way_code (mark_at g.extent f c) way → IsCodeAt g f c code
  code_of_steepest None none code is = record {
    void = λ void. is ∙ surface.voids c inside void;
    way = λ here. record { way = None; down = none_down none here; is = is };
  }
  code_of_steepest (Some d) (low, steepest, earlier) code is = record {
    void = λ void. absurd (none_at (mark_at g.extent f c) (con_at g.extent f c) (surface.voids c inside void) low.0);
    way = λ here. record { way = Some d; down = some_down d steepest earlier; is = is };
  }

-- the same of a patch that the code put together
pub code_of_patch : (g : Grid) (f : Flooding) (c : Cell) (e : Extent) (spacing : Distances) (p : Patch) → IsSurfaceOf g f → IsInside g c → g.extent ≡ e →
    g.spacing c.row ≡ spacing → p ≡ patch_at (marked_grid spacing e f) (marked_products e f) c → (way : Option Direction) → IsFirstSteepest p way →
    (code : ℕ) → code ≡ way_code (mark_at g.extent f c) way → IsCodeAt g f c code
code_of_patch g f c e spacing p surface inside same spaced shown way first =
    code_of_steepest g f surface c inside way
    (subst (λ (s : Distances). IsFirstSteepest (patch_at (marked_grid s g.extent f) (marked_products g.extent f) c) way) (sym spaced)
    (subst (λ (e : Extent). IsFirstSteepest (patch_at (marked_grid spacing e f) (marked_products e f) c) way) (sym same)
    (subst (λ (q : Patch). IsFirstSteepest q way) shown first)))
