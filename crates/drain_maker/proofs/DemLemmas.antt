-- A raster of elevations in memory: its grid, its cells with data, and what its filled surface shows.
use Rattle.drain_maker.proofs.Names.{◌≡◌, ◌≢◌, ◌∙◌, ◌+◌, ◌<◌, ◌≤◌, ◌≤ℤ◌, ◌<ℤ◌, ◌++◌, ℕ, ℤ, pos, is_some, Bool, true, false, List, [], ◌∷◌, Option, Some, None, IsSome, IsNone, Result, Ok, Err, IfOk, unwrap_or, inl, inr, length, get_or, if◌then◌else◌, refl, sym, subst, arith, int_max, int_eq, cases_lt, false≢true, Decides-int_eq, ints, clamps, by_lt_z, get_or_append_left, get_or_push, Cell, HeightKind, SinkLine, IsCellOf, index_of, Grid, HasData, IsInside, Pixels, height_at, FoundOffDataIsRight, IsLeastOff, IsOffAnswer, IsPath, NeverRises, Distances, IsPixel, number_at, none_or_some, CanSpellAllAs, CanSpellAs, Flooding, IsSurfaceOf, ShowsVoids, con_at, HasHeights, ArePixelHeights, DataCells, HasDataCells, AreOfGround, IsHeightAt, MarksDem, dem_elevation, dem_grid, has_elevation, spaced_dem_grid}
use Rattle.std.proofs.Common.{le-ltb, lt-ltb}
use Rattle.drain_grid.proofs.Alike.{same_index}
use Rattle.drain_grid.proofs.Lowered.{HasData-path}
use Rattle.drain_grid.proofs.Neighbors.{direction_between, step_gives}
use Rattle.drain_grid.proofs.Tallies.{void_data}

-- the test of a listed cell is whether it has data
told : (p : Pixels) (sinks : List SinkLine) (c : Cell) →
    (has_elevation p c ≡ true → HasData (dem_grid p sinks) c) × (has_elevation p c ≡ false → ¬ HasData (dem_grid p sinks) c)
told p sinks c = elim (cases_lt c.row p.extent.rows) [
  | inr past ↦ (
    λ is. absurd (let no : false ≡ true = sym (rw (le-ltb c.row p.extent.rows past) refl) ∙ is in cc),
    λ is has. (let row = has.inside.row in omega (arith, past, row)),
  )
  | inl row ↦ elim (cases_lt c.col p.extent.cols) [
    | inr past ↦ (
      λ is. absurd (let no : false ≡ true = sym (rw (lt-ltb c.row p.extent.rows row, le-ltb c.col p.extent.cols past) refl) ∙ is in cc),
      λ is has. (let col = has.inside.col in omega (arith, past, col)),
    )
    | inl col ↦ (let said : has_elevation p c ≡ is_some (dem_elevation p c) = rw (lt-ltb c.row p.extent.rows row, lt-ltb c.col p.extent.cols col) refl in (
      λ is. record { inside = record { row = row; col = col }; is_data = sym said ∙ is },
      λ is has. (let no : true ≡ false = sym has.is_data ∙ sym said ∙ is in cc),
    ))
  ]
]

pub found_in_dem : FoundOffDataIsRight → (p : Pixels) (sinks : List SinkLine) (found : Option ℕ) → IsLeastOff (has_elevation p) sinks (length sinks) found →
    IsOffAnswer (dem_grid p sinks) sinks found
found_in_dem law p sinks found least = law (dem_grid p sinks) sinks (has_elevation p) found (λ k s at. told p sinks s.cell) least

-- Numbers that may be that of a void.

some_is : (b : Bool) (n : ℤ) → IsSome (if b then None else Some n) → unwrap_or (if b then None else Some n) (pos 0) ≡ n
some_is true n some = absurd (false≢true some)
some_is false n some = refl

none_is : (b : Bool) (n : ℤ) → IsNone (if b then None else Some n) → b ≡ true
none_is true n none = refl
none_is false n none = void_data (Some n) none refl

not_void : (b : Bool) (n : ℤ) → IsSome (if b then None else Some n) → b ≡ true → ⊥
not_void true n some is = false≢true some
not_void false n some is = false≢true is

module _ (spacing : ℕ → Distances) (p : Pixels) (sinks : List SinkLine) where
  abbrev g : Grid
  g = spaced_dem_grid spacing p sinks

  pub height_is : (c : Cell) → HasData g c → height_at g c ≡ number_at p c
  height_is c here = some_is (int_eq (number_at p c) p.nodata) (number_at p c) here.is_data

  pub void_is : (c : Cell) → IsNone (g.elevation c) → number_at p c ≡ p.nodata
  void_is c none = (Decides-int_eq (number_at p c) p.nodata).0 (none_is (int_eq (number_at p c) p.nodata) (number_at p c) none)

  pub data_differs : (c : Cell) → HasData g c → number_at p c ≢ p.nodata
  data_differs c here same = not_void (int_eq (number_at p c) p.nodata) (number_at p c) here.is_data ((Decides-int_eq (number_at p c) p.nodata).1 same)

  pub cells_of : (w : DataCells) → MarksDem p w → HasDataCells g w sinks
  cells_of w marks = record {
    extent = sym marks.extent;
    has_data = λ c here. (marks.marks c here.inside).some here.is_data;
    void = λ c inside none mark. void_data (g.elevation c) none ((marks.marks c inside).none mark);
    sink = λ c inside. refl;
  }

  module _ (heights : List ℤ) (each : (c : Cell) → IsCellOf p.extent c → IsHeightAt p c (get_or heights (index_of p.extent c) (pos 0))) where
    pub heights_are : HasHeights g (height_at g) heights
    heights_are c here = height_is c here ∙ sym (each c here.inside).is

    pub pixels_are : ArePixelHeights g
    pixels_are c here = subst IsPixel (sym (heights_are c here)) (each c here.inside).pixel

    -- where there is a void, its number is a pixel's
    pub void_is_pixel : (c : Cell) → IsInside g c → IsNone (g.elevation c) → IsPixel p.nodata
    void_is_pixel c inside none = subst IsPixel ((each c inside).is ∙ void_is c none) (each c inside).pixel

-- Each height of a filled surface is the elevation of some cell: of the cell where its path down last rises to it.

module _ (g : Grid) (f : Flooding) (surface : IsSurfaceOf g f) where
  own : (z con next : ℤ) → z ≤ℤ con → con ≤ℤ int_max z next → next ≤ℤ z → con ≡ z
  own z con next over least most = omega (arith, ints, clamps)

  onward : (z con next : ℤ) → con ≤ℤ int_max z next → next ≤ℤ con → z <ℤ next → con ≡ next
  onward z con next least down less = omega (arith, ints, clamps)

  on_path : (c : Cell) (rest : List Cell) → IsPath g c rest → NeverRises (con_at g.extent f) c rest → (n : Cell) × HasData g n × (con_at g.extent f c ≡ height_at g n)
  on_path c [] path falls = (c, HasData-path g c [] path, (surface.opened c path).con)
  on_path c (n ∷ rest) path falls =
      let there = HasData-path g n rest path.2 in
      let way = direction_between c n path.1 in
      let least = surface.least c n way.0 path.0 there (step_gives g.extent c n way.0 there.inside way.1) in
      by_lt_z (height_at g c) (con_at g.extent f n)
      (λ less.
      (let on = on_path n rest path.2 falls.1 in
      (on.0, on.1, onward (height_at g c) (con_at g.extent f c) (con_at g.extent f n) least falls.0 less ∙ on.2)))
      (λ most. (c, path.0, own (height_at g c) (con_at g.extent f c) (con_at g.extent f n) (surface.covers c path.0) least most))

  pub of_ground : AreOfGround g (con_at g.extent f)
  of_ground c here = let way = surface.drains c here in on_path c way.0 way.1 way.2

-- so its height at a data cell is no void's
pub shows_voids : (spacing : ℕ → Distances) (p : Pixels) (sinks : List SinkLine) (f : Flooding) (void : ℤ) → IsSurfaceOf (spaced_dem_grid spacing p sinks) f →
    ((c : Cell) → IsInside (spaced_dem_grid spacing p sinks) c → IsNone (dem_elevation p c) → con_at p.extent f c ≡ void) →
    ((c : Cell) → IsInside (spaced_dem_grid spacing p sinks) c → IsNone (dem_elevation p c) → void ≡ p.nodata) → ShowsVoids (spaced_dem_grid spacing p sinks) f p.nodata
shows_voids spacing p sinks f void surface voids same = record {
  voids = λ c inside none. voids c inside none ∙ same c inside none;
  differs = λ c here is.
      (let up = of_ground (spaced_dem_grid spacing p sinks) f surface c here in
      data_differs spacing p sinks up.0 up.1 (sym (height_is spacing p sinks up.0 up.1) ∙ sym up.2 ∙ is));
}

-- whatever encodes the numbers of the raster encodes con's: each is one of them
pub con_spelled : (spacing : ℕ → Distances) (p : Pixels) (sinks : List SinkLine) (con : Pixels) (kind : HeightKind) (signed : Bool) (bits : ℕ) → con.extent ≡ p.extent → AreOfGround (spaced_dem_grid spacing p sinks) (number_at con) →
    ((c : Cell) → IsCellOf p.extent c → IsNone (dem_elevation p c) → number_at con c ≡ p.nodata) → CanSpellAllAs kind signed bits p → CanSpellAllAs kind signed bits con
con_spelled spacing p sinks con kind signed bits shape ground voids spelled c inside =
    let there : IsCellOf p.extent c = subst (λ e. IsCellOf e c) shape inside in
    elim (none_or_some (dem_elevation p c)) [
      | inl none ↦ subst (CanSpellAs kind signed bits) (void_is spacing p sinks c none ∙ sym (voids c there none)) (spelled c there)
      | inr some ↦
          (let up = ground c (record { inside = there; is_data = some }) in
          subst (CanSpellAs kind signed bits) (sym (up.2 ∙ height_is spacing p sinks up.0 up.1)) (spelled up.0 up.1.inside))
    ]

-- one more number, as `with_next` of drain_flood
pub with_height : (p : Pixels) (Is : Cell → ℤ → Type 0) (xs : List ℤ) (x : ℤ) (place : ℕ) (n : Cell) → IsCellOf p.extent n → index_of p.extent n ≡ place → length xs ≡ place →
    Is n x → ((c : Cell) → IsCellOf p.extent c → index_of p.extent c < place → Is c (get_or xs (index_of p.extent c) (pos 0))) →
    (c : Cell) → IsCellOf p.extent c → index_of p.extent c < place + 1 → Is c (get_or (xs ++ x ∷ []) (index_of p.extent c) (pos 0))
with_height p Is xs x place n at place_is long right before c inside less =
    elim (cases_lt (index_of p.extent c) place) [
      | inl early ↦ subst (Is c) (sym (get_or_append_left xs (x ∷ []) (pos 0) (index_of p.extent c) (subst (λ m. index_of p.extent c < m) (sym long) early)))
          (before c inside early)
      | inr late ↦
          (let here : index_of p.extent c ≡ place = last (index_of p.extent c) place less late in
          let one : n ≡ c = same_index p.extent n c at inside (place_is ∙ sym here) in
          subst (Is c) (sym (get_or_push xs x (pos 0) (index_of p.extent c) (long ∙ sym here))) (subst (λ a. Is a x) one right))
    ]
  where
    last : (k place : ℕ) → k < place + 1 → place ≤ k → k ≡ place
    last k place less most = omega (arith, less, most)

-- two facts of what came together
pub both_ok : {X E : Type 0} (r : Result X E) (P Q R : X → Type 0) → ((x : X) → P x → Q x → R x) → IfOk r P → IfOk r Q → IfOk r R
both_ok (Ok x) P Q R together p q = together x p q
both_ok (Err e) P Q R together p q = tt
