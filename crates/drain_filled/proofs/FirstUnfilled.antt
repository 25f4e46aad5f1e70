-- What a comparison with the raised heights says of each grid with the same cells.
--
-- The heights are the least surface of the grid. Each other least surface is equal to it at data cells. So the first data cell
-- where the lists differ is the first one where the surface isn't filled.
use Rattle.drain_filled.proofs.Names.{AreOneBefore, HasCellsOf, HasHeights, HasMark, IsFirstOther, IsFirstUnfilled, HasSinks, IsGroundAndCon, mark_of, DataCells, HasDataCells, data_mark, listed_grid, none_or_some, IsBetween, listed_at, UNREACHED, earlier_index, con_below, levels, index_of-below, Extent, IsCellOf, Grid, HasData, IsInside, Products, height_at, IsLeastSurface, Surface, Cell, BelowGround, SinkLine, Bool, IsNone, IsSome, List, MatchOption, None, Option, Some, ap, arith, if◌then◌else◌, inl, inr, pos, refl, subst, sym, unwrap_or, ℕ, ℤ, ◌*◌, ◌==◌, ◌∙◌, ◌≡◌, ◌≤ℤ◌, cases_eq, eq-eqb, false≢true, ne_eqb, ints}
use Rattle.drain_grid.specs.GridRules.{RulesHold}
use Rattle.drain_grid.specs.PatchRules.{surface_rules}
use Rattle.drain_grid.specs.Rule.{IsFillRule}
use Rattle.drain_filled.proofs.LeastSurfaces.{one_least_surface, same_cells_same_surface}

pub its_own : (g : Grid) → HasCellsOf g g
its_own g = record { extent = refl; elevation = λ c inside. refl; sink = λ c inside. refl }

module _ (g : Grid) (s : Surface) (w : DataCells) (sinks : List SinkLine) (con least : List ℤ) (cells : HasDataCells g w sinks)
    (filled : IsLeastSurface g (listed_at w.extent least)) (has : HasHeights g s con) where
  has_mark : (c : Cell) → HasData g c → HasMark w c
  has_mark c here = record { inside = subst (λ e. IsCellOf e c) cells.extent here.inside; is_data = cells.has_data c here }

  data_there : (c : Cell) → HasMark w c → HasData g c
  data_there c mark =
      let inside : IsInside g c = subst (λ e. IsCellOf e c) (sym cells.extent) mark.inside in
      elim (none_or_some (g.elevation c)) [
        | inl void ↦ absurd (cells.void c inside void mark.is_data)
        | inr some ↦ record { inside = inside; is_data = some }
      ]

  -- the surface at a data cell is its number of the list
  listed : (c : Cell) → HasData g c → s c ≡ listed_at w.extent con c
  listed c here = has c here ∙ ap (λ (e : Extent). listed_at e con c) cells.extent

  all_filled : AreOneBefore w con least (w.extent.rows * w.extent.cols) → IsLeastSurface g s
  all_filled one =
      same_cells_same_surface g g s (listed_at w.extent least) (its_own g)
      (λ c here. (let at = has_mark c here in listed c here ∙ one c at (index_of-below w.extent c at.inside))) filled

  first_unfilled : (c : Cell) → IsFirstOther w con least c → IsFirstUnfilled g s c
  first_unfilled c first =
      let here : HasData g c = data_there c first.here in
      record {
        here = here;
        filled = (listed_at w.extent least, filled);
        differs = λ t other equal.
            first.differs (sym (listed c here) ∙ equal ∙ one_least_surface g t (listed_at w.extent least) other filled c here);
        before = λ t other b at earlier.
            (let there = has_mark b at in
            listed b at ∙ first.before b there (earlier_index w.extent b c there.inside earlier)
            ∙ one_least_surface g (listed_at w.extent least) t filled other b at);
      }

  pub found_unfilled : (found : Option Cell) → MatchOption found (AreOneBefore w con least (w.extent.rows * w.extent.cols)) (IsFirstOther w con least) →
      MatchOption found (IsLeastSurface g s) (IsFirstUnfilled g s)
  found_unfilled None one = all_filled one
  found_unfilled (Some c) first = first_unfilled c first

-- A grid with listed elevations has data where the marks say so, and the list is its ground.

some_marked : (mark : ℕ) (x : ℤ) → IsSome (if mark == UNREACHED then Some x else None) → mark ≡ UNREACHED
some_marked mark x some =
    elim (cases_eq mark UNREACHED) [
      | inl same ↦ same
      | inr differ ↦ absurd (false≢true (subst (λ (b : Bool). IsSome (if b then Some x else None)) (ne_eqb mark UNREACHED differ) some))
    ]

none_unmarked : (mark : ℕ) (x : ℤ) → mark ≡ UNREACHED → IsNone (if mark == UNREACHED then Some x else None) → ⊥
none_unmarked mark x same none =
    false≢true (sym (subst (λ (b : Bool). IsNone (if b then Some x else None)) (eq-eqb mark UNREACHED same) none))

marked_height : (mark : ℕ) (x : ℤ) → mark ≡ UNREACHED → unwrap_or (if mark == UNREACHED then Some x else None) (pos 0) ≡ x
marked_height mark x same = ap (λ (b : Bool). unwrap_or (if b then Some x else None) (pos 0)) (eq-eqb mark UNREACHED same)

module _ (g : Grid) (w : DataCells) (xs : List ℤ) (sinks : List SinkLine) (same : HasCellsOf g (listed_grid w xs sinks)) where
  pub cells_of : HasDataCells g w sinks
  cells_of = record {
    extent = same.extent;
    has_data = λ c here. some_marked (data_mark w c) (listed_at w.extent xs c) (subst IsSome (same.elevation c here.inside) here.is_data);
    void = λ c inside void mark. none_unmarked (data_mark w c) (listed_at w.extent xs c) mark (subst IsNone (same.elevation c inside) void);
    sink = same.sink;
  }

  at_ground : (c : Cell) → HasData g c → height_at g c ≡ listed_at w.extent xs c
  at_ground c here =
      ap (λ (z : Option ℤ). unwrap_or z (pos 0)) (same.elevation c here.inside)
      ∙ marked_height (data_mark w c) (listed_at w.extent xs c) (cells_of.has_data c here)

  pub ground_between : IsBetween g (listed_at w.extent xs)
  ground_between = record {
    covers = λ c here. (let at = at_ground c here in omega (arith, ints, at));
    low = λ t covers drains c here. (let at = at_ground c here in let most = covers c here in omega (arith, ints, at, most));
  }

-- Where rules 4, 5 and 9 hold con lies between the ground and the least surface.

module _ (g : Grid) (ps : Products) (ground : DataCells) (con : List ℤ) (sinks : List SinkLine) (parts : IsGroundAndCon g ps ground con)
    (listed_sinks : HasSinks g sinks) (rules : RulesHold surface_rules IsFillRule g ps) where
  some_is_marked : (z : Option ℤ) → IsSome z → mark_of z ≡ UNREACHED
  some_is_marked None some = absurd (false≢true some)
  some_is_marked (Some z) some = refl

  none_is_void : (z : Option ℤ) → IsNone z → mark_of z ≡ UNREACHED → ⊥
  none_is_void None none mark = absurd (omega (arith, mark))
  none_is_void (Some z) none mark = false≢true (sym none)

  con_cells : HasDataCells g ground sinks
  con_cells = record {
    extent = parts.extent;
    has_data = λ c here. parts.has_data c here.inside ∙ some_is_marked (g.elevation c) here.is_data;
    void = λ c inside void mark. none_is_void (g.elevation c) void (sym (parts.has_data c inside) ∙ mark);
    sink = listed_sinks;
  }

  is_con : (c : Cell) → HasData g c → listed_at ground.extent con c ≡ ps.con c
  is_con c here = ap (λ (e : Extent). listed_at e con c) (sym parts.extent) ∙ parts.con_is c here.inside

  con_between : IsBetween g (listed_at ground.extent con)
  con_between = record {
    covers = λ c here.
        (let at = is_con c here in
        let covered : height_at g c ≤ℤ ps.con c = rules c BelowGround here.inside (omega arith, omega arith) here.is_data in
        omega (arith, ints, at, covered));
    low = λ t covers drains c here.
        (let at = is_con c here in
        let way = drains c here in
        let most = con_below g ps (levels g ps rules) t covers c way.0 way.1 way.2 in
        omega (arith, ints, at, most));
  }

  pub con_compared : (found : Option Cell) →
      ((s : Surface) → HasDataCells g ground sinks → IsBetween g (listed_at ground.extent con) → HasHeights g s con → MatchOption found (IsLeastSurface g s) (IsFirstUnfilled g s)) →
      MatchOption found (IsLeastSurface g ps.con) (IsFirstUnfilled g ps.con)
  con_compared found answer = answer ps.con con_cells con_between (λ c here. sym (parts.con_is c here.inside))
