-- The cells of a padded grid: which have data, which are open, and what a patch shows of them. Where a step leads
-- outside the grid, it leads in the padded grid outside too, or to a void.
use Rattle.drain_laws.proofs.Names.{◌≡◌, true, false, ℤ, None, is_some, if◌then◌else◌, refl, ap, inl, inr, ◌⊎◌, ◌∙◌, pos, Option, Some, IsNone, IsSome, option_map, sym, subst, arith, false_from_ne_true, Cell, Extent, IsCellOf, step, Grid, Products, IsInside, HasData, IsOpenCell, values_at, patch_at, is_cell_of, EveryGridCanBePadded, PaddingKeepsData, PaddingKeepsOpen, Direction, Values, neighbor, cases, step_gives, step_lies, none_some, same_some, void_data, IsOpen-patch_at, cell_shown, neighbor-patch_at, IsPadded, AreSameAt}
use Rattle.drain_laws.proofs.AlikePatches.{AreAlike, AreSame, HaveSameRanks, ShowAlike, ShowsNoData, alike_turned, open_there}

-- A grid padded to a given size: voids beyond its last row and column, and no-data numbers there.

-- one number inside a grid of this size, another outside
abbrev laid : Extent → (Cell → ℤ) → ℤ → Cell → ℤ
laid e numbers other c = if (is_cell_of e c).test then numbers c else other

inside_test : (e : Extent) (c : Cell) → IsCellOf e c → (is_cell_of e c).test ≡ true
inside_test e c inside = (is_cell_of e c).complete inside

outside_test : (e : Extent) (c : Cell) → ¬ IsCellOf e c → (is_cell_of e c).test ≡ false
outside_test e c outside = false_from_ne_true (is_cell_of e c).test (λ is. outside ((is_cell_of e c).sound is))

laid_inside : (e : Extent) (numbers : Cell → ℤ) (other : ℤ) (c : Cell) → IsCellOf e c → laid e numbers other c ≡ numbers c
laid_inside e numbers other c inside = ap (λ b. if b then numbers c else other) (inside_test e c inside)

laid_outside : (e : Extent) (numbers : Cell → ℤ) (other : ℤ) (c : Cell) → ¬ IsCellOf e c → laid e numbers other c ≡ other
laid_outside e numbers other c outside = ap (λ b. if b then numbers c else other) (outside_test e c outside)

pub every_grid_can_be_padded : EveryGridCanBePadded
every_grid_can_be_padded g ps nodata e rows cols =
    let old = g.extent in
    let p : Grid = record {
      extent = e;
      elevation = λ c. if (is_cell_of old c).test then g.elevation c else None;
      sink = g.sink;
      spacing = g.spacing;
    } in
    let qs : Products = record {
      con = laid old ps.con nodata.con;
      dir = laid old ps.dir nodata.dir;
      acc = laid old ps.acc nodata.acc;
      bas = laid old ps.bas nodata.bas;
      spl = ps.spl;
      rnk = laid old ps.rnk nodata.rnk;
    } in
    record {
      grid = p;
      products = qs;
      size = refl;
      padded = record {
        grid = record {
          rows = rows;
          cols = cols;
          elevations = λ c inside. ap (λ b. if b then g.elevation c else None) (inside_test old c inside);
          sinks = λ c inside. refl;
          spacings = λ row within. refl;
          voids = λ c inside outside. ap (λ b. is_some (if b then g.elevation c else None)) (outside_test old c outside);
        };
        set = record {
          same = λ c inside. record {
            con = laid_inside old ps.con nodata.con c inside;
            dir = laid_inside old ps.dir nodata.dir c inside;
            acc = laid_inside old ps.acc nodata.acc c inside;
            bas = laid_inside old ps.bas nodata.bas c inside;
          };
          blank = λ c inside outside. record {
            con = laid_outside old ps.con nodata.con c outside;
            dir = laid_outside old ps.dir nodata.dir c outside;
            acc = laid_outside old ps.acc nodata.acc c outside;
            bas = laid_outside old ps.bas nodata.bas c outside;
          };
        };
      };
      ranks = record {
        same = λ c inside. laid_inside old ps.rnk nodata.rnk c inside;
        blank = λ c inside outside. laid_outside old ps.rnk nodata.rnk c outside;
      };
    }

-- a cell lies in a grid of this size, or does not
pub inside_or_not : (e : Extent) (c : Cell) → IsCellOf e c ⊎ ¬ IsCellOf e c
inside_or_not e c = cases (is_cell_of e c)

module _ (g p : Grid) (padded : IsPadded g p) where
  -- the grid's cells are cells of the padded one
  pub within : (c : Cell) → IsInside g c → IsInside p c
  within c inside =
      let rows = padded.rows in
      let cols = padded.cols in
      let row = inside.row in
      let col = inside.col in
      record { row = omega arith; col = omega arith }

  pub data_there : (c : Cell) → HasData g c → HasData p c
  data_there c here = record {
    inside = within c here.inside;
    is_data = subst IsSome (sym (padded.elevations c here.inside)) here.is_data;
  }

  pub data_back : (c : Cell) → HasData p c → HasData g c
  data_back c here =
      elim (inside_or_not g.extent c) [
        | inl inside ↦ record { inside = inside; is_data = subst IsSome (padded.elevations c inside) here.is_data }
        | inr beyond ↦ absurd (void_data (p.elevation c) (padded.voids c here.inside beyond) here.is_data)
      ]

  -- a step that leads to one cell of the grid in both
  pub record LeadsInside (c : Cell) (d : Direction) : Type 0 where
    pub cell : Cell
    pub inside : IsInside g cell
    pub here : step g.extent c d ≡ Some cell
    pub there : step p.extent c d ≡ Some cell

  -- one that leads out of the grid, and in the padded one out or to a void
  pub record LeadsOut (c : Cell) (d : Direction) : Type 0 where
    pub here : step g.extent c d ≡ None
    pub there : (n : Cell) → step p.extent c d ≡ Some n → IsNone (p.elevation n)

  -- each step is one of these
  pub step_alike : (c : Cell) (d : Direction) → LeadsInside c d ⊎ LeadsOut c d
  step_alike c d = by_step (step g.extent c d) refl
    where
      by_step : (o : Option Cell) → step g.extent c d ≡ o → LeadsInside c d ⊎ LeadsOut c d
      by_step None is = inr (record {
        here = is;
        there = λ n leads.
            (let lies = step_lies p.extent c n d leads in
            padded.voids n lies.0 (λ inside. none_some n (sym is ∙ step_gives g.extent c n d inside lies.1)));
      })
      by_step (Some n) is =
          let lies = step_lies g.extent c n d is in
          inl (record { cell = n; inside = lies.0; here = is; there = step_gives p.extent c n d (within n lies.0) lies.1 })

  -- what has the same numbers at the grid's cells has alike patches there
  module _ (ps qs : Products) (same : (c : Cell) → IsInside g c → AreSameAt ps qs c) where
    same_at : (c : Cell) → IsInside g c → AreSame (values_at g ps c) (values_at p qs c)
    same_at c inside =
        let numbers = same c inside in
        record {
          z = sym (padded.elevations c inside);
          con = sym numbers.con;
          dir = sym numbers.dir;
          acc = sym numbers.acc;
          bas = sym numbers.bas;
        }

    -- what shows no data
    shows_none : (o : Option Cell) → ((n : Cell) → o ≡ Some n → IsNone (p.elevation n)) → ShowsNoData (option_map (values_at p qs) o)
    shows_none None none = tt
    shows_none (Some n) none = none n refl

    shows_alike : (c : Cell) (d : Direction) →
        ShowAlike (option_map (values_at g ps) (step g.extent c d)) (option_map (values_at p qs) (step p.extent c d))
    shows_alike c d =
        elim (step_alike c d) [
          | inl on ↦
              inr (record {
                one = values_at g ps on.cell;
                other = values_at p qs on.cell;
                one_is = ap (option_map (values_at g ps)) on.here;
                other_is = ap (option_map (values_at p qs)) on.there;
                same = same_at on.cell on.inside;
              })
          | inr out ↦
              inl (subst (λ o. ShowsNoData (option_map (values_at g ps) o)) (sym out.here) tt, shows_none (step p.extent c d) out.there)
        ]

    pub patches_alike : (c : Cell) → IsInside g c → AreAlike (patch_at g ps c) (patch_at p qs c)
    patches_alike c inside = record {
      here = same_at c inside;
      sink = sym (padded.sinks c inside);
      around = λ d.
          subst (λ o. ShowAlike o (neighbor (patch_at p qs c) d)) (sym (neighbor-patch_at g ps c d))
          (subst (λ o. ShowAlike (option_map (values_at g ps) (step g.extent c d)) o) (sym (neighbor-patch_at p qs c d))
          (shows_alike c d));
      spacing = sym (padded.spacings c.row inside.row);
    }

    pub same_ranks : ((c : Cell) → IsInside g c → qs.rnk c ≡ ps.rnk c) → (c : Cell) → IsInside g c →
        HaveSameRanks (patch_at g ps c) (patch_at p qs c)
    same_ranks ranks c inside = record {
      here = sym (ranks c inside);
      around = λ d v w at_v at_w.
          (let one = cell_shown g ps c d v at_v in
          let other = cell_shown p qs c d w at_w in
          let there = step_gives p.extent c one.0 d (within one.0 one.1.has_data.inside) one.1.lies in
          let cell = same_some one.0 other.0 (sym there ∙ other.1.there) in
          ap (λ (u : Values). u.rnk) (sym one.1.values)
          ∙ sym (ranks one.0 one.1.has_data.inside)
          ∙ ap qs.rnk cell
          ∙ ap (λ (u : Values). u.rnk) other.1.values);
    }

-- the number 0 everywhere
all_zero : Products
all_zero = record { con = λ c. pos 0; dir = λ c. pos 0; acc = λ c. pos 0; bas = λ c. pos 0; spl = λ c. pos 0; rnk = λ c. pos 0 }

zeros_same : (c : Cell) → AreSameAt all_zero all_zero c
zeros_same c = record { con = refl; dir = refl; acc = refl; bas = refl }

pub padding_keeps_data : PaddingKeepsData
padding_keeps_data g p padded c = (data_back g p padded c, data_there g p padded c)

-- what is open shows in the patches, whatever the products
pub padding_keeps_open : PaddingKeepsOpen
padding_keeps_open g p padded c = (λ is_open. back is_open, λ is_open. there is_open)
  where
    there : IsOpenCell g c → IsOpenCell p c
    there is_open =
        let alike = patches_alike g p padded all_zero all_zero (λ b inside. zeros_same b) c is_open.0 in
        (IsOpen-patch_at p all_zero c (within g p padded c is_open.0)).0
        (open_there alike ((IsOpen-patch_at g all_zero c is_open.0).1 is_open))

    back : IsOpenCell p c → IsOpenCell g c
    back is_open =
        let inside = (data_back g p padded c (record { inside = is_open.0; is_data = is_open.1.0 })).inside in
        let alike = patches_alike g p padded all_zero all_zero (λ b inside. zeros_same b) c inside in
        (IsOpen-patch_at g all_zero c inside).0
        (open_there (alike_turned alike) ((IsOpen-patch_at p all_zero c is_open.0).1 is_open))
