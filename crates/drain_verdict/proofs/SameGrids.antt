-- Two grids of one size whose cells show the same values, with their products: what holds of the one holds of the other.
-- No induction: a patch shows the same, and for paths the one grid is the other, padded by nothing.
use Rattle.drain_verdict.proofs.Names.{◌≡◌, ◌∙◌, ℤ, pos, Bool, ◌&&◌, cond, List, [], ◌∷◌, length, map, Some, None, IsSome, is_some, option_map, int_lt, arith, refl, sym, ap, subst, count_by, IsFirstUnfilled, Cell, Rule, SharedLabel, Verdict, Extent, IsCellOf, cells, step, Grid, HasData, patch_at, values_at, HoldsAt, IsFirstFault, RulesHold, IsLeastSurface, Surface, Profile, Distances, IsFirstEndless, run_steps, NoDataNumbers, Values, PaddingKeepsFirstEndless, PaddingKeepsRuns, AllRunsEnd, IsVerdictAmong, counts_of}
use Rattle.std.proofs.Common.{ℕ, Option, unwrap_or}
use Rattle.std.specs.Ordering.{int_eq}
use Rattle.drain_filled.proofs.LeastSurfaces.{same_cells_same_surface}
use Rattle.drain_grid.proofs.CellSums.{sum_by_cells_same}
use Rattle.drain_grid.proofs.Neighbors.{step_lies}
use Rattle.drain_grid.specs.declared.patch.Patch.{Patch}
use Rattle.drain_grid.specs.declared.verdict.Verdict.TheVariants.{Accepted, Rejected}
use Rattle.drain_grid.specs.Direction.{directions}
use Rattle.drain_grid.specs.Grid.{Products}
use Rattle.drain_laws.specs.Padding.{ArePadded}

-- the grid of these
abbrev pub on : Extent → (Cell → Option ℤ) → (Cell → Bool) → (ℕ → Distances) → Grid
on e z sink spacing = record { extent = e; elevation = z; sink = sink; spacing = spacing }

-- each cell shows the same in both
abbrev pub ShowAlike : Extent → (Cell → Option ℤ) → (Cell → Option ℤ) → (Cell → Bool) → (ℕ → Distances) → Products → Products → Type 0
ShowAlike e z w sink spacing ps qs = (c : Cell) → IsCellOf e c → values_at (on e z sink spacing) ps c ≡ values_at (on e w sink spacing) qs c

pub turned : (e : Extent) (z w : Cell → Option ℤ) (sink : Cell → Bool) (spacing : ℕ → Distances) (ps qs : Products) → ShowAlike e z w sink spacing ps qs → ShowAlike e w z sink spacing qs ps
turned e z w sink spacing ps qs same c inside = sym (same c inside)

-- 1 where the test passes
abbrev one_if : Bool → ℕ
one_if b = cond b 1 0

-- the cells after the first
abbrev rest_of : List Cell → List Cell
rest_of [] = []
rest_of (c ∷ cs) = cs

module _ (e : Extent) (z w : Cell → Option ℤ) (sink : Cell → Bool) (spacing : ℕ → Distances) (ps qs : Products) (same : ShowAlike e z w sink spacing ps qs) where
  abbrev g : Grid
  g = on e z sink spacing

  abbrev h : Grid
  h = on e w sink spacing

  values : (o : Option Cell) → ((n : Cell) → o ≡ Some n → IsCellOf e n) → option_map (values_at g ps) o ≡ option_map (values_at h qs) o
  values None inside = refl
  values (Some n) inside = ap (λ v. Some v) (same n (inside n refl))

  patch : (c : Cell) → IsCellOf e c → patch_at g ps c ≡ patch_at h qs c
  patch c inside = λ i. record {
    here = same c inside i;
    around = map (λ d. values (step e c d) (λ n is. (step_lies e c n d is).0) i) directions;
    spacing = spacing c.row;
  }

  pub data_there : (c : Cell) → HasData g c → HasData h c
  data_there c here = record { inside = here.inside; is_data = subst (λ (v : Values). IsSome v.z) (same c here.inside) here.is_data }

  pub data_back : (c : Cell) → HasData h c → HasData g c
  data_back c here = record { inside = here.inside; is_data = subst (λ (v : Values). IsSome v.z) (sym (same c here.inside)) here.is_data }

  dir : (c : Cell) → IsCellOf e c → ps.dir c ≡ qs.dir c
  dir c inside = ap (λ (v : Values). v.dir) (same c inside)

  bas : (c : Cell) → IsCellOf e c → ps.bas c ≡ qs.bas c
  bas c inside = ap (λ (v : Values). v.bas) (same c inside)

  pub holds : (profile : Profile) (c : Cell) (r : Rule) → IsCellOf e c → HoldsAt profile g ps c r → HoldsAt profile h qs c r
  holds profile c SharedLabel inside own = λ here code b at_b earlier other label.
      own (data_back c here) (dir c inside ∙ code) b (data_back b at_b) earlier (dir b at_b.inside ∙ other)
      (bas b at_b.inside ∙ (label ∙ sym (bas c inside)))
  holds profile c r inside own = subst (λ (p : Patch). profile p r) (patch c inside) own

  pub rules : (profile : Profile) (IsOwn : Rule → Type 0) → RulesHold profile IsOwn g ps → RulesHold profile IsOwn h qs
  rules profile IsOwn hold c r inside own = holds profile c r inside (hold c r inside own)

  tally : (test : Values → Bool) → count_by (λ c. test (values_at g ps c)) (cells e) ≡ count_by (λ c. test (values_at h qs c)) (cells e)
  tally test =
      sum_by_cells_same (λ c. one_if (test (values_at g ps c))) (λ c. one_if (test (values_at h qs c))) e
      (λ c inside. ap (λ v. one_if (test v)) (same c inside))

  pub counts : counts_of g ps ≡ counts_of h qs
  counts = λ i. record {
    rows = e.rows;
    cols = e.cols;
    data_cells = tally (λ v. is_some v.z) i;
    raised = tally (λ v. is_some v.z && int_lt (unwrap_or v.z (pos 0)) v.con) i;
    outlets = tally (λ v. is_some v.z && int_eq v.dir (pos 0)) i;
  }

  -- the one is the other, padded by nothing
  padded : (nodata : NoDataNumbers) → ArePadded g h ps qs nodata
  padded nodata = record {
    grid = record {
      rows = omega arith;
      cols = omega arith;
      elevations = λ c inside. sym (ap (λ (v : Values). v.z) (same c inside));
      sinks = λ c inside. refl;
      spacings = λ row below. refl;
      voids = λ c inside beyond. absurd (beyond inside);
    };
    set = record {
      same = λ c inside. record {
        con = sym (ap (λ (v : Values). v.con) (same c inside));
        dir = sym (dir c inside);
        acc = sym (ap (λ (v : Values). v.acc) (same c inside));
        bas = sym (bas c inside);
      };
      blank = λ c inside beyond. absurd (beyond inside);
    };
  }

  pub runs_end : PaddingKeepsRuns → NoDataNumbers → AllRunsEnd g ps → AllRunsEnd h qs
  runs_end kept nodata ends c here =
      let there = data_back c here in
      (kept g h ps qs nodata (padded nodata) c there).ends.1 (ends c there)

  pub steps : PaddingKeepsRuns → NoDataNumbers → AllRunsEnd g ps → (c : Cell) → HasData g c → run_steps g ps c ≡ run_steps h qs c
  steps kept nodata ends c here = sym (ap (λ cs. length (rest_of cs)) ((kept g h ps qs nodata (padded nodata) c here).same (ends c here)))

  pub first_endless : PaddingKeepsFirstEndless → NoDataNumbers → (c : Cell) → IsFirstEndless g ps c → IsFirstEndless h qs c
  first_endless kept nodata c = (kept g h ps qs nodata (padded nodata) c).1

  -- surfaces, of which the products say nothing
  pub least_there : (s : Surface) → IsLeastSurface g s → IsLeastSurface h s
  least_there s least =
      same_cells_same_surface h g s s
      (record { extent = refl; elevation = λ c inside. sym (ap (λ (v : Values). v.z) (same c inside)); sink = λ c inside. refl })
      (λ c here. refl) least

-- both ways
module _ (e : Extent) (z w : Cell → Option ℤ) (sink : Cell → Bool) (spacing : ℕ → Distances) (ps qs : Products) (same : ShowAlike e z w sink spacing ps qs) where
  pub first_fault : (profile : Profile) (IsOwn : Rule → Type 0) (c : Cell) (r : Rule) → IsFirstFault profile IsOwn (on e z sink spacing) ps c r →
      IsFirstFault profile IsOwn (on e w sink spacing) qs c r
  first_fault profile IsOwn c r fault = record {
    inside = fault.inside;
    is_own = fault.is_own;
    fails = λ own. fault.fails (holds e w z sink spacing qs ps (turned e z w sink spacing ps qs same) profile c r fault.inside own);
    first = λ b q at_b own earlier. holds e z w sink spacing ps qs same profile b q at_b (fault.first b q at_b own earlier);
  }

  pub verdict : (profile : Profile) (IsOwn : Rule → Type 0) (verdict : Verdict) → IsVerdictAmong profile IsOwn (on e z sink spacing) ps verdict →
      IsVerdictAmong profile IsOwn (on e w sink spacing) qs verdict
  verdict profile IsOwn (Accepted found) is = (rules e z w sink spacing ps qs same profile IsOwn is.0, is.1 ∙ counts e z w sink spacing ps qs same)
  verdict profile IsOwn (Rejected rule row col) is = first_fault profile IsOwn (record { row = row; col = col }) rule is

  pub first_unfilled : (c : Cell) (s : Surface) → IsFirstUnfilled (on e z sink spacing) s c → IsFirstUnfilled (on e w sink spacing) s c
  first_unfilled c s is = record {
    here = data_there e z w sink spacing ps qs same c is.here;
    filled = (is.filled.0, least_there e z w sink spacing ps qs same is.filled.0 is.filled.1);
    differs = λ t least. is.differs t (least_there e w z sink spacing qs ps (turned e z w sink spacing ps qs same) t least);
    before = λ t least b at_b earlier.
        is.before t (least_there e w z sink spacing qs ps (turned e z w sink spacing ps qs same) t least) b (data_back e z w sink spacing ps qs same b at_b) earlier;
  }
