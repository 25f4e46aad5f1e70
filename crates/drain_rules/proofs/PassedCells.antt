-- One cell more of the judged cells of a row of patches: what holds there, and how many pass a test.
use Rattle.drain_rules.proofs.Names.{◌≡◌, ℕ, ◌+◌, ◌-◌, ◌<◌, ◌≤◌, inl, inr, Bool, cond, int_lt, is_some, unwrap_or, pos, None, ap, ◌∙◌, subst, arith, count_by, cases_lt, sum_by-map-range_with_len_more, Cell, Judged, Patch, Rule, IsLeastFault, IsPatchRule, is_data, is_raised, HoldsAt, SharedLabelHolds, Grid, Products, IsInside, patch_at, values_at, Profile, Values, Tally, HoldBetween, cells_between, CountsAmong, IsTriedIf, IsOutletByCode, AreRowPatches, place, has_outlet_code}
use Rattle.std.proofs.Common.{◌&&◌}
use Rattle.std.specs.Ordering.{int_eq}
use Rattle.drain_rules.proofs.Faults.{holds_tried, least-labelled}

-- the cells from one column up to another keep one's own rules, and are counted
pub record IsPassed (profile : Profile) (IsOwn : Rule → Type 0) (g : Grid) (ps : Products) (row from col : ℕ) (tally : Tally) : Type 0 where
  pub holds : HoldBetween profile IsOwn g ps row from col
  pub counted : CountsAmong g ps (cells_between row from col) tally

-- a column of the row is one of the grid
pub inside-row : (g : Grid) (ps : Products) (row col cols : ℕ) (shown : ℕ → Patch) → AreRowPatches g ps row cols shown → col < cols → IsInside g (place row col)
inside-row g ps row col cols shown are less = record { row = are.inside; col = omega (arith, less, are.cols_are) }

-- how many pass, with one cell more
count_by-between_more : (p : Cell → Bool) (row from col : ℕ) → from ≤ col →
    count_by p (cells_between row from (col + 1)) ≡ count_by p (cells_between row from col) + cond (p (place row col)) 1 0
count_by-between_more p row from col past =
    let one_more : col + 1 - from ≡ col - from + 1 = omega arith in
    rw one_more (sum_by-map-range_with_len_more (λ c. cond (p c) 1 0) (place row) from (col - from) col (omega arith))

-- no cell is passed at first
pub passed-none : (profile : Profile) (IsOwn : Rule → Type 0) (g : Grid) (ps : Products) (row from : ℕ) (tally : Tally) →
    tally ≡ record { data_cells = 0; raised = 0; outlets = 0 } → IsPassed profile IsOwn g ps row from from tally
passed-none profile IsOwn g ps row from tally none =
    let empty : from - from ≡ 0 = omega arith in
    record {
      holds = λ col rule past less own. absurd (omega arith);
      counted = record {
        data_cells = rw empty (ap (λ (t : Tally). t.data_cells) none);
        raised = rw empty (ap (λ (t : Tally). t.raised) none);
        outlets = rw empty (ap (λ (t : Tally). t.outlets) none);
      };
    }

-- the counts with one cell more
counted-more : (g : Grid) (ps : Products) (row from col : ℕ) (here : Values) (old new : Tally) → from ≤ col →
    here ≡ values_at g ps (place row col) → CountsAmong g ps (cells_between row from col) old →
    new.data_cells ≡ old.data_cells + cond (is_some here.z) 1 0 →
    new.raised ≡ old.raised + cond (is_some here.z && int_lt (unwrap_or here.z (pos 0)) here.con) 1 0 →
    new.outlets ≡ old.outlets + cond (is_some here.z && int_eq here.dir (pos 0)) 1 0 →
    CountsAmong g ps (cells_between row from (col + 1)) new
counted-more g ps row from col here old new past is so_far data_cells raised outlets =
    let one_data = count_by-between_more (is_data g) row from col past in
    let one_raised = count_by-between_more (is_raised g ps) row from col past in
    let one_outlet = count_by-between_more (has_outlet_code g ps) row from col past in
    let data_here : new.data_cells ≡ old.data_cells + cond (is_data g (place row col)) 1 0 = rw is at data_cells in
    let raised_here : new.raised ≡ old.raised + cond (is_raised g ps (place row col)) 1 0 = rw is at raised in
    let outlet_here : new.outlets ≡ old.outlets + cond (has_outlet_code g ps (place row col)) 1 0 = rw is at outlets in
    record {
      data_cells = omega (arith, one_data, data_here, so_far.data_cells);
      raised = omega (arith, one_raised, raised_here, so_far.raised);
      outlets = omega (arith, one_outlet, outlet_here, so_far.outlets);
    }

-- rules that hold between hold with one cell more
pub holds-more : (profile : Profile) (IsOwn : Rule → Type 0) (g : Grid) (ps : Products) (row from col : ℕ) → HoldBetween profile IsOwn g ps row from col →
    IsLeastFault IsOwn (HoldsAt profile g ps (place row col)) None → HoldBetween profile IsOwn g ps row from (col + 1)
holds-more profile IsOwn g ps row from col before here k rule past less own = elim (cases_lt k col) [
  | inl earlier ↦ before k rule past earlier own
  | inr behind ↦
      (let same : col ≡ k = omega (arith, behind, less) in
      subst (λ n. HoldsAt profile g ps (place row n) rule) same (here rule own))
]

-- where one's own rules hold at the next cell, it is passed too
pub passed-more : (profile : Profile) (IsOwn : Rule → Type 0) (g : Grid) (ps : Products) (row from col cols : ℕ) (shown : ℕ → Patch) (v : Values) (old new : Tally) →
    AreRowPatches g ps row cols shown → from ≤ col → col < cols → v ≡ (shown col).here → IsPassed profile IsOwn g ps row from col old →
    IsLeastFault IsOwn (HoldsAt profile g ps (place row col)) None →
    new.data_cells ≡ old.data_cells + cond (is_some v.z) 1 0 →
    new.raised ≡ old.raised + cond (is_some v.z && int_lt (unwrap_or v.z (pos 0)) v.con) 1 0 →
    new.outlets ≡ old.outlets + cond (is_some v.z && int_eq v.dir (pos 0)) 1 0 → IsPassed profile IsOwn g ps row from (col + 1) new
passed-more profile IsOwn g ps row from col cols shown v old new are past less is passed least data_cells raised outlets = record {
  holds = holds-more profile IsOwn g ps row from col passed.holds least;
  counted = counted-more g ps row from col v old new past (is ∙ ap (λ (q : Patch). q.here) (are.patches_are col less)) passed.counted data_cells raised outlets;
}

-- at a cell that is no outlet every rule that is tried holds, if those of its patch do
pub no_outlet-holds : (compares : Bool) (judged : Judged) (profile : Profile) (g : Grid) (ps : Products) (row col cols : ℕ) (shown : ℕ → Patch) →
    AreRowPatches g ps row cols shown → col < cols → IsLeastFault IsPatchRule (profile (shown col)) None → ¬ IsOutletByCode (shown col).here →
    IsLeastFault (IsTriedIf compares judged) (HoldsAt profile g ps (place row col)) None
no_outlet-holds compares judged profile g ps row col cols shown are less hold no_outlet =
    let same : shown col ≡ patch_at g ps (place row col) = are.patches_are col less in
    let none : ¬ IsOutletByCode (values_at g ps (place row col)) = subst (λ (q : Patch). ¬ IsOutletByCode q.here) same no_outlet in
    let shared : SharedLabelHolds g ps (place row col) = λ here code b at_b earlier code_b alike. none (record { has_data = here.is_data; code = code }) in
    least-labelled profile (IsTriedIf compares judged) (λ v. Unit {0}) g ps (place row col) (shown col) None (λ own. (λ any. shared, λ holds. tt)) same
    (holds_tried compares judged profile (λ v. Unit {0}) (shown col) hold (λ own. tt))
