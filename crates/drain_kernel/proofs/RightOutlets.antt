-- An outlet beside a void keeps every rule of its patch.
use Rattle.drain_kernel.proofs.Names.{◌≡◌, ℕ, ◌+◌, ◌-◌, ◌≤◌, ◌<◌, Bool, true, false, ◌==◌, IsTrue, slice_index, sym, ◌∙◌, arith, if◌then◌else◌, ◌≢◌, ◌⊎◌, min, Option, option_map, pos, map, List, Some, None, IsSome, inl, inr, refl, ap, subst, Decides-eqb, leb_tells, Along, HaveLabelAt, keeps_label_at, HaveRanks, IsShownRoundIn, and_parts, Direction, East, SouthEast, South, SouthWest, West, NorthWest, North, NorthEast, Patch, directions, code_of, Values, HasLower, IsOpen, HaveOneBias, LaneNumbers, ThreeLanes, Rules, IfJudged, has_acc, has_rnk, tried, rules_with, IsShownRound, row_beside, col_beside, IsLeastFault, IsPatchRule, IsGap, least_straight_in, least_across_in, highest}
use Rattle.drain_kernel.proofs.ClearedRules.{cleared, tested_too}
use Rattle.drain_kernel.specs.Shown.{height_of}
use Rattle.drain_kernel.proofs.Inland.{bias_beside, le_from, no_void, some_height}
use Rattle.drain_kernel.proofs.Meaning.{are_complete, no_outlet, not_zero}
use Rattle.drain_kernel.proofs.Numbers.{Numbers, numbers_in, patch_of, values_are}
use Rattle.drain_kernel.proofs.Ways.{AreSeen, number_of_lower}
use Rattle.drain_kernel.specs.Outlets.{OutletAt, keeps_outlet}
use Rattle.drain_kernel.proofs.NamedNumbers.{least_bound}
use Rattle.drain_kernel.proofs.OnGround.{IsSound, keeps_rules, rank_from}
use Rattle.drain_kernel.proofs.SeenNumbers.{are_seen, numbers_seen, sum_from}

-- Where all labels are one, a code leads to this label.

either : (b : Bool) (x y label : ℕ) → x ≡ label → y ≡ label → (if b then x else y) ≡ label
either true x y label one two = one
either false x y label one two = two

pub one_label : (rows : ThreeLanes) (label from end : ℕ) → 1 ≤ from → Along (from - 1) (end + 1) (HaveLabelAt rows label) → Along from end (λ k. IsTrue (keeps_label_at rows k))
one_label rows label from end inner all k low high =
    let code = slice_index rows.here.dir k in
    let left : from - 1 ≤ k - 1 = omega (arith, low) in
    let at : from - 1 ≤ k = omega (arith, low) in
    let right : from - 1 ≤ k + 1 = omega (arith, low) in
    let left_in : k - 1 < end + 1 = omega (arith, high) in
    let at_in : k < end + 1 = omega (arith, high) in
    let right_in : k + 1 < end + 1 = omega (arith, high) in
    let one = either (code == 2) _ _ label (all (k + 1) right right_in).below_is (all (k + 1) right right_in).here_is in
    let two = either (code == 4) _ _ label (all k at at_in).below_is one in
    let three = either (code == 8) _ _ label (all (k - 1) left left_in).below_is two in
    let four = either (code == 16) _ _ label (all (k - 1) left left_in).here_is three in
    let five = either (code == 32) _ _ label (all (k - 1) left left_in).above_is four in
    let six = either (code == 64) _ _ label (all k at at_in).above_is five in
    let seven = either (code == 128) _ _ label (all (k + 1) right right_in).above_is six in
    (Decides-eqb _ _).1 (seven ∙ sym (all k at at_in).here_is)

zero_of_min : (a b : ℕ) → min a b ≡ 0 → (a ≡ 0) ⊎ (b ≡ 0)
zero_of_min a b h = elim (leb_tells a b) [ inl told ↦ inl (omega (arith, h, told.1)) | inr told ↦ inr (omega (arith, h, told.1)) ]

-- where the least of the neighbours' numbers is 0, one of them is 0
zero_among : (f : Direction → ℕ) → min (least_straight_in (map f directions)) (least_across_in (map f directions)) ≡ 0 → (d : Direction) × (f d ≡ 0)
zero_among f h = elim (zero_of_min _ _ h) [
  | inl straight ↦ elim (zero_of_min _ _ straight) [
    | inl first ↦ elim (zero_of_min _ _ first) [ inl is ↦ (East, is) | inr is ↦ (South, is) ]
    | inr second ↦ elim (zero_of_min _ _ second) [ inl is ↦ (West, is) | inr is ↦ (North, is) ]
  ]
  | inr across ↦ elim (zero_of_min _ _ across) [
    | inl first ↦ elim (zero_of_min _ _ first) [ inl is ↦ (SouthEast, is) | inr is ↦ (SouthWest, is) ]
    | inr second ↦ elim (zero_of_min _ _ second) [ inl is ↦ (NorthWest, is) | inr is ↦ (NorthEast, is) ]
  ]
]

-- what the test of the outlet gives
record OfOutlet (here : Numbers) (heights : Direction → ℕ) (around : List (Option Values)) : Type 0 where
  has_data : here.z ≢ 0
  level : here.con ≡ here.z
  code : here.dir ≡ 0
  void : (d : Direction) × (heights d ≡ 0)
  none_lower : ¬ HasLower (patch_of here around)

of_outlet : (here : Numbers) (n : Direction → Numbers) (around : List (Option Values)) → AreSeen (highest here.bias) here n around →
    keeps_outlet here.z here.con here.dir (map (λ d. (n d).z) directions) (map (λ d. (n d).con) directions) ≡ true → OfOutlet here (λ d. (n d).z) around
unfolding keeps_outlet
of_outlet here n around seen h =
    let least = and_parts _ _ h in
    let void = and_parts _ _ least.0 in
    let code = and_parts _ _ void.0 in
    let level = and_parts _ _ code.0 in
    record {
      has_data = no_void here.z level.0;
      level = (Decides-eqb _ _).0 level.1;
      code = (Decides-eqb _ _).0 code.1;
      void = zero_among (λ d. (n d).z) ((Decides-eqb _ _).0 void.1);
      none_lower = λ lower.
          let d = lower.1.0 in
          let below = number_of_lower (highest here.bias) here n around seen d lower.1.1.0 lower.1.1.1 in
          let most = le_from _ _ least.1 in
          let bound = least_bound (λ d. (n d).con) d in
          absurd (omega arith);
    }

-- beside a void a data cell is open
open_beside : (above here below : LaneNumbers) (k : ℕ) (p : Patch) → IsShownRound above here below k p → IsSome p.here.z → (d : Direction) →
    slice_index (row_beside above here below d).z (col_beside k d) ≡ 0 → IsOpen p
open_beside above here below k p shown some d void =
    let v = (shown.around_is d).0 in
    let at = (shown.around_is d).1 in
    let none : v.z ≡ None = at.shown.z_is ∙ ap (height_of _) void in
    (some, inr (d, subst (λ o. IsGap (option_map (λ (v : Values). v.z) o)) (sym at.is) (subst (λ o. IsGap (Some o)) (sym none) tt)))

-- so at a column where the tests pass
pub is_right_outlet : (bias : ℕ) (rules : Rules) (rows : ThreeLanes) (k : ℕ) (p : Patch) → HaveOneBias bias rows → IsShownRoundIn rows k p →
    IfJudged (has_rnk rules.judged) (HaveRanks rows) → OutletAt rules rows k → IsLeastFault IsPatchRule (tried rules p) None
is_right_outlet bias rules rows k p one shown have passes =
    let one_bias = bias_beside bias rows one in
    let above = rows.above in
    let here = rows.here in
    let below = rows.below in
    let at = numbers_in p.spacing here k p.here in
    let outlet = of_outlet at (numbers_seen above here below k p shown) p.around (are_seen above here below k p shown one_bias) passes.outlet in
    let here_is = some_height at.bias at.z outlet.has_data in
    let same : p ≡ patch_of at p.around = λ i. record { here = values_are p.spacing here k p.here shown.cell outlet.has_data i; around = p.around; spacing = p.spacing } in
    let opened = subst IsOpen same
    (open_beside above here below k p shown (subst IsSome (sym (shown.cell.z_is ∙ here_is)) refl) outlet.void.0 outlet.void.1) in
    let sound : IsSound rules.nodata at p.around = record {
      here_is = here_is;
      level = outlet.level;
      code = inl (ap pos outlet.code);
      slope = λ lower. absurd (outlet.none_lower lower);
      outlet = λ _ _. ap pos outlet.code;
      not_flat = λ closed none. closed.1 opened;
      label = λ _ d m named beside. absurd (not_zero at.dir (code_of d) named (no_outlet d) (ap pos outlet.code));
      complete = are_complete rules.nodata here k passes.has_way passes.has_counts;
    } in
    let sum = sum_from above here below k p shown one_bias passes.sum in
    let rank = rank_from (has_rnk rules.judged) rules.nodata rows k p.here shown.cell outlet.has_data have passes.rank in
    subst (λ q. IsLeastFault IsPatchRule (tried rules q) None) (sym same) (cleared rules.judged rules.nodata (patch_of at p.around)
    (λ r own. tested_too (has_acc rules.judged) (rules_with (has_rnk rules.judged) rules.nodata) (patch_of at p.around) r
    (keeps_rules rules.nodata at p.around sound (has_rnk rules.judged) true sum rank r)))
