-- A cell whose numbers pass every test is kept.
use Rattle.drain_kernel.proofs.Names.{◌≡◌, ◌≢◌, ℕ, pos, true, ◌==◌, map, List, Option, slice_index, IsNone, is_some, inr, sym, ◌∙◌, ap, subst, Bool, false, false≢true, Decides-eqb, Direction, East, SouthEast, South, SouthWest, West, NorthWest, North, NorthEast, Dir, Acc, Bas, Rnk, Patch, Rule, VoidCell, Missing, BadCode, BelowGround, OpenRaised, NoSpill, SpillHeight, SpillRank, NotLeast, Slope, OutletCode, FlatStep, Accumulation, Label, SharedLabel, directions, code_of, opposite, Values, NoDataNumbers, value_of, number_for, AccumulationHolds, LabelHolds, inflow, check_rules, unranked, HaveOneBias, LaneNumbers, ThreeLanes, Rules, IfJudged, has_acc, has_rnk, HasCountsAt, HasWayAt, IsInlandAt, PassesAt, RanksPassAt, IsKept, HaveRanks, IsShownIn, tried, rules_with, tested, without_sums, lowered, HasDataAt, HasRanks, row_beside, col_beside, AreSound}
use Rattle.drain_grid.specs.declared.set_product.SetProduct.{SetProduct}
use Rattle.drain_grid.specs.declared.set_product.SetProduct.TheVariants.{Con}
use Rattle.drain_grid.specs.SetProduct.{product_of}
use Rattle.drain_kernel.proofs.ClearedRules.{cleared}
use Rattle.drain_kernel.specs.Shown.{height_of}
use Rattle.drain_kernel.specs.Tests.{adds_up}
use Rattle.drain_kernel.proofs.Inland.{bias_beside, IsInland, inland_from, of_each, not_open, OfSurface, of_surface}
use Rattle.drain_kernel.proofs.Numbers.{Numbers, HaveDataAt, values_of, patch_of, numbers_in, numbers_beside, patch_is, neighbor_is}
use Rattle.drain_kernel.proofs.Counting.{inflow_passed, total_is, if_tested, summed}
use Rattle.drain_kernel.proofs.Ways.{OfDirection, of_direction, of_label, IsRanked, ranked_from, flat_step_from}

-- the four numbers aren't their products' no-data numbers
pub record AreComplete (nodata : NoDataNumbers) (bias con dir acc bas : ℕ) : Type 0 where
  pub con_differs : lowered bias con ≢ nodata.con
  pub dir_differs : pos dir ≢ nodata.dir
  pub acc_differs : pos acc ≢ nodata.acc
  pub bas_differs : pos bas ≢ nodata.bas

pub are_complete : (nodata : NoDataNumbers) (h : LaneNumbers) (k : ℕ) → HasWayAt nodata h k → HasCountsAt nodata h k →
    AreComplete nodata h.bias (slice_index h.con k) (slice_index h.dir k) (slice_index h.acc k) (slice_index h.bas k)
are_complete nodata h k way counts =
    record { con_differs = way.con_differs; dir_differs = way.dir_differs; acc_differs = counts.acc_differs; bas_differs = counts.bas_differs }

-- what the test of the accumulation gives
of_sum : (here : Numbers) (n : Direction → Numbers) (around : List (Option Values)) → IsInland here n around →
    adds_up here.acc (map (λ d. (n d).dir) directions) (map (λ d. (n d).acc) directions) ≡ true → AccumulationHolds (patch_of here around)
unfolding adds_up
of_sum here n around known h =
    let from = λ (d : Direction). ap (λ o. inflow o d) (known.neighbor_is d) ∙
    inflow_passed (is_some (height_of (n d).bias (n d).z)) ((n d).dir == code_of (opposite d)) (n d).acc (ap is_some (known.beside_is d)) in
    λ _. total_is here.acc _ _ _ _ _ _ _ _ _ _ _ _ _ _ _ _ (from East) (from SouthEast) (from South) (from SouthWest) (from West) (from NorthWest)
    (from North) (from NorthEast) ((Decides-eqb _ _).0 h)

-- what the tests without ranks and sums give together
record Passed (nodata : NoDataNumbers) (here : Numbers) (n : Direction → Numbers) (around : List (Option Values)) : Type 0 where
  inland : IsInland here n around
  surface : OfSurface here around
  direction : OfDirection here around
  label : LabelHolds (patch_of here around)
  complete : AreComplete nodata here.bias here.con here.dir here.acc here.bas

-- no rule without ranks but Accumulation fails
of_unranked : (nodata : NoDataNumbers) (here : Numbers) (n : Direction → Numbers) (around : List (Option Values)) → Passed nodata here n around →
    (r : Rule) → without_sums (unranked nodata) (patch_of here around) r
of_unranked nodata here n around passed VoidCell = λ void. absurd (false≢true (sym (subst IsNone passed.inland.here_is void)))
of_unranked nodata here n around passed Missing = λ _. record {
  con_differs = passed.complete.con_differs;
  dir_differs = passed.complete.dir_differs;
  acc_differs = passed.complete.acc_differs;
  bas_differs = passed.complete.bas_differs;
}
of_unranked nodata here n around passed BadCode = λ _. inr passed.direction.named
of_unranked nodata here n around passed BelowGround = passed.surface.below_ground
of_unranked nodata here n around passed OpenRaised = λ opened. absurd (not_open here n around passed.inland opened)
of_unranked nodata here n around passed NoSpill = tt
of_unranked nodata here n around passed SpillHeight = tt
of_unranked nodata here n around passed SpillRank = tt
of_unranked nodata here n around passed NotLeast = passed.surface.not_least
of_unranked nodata here n around passed Slope = passed.direction.slope
of_unranked nodata here n around passed OutletCode = λ opened. absurd (not_open here n around passed.inland opened)
of_unranked nodata here n around passed FlatStep = passed.direction.level_step
of_unranked nodata here n around passed Accumulation = tt
of_unranked nodata here n around passed Label = passed.label
of_unranked nodata here n around passed SharedLabel = tt

-- what the tests of ranks give besides
record Ranked (nodata : NoDataNumbers) (here : Numbers) (n : Direction → Numbers) : Type 0 where
  leads : IsRanked here n
  differs : here.rnk ≢ nodata.rnk

pub is_complete : (nodata : NoDataNumbers) (here : Numbers) → AreComplete nodata here.bias here.con here.dir here.acc here.bas → here.rnk ≢ nodata.rnk →
    (p : SetProduct) → value_of (values_of here) (product_of p) ≢ number_for nodata (product_of p)
is_complete nodata here complete differs Con = complete.con_differs
is_complete nodata here complete differs Dir = complete.dir_differs
is_complete nodata here complete differs Acc = complete.acc_differs
is_complete nodata here complete differs Bas = complete.bas_differs
is_complete nodata here complete differs Rnk = differs

-- nor does one of a check
of_check : (nodata : NoDataNumbers) (here : Numbers) (n : Direction → Numbers) (around : List (Option Values)) → Passed nodata here n around →
    Ranked nodata here n → (r : Rule) → without_sums (check_rules nodata) (patch_of here around) r
of_check nodata here n around passed ranked VoidCell = λ void. absurd (false≢true (sym (subst IsNone passed.inland.here_is void)))
of_check nodata here n around passed ranked Missing = λ _. is_complete nodata here passed.complete ranked.differs
of_check nodata here n around passed ranked BadCode = λ _. inr passed.direction.named
of_check nodata here n around passed ranked BelowGround = passed.surface.below_ground
of_check nodata here n around passed ranked OpenRaised = λ opened. absurd (not_open here n around passed.inland opened)
of_check nodata here n around passed ranked NoSpill = tt
of_check nodata here n around passed ranked SpillHeight = tt
of_check nodata here n around passed ranked SpillRank = tt
of_check nodata here n around passed ranked NotLeast = passed.surface.not_least
of_check nodata here n around passed ranked Slope = passed.direction.slope
of_check nodata here n around passed ranked OutletCode = λ opened. absurd (not_open here n around passed.inland opened)
of_check nodata here n around passed ranked FlatStep = flat_step_from here n around passed.inland passed.direction.level_step ranked.leads
of_check nodata here n around passed ranked Accumulation = tt
of_check nodata here n around passed ranked Label = passed.label
of_check nodata here n around passed ranked SharedLabel = tt

of_rules : (ranks : Bool) (sums : Bool) (nodata : NoDataNumbers) (here : Numbers) (n : Direction → Numbers) (around : List (Option Values)) →
    Passed nodata here n around → IfJudged sums (AccumulationHolds (patch_of here around)) → IfJudged ranks (Ranked nodata here n) →
    (r : Rule) → tested sums (rules_with ranks nodata) (patch_of here around) r
of_rules true sums nodata here n around passed sum ranked =
    summed sums (check_rules nodata) (patch_of here around) sum (of_check nodata here n around passed ranked)
of_rules false sums nodata here n around passed sum ranked =
    summed sums (unranked nodata) (patch_of here around) sum (of_unranked nodata here n around passed)

-- no direction's code is that of an outlet
pub no_outlet : (d : Direction) → code_of d ≢ 0
no_outlet = of_each (λ d. code_of d ≢ 0) (λ e. cc) (λ e. cc) (λ e. cc) (λ e. cc) (λ e. cc) (λ e. cc) (λ e. cc) (λ e. cc)

-- the test of voids, of the nine columns
pub have_data_from : (rows : ThreeLanes) (k : ℕ) → IsInlandAt rows k → HaveDataAt rows.above rows.here rows.below k
have_data_from rows k known = record {
  here_has = known.here_is.middle;
  beside_has = of_each (λ d. HasDataAt (row_beside rows.above rows.here rows.below d) (col_beside k d)) known.here_is.right known.below_is.right known.below_is.middle
      known.below_is.left known.here_is.left known.above_is.left known.above_is.middle known.above_is.right;
}

pub not_zero : (code d : ℕ) → pos code ≡ pos d → d ≢ 0 → pos code ≢ pos 0
not_zero code d is differs h = differs (same_natural d 0 (sym is ∙ h))
  where
    same_natural : (a b : ℕ) → pos a ≡ pos b → a ≡ b
    same_natural a b e = cc

-- where ranks are checked, they were taken, and their tests give what is required of the numbers
ranks_from : (ranks : Bool) (nodata : NoDataNumbers) (rows : ThreeLanes) (k : ℕ) (p : Patch) (shown : IsShownIn rows k p) →
    HaveDataAt rows.above rows.here rows.below k → IfJudged ranks (HaveRanks rows) → IfJudged ranks (RanksPassAt nodata rows k) →
    IfJudged ranks (Ranked nodata (numbers_in p.spacing rows.here k p.here) (numbers_beside rows.above rows.here rows.below k p shown))
ranks_from false nodata rows k p shown known have passes = tt
ranks_from true nodata rows k p shown known have passes =
    let above = rows.above in
    let here = rows.here in
    let below = rows.below in
    let own = shown.cell.rnk_is have.here_has known.here_has in
    let has : (d : Direction) → HasRanks (row_beside above here below d) = of_each (λ d. HasRanks (row_beside above here below d))
    have.here_has have.below_has have.below_has have.below_has have.here_has have.above_has have.above_has have.above_has in
    record {
      leads = ranked_from (numbers_in p.spacing here k p.here) (numbers_beside above here below k p shown) (slice_index here.rnk k)
          (λ d. slice_index (row_beside above here below d).rnk (col_beside k d)) own
          (λ d. (shown.around_is d).1.shown.rnk_is (has d) (known.beside_has d)) passes.ranked;
      differs = subst (λ r. r ≢ nodata.rnk) (sym own) passes.has_rank;
    }

-- so at a column of three rows where all tests pass
pub is_kept : (bias : ℕ) (rules : Rules) (rows : ThreeLanes) (k : ℕ) (p : Patch) → HaveOneBias bias rows → AreSound rows.slopes →
    p.spacing ≡ rows.slopes.spacing → IsShownIn rows k p →
    IfJudged (has_rnk rules.judged) (HaveRanks rows) → PassesAt rules rows k → IsKept (tried rules) p
is_kept bias rules rows k p one sound spaced shown have passes =
    let above = rows.above in
    let here = rows.here in
    let below = rows.below in
    let at = numbers_in p.spacing here k p.here in
    let n = numbers_beside above here below k p shown in
    let nine = have_data_from rows k passes.inland in
    let known = inland_from at n p.around (λ d. neighbor_is above here below k p shown d (nine.beside_has d)) (bias_beside bias rows one) shown.not_listed
    nine.here_has nine.beside_has in
    let direction = of_direction rows.slopes at n p.around sound spaced known passes.direction in
    let passed : Passed rules.nodata at n p.around = record {
      inland = known;
      surface = of_surface at n p.around known passes.surface;
      direction = direction;
      label = of_label at n p.around known passes.label;
      complete = are_complete rules.nodata here k passes.has_way passes.has_counts;
    } in
    let sum = if_tested (has_acc rules.judged) _ _ (of_sum at n p.around known) passes.accumulation in
    let ranked = ranks_from (has_rnk rules.judged) rules.nodata rows k p shown nine have passes.ranks in
    subst (IsKept (tried rules)) (sym (patch_is above here below k p shown nine.here_has)) (record {
      holds = cleared rules.judged rules.nodata (patch_of at p.around)
          (λ r own. of_rules (has_rnk rules.judged) (has_acc rules.judged) rules.nodata at n p.around passed sum ranked r);
      has_data = ap is_some known.here_is;
      no_outlet = not_zero at.dir (code_of direction.named.0) direction.named.1 (no_outlet direction.named.0);
    })
