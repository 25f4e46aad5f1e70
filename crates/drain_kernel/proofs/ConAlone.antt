-- Where con alone is judged, a cell that passes the tests of the surface is kept, and so is one that is not raised,
-- whatever lies beside it.
use Rattle.drain_kernel.proofs.Names.{◌≡◌, ◌≢◌, ℕ, ℤ, pos, ◌≤ℤ◌, Bool, true, false, IsSome, is_some, unwrap_or, refl, sym, ◌∙◌, ap, subst, arith, int_max, false≢true, ints, clamps, Judged, ConDir, ConDirAcc, ConDirBas, All, AllWithRanks, Rules, Patch, Rule, VoidCell, Missing, BadCode, BelowGround, OpenRaised, NoSpill, SpillHeight, SpillRank, NotLeast, Slope, OutletCode, FlatStep, Accumulation, Label, SharedLabel, IfJudged, has_dir, has_rnk, height, BelowGroundHolds, NotLeastHolds, OpenRaisedWithoutSpill, part_rules, rules_about, tried, NoDataNumbers, HaveRanks, IsKept, IsShownIn, IsShownRoundIn, FallsWith, IsClearedAlone, IsClearedAt, LiesAt, PassesWith, SurfacePassesAt, HaveOneBias, ThreeLanes, lowered, AreSound}
use Rattle.drain_grid.specs.declared.judged.Judged.TheVariants.{Con}
use Rattle.drain_kernel.proofs.Fallen.{is_kept_there}
use Rattle.drain_kernel.proofs.Inland.{bias_beside, inland_from, not_open, of_surface, some_height}
use Rattle.drain_kernel.proofs.Meaning.{have_data_from, is_kept, not_zero}
use Rattle.drain_kernel.proofs.Numbers.{neighbor_is, numbers_beside, numbers_in, patch_is, patch_of, values_are}

-- what is known of the patch of a cell
record KeepsSurface (nodata : NoDataNumbers) (p : Patch) : Type 0 where
  has_data : IsSome p.here.z
  con_differs : p.here.con ≢ nodata.con
  below_ground : BelowGroundHolds p
  open_raised : OpenRaisedWithoutSpill p
  not_least : NotLeastHolds p
  code_differs : p.here.dir ≢ pos 0

-- no rule about con fails
keeps_rule : (nodata : NoDataNumbers) (p : Patch) → KeepsSurface nodata p → (r : Rule) → part_rules Con nodata p r
keeps_rule nodata p keeps VoidCell = λ void. absurd (false≢true (sym void ∙ keeps.has_data))
keeps_rule nodata p keeps Missing = λ _. record { con_differs = keeps.con_differs; dir_differs = tt; acc_differs = tt; bas_differs = tt }
keeps_rule nodata p keeps BadCode = tt
keeps_rule nodata p keeps BelowGround = keeps.below_ground
keeps_rule nodata p keeps OpenRaised = keeps.open_raised
keeps_rule nodata p keeps NoSpill = tt
keeps_rule nodata p keeps SpillHeight = tt
keeps_rule nodata p keeps SpillRank = tt
keeps_rule nodata p keeps NotLeast = keeps.not_least
keeps_rule nodata p keeps Slope = tt
keeps_rule nodata p keeps OutletCode = tt
keeps_rule nodata p keeps FlatStep = tt
keeps_rule nodata p keeps Accumulation = tt
keeps_rule nodata p keeps Label = tt
keeps_rule nodata p keeps SharedLabel = tt

-- con alone is judged where directions aren't
keeps_rules : (judged : Judged) (nodata : NoDataNumbers) (p : Patch) → has_dir judged ≡ false → KeepsSurface nodata p → (r : Rule) →
    rules_about judged nodata p r
keeps_rules Con nodata p none keeps = keeps_rule nodata p keeps
keeps_rules ConDir nodata p none keeps = absurd (false≢true (sym none))
keeps_rules ConDirAcc nodata p none keeps = absurd (false≢true (sym none))
keeps_rules ConDirBas nodata p none keeps = absurd (false≢true (sym none))
keeps_rules All nodata p none keeps = absurd (false≢true (sym none))
keeps_rules AllWithRanks nodata p none keeps = absurd (false≢true (sym none))

kept_from : (rules : Rules) (p : Patch) → has_dir rules.judged ≡ false → KeepsSurface rules.nodata p → IsKept (tried rules) p
kept_from rules p none keeps = record {
  holds = λ r own. keeps_rules rules.judged rules.nodata p none keeps r;
  has_data = keeps.has_data;
  no_outlet = keeps.code_differs;
}

-- at a column where the tests of the surface pass
kept_by_surface : (bias : ℕ) (rules : Rules) (rows : ThreeLanes) (k : ℕ) (p : Patch) → has_dir rules.judged ≡ false → HaveOneBias bias rows →
    IsShownIn rows k p → SurfacePassesAt rules.nodata rows k → IsKept (tried rules) p
kept_by_surface bias rules rows k p none one shown passes =
    let above = rows.above in
    let here = rows.here in
    let below = rows.below in
    let at = numbers_in p.spacing here k p.here in
    let n = numbers_beside above here below k p shown in
    let nine = have_data_from rows k passes.inland in
    let known = inland_from at n p.around (λ d. neighbor_is above here below k p shown d (nine.beside_has d)) (bias_beside bias rows one) shown.not_listed
    nine.here_has nine.beside_has in
    let surface = of_surface at n p.around known passes.surface in
    subst (IsKept (tried rules)) (sym (patch_is above here below k p shown nine.here_has)) (kept_from rules (patch_of at p.around) none (record {
      has_data = ap is_some known.here_is;
      con_differs = passes.has_con.con_differs;
      below_ground = surface.below_ground;
      open_raised = λ opened. absurd (not_open at n p.around known opened);
      not_least = surface.not_least;
      code_differs = not_zero at.dir at.dir refl passes.has_con.code_differs;
    }))

at_most : (a b c : ℤ) → a ≡ b → a ≤ℤ int_max b c
at_most a b c is = omega (arith, ints, clamps)

at_least : (a b : ℤ) → a ≡ b → b ≤ℤ a
at_least a b is = omega (arith, ints)

-- at a column whose cell is not raised
kept_lying : (rules : Rules) (rows : ThreeLanes) (k : ℕ) (p : Patch) → has_dir rules.judged ≡ false → IsShownRoundIn rows k p →
    LiesAt rules.nodata rows k → IsKept (tried rules) p
kept_lying rules rows k p none shown lies =
    let at = numbers_in p.spacing rows.here k p.here in
    let q = patch_of at p.around in
    let here_is = some_height at.bias at.z lies.has_data in
    let con_is : lowered at.bias at.con ≡ height q = ap (lowered at.bias) lies.level ∙ sym (ap (λ o. unwrap_or o (pos 0)) here_is) in
    let made : p ≡ q = λ i. record { here = values_are p.spacing rows.here k p.here shown.cell lies.has_data i; around = p.around; spacing = p.spacing } in
    subst (IsKept (tried rules)) (sym made) (kept_from rules q none (record {
      has_data = ap is_some here_is;
      con_differs = lies.has_con.con_differs;
      below_ground = λ _. at_least (lowered at.bias at.con) (height q) con_is;
      open_raised = λ _. con_is;
      not_least = λ _ d m beside. at_most (lowered at.bias at.con) (height q) m.con con_is;
      code_differs = not_zero at.dir at.dir refl lies.has_con.code_differs;
    }))

-- at a column where the tests of judged rasters pass
module _ (bias : ℕ) (rules : Rules) (rows : ThreeLanes) (k : ℕ) (p : Patch) (one : HaveOneBias bias rows) (sound : AreSound rows.slopes)
    (spaced : p.spacing ≡ rows.slopes.spacing) (have : IfJudged (has_rnk rules.judged) (HaveRanks rows)) where
  passed_with : (ways : Bool) → has_dir rules.judged ≡ ways → IsShownIn rows k p → PassesWith ways rules rows k → IsKept (tried rules) p
  passed_with true is shown passes = is_kept bias rules rows k p one sound spaced shown have passes
  passed_with false is shown passes = kept_by_surface bias rules rows k p is one shown passes

  pub is_cleared : IsShownIn rows k p → IsClearedAt rules rows k → IsKept (tried rules) p
  is_cleared shown passes = passed_with (has_dir rules.judged) refl shown passes

  fallen_with : (ways : Bool) → has_dir rules.judged ≡ ways → IsShownRoundIn rows k p → FallsWith ways rules rows k → IsKept (tried rules) p
  fallen_with true is shown falls = is_kept_there bias rules rows k p one sound spaced shown have falls
  fallen_with false is shown falls = kept_lying rules rows k p is shown falls

  pub is_cleared_alone : IsShownRoundIn rows k p → IsClearedAlone rules rows k → IsKept (tried rules) p
  is_cleared_alone shown falls = fallen_with (has_dir rules.judged) refl shown falls
