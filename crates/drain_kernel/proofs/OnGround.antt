-- A cell that lies on its ground keeps every rule, by these facts of its code and its label, whatever lies beside it.
use Rattle.drain_kernel.proofs.Names.{◌≡◌, ◌≢◌, ℕ, ℤ, pos, ◌≤ℤ◌, List, Option, Some, IsNone, unwrap_or, sym, ◌∙◌, ap, subst, arith, Bool, true, false, int_max, false≢true, ints, clamps, Patch, Rule, VoidCell, Missing, BadCode, BelowGround, OpenRaised, NoSpill, SpillHeight, SpillRank, NotLeast, Slope, OutletCode, FlatStep, Accumulation, Label, SharedLabel, IsCode, Values, NoDataNumbers, height, HasLower, IsClosed, AccumulationHolds, LabelHolds, OutletCodeHolds, SlopeHolds, check_rules, unranked, ThreeLanes, IfJudged, HasRankAt, HaveRanks, rules_with, tested, without_sums, lowered, HasDataAt, Shows}
use Rattle.drain_kernel.specs.Shown.{height_of}
use Rattle.drain_kernel.proofs.Meaning.{AreComplete, is_complete}
use Rattle.drain_kernel.proofs.Numbers.{Numbers, patch_of}
use Rattle.drain_kernel.proofs.Counting.{summed}

-- a data cell that is not raised, whose code and label are right, and whose numbers are there
pub record IsSound (nodata : NoDataNumbers) (here : Numbers) (around : List (Option Values)) : Type 0 where
  pub here_is : height_of here.bias here.z ≡ Some (lowered here.bias here.z)
  pub level : here.con ≡ here.z
  pub code : IsCode (pos here.dir)
  pub slope : SlopeHolds (patch_of here around)
  pub outlet : OutletCodeHolds (patch_of here around)
  pub not_flat : IsClosed (patch_of here around) → ¬ (¬ HasLower (patch_of here around))
  pub label : LabelHolds (patch_of here around)
  pub complete : AreComplete nodata here.bias here.con here.dir here.acc here.bas

module _ (nodata : NoDataNumbers) (here : Numbers) (around : List (Option Values)) (sound : IsSound nodata here around) where
  abbrev it : Patch
  it = patch_of here around

  con_is : here.con ≡ here.z → lowered here.bias here.con ≡ height it
  con_is level = ap (lowered here.bias) level ∙ sym (ap (λ o. unwrap_or o (pos 0)) sound.here_is)

  at_most : (a b c : ℤ) → a ≡ b → a ≤ℤ int_max b c
  at_most a b c is = omega (arith, ints, clamps)

  at_least : (a b : ℤ) → a ≡ b → b ≤ℤ a
  at_least a b is = omega (arith, ints)

  -- no rule without ranks but Accumulation fails
  keeps_unranked : (r : Rule) → without_sums (unranked nodata) it r
  keeps_unranked VoidCell = λ void. absurd (false≢true (sym (subst IsNone sound.here_is void)))
  keeps_unranked Missing = λ _. record {
    con_differs = sound.complete.con_differs;
    dir_differs = sound.complete.dir_differs;
    acc_differs = sound.complete.acc_differs;
    bas_differs = sound.complete.bas_differs;
  }
  keeps_unranked BadCode = λ _. sound.code
  keeps_unranked BelowGround = λ _. at_least (lowered here.bias here.con) (height it) (con_is sound.level)
  keeps_unranked OpenRaised = λ _. con_is sound.level
  keeps_unranked NoSpill = tt
  keeps_unranked SpillHeight = tt
  keeps_unranked SpillRank = tt
  keeps_unranked NotLeast = λ _ d m there. at_most (lowered here.bias here.con) (height it) m.con (con_is sound.level)
  keeps_unranked Slope = sound.slope
  keeps_unranked OutletCode = sound.outlet
  keeps_unranked FlatStep = λ closed none. absurd (sound.not_flat closed none)
  keeps_unranked Accumulation = tt
  keeps_unranked Label = sound.label
  keeps_unranked SharedLabel = tt

  -- nor of a check, with a rank
  keeps_check : here.rnk ≢ nodata.rnk → (r : Rule) → without_sums (check_rules nodata) it r
  keeps_check rank VoidCell = λ void. absurd (false≢true (sym (subst IsNone sound.here_is void)))
  keeps_check rank Missing = λ _. is_complete nodata here sound.complete rank
  keeps_check rank BadCode = keeps_unranked BadCode
  keeps_check rank BelowGround = keeps_unranked BelowGround
  keeps_check rank OpenRaised = keeps_unranked OpenRaised
  keeps_check rank NoSpill = tt
  keeps_check rank SpillHeight = tt
  keeps_check rank SpillRank = tt
  keeps_check rank NotLeast = keeps_unranked NotLeast
  keeps_check rank Slope = keeps_unranked Slope
  keeps_check rank OutletCode = keeps_unranked OutletCode
  keeps_check rank FlatStep = λ closed none. absurd (sound.not_flat closed none)
  keeps_check rank Accumulation = tt
  keeps_check rank Label = keeps_unranked Label
  keeps_check rank SharedLabel = tt

  pub keeps_rules : (ranks : Bool) (sums : Bool) → IfJudged sums (AccumulationHolds it) → IfJudged ranks (here.rnk ≢ nodata.rnk) →
      (r : Rule) → tested sums (rules_with ranks nodata) it r
  keeps_rules true sums sum rank = summed sums (check_rules nodata) it sum (keeps_check rank)
  keeps_rules false sums sum rank = summed sums (unranked nodata) it sum keeps_unranked

-- the rank of the cell
pub rank_from : (ranks : Bool) (nodata : NoDataNumbers) (rows : ThreeLanes) (k : ℕ) (v : Values) → Shows rows.here k v → HasDataAt rows.here k →
    IfJudged ranks (HaveRanks rows) → IfJudged ranks (HasRankAt nodata rows.here k) → IfJudged ranks (v.rnk ≢ nodata.rnk)
rank_from false nodata rows k v s there have differs = tt
rank_from true nodata rows k v s there have differs = subst (λ r. r ≢ nodata.rnk) (sym (s.rnk_is have.here_has there)) differs
