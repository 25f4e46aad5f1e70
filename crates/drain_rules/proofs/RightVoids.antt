-- A void with no-data numbers keeps every rule, and so it is passed: it adds nothing to a count, and is no outlet.
use Rattle.drain_rules.proofs.Names.{◌≡◌, ℕ, ℤ, ◌+◌, ◌<◌, ◌≤◌, cond, int_lt, is_some, unwrap_or, IsNone, pos, Bool, true, false, Option, Some, None, refl, arith, Dir, Acc, Bas, Rnk, Patch, Rule, VoidCell, Missing, BadCode, BelowGround, OpenRaised, NoSpill, SpillHeight, SpillRank, NotLeast, Slope, OutletCode, FlatStep, Accumulation, Label, SharedLabel, Grid, Products, Profile, Judged, IsBlankPart, part_rules, rules_about, tried, IsBlankWithoutSpill, NoDataNumbers, Values, void_data, Rules, IfJudged, has_acc, has_bas, has_dir, has_rnk, rules_with, Tally, IsBlankVoid, IsRightVoid, AreRowPatches, IsTriedIf}
use Rattle.std.proofs.Common.{◌&&◌}
use Rattle.std.specs.Ordering.{int_eq}
use Rattle.drain_grid.specs.declared.set_product.SetProduct.TheVariants.{Con}
use Rattle.drain_grid.specs.declared.judged.Judged.TheVariants as rasters
use Rattle.drain_grid.specs.Unranked.{IsBlankWithoutRank}
use Rattle.drain_rules.proofs.PassedCells.{IsPassed, no_outlet-holds, passed-more}
use Rattle.drain_rules.proofs.RowLemmas.{along_run}

-- with the rank, the five are blank
blank_five : (nodata : NoDataNumbers) (v : Values) → IsBlankWithoutRank nodata v → v.rnk ≡ nodata.rnk → IsBlankWithoutSpill nodata v
blank_five nodata v blank rank Con = blank.con_is
blank_five nodata v blank rank Dir = blank.dir_is
blank_five nodata v blank rank Acc = blank.acc_is
blank_five nodata v blank rank Bas = blank.bas_is
blank_five nodata v blank rank Rnk = rank

-- each rule holds at such a void
holds_at_void : (ranks : Bool) (nodata : NoDataNumbers) (p : Patch) (r : Rule) → IsNone p.here.z → IsBlankWithoutRank nodata p.here →
    IfJudged ranks (p.here.rnk ≡ nodata.rnk) → rules_with ranks nodata p r
holds_at_void true nodata p VoidCell void blank rank = λ again. blank_five nodata p.here blank rank
holds_at_void false nodata p VoidCell void blank rank = λ again. blank
holds_at_void ranks nodata p OpenRaised void blank rank = λ opened. void_data p.here.z void opened.0
holds_at_void ranks nodata p NoSpill void blank rank = tt
holds_at_void ranks nodata p SpillHeight void blank rank = tt
holds_at_void ranks nodata p SpillRank void blank rank = tt
holds_at_void ranks nodata p Slope void blank rank = λ lower. void_data p.here.z void lower.0
holds_at_void ranks nodata p OutletCode void blank rank = λ opened. void_data p.here.z void opened.0
holds_at_void ranks nodata p FlatStep void blank rank = λ closed. void_data p.here.z void closed.0
holds_at_void ranks nodata p SharedLabel void blank rank = tt
holds_at_void ranks nodata p r void blank rank = λ there. void_data p.here.z void there

-- and so does each rule about some rasters
pub if_judged : (b : Bool) (P : Type 0) → P → IfJudged b P
if_judged true P holds = holds
if_judged false P holds = tt

part_at_void : (judged : Judged) (nodata : NoDataNumbers) (p : Patch) (r : Rule) → IsNone p.here.z → IsBlankPart judged nodata p.here →
    part_rules judged nodata p r
part_at_void judged nodata p VoidCell void blank = λ again. blank
part_at_void judged nodata p Missing void blank = λ there. void_data p.here.z void there
part_at_void judged nodata p BadCode void blank = if_judged (has_dir judged) _ (λ there. void_data p.here.z void there)
part_at_void judged nodata p BelowGround void blank = λ there. void_data p.here.z void there
part_at_void judged nodata p OpenRaised void blank = λ opened. void_data p.here.z void opened.0
part_at_void judged nodata p NotLeast void blank = λ there. void_data p.here.z void there
part_at_void judged nodata p Slope void blank = if_judged (has_dir judged) _ (λ lower. void_data p.here.z void lower.0)
part_at_void judged nodata p OutletCode void blank = if_judged (has_dir judged) _ (λ opened. void_data p.here.z void opened.0)
part_at_void judged nodata p FlatStep void blank = if_judged (has_dir judged) _ (λ closed. void_data p.here.z void closed.0)
part_at_void judged nodata p Accumulation void blank = if_judged (has_acc judged) _ (λ there. void_data p.here.z void there)
part_at_void judged nodata p Label void blank = if_judged (has_bas judged) _ (λ there. void_data p.here.z void there)
part_at_void judged nodata p r void blank = tt

-- the four, where all are judged
blank_four : (nodata : NoDataNumbers) (v : Values) → v.con ≡ nodata.con → v.dir ≡ nodata.dir → v.acc ≡ nodata.acc → v.bas ≡ nodata.bas →
    IsBlankWithoutRank nodata v
blank_four nodata v con dir acc bas = record { con_is = con; dir_is = dir; acc_is = acc; bas_is = bas }

-- so each rule about the judged rasters does
about_void : (judged : Judged) (nodata : NoDataNumbers) (p : Patch) (r : Rule) → IsNone p.here.z → IsBlankPart judged nodata p.here →
    IfJudged (has_rnk judged) (p.here.rnk ≡ nodata.rnk) → rules_about judged nodata p r
about_void rasters.Con nodata p r void blank rank = part_at_void rasters.Con nodata p r void blank
about_void rasters.ConDir nodata p r void blank rank = part_at_void rasters.ConDir nodata p r void blank
about_void rasters.ConDirAcc nodata p r void blank rank = part_at_void rasters.ConDirAcc nodata p r void blank
about_void rasters.ConDirBas nodata p r void blank rank = part_at_void rasters.ConDirBas nodata p r void blank
about_void rasters.All nodata p r void blank rank =
    holds_at_void false nodata p r void (blank_four nodata p.here blank.con_is blank.dir_is blank.acc_is blank.bas_is) rank
about_void rasters.AllWithRanks nodata p r void blank rank =
    holds_at_void true nodata p r void (blank_four nodata p.here blank.con_is blank.dir_is blank.acc_is blank.bas_is) rank

-- so it is a right void
pub right_void : (rules : Rules) (p : Patch) → IsBlankVoid rules p.here → IsRightVoid (tried rules) p
right_void rules p is = record {
  holds = λ r own. about_void rules.judged rules.nodata p r is.is_void is.blank is.no_rank;
  is_void = is.is_void;
}

-- a void adds nothing to a count
pub void_counts : (z : Option ℤ) (other : Bool) → IsNone z → ◌≡◌ {A = ℕ} (cond (is_some z && other) 1 0) 0
void_counts None other void = refl
void_counts (Some h) other void = absurd (grind (arith, void))

pub void_is_no_data : (z : Option ℤ) → IsNone z → ◌≡◌ {A = ℕ} (cond (is_some z) 1 0) 0
void_is_no_data None void = refl
void_is_no_data (Some h) void = absurd (grind (arith, void))

module _ (compares : Bool) (judged : Judged) (profile : Profile) (g : Grid) (ps : Products) (row first cols : ℕ) (shown : ℕ → Patch) (tally : Tally) where
  -- the cells before a column from the first on are passed
  abbrev IsUpTo : ℕ → Type 0
  IsUpTo col = (first ≤ col) × IsPassed profile (IsTriedIf compares judged) g ps row first col tally

  -- and the voids that a row passes over are passed too
  pub passed-voids : (from end : ℕ) → AreRowPatches g ps row cols shown → first ≤ from → from ≤ end → end ≤ cols → IsPassed profile (IsTriedIf compares judged) g ps row first from tally →
      ((col : ℕ) → from ≤ col → col < end → IsRightVoid profile (shown col)) → IsPassed profile (IsTriedIf compares judged) g ps row first end tally
  passed-voids from end are past forward within passed right =
      (along_run IsUpTo (λ col. IsRightVoid profile (shown col)) cols one from end forward within right (past, passed)).1
    where
      one : (col : ℕ) → col < cols → IsRightVoid profile (shown col) → IsUpTo col → IsUpTo (col + 1)
      one col less right so_far =
          let p = shown col in (
            omega (arith, so_far.0),
            passed-more profile (IsTriedIf compares judged) g ps row first col cols shown p.here tally tally are so_far.0 less refl so_far.1
                (no_outlet-holds compares judged profile g ps row col cols shown are less right.holds (λ outlet. void_data p.here.z right.is_void outlet.has_data))
                (omega (arith, void_is_no_data p.here.z right.is_void))
                (omega (arith, void_counts p.here.z (int_lt (unwrap_or p.here.z (pos 0)) p.here.con) right.is_void))
                (omega (arith, void_counts p.here.z (int_eq p.here.dir (pos 0)) right.is_void)),
          )
