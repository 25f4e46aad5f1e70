-- The outcome for judged rasters, from the verdict of the rules about them and from the paths, or from the filled surface.
use Rattle.drain_verdict.proofs.Names.{◌≡◌, ◌↔◌, ◌⊎◌, inl, inr, false, IsTrue, List, Some, None, arith, refl, sym, subst, ap, false≢true, Cell, VoidCell, Missing, BadCode, BelowGround, OpenRaised, NoSpill, SpillHeight, SpillRank, NotLeast, SharedLabel, Grid, RulesHold, IsLeastSurface, surface_rules, IsFillRule, NoDataNumbers, Judged, ConDir, ConDirAcc, ConDirBas, AllWithRanks, IsPartRule, IsTried, part_rules, tried, CorrectIsLocal, AllRunsEnd, Counts, Verdict, IsOfSurface, IsOfWays, IsOutcomeOf, IsConOutcome, IsOutcome, IsRankOutcome, IsWayOutcome, rules_of, AreFlowsFor, AreFlowsLeft, IsDecided, IsEndlessCell, Extent, Flow, IsAcceptedOutcome, IsVerdictBy, Outcome}
use Rattle.std.proofs.Common.{Option}
use Rattle.drain_grid.specs.Grid.{Products}
use Rattle.drain_grid.specs.declared.judged.Judged.TheVariants.{Con, All}
use Rattle.drain_grid.specs.Judged.{has_dir, has_rnk}
use Rattle.drain_laws.specs.PartOf.{PartIsLocal, SurfaceIsPart, AreRight, IsPartOfCorrect, IsRightSurface}
use Rattle.drain_grid.specs.declared.verdict.Verdict.TheVariants as checked
use Rattle.drain_laws.proofs.SurfacePart.{at_ground, not_raised}
use Rattle.drain_answer.specs.declared.outcome.Outcome.TheVariants.{Accepted, AcceptedSurface, Rejected, NoEnd, NotFilled}

-- the rules about con alone are those on the surface, and more
pub con_keeps : (g : Grid) (ps : Products) (nodata : NoDataNumbers) → RulesHold (part_rules Con nodata) (IsPartRule Con) g ps → RulesHold surface_rules IsFillRule g ps
con_keeps g ps nodata rules c BelowGround inside own = rules c BelowGround inside (omega arith, omega arith)
con_keeps g ps nodata rules c OpenRaised inside own = rules c OpenRaised inside (omega arith, omega arith)
con_keeps g ps nodata rules c NotLeast inside own = rules c NotLeast inside (omega arith, omega arith)
con_keeps g ps nodata rules c NoSpill inside own = tt
con_keeps g ps nodata rules c SpillHeight inside own = tt
con_keeps g ps nodata rules c SpillRank inside own = tt
con_keeps g ps nodata rules c VoidCell inside own = absurd (omega (arith, own.0))
con_keeps g ps nodata rules c Missing inside own = absurd (omega (arith, own.0))
con_keeps g ps nodata rules c BadCode inside own = absurd (omega (arith, own.0))
con_keeps g ps nodata rules c r inside own = absurd (omega (arith, own.1))

-- of con, the verdict of the rules and the first cell that isn't filled give the outcome
of_surface : (g : Grid) (ps : Products) (nodata : NoDataNumbers) (verdict : Verdict) (unfilled : Option Cell) (outcome : Outcome) →
    IsOfSurface verdict unfilled outcome → IsVerdictBy (rules_of Con nodata) g ps verdict → IsDecided Con g ps verdict unfilled → IsConOutcome g ps nodata outcome
of_surface g ps nodata (checked.Rejected rule row col) unfilled outcome is first none = subst (IsConOutcome g ps nodata) (sym is) first
of_surface g ps nodata (checked.Accepted counts) (Some c) outcome is rules unfilled = subst (IsConOutcome g ps nodata) (sym is) (rules.0, unfilled)
of_surface g ps nodata (checked.Accepted counts) None outcome is rules least =
    subst (IsConOutcome g ps nodata) (sym is) (rules.0, least, ap (λ (k : Counts). record { rows = k.rows; cols = k.cols; data_cells = k.data_cells; raised = k.raised }) rules.1)

-- of rasters with directions, the verdict of the rules and the first path without an end
of_ways : (judged : Judged) (g : Grid) (ps : Products) (nodata : NoDataNumbers) (verdict : Verdict) (endless : Option Cell) (outcome : Outcome) →
    IsOfWays verdict endless outcome → IsEndlessCell g ps endless → IsVerdictBy (rules_of judged nodata) g ps verdict → IsWayOutcome judged g ps nodata outcome
of_ways judged g ps nodata verdict (Some c) outcome is first rules = subst (IsWayOutcome judged g ps nodata) (sym is) first
of_ways judged g ps nodata (checked.Accepted counts) None outcome is ends rules = subst (IsWayOutcome judged g ps nodata) (sym is) (ends, rules)
of_ways judged g ps nodata (checked.Rejected rule row col) None outcome is ends rules = subst (IsWayOutcome judged g ps nodata) (sym is) (ends, rules)

-- with ranks, the verdict of the rules
of_ranks : (g : Grid) (ps : Products) (nodata : NoDataNumbers) (verdict : Verdict) (cell : Option Cell) (outcome : Outcome) → IsOfWays verdict cell outcome →
    cell ≡ None → IsVerdictBy (rules_of AllWithRanks nodata) g ps verdict → IsRankOutcome g ps nodata outcome
of_ranks g ps nodata verdict (Some c) outcome is none rules = absurd (let no = none in cc)
of_ranks g ps nodata (checked.Accepted counts) None outcome is none rules = subst (IsRankOutcome g ps nodata) (sym is) rules
of_ranks g ps nodata (checked.Rejected rule row col) None outcome is none rules = subst (IsRankOutcome g ps nodata) (sym is) rules

-- so of any judged rasters
pub outcome_is : (judged : Judged) (g : Grid) (ps : Products) (nodata : NoDataNumbers) (verdict : Verdict) (cell : Option Cell) (outcome : Outcome) →
    IsOutcomeOf judged verdict cell outcome → IsVerdictBy (rules_of judged nodata) g ps verdict → IsDecided judged g ps verdict cell → IsOutcome judged g ps nodata outcome
outcome_is Con g ps nodata verdict cell outcome is rules decided = of_surface g ps nodata verdict cell outcome is rules decided
outcome_is AllWithRanks g ps nodata verdict cell outcome is rules decided = of_ranks g ps nodata verdict cell outcome is decided rules
outcome_is judged g ps nodata verdict cell outcome is rules decided = of_ways judged g ps nodata verdict cell outcome is decided rules

-- what decides of rasters with directions and without ranks
pub decided_by_flows : (judged : Judged) (g : Grid) (ps : Products) (verdict : Verdict) (cell : Option Cell) → IsTrue (has_dir judged) → has_rnk judged ≡ false →
    IsEndlessCell g ps cell → IsDecided judged g ps verdict cell
decided_by_flows Con g ps verdict cell has none is = absurd (false≢true has)
decided_by_flows AllWithRanks g ps verdict cell has none is = absurd (false≢true (sym none))
decided_by_flows judged g ps verdict cell has none is = is

-- the flows that are left where paths decide
pub flows_left : (judged : Judged) (g : Grid) (ps : Products) (extent : Extent) (flows : List Flow) →
    (judged ≡ ConDir) ⊎ ((judged ≡ ConDirAcc) ⊎ ((judged ≡ ConDirBas) ⊎ (judged ≡ All))) → AreFlowsLeft g ps extent flows → AreFlowsFor judged g ps extent flows
flows_left judged g ps extent flows (inl is) left = subst (λ (j : Judged). AreFlowsFor j g ps extent flows) (sym is) left
flows_left judged g ps extent flows (inr (inl is)) left = subst (λ (j : Judged). AreFlowsFor j g ps extent flows) (sym is) left
flows_left judged g ps extent flows (inr (inr (inl is))) left = subst (λ (j : Judged). AreFlowsFor j g ps extent flows) (sym is) left
flows_left judged g ps extent flows (inr (inr (inr is))) left = subst (λ (j : Judged). AreFlowsFor j g ps extent flows) (sym is) left

-- the rules about con hold of a right surface
con_holds : (g : Grid) (ps : Products) (nodata : NoDataNumbers) → IsRightSurface g ps nodata → RulesHold (part_rules Con nodata) (IsPartRule Con) g ps
con_holds g ps nodata right c VoidCell inside own = λ void. record { con_is = right.voids c inside void; dir_is = tt; acc_is = tt; bas_is = tt }
con_holds g ps nodata right c Missing inside own =
    λ is_data. record { con_differs = right.complete c (record { inside = inside; is_data = is_data }); dir_differs = tt; acc_differs = tt; bas_differs = tt }
con_holds g ps nodata right c BelowGround inside own = λ is_data. right.least.covers c (record { inside = inside; is_data = is_data })
con_holds g ps nodata right c OpenRaised inside own = at_ground g ps right.least c inside
con_holds g ps nodata right c NotLeast inside own = not_raised g ps right.least c inside
con_holds g ps nodata right c SharedLabel inside own = absurd (false≢true own)
con_holds g ps nodata right c r inside own = tt

-- and where they hold and it is the least surface, it is right
right_of : (g : Grid) (ps : Products) (nodata : NoDataNumbers) → RulesHold (part_rules Con nodata) (IsPartRule Con) g ps → IsLeastSurface g ps.con → IsRightSurface g ps nodata
right_of g ps nodata rules least = record {
  voids = λ c inside void. (rules c VoidCell inside (omega arith, omega arith) void).con_is;
  complete = λ c here. (rules c Missing here.inside (omega arith, omega arith) here.is_data).con_differs;
  least = least;
}

-- the outcome for con accepts exactly where it is part of a correct set
con_exactly : SurfaceIsPart → (g : Grid) (ps : Products) (nodata : NoDataNumbers) (outcome : Outcome) → IsConOutcome g ps nodata outcome → IsAcceptedOutcome outcome ↔ IsPartOfCorrect Con g ps nodata
con_exactly surface g ps nodata (AcceptedSurface counts) is = (λ accepted. (surface g ps nodata).1 (right_of g ps nodata is.0 is.1), λ right. tt)
con_exactly surface g ps nodata (NotFilled row col) is = (
  λ accepted. absurd accepted,
  λ right. absurd (is.1.differs ps.con ((surface g ps nodata).0 right).least refl),
)
con_exactly surface g ps nodata (Rejected rule row col) is = (
  λ accepted. absurd accepted,
  λ right. absurd (is.fails (con_holds g ps nodata ((surface g ps nodata).0 right) (record { row = row; col = col }) rule is.inside is.is_own)),
)
con_exactly surface g ps nodata (Accepted counts) is = absurd is
con_exactly surface g ps nodata (NoEnd row col) is = absurd is

-- and so does that on rasters with directions, where paths that end and these rules are what it means that they are right
way_exactly : (judged : Judged) (g : Grid) (ps : Products) (nodata : NoDataNumbers) (Right : Type 0) (outcome : Outcome) →
    (Right ↔ (AllRunsEnd g ps × RulesHold (tried (rules_of judged nodata)) (IsTried judged) g ps)) → IsWayOutcome judged g ps nodata outcome →
    IsAcceptedOutcome outcome ↔ Right
way_exactly judged g ps nodata Right (Accepted counts) local is = (λ accepted. local.1 (is.0, is.1.0), λ right. tt)
way_exactly judged g ps nodata Right (Rejected rule row col) local is = (
  λ accepted. absurd accepted,
  λ right. absurd (is.1.fails ((local.0 right).1 (record { row = row; col = col }) rule is.1.inside is.1.is_own)),
)
way_exactly judged g ps nodata Right (NoEnd row col) local is =
    (λ accepted. absurd accepted, λ right. absurd (is.endless ((local.0 right).0 (record { row = row; col = col }) is.here)))
way_exactly judged g ps nodata Right (AcceptedSurface counts) local is = absurd is
way_exactly judged g ps nodata Right (NotFilled row col) local is = absurd is

-- the outcome accepts exactly where the judged rasters are right
pub exactly : CorrectIsLocal → PartIsLocal → SurfaceIsPart → (judged : Judged) (g : Grid) (ps : Products) (nodata : NoDataNumbers) (outcome : Outcome) →
    has_rnk judged ≡ false → IsOutcome judged g ps nodata outcome → IsAcceptedOutcome outcome ↔ AreRight judged g ps nodata
exactly whole local surface Con g ps nodata outcome none is = con_exactly surface g ps nodata outcome is
exactly whole local surface All g ps nodata outcome none is = way_exactly All g ps nodata _ outcome (whole g ps nodata) is
exactly whole local surface AllWithRanks g ps nodata outcome none is = absurd (false≢true (sym none))
exactly whole local surface judged g ps nodata outcome none is = way_exactly judged g ps nodata _ outcome (local judged g ps nodata tt) is
