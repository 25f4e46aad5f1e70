-- Notes of faults, row by row.
use Rattle.drain_explain.proofs.Names.{◌≡◌, ◌-◌, ◌≤◌, ◌∷◌, [], ℕ, zero, suc, List, Option, Some, None, slice_get, drop, length, refl, arith, subst, ◌↔◌, ◌+◌, ◌∙◌, is_some, sym, ap, lines_of, length-drop, IfSome, IsSome, Cell, Grid, Products, Extent, EndlessPath, AreFlowsFor, IsConOutcome, IsOutcome, IsRankOutcome, IsWayOutcome, IsEndlessOn, IsNamed, LeadsAt, AreFaultNotes, false≢true, AreRowPatches, IsMapOf, OfNextRowDrawn, IsElevationAbove, IsRange}
use Rattle.drain_text.specs.Parts.{IsFirstLine}
use Rattle.std.proofs.lemmas.Option.{slice_get_past}
use Rattle.drain_answer.specs.declared.outcome.Outcome.{Outcome}
use Rattle.drain_answer.specs.declared.outcome.Outcome.TheVariants.{NoEnd}
use Rattle.drain_grid.specs.declared.judged.Judged.{Judged}
use Rattle.drain_grid.specs.declared.judged.Judged.TheVariants.{Con, AllWithRanks}
use Rattle.drain_paths.specs.declared.flow.Flow.{Flow}
use Rattle.drain_paths.specs.Walks.{AreKnownFlows}
use Rattle.drain_grid.specs.Values.{NoDataNumbers}
use Rattle.drain_grid.specs.declared.patch.Patch.{Patch}
use Rattle.drain_grid.specs.declared.judged.Rules.{Rules}
use Rattle.drain_faults.specs.declared.fault_map.FaultMap.{FaultMap}
use Rattle.drain_faults.specs.FaultWalks.{IsCountedOf, IsRightTally, OfNextFaultRow, OfNextRowCounted}
use Rattle.drain_explain.specs.declared.fault_visitor.FaultVisitor.{FaultVisitor}

-- A list from which some items are dropped: its next item, and what is behind it.

-- the first item left is the one of that number, and one more may be dropped
pub next_of : {X : Type 0} (xs : List X) (k : ℕ) (y : X) (ys : List X) → drop k xs ≡ y ∷ ys → (slice_get xs k ≡ Some y) × (drop (suc k) xs ≡ ys)
next_of [] zero y ys e = cc
next_of [] (suc k) y ys e = cc
next_of (x ∷ xs) zero y ys e = (cc, cc)
next_of (x ∷ xs) (suc k) y ys e = next_of xs k y ys e

-- behind the last item there is none
pub none_behind : {X : Type 0} (xs : List X) (k n : ℕ) (y : X) → drop k xs ≡ y ∷ [] → suc k ≤ n → slice_get xs n ≡ None
none_behind xs k n y e less =
    let gone = (next_of xs k y [] e).1 in
    let counted : length (drop (suc k) xs) ≡ 0 = rw gone refl in
    slice_get_past xs n (omega (arith, length-drop (suc k) xs, counted, less))

-- a text begins with its first line
pub begins : (text line : List ℕ) (rest : Option (List ℕ)) → IsFirstLine text line rest → (ys : List (List ℕ)) × (lines_of text ≡ line ∷ ys)
begins text line None is = ([], is)
begins text line (Some rest) is = (lines_of rest, is)

-- a count from 1 ends at its number, or is 1 if that is 0
pub same_place : (counter number : ℕ) → number ≤ counter → (1 ≤ number → counter ≤ number) → (number ≡ 0 → counter ≡ 1) → counter - 1 ≡ number - 1
same_place counter zero reached bound first = rw (first refl) refl
same_place counter (suc n) reached bound first =
    let less : 1 ≤ suc n = omega arith in
    omega (arith, reached, bound less)

-- Where the path without an end leads that an outcome names.

module _ (g : Grid) (ps : Products) (nodata : NoDataNumbers) (outcome : Outcome) where
  -- where paths decide, the cell that the outcome names has data
  of_ways : (judged : Judged) (told : Option (Cell × EndlessPath)) → IsWayOutcome judged g ps nodata outcome →
      IfSome told (IsNamed outcome) → IfSome told (LeadsAt g ps) → IfSome told (IsEndlessOn g ps outcome)
  of_ways judged None is named run = tt
  of_ways judged (Some (cell, path)) is named run =
      (named, run (subst (IsWayOutcome judged g ps nodata) named is).here)

  -- and elsewhere it names none
  unnamed : (Is : Outcome → Type 0) → ((row col : ℕ) → ¬ Is (NoEnd row col)) → (told : Option (Cell × EndlessPath)) → Is outcome →
      IfSome told (IsNamed outcome) → IfSome told (IsEndlessOn g ps outcome)
  unnamed Is not None is named = tt
  unnamed Is not (Some (cell, path)) is named = absurd (not cell.row cell.col (subst Is named is))

  module _ (extent : Extent) (flows : List Flow) (told : Option (Cell × EndlessPath)) (named : IfSome told (IsNamed outcome))
      (run : (g : Grid) (ps : Products) → AreKnownFlows g ps extent flows → IfSome told (LeadsAt g ps)) where
    pub endless-told : (judged : Judged) → IsOutcome judged g ps nodata outcome →
        AreFlowsFor judged g ps extent flows → IfSome told (IsEndlessOn g ps outcome)
    endless-told Con is left = unnamed (IsConOutcome g ps nodata) (λ row col no. no) told is named
    endless-told AllWithRanks is left = unnamed (IsRankOutcome g ps nodata) (λ row col no. no) told is named
    endless-told judged is left = of_ways judged told is named (run g ps left.known)

-- there is a map after a row exactly where there was one
pub still_drawn : (new old : Option FaultMap) → IsSome new ↔ IsSome old → is_some new ≡ is_some old
still_drawn None None same = refl
still_drawn (Some new) (Some old) same = refl
still_drawn None (Some old) same = absurd (false≢true (same.1 refl))
still_drawn (Some new) None same = absurd (false≢true (same.0 refl))

-- one row more
pub notes-more : (rules : Rules) (g : Grid) (ps : Products) (r cols : ℕ) (shown : ℕ → Patch) (old new : FaultVisitor) → AreRowPatches g ps r cols shown → AreFaultNotes rules g ps r old →
    new.walk.rows ≡ old.walk.rows + 1 → OfNextFaultRow rules old.walk cols shown (λ g ps. IsRightTally rules g ps new.walk) →
    OfNextRowCounted old.walk cols shown (λ g ps. IsCountedOf g ps new.walk) →
    OfNextRowDrawn rules old.walk cols shown (λ g ps. IsMapOf rules g ps new.walk) → new.rules ≡ rules → IsRange (IsElevationAbove g (r + 1)) new.elevations → AreFaultNotes rules g ps (r + 1) new
notes-more rules g ps r cols shown old new patches are rows found counted map same elevations =
    let so_far = are.walk_is in
    let here = subst (λ n. AreRowPatches g ps n cols shown) (sym so_far.rows_are) patches in
    record {
      walk_is = record {
        rows_are = rows ∙ ap (λ n. n + 1) so_far.rows_are;
        found = found g ps here so_far.found;
        counted = counted g ps here so_far.counted;
        map = map g ps here so_far.found so_far.map;
      };
      rules_are = λ some. same;
      elevations_are = elevations;
    }
