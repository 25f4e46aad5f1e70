-- What is shown of an explanation is what the rules of its set say. The map that was drawn has a byte for each cell, so it
-- has the length of its memory exactly where this has.
use Rattle.drain_c.proofs.Names.{◌≡◌, ℕ, suc, ◌*◌, ◌==◌, ◌<◌, ◌≤◌, Bool, true, false, List, [], ◌∷◌, length, Option, None, IfOk, IsSome, IsTrue, IsFalse, arith, refl, sym, ap, subst, ◌∙◌, Outcome, Refusal, Answer, AreFoundIn, Call, Explains, IsMap, OfCall, outcome_in, set_in, explained_of, answer_in, ReportsMapped, ShowsExplained, ShowsExplanation, fits, has_map_length, mapped_found, mapped_line, outcome_found, refusal_found, Reports, ShowsBadMap, ShowsOutcome, Judged, cells, row_cells, Extent, Grid, GroundSet, rules_in, set_grid, set_products, IsOutcomeIn}
use Rattle.std.proofs.Common.{Some, Result, Ok, Err}
use Rattle.std.proofs.lemmas.List.FromFn.{length-map-range_with_len}
use Rattle.drain_answer.specs.declared.outcome.Outcome.TheVariants.{Accepted, AcceptedSurface, Rejected, NoEnd, NotFilled}
use Rattle.drain_c.specs.declared.faults.Faults.{Faults}
use Rattle.drain_c.proofs.Statuses.{from_two}
use Rattle.drain_c.specs.declared.explain.Explained.{Explained}
use Rattle.drain_explain.specs.declared.findings.Explanation.{Explanation}
use Rattle.drain_faults.specs.declared.fault_map.FaultMap.{FaultMap}
use Rattle.drain_faults.specs.FaultMaps.{AreMapPixels, IsMapOfCells}
use Rattle.drain_grid.specs.declared.cell.Cell.{Cell}
use Rattle.drain_grid.specs.declared.judged.Rules.{Rules}
use Rattle.drain_grid.specs.Grid.{Products}
use Rattle.drain_raster.proofs.LengthLemmas.{length-lists}

-- as many numbers as cells
map_length : (rules : Rules) (g : Grid) (ps : Products) (cs : List Cell) (ns : List ℕ) → AreMapPixels rules g ps cs ns → length ns ≡ length cs
map_length rules g ps [] [] are = refl
map_length rules g ps [] (n ∷ ns) are = absurd are
map_length rules g ps (c ∷ cs) [] are = absurd are
map_length rules g ps (c ∷ cs) (n ∷ ns) are = ap suc (map_length rules g ps cs ns are.1)

cells_length : (e : Extent) → length (cells e) ≡ e.rows * e.cols
cells_length e = length-lists (row_cells e.cols) 0 e.rows e.cols (λ r. length-map-range_with_len (λ k. record { row = r; col = k }) 0 e.cols)

same_fit : (judged : Judged) (s : GroundSet) (drawn : Option FaultMap) (memory : List ℕ) → IsSome drawn →
    IsMapOfCells (rules_in judged s) (set_grid s) (set_products s) (cells (set_grid s).extent) drawn → fits drawn memory ≡ has_map_length s memory
same_fit judged s None memory some are = cc
same_fit judged s (Some drawn) memory some are =
    ap (λ n. length memory == n) (map_length (rules_in judged s) (set_grid s) (set_products s) (cells (set_grid s).extent) drawn.pixels.items are ∙ cells_length (set_grid s).extent)

reports_either : (judged : Judged) (s : GroundSet) (outcome : Outcome) (b : Bool) (shown : Answer) → IsOutcomeIn judged s (Ok outcome) →
    (IsTrue b → ShowsOutcome (Ok outcome) shown) → (IsFalse b → ShowsBadMap shown) → Reports (IsOutcomeIn judged s) (mapped_found b) (mapped_line b) shown
reports_either judged s outcome true shown is fit misfit = record { value = Ok outcome; is = is; shows = fit refl }
reports_either judged s outcome false shown is fit misfit = record { value = Ok outcome; is = is; shows = misfit refl }

reports_drawn : (judged : Judged) (s : GroundSet) (e : Explained) (memory : List ℕ) (shown : Answer) → IsOutcomeIn judged s (Ok e.outcome) → AreFoundIn judged s e →
    IsSome e.map → (IsTrue (fits e.map memory) → ShowsOutcome (Ok e.outcome) shown) → (IsFalse (fits e.map memory) → ShowsBadMap shown) →
    ReportsMapped judged s memory shown
reports_drawn judged s e memory shown is found some fit misfit =
    let same : fits e.map memory ≡ has_map_length s memory = same_fit judged s e.map memory some found.map in
    subst (λ b. Reports (IsOutcomeIn judged s) (mapped_found b) (mapped_line b) shown) same (reports_either judged s e.outcome (fits e.map memory) shown is fit misfit)

-- the answer to inputs, which are sets
pub reports : (call : Call) (explained : Result Explained Refusal) (memory new : List ℕ) (old_faults faults : Faults) (shown : Answer) →
    OfCall call (λ i. IsOutcomeIn call.judged (set_in i) (outcome_in explained)) → IfOk explained (λ e. OfCall call (λ i. AreFoundIn call.judged (set_in i) e)) → IfOk explained (λ e. IsSome e.map) →
    ShowsExplained explained (memory, old_faults) (new, faults) shown → OfCall call (λ i. ReportsMapped call.judged (set_in i) memory shown)
reports call (Ok e) memory new old_faults faults shown is found some shows = λ i of.
    reports_drawn call.judged (set_in i) e memory shown (is i of) (found i of) some (λ fit. (shows.0 fit).answer_is) (λ misfit. (shows.1 misfit).0)
reports call (Err refusal) memory new old_faults faults shown is found some shows = λ i of. record { value = Err refusal; is = is i of; shows = shows.0 }

map_kept : (judged : Judged) (s : GroundSet) (drawn : Option FaultMap) (map : List ℕ) → IsMap drawn map →
    IsMapOfCells (rules_in judged s) (set_grid s) (set_products s) (cells (set_grid s).extent) drawn →
    AreMapPixels (rules_in judged s) (set_grid s) (set_products s) (cells (set_grid s).extent) map
map_kept judged s None map is are = absurd is
map_kept judged s (Some drawn) map is are = subst (AreMapPixels (rules_in judged s) (set_grid s) (set_products s) (cells (set_grid s).extent)) (sym is) are

explains_drawn : (judged : Judged) (s : GroundSet) (e : Explained) (map : List ℕ) (faults : Faults) (shown : Answer) → AreFoundIn judged s e →
    ShowsExplanation e map faults shown → Explains judged s faults map
explains_drawn judged s e map faults shown found shows = record {
  by_rule = e.by_rule;
  each_rule = found.each_rule;
  shown = shows.faults_are;
  map_is = map_kept judged s e.map map shows.map_is found.map;
}

-- the status of an outcome is below 2
below_two_of : (outcome : Outcome) (status : ℕ) → status ≡ (outcome_found (Ok outcome)).status → status < 2
below_two_of (Accepted counts) status is = omega arith
below_two_of (AcceptedSurface counts) status is = omega arith
below_two_of (Rejected rule row col) status is = omega arith
below_two_of (NoEnd row col) status is = omega arith
below_two_of (NotFilled row col) status is = omega arith

explains_either : (judged : Judged) (s : GroundSet) (e : Explained) (b : Bool) (map : List ℕ) (faults : Faults) (shown : Answer) → AreFoundIn judged s e →
    (IsTrue b → ShowsExplanation e map faults shown) → (IsFalse b → ShowsBadMap shown) → shown.status < 2 → Explains judged s faults map
explains_either judged s e true map faults shown found fit misfit below = explains_drawn judged s e map faults shown found (fit refl)
explains_either judged s e false map faults shown found fit misfit below = (let two : shown.status ≡ 2 = (misfit refl).status_is in absurd (omega arith))

-- a status below 2 is that of no refusal
not_refused : (refusal : Refusal) (shown : Answer) → ShowsOutcome (Err refusal) shown → shown.status < 2 → ⊥
not_refused refusal shown shows below =
    let is : shown.status ≡ (refusal_found refusal).status = shows.status_is in
    omega (arith, from_two refusal, is, below)

-- with such a status what is written explains the inputs
pub explains : (call : Call) (explained : Result Explained Refusal) (memory map : List ℕ) (old_faults faults : Faults) (shown : Answer) →
    IfOk explained (λ e. OfCall call (λ i. AreFoundIn call.judged (set_in i) e)) → ShowsExplained explained (memory, old_faults) (map, faults) shown →
    shown.status < 2 → OfCall call (λ i. Explains call.judged (set_in i) faults map)
explains call (Ok e) memory map old_faults faults shown found shows below = λ i of.
    explains_either call.judged (set_in i) e (fits e.map memory) map faults shown (found i of) shows.0 (λ misfit. (shows.1 misfit).0) below
explains call (Err refusal) memory map old_faults faults shown found shows below = absurd (not_refused refusal shown shows.0 below)

-- and what holds with an outcome holds
pub below_two : {P : Type 0} (explained : Result Explained Refusal) (memory map : List ℕ) (old_faults faults : Faults) (shown : Answer) →
    ShowsExplained explained (memory, old_faults) (map, faults) shown → shown.status < 2 → IfOk explained (λ e. P) → P
below_two (Ok e) memory map old_faults faults shown shows below fact = fact
below_two (Err refusal) memory map old_faults faults shown shows below fact = absurd (not_refused refusal shown shows.0 below)

unwritten_either : (e : Explained) (b : Bool) (memory map : List ℕ) (old_faults faults : Faults) (shown : Answer) → (IsTrue b → ShowsExplanation e map faults shown) →
    (IsFalse b → ShowsBadMap shown × (map ≡ memory) × (faults ≡ old_faults)) → 2 ≤ shown.status → (map ≡ memory) × (faults ≡ old_faults)
unwritten_either e true memory map old_faults faults shown fit misfit from =
    let below : shown.status < 2 = below_two_of e.outcome shown.status (fit refl).answer_is.status_is in
    absurd (omega arith)
unwritten_either e false memory map old_faults faults shown fit misfit from = ((misfit refl).1, (misfit refl).2)

-- with another nothing is written
pub unwritten : (explained : Result Explained Refusal) (memory map : List ℕ) (old_faults faults : Faults) (shown : Answer) →
    ShowsExplained explained (memory, old_faults) (map, faults) shown → 2 ≤ shown.status → (map ≡ memory) × (faults ≡ old_faults)
unwritten (Ok e) memory map old_faults faults shown shows from = unwritten_either e (fits e.map memory) memory map old_faults faults shown shows.0 shows.1 from
unwritten (Err refusal) memory map old_faults faults shown shows from = (shows.1, shows.2)

-- An explanation without what C isn't told.

pub outcome_kept : {F : Type 0} (answer : Result (Explanation F) Refusal) → outcome_in (explained_of answer) ≡ answer_in answer
outcome_kept (Ok e) = refl
outcome_kept (Err refusal) = refl

pub explained_kept : {F : Type 0} (answer : Result (Explanation F) Refusal) (P : Explanation F → Type 0) (Q : Explained → Type 0) →
    ((e : Explanation F) → P e → Q (record { outcome = e.outcome; by_rule = e.findings.by_rule; map = e.findings.map })) → IfOk answer P → IfOk (explained_of answer) Q
explained_kept (Ok e) P Q turn holds = turn e holds
explained_kept (Err refusal) P Q turn holds = tt
