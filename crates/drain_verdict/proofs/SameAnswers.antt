-- Two grounds with the same elevations, neither of which is refused: each answer about the one is one about the other.
use Rattle.drain_verdict.proofs.Names.{◌≡◌, ◌↔◌, ◌∙◌, ℤ, pos, Bool, Some, None, IsSome, is_some, Ok, if◌then◌else◌, refl, sym, ap, subst, AuditVerdict, Outcome, Refusal, BadHeader, WrongShape, Misplaced, RasterShort, BadSinkLine, SinkNotData, BadSpacingLine, SpacingRows, OutOfMemory, ReadFailed, Cell, HeightKind, Judged, AllWithRanks, Product, SetProduct, Verdict, Extent, IsCellOf, check_rules, IsAnyRule, IsPartRule, IsTried, part_rules, tried, OfSetProduct, Distances, is_listed, run_steps, NoDataNumbers, PaddingKeepsFirstEndless, PaddingKeepsRuns, UNKNOWN, AllRunsEnd, IsVerdict, IsVerdictBy, IsBefore, IsFirst, IsAnswerIn, IsAuditIn, IsAuditVerdict, certified, certified_nodata, certified_ranks, Ground, GroundSet, IsReadable, IsRefusalIn, StandsIn, order_in, set_grid, set_numbers, set_products, IsConOutcome, IsOutcome, IsOutcomeIn, IsWayOutcome, rules_of, without_outlets, AreOne, AreOneGround, HaveOneAnswer, HaveOneElevation, HaveOneVerdict, IsOfBytes, IsSound, SetTexts, set_fields, set_listed}
use Rattle.std.proofs.Common.{ℕ, Option, Result, Err}
use Rattle.drain_answer.specs.declared.outcome.AuditVerdict.TheVariants as audited
use Rattle.drain_answer.specs.declared.outcome.Outcome.TheVariants as judged_as
use Rattle.drain_grid.specs.declared.judged.Judged.TheVariants.{Con}
use Rattle.drain_grid.specs.declared.product.Product.TheVariants as product
use Rattle.drain_grid.specs.declared.verdict.Verdict.TheVariants as checked
use Rattle.drain_grid.specs.Grid.{Products}
use Rattle.drain_verdict.proofs.OneAnswer.{audit_is_one, audit_once, check_is_one, outcome_is_one, outcome_once, verdict_once}
use Rattle.drain_verdict.proofs.SameGrids as grids
use Rattle.drain_verdict.specs.Given.{row_spacing}

-- what follows of each product follows of the one that is named
of_each : (P Q : SetProduct → Type 0) → ((h : SetProduct) → P h → Q h) → (p : Product) → OfSetProduct P p → OfSetProduct Q p
of_each P Q follows product.Con is = follows _ is
of_each P Q follows product.Dir is = follows _ is
of_each P Q follows product.Acc is = follows _ is
of_each P Q follows product.Bas is = follows _ is
of_each P Q follows product.Rnk is = follows _ is
of_each P Q follows product.Spl is = is

-- a ground of another size and kind of heights, and the set on it
abbrev sized : Extent → HeightKind → Ground → Ground
sized e k g = record { extent = e; elevation = g.elevation; kind = k; Holds = g.Holds; Refuses = g.Refuses; among = g.among }

abbrev set_at : Extent → HeightKind → Ground → SetTexts → GroundSet
set_at e k g t = record { terrain = sized e k g; texts = t }

-- a number that is given where there is an elevation, and another where there is none
by_data : (a b : Option ℤ) (m n : ℕ) (none : ℤ) → a ≡ b → (IsSome a → m ≡ n) → (if is_some a then pos m else none) ≡ (if is_some b then pos n else none)
by_data a b m n none is same = given a same ∙ ap (λ (o : Option ℤ). if is_some o then pos n else none) is
  where
    given : (o : Option ℤ) → (IsSome o → m ≡ n) → (if is_some o then pos m else none) ≡ (if is_some o then pos n else none)
    given None same = refl
    given (Some x) same = ap (λ (k : ℕ). pos k) (same refl)

-- two grounds of one size, with the same elevations
module _ (runs_kept : PaddingKeepsRuns) (endless_kept : PaddingKeepsFirstEndless) (e : Extent) (k : HeightKind) (t : SetTexts) (a b : Ground)
    (same : (c : Cell) → IsCellOf e c → a.elevation c ≡ b.elevation c) where
  abbrev sink : Cell → Bool
  sink = is_listed (set_listed t)

  abbrev spacing : ℕ → Distances
  spacing = row_spacing k t.given.spacing

  abbrev here : GroundSet
  here = set_at e k a t

  abbrev there : GroundSet
  there = set_at e k b t

  abbrev ps : Products
  ps = set_products here

  abbrev nodata : NoDataNumbers
  nodata = set_numbers here

  -- each cell shows the same, whatever the products
  shown : grids.ShowAlike e a.elevation b.elevation sink spacing ps ps
  shown c inside = ap (λ (z : Option ℤ). record { z = z; sink = sink c; con = ps.con c; dir = ps.dir c; acc = ps.acc c; bas = ps.bas c; spl = ps.spl c; rnk = ps.rnk c }) (same c inside)

  -- with ranks that are steps of paths too, where all end
  ranks : AllRunsEnd (set_grid here) ps → (c : Cell) → IsCellOf e c → certified_ranks (set_grid here) ps c ≡ certified_ranks (set_grid there) ps c
  ranks ends c inside =
      by_data (a.elevation c) (b.elevation c) (run_steps (set_grid here) ps c) (run_steps (set_grid there) ps c) (pos UNKNOWN) (same c inside)
      (λ is_data. grids.steps e a.elevation b.elevation sink spacing ps ps shown runs_kept nodata ends c (record { inside = inside; is_data = is_data }))

  shown_with_ranks : AllRunsEnd (set_grid here) ps →
      grids.ShowAlike e a.elevation b.elevation sink spacing (certified (set_grid here) ps) (certified (set_grid there) ps)
  shown_with_ranks ends c inside = λ i. record {
    z = same c inside i;
    sink = sink c;
    con = ps.con c;
    dir = ps.dir c;
    acc = ps.acc c;
    bas = ps.bas c;
    spl = ps.spl c;
    rnk = ranks ends c inside i;
  }

  ends_there : AllRunsEnd (set_grid here) ps → AllRunsEnd (set_grid there) ps
  ends_there ends = grids.runs_end e a.elevation b.elevation sink spacing ps ps shown runs_kept nodata ends

  checked_there : (verdict : Verdict) → AllRunsEnd (set_grid here) ps →
      IsVerdict (set_grid here) (certified (set_grid here) ps) (certified_nodata nodata) verdict →
      IsVerdict (set_grid there) (certified (set_grid there) ps) (certified_nodata nodata) verdict
  checked_there verdict ends is =
      grids.verdict e a.elevation b.elevation sink spacing (certified (set_grid here) ps) (certified (set_grid there) ps) (shown_with_ranks ends)
      (check_rules (certified_nodata nodata)) IsAnyRule verdict is

  audit_there : (verdict : AuditVerdict) → IsAuditVerdict (set_grid here) ps nodata verdict → IsAuditVerdict (set_grid there) ps nodata verdict
  audit_there (audited.NoEnd row col) is =
      grids.first_endless e a.elevation b.elevation sink spacing ps ps shown endless_kept nodata (record { row = row; col = col }) is
  audit_there (audited.Accepted counts) is = (ends_there is.0, checked_there (checked.Accepted counts) is.0 is.1)
  audit_there (audited.Rejected rule row col) is = (ends_there is.0, checked_there (checked.Rejected rule row col) is.0 is.1)

  tried_there : (judged : Judged) (verdict : Verdict) → IsVerdictBy (rules_of judged nodata) (set_grid here) ps verdict →
      IsVerdictBy (rules_of judged nodata) (set_grid there) ps verdict
  tried_there judged = grids.verdict e a.elevation b.elevation sink spacing ps ps shown (tried (rules_of judged nodata)) (IsTried judged)

  con_there : (outcome : Outcome) → IsConOutcome (set_grid here) ps nodata outcome → IsConOutcome (set_grid there) ps nodata outcome
  con_there (judged_as.AcceptedSurface counts) is = (
    grids.rules e a.elevation b.elevation sink spacing ps ps shown (part_rules Con nodata) (IsPartRule Con) is.0,
    grids.least_there e a.elevation b.elevation sink spacing ps ps shown ps.con is.1,
    is.2 ∙ ap without_outlets (grids.counts e a.elevation b.elevation sink spacing ps ps shown),
  )
  con_there (judged_as.NotFilled row col) is = (
    grids.rules e a.elevation b.elevation sink spacing ps ps shown (part_rules Con nodata) (IsPartRule Con) is.0,
    grids.first_unfilled e a.elevation b.elevation sink spacing ps ps shown (record { row = row; col = col }) ps.con is.1,
  )
  con_there (judged_as.Rejected rule row col) is =
      grids.first_fault e a.elevation b.elevation sink spacing ps ps shown (part_rules Con nodata) (IsPartRule Con) (record { row = row; col = col }) rule is
  con_there (judged_as.Accepted counts) is = is
  con_there (judged_as.NoEnd row col) is = is

  way_there : (judged : Judged) (outcome : Outcome) → IsWayOutcome judged (set_grid here) ps nodata outcome → IsWayOutcome judged (set_grid there) ps nodata outcome
  way_there judged (judged_as.Accepted counts) is = (ends_there is.0, tried_there judged (checked.Accepted counts) is.1)
  way_there judged (judged_as.Rejected rule row col) is = (ends_there is.0, tried_there judged (checked.Rejected rule row col) is.1)
  way_there judged (judged_as.NoEnd row col) is =
      grids.first_endless e a.elevation b.elevation sink spacing ps ps shown endless_kept nodata (record { row = row; col = col }) is
  way_there judged (judged_as.AcceptedSurface counts) is = is
  way_there judged (judged_as.NotFilled row col) is = is

  outcome_there : (judged : Judged) (outcome : Outcome) → IsOutcome judged (set_grid here) ps nodata outcome → IsOutcome judged (set_grid there) ps nodata outcome
  outcome_there Con outcome is = con_there outcome is
  outcome_there AllWithRanks (judged_as.Accepted counts) is = tried_there AllWithRanks (checked.Accepted counts) is
  outcome_there AllWithRanks (judged_as.Rejected rule row col) is = tried_there AllWithRanks (checked.Rejected rule row col) is
  outcome_there AllWithRanks outcome is = is
  outcome_there judged outcome is = way_there judged outcome is

  -- why they are refused
  module _ (one_sound : IsSound a) (lies : (p : SetProduct) → b.Holds (set_fields k t p).place → a.Holds (set_fields k t p).place) where
    stands_there : (refusal : Refusal) → StandsIn here refusal → StandsIn there refusal
    stands_there (BadHeader p fault) is = is
    stands_there (WrongShape p) is = is
    stands_there (Misplaced p) is =
        of_each (λ h. ¬ a.Holds (set_fields k t h).place) (λ h. ¬ b.Holds (set_fields k t h).place) (λ h out on. out (lies h on)) p is
    stands_there (RasterShort p) is = is
    stands_there (BadSinkLine n) is = is
    stands_there (SinkNotData n) is = record {
      place = is.place;
      listed = is.listed;
      is_there = is.is_there;
      line_is = is.line_is;
      no_data = λ has. is.no_data (grids.data_back e a.elevation b.elevation sink spacing ps ps shown is.listed.cell has);
    }
    stands_there (BadSpacingLine n) is = is
    stands_there (SpacingRows n) is = is
    stands_there OutOfMemory is = is
    stands_there ReadFailed is = is
    stands_there refusal is = absurd (one_sound refusal is)

    -- in one order
    order_there : (refusal : Refusal) → StandsIn here refusal → order_in here refusal ≡ order_in there refusal
    order_there (BadHeader p fault) is = refl
    order_there (WrongShape p) is = refl
    order_there (Misplaced p) is = refl
    order_there (RasterShort p) is = refl
    order_there (BadSinkLine n) is = refl
    order_there (SinkNotData n) is = refl
    order_there (BadSpacingLine n) is = refl
    order_there (SpacingRows n) is = refl
    order_there OutOfMemory is = refl
    order_there ReadFailed is = refl
    order_there refusal is = absurd (one_sound refusal is)

-- and where neither is refused, and each product lies on both or on neither
module _ (runs_kept : PaddingKeepsRuns) (endless_kept : PaddingKeepsFirstEndless) (e : Extent) (k : HeightKind) (t : SetTexts) (a b : Ground)
    (same : (c : Cell) → IsCellOf e c → a.elevation c ≡ b.elevation c) (one_sound : IsSound a) (other_sound : IsSound b)
    (lies : (p : SetProduct) → b.Holds (set_fields k t p).place ↔ a.Holds (set_fields k t p).place) where
  stands_over : (refusal : Refusal) → StandsIn (set_at e k a t) refusal → StandsIn (set_at e k b t) refusal
  stands_over = stands_there runs_kept endless_kept e k t a b same one_sound (λ p. (lies p).0)

  stands_back : (refusal : Refusal) → StandsIn (set_at e k b t) refusal → StandsIn (set_at e k a t) refusal
  stands_back = stands_there runs_kept endless_kept e k t b a (λ c inside. sym (same c inside)) other_sound (λ p. (lies p).1)

  first_over : (refusal : Refusal) → IsFirst (order_in (set_at e k a t)) (StandsIn (set_at e k a t)) refusal →
      IsFirst (order_in (set_at e k b t)) (StandsIn (set_at e k b t)) refusal
  first_over refusal is = record {
    holds = stands_over refusal is.holds;
    first = λ q before stands.
        (let q_is = order_there runs_kept endless_kept e k t b a (λ c inside. sym (same c inside)) other_sound (λ p. (lies p).1) q stands in
        let refusal_is = order_there runs_kept endless_kept e k t a b same one_sound (λ p. (lies p).0) refusal is.holds in
        is.first q
        (subst (λ (o : ℕ × ℕ). IsBefore o (order_in (set_at e k a t) refusal)) q_is
        (subst (λ (o : ℕ × ℕ). IsBefore (order_in (set_at e k b t) q) o) (sym refusal_is) before))
        (stands_back q stands));
  }

  refusal_over : (refusal : Refusal) → IsRefusalIn (set_at e k a t) refusal → IsRefusalIn (set_at e k b t) refusal
  refusal_over OutOfMemory is = is
  refusal_over ReadFailed is = is
  refusal_over refusal is = first_over refusal is

  readable_over : IsReadable (set_at e k a t) → IsReadable (set_at e k b t)
  readable_over readable refusal stands = readable refusal (stands_back refusal stands)

  audit_over : (answer : Result AuditVerdict Refusal) → IsAuditIn (set_at e k a t) answer → IsAuditIn (set_at e k b t) answer
  audit_over (Ok verdict) is = (readable_over is.0, audit_there runs_kept endless_kept e k t a b same verdict is.1)
  audit_over (Err refusal) is = refusal_over refusal is

  check_over : (answer : Result Verdict Refusal) → IsAnswerIn (set_at e k a t) answer → IsAnswerIn (set_at e k b t) answer
  check_over (Ok verdict) is = (readable_over is.0, tried_there runs_kept endless_kept e k t a b same AllWithRanks verdict is.1)
  check_over (Err refusal) is = refusal_over refusal is

  outcome_over : (judged : Judged) (answer : Result Outcome Refusal) → IsOutcomeIn judged (set_at e k a t) answer → IsOutcomeIn judged (set_at e k b t) answer
  outcome_over judged (Ok outcome) is = (readable_over is.0, outcome_there runs_kept endless_kept e k t a b same judged outcome is.1)
  outcome_over judged (Err refusal) is = refusal_over refusal is

turned : {A B : Type 0} → A ↔ B → B ↔ A
turned is = (is.1, is.0)

-- what holds both ways of each answer, and once of the other's, is one
are_one : {A : Type 0} (Here There : Result A Refusal → Type 0) → ((answer : Result A Refusal) → Here answer → There answer) →
    ((answer : Result A Refusal) → There answer → Here answer) →
    ((one other : Result A Refusal) → IsOfBytes one → IsOfBytes other → There one → There other → one ≡ other) → AreOne Here There
are_one Here There over back once = record {
  same = λ answer. (over answer, back answer);
  one = λ here there told told_too is is_there. once here there told told_too (over here is) is_there;
}

pub one_answer : PaddingKeepsRuns → PaddingKeepsFirstEndless → (a b : Ground) (t : SetTexts) → AreOneGround a b t →
    HaveOneAnswer (record { terrain = a; texts = t }) (record { terrain = b; texts = t })
one_answer runs_kept endless_kept a b t one =
    let e = a.extent in
    let k = a.kind in
    let same : (c : Cell) → IsCellOf e c → a.elevation c ≡ b.elevation c = λ c inside. sym (one.cells.elevation c inside) in
    let lies : (p : SetProduct) → a.Holds (set_fields k t p).place ↔ b.Holds (set_fields k t p).place = λ p. turned (one.lies p) in
    subst (λ (x : Extent). HaveOneAnswer (record { terrain = a; texts = t }) (set_at x b.kind b t)) (sym one.cells.extent)
    (subst (λ (x : HeightKind). HaveOneAnswer (record { terrain = a; texts = t }) (set_at e x b t)) (sym one.cells.kind)
    (record {
      audit =
          are_one _ _ (audit_over runs_kept endless_kept e k t a b same one.one_sound one.other_sound one.lies)
          (audit_over runs_kept endless_kept e k t b a one.cells.elevation one.other_sound one.one_sound lies)
          (audit_is_one (set_at e k b t) one.other_sound);
      check =
          are_one _ _ (check_over runs_kept endless_kept e k t a b same one.one_sound one.other_sound one.lies)
          (check_over runs_kept endless_kept e k t b a one.cells.elevation one.other_sound one.one_sound lies)
          (check_is_one (set_at e k b t) one.other_sound);
      judged = λ judged.
          are_one _ _ (outcome_over runs_kept endless_kept e k t a b same one.one_sound one.other_sound one.lies judged)
          (outcome_over runs_kept endless_kept e k t b a one.cells.elevation one.other_sound one.one_sound lies judged)
          (outcome_is_one (set_at e k b t) one.other_sound judged);
    }))

-- of the same elevations two verdicts are one, whatever else the grounds are
pub one_verdict : PaddingKeepsRuns → PaddingKeepsFirstEndless → (a b : Ground) (t : SetTexts) → HaveOneElevation a b →
    HaveOneVerdict (record { terrain = a; texts = t }) (record { terrain = b; texts = t })
one_verdict runs_kept endless_kept a b t cells =
    let e = a.extent in
    let k = a.kind in
    let same : (c : Cell) → IsCellOf e c → a.elevation c ≡ b.elevation c = λ c inside. sym (cells.elevation c inside) in
    let s : GroundSet = set_at e k b t in
    subst (λ (x : Extent). HaveOneVerdict (record { terrain = a; texts = t }) (set_at x b.kind b t)) (sym cells.extent)
    (subst (λ (x : HeightKind). HaveOneVerdict (record { terrain = a; texts = t }) (set_at e x b t)) (sym cells.kind)
    (record {
      audit = λ here there is is_there.
          audit_once (set_grid s) (set_products s) (set_numbers s) here there (audit_there runs_kept endless_kept e k t a b same here is.1) is_there.1;
      check = λ here there is is_there.
          verdict_once (check_rules (set_numbers s)) IsAnyRule (set_grid s) (set_products s) here there
          (tried_there runs_kept endless_kept e k t a b same AllWithRanks here is.1) is_there.1;
      judged = λ judged here there is is_there.
          outcome_once judged (set_grid s) (set_products s) (set_numbers s) here there
          (outcome_there runs_kept endless_kept e k t a b same judged here is.1) is_there.1;
    }))
