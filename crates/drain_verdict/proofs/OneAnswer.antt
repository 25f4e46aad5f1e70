-- A set on a ground that isn't refused has one answer: no two refusals have one place, no two cells or rules are first,
-- and an acceptance names the counts.
use Rattle.drain_verdict.proofs.Names.{◌≡◌, inl, inr, ◌∙◌, ◌<◌, List, [], ◌∷◌, Ok, arith, refl, sym, ap, subst, cases_order, AuditVerdict, Outcome, Refusal, BadHeader, WrongShape, Misplaced, RasterShort, BadSinkLine, SinkNotData, BadSpacingLine, SpacingRows, OutOfMemory, ReadFailed, IsFirstUnfilled, cases_earlier, Cell, Judged, AllWithRanks, Product, Rule, SetProduct, Verdict, Grid, IsFirstFault, Surface, Profile, check_rules, IsAnyRule, rule_number, IsPartRule, IsTried, part_rules, tried, OfSetProduct, place_of, product_of, IsFirstEndless, NoDataNumbers, HeaderFault, HeightKind, AnswersOf, IsVerdict, IsVerdictAmong, IsVerdictBy, IsFirst, IsAnswerIn, IsAuditIn, IsAuditVerdict, certified, certified_nodata, refusal_kind, GroundSet, IsReadable, IsRefusalIn, StandsIn, order_in, place_in, set_grid, set_numbers, set_products, IsConOutcome, IsOutcome, IsOutcomeIn, IsRankOutcome, IsWayOutcome, rules_of, kind_in, IsOfBytes, IsSound}
use Rattle.std.proofs.Common.{ℕ, Result, Err}
use Rattle.drain_answer.specs.declared.outcome.AuditVerdict.TheVariants as audited
use Rattle.drain_answer.specs.declared.outcome.Outcome.TheVariants as judged_as
use Rattle.std.specs.Prelude.{slice_index_or}
use Rattle.drain_grid.proofs.AllRules.{same_rule}
use Rattle.drain_grid.specs.declared.judged.Judged.TheVariants.{Con}
use Rattle.drain_grid.specs.declared.product.Product.TheVariants as product
use Rattle.drain_grid.specs.declared.set_product.SetProduct.TheVariants as held
use Rattle.drain_grid.specs.declared.verdict.Verdict.TheVariants as checked
use Rattle.drain_grid.specs.Grid.{Products}
use Rattle.drain_header.proofs.OneAnswer as header
use Rattle.drain_verdict.proofs.Order.{at_bad_line, at_bad_spacing, at_header, at_off_data, at_raster, at_spacing_rows}

-- The verdict.

-- the first of two is none that is earlier
first_fault_once : (profile : Profile) (IsOwn : Rule → Type 0) (g : Grid) (ps : Products) (c d : Cell) (r q : Rule) →
    IsFirstFault profile IsOwn g ps c r → IsFirstFault profile IsOwn g ps d q → (c ≡ d) × (r ≡ q)
first_fault_once profile IsOwn g ps c d r q one other =
    elim (cases_earlier c d) [
      | inl same ↦ (
        same,
        elim (cases_order (rule_number r) (rule_number q)) [
          | inl number ↦ same_rule r q number
          | inr (inl less) ↦ absurd (one.fails (other.first c r one.inside one.is_own (inr (same, less))))
          | inr (inr more) ↦ absurd (other.fails (one.first d q other.inside other.is_own (inr (sym same, more))))
        ],
      )
      | inr (inl earlier) ↦ absurd (one.fails (other.first c r one.inside one.is_own (inl earlier)))
      | inr (inr later) ↦ absurd (other.fails (one.first d q other.inside other.is_own (inl later)))
    ]

pub verdict_once : (profile : Profile) (IsOwn : Rule → Type 0) (g : Grid) (ps : Products) (one other : Verdict) →
    IsVerdictAmong profile IsOwn g ps one → IsVerdictAmong profile IsOwn g ps other → one ≡ other
verdict_once profile IsOwn g ps (checked.Accepted k) (checked.Accepted m) one other = ap (λ n. checked.Accepted n) (one.1 ∙ sym other.1)
verdict_once profile IsOwn g ps (checked.Accepted k) (checked.Rejected r row col) one other = absurd (other.fails (one.0 _ r other.inside other.is_own))
verdict_once profile IsOwn g ps (checked.Rejected r row col) (checked.Accepted k) one other = absurd (one.fails (other.0 _ r one.inside one.is_own))
verdict_once profile IsOwn g ps (checked.Rejected r row col) (checked.Rejected q down right) one other =
    let same = first_fault_once profile IsOwn g ps _ _ r q one other in
    λ i. checked.Rejected (same.1 i) (ap (λ (c : Cell). c.row) same.0 i) (ap (λ (c : Cell). c.col) same.0 i)

endless_once : (g : Grid) (ps : Products) (c d : Cell) → IsFirstEndless g ps c → IsFirstEndless g ps d → c ≡ d
endless_once g ps c d one other =
    elim (cases_earlier c d) [
      | inl same ↦ same
      | inr (inl earlier) ↦ absurd (one.endless (other.first c one.here earlier))
      | inr (inr later) ↦ absurd (other.endless (one.first d other.here later))
    ]

unfilled_once : (g : Grid) (s : Surface) (c d : Cell) → IsFirstUnfilled g s c → IsFirstUnfilled g s d → c ≡ d
unfilled_once g s c d one other =
    elim (cases_earlier c d) [
      | inl same ↦ same
      | inr (inl earlier) ↦ absurd (one.differs one.filled.0 one.filled.1 (other.before one.filled.0 one.filled.1 c one.here earlier))
      | inr (inr later) ↦ absurd (other.differs one.filled.0 one.filled.1 (one.before one.filled.0 one.filled.1 d other.here later))
    ]

-- the verdict of the rules as an audit's, and as an outcome
abbrev as_audited : Verdict → AuditVerdict
as_audited (checked.Accepted counts) = audited.Accepted counts
as_audited (checked.Rejected rule row col) = audited.Rejected rule row col

abbrev as_outcome : Verdict → Outcome
as_outcome (checked.Accepted counts) = judged_as.Accepted counts
as_outcome (checked.Rejected rule row col) = judged_as.Rejected rule row col

rules_once : (g : Grid) (ps : Products) (nodata : NoDataNumbers) (one other : Verdict) → IsVerdict g (certified g ps) (certified_nodata nodata) one →
    IsVerdict g (certified g ps) (certified_nodata nodata) other → as_audited one ≡ as_audited other
rules_once g ps nodata one other is too = ap as_audited (verdict_once (check_rules (certified_nodata nodata)) IsAnyRule g (certified g ps) one other is too)

tried_once : (judged : Judged) (g : Grid) (ps : Products) (nodata : NoDataNumbers) (one other : Verdict) → IsVerdictBy (rules_of judged nodata) g ps one →
    IsVerdictBy (rules_of judged nodata) g ps other → as_outcome one ≡ as_outcome other
tried_once judged g ps nodata one other is too = ap as_outcome (verdict_once (tried (rules_of judged nodata)) (IsTried judged) g ps one other is too)

pub audit_once : (g : Grid) (ps : Products) (nodata : NoDataNumbers) (one other : AuditVerdict) → IsAuditVerdict g ps nodata one →
    IsAuditVerdict g ps nodata other → one ≡ other
audit_once g ps nodata (audited.NoEnd row col) (audited.NoEnd down right) one other =
    ap (λ (c : Cell). audited.NoEnd c.row c.col) (endless_once g ps (record { row = row; col = col }) (record { row = down; col = right }) one other)
audit_once g ps nodata (audited.NoEnd row col) (audited.Accepted k) one other = absurd (one.endless (other.0 _ one.here))
audit_once g ps nodata (audited.NoEnd row col) (audited.Rejected r down right) one other = absurd (one.endless (other.0 _ one.here))
audit_once g ps nodata (audited.Accepted k) (audited.NoEnd row col) one other = absurd (other.endless (one.0 _ other.here))
audit_once g ps nodata (audited.Rejected r down right) (audited.NoEnd row col) one other = absurd (other.endless (one.0 _ other.here))
audit_once g ps nodata (audited.Accepted k) (audited.Accepted m) one other = rules_once g ps nodata (checked.Accepted k) (checked.Accepted m) one.1 other.1
audit_once g ps nodata (audited.Accepted k) (audited.Rejected r row col) one other = rules_once g ps nodata (checked.Accepted k) (checked.Rejected r row col) one.1 other.1
audit_once g ps nodata (audited.Rejected r row col) (audited.Accepted k) one other = rules_once g ps nodata (checked.Rejected r row col) (checked.Accepted k) one.1 other.1
audit_once g ps nodata (audited.Rejected r row col) (audited.Rejected q down right) one other = rules_once g ps nodata (checked.Rejected r row col) (checked.Rejected q down right) one.1 other.1

way_once : (judged : Judged) (g : Grid) (ps : Products) (nodata : NoDataNumbers) (one other : Outcome) → IsWayOutcome judged g ps nodata one →
    IsWayOutcome judged g ps nodata other → one ≡ other
way_once judged g ps nodata (judged_as.NoEnd row col) (judged_as.NoEnd down right) one other =
    ap (λ (c : Cell). judged_as.NoEnd c.row c.col) (endless_once g ps (record { row = row; col = col }) (record { row = down; col = right }) one other)
way_once judged g ps nodata (judged_as.NoEnd row col) (judged_as.Accepted k) one other = absurd (one.endless (other.0 _ one.here))
way_once judged g ps nodata (judged_as.NoEnd row col) (judged_as.Rejected r down right) one other = absurd (one.endless (other.0 _ one.here))
way_once judged g ps nodata (judged_as.Accepted k) (judged_as.NoEnd row col) one other = absurd (other.endless (one.0 _ other.here))
way_once judged g ps nodata (judged_as.Rejected r down right) (judged_as.NoEnd row col) one other = absurd (other.endless (one.0 _ other.here))
way_once judged g ps nodata (judged_as.Accepted k) (judged_as.Accepted m) one other = tried_once judged g ps nodata (checked.Accepted k) (checked.Accepted m) one.1 other.1
way_once judged g ps nodata (judged_as.Accepted k) (judged_as.Rejected r row col) one other = tried_once judged g ps nodata (checked.Accepted k) (checked.Rejected r row col) one.1 other.1
way_once judged g ps nodata (judged_as.Rejected r row col) (judged_as.Accepted k) one other = tried_once judged g ps nodata (checked.Rejected r row col) (checked.Accepted k) one.1 other.1
way_once judged g ps nodata (judged_as.Rejected r row col) (judged_as.Rejected q down right) one other = tried_once judged g ps nodata (checked.Rejected r row col) (checked.Rejected q down right) one.1 other.1
way_once judged g ps nodata (judged_as.AcceptedSurface k) outcome one other = absurd one
way_once judged g ps nodata (judged_as.NotFilled row col) outcome one other = absurd one
way_once judged g ps nodata outcome (judged_as.AcceptedSurface k) one other = absurd other
way_once judged g ps nodata outcome (judged_as.NotFilled row col) one other = absurd other

rank_once : (g : Grid) (ps : Products) (nodata : NoDataNumbers) (one other : Outcome) → IsRankOutcome g ps nodata one →
    IsRankOutcome g ps nodata other → one ≡ other
rank_once g ps nodata (judged_as.Accepted k) (judged_as.Accepted m) one other = tried_once AllWithRanks g ps nodata (checked.Accepted k) (checked.Accepted m) one other
rank_once g ps nodata (judged_as.Accepted k) (judged_as.Rejected r row col) one other = tried_once AllWithRanks g ps nodata (checked.Accepted k) (checked.Rejected r row col) one other
rank_once g ps nodata (judged_as.Rejected r row col) (judged_as.Accepted k) one other = tried_once AllWithRanks g ps nodata (checked.Rejected r row col) (checked.Accepted k) one other
rank_once g ps nodata (judged_as.Rejected r row col) (judged_as.Rejected q down right) one other = tried_once AllWithRanks g ps nodata (checked.Rejected r row col) (checked.Rejected q down right) one other
rank_once g ps nodata (judged_as.Accepted k) outcome one other = absurd other
rank_once g ps nodata (judged_as.Rejected r row col) outcome one other = absurd other
rank_once g ps nodata outcome other_outcome one other = absurd one

con_once : (g : Grid) (ps : Products) (nodata : NoDataNumbers) (one other : Outcome) → IsConOutcome g ps nodata one →
    IsConOutcome g ps nodata other → one ≡ other
con_once g ps nodata (judged_as.AcceptedSurface k) (judged_as.AcceptedSurface m) one other = ap (λ n. judged_as.AcceptedSurface n) (one.2 ∙ sym other.2)
con_once g ps nodata (judged_as.AcceptedSurface k) (judged_as.NotFilled row col) one other = absurd (other.1.differs ps.con one.1 refl)
con_once g ps nodata (judged_as.AcceptedSurface k) (judged_as.Rejected r row col) one other = absurd (other.fails (one.0 _ r other.inside other.is_own))
con_once g ps nodata (judged_as.NotFilled row col) (judged_as.AcceptedSurface k) one other = absurd (one.1.differs ps.con other.1 refl)
con_once g ps nodata (judged_as.NotFilled row col) (judged_as.NotFilled down right) one other =
    ap (λ (c : Cell). judged_as.NotFilled c.row c.col)
    (unfilled_once g ps.con (record { row = row; col = col }) (record { row = down; col = right }) one.1 other.1)
con_once g ps nodata (judged_as.NotFilled row col) (judged_as.Rejected r down right) one other = absurd (other.fails (one.0 _ r other.inside other.is_own))
con_once g ps nodata (judged_as.Rejected r row col) (judged_as.AcceptedSurface k) one other = absurd (one.fails (other.0 _ r one.inside one.is_own))
con_once g ps nodata (judged_as.Rejected r row col) (judged_as.NotFilled down right) one other = absurd (one.fails (other.0 _ r one.inside one.is_own))
con_once g ps nodata (judged_as.Rejected r row col) (judged_as.Rejected q down right) one other =
    ap as_outcome (verdict_once (part_rules Con nodata) (IsPartRule Con) g ps (checked.Rejected r row col) (checked.Rejected q down right) one other)
con_once g ps nodata (judged_as.Accepted k) outcome one other = absurd one
con_once g ps nodata (judged_as.NoEnd row col) outcome one other = absurd one
con_once g ps nodata outcome (judged_as.Accepted k) one other = absurd other
con_once g ps nodata outcome (judged_as.NoEnd row col) one other = absurd other

pub outcome_once : (judged : Judged) (g : Grid) (ps : Products) (nodata : NoDataNumbers) (one other : Outcome) → IsOutcome judged g ps nodata one →
    IsOutcome judged g ps nodata other → one ≡ other
outcome_once Con g ps nodata one other is too = con_once g ps nodata one other is too
outcome_once AllWithRanks g ps nodata one other is too = rank_once g ps nodata one other is too
outcome_once judged g ps nodata one other is too = way_once judged g ps nodata one other is too

-- The refusal.

-- the product at a place
abbrev at_place : ℕ → Product
at_place n = slice_index_or (product.Con ∷ product.Dir ∷ product.Acc ∷ product.Bas ∷ product.Rnk ∷ product.Spl ∷ []) n product.Spl

there : (p : Product) → at_place (place_of p) ≡ p
there product.Con = refl
there product.Dir = refl
there product.Acc = refl
there product.Bas = refl
there product.Rnk = refl
there product.Spl = refl

-- two products with one place are one
same_product : (p q : Product) → place_of p ≡ place_of q → p ≡ q
same_product p q same = sym (there p) ∙ ap at_place same ∙ there q

fault_of : (kind : HeightKind) (text : List ℕ) (one other : HeaderFault) → AnswersOf kind text (Err one) → AnswersOf kind text (Err other) → one ≡ other
fault_of kind text one other is too = let same = header.one_answer_of kind text (Err one) (Err other) is too in cc

same_number : (a b : ℕ) → ¬ (a < b) → ¬ (b < a) → a ≡ b
same_number a b above below = omega arith

-- a header has one fault
same_fault : (kind : SetProduct → HeightKind) (header : SetProduct → List ℕ) (p : Product) (one other : HeaderFault) → OfSetProduct (λ h. AnswersOf (kind h) (header h) (Err one)) p →
    OfSetProduct (λ h. AnswersOf (kind h) (header h) (Err other)) p → one ≡ other
same_fault kind header product.Con one other is too = fault_of (kind held.Con) (header held.Con) one other is too
same_fault kind header product.Dir one other is too = fault_of (kind held.Dir) (header held.Dir) one other is too
same_fault kind header product.Acc one other is too = fault_of (kind held.Acc) (header held.Acc) one other is too
same_fault kind header product.Bas one other is too = fault_of (kind held.Bas) (header held.Bas) one other is too
same_fault kind header product.Rnk one other is too = fault_of (kind held.Rnk) (header held.Rnk) one other is too
same_fault kind header product.Spl one other is too = absurd is

module _ (s : GroundSet) (sound : IsSound s.terrain) where
  -- a refusal that applies is this one
  abbrev IsThis : Refusal → Refusal → Type 0
  IsThis a b = place_in s b ≡ place_in s a → StandsIn s b → b ≡ a

  unless : (a b : Refusal) → ¬ StandsIn s b → IsThis a b
  unless a b none place stands = absurd (none stands)

  -- two that apply, of one kind and in one place, are one
  same_refusal : (a b : Refusal) → StandsIn s a → refusal_kind b ≡ refusal_kind a → IsThis a b
  same_refusal (BadHeader p fault) b is kind =
      at_header s (IsThis (BadHeader p fault)) (unless _)
      (λ q other place stands.
      (let one : product_of q ≡ p = same_product (product_of q) p (omega (arith, place)) in
      let same : other ≡ fault = same_fault (kind_in s.terrain.kind) s.texts.header p other fault (subst (OfSetProduct (λ h. AnswersOf (kind_in s.terrain.kind h) (s.texts.header h) (Err other))) one stands) is in
      λ i. BadHeader (one i) (same i)))
      (λ q place stands. absurd (omega (arith, place))) (λ q place stands. absurd (omega (arith, place))) b kind
  same_refusal (WrongShape p) b is kind =
      at_header s (IsThis (WrongShape p)) (unless _) (λ q other place stands. absurd (omega (arith, place)))
      (λ q place stands. ap (λ (x : Product). WrongShape x) (same_product (product_of q) p (omega (arith, place))))
      (λ q place stands. absurd (omega (arith, place))) b kind
  same_refusal (Misplaced p) b is kind =
      at_header s (IsThis (Misplaced p)) (unless _) (λ q other place stands. absurd (omega (arith, place))) (λ q place stands. absurd (omega (arith, place)))
      (λ q place stands. ap (λ (x : Product). Misplaced x) (same_product (product_of q) p (omega (arith, place)))) b kind
  same_refusal (RasterShort p) b is kind =
      at_raster s (IsThis (RasterShort p)) (unless _) (λ q place stands. ap (λ (x : Product). RasterShort x) (same_product (product_of q) p place)) b kind
  same_refusal (BadSinkLine n) b is kind = at_bad_line (IsThis (BadSinkLine n)) (λ m place stands. ap (λ (x : ℕ). BadSinkLine x) place) b kind
  same_refusal (SinkNotData n) b is kind = at_off_data (IsThis (SinkNotData n)) (λ m place stands. ap (λ (x : ℕ). SinkNotData x) place) b kind
  same_refusal (BadSpacingLine n) b is kind = at_bad_spacing (IsThis (BadSpacingLine n)) (λ m place stands. ap (λ (x : ℕ). BadSpacingLine x) place) b kind
  same_refusal (SpacingRows n) b is kind = at_spacing_rows (IsThis (SpacingRows n)) (λ m place stands. ap (λ (x : ℕ). SpacingRows x) place) b kind
  same_refusal OutOfMemory b is kind = absurd is
  same_refusal ReadFailed b is kind = absurd is
  same_refusal a b is kind = absurd (sound a is)

  refusal_once : (one other : Refusal) → IsFirst (order_in s) (StandsIn s) one → IsFirst (order_in s) (StandsIn s) other → one ≡ other
  refusal_once one other is too =
      let kind = same_number (refusal_kind one) (refusal_kind other) (λ h. too.first one (inl h) is.holds) (λ h. is.first other (inl h) too.holds) in
      let place = same_number (place_in s one) (place_in s other) (λ h. too.first one (inr (kind, h)) is.holds) (λ h. is.first other (inr (sym kind, h)) too.holds) in
      same_refusal other one too.holds kind place is.holds

  first_of : (A : Type 0) (refusal : Refusal) → IsOfBytes {A = A} (Err refusal) → IsRefusalIn s refusal → IsFirst (order_in s) (StandsIn s) refusal
  first_of A OutOfMemory told is = absurd told
  first_of A ReadFailed told is = absurd told
  first_of A refusal told is = is

  -- an answer that is readable with such a verdict, or a refusal
  once : (A : Type 0) (IsRight : A → Type 0) (Is : Result A Refusal → Type 0) →
      ((verdict : A) → Is (Ok verdict) → IsReadable s × IsRight verdict) → ((refusal : Refusal) → Is (Err refusal) → IsRefusalIn s refusal) →
      ((one other : A) → IsRight one → IsRight other → one ≡ other) →
      (one other : Result A Refusal) → IsOfBytes one → IsOfBytes other → Is one → Is other → one ≡ other
  once A IsRight Is ok err same (Ok one) (Ok other) told told_too is too = ap (λ v. Ok v) (same one other (ok one is).1 (ok other too).1)
  once A IsRight Is ok err same (Ok one) (Err refusal) told told_too is too =
      absurd ((ok one is).0 refusal (first_of A refusal told_too (err refusal too)).holds)
  once A IsRight Is ok err same (Err refusal) (Ok other) told told_too is too =
      absurd ((ok other too).0 refusal (first_of A refusal told (err refusal is)).holds)
  once A IsRight Is ok err same (Err one) (Err other) told told_too is too =
      ap (λ r. Err r) (refusal_once one other (first_of A one told (err one is)) (first_of A other told_too (err other too)))

  pub audit_is_one : (one other : Result AuditVerdict Refusal) → IsOfBytes one → IsOfBytes other → IsAuditIn s one → IsAuditIn s other → one ≡ other
  audit_is_one =
      once AuditVerdict (IsAuditVerdict (set_grid s) (set_products s) (set_numbers s)) (IsAuditIn s) (λ verdict is. is) (λ refusal is. is)
      (audit_once (set_grid s) (set_products s) (set_numbers s))

  pub check_is_one : (one other : Result Verdict Refusal) → IsOfBytes one → IsOfBytes other → IsAnswerIn s one → IsAnswerIn s other → one ≡ other
  check_is_one =
      once Verdict (IsVerdict (set_grid s) (set_products s) (set_numbers s)) (IsAnswerIn s) (λ verdict is. is) (λ refusal is. is)
      (verdict_once (check_rules (set_numbers s)) IsAnyRule (set_grid s) (set_products s))

  pub outcome_is_one : (judged : Judged) (one other : Result Outcome Refusal) → IsOfBytes one → IsOfBytes other → IsOutcomeIn judged s one → IsOutcomeIn judged s other →
      one ≡ other
  outcome_is_one judged =
      once Outcome (IsOutcome judged (set_grid s) (set_products s) (set_numbers s)) (IsOutcomeIn judged s) (λ verdict is. is) (λ refusal is. is)
      (outcome_once judged (set_grid s) (set_products s) (set_numbers s))
