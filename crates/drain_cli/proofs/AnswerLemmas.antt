-- What the status of a check or of an audit says of its answer.
use Rattle.drain_cli.proofs.Names.{refl, subst, ◌≡◌, IfOk, IfSome, IsSome, arith, AreFound, AreFindingsIn, IsEndlessIn, answer_in, findings_in, Judged, IsOutcomeIn, Refusal, Inputs, told_by, IsJudgement, answer_status, outcome_status, Verdict, IsAcceptedOutcome, Check, Audit, IfAccepts, IsAcceptance, GroundSet, status_code, refused_above_1, Option}
use Rattle.std.proofs.Common.{Result, Ok, Err, ◌↔◌}
use Rattle.drain_explain.specs.Slopes.{slopes_of}
use Rattle.drain_explain.specs.declared.fault_visitor.Mapping.{Mapping}
use Rattle.drain_explain.specs.declared.fault_visitor.Mapping.TheVariants.{Drawn}
use Rattle.drain_explain.specs.declared.findings.Explanation.{Explanation}
use Rattle.drain_answer.specs.declared.outcome.Outcome.{Outcome}
use Rattle.drain_verdict.specs.Given.{Given}
use Rattle.drain_rules.specs.Verdicts.{IfAccepted}
use Rattle.drain_answer.specs.declared.outcome.AuditVerdict.{AuditVerdict}
use Rattle.drain_grid.specs.declared.verdict.Verdict.TheVariants as check
use Rattle.drain_answer.specs.declared.outcome.AuditVerdict.TheVariants as audit
use Rattle.drain_answer.specs.declared.outcome.Outcome.TheVariants as outcome

-- From an explanation to the outcome of a check or of an audit.

-- the answer has the explanation's refusal
same_told : {F : Type 0} (explained : Result (Explanation F) Refusal) → told_by explained ≡ told_by (answer_in explained)
same_told (Ok e) = refl
same_told (Err refusal) = refl

-- the outcome that is explained, or the refusal, is that for the judged rasters
pub explained_outcome : {F : Type 0} (For : (GroundSet → Type 0) → Type 0) (Uses : Option Refusal → Type 0) (judged : Judged) (explained : Result (Explanation F) Refusal) →
    For (λ s. IsOutcomeIn judged s (answer_in explained)) → Uses (told_by explained) → IsJudgement For Uses judged (answer_in explained)
explained_outcome For Uses judged explained answer uses = record { answer = answer; uses = subst Uses (same_told explained) uses }

-- what every cell showed is found for the answer that is explained
pub found_of : {F : Type 0} (For : (GroundSet → Type 0) → Type 0) (judged : Judged) (given : Given) (mapping : Mapping) (explained : Result (Explanation F) Refusal) →
    IfOk explained (λ e. For (λ s. AreFindingsIn judged s e.findings)) → IfOk explained (λ e. For (λ s. IfSome e.findings.endless (IsEndlessIn s e.outcome))) →
    IfOk explained (λ e. IsSome e.findings.map ↔ (mapping ≡ Drawn)) → IfOk explained (λ e. e.findings.slopes ≡ slopes_of given.spacing) →
    AreFound For judged given mapping (answer_in explained) (findings_in explained)
found_of For judged given mapping (Ok e) found endless drawn slopes = record { found = found; endless = endless; drawn = drawn; slopes = slopes }
found_of For judged given mapping (Err refusal) found endless drawn slopes = tt

-- what holds of a check's acceptance holds where the status of its answer is 0
pub of_checked : (answer : Result Verdict Refusal) → status_code (answer_status (Check answer)) ≡ 0 → (Fact : Type 0) → IfAccepted answer Fact → Fact
of_checked (Ok (check.Accepted counts)) zero Fact holds = holds
of_checked (Ok (check.Rejected rule row col)) zero Fact holds = absurd (omega (arith, zero))
of_checked (Err refusal) zero Fact holds = absurd (omega (arith, zero, refused_above_1 refusal))

-- the same of an audit's
pub of_audited : (answer : Result AuditVerdict Refusal) → status_code (answer_status (Audit answer)) ≡ 0 → (Fact : Type 0) → IfAccepts answer Fact → Fact
of_audited (Ok (audit.Accepted counts)) zero Fact holds = holds
of_audited (Ok (audit.Rejected rule row col)) zero Fact holds = absurd (omega (arith, zero))
of_audited (Ok (audit.NoEnd row col)) zero Fact holds = absurd (omega (arith, zero))
of_audited (Err refusal) zero Fact holds = absurd (omega (arith, zero, refused_above_1 refusal))

-- if that status is 1, what comes exactly with an acceptance doesn't hold, of any inputs of the call
pub not_of_rejected : (answer : Result AuditVerdict Refusal) → status_code (answer_status (Audit answer)) ≡ 1 → (Told Fact : Inputs → Type 0) →
    IfOk answer (λ verdict. (i : Inputs) → Told i → IsAcceptance verdict ↔ Fact i) → (i : Inputs) → Told i → ¬ Fact i
not_of_rejected (Ok (audit.Accepted counts)) one Told Fact exactly i told = absurd (omega (arith, one))
not_of_rejected (Ok (audit.Rejected rule row col)) one Told Fact exactly i told = (exactly i told).1
not_of_rejected (Ok (audit.NoEnd row col)) one Told Fact exactly i told = (exactly i told).1
not_of_rejected (Err refusal) one Told Fact exactly i told = absurd (omega (arith, one, refused_above_1 refusal))

-- of judged rasters: if the status is 0, the answer is an outcome that accepts
pub accepted_by_0 : (answer : Result Outcome Refusal) → status_code (outcome_status answer) ≡ 0 → (P : Outcome → Type 0) → IfOk answer P → (outcome : Outcome) × IsAcceptedOutcome outcome × P outcome
accepted_by_0 (Ok (outcome.Accepted counts)) zero P holds = (outcome.Accepted counts, tt, holds)
accepted_by_0 (Ok (outcome.AcceptedSurface counts)) zero P holds = (outcome.AcceptedSurface counts, tt, holds)
accepted_by_0 (Ok (outcome.Rejected rule row col)) zero P holds = absurd (omega (arith, zero))
accepted_by_0 (Ok (outcome.NoEnd row col)) zero P holds = absurd (omega (arith, zero))
accepted_by_0 (Ok (outcome.NotFilled row col)) zero P holds = absurd (omega (arith, zero))
accepted_by_0 (Err refusal) zero P holds = absurd (omega (arith, zero, refused_above_1 refusal))

-- if it is 1, one that doesn't
pub rejected_by_1 : (answer : Result Outcome Refusal) → status_code (outcome_status answer) ≡ 1 → (P : Outcome → Type 0) → IfOk answer P → (outcome : Outcome) × ¬ IsAcceptedOutcome outcome × P outcome
rejected_by_1 (Ok (outcome.Accepted counts)) one P holds = absurd (omega (arith, one))
rejected_by_1 (Ok (outcome.AcceptedSurface counts)) one P holds = absurd (omega (arith, one))
rejected_by_1 (Ok (outcome.Rejected rule row col)) one P holds = (outcome.Rejected rule row col, (λ accepts. accepts), holds)
rejected_by_1 (Ok (outcome.NoEnd row col)) one P holds = (outcome.NoEnd row col, (λ accepts. accepts), holds)
rejected_by_1 (Ok (outcome.NotFilled row col)) one P holds = (outcome.NotFilled row col, (λ accepts. accepts), holds)
rejected_by_1 (Err refusal) one P holds = absurd (omega (arith, one, refused_above_1 refusal))
