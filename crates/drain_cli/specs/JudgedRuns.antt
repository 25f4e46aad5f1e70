-- How a run of `drain check` or `drain audit` ends: with a verdict, or with the first refusal.
use Rattle.std.specs.Prelude.{◌≡◌}
use Rattle.drain_cli.specs.Names.{ℕ, List, Ok, Err, Result, Refusal, audit_report_line, report_line, outcome_report_line, Outcome, refusal_status, Status, Done, AuditVerdict, Source, TileInput, JudgedProducts, Five, Four, Judged, GroundSet, IsOutcomeIn, Verdict, IsAnswer, IsAuditAnswer, as_five, AuditProducts, Option, told_by, status_code, AllWithRanks, ForCheck, ForAudit, CheckUses, AuditUses, OpenElevations, Tiles, Dem}
use Rattle.drain_cli.specs.OpenedInputs.{ForOpened, UsesOpened}
use Rattle.drain_cli.specs.declared.answer.Answer.{Answer}
use Rattle.drain_cli.specs.declared.answer.Answer.TheVariants.{Check, Audit, Part}
use Rattle.drain_answer.specs.declared.outcome.Status.TheVariants.{Rejected}
use Rattle.drain_verdict.specs.Given.{Given}
use Rattle.drain_verdict.specs.Inputs.{Products}
use Rattle.drain_answer.specs.declared.outcome.AuditVerdict.TheVariants as audit
use Rattle.drain_answer.specs.declared.outcome.Outcome.TheVariants as outcome
use Rattle.drain_grid.specs.declared.verdict.Verdict.TheVariants as check
use Rattle.drain_cli.specs.declared.answer.Answer.TheVariants as answer

-- The line and the status of an answer.

-- done if judged rasters are accepted, rejected if there is another outcome, else that of the refusal
abbrev pub outcome_status : Result Outcome Refusal → Status
outcome_status (Ok (outcome.Accepted counts)) = Done
outcome_status (Ok (outcome.AcceptedSurface counts)) = Done
outcome_status (Ok (outcome.Rejected rule row col)) = Rejected
outcome_status (Ok (outcome.NoEnd row col)) = Rejected
outcome_status (Ok (outcome.NotFilled row col)) = Rejected
outcome_status (Err refusal) = refusal_status refusal

-- done if the products are accepted, rejected if there is another verdict, else that of the refusal
abbrev pub answer_status : Answer → Status
answer_status (Check (Ok (check.Accepted counts))) = Done
answer_status (Check (Ok (check.Rejected rule row col))) = Rejected
answer_status (Check (Err refusal)) = refusal_status refusal
answer_status (Audit (Ok (audit.Accepted counts))) = Done
answer_status (Audit (Ok (audit.Rejected rule row col))) = Rejected
answer_status (Audit (Ok (audit.NoEnd row col))) = Rejected
answer_status (Audit (Err refusal)) = refusal_status refusal
answer_status (Part answer) = outcome_status answer

-- the line of an answer
abbrev pub answer_line : Answer → List ℕ
answer_line (Check answer) = report_line answer
answer_line (Audit answer) = audit_report_line answer
answer_line (Part answer) = outcome_report_line answer

-- the outcome with the verdict of a check
abbrev pub ranked_outcome : Result Verdict Refusal → Result Outcome Refusal
ranked_outcome (Ok (check.Accepted counts)) = Ok (outcome.Accepted counts)
ranked_outcome (Ok (check.Rejected rule row col)) = Ok (outcome.Rejected rule row col)
ranked_outcome (Err refusal) = Err refusal

-- the exit status of an outcome
abbrev pub outcome_code : Result Outcome Refusal → ℕ
outcome_code answer = status_code (outcome_status answer)

-- What was judged.

-- the outcome is that of the set, where its bytes are known, and says how the inputs are used
pub record IsJudgement (For : (GroundSet → Type 0) → Type 0) (Uses : Option Refusal → Type 0) (judged : Judged) (outcome : Result Outcome Refusal) : Type 0 where
  pub answer : For (λ s. IsOutcomeIn judged s outcome)
  pub uses : Uses (told_by outcome)

-- that of the products that were opened: five with ranks, or those of four that are judged
abbrev pub IsOutcomeOf : {R : Type 0} → (Products R → (GroundSet → Type 0) → Type 0) → ((P : Type 0) → (P → Products R) → P → P → Option Refusal → Type 0) → JudgedProducts R → JudgedProducts R → Result Outcome Refusal → Type 0
IsOutcomeOf {R = R} For Uses (Five old) (Five new) outcome = IsJudgement (For old) (Uses (Products R) (λ ps. ps) old new) AllWithRanks outcome
IsOutcomeOf {R = R} For Uses (Four old judged) (Four new then) outcome = IsJudgement (For (as_five old)) (Uses (AuditProducts R) as_five old new) judged outcome × (then ≡ judged)
IsOutcomeOf For Uses old new outcome = ⊥

-- beside the elevations that were opened
abbrev pub IsOutcomeOn : {R : Type 0} → Source R → OpenElevations R → OpenElevations R → Given → JudgedProducts R → JudgedProducts R → Result Outcome Refusal → Type 0
IsOutcomeOn source (Tiles old) (Tiles new) given products_old products_new outcome =
    IsOutcomeOf (ForOpened source.bytes_left (Tiles old) given) (UsesOpened source (Tiles old) (Tiles new)) products_old products_new outcome
IsOutcomeOn source (Dem old) (Dem new) given products_old products_new outcome =
    IsOutcomeOf (ForOpened source.bytes_left (Dem old) given) (UsesOpened source (Dem old) (Dem new)) products_old products_new outcome
IsOutcomeOn source old new given products_old products_new outcome = ⊥

-- On tiles, of the products that a check and an audit are fixed for.

-- the answer is that of the bytes of five products, and says how the inputs are used
abbrev pub IsCheckOutcome : {R : Type 0} → Source R → ℕ → List (TileInput R) → List (TileInput R) → Given → Products R → Products R → Result Verdict Refusal → Type 0
IsCheckOutcome source side tiles_old tiles_new given old new outcome =
    ForCheck source.bytes_left side tiles_old given old (λ inputs. IsAnswer inputs outcome)
    × CheckUses source.bytes_left source.counts side (tiles_old, old) (tiles_new, new) outcome

-- the same of four
abbrev pub IsAuditOutcome : {R : Type 0} → Source R → ℕ → List (TileInput R) → List (TileInput R) → Given → AuditProducts R → AuditProducts R → Result AuditVerdict Refusal → Type 0
IsAuditOutcome source side tiles_old tiles_new given old new outcome =
    ForAudit source.bytes_left side tiles_old given old (λ inputs. IsAuditAnswer inputs outcome)
    × AuditUses source.bytes_left source.counts side (tiles_old, old) (tiles_new, new) outcome
