-- The outcome with the verdict of a check: it answers the inputs and uses them as the verdict does.
use Rattle.drain_cli.proofs.Names.{◌≡◌, ℕ, List, refl, subst, Refusal, IsJudgement, answer_status, outcome_status, Check, AllWithRanks, Verdict, IsAnswerIn, GroundSet, IsOutcomeIn, told_by, Option, ForSet, Ground}
use Rattle.std.proofs.Common.{Result, Ok, Err}
use Rattle.drain_cli.specs.JudgedRuns.{ranked_outcome}
use Rattle.drain_grid.specs.declared.verdict.Verdict.TheVariants as check
use Rattle.drain_verdict.specs.Given.{Given}
use Rattle.drain_verdict.specs.Inputs.{Products}

-- and it has its status
pub ranked_status : (answer : Result Verdict Refusal) → outcome_status (ranked_outcome answer) ≡ answer_status (Check answer)
ranked_status (Ok (check.Accepted counts)) = refl
ranked_status (Ok (check.Rejected rule row col)) = refl
ranked_status (Err refusal) = refl

ranked_answer : (s : GroundSet) (answer : Result Verdict Refusal) → IsAnswerIn s answer → IsOutcomeIn AllWithRanks s (ranked_outcome answer)
ranked_answer s (Ok (check.Accepted counts)) is = is
ranked_answer s (Ok (check.Rejected rule row col)) is = is
ranked_answer s (Err refusal) is = is

-- and the same refusal
same_told : (answer : Result Verdict Refusal) → told_by answer ≡ told_by (ranked_outcome answer)
same_told (Ok (check.Accepted counts)) = refl
same_told (Ok (check.Rejected rule row col)) = refl
same_told (Err refusal) = refl

-- so it is the outcome of five products with ranks
pub ranked_judgement : {X R : Type 0} (terrain : X → Ground) (Means : X → Type 0) (bytes_left : R → Option (List ℕ)) (given : Given) (ps : Products R) (Uses : Option Refusal → Type 0) (answer : Result Verdict Refusal) →
    ForSet terrain Means bytes_left given ps (λ s. IsAnswerIn s answer) → Uses (told_by answer) → IsJudgement (ForSet terrain Means bytes_left given ps) Uses AllWithRanks (ranked_outcome answer)
ranked_judgement terrain Means bytes_left given ps Uses answer is uses = record {
  answer = λ x texts means encoded. ranked_answer (record { terrain = terrain x; texts = texts }) answer (is x texts means encoded);
  uses = subst Uses (same_told answer) uses;
}
