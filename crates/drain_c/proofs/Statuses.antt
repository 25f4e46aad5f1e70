-- What the status of an answer says of it.
use Rattle.drain_c.proofs.Names.{◌≡◌, ℕ, ◌<◌, ◌≤◌, ◌↔◌, IfOk, arith, refl, sym, ◌∙◌, Outcome, Refusal, OutOfMemory, ReadFailed, IsAcceptedOutcome, outcome_found, refusal_found}
use Rattle.std.proofs.Common.{Result, Ok, Err}
use Rattle.drain_answer.specs.declared.outcome.Outcome.TheVariants.{Accepted, AcceptedSurface, Rejected, NoEnd, NotFilled}
use Rattle.drain_c.specs.declared.found.Found.{Found}

-- a refusal has a status from 2 on
pub from_two : (refusal : Refusal) → 2 ≤ (refusal_found refusal).status
from_two OutOfMemory = omega arith
from_two ReadFailed = omega arith
from_two refusal = omega arith

-- a status below 2 is that of a verdict, of which the fact holds
pub below_two : {V P : Type 0} (found : Result V Refusal → Found) → ((refusal : Refusal) → 2 ≤ (found (Err refusal)).status) →
    (answer : Result V Refusal) (status : ℕ) → status ≡ (found answer).status → status < 2 → IfOk answer (λ v. P) → P
below_two found refused (Ok v) status is below fact = fact
below_two found refused (Err refusal) status is below fact = absurd (omega (arith, refused refusal))

-- the status of a refusal is from 2 on, and 0 is that of an acceptance
pub record AreStatuses {V : Type 0} (found : Result V Refusal → Found) (Accepts : V → Type 0) : Type 0 where
  pub refused : (refusal : Refusal) → 2 ≤ (found (Err refusal)).status
  pub accepted : (v : V) → ((found (Ok v)).status ≡ 0) ↔ Accepts v

-- a status below 2 is 0 exactly if the inputs are right, where the verdict is an acceptance exactly if they are
pub exactly : {V A : Type 0} (found : Result V Refusal → Found) (Accepts : V → Type 0) → AreStatuses found Accepts → (Of Right : A → Type 0) →
    (answer : Result V Refusal) (status : ℕ) → status ≡ (found answer).status → status < 2 →
    IfOk answer (λ v. (a : A) → Of a → (Accepts v ↔ Right a)) → (a : A) → Of a → ((status ≡ 0) ↔ Right a)
exactly found Accepts are Of Right (Ok v) status is below fact a of =
    ((λ zero. (fact a of).0 ((are.accepted v).0 (sym is ∙ zero))), (λ right. is ∙ (are.accepted v).1 ((fact a of).1 right)))
exactly found Accepts are Of Right (Err refusal) status is below fact a of = absurd (omega (arith, are.refused refusal))

-- those of outcomes
outcome_accepted : (o : Outcome) → ((outcome_found (Ok o)).status ≡ 0) ↔ IsAcceptedOutcome o
outcome_accepted (Accepted counts) = ((λ zero. tt), (λ is. refl))
outcome_accepted (AcceptedSurface counts) = ((λ zero. tt), (λ is. refl))
outcome_accepted (Rejected rule row col) = ((λ zero. absurd (omega (arith, zero))), (λ is. absurd is))
outcome_accepted (NoEnd row col) = ((λ zero. absurd (omega (arith, zero))), (λ is. absurd is))
outcome_accepted (NotFilled row col) = ((λ zero. absurd (omega (arith, zero))), (λ is. absurd is))

pub outcome_statuses : AreStatuses outcome_found IsAcceptedOutcome
outcome_statuses = record { refused = from_two; accepted = outcome_accepted }

-- 0 is that of an acceptance, of which the fact holds
pub at_zero : {P : Type 0} (answer : Result Outcome Refusal) (status : ℕ) → status ≡ (outcome_found answer).status → status ≡ 0 → IfOk answer (λ o. IsAcceptedOutcome o → P) → P
at_zero (Ok o) status is zero fact = fact ((outcome_accepted o).0 (sym is ∙ zero))
at_zero (Err refusal) status is zero fact = absurd (omega (arith, from_two refusal))
