-- What an acceptance means follows from the answer.
use Rattle.drain_verdict.proofs.Names.{List, Ok, IsCorrect, RunsAreSound, CorrectFromRules, CorrectIsLocal, SoundFromCorrect, check_rules, Verdict, IfAccepted, IsVerdictOf, AuditVerdict, Refusal, Ground, ForSet, GroundSet, set_grid, set_numbers, set_products, AreOneElevation, IfAccepts, IsPlainVerdict, IsRight, ProductsAreRight, Inputs, set_of}
use Rattle.std.proofs.Common.{ℕ, Option, Err, IfOk}
use Rattle.std.specs.Prelude.{Result}
use Rattle.drain_answer.specs.declared.outcome.AuditVerdict.TheVariants as audited
use Rattle.drain_grid.specs.declared.verdict.Verdict.TheVariants.{Accepted, Rejected}
use Rattle.drain_verdict.specs.Given.{Given}
use Rattle.drain_verdict.specs.Inputs.{Products}
use Rattle.drain_verdict.proofs.AuditAnswers.{exactly}

-- a fact that follows from an answer that is no refusal
pub when_given : {X R V : Type 0} (terrain : X → Ground) (Means : X → Type 0) (bl : R → Option (List ℕ)) (given : Given) (ps : Products R) (IsThe : GroundSet → Result V Refusal → Type 0) (Fact : Type 0) →
    ((v : V) → ForSet terrain Means bl given ps (λ s. IsThe s (Ok v)) → Fact) → (answer : Result V Refusal) → ForSet terrain Means bl given ps (λ s. IsThe s answer) → IfOk answer (λ v. Fact)
when_given terrain Means bl given ps IsThe Fact follows (Ok v) is = follows v is
when_given terrain Means bl given ps IsThe Fact follows (Err refusal) is = tt

-- correct products with sound runs are right
pub products_right : (s : GroundSet) → IsCorrect (set_grid s) (set_products s) (set_numbers s) → RunsAreSound (set_grid s) (set_products s) → ProductsAreRight s
products_right s correct sound = record {
  least_surface = correct.least;
  never_climbs = correct.never_climbs;
  steepest = correct.steepest;
  outlets = correct.outlets;
  runs_end = correct.runs_end;
  runs_end_at_outlets = λ c has. (sound c has).at_outlet;
  runs_visit_once = λ c has. (sound c has).once;
  accumulation = correct.counts;
  labels = correct.labels;
  voids = correct.voids;
  complete = correct.complete;
}

-- and of tiles that agree, the inputs are
pub right_of : (i : Inputs) → AreOneElevation i → ProductsAreRight (set_of i) → IsRight i
right_of i one products = record { tiles_agree = one.tiles_agree; elevation = one.elevation; products = products }

module _ {X R : Type 0} (terrain : X → Ground) (Means : X → Type 0) (bl : R → Option (List ℕ)) (given : Given) (ps : Products R) where
  -- of a check that accepts, the products are right
  pub when_checked : CorrectFromRules → (verdict : Verdict) → ForSet terrain Means bl given ps (λ s. IsVerdictOf (check_rules (set_numbers s)) (set_grid s) (set_products s) verdict) →
      IfAccepted {E = Refusal} (Ok verdict) (ForSet terrain Means bl given ps ProductsAreRight)
  when_checked law (Accepted counts) is = λ x t means tell.
      let s : GroundSet = record { terrain = terrain x; texts = t } in
      let correct = law (set_grid s) (set_products s) (set_numbers s) (is x t means tell).0 in
      products_right s correct.0 correct.1
  when_checked law (Rejected rule row col) is = tt

  -- and of an audit that accepts
  pub when_audited : CorrectIsLocal → SoundFromCorrect → (verdict : AuditVerdict) → ForSet terrain Means bl given ps (λ s. IsPlainVerdict (set_grid s) (set_products s) (set_numbers s) verdict) →
      IfAccepts (Ok verdict) (ForSet terrain Means bl given ps ProductsAreRight)
  when_audited law sound (audited.Accepted counts) is = λ x t means tell.
      let s : GroundSet = record { terrain = terrain x; texts = t } in
      let correct = (exactly law (set_grid s) (set_products s) (set_numbers s) (audited.Accepted counts) (is x t means tell)).0 tt in
      products_right s correct (sound (set_grid s) (set_products s) (set_numbers s) correct)
  when_audited law sound (audited.Rejected rule row col) is = tt
  when_audited law sound (audited.NoEnd row col) is = tt

-- what follows where a check accepts, from that and from what holds wherever it gives a verdict
pub if_accepted : {P Q E : Type 0} → (E → P → Q) → (answer : Result Verdict Refusal) → IfOk answer (λ verdict. E) → IfAccepted answer P → IfAccepted answer Q
if_accepted step (Ok (Accepted counts)) told is = step told is
if_accepted step (Ok (Rejected rule row col)) told is = tt
if_accepted step (Err refusal) told is = tt

-- so where an audit accepts
pub if_accepts : {P Q E : Type 0} → (E → P → Q) → (answer : Result AuditVerdict Refusal) → IfOk answer (λ verdict. E) → IfAccepts answer P → IfAccepts answer Q
if_accepts step (Ok (audited.Accepted counts)) told is = step told is
if_accepts step (Ok (audited.Rejected rule row col)) told is = tt
if_accepts step (Ok (audited.NoEnd row col)) told is = tt
if_accepts step (Err refusal) told is = tt
