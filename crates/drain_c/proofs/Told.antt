-- What the answer to a call tells of its inputs.
use Rattle.drain_c.proofs.Names.{◌≡◌, ◌↔◌, false, true, List, IfOk, IsTrue, refl, subst, sym, Call, CallInputs, IsElevationTold, OfCall, of_dem, of_tiles, set_in, Judged, has_rnk, AllWithRanks, Outcome, Refusal, IsAcceptedOutcome, AreRightIn, IsOutcomeIn, ProductsAreRight, GroundSet, IsReadable, set_grid, set_numbers, set_products, HeaderFault, Fields, AnswersOf, kind_of, ℕ, ℤ, BadPixelSize, DemShort, BadDemHeader}
use Rattle.std.proofs.Common.{Result, Ok, Err, ◌<ℤ◌, arith, negsuc, pos, suc, zero}
use Rattle.std.proofs.lemmas.Int.{ints}
use Rattle.drain_c.specs.Questions.{outcome_by}
use Rattle.drain_answer.specs.declared.outcome.Outcome.TheVariants.{Accepted, AcceptedSurface, Rejected, NoEnd, NotFilled}
use Rattle.drain_grid.specs.Laws.{CorrectFromRules, CorrectIsLocal}
use Rattle.drain_header.proofs.AnswerFunction.{answer_of}
use Rattle.drain_header.proofs.AnswerMeaning.{answer_is}
use Rattle.drain_header.specs.Faults.{DescribesOf}
use Rattle.drain_laws.specs.PartOf.{PartIsLocal, SurfaceIsPart}
use Rattle.drain_mosaic.specs.Laws.{AgreementGivesElevation}
use Rattle.drain_verdict.proofs.Acceptance.{products_right}
use Rattle.drain_verdict.proofs.Order.{own_values}
use Rattle.drain_verdict.proofs.OutcomeLemmas as outcomes
use Rattle.drain_verdict.proofs.TileSteps.{tiles_agree}
use Rattle.drain_verdict.specs.DemGround.{fields_in}
use Rattle.drain_verdict.specs.TileGround.{set_of}

-- a header without a fault is described
described_of : (text : List ℕ) (answer : Result Fields HeaderFault) → AnswersOf (kind_of text) text answer → ((fault : HeaderFault) → ¬ AnswersOf (kind_of text) text (Err fault)) →
    DescribesOf (kind_of text) text (fields_in text)
described_of text (Ok h) is none = subst (DescribesOf (kind_of text) text) is.fields is
described_of text (Err fault) is none = absurd (none fault is)

-- a number that isn't not above 0 is above it
positive : (x : ℤ) → ((pos 0 <ℤ x → ⊥) → ⊥) → pos 0 <ℤ x
positive (pos zero) twice = absurd (twice (λ less. omega (arith, ints, less)))
positive (pos (suc n)) twice = omega (arith, ints)
positive (negsuc n) twice = absurd (twice (λ less. omega (arith, ints, less)))

-- where no refusal applies, it is known where the elevations come from
told_of : AgreementGivesElevation → (i : CallInputs) → IsReadable (set_in i) → IsElevationTold i
told_of law (of_tiles i) readable =
    let one = tiles_agree law i (λ b kind refuses. readable b ((own_values (set_of i) b kind).refuses refuses)) in
    (one.tiles_agree, one.elevation)
told_of law (of_dem i) readable = record {
  described = described_of i.dem.header (answer_of (kind_of i.dem.header) i.dem.header) (answer_is (kind_of i.dem.header) i.dem.header) (λ fault. readable (BadDemHeader fault));
  sized = record {
    width = positive (fields_in i.dem.header).place.xdim (λ none. readable BadPixelSize (λ has. none has.width));
    height = positive (fields_in i.dem.header).place.ydim (λ none. readable BadPixelSize (λ has. none has.height));
  };
  whole = readable DemShort;
  pixels = λ c inside. refl;
}

-- so with what follows from directions
pub derived_told : {V E : Type 0} → AgreementGivesElevation → (call : Call) (Fact : V → GroundSet → Type 0) → ((v : V) (s : GroundSet) → Fact v s → IsReadable s) → (answer : Result V E) →
    IfOk answer (λ v. OfCall call (λ i. Fact v (set_in i))) → IfOk answer (λ v. OfCall call IsElevationTold)
derived_told law call Fact readable (Ok v) is = λ i of. told_of law i (readable v (set_in i) (is i of))
derived_told law call Fact readable (Err why) is = tt

-- so with an outcome
pub elevation_told : {V : Type 0} → AgreementGivesElevation → (call : Call) (Is : GroundSet → Result V Refusal → Type 0) → ((s : GroundSet) (v : V) → Is s (Ok v) → IsReadable s) → (answer : Result V Refusal) →
    OfCall call (λ i. Is (set_in i) answer) → IfOk answer (λ v. OfCall call IsElevationTold)
elevation_told law call Is readable (Ok v) is = λ i of. told_of law i (readable (set_in i) v (is i of))
elevation_told law call Is readable (Err refusal) is = tt

-- an outcome is that in itself
pub itself : (answer : Result Outcome Refusal) → outcome_by (λ outcome. outcome) answer ≡ answer
itself (Ok outcome) = refl
itself (Err refusal) = refl

-- an outcome accepts exactly if the judged rasters are right
pub exactly_right : CorrectIsLocal → PartIsLocal → SurfaceIsPart → (call : Call) (answer : Result Outcome Refusal) → OfCall call (λ i. IsOutcomeIn call.judged (set_in i) answer) → has_rnk call.judged ≡ false →
    IfOk answer (λ outcome. OfCall call (λ i. IsAcceptedOutcome outcome ↔ AreRightIn call.judged (set_in i)))
exactly_right whole local surface call (Ok outcome) is none = λ i of.
    outcomes.exactly whole local surface call.judged (set_grid (set_in i)) (set_products (set_in i)) (set_numbers (set_in i)) outcome none (is i of).1
exactly_right whole local surface call (Err refusal) is none = tt

-- with ranks it accepts right products alone
right_of : CorrectFromRules → (judged : Judged) (s : GroundSet) (outcome : Outcome) → IsTrue (has_rnk judged) → IsOutcomeIn judged s (Ok outcome) → IsAcceptedOutcome outcome → ProductsAreRight s
right_of law AllWithRanks s (Accepted counts) ranked is accepts =
    let correct = law (set_grid s) (set_products s) (set_numbers s) is.1.0 in
    products_right s correct.0 correct.1
right_of law AllWithRanks s (AcceptedSurface counts) ranked is accepts = absurd is.1
right_of law AllWithRanks s (Rejected rule row col) ranked is accepts = absurd accepts
right_of law AllWithRanks s (NoEnd row col) ranked is accepts = absurd accepts
right_of law AllWithRanks s (NotFilled row col) ranked is accepts = absurd accepts
right_of law judged s outcome ranked is accepts = cc

pub ranked_right : CorrectFromRules → (call : Call) (answer : Result Outcome Refusal) → OfCall call (λ i. IsOutcomeIn call.judged (set_in i) answer) → IsTrue (has_rnk call.judged) →
    IfOk answer (λ outcome. IsAcceptedOutcome outcome → OfCall call (λ i. ProductsAreRight (set_in i)))
ranked_right law call (Ok outcome) is ranked = λ accepts i of. right_of law call.judged (set_in i) outcome ranked (is i of) accepts
ranked_right law call (Err refusal) is ranked = tt

-- Ranks are judged with all others alone.

all_ranked : (judged : Judged) → has_rnk judged ≡ true → judged ≡ AllWithRanks
all_ranked AllWithRanks is = refl
all_ranked judged is = cc

-- what holds where ranks are judged
pub if_ranked : (P : Judged → Type 0) (judged : Judged) → has_rnk judged ≡ true → P AllWithRanks → P judged
if_ranked P judged is holds = subst P (sym (all_ranked judged is)) holds
