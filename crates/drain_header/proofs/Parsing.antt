-- What is left of a text's answer, step by step: a line's fault, a missing keyword, and the values of all lines.
use Rattle.drain_header.proofs.Names.{◌≤◌, false, suc, length, ap, ◌∙◌, cond, nat_lt, Option, Some, None, Result, Ok, Err, le-ltb, lines_of, HeightKind, Key, HeaderFault, TooLong, MissingKey, Fields, AnswersOf, lacking, Seen, nothing, with_lines, finished, AreTaken}
use Rattle.std.proofs.Common.{◌≡◌, ℕ, List}
use Rattle.std.specs.Result.{IsErrAnd}
use Rattle.drain_header.proofs.Entries.{first_below}
use Rattle.drain_header.proofs.AnswerFunction.{line_fault, last_answer, key_answer, line_answer, answer_of}
use Rattle.drain_header.proofs.AnswerMeaning.{answer_is}
use Rattle.drain_header.proofs.Folding.{IsSeen, Outcome, lines_read}
use Rattle.drain_header.proofs.FirstMissing.{missing_is}
use Rattle.drain_header.proofs.Finishing

-- the answer of a call whose fault is passed on
pub handed_on : (kind : HeightKind) (text : List ℕ) (r : Result Fields HeaderFault) (fault : HeaderFault) → IsErrAnd r (λ told. told ≡ fault) → AnswersOf kind text (Err fault) → AnswersOf kind text r
handed_on kind text (Ok h) fault is answers = absurd is
handed_on kind text (Err told) fault is answers = rw is answers

module _ (kind : HeightKind) (text : List ℕ) (fits : length text ≤ 65536) where
  short : nat_lt 65536 (length text) ≡ false
  short = le-ltb 65536 (length text) fits

  answered : (o : Option HeaderFault) → first_below (line_fault kind (lines_of text)) (suc (length (lines_of text))) ≡ o → answer_of kind text ≡ line_answer kind (lines_of text) o
  answered o is =
      ap (λ b. cond b (Err TooLong) (line_answer kind (lines_of text) (first_below (line_fault kind (lines_of text)) (suc (length (lines_of text)))))) short
      ∙ ap (line_answer kind (lines_of text)) is

  outcome : (r : Result Seen HeaderFault) → with_lines kind nothing 1 (lines_of text) ≡ r → Outcome kind (lines_of text) r
  outcome r is = rw is at (lines_read kind (lines_of text))

  as_answer : (r : Result Fields HeaderFault) → answer_of kind text ≡ r → AnswersOf kind text r
  as_answer r is = rw is at (answer_is kind text)

  pub line_fault_told : (fault : HeaderFault) → with_lines kind nothing 1 (lines_of text) ≡ Err fault → AnswersOf kind text (Err fault)
  line_fault_told fault is = as_answer (Err fault) (answered (Some fault) (outcome (Err fault) is))

  module _ (seen : Seen) (is : with_lines kind nothing 1 (lines_of text) ≡ Ok seen) where
    seen_is : IsSeen kind (lines_of text) (lines_of text) (suc (length (lines_of text))) seen
    seen_is = (outcome (Ok seen) is).0

    key_answered : (o : Option Key) → lacking seen ≡ o → answer_of kind text ≡ key_answer kind (lines_of text) o
    key_answered o lacks = answered None (outcome (Ok seen) is).1 ∙ ap (key_answer kind (lines_of text)) (missing_is kind (lines_of text) seen seen_is ∙ lacks)

    pub missing_key_told : (key : Key) → lacking seen ≡ Some key → AnswersOf kind text (Err (MissingKey key))
    missing_key_told key lacks = as_answer (Err (MissingKey key)) (key_answered (Some key) lacks)

    pub values_taken : lacking seen ≡ None → AreTaken kind seen
    values_taken whole = Finishing.taken kind (lines_of text) seen seen_is whole

    pub finished_answers : lacking seen ≡ None → AnswersOf kind text (finished kind seen)
    finished_answers whole = rw (Finishing.finished_is kind (lines_of text) seen seen_is whole) (as_answer (last_answer kind (lines_of text)) (key_answered None whole))
