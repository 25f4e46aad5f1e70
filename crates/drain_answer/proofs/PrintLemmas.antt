-- From what a write of many calls left to what was printed.
use Rattle.std.proofs.Common.{◌≡◌, ℕ, ◌<◌, Result, Ok, Err, arith, ap, sym, ◌∙◌, ◌-◌, List, ◌↔◌, IsErr, subst}
use Rattle.drain_device.specs.declared.patience.GaveUp.{GaveUp}
use Rattle.drain_answer.specs.declared.refusal.Refusal.{Refusal}
use Rattle.drain_answer.specs.declared.refusal.Refusal.TheVariants.{BadSide}
use Rattle.drain_answer.specs.declared.outcome.Status.{Status}
use Rattle.drain_answer.specs.Printing.{status_after, PrintsText, Prints}
use Rattle.drain_answer.specs.Statuses.{status_code, refusal_status}
use Rattle.drain_device.specs.Counts.{Answered, counted, HandsOver}
use Rattle.drain_device.specs.Failing.{Sink, full_patience, GivesUpWriting}

-- What the number that a run ends with says of the status of its answer.

-- no refusal has the status of a verdict
pub refused_above_1 : (refusal : Refusal) → 1 < status_code (refusal_status refusal)
refused_above_1 BadSide = omega (arith)
refused_above_1 refusal = omega (arith)

-- a number below that of a failure is that of the status: its line was printed
pub status_stood : (done : Result (Unit {0}) GaveUp) (expected status : Status) (code : ℕ) → status ≡ expected → code ≡ status_code (status_after done status) →
    code < 3 → status_code expected ≡ code
status_stood (Ok all) expected status code is ended below = ap status_code (sym is) ∙ sym ended
status_stood (Err gave_up) expected status code is ended below = absurd (omega (arith, ended, below))

pub PrintsText-write_all : {W : Type 0} (sink : Sink W) (old new : W) (text : List ℕ) (status : Status) (code : ℕ) (patience left : ℕ) (done : Result (Unit {0}) GaveUp) →
    patience ≡ full_patience → HandsOver (sink.bytes_taken old) (sink.bytes_taken new) done text →
    code ≡ status_code (status_after done status) →
    (failures : ℕ) × (interruptions : ℕ) × (stalls : ℕ) × Answered (sink.counts old) (sink.counts new) failures interruptions
    × (sink.stalls new ≡ counted (sink.stalls old) stalls) × (left ≡ patience - interruptions)
    × (IsErr done ↔ GivesUpWriting patience failures interruptions stalls) →
    PrintsText sink old new text status code
PrintsText-write_all sink old new text status code patience left done full over is_code faults = record {
  done = done;
  written = over;
  code_is = is_code;
  faults = record {
    failures = faults.0;
    interruptions = faults.1;
    stalls = faults.2;
    answered = faults.3;
    stalled = faults.4;
    exactly = subst (λ p. IsErr done ↔ GivesUpWriting p faults.0 faults.1 faults.2) full faults.6;
  };
}

-- equal texts are printed alike
pub PrintsText-same : {W : Type 0} {sink : Sink W} {old new : W} {text other : List ℕ} {status : Status} {code : ℕ} →
    text ≡ other → PrintsText sink old new text status code → PrintsText sink old new other status code
PrintsText-same {W} {sink} {old} {new} {text} {other} {status} {code} same prints = subst (λ t. PrintsText sink old new t status code) same prints

pub Prints-same : {W : Type 0} {sink : Sink W} {old new : W} {line other : List ℕ} {status : Status} {code : ℕ} →
    line ≡ other → Prints sink old new line status code → Prints sink old new other status code
Prints-same {W} {sink} {old} {new} {line} {other} {status} {code} same prints = subst (λ l. Prints sink old new l status code) same prints
