-- What is printed, and its status.
use Rattle.std.specs.Prelude.{◌≡◌, ℕ, ◌++◌, List, [], ◌∷◌, Result, Ok, Err, IsErr}
use Rattle.drain_device.specs.declared.patience.GaveUp.{GaveUp}
use Rattle.drain_device.specs.Failing.{Sink, WriteFails}
use Rattle.drain_device.specs.Counts.{HandsOver}
use Rattle.drain_answer.specs.declared.outcome.Status.{Status}
use Rattle.drain_answer.specs.declared.outcome.Status.TheVariants.{Failed}
use Rattle.drain_answer.specs.Statuses.{status_code}

-- the line feed of ASCII
abbrev pub line_feed : ℕ
line_feed = 10

-- the status of a run is kept if its line was written
abbrev pub status_after : {T E : Type 0} → Result T E → Status → Status
status_after (Ok done) status = status
status_after (Err fault) status = Failed

-- the text was written and the status kept, or a proper part of it was written and the status is that of a failure
pub record PrintsText {W : Type 0} (sink : Sink W) (old new : W) (text : List ℕ) (status : Status) (code : ℕ) : Type 0 where
  pub done : Result (Unit {0}) GaveUp
  pub written : HandsOver (sink.bytes_taken old) (sink.bytes_taken new) done text
  pub code_is : code ≡ status_code (status_after done status)
  pub faults : WriteFails (sink.counts old) (sink.counts new) (sink.stalls old) (sink.stalls new) (IsErr done)

-- the same of a line and its line end
abbrev pub Prints : {W : Type 0} → Sink W → W → W → List ℕ → Status → ℕ → Type 0
Prints sink old new line status code = PrintsText sink old new (line ++ line_feed ∷ []) status code
