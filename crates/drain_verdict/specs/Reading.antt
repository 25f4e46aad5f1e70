-- What an answer says of reading.
use Rattle.std.specs.Prelude.{◌≡◌, ◌⊎◌}
use Rattle.drain_verdict.specs.Names.{Option, Some, None, MatchOption, Bool, true, false, Result, Ok, Err, Refusal, OutOfMemory, ReadFailed}

-- the refusal of an answer
abbrev pub told_by : {T : Type 0} → Result T Refusal → Option Refusal
told_by (Ok done) = None
told_by (Err refusal) = Some refusal

-- nothing was refused before, and now a device failed for good
abbrev pub gave_up : Option Refusal → Option Refusal → Bool
gave_up None (Some ReadFailed) = true
gave_up before told = false

-- a refusal of reading: memory ran out, or a device failed for good
abbrev pub IsOfReading : Option Refusal → Type 0
IsOfReading told = MatchOption told (Unit {0}) (λ refusal. (refusal ≡ OutOfMemory) ⊎ (refusal ≡ ReadFailed))
