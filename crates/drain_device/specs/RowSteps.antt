-- The rows that are still to come, and how they end.
use Rattle.std.specs.Prelude.{◌≡◌, ◌+◌, ◌<◌, ◌≤◌}
use Rattle.drain_device.specs.Names.{ℕ, zero, suc, ℤ, Bool, true, false, List, [], length, Option, Result, Ok, Err, Some, None, Consumes, IsAtEnd}
use Rattle.drain_device.specs.Reads.{TakesAtMost}
use Rattle.drain_device.specs.declared.row_source.ReadFault.{ReadFault}
use Rattle.drain_device.specs.declared.row_source.ReadFault.TheVariants.{WrongLength, ReadFailed, OutOfMemory, AlreadyFailed}
use Rattle.drain_device.specs.declared.row_source.RowStep.{RowStep}
use Rattle.drain_device.specs.declared.row_source.RowStep.TheVariants.{Row, Ended}
use Rattle.drain_device.specs.declared.row_source.Progress.{Progress}
use Rattle.drain_device.specs.declared.row_source.Progress.TheVariants.{Going, Done, Stopped}

-- what is to come: a row and what comes after it, or the end, or the answer that the length is wrong
pub data Coming : Type 0 where
  Next : List ℤ → Coming → Coming
  End : Coming
  Wrong : Coming

-- the rows end with the answer that the length is wrong
abbrev pub ends_wrong : Coming → Bool
ends_wrong (Next row after) = ends_wrong after
ends_wrong End = false
ends_wrong Wrong = true

-- what is to come after n rows
abbrev pub after_rows : ℕ → Coming → Coming
after_rows zero coming = coming
after_rows (suc n) (Next row after) = after_rows n after
after_rows (suc n) End = End
after_rows (suc n) Wrong = Wrong

-- the row of this number, counted from 0; without a number where there is none
abbrev pub nth_row : ℕ → Coming → List ℤ
nth_row zero (Next row after) = row
nth_row zero End = []
nth_row zero Wrong = []
nth_row (suc n) (Next row after) = nth_row n after
nth_row (suc n) End = []
nth_row (suc n) Wrong = []

-- n rows came, then this one, and this is left to come
pub record IsNthRow (start : Coming) (n : ℕ) (row : List ℤ) (left : Coming) : Type 0 where
  pub row_is : row ≡ nth_row n start
  pub left_is : left ≡ after_rows (n + 1) start

-- What a read of a part of known length gives, of a row's bytes, and of the end.

-- fewer than n bytes were left, and all of them were taken
pub record EndsWithin (n : ℕ) (old new : Option (List ℕ)) : Type 0 where
  pub bytes : List ℕ
  pub took : Consumes old new bytes
  pub ended : IsAtEnd new
  pub short : length bytes < n

-- n bytes were required: these came; or the bytes ended before; a device that failed for good may have given some
abbrev pub PartComes : ℕ → Option (List ℕ) → Option (List ℕ) → Result (Unit {0}) ReadFault → List ℕ → Type 0
PartComes n old new (Ok done) bytes = (length bytes ≡ n) × Consumes old new bytes
PartComes n old new (Err WrongLength) bytes = EndsWithin n old new
PartComes n old new (Err ReadFailed) bytes = TakesAtMost n old new
PartComes n old new (Err OutOfMemory) bytes = ⊥
PartComes n old new (Err AlreadyFailed) bytes = ⊥

-- the same of a row: its memory is taken first; without memory no byte is read, and without a row it is empty
abbrev pub RowComes : (List ℕ → List ℤ) → ℕ → Option (List ℕ) → Option (List ℕ) → Result (Unit {0}) ReadFault → List ℤ → List ℕ → Type 0
RowComes numbers n old new (Ok done) out bytes = (length bytes ≡ n) × Consumes old new bytes × (out ≡ numbers bytes)
RowComes numbers n old new (Err WrongLength) out bytes = EndsWithin n old new × (out ≡ [])
RowComes numbers n old new (Err ReadFailed) out bytes = TakesAtMost n old new × (out ≡ [])
RowComes numbers n old new (Err OutOfMemory) out bytes = TakesAtMost 0 old new × (out ≡ [])
RowComes numbers n old new (Err AlreadyFailed) out bytes = ⊥

-- the end was checked: no byte was left; or one was, and was taken
abbrev pub EndComes : Option (List ℕ) → Option (List ℕ) → Result (Unit {0}) ReadFault → Type 0
EndComes old new (Ok done) = Consumes old new [] × IsAtEnd new
EndComes old new (Err WrongLength) = (bytes : List ℕ) × Consumes old new bytes × (length bytes ≡ 1)
EndComes old new (Err ReadFailed) = TakesAtMost 1 old new
EndComes old new (Err OutOfMemory) = ⊥
EndComes old new (Err AlreadyFailed) = ⊥

-- What one call of a row source gives of the rows to come, and what it leaves.

-- the state in which an answer leaves the row source
abbrev pub progress_after : Result RowStep ReadFault → Progress
progress_after (Ok Row) = Going
progress_after (Ok Ended) = Done
progress_after (Err fault) = Stopped

-- what is to come in this state, where this is to come while it goes on; after a fault it stays wrong
abbrev pub coming_at : Progress → Coming → Coming
coming_at Going coming = coming
coming_at Done coming = End
coming_at Stopped coming = Wrong

-- at most n bytes, and none if it no longer goes on
abbrev pub most_at : Progress → ℕ → ℕ
most_at Going most = most
most_at Done most = 0
most_at Stopped most = 0

-- the answer gives the first of what was to come and leaves the rest; a fault of device or memory says nothing of it
abbrev pub Steps : Coming → Result RowStep ReadFault → List ℤ → Coming → Type 0
Steps before (Ok Row) out after = before ≡ Next out after
Steps before (Ok Ended) out after = (before ≡ End) × (after ≡ End)
Steps before (Err WrongLength) out after = (before ≡ Wrong) × (after ≡ Wrong)
Steps before (Err ReadFailed) out after = Unit {0}
Steps before (Err OutOfMemory) out after = Unit {0}
Steps before (Err AlreadyFailed) out after = Unit {0}

-- the same of what is to come of the bytes left, if the device's bytes are known before and after
abbrev pub Gives : (List ℕ → Coming) → (List ℕ → Coming) → Option (List ℕ) → Option (List ℕ) → Result RowStep ReadFault → List ℤ → Type 0
Gives before after None new answer out = Unit {0}
Gives before after (Some old) None answer out = ⊥
Gives before after (Some old) (Some new) answer out = Steps (before old) answer out (after new)

-- after the end and after a fault the answer stays
abbrev pub StaysEnded : Progress → Result RowStep ReadFault → Type 0
StaysEnded Going answer = Unit {0}
StaysEnded Done answer = answer ≡ Ok Ended
StaysEnded Stopped answer = answer ≡ Err AlreadyFailed

-- the vector holds numbers only after a row
abbrev pub IsEmptyUnlessRow : Result RowStep ReadFault → List ℤ → Type 0
IsEmptyUnlessRow (Ok Row) out = Unit {0}
IsEmptyUnlessRow (Ok Ended) out = out ≡ []
IsEmptyUnlessRow (Err fault) out = out ≡ []

-- a row has n numbers
abbrev pub IsLong : ℕ → Result RowStep ReadFault → List ℤ → Type 0
IsLong n (Ok Row) out = length out ≡ n
IsLong n (Ok Ended) out = Unit {0}
IsLong n (Err fault) out = Unit {0}

-- between these bytes left, at most as many were read as the row source could still read, less what it still can
abbrev pub ReadsWithin : ℕ → ℕ → Option (List ℕ) → Option (List ℕ) → Type 0
ReadsWithin most_before most_after old new = (bytes : List ℕ) × Consumes old new bytes × (length bytes + most_after ≤ most_before)
