-- When a call that tries its device again fails for good.
use Rattle.std.specs.Prelude.{ℕ, ◌-◌, ◌<◌, ◌⊎◌, ◌≡◌, ◌↔◌, Bool, ◌&&◌, nat_le, List, find, Option, Result, Ok, Err}
use Rattle.drain_device.specs.declared.patience.TheConstants.{TOO_MANY_INTERRUPTIONS}
use Rattle.drain_device.specs.declared.counts.FaultCounts.{FaultCounts}
use Rattle.drain_device.specs.Counts.{Answered, counted}
use Rattle.std.specs.Option.{option_map}
use Rattle.drain_device.specs.declared.faults.script.Scripted.{Scripted}
use Rattle.drain_device.specs.declared.faults.script.SinkAnswer.{SinkAnswer}
use Rattle.drain_device.specs.declared.fault.DeviceFault.{DeviceFault}
use Rattle.drain_device.specs.declared.fault.DeviceFault.TheVariants.{Interrupted, Failed}
use Rattle.drain_device.specs.declared.faults.script.SinkAnswer.TheVariants as sink
use Rattle.drain_device.specs.declared.sink.ByteSink as sinks
use Rattle.drain_device.specs.declared.source.ByteSource as sources

-- how many interruptions a new patience bears
abbrev pub full_patience : ℕ
full_patience = TOO_MANY_INTERRUPTIONS - 1

-- the device failed, or was interrupted more often than the patience allows
abbrev pub GivesUp : ℕ → ℕ → ℕ → Type 0
GivesUp patience failures interruptions = (0 < failures) ⊎ (patience < interruptions)

-- the same of a sink, which also fails for good if it takes nothing of a non-empty slice
abbrev pub GivesUpWriting : ℕ → ℕ → ℕ → ℕ → Type 0
GivesUpWriting patience failures interruptions stalls = (0 < failures) ⊎ ((patience < interruptions) ⊎ (0 < stalls))

-- When a call that reads or writes to the end fails, by the device's counts, for calls with a patience of their own.

-- between these counts the read failed exactly where the source failed, or was interrupted for the 1,000th time
pub record ReadFails (old new : FaultCounts) (Fails : Type 0) : Type 0 where
  pub failures : ℕ
  pub interruptions : ℕ
  pub answered : Answered old new failures interruptions
  pub exactly : Fails ↔ GivesUp full_patience failures interruptions

-- between these counts the write failed exactly if the sink failed, stalled, or was interrupted for the 1,000th time
pub record WriteFails (counts_old counts_new : FaultCounts) (stalls_old stalls_new : ℕ) (Fails : Type 0) : Type 0 where
  pub failures : ℕ
  pub interruptions : ℕ
  pub stalls : ℕ
  pub answered : Answered counts_old counts_new failures interruptions
  pub stalled : stalls_new ≡ counted stalls_old stalls
  pub exactly : Fails ↔ GivesUpWriting full_patience failures interruptions stalls

-- When a part of a read fails, by the device's counts, for parts that share one patience.

-- between these counts a part began with this patience and left that; it failed exactly if the device failed or was
-- interrupted more often than its patience
pub record PartFails (old new : FaultCounts) (patience left : ℕ) (Fails : Type 0) : Type 0 where
  pub failures : ℕ
  pub interruptions : ℕ
  pub answered : Answered old new failures interruptions
  pub left_is : left ≡ patience - interruptions
  pub exactly : Fails ↔ GivesUp patience failures interruptions

-- What a script answers.

-- the line is about this call
abbrev pub is_about : {A : Type 0} → ℕ → Scripted A → Bool
is_about call line = nat_le line.first call && nat_le call line.last

-- the answer of the first line that is about the call
abbrev pub answer_of : {A : Type 0} → List (Scripted A) → ℕ → Option A
answer_of script call = option_map (λ line. line.answer) (find (is_about call) script)

-- what a call returns for this answer of the script
abbrev pub answer_given : SinkAnswer → Result ℕ DeviceFault
answer_given sink.Interrupted = Err Interrupted
answer_given sink.Failed = Err Failed
answer_given sink.TookNone = Ok 0

-- What a contract sees of a device, in one record each: the ghost members of its trait.

-- of a sink: `bytes_taken` (if known), `counts` of faults, and `stalls`, how often it took nothing of a non-empty slice
abbrev pub Sink : Type 0 → Type 1
Sink W = sinks.Ghosts W

-- of a source: `bytes_left` (if known), and `counts` of its faults
abbrev pub Source : Type 0 → Type 1
Source R = sources.Ghosts R
