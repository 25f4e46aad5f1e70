-- Which of std's errors is which fault of a device.
use Rattle.std.specs.declared.io.Error.{Error}
use Rattle.std.specs.declared.io.ErrorKind.{ErrorKind}
use Rattle.std.specs.IoError.{error_kind}
use Rattle.drain_device.specs.declared.fault.DeviceFault.{DeviceFault}
use Rattle.drain_device.specs.declared.fault.DeviceFault.TheVariants.{Interrupted, Failed}
use Rattle.std.specs.Prelude.{ℕ, ◌↔◌, List, [], ◌∷◌}
use Rattle.std.specs.List.{Any}
use Rattle.drain_device.specs.declared.counts.FaultCounts.{FaultCounts}
use Rattle.drain_device.specs.Counts.{Answered}
use Rattle.drain_device.specs.Failing.{GivesUp, full_patience}
use Rattle.std.specs.declared.io.ErrorKind.TheVariants as kind

-- an interruption is one, and every other error is a failure
abbrev pub fault_of_kind : ErrorKind → DeviceFault
fault_of_kind kind.Interrupted = Interrupted
fault_of_kind _ = Failed

-- the fault for an error of std
abbrev pub fault_of : Error → DeviceFault
fault_of error = fault_of_kind (error_kind error)

-- The faults of many devices: what each answered, and when a read of one of them fails.

-- how many failures and interruptions a device answered
pub record Faults : Type 0 where
  pub failures : ℕ
  pub interruptions : ℕ

-- between these counts each device answered these faults
abbrev pub AnsweredEach : List FaultCounts → List FaultCounts → List Faults → Type 0
AnsweredEach [] [] [] = Unit {0}
AnsweredEach (old ∷ olds) (new ∷ news) (f ∷ fs) = Answered old new f.failures f.interruptions × AnsweredEach olds news fs
AnsweredEach olds news fs = ⊥

-- between these counts some read failed exactly where one of the devices failed, or was interrupted for the 1,000th time
pub record SomeReadFails (old new : List FaultCounts) (Fails : Type 0) : Type 0 where
  pub faults : List Faults
  pub answered : AnsweredEach old new faults
  pub exactly : Fails ↔ Any (λ f. GivesUp full_patience f.failures f.interruptions) faults
