-- The numbers that the program ends with. They are this project's own.
use Rattle.std.specs.Prelude.{ℕ}
use Rattle.drain_answer.specs.declared.refusal.Refusal.{Refusal}
use Rattle.drain_answer.specs.declared.refusal.Refusal.TheVariants.{OutOfMemory, ReadFailed}
use Rattle.drain_answer.specs.declared.outcome.Status.{Status}
use Rattle.drain_answer.specs.declared.outcome.Status.TheVariants.{Done, Rejected, Refused, Failed}

abbrev pub status_code : Status → ℕ
status_code Done = 0
status_code Rejected = 1
status_code Refused = 2
status_code Failed = 3

-- failed if memory ran out or a device failed, else refused
abbrev pub refusal_status : Refusal → Status
refusal_status OutOfMemory = Failed
refusal_status ReadFailed = Failed
refusal_status refusal = Refused
