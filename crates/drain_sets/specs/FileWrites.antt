-- The result of writing files one after the other.
use Rattle.std.specs.Prelude.{ℕ, ◌≡◌, ◌⊎◌, List, [], ◌∷◌, Result, Ok, Err, IsErr}
use Rattle.drain_device.specs.Failing.{Sink, WriteFails}
use Rattle.drain_device.specs.Counts.{HandsOver}
use Rattle.drain_sets.specs.declared.set_files.SetFault.{SetFault}
use Rattle.drain_sets.specs.declared.set_files.SetFault.TheVariants.{WriteFailed}

-- the file took its bytes, or a proper first part of them; the write failed exactly if the file failed for good
pub record WritesFile {F : Type 0} (sink : Sink F) (old new : F) (bytes : List ℕ) (done : Result (Unit {0}) SetFault) : Type 0 where
  pub written : HandsOver (sink.bytes_taken old) (sink.bytes_taken new) done bytes
  pub faults : WriteFails (sink.counts old) (sink.counts new) (sink.stalls old) (sink.stalls new) (done ≡ Err WriteFailed)

-- the files took their bytes one after the other; the first that didn't ended it, and later ones are as they were
abbrev pub WritesFiles : {F : Type 0} → Sink F → List F → List F → List (List ℕ) → Result (Unit {0}) SetFault → Type 0
WritesFiles sink [] [] [] done = done ≡ Ok tt
WritesFiles sink (old ∷ olds) (new ∷ news) (bytes ∷ more) done =
    (WritesFile sink old new bytes (Ok tt) × WritesFiles sink olds news more done)
    ⊎ (IsErr done × (WritesFile sink old new bytes done × (news ≡ olds)))
WritesFiles sink olds news texts done = ⊥
