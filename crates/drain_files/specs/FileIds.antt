-- Which outputs would be written over an input, or over one another. Files are told apart by device and inode
-- (POSIX.1-2017, <sys/stat.h>: st_dev and st_ino together identify a file).
use Rattle.std.specs.Prelude.{◌≡◌, ◌⊎◌, ℕ, List, take, Option, Some, None, slice_get, IsTrue}
use Rattle.drain_files.specs.declared.file_id.FileId.{FileId}
use Rattle.drain_files.specs.declared.file_id.Target.{Target}

-- the file is one of these
abbrev pub IsAmong : FileId → List FileId → Type 0
IsAmong id ids = (k : ℕ) × (slice_get ids k ≡ Some id)

-- the plain file in the place of the output, if there is one, is an input
abbrev pub IsInputFile : Option FileId → List FileId → Type 0
IsInputFile None inputs = ⊥
IsInputFile (Some id) inputs = IsAmong id inputs

abbrev pub IsInput : Target → List FileId → Type 0
IsInput output inputs = IsInputFile output.id inputs

-- one plain file is in the place of both outputs, and at least one of them is written as it is
pub record Meets (output other : Target) : Type 0 where
  pub id : FileId
  pub here : output.id ≡ Some id
  pub there : other.id ≡ Some id
  pub straight : IsTrue output.is_straight ⊎ IsTrue other.is_straight

abbrev pub MeetsSome : Target → List Target → Type 0
MeetsSome output others = (k : ℕ) × (other : Target) × (slice_get others k ≡ Some other) × Meets output other

-- the output in this place is an input, or meets an earlier output
abbrev pub Clashes : List Target → List FileId → ℕ → Type 0
Clashes outputs inputs k = (output : Target) × (slice_get outputs k ≡ Some output) × (IsInput output inputs ⊎ MeetsSome output (take k outputs))
