-- What a read of many calls took, and what it left.
use Rattle.std.specs.Prelude.{◌≡◌, ◌<◌, ◌≤◌}
use Rattle.drain_device.specs.Names.{ℕ, List, length, take, drop, Option, Some, None, Result, Ok, Err, Consumes, IsAtEnd}

-- at most n bytes were taken
abbrev pub TakesAtMost : ℕ → Option (List ℕ) → Option (List ℕ) → Type 0
TakesAtMost most old new = (bytes : List ℕ) × Consumes old new bytes × (length bytes ≤ most)

-- the first n bytes of the slice came, all unless at the end; a read that failed for good may have taken some
abbrev pub FillsFrom : {E : Type 0} → Option (List ℕ) → Option (List ℕ) → Result ℕ E → List ℕ → Type 0
FillsFrom old new (Ok n) out = Consumes old new (take n out) × (n < length out → IsAtEnd new)
FillsFrom old new (Err fault) out = TakesAtMost (length out) old new

-- the body is what was left, up to the limit, and the bytes after it are still left
abbrev pub ReadsUpTo : ℕ → Option (List ℕ) → Option (List ℕ) → List ℕ → Type 0
ReadsUpTo limit None new body = Unit {0}
ReadsUpTo limit (Some xs) None body = ⊥
ReadsUpTo limit (Some xs) (Some ys) body = (body ≡ take limit xs) × (ys ≡ drop limit xs)
