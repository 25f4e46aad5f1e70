-- What the definitions of rows to come promise.
use Rattle.std.specs.Prelude.{◌≡◌, ℕ, ℤ, List}
use Rattle.drain_device.specs.RowSteps.{Coming, IsNthRow, after_rows}
use Rattle.drain_device.specs.RowSteps.Coming.{Next}

-- after n rows, a row that comes is the next one
abbrev pub RowsComeInOrder : Type 0
RowsComeInOrder = (start now left : Coming) (n : ℕ) (row : List ℤ) → now ≡ after_rows n start → now ≡ Next row left → IsNthRow start n row left
