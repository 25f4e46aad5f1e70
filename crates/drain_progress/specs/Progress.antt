-- Where rows end among the bytes of a file.
use Rattle.std.specs.Prelude.{ℕ, ◌+◌, ◌*◌, ◌≤◌, ◌<◌, List, codes, Bool, ◌&&◌, not, nat_lt, [], ◌∷◌, ◌++◌, if◌then◌else◌}
use Rattle.drain_progress.specs.declared.progress_lines.Phase.{Phase}
use Rattle.drain_progress.specs.declared.progress_lines.Phase.TheVariants.{Checking, Reading, Writing}
use Rattle.drain_sets.specs.declared.follow.Stage.{Stage}
use Rattle.drain_sets.specs.declared.follow.Stage.TheVariants.{Surface, Directions, Labels, Counts}
use Rattle.std.specs.List.{count_by}
use Rattle.drain_progress.specs.declared.throttle.TheConstants.{APART}

-- after how many bytes a row ends, counted from 0: the first after a given number, each other one a given number later
abbrev pub row_end : ℕ → ℕ → ℕ → ℕ
row_end first each row = first + row * each

-- n rows end within these bytes: each of them does, and the next doesn't, unless rows have no bytes
pub record IsRowCount (first each bytes rows : ℕ) : Type 0 where
  pub ended : (row : ℕ) → row < rows → row_end first each row ≤ bytes
  pub not_ended : 0 < first → 0 < each → bytes < row_end first each rows

-- The text of progress lines.

-- the text before the number of rows
abbrev pub before_row : Phase → List ℕ
before_row Checking = codes "drain: row "
before_row Reading = codes "drain: reading row "
before_row Writing = codes "drain: writing row "

-- the line when a stage of making products begins
abbrev pub stage_text : Stage → List ℕ
stage_text Surface = codes "drain: making, 1 of 4: filled elevation"
stage_text Directions = codes "drain: making, 2 of 4: directions"
stage_text Counts = codes "drain: making, 3 of 4: accumulation"
stage_text Labels = codes "drain: making, 4 of 4: basin labels"

-- When lines about progress are printed. Times are milliseconds.

-- when the last line was printed, after a test at this time whether one is due
abbrev pub last_line : ℕ → ℕ → ℕ
last_line last now = if nat_lt now (last + APART) then last else now

-- when lines are printed, if the last was printed at that time and tests come at these
abbrev pub line_times : ℕ → List ℕ → List ℕ
line_times last [] = []
line_times last (now ∷ later) = if nat_lt now (last + APART) then line_times last later else now ∷ line_times now later

-- a time lies in the second that starts then
abbrev pub is_in_second : ℕ → ℕ → Bool
is_in_second start time = not (nat_lt time start) && nat_lt time (start + 1000)

-- of lines that are printed when they are due at most one comes in any one second
abbrev pub AtMostOneLineInASecond : Type 0
AtMostOneLineInASecond = (last : ℕ) (times : List ℕ) (start : ℕ) → count_by (is_in_second start) (line_times last times) ≤ 1

-- and at most two with a line among them that is printed at any time
abbrev pub AtMostTwoLinesInASecond : Type 0
AtMostTwoLinesInASecond = (last : ℕ) (before : List ℕ) (now : ℕ) (after : List ℕ) (start : ℕ) →
    count_by (is_in_second start) (line_times last before ++ now ∷ line_times now after) ≤ 2
