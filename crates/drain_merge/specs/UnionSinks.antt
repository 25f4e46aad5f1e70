-- The sinks of a union, and those that its windows took. These definitions are this project's own.
use Rattle.std.specs.Prelude.{◌≡◌, ◌<◌}
use Rattle.drain_merge.specs.Names.{ℕ, true, false, Option, Some, None, List, slice_get, Cell, IsCellOf, Grid, is_among}
use Rattle.drain_grid.specs.declared.sink_line.SinkLine.{SinkLine}
use Rattle.drain_grid.specs.SinkTexts.{is_listed}
use Rattle.drain_merge.specs.declared.merge_verdict.MergeRefusal.{MergeRefusal}
use Rattle.drain_merge.specs.declared.merge_verdict.MergeRefusal.TheVariants.{SinkLeftOut, SinkNotListed, OutOfMemory}
use Rattle.drain_merge.specs.declared.totals.UnionSinks.{UnionSinks}
use Rattle.drain_merge.specs.declared.totals.UnionSinks.TheVariants.{AsTaken, Listed}

-- each line's cell is one of these
abbrev pub HaveLines : List SinkLine → List Cell → Type 0
HaveLines lines cells = (k : ℕ) (s : SinkLine) → slice_get lines k ≡ Some s → is_among cells s.cell ≡ true

-- each of these cells is listed
abbrev pub AreListed : List SinkLine → List Cell → Type 0
AreListed lines cells = (k : ℕ) (c : Cell) → slice_get cells k ≡ Some c → is_listed lines c ≡ true

-- these cells are the sinks of these lines, and no others
abbrev pub TakeLines : List SinkLine → List Cell → Type 0
TakeLines lines cells = HaveLines lines cells × AreListed lines cells

-- they are the sinks of the union
abbrev pub TakeSinks : UnionSinks → List Cell → Type 0
TakeSinks AsTaken cells = Unit {0}
TakeSinks (Listed lines) cells = TakeLines lines cells

-- the number of the first line whose cell is none of these, none where there is no such line
abbrev pub IsFirstLeftOut : List SinkLine → List Cell → Option ℕ → Type 0
IsFirstLeftOut lines cells None = HaveLines lines cells
IsFirstLeftOut lines cells (Some n) =
    (k : ℕ) × (s : SinkLine) × (slice_get lines k ≡ Some s) × (s.line ≡ n) × (is_among cells s.cell ≡ false)
    × ((j : ℕ) (t : SinkLine) → j < k → slice_get lines j ≡ Some t → is_among cells t.cell ≡ true)

-- the first of these cells that isn't listed, none where all are
abbrev pub IsFirstNotListed : List SinkLine → List Cell → Option Cell → Type 0
IsFirstNotListed lines cells None = AreListed lines cells
IsFirstNotListed lines cells (Some c) =
    (k : ℕ) × (slice_get cells k ≡ Some c) × (is_listed lines c ≡ false)
    × ((j : ℕ) (d : Cell) → j < k → slice_get cells j ≡ Some d → is_listed lines d ≡ true)

-- why windows are refused that took these cells as sinks, where others are listed
abbrev pub IsListedRefusal : List SinkLine → List Cell → MergeRefusal → Type 0
IsListedRefusal lines cells (SinkLeftOut n) = IsFirstLeftOut lines cells (Some n)
IsListedRefusal lines cells (SinkNotListed c) = HaveLines lines cells × IsFirstNotListed lines cells (Some c)
IsListedRefusal lines cells OutOfMemory = Unit {0}
IsListedRefusal lines cells other = ⊥

abbrev pub IsSinkRefusal : UnionSinks → List Cell → MergeRefusal → Type 0
IsSinkRefusal AsTaken cells refusal = ⊥
IsSinkRefusal (Listed lines) cells refusal = IsListedRefusal lines cells refusal

-- a grid has these sinks: those of the list, if there is one
abbrev pub HasSinks : UnionSinks → Grid → Type 0
HasSinks AsTaken u = Unit {0}
HasSinks (Listed lines) u = (c : Cell) → IsCellOf u.extent c → u.sink c ≡ is_listed lines c
