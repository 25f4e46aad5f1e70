-- The text of a whole report. The order of its lines is this project's own.
use Rattle.std.specs.Prelude.{◌<◌, ◌^◌, ◌++◌, ◌∷◌}
use Rattle.drain_report.specs.Names.{ℕ, List, codes, [], length, Distances, IsSpacing, Corner, IsOnMap, Report, Agree, UnionGrid, UnionVerdict}
use Rattle.drain_report.specs.declared.head.Head.{Head}
use Rattle.drain_report.specs.Facts.{count_line, GridFits, grid_line, IsPlace, place_line, IsAuditNoData, nodata_line, VerdictFits, verdict_line, IsNarrow, sink_line, IsOutlet, outlet_line, IsShown, shown_line, spacing_line, tile_line}
use Rattle.drain_union.specs.declared.report.WindowReport.{WindowReport}

-- The first lines of a report.

-- the version of the form
abbrev pub version_line : List ℕ
version_line = codes "drain-window-report 4\n"

abbrev pub head_text : Head → List ℕ
head_text h = version_line ++ (grid_line h.grid ++ (place_line h.place ++ (nodata_line h.nodata ++ verdict_line h.verdict)))

-- each number is in its range
pub record HeadFits (h : Head) : Type 0 where
  pub grid : GridFits h.grid
  pub place : IsPlace h.place
  pub nodata : IsAuditNoData h.nodata
  pub verdict : VerdictFits h.verdict

-- The lists of a report: a line with how many lines follow, then the lines.

-- a text for each, one after another
abbrev pub all_text : {X : Type 0} → (X → List ℕ) → List X → List ℕ
all_text f [] = []
all_text f (x ∷ xs) = f x ++ all_text f xs

abbrev pub AllAre : {X : Type 0} → (X → Type 0) → List X → Type 0
AllAre P [] = Unit {0}
AllAre P (x ∷ xs) = P x × AllAre P xs

-- how many there are is a number of 32 bits, and each of them is such
pub record IsListOf {X : Type 0} (P : X → Type 0) (xs : List X) : Type 0 where
  pub short : length xs < 2 ^ 32
  pub each : AllAre P xs

abbrev pub list_text : {X : Type 0} → List ℕ → (X → List ℕ) → List X → List ℕ
list_text word f xs = count_line word (length xs) ++ all_text f xs

-- the list of spacings, and no line if none is listed
abbrev pub spacings_text : List Distances → List ℕ
spacings_text [] = []
spacings_text (s ∷ ss) = list_text (codes "spacings") spacing_line (s ∷ ss)

abbrev pub SpacingsFit : List Distances → Type 0
SpacingsFit = IsListOf IsSpacing

-- what the text of a report says
pub record Contents : Type 0 where
  pub grid : UnionGrid
  pub tiles : List Corner
  pub verdict : UnionVerdict
  pub report : Report

abbrev pub contents_of : WindowReport → Contents
contents_of w = record { grid = w.grid; tiles = w.tiles.items; verdict = w.verdict; report = w.report }

abbrev pub head_of : Contents → Head
head_of w = record { grid = w.grid; place = w.report.place; nodata = w.report.nodata; verdict = w.verdict }

-- the last line
abbrev pub end_line : List ℕ
end_line = codes "end\n"

-- all lines of a report
abbrev pub report_text : Contents → List ℕ
report_text w =
    head_text (head_of w) ++ (spacings_text w.report.spacings ++ (list_text (codes "tiles") tile_line w.tiles
    ++ (list_text (codes "sinks") sink_line w.report.sinks ++ (list_text (codes "outlets") outlet_line w.report.outlets
    ++ (list_text (codes "seams") shown_line w.report.seams ++ end_line)))))

-- each number is in the range of its type, and the report holds exactly where its verdict is accepted
pub record ContentsFit (w : Contents) : Type 0 where
  pub head : HeadFits (head_of w)
  pub holds : Agree w.verdict w.report
  pub spacings : SpacingsFit w.report.spacings
  pub tiles : IsListOf IsOnMap w.tiles
  pub sinks : IsListOf IsNarrow w.report.sinks
  pub outlets : IsListOf IsOutlet w.report.outlets
  pub seams : IsListOf IsShown w.report.seams
