-- When places of windows make a union. These definitions are this project's own.
use Rattle.std.specs.Prelude.{◌<◌}
use Rattle.drain_merge.specs.Names.{List, map, ℕ, Option, Some, None, length, slice_index_or, flat_map, All, AllPairs, AllWithin, HoldsAt, Cell, Outlet, Place, Shown, Report, WindowReport, BothJudgeOne}
use Rattle.drain_merge.specs.declared.places.Clash.{Clash}

-- What the windows of a union report. These definitions are this project's own.

-- the reports
abbrev pub reports_of : List WindowReport → List Report
reports_of windows = map (λ w. w.report) windows

-- where the windows lie
abbrev pub places_of : List WindowReport → List Place
places_of windows = map (λ w. w.report.place) windows

-- the outlets of all windows
abbrev pub all_outlets : List WindowReport → List Outlet
all_outlets windows = flat_map (λ w. w.report.outlets) windows

-- the listed sinks that all windows took
abbrev pub all_sinks : List WindowReport → List Cell
all_sinks windows = flat_map (λ w. w.report.sinks) windows

-- what all windows show along their seams
abbrev pub all_seams : List WindowReport → List Shown
all_seams windows = flat_map (λ w. w.report.seams) windows

-- the place in the list of the first element without the property, none where all have it
abbrev pub IsFirstFailing : {X : Type 0} → (X → Type 0) → List X → Option ℕ → Type 0
IsFirstFailing P xs None = All P xs
IsFirstFailing P xs (Some k) = (k < length xs) × HoldsAt (λ x. ¬ P x) xs k × AllWithin P xs 0 k

-- the place in the list of the first element with the property, none where none has it
abbrev pub IsFirstWith : {X : Type 0} → (X → Type 0) → List X → Option ℕ → Type 0
IsFirstWith P xs None = All (λ x. ¬ P x) xs
IsFirstWith P xs (Some k) = (k < length xs) × HoldsAt P xs k × AllWithin (λ x. ¬ P x) xs 0 k

-- some place judges a cell of an earlier one; none where no cell is judged at two places
abbrev pub IsFirstClash : List Place → Option Clash → Type 0
IsFirstClash places None = AllPairs (λ p q. ¬ BothJudgeOne p q) places
IsFirstClash places (Some clash) =
    (clash.earlier < clash.later) × (clash.later < length places)
    × ((d : Place) → BothJudgeOne (slice_index_or places clash.earlier d) (slice_index_or places clash.later d))
