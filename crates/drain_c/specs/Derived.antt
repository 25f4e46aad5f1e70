-- What follows from the directions of a call, as C reads it.
use Rattle.std.specs.Prelude.{◌≡◌, ◌++◌, ◌*◌, ◌==◌, ◌&&◌, if◌then◌else◌}
use Rattle.drain_c.specs.Names.{ℕ, length, Bool, ℤ, pos, List, map, codes, decimal, Result, Ok, Err, IsTrue, IsFalse, outcome_report_line, Outcome, Extent, IsDeriveRefusalIn, AreDerived, GroundSet, IsReadable, set_grid, set_products}
use Rattle.drain_c.specs.declared.answer.Answer.{Answer}
use Rattle.drain_c.specs.declared.found.Found.{Found}
use Rattle.drain_c.specs.Found.{outcome_found, status_only}
use Rattle.drain_c.specs.Shown.{Reports, ShowsAnswer, ShowsBadRaster, ShowsOutcome}
use Rattle.drain_grid.specs.Product.{default_numbers}
use Rattle.drain_grid.specs.Grid.{Pixels}
use Rattle.drain_maker.specs.declared.derivation.Derived.{Derived}
use Rattle.drain_maker.specs.declared.derivation.DeriveRefusal.{DeriveRefusal}
use Rattle.drain_maker.specs.Derived.{outcome_for}
use Rattle.drain_paths.specs.Flows.{AllFlowsEnd}

-- these numbers in row order, as a raster of the set's grid
abbrev pub raster_of : GroundSet → ℤ → List ℕ → Pixels
raster_of s nodata numbers = record { extent = (set_grid s).extent; nodata = nodata; numbers = map (λ n. pos n) numbers }

-- the numbers follow from the directions, with the default no-data numbers at voids
abbrev pub AreDerivedNumbers : GroundSet → List ℕ → List ℕ → List ℕ → Type 0
AreDerivedNumbers s acc bas rnk = AreDerived (set_grid s) (set_products s) (raster_of s default_numbers.acc acc) (raster_of s default_numbers.bas bas) (raster_of s default_numbers.rnk rnk)

-- the memory for each raster has a number for each cell
abbrev pub have_cells : Extent → List ℕ → List ℕ → List ℕ → Bool
have_cells e acc bas rnk = length acc == e.rows * e.cols && length bas == e.rows * e.cols && length rnk == e.rows * e.cols

-- the numbers are those of these rasters
pub record AreNumbersOf (d : Derived) (counts labels steps : List ℕ) : Type 0 where
  pub acc : map (λ n. pos n) counts ≡ d.acc.numbers
  pub bas : map (λ n. pos n) labels ≡ d.bas.numbers
  pub rnk : map (λ n. pos n) steps ≡ d.rnk.numbers

-- something follows: no refusal applies and every path ends; else the first reason why nothing does
abbrev pub IsDerivation : GroundSet → Result (Unit {0}) DeriveRefusal → Type 0
IsDerivation s (Ok done) = IsReadable s × AllFlowsEnd (set_grid s) (set_products s)
IsDerivation s (Err why) = IsDeriveRefusalIn s why

-- rows and columns of what follows
abbrev pub shape_line : Extent → List ℕ
shape_line e = codes "derived rows=" ++ decimal e.rows ++ codes " cols=" ++ decimal e.cols

-- the numbers and the line of what follows, if the memory for it has its length, or of the reason why nothing does
abbrev pub derived_found : Bool → Result (Unit {0}) DeriveRefusal → Found
derived_found fits (Ok done) = if fits then status_only 0 else status_only 2
derived_found fits (Err why) = outcome_found (outcome_for why)

abbrev pub derived_line : Extent → Bool → Result (Unit {0}) DeriveRefusal → List ℕ
derived_line e fits (Ok done) = if fits then shape_line e else codes "refused BadRasterLength"
derived_line e fits (Err why) = outcome_report_line (outcome_for why)

-- what is shown is what the set gives
abbrev pub ReportsDerivation : GroundSet → List ℕ → List ℕ → List ℕ → Answer → Type 0
ReportsDerivation s acc bas rnk shown =
    Reports (IsDerivation s) (derived_found (have_cells (set_grid s).extent acc bas rnk)) (derived_line (set_grid s).extent (have_cells (set_grid s).extent acc bas rnk)) shown

-- what is written: rasters, if the memory for each has its length; else that it hasn't, or why nothing follows, and no raster
abbrev pub ShowsDerivation : Result (Extent × Derived) DeriveRefusal → (List ℕ × List ℕ × List ℕ) → (List ℕ × List ℕ × List ℕ) → Answer → Type 0
ShowsDerivation (Ok made) old new shown =
    (IsTrue (have_cells made.0 old.0 old.1 old.2) → ShowsAnswer (status_only 0) (shape_line made.0) shown × AreNumbersOf made.1 new.0 new.1 new.2)
    × (IsFalse (have_cells made.0 old.0 old.1 old.2) → ShowsBadRaster shown × (new.0 ≡ old.0) × (new.1 ≡ old.1) × (new.2 ≡ old.2))
ShowsDerivation (Err why) old new shown = ShowsOutcome (outcome_for why) shown × (new.0 ≡ old.0) × (new.1 ≡ old.1) × (new.2 ≡ old.2)
