-- The products of `make`: of the mosaic's shape, right by every rule, and fit to be written.
use Rattle.std.specs.Prelude.{◌≡◌, ◌*◌, ◌≤◌}
use Rattle.drain_maker.specs.Names.{ℕ, List, Result, Ok, Err, ℤ, pos, map, slice_index_or, SetProduct, product_of, ProductSet, SinkLine, IsFirstOffData, IsOffData, Acc, Bas, Dir, Rnk, Spl, default_no_data, default_numbers, NoDataNumbers, Heights, ArePixels, Grid, Products, Distances, grid_of, products_of, nodata_of, raster_in, spaced_grid, IsAnyRule, check_rules, RulesHold, CanSpellAll, Tiling, bits_of, is_signed, Cell, IsCorrect, RunsAreSound, index_of, Extent, Flow, AreBasinLabels, AreFlowsOf, bytes_flows, AllFlowsEnd, AreUpstreamCounts, Flooding, IsSurfaceOf, ShowsVoids, con_at}
use Rattle.drain_maker.specs.declared.maker.MakeRefusal.{MakeRefusal}
use Rattle.drain_maker.specs.declared.maker.MakeRefusal.TheVariants.{MakerFault, OutOfMemory, SinkNotData}
use Rattle.drain_maker.specs.ProductFiles.{CanSpellAllIn, made_header}
use Rattle.drain_flood.specs.declared.level_queue.TheConstants.{MAX_CELLS}
use Rattle.drain_flood.specs.Flats.{Laying, AreWaysOnFlats}

-- all rules of a check hold at every cell of the grid, with the default no-data numbers
abbrev pub KeepsEveryRule : Grid → ProductSet → Type 0
KeepsEveryRule g ps = RulesHold (check_rules default_numbers) IsAnyRule g (products_of ps)

-- the pixels of each product's header can encode each of its numbers
abbrev pub CanBeWritten : Tiling → ProductSet → Type 0
CanBeWritten t ps = (p : SetProduct) → CanSpellAll (made_header t (product_of p)) (raster_in ps p)

-- the pixels that each product has in every mosaic can encode each of its numbers
abbrev pub AreMadeSpelled : ProductSet → Type 0
AreMadeSpelled ps = (p : SetProduct) → CanSpellAllIn (is_signed (product_of p)) (bits_of (product_of p)) (raster_in ps p)

-- each raster has a number for each cell, and numbers that some pixel encodes
abbrev pub AreRasters : ProductSet → Type 0
AreRasters ps = (p : SetProduct) → ArePixels (raster_in ps p)

-- each listed cell has data; how far apart cells are plays no part
abbrev pub AreOnData : Heights → List SinkLine → Type 0
AreOnData e sinks = (line : ℕ) → ¬ IsOffData (grid_of e sinks) sinks line

-- products come only if each listed cell has data, else the first line whose cell has none is reported; a fault of the
-- maker never comes
abbrev pub IsSinkAnswer : Heights → List SinkLine → Result ProductSet MakeRefusal → Type 0
IsSinkAnswer e sinks (Ok ps) = AreOnData e sinks
IsSinkAnswer e sinks (Err MakerFault) = ⊥
IsSinkAnswer e sinks (Err OutOfMemory) = Unit {0}
IsSinkAnswer e sinks (Err (SinkNotData line)) = IsFirstOffData (grid_of e sinks) sinks line

-- where each listed cell has data, there are products, unless memory runs out
abbrev pub Succeeds : Heights → List SinkLine → Result ProductSet MakeRefusal → Type 0
Succeeds e sinks (Ok ps) = Unit {0}
Succeeds e sinks (Err refusal) = AreOnData e sinks → refusal ≡ OutOfMemory

-- products that were made for the elevations of a mosaic, these sinks and this spacing
pub record AreMade (t : Tiling) (e : Heights) (sinks : List SinkLine) (spacing : ℕ → Distances) (ps : ProductSet) : Type 0 where
  pub shape : ps.con.extent ≡ e.extent
  pub nodata : nodata_of ps ≡ default_numbers
  pub rules : KeepsEveryRule (spaced_grid spacing e sinks) ps
  pub written : CanBeWritten t ps
  pub rasters : AreRasters ps
  pub on_data : AreOnData e sinks

-- Routes of a filled surface, counts and labels, and their products: correct, and right by every rule.

-- the no-data numbers of what is made: the default ones, but for the heights
abbrev pub made_numbers : ℤ → NoDataNumbers
made_numbers con = record {
  con = con;
  dir = default_no_data Dir;
  acc = default_no_data Acc;
  bas = default_no_data Bas;
  spl = default_no_data Spl;
  rnk = default_no_data Rnk;
}

-- these are the heights of a filled surface of the grid, with this number at voids alone, and the codes and ranks of the ways
-- on it
pub record AreRoutes (g : Grid) (void : ℤ) (con : List ℤ) (rnk dirs : List ℕ) : Type 0 where
  pub flood : Flooding
  pub laying : Laying
  pub surface : IsSurfaceOf g flood
  pub voids : ShowsVoids g flood void
  pub ways : AreWaysOnFlats g flood laying
  pub con_is : con ≡ flood.con
  pub rnk_is : rnk ≡ laying.rnk
  pub dir_is : dirs ≡ laying.way

-- counts and labels are right
pub record AreCountsAndLabels (g : Grid) (ps : Products) (e : Extent) (counts labels : List ℕ) : Type 0 where
  pub counts_are : AreUpstreamCounts g ps e counts
  pub labels_are : AreBasinLabels g ps e labels

-- the flows are those of some grid and products whose runs all end
abbrev pub SomeRunsEnd : Extent → List Flow → Type 0
SomeRunsEnd e flows = (g : Grid) × (ps : Products) × AreFlowsOf g ps e flows × AllFlowsEnd g ps

-- correct products, sound runs, and every rule of a check at every cell
pub record AreRightProducts (g : Grid) (nodata : NoDataNumbers) (ps : Products) : Type 0 where
  pub rules : RulesHold (check_rules nodata) IsAnyRule g ps
  pub correct : IsCorrect g ps nodata
  pub runs : RunsAreSound g ps

-- the number of a cell in a list of whole numbers
abbrev pub listed : Extent → List ℕ → Cell → ℤ
listed e numbers c = slice_index_or (map (λ n. pos n) numbers) (index_of e c) (pos 0)

-- products that show the heights of a flood, the codes and ranks of its ways, and counts and labels; without spill parents
abbrev pub shown : Extent → Flooding → Laying → List ℕ → List ℕ → Products
shown e f w counts labels = record {
  con = con_at e f;
  dir = listed e w.way;
  acc = listed e counts;
  bas = listed e labels;
  spl = λ c. pos 0;
  rnk = listed e w.rnk;
}

-- the flows of the ways are those of the grid, and every run ends
abbrev pub RoutesEnd : Type 0
RoutesEnd =
    (g : Grid) (f : Flooding) (w : Laying) (void : ℤ) (counts labels : List ℕ) → g.extent.rows * g.extent.cols ≤ MAX_CELLS → IsSurfaceOf g f →
    ShowsVoids g f void → AreWaysOnFlats g f w →
    AreFlowsOf g (shown g.extent f w counts labels) g.extent (bytes_flows w.way) × AllFlowsEnd g (shown g.extent f w counts labels)

-- with right counts and labels the products are correct, every run is sound, and every rule of a check holds at every cell
abbrev pub RoutesKeepRules : Type 0
RoutesKeepRules =
    (g : Grid) (f : Flooding) (w : Laying) (void : ℤ) (counts labels : List ℕ) → g.extent.rows * g.extent.cols ≤ MAX_CELLS → IsSurfaceOf g f →
    ShowsVoids g f void → AreWaysOnFlats g f w →
    AreCountsAndLabels g (shown g.extent f w counts labels) g.extent counts labels →
    AreRightProducts g (made_numbers void) (shown g.extent f w counts labels)
