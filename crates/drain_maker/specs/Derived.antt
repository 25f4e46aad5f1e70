-- What follows from the directions of a grid, as rasters.
use Rattle.std.specs.Prelude.{◌≡◌, ◌≢◌, ◌↔◌}
use Rattle.drain_maker.specs.Names.{pos, false, IsNone, List, Result, Ok, Err, Cell, Grid, Products, IsInside, HasData, Pixels, ArePixels, default_numbers, Extent, number_at, end_number, AllFlowsEnd, AreFlowsOf, Flow, Refusal, OutOfMemory, GroundSet, IsReadable, IsRefusalIn, set_grid, set_products, IsCorrect, RulesHold, check_rules, IsAnyRule, NoDataNumbers}
use Rattle.drain_grid.specs.Unranked.{run_steps, IsFirstEndless}
use Rattle.drain_grid.specs.Run.{run_end, upstream_count, ShareBasin}
use Rattle.drain_maker.specs.ProductFiles.{CanSpellAllIn}
use Rattle.drain_maker.specs.declared.derivation.Derived.{Derived}
use Rattle.drain_paths.specs.declared.flow.CertifyRefusal.{CertifyRefusal}
use Rattle.drain_maker.specs.declared.derivation.DeriveRefusal.{DeriveRefusal}
use Rattle.drain_maker.specs.declared.derivation.DeriveRefusal.TheVariants.{Refused, NoEnd}
use Rattle.drain_paths.specs.Laws.{AreRouted}
use Rattle.drain_paths.specs.declared.flow.CertifyRefusal.TheVariants as certify
use Rattle.drain_answer.specs.declared.outcome.Outcome.{Outcome}
use Rattle.drain_answer.specs.declared.outcome.Outcome.TheVariants as outcome
use Rattle.drain_answer.specs.declared.refusal.Refusal.TheVariants.{BadHeader, WrongShape, Misplaced, RasterShort}
use Rattle.drain_grid.specs.declared.product.Product.TheVariants.{Con, Dir}

-- every run ends. At each data cell acc is the number of data cells that drain through it, bas the number of the outlet
-- where its run ends, in row order from 1, and rnk the number of steps of its run; so labels are equal exactly where
-- basins are shared. Each raster has the default no-data number exactly at voids
pub record AreDerived (g : Grid) (ps : Products) (acc bas rnk : Pixels) : Type 0 where
  pub acc_extent : acc.extent ≡ g.extent
  pub bas_extent : bas.extent ≡ g.extent
  pub rnk_extent : rnk.extent ≡ g.extent
  pub acc_nodata : acc.nodata ≡ default_numbers.acc
  pub bas_nodata : bas.nodata ≡ default_numbers.bas
  pub rnk_nodata : rnk.nodata ≡ default_numbers.rnk
  pub ends : AllFlowsEnd g ps
  pub counts : (c : Cell) → HasData g c → number_at acc c ≡ pos (upstream_count g ps c)
  pub numbered : (c : Cell) → HasData g c → number_at bas c ≡ pos (end_number g ps (run_end g ps c))
  pub labels : (a b : Cell) → HasData g a → HasData g b → (number_at bas a ≡ number_at bas b) ↔ ShareBasin g ps a b
  pub steps : (c : Cell) → HasData g c → number_at rnk c ≡ pos (run_steps g ps c)
  pub void_acc : (c : Cell) → IsInside g c → IsNone (g.elevation c) → number_at acc c ≡ acc.nodata
  pub void_bas : (c : Cell) → IsInside g c → IsNone (g.elevation c) → number_at bas c ≡ bas.nodata
  pub void_rnk : (c : Cell) → IsInside g c → IsNone (g.elevation c) → number_at rnk c ≡ rnk.nodata
  pub data_acc : (c : Cell) → HasData g c → number_at acc c ≢ acc.nodata
  pub data_bas : (c : Cell) → HasData g c → number_at bas c ≢ bas.nodata
  pub data_rnk : (c : Cell) → HasData g c → number_at rnk c ≢ rnk.nodata

-- a raster of this size whose numbers pixels of 32 bits without a sign can encode
pub record IsCounts (e : Extent) (r : Pixels) : Type 0 where
  pub extent : r.extent ≡ e
  pub pixels : ArePixels r
  pub spelled : CanSpellAllIn false 32 r

-- each of the three is
pub record AreCounts (e : Extent) (d : Derived) : Type 0 where
  pub acc : IsCounts e d.acc
  pub bas : IsCounts e d.bas
  pub rnk : IsCounts e d.rnk

-- What is answered to tiles and directions that are read row by row.

-- the rasters follow from the directions of this set, to which no refusal applies
abbrev pub AreDerivedIn : GroundSet → Derived → Type 0
AreDerivedIn s d = IsReadable s × AreDerived (set_grid s) (set_products s) d.acc d.bas d.rnk

-- no refusal applies to this set, and these are the flows of its grid
abbrev pub HasFlowsIn : GroundSet → Extent → List Flow → Type 0
HasFlowsIn s e flows = IsReadable s × AreFlowsOf (set_grid s) (set_products s) e flows

-- why nothing follows from flows: the first data cell whose run doesn't end, or no memory
abbrev pub IsFlowsRefusal : Grid → Products → DeriveRefusal → Type 0
IsFlowsRefusal g ps (Refused refusal) = refusal ≡ OutOfMemory
IsFlowsRefusal g ps (NoEnd row col) = IsFirstEndless g ps (record { row = row; col = col })

-- the refusal for one of flows
abbrev pub IsRefusalFor : CertifyRefusal → DeriveRefusal → Type 0
IsRefusalFor (certify.NoEnd c) why = why ≡ NoEnd c.row c.col
IsRefusalFor certify.OutOfMemory why = why ≡ Refused OutOfMemory

-- why nothing follows from this set: the first refusal that applies, else the first data cell whose run doesn't end
abbrev pub IsDeriveRefusalIn : GroundSet → DeriveRefusal → Type 0
IsDeriveRefusalIn s (Refused refusal) = IsRefusalIn s refusal
IsDeriveRefusalIn s (NoEnd row col) = IsReadable s × IsFirstEndless (set_grid s) (set_products s) (record { row = row; col = col })

-- what is said of the reading where nothing is derived: a run without an end is found once all was read
abbrev pub reading_of : DeriveRefusal → Result (Unit {0}) Refusal
reading_of (Refused refusal) = Err refusal
reading_of (NoEnd row col) = Ok tt

-- what the answer says of it
abbrev pub reading_in : {T : Type 0} → Result T DeriveRefusal → Result (Unit {0}) Refusal
reading_in (Ok made) = Ok tt
reading_in (Err why) = reading_of why

-- Rasters that follow from directions, as products: that nothing else is left to be right.

-- these products with the numbers of these rasters
abbrev pub with_derived : Products → Pixels → Pixels → Pixels → Products
with_derived ps acc bas rnk = record { con = ps.con; dir = ps.dir; acc = number_at acc; bas = number_at bas; spl = ps.spl; rnk = number_at rnk }

-- the no-data numbers of acc, bas and rnk are the default ones; those of con and dir may be any
pub record AreDefaultBut (nodata : NoDataNumbers) : Type 0 where
  pub acc : nodata.acc ≡ default_numbers.acc
  pub bas : nodata.bas ≡ default_numbers.bas
  pub rnk : nodata.rnk ≡ default_numbers.rnk

-- the products with these rasters are correct exactly if con and dir are right, and every rule of a check holds of them
-- at every cell exactly then
pub record IsCompleted (g : Grid) (ps : Products) (acc bas rnk : Pixels) (nodata : NoDataNumbers) : Type 0 where
  pub correct : AreRouted g ps nodata ↔ IsCorrect g (with_derived ps acc bas rnk) nodata
  pub rules : AreRouted g ps nodata ↔ RulesHold (check_rules nodata) IsAnyRule g (with_derived ps acc bas rnk)

-- of every grid and products, whatever cells are listed as sinks and however far apart cells are: what is derived never
-- spoils a right con and dir, and never hides a wrong one
abbrev pub DerivedCompletes : Type 0
DerivedCompletes =
    (g : Grid) (ps : Products) (acc bas rnk : Pixels) (nodata : NoDataNumbers) → AreDefaultBut nodata → AreDerived g ps acc bas rnk →
    IsCompleted g ps acc bas rnk nodata

-- what is derived follows from elevations and directions alone: grids may differ in their sinks and their spacing, and
-- products in all other numbers
abbrev pub DerivedByDirections : Type 0
DerivedByDirections =
    (g h : Grid) (ps qs : Products) (acc bas rnk : Pixels) → g.extent ≡ h.extent → g.elevation ≡ h.elevation → ps.dir ≡ qs.dir →
    AreDerived g ps acc bas rnk → AreDerived h qs acc bas rnk

-- Why nothing follows, as the answer of an audit.

-- a refusal of con's raster, which is dir's, names dir
abbrev pub naming_dir : Refusal → Refusal
naming_dir (BadHeader Con fault) = BadHeader Dir fault
naming_dir (WrongShape Con) = WrongShape Dir
naming_dir (Misplaced Con) = Misplaced Dir
naming_dir (RasterShort Con) = RasterShort Dir
naming_dir refusal = refusal

abbrev pub outcome_for : DeriveRefusal → Result Outcome Refusal
outcome_for (Refused refusal) = Err (naming_dir refusal)
outcome_for (NoEnd row col) = Ok (outcome.NoEnd row col)
