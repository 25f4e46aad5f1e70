-- The tests of a column where con alone is judged.
use Rattle.std.specs.Prelude.{◌≡◌, ◌≢◌}
use Rattle.drain_kernel.specs.Names.{ℕ, Bool, true, false, IsTrue, slice_index, Rules, has_dir, NoDataNumbers}
use Rattle.drain_kernel.specs.Columns.{IsInlandAt, PassesAt, keeps_surface_at}
use Rattle.drain_kernel.specs.Falls.{FallsAt}
use Rattle.drain_kernel.specs.LaneNumbers.{LaneNumbers, ThreeLanes}
use Rattle.drain_kernel.specs.Shown.{HasDataAt, lowered}

-- con isn't its no-data number, and the direction, which isn't judged, isn't 0: the cell counts as no outlet
pub record HasConAt (nodata : NoDataNumbers) (h : LaneNumbers) (k : ℕ) : Type 0 where
  pub con_differs : lowered h.bias (slice_index h.con k) ≢ nodata.con
  pub code_differs : slice_index h.dir k ≢ 0

-- the cell and its neighbours have data, and the rules of the conditioned elevation hold
pub record SurfacePassesAt (nodata : NoDataNumbers) (rows : ThreeLanes) (k : ℕ) : Type 0 where
  pub inland : IsInlandAt rows k
  pub surface : IsTrue (keeps_surface_at rows k)
  pub has_con : HasConAt nodata rows.here k

-- the cell has data and is not raised
pub record LiesAt (nodata : NoDataNumbers) (rows : ThreeLanes) (k : ℕ) : Type 0 where
  pub has_data : HasDataAt rows.here k
  pub level : slice_index rows.here.con k ≡ slice_index rows.here.z k
  pub has_con : HasConAt nodata rows.here k

-- The tests by which cells are cleared: these if directions aren't judged.

-- of a stretch
abbrev pub PassesWith : Bool → Rules → ThreeLanes → ℕ → Type 0
PassesWith true rules = PassesAt rules
PassesWith false rules = SurfacePassesAt rules.nodata

-- of a cell whatever lies beside it
abbrev pub FallsWith : Bool → Rules → ThreeLanes → ℕ → Type 0
FallsWith true rules = FallsAt rules
FallsWith false rules = LiesAt rules.nodata

-- of a stretch, for judged rasters
abbrev pub IsClearedAt : Rules → ThreeLanes → ℕ → Type 0
IsClearedAt rules = PassesWith (has_dir rules.judged) rules

-- of a cell whatever lies beside it, for judged rasters
abbrev pub IsClearedAlone : Rules → ThreeLanes → ℕ → Type 0
IsClearedAlone rules = FallsWith (has_dir rules.judged) rules
