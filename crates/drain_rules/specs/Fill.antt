-- What the bytes of a fill input mean: a tile, its conditioned elevations, spill parents and ranks, each row after row,
-- most significant byte first. The tile is that of the SRTM HGT documentation; the other parts are this project's own.
use Rattle.std.specs.Prelude.{◌≡◌, ◌+◌, ◌*◌}
use Rattle.drain_rules.specs.Names.{ℕ, ℤ, pos, List, length, drop, Result, Ok, Err, None, IsNone, cast_signed, w16, index_of, Extent, height_from, IsSide, Grid, Products, no_sink, data_count, raised_count, RulesHold, IsFirstFault, IsFillRule, IsPatchRule, IsLeastFault, fill_rules, Profile, Patch, IsBlankPart, unit_spacing, Values, IfJudged, has_rnk, Rules}
use Rattle.byteorder.specs.Endian.{big_number}
use Rattle.drain_grid.specs.declared.fill_verdict.FillVerdict.{FillVerdict}
use Rattle.drain_grid.specs.declared.fill_verdict.FillVerdict.TheVariants.{Accepted, Rejected}
use Rattle.drain_grid.specs.declared.fill_verdict.FillRefusal.{FillRefusal}
use Rattle.drain_grid.specs.declared.fill_verdict.FillCounts.{FillCounts}
use Rattle.drain_grid.specs.declared.fill_verdict.FillRefusal.TheVariants.{BadSide, BadLength}

-- the number of n bytes, among numbers of n bytes that begin at start
abbrev pub fill_number_at : List ℕ → ℕ → ℕ → ℕ → ℕ
fill_number_at bytes start n place = big_number n (drop (start + n * place) bytes)

-- the same of two bytes in two's complement
abbrev pub signed_at : List ℕ → ℕ → ℕ → ℤ
signed_at bytes start place = cast_signed w16 (fill_number_at bytes start 2 place)

abbrev pub square : ℕ → Extent
square side = record { rows = side; cols = side }

-- the numbers of the four parts at a place: the sample, the conditioned elevation, the spill parent's code and the rank
abbrev pub sample_at : List ℕ → ℕ → ℤ
sample_at bytes place = signed_at bytes 0 place

abbrev pub con_at : ℕ → List ℕ → ℕ → ℤ
con_at side bytes place = signed_at bytes (2 * (side * side)) place

abbrev pub spl_at : ℕ → List ℕ → ℕ → ℤ
spl_at side bytes place = pos (fill_number_at bytes (4 * (side * side)) 1 place)

abbrev pub rnk_at : ℕ → List ℕ → ℕ → ℤ
rnk_at side bytes place = pos (fill_number_at bytes (5 * (side * side)) 4 place)

-- the grid of the first part: two bytes for each cell, no sinks, and square cells
abbrev pub fill_grid : ℕ → List ℕ → Grid
fill_grid side bytes = record {
  extent = square side;
  elevation = λ c. height_from (sample_at bytes (index_of (square side) c));
  sink = no_sink;
  spacing = λ row. unit_spacing;
}

-- the products of the other parts, of two, one and four bytes for each cell; those that are not there are 0
abbrev pub fill_products : ℕ → List ℕ → Products
fill_products side bytes = record {
  con = λ c. con_at side bytes (index_of (square side) c);
  dir = λ c. pos 0;
  acc = λ c. pos 0;
  bas = λ c. pos 0;
  spl = λ c. spl_at side bytes (index_of (square side) c);
  rnk = λ c. rnk_at side bytes (index_of (square side) c);
}

-- nine bytes for each cell
abbrev pub IsFillLength : ℕ → List ℕ → Type 0
IsFillLength side bytes = length bytes ≡ 9 * (side * side)

-- What an acceptance says of the whole tile.

-- the fact holds where the input is accepted
abbrev pub OnAccepted : Result FillVerdict FillRefusal → Type 0 → Type 0
OnAccepted (Ok (Accepted counts)) P = P
OnAccepted (Ok (Rejected rule row col)) P = Unit {0}
OnAccepted (Err refusal) P = Unit {0}

-- The verdict on a fill input: the first of rules 4 to 9 that fails, or the counts of an acceptance.

-- the size of the tile, and how many of its cells have data and are raised
abbrev pub fill_counts : Grid → Products → FillCounts
fill_counts g ps = record {
  rows = g.extent.rows;
  cols = g.extent.cols;
  data_cells = data_count g;
  raised = raised_count g ps;
}

-- accepted where rules 4 to 9 hold at every cell, else rejected with the first fault
abbrev pub IsFillVerdict : Grid → Products → FillVerdict → Type 0
IsFillVerdict g ps (Accepted counts) = RulesHold fill_rules IsFillRule g ps × (counts ≡ fill_counts g ps)
IsFillVerdict g ps (Rejected rule row col) = IsFirstFault fill_rules IsFillRule g ps (record { row = row; col = col }) rule

-- the first refusal that applies, else the verdict
abbrev pub IsFillAnswer : ℕ → List ℕ → Result FillVerdict FillRefusal → Type 0
IsFillAnswer side bytes (Err BadSide) = ¬ IsSide side
IsFillAnswer side bytes (Err BadLength) = IsSide side × ¬ IsFillLength side bytes
IsFillAnswer side bytes (Ok verdict) =
    IsSide side × IsFillLength side bytes × IsFillVerdict (fill_grid side bytes) (fill_products side bytes) verdict

-- Voids at which no rule fails. The rules are this project's own.

-- a void at which every rule holds that looks at its patch only
pub record IsRightVoid (profile : Profile) (p : Patch) : Type 0 where
  pub holds : IsLeastFault IsPatchRule (profile p) None
  pub is_void : IsNone p.here.z

-- a void with the no-data numbers of the judged rasters
pub record IsBlankVoid (rules : Rules) (v : Values) : Type 0 where
  pub is_void : IsNone v.z
  pub blank : IsBlankPart rules.judged rules.nodata v
  pub no_rank : IfJudged (has_rnk rules.judged) (v.rnk ≡ rules.nodata.rnk)
