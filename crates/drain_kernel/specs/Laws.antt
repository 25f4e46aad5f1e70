-- What lanes of a row's numbers show, and what their count of raised columns is.
use Rattle.std.specs.Prelude.{◌≡◌, ◌-◌, ◌<◌}
use Rattle.drain_kernel.specs.Names.{ℕ, ℤ, pos, Bool, List, Option, None, length, slice_index_or, IsSome, unwrap_or, int_lt, count_by, range_with_len, PerProduct, Values}
use Rattle.drain_kernel.specs.LaneNumbers.{LaneNumbers}
use Rattle.drain_kernel.specs.Columns.{Along, raised_lanes, AreLanesOf}
use Rattle.drain_kernel.specs.Shown.{Shows}

-- the values of a row's numbers at a column, of a cell that may be a listed sink; of spill parents 0
abbrev pub values_from : List (Option ℤ) → PerProduct (List ℤ) → ℕ → Bool → Values
values_from z products k sink = record {
  z = slice_index_or z k None;
  sink = sink;
  con = slice_index_or products.con k (pos 0);
  dir = slice_index_or products.dir k (pos 0);
  acc = slice_index_or products.acc k (pos 0);
  bas = slice_index_or products.bas k (pos 0);
  spl = pos 0;
  rnk = slice_index_or products.rnk k (pos 0);
}

-- lanes show what the numbers say of which they were made
abbrev pub LanesShowNumbers : Type 0
LanesShowNumbers =
    (lanes : LaneNumbers) (z : List (Option ℤ)) (products : PerProduct (List ℤ)) → AreLanesOf lanes z products → (k : ℕ) → k < length z → (sink : Bool) →
    Shows lanes k (values_from z products k sink)

-- con is above the ground
abbrev pub is_above_ground : Values → Bool
is_above_ground v = int_lt (unwrap_or v.z (pos 0)) v.con

-- where lanes show data along some columns, those are counted that have con above the ground
abbrev pub RaisedAreCounted : Type 0
RaisedAreCounted =
    (lanes : LaneNumbers) (from end : ℕ) (shown : ℕ → Values) → Along from end (λ k. Shows lanes k (shown k)) → Along from end (λ k. IsSome (shown k).z) →
    raised_lanes lanes from end ≡ count_by (λ k. is_above_ground (shown k)) (range_with_len from (end - from))
