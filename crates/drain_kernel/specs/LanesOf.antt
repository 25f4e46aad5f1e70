-- The numbers of a row, of what holds them.
use Rattle.std.specs.Prelude.{ℕ, map}
use Rattle.drain_kernel.specs.declared.height_lanes.HeightLanes.{HeightLanes}
use Rattle.drain_kernel.specs.declared.product_lanes.ProductLanes.{ProductLanes}
use Rattle.drain_kernel.specs.LaneNumbers.{LaneNumbers}

-- of lanes whose heights have this bias, and these numbers
abbrev pub lanes_of : {H : Type 0} → ℕ → (H → ℕ) → HeightLanes H → ProductLanes → LaneNumbers
lanes_of bias number heights products = record {
  bias = bias;
  z = map number heights.z.items;
  con = map number heights.con.items;
  dir = products.dir.items;
  acc = products.acc.items;
  bas = products.bas.items;
  rnk = products.rnk.items;
}
