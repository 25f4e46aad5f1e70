-- The numbers of a cell as lanes hold them, and what three rows of lanes show, made of such cells.
use Rattle.drain_kernel.proofs.Names.{◌≡◌, ℕ, ℤ, pos, Bool, List, Option, Some, slice_index, ◌∙◌, ap, Direction, Patch, neighbor, Distances, Values, LaneNumbers, lowered, HasDataAt, Shows, IsShown, row_beside, col_beside}
use Rattle.drain_kernel.specs.Shown.{height_of}

-- what lanes say of a cell, and what they needn't say; and how far apart the cells of its row are
pub record Numbers : Type 0 where
  pub bias : ℕ
  pub z : ℕ
  pub con : ℕ
  pub dir : ℕ
  pub acc : ℕ
  pub bas : ℕ
  pub sink : Bool
  pub spl : ℤ
  pub rnk : ℤ
  pub spacing : Distances

abbrev pub values_of : Numbers → Values
values_of n = record { z = height_of n.bias n.z; sink = n.sink; con = lowered n.bias n.con; dir = pos n.dir; acc = pos n.acc; bas = pos n.bas; spl = n.spl; rnk = n.rnk }

abbrev pub patch_of : Numbers → List (Option Values) → Patch
patch_of here around = record { here = values_of here; around = around; spacing = here.spacing }

-- the numbers of a cell whose values a row shows
abbrev pub numbers_in : Distances → LaneNumbers → ℕ → Values → Numbers
numbers_in spacing row k v = record {
  bias = row.bias;
  z = slice_index row.z k;
  con = slice_index row.con k;
  dir = slice_index row.dir k;
  acc = slice_index row.acc k;
  bas = slice_index row.bas k;
  sink = v.sink;
  spl = v.spl;
  rnk = v.rnk;
  spacing = spacing;
}

pub values_are : (spacing : Distances) (row : LaneNumbers) (k : ℕ) (v : Values) → Shows row k v → HasDataAt row k → v ≡ values_of (numbers_in spacing row k v)
values_are spacing row k v s there = λ i. record {
  z = s.z_is i;
  sink = v.sink;
  con = s.con_is there i;
  dir = s.dir_is there i;
  acc = s.acc_is there i;
  bas = s.bas_is there i;
  spl = v.spl;
  rnk = v.rnk;
}

-- and those of its neighbours
abbrev pub numbers_beside : (above here below : LaneNumbers) (k : ℕ) (p : Patch) → IsShown above here below k p → Direction → Numbers
numbers_beside above here below k p shown d =
    numbers_in p.spacing (row_beside above here below d) (col_beside k d) (shown.around_is d).0

-- none of the nine columns is a void
pub record HaveDataAt (above here below : LaneNumbers) (k : ℕ) : Type 0 where
  pub here_has : HasDataAt here k
  pub beside_has : (d : Direction) → HasDataAt (row_beside above here below d) (col_beside k d)

-- so the patch is made of their numbers
pub patch_is : (above here below : LaneNumbers) (k : ℕ) (p : Patch) → IsShown above here below k p → HasDataAt here k →
    p ≡ patch_of (numbers_in p.spacing here k p.here) p.around
patch_is above here below k p shown there = λ i. record { here = values_are p.spacing here k p.here shown.cell there i; around = p.around; spacing = p.spacing }

pub neighbor_is : (above here below : LaneNumbers) (k : ℕ) (p : Patch) (shown : IsShown above here below k p) (d : Direction) →
    HasDataAt (row_beside above here below d) (col_beside k d) → neighbor p d ≡ Some (values_of (numbers_beside above here below k p shown d))
neighbor_is above here below k p shown d there =
    let v = (shown.around_is d).0 in
    let at = (shown.around_is d).1 in
    at.is ∙ ap Some (values_are p.spacing (row_beside above here below d) (col_beside k d) v at.shown there)
