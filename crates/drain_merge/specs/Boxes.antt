-- Places that lie in a box. These definitions are this project's own.
use Rattle.std.specs.Prelude.{◌≡◌, ◌+◌, ◌≤◌, ◌⊎◌}
use Rattle.drain_merge.specs.Names.{IsTrue, Place}

-- the place's rows lie in the box, and its sides in the north and the south are inner, or the box's and not inner there
pub record RowsLieIn (box p : Place) : Type 0 where
  pub from : box.top ≤ p.top
  pub to : p.top + p.extent.rows ≤ box.top + box.extent.rows
  pub north : IsTrue p.inner.north ⊎ ((p.top ≡ box.top) × ¬ IsTrue box.inner.north)
  pub south : IsTrue p.inner.south ⊎ ((p.top + p.extent.rows ≡ box.top + box.extent.rows) × ¬ IsTrue box.inner.south)

-- the same of columns, and of the sides in the west and the east
pub record ColsLieIn (box p : Place) : Type 0 where
  pub from : box.left ≤ p.left
  pub to : p.left + p.extent.cols ≤ box.left + box.extent.cols
  pub west : IsTrue p.inner.west ⊎ ((p.left ≡ box.left) × ¬ IsTrue box.inner.west)
  pub east : IsTrue p.inner.east ⊎ ((p.left + p.extent.cols ≡ box.left + box.extent.cols) × ¬ IsTrue box.inner.east)
