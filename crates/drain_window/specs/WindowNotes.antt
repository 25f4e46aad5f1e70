-- What was noted of the rows of a mosaic, for the window at a place of it.
use Rattle.std.specs.Prelude.{◌≡◌}
use Rattle.drain_window.specs.Names.{Cell, Place}
use Rattle.drain_window.specs.JudgedAreas.{judged_area}
use Rattle.drain_window.specs.declared.listed_outlets.ListedOutlets.{ListedOutlets}
use Rattle.drain_window.specs.declared.seam_walk.SeamWalk.{SeamWalk}

-- the notes are of the window at this place of a grid that begins at this cell of the union
pub record AreOfWindow (p : Place) (origin : Cell) (listed : ListedOutlets) (seams : SeamWalk) : Type 0 where
  pub area : listed.area ≡ judged_area p
  pub list_origin : listed.origin ≡ origin
  pub place : seams.place ≡ p
  pub seam_origin : seams.origin ≡ origin
