-- The values at a cell of a seam, as an audit has them. That dir takes the place of the ranks is this project's own.
use Rattle.std.specs.Prelude.{◌≡◌}
use Rattle.drain_union.specs.Names.{ℤ, pos, Bool, Option, Values}

-- with no spill code, and dir in place of the rank
abbrev pub seam_values : Option ℤ → Bool → ℤ → ℤ → ℤ → ℤ → Values
seam_values z sink con dir acc bas = record { z = z; sink = sink; con = con; dir = dir; acc = acc; bas = bas; spl = pos 0; rnk = dir }

-- there is no spill code, and dir takes the place of the rank
pub record AreOfSeam (v : Values) : Type 0 where
  pub spl : v.spl ≡ pos 0
  pub rnk : v.rnk ≡ v.dir
