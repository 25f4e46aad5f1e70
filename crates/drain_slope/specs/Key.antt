-- The drop and the key of the way in each direction, and the first of the greatest keys.
use Rattle.std.specs.Prelude.{◌≡◌, ◌<◌, ◌-ℤ◌, ◌≤ℤ◌, ◌<ℤ◌, ◌&&◌, if◌then◌else◌}
use Rattle.drain_slope.specs.Names.{ℤ, pos, int_lt, is_some, Option, Some, None, IsPixel, Values, neighbor, order_of, height_of, slope_key, weight_of}
use Rattle.drain_grid.specs.declared.direction.Direction.{Direction}
use Rattle.drain_grid.specs.declared.patch.Patch.{Patch}

-- the drop to these values, of floats in units of 2^-149; 0 where they are not those of a lower data cell
abbrev pub drop_of : Patch → Option Values → ℤ
drop_of p None = pos 0
drop_of p (Some n) = if is_some n.z && int_lt n.con p.here.con then height_of p.spacing.kind p.here.con -ℤ height_of p.spacing.kind n.con else pos 0

-- the drop in this direction, 0 where no neighbour there is lower
abbrev pub drop_at : Patch → Direction → ℤ
drop_at p d = drop_of p (neighbor p d)

-- the key of the way in this direction, 0 where no neighbour there is lower
abbrev pub key_at : Patch → Direction → ℤ
key_at p d = slope_key (weight_of p.spacing d) (drop_at p d)

-- no direction has a greater key, and no earlier one as great a key
pub record IsFirstGreatest (p : Patch) (d : Direction) : Type 0 where
  pub greatest : (e : Direction) → key_at p e ≤ℤ key_at p d
  pub first : (e : Direction) → order_of e < order_of d → key_at p e <ℤ key_at p d

-- the number of these values, if they are those of a lower data cell
abbrev pub con_below : Patch → Values → Option ℤ
con_below p n = if is_some n.z && int_lt n.con p.here.con then Some n.con else None

-- the number of a lower neighbour in this direction, none if there isn't one
pub record IsLowerNumber (p : Patch) (d : Direction) (con : ℤ) : Type 0 where
  pub drop : drop_at p d ≡ height_of p.spacing.kind p.here.con -ℤ height_of p.spacing.kind con
  pub below : con <ℤ p.here.con
  pub pixel : IsPixel con

abbrev pub IsLowerCon : Patch → Direction → Option ℤ → Type 0
IsLowerCon p d None = drop_at p d ≡ pos 0
IsLowerCon p d (Some con) = IsLowerNumber p d con
