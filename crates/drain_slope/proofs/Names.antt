-- The names that this crate's proofs cite, passed on from one place. Declares nothing.
pub use Rattle.drain_grid.proofs.Decisions.{each_below, less_complete, less_sound, same_number}
pub use Rattle.drain_grid.proofs.Distances.{by_fraction, steeper_across, weight_above_0}
pub use Rattle.drain_grid.proofs.Neighbors.{of_each, of_earlier, same_direction}
pub use Rattle.drain_grid.specs.Direction.{Names, directions, order_of}
pub use Rattle.drain_grid.specs.HeightKinds.{height_of, single_height}
pub use Rattle.drain_grid.specs.Slope.{IsFirstSteepest, IsSteepest, key_to, slope_key}
pub use Rattle.drain_grid.specs.Spacing.{Distances, IsSpacing, distance_square, weight_of}
pub use Rattle.drain_grid.specs.Values.{IsPixel, Values}
pub use Rattle.drain_grid.specs.declared.direction.Direction.{Direction}
pub use Rattle.drain_grid.specs.declared.direction.Direction.TheVariants.{East}
pub use Rattle.drain_grid.specs.declared.patch.Patch.{Patch}
pub use Rattle.drain_slope.specs.Key.{IsFirstGreatest, IsLowerCon, IsLowerNumber, drop_at, drop_of, key_at}
pub use Rattle.drain_slope.specs.Terms.{AreBelow, AreFrom, AreWithin, IsWithin, level_of, number_at, rest_of, sum_value, term_value, value_below}
pub use Rattle.drain_slope.specs.declared.terms.Sum.{Sum}
pub use Rattle.drain_slope.specs.declared.terms.Term.{Term}
pub use Rattle.std.proofs.Common.{Bool, FitsSigned, IsTrue, None, Option, Some, ap, arith, below_more, false, get_or, if◌then◌else◌, inl, inr, int_lt, is_some, nat_lt, neg_ℤ, negsuc, not, of_z, pos, refl, subst, suc, sym, to_z, true, unsigned_abs, zero, ℕ, ℤ, ◌&&◌, ◌*ℤ◌, ◌*◌, ◌+ℤ◌, ◌+◌, ◌-ℤ◌, ◌-◌, ◌<ℤ◌, ◌<◌, ◌==◌, ◌^◌, ◌↔◌, ◌∙◌, ◌≡◌, ◌≤ℤ◌, ◌≤◌, ◌⊎◌}
pub use Rattle.std.proofs.Math.IntN.{*ℤ-negsuc, *ℤ-zero, *ℤ_comm, +ℤ_idr, suc_ℤ-*ℤ, zero-*ℤ}
pub use Rattle.std.proofs.Math.Nat.{lt_of_mul-lt-mul_right, mul-lt-mul_of_pos_right, two-pow-succ}
pub use Rattle.std.proofs.lemmas.Bool.{cases_lt, cases_order, false≢true}
pub use Rattle.std.proofs.lemmas.Int.{by_lt_z, ints, to_z-of_z}
pub use Rattle.std.proofs.lemmas.Nat.{mul-le, mul-lt, pow-add, pow_pos}
pub use Rattle.std.specs.Int.{w128, w64}
