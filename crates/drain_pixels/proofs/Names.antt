-- The names that this crate's proofs cite, passed on from one place. Declares nothing.
pub use Rattle.drain_grid.specs.Values.{IsPixel}
pub use Rattle.drain_pixels.specs.Ground.{elevations, height_with, is_void, single_voids, whole_voids}
pub use Rattle.drain_pixels.specs.Lanes.{AllFit, AllFitAt, AreCapped, AreGroundLanes, AreLower, AreUpper, HoldFitting}
pub use Rattle.drain_pixels.specs.Stored.{f32_number, f32_numbers, i16_number, i16_numbers, i32_number, i32_numbers, numbers_as, numbers_of, u16_number, u16_numbers, u32_number, u32_numbers, u8_number, u8_numbers}
pub use Rattle.std.proofs.Common.{All, Bool, IfSome, IsTrue, List, None, Option, Some, [], arith, drop, false, get_or, if◌then◌else◌, inl, inr, length, map, pos, subst, sym, true, ℕ, ℤ, ◌*◌, ◌+◌, ◌/◌, ◌<◌, ◌≡◌, ◌≤◌}
pub use Rattle.std.proofs.lemmas.List.Elements.{All-from_get_or, All-map}
pub use Rattle.std.specs.Prelude.{slice_index, slice_index_or}
