-- The names that this crate's proofs cite, passed on from one place. Declares nothing.
pub use Rattle.byteorder.specs.Endian.{IsReadBy, big_number, twos_complement}
pub use Rattle.drain_device.specs.RowSteps.{EndComes, Gives, ReadsWithin, RowComes, coming_at, ends_wrong, most_at, nth_row}
pub use Rattle.drain_grid.proofs.Tallies.{grown, lent_back, written_over}
pub use Rattle.drain_grid.specs.Grid.{IsSample}
pub use Rattle.drain_hgt.specs.Corner.{Corner, IsOnMap, IsWithin}
pub use Rattle.drain_hgt.specs.Laws.{NamesGiveCorners, OneName, TileRowsAreSamples, TileRowsTellLengths}
pub use Rattle.drain_hgt.specs.Name.{HasForm, IsAt, IsNameOf, IsSameText, MeansName, spelled}
pub use Rattle.drain_hgt.specs.Samples.{samples_of}
pub use Rattle.drain_hgt.specs.TileRows.{tile_rows}
pub use Rattle.drain_hgt.specs.declared.name.NameFault.TheVariants.{BadForm, BadRange}
pub use Rattle.std.proofs.Common.{Bool, IsTrue, List, MatchOption, None, Option, Some, [], ap, arith, below_more, cond, drop, false, get_or, get_or-set_other, get_or-set_same, inl, inr, length, length-append, negsuc, pos, refl, set, subst, suc, sym, take, take-append-drop, true, w16, w64, zero, ℕ, ℤ, ◌%◌, ◌*◌, ◌++◌, ◌+◌, ◌-◌, ◌/◌, ◌<◌, ◌↔◌, ◌∙◌, ◌∷◌, ◌≡◌, ◌≢◌, ◌≤◌}
pub use Rattle.std.proofs.lemmas.Bool.{cases_Bool, cases_lt, false≢true, le-ltb, leb-true, lt-ltb}
pub use Rattle.std.proofs.lemmas.Bool.Decides.{nat_tests}
pub use Rattle.std.proofs.lemmas.Int.{ints, to_z-of_z}
pub use Rattle.std.proofs.lemmas.List.{drop_at, get_or-append-add, get_or-map, get_or_append_left, length-drop, length-map, length-take-le, take_at, take_rest}
pub use Rattle.std.specs.Char.{eq_ignore_ascii_case, to_ascii_lowercase}
pub use Rattle.std.specs.Int.{cast_signed, is_negative}
pub use Rattle.std.specs.Prelude.{codes, nat_abs, neg_ℤ, slice_index, slice_index_or}
