-- The names that this crate's proofs cite, passed on from one place. Declares nothing.
pub use Rattle.drain_floats.specs.Words.{AreAboveSpace, IsFloatWord, float_nodata}
pub use Rattle.drain_grid.specs.Values.{IsNoData}
pub use Rattle.drain_grid.specs.declared.height_kind.HeightKind.{HeightKind}
pub use Rattle.drain_grid.specs.declared.height_kind.HeightKind.TheVariants.{Single, Whole}
pub use Rattle.drain_header.specs.Decimals.{Decimal, IsOfDigits, IsScaled, are_decimal, coordinate_of, decimal_from, decimal_nodata, decimal_of, in_units, is_small, is_whole, parts_of, unsigned_part, with_sign}
pub use Rattle.drain_header.specs.Faults.{Answers, AnswersOf, Describes, DescribesOf, HasBadPixelType, HasBadValue, HasFaultOf, HasKey, IsAbsent, IsRepeated, IsRequired, fault_order, is_unseen, lacking, line_at}
pub use Rattle.drain_header.specs.Finished.{AreTaken, IsNoDataOf, IsSize, finished, header_in, is_other_type_in, is_pixel_size, is_pixel_size_of, needs_type, number_or, packed_row_in, row_bytes_in, signed_in}
pub use Rattle.drain_header.specs.Header.{AreWithinBounds, Fields, IsCoordinate, IsPixelSize, IsPixelSizeOf, fields_of, header_of, packed_row, row_bytes_of, said, signed_of, value_read}
pub use Rattle.drain_header.specs.Lines.{is_some_key, key_name, key_order, keys, kind_said, line_key, line_value, named_key, nodata_of, ordering_of, reads, says_float, sign_of, signedness_of, size_of, takes, takes_some, value_at}
pub use Rattle.drain_header.specs.Reading.{Seen, follow, nothing, with_key, with_lines, with_value}
pub use Rattle.drain_header.specs.Said.{coordinate_in, ordering_in, said_by, said_nodata, said_number, sign_in}
pub use Rattle.drain_header.specs.Text.{IsFloatLine, IsTextOf, IsTextOfKind, nodata_line, ordering_text, signedness_text, text_of, type_text}
pub use Rattle.drain_header.specs.declared.fault.HeaderFault.{HeaderFault}
pub use Rattle.drain_header.specs.declared.fault.HeaderFault.TheVariants.{BadBits, BadPixelType, BadValue, MissingKey, NotOneBand, RepeatedKey, RowTooShort, TooLong}
pub use Rattle.drain_header.specs.declared.header.ByteOrdering.{ByteOrdering}
pub use Rattle.drain_header.specs.declared.header.ByteOrdering.TheVariants.{Least, Most}
pub use Rattle.drain_header.specs.declared.header.Place.{Place}
pub use Rattle.drain_header.specs.declared.key.Key.{Key}
pub use Rattle.drain_header.specs.declared.key.Key.TheVariants.{BandRowBytes, ByteOrder, Layout, Nbands, Nbits, Ncols, Nrows, PixelType, SkipBytes, TotalRowBytes, Ulxmap, Ulymap, Xdim, Ydim}
pub use Rattle.drain_header.specs.declared.value.Value.{Value}
pub use Rattle.drain_header.specs.declared.value.Value.TheVariants.{Coordinate, Number, Ordering, Signed}
pub use Rattle.drain_text.proofs.Digits.{after-append, after_more, append_digits, counted_digits, drop_digits, first_digits, take_digits, value-append, within}
pub use Rattle.drain_text.proofs.Joining.{AllInk, IsWord, ink-append, ink_told, line_first, spaced, two_words}
pub use Rattle.drain_text.proofs.LastDigits.{last_digits_are, led_digits, length-last_digits, value-last_digits}
pub use Rattle.drain_text.proofs.Printed.{chosen, decimal_short, decimal_word, digits_ink, two, whole_read}
pub use Rattle.drain_text.specs.First.{IsFirst}
pub use Rattle.drain_text.specs.Text.{lines_of, whole_number, words_of}
pub use Rattle.std.proofs.Common.{Bool, ap, arith, drop, false, get_or, inl, inr, length, map, min, rules, subst, suc, sym, take, true, true≢false, zero, ◌%◌, ◌*◌, ◌+◌, ◌-◌, ◌/◌, ◌<◌, ◌^◌, ◌∙◌, ◌∷◌, ◌≤◌}
pub use Rattle.std.proofs.Math.Bridge.{le_prop}
pub use Rattle.std.proofs.Math.Logic.{∥∥₁_elim}
pub use Rattle.std.proofs.Math.Nat.{div-add-mod, mul-le-mul_right, mul-lt-mul_of_pos_right, one-le-pow, pow-le-pow_right, sub-zero}
pub use Rattle.std.proofs.lemmas.Bool.{eqb-false, eqb-true, le-leb, le-ltb, leb-true, lt-leb, lt-ltb, ltb-false, ltb-true, ne_eqb}
pub use Rattle.std.proofs.lemmas.Float.Parse.{scan_numeral-text_of}
pub use Rattle.std.proofs.lemmas.Fmt.{decimal_is_IsNumeral}
pub use Rattle.std.proofs.lemmas.Int.{ints, to_z-of_z}
pub use Rattle.std.proofs.lemmas.Int.Digits.{digits_value-lt, digits_value_more}
pub use Rattle.std.proofs.lemmas.List.{at_drop_more, drop_min, get_or-map, get_or-replicate, get_or-set_other, get_or-set_same, get_or_default, length-drop, length-map, length-set, same_lists, take-append-drop, take_all, take_min, take_rest}
pub use Rattle.std.proofs.lemmas.Nat.{div-mul-add, div_below, mod-mul-add, pow-add}
pub use Rattle.std.proofs.lemmas.Str.{digit_value_digit}
pub use Rattle.std.proofs.lemmas.Str.Parse.{digit_at, digit_from_value, digits_value-take-le}
pub use Rattle.std.specs.Char.{to_ascii_uppercase}
pub use Rattle.std.specs.Float.Numeral.{Parts, digits_end, dot, exponent_start, has_exponent, minus, numeral_digits, tens_down, tens_up}
pub use Rattle.std.specs.Fmt.{sign_text, signed_decimal}
pub use Rattle.std.specs.Int.{is_negative, w128, w64}
pub use Rattle.std.specs.Option.{option_or}
pub use Rattle.std.specs.Prelude.{Err, IfSome, IsFalse, None, Ok, Option, Result, Some, bytes_eq, codes, cond, decimal, find, if◌then◌else◌, is_none, is_some, nat_eq, nat_le, nat_lt, neg_ℤ, negsuc, not, option_and_then, option_map, pos, replicate, slice_get, slice_index, slice_range, slice_set, unsigned_abs, unwrap_or, ◌&&◌, ◌==◌, ◌||◌, ◌≤ℤ◌, ◌⊎◌}
pub use Rattle.std.specs.Str.Parse.{AllDigits, IsNumeral, digits_value, digits_value_after}
