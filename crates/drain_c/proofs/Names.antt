-- The names that this crate's proofs cite, passed on from one place. Declares nothing.
pub use Rattle.drain_answer.specs.Outcomes.{IsAcceptedOutcome}
pub use Rattle.drain_answer.specs.declared.outcome.Outcome.{Outcome}
pub use Rattle.drain_answer.specs.declared.refusal.Refusal.{Refusal}
pub use Rattle.drain_answer.specs.declared.refusal.Refusal.TheVariants.{BadDemHeader, BadHeader, BadPixelSize, BadSide, BadSinkLine, BadSpacingLine, BadTileLength, DemShort, Misplaced, OutOfMemory, RasterShort, ReadFailed, SinkNotData, SpacingRows, WrongShape}
pub use Rattle.drain_c.specs.Calls.{AreOfCall, OfCall, call_of, judged_raster, raster_or_missing}
pub use Rattle.drain_c.specs.Explained.{AreFoundIn, Explains, IsMap, ReportsMapped, ShowsExplained, ShowsExplanation, explained_of, fits, has_map_length, mapped_found, mapped_line, outcome_in}
pub use Rattle.drain_c.specs.Found.{outcome_found, refusal_found, status_only}
pub use Rattle.drain_c.specs.Given.{AreOfElevations, CallInputs, DemInputs, IsElevationTold, RasterTexts, as_passed, dem_set, of_dem, of_tiles, set_in}
pub use Rattle.drain_c.specs.Shown.{Reports, ShowsAnswer, ShowsBadMap, ShowsBadRaster, ShowsOutcome}
pub use Rattle.drain_c.specs.Sources.{AreJudgedOf, AreRastersOf, AreTilesOf, IsJudgedOf, IsRasterOf, IsTileOf}
pub use Rattle.drain_c.specs.Whole.{is_tile_whole}
pub use Rattle.drain_c.specs.declared.answer.Answer.{Answer}
pub use Rattle.drain_c.specs.declared.call.Call.{Call}
pub use Rattle.drain_c.specs.declared.call.Elevations.{Elevations}
pub use Rattle.drain_c.specs.declared.given.CheckBytes.{CheckBytes}
pub use Rattle.drain_device.specs.contracts.slice_source.SliceSourceByteSource.TheImpl.{bytes_left-value}
pub use Rattle.drain_explain.specs.Explanations.{AreFindingsIn, answer_in}
pub use Rattle.drain_grid.specs.Extent.{Extent, IsCellOf, cells, row_cells}
pub use Rattle.drain_grid.specs.Grid.{Grid, Pixels}
pub use Rattle.drain_grid.specs.Judged.{has_acc, has_bas, has_dir, has_rnk}
pub use Rattle.drain_grid.specs.PerProduct.{of_product}
pub use Rattle.drain_grid.specs.declared.judged.Judged.{Judged}
pub use Rattle.drain_grid.specs.declared.judged.Judged.TheVariants.{AllWithRanks}
pub use Rattle.drain_grid.specs.declared.set_product.SetProduct.{SetProduct}
pub use Rattle.drain_header.specs.Faults.{AnswersOf, HasFaultOf, fault_order}
pub use Rattle.drain_header.specs.Header.{Fields, fields_of}
pub use Rattle.drain_header.specs.Lines.{kind_of}
pub use Rattle.drain_header.specs.declared.fault.HeaderFault.{HeaderFault}
pub use Rattle.drain_header.specs.declared.fault.HeaderFault.TheVariants.{TooLong}
pub use Rattle.drain_hgt.specs.Corner.{Corner}
pub use Rattle.drain_text.specs.First.{IsBefore, IsFirst}
pub use Rattle.drain_verdict.proofs.DemAnswers.{header_answer}
pub use Rattle.drain_verdict.specs.Answers.{IsAnswerIn}
pub use Rattle.drain_verdict.specs.DemGround.{DemTexts, EncodesDem, dem_ground}
pub use Rattle.drain_verdict.specs.GroundSets.{EncodeTexts, GroundSet, IsReadable, IsRefusalIn, StandsIn, order_in, rules_in, set_grid, set_numbers, set_products}
pub use Rattle.drain_verdict.specs.Headline.{ForCheck, ProductsAreRight}
pub use Rattle.drain_verdict.specs.Inputs.{AreNames, Encode, Inputs, as_five}
pub use Rattle.drain_verdict.specs.Outcomes.{AreRightIn, IsOutcomeIn}
pub use Rattle.drain_verdict.specs.Texts.{SetTexts, kind_in}
pub use Rattle.drain_verdict.specs.TileGround.{HasBadLength, TilesRefuse, set_of, tile_ground, tile_place}
pub use Rattle.std.proofs.Common.{Bool, IfErr, IfOk, IfSome, IsFalse, IsSome, IsTrue, List, None, Option, [], ap, arith, false, get_or, if◌then◌else◌, inl, inr, length, map, pos, refl, rules, subst, suc, sym, take, tests, true, zero, ℕ, ℤ, ◌%◌, ◌*◌, ◌++◌, ◌+◌, ◌/◌, ◌<◌, ◌==◌, ◌↔◌, ◌∙◌, ◌∷◌, ◌≡◌, ◌≢◌, ◌≤◌}
pub use Rattle.std.proofs.lemmas.List.{drop-replicate, length-take-le, take_all, take_more}
pub use Rattle.std.proofs.lemmas.Result.{IfErr-weaker, IfOk-weaker, err_from_is_err_and}
pub use Rattle.std.specs.Prelude.{nat_le, slice_get, ◌⊎◌}
