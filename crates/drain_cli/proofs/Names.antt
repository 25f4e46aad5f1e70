-- The names that this crate's proofs cite, passed on from one place. Declares nothing.
pub use Rattle.drain_answer.proofs.PrintLemmas.{Prints-same, PrintsText-same, refused_above_1, status_stood}
pub use Rattle.drain_answer.specs.Outcomes.{IsAcceptedOutcome}
pub use Rattle.drain_answer.specs.Printing.{Prints, status_after}
pub use Rattle.drain_answer.specs.Statuses.{status_code}
pub use Rattle.drain_answer.specs.declared.outcome.Status.TheVariants.{Failed}
pub use Rattle.drain_answer.specs.declared.outcome.Status.{Status}
pub use Rattle.drain_answer.specs.declared.refusal.Refusal.{Refusal}
pub use Rattle.drain_cli.specs.ExplainRuns.{AreFound, AreFoundOf, IsExplainedAt, IsExplainedOn}
pub use Rattle.drain_cli.specs.JudgedRuns.{IsJudgement, IsOutcomeOf, IsOutcomeOn, answer_status, outcome_status}
pub use Rattle.drain_cli.specs.MadeSets.{IsNoSpacing, written_status}
pub use Rattle.drain_cli.specs.MergeRuns.{IsMergeOutcome, MakeUnion, UnionIsCorrect, UnionIsNotCorrect, merge_status}
pub use Rattle.drain_cli.specs.OpenedInputs.{ForOpened, UsesGround, UsesOpened, given_in}
pub use Rattle.drain_cli.specs.RoundTrip.{AreWrittenAndGiven, ReadIsJudged, WhatIsWrittenIsAccepted, WhatIsWrittenOnDemIsAccepted}
pub use Rattle.drain_cli.specs.RunMeanings.{AcceptedMeans, AcceptedOf, RejectedMeans, RejectedOf}
pub use Rattle.drain_cli.specs.WindowRuns.{IsReadable, verdict_status}
pub use Rattle.drain_cli.specs.declared.answer.Answer.TheVariants.{Audit, Check}
pub use Rattle.drain_device.proofs.FaultLists.{SomeReadFails-iff}
pub use Rattle.drain_device.specs.Failing.{Sink}
pub use Rattle.drain_device.specs.declared.read.BodyFault.TheVariants.{ReadFailed}
pub use Rattle.drain_explain.specs.Explanations.{AreFindingsIn, IsEndlessIn, answer_in, findings_in}
pub use Rattle.drain_files.specs.declared.open_judged.OpenElevations.TheVariants.{Dem, Tiles}
pub use Rattle.drain_grid.specs.Extent.{Extent}
pub use Rattle.drain_grid.specs.SinkTexts.{IsSinkFault, sinks_of}
pub use Rattle.drain_grid.specs.Spacing.{spacing_of}
pub use Rattle.drain_grid.specs.WholeGrid.{products_of, raster_in}
pub use Rattle.drain_grid.specs.declared.height_kind.HeightKind.TheVariants.{Whole}
pub use Rattle.drain_grid.specs.declared.height_kind.HeightKind.{HeightKind}
pub use Rattle.drain_grid.specs.declared.judged.Judged.TheVariants.{AllWithRanks}
pub use Rattle.drain_grid.specs.declared.judged.Judged.{Judged}
pub use Rattle.drain_grid.specs.declared.verdict.Verdict.{Verdict}
pub use Rattle.drain_header.specs.Header.{Fields}
pub use Rattle.drain_header.specs.Text.{IsTextOf, IsTextOfKind}
pub use Rattle.drain_header.specs.declared.fault.HeaderFault.{HeaderFault}
pub use Rattle.drain_hgt.specs.Inputs.{TilesTakeAtMost, tile_devices}
pub use Rattle.drain_maker.specs.Accepted.{AreFilesOf, AreGivenSpacings, MadeIsAccepted, MadeOnDemIsAccepted}
pub use Rattle.drain_maker.specs.Made.{AreMade, made_numbers}
pub use Rattle.drain_merge.specs.UnionVerdicts.{IsUnionVerdict, IsVerdictInside, merge_line}
pub use Rattle.drain_report.specs.Contents.{Contents, ContentsFit, contents_of, report_text}
pub use Rattle.drain_sets.specs.FileWrites.{WritesFile, WritesFiles}
pub use Rattle.drain_union.specs.declared.report.WindowReport.{WindowReport}
pub use Rattle.drain_union.specs.declared.verdict.UnionVerdict.TheVariants.{Accepted, Rejected}
pub use Rattle.drain_union.specs.declared.verdict.UnionVerdict.{UnionVerdict}
pub use Rattle.drain_verdict.specs.Answers.{AreCorrect, ForAudit, IfAccepts, IsAcceptance, IsAnswerIn}
pub use Rattle.drain_verdict.specs.Ground.{Ground}
pub use Rattle.drain_verdict.specs.GroundSets.{ForSet, GroundSet}
pub use Rattle.drain_verdict.specs.Headline.{ForCheck, IsRight, ProductsAreRight}
pub use Rattle.drain_verdict.specs.Inputs.{Encode, Inputs, as_five}
pub use Rattle.drain_verdict.specs.Meaning.{texts_of}
pub use Rattle.drain_verdict.specs.Outcomes.{AreRightIn, IsOutcomeIn}
pub use Rattle.drain_verdict.specs.Reading.{told_by}
pub use Rattle.drain_verdict.specs.TileGround.{TellTiles, tile_ground}
pub use Rattle.drain_verdict.specs.Uses.{AreNamesKept}
pub use Rattle.std.proofs.Common.{IfErr, IfOk, IfSome, IsSome, List, [], ap, arith, false, inl, inr, length, map, refl, rules, slice_index_or, subst, suc, sym, take, true, ℕ, ℤ, ◌++◌, ◌<◌, ◌∙◌, ◌∷◌, ◌≡◌}
pub use Rattle.std.proofs.lemmas.List.{append-nil, length-take, length-take-le, take-append-drop, take_all}
pub use Rattle.std.specs.Io.KnownBytes.{Appends, Consumes, IsAtEnd}
pub use Rattle.std.specs.Prelude.{IsErrOf, Option, nat_le}
