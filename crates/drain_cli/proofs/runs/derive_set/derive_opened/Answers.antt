use Rattle.drain_cli.proofs.Names.{◌∙◌, IfOk, subst, sym, Tiles, Dem, ForOpened, ForSet, UsesGround, UsesOpened, TellTiles, tile_ground, tile_devices, TilesTakeAtMost, AreNamesKept}
use Rattle.std.proofs.lemmas.Result.{IfOk-weaker}
use Rattle.std.specs.Vec.{with_items}
use Rattle.std.proofs.lemmas.List.{with_items_is}
use Rattle.drain_cli.specs.DerivedSets.{IsDerivedOn, IsDerivedRun}
use Rattle.drain_cli.proofs.DerivedRuns.{header_fits, with_frame}
use Rattle.drain_hgt.specs.Inputs.{names_of}
use Rattle.drain_maker.specs.ProductFiles.{DerivedFit}
use Rattle.drain_maker.proofs.FileLemmas.{DerivedFit-counts}
use Rattle.drain_verdict.specs.DemGround.{IsDemInput}
use Rattle.drain_verdict.specs.Given.{plain}
use Rattle.drain_verdict.specs.Stages.{IsLayoutOf}
use Rattle.drain_cli.proofs.runs.derive_set.derive_opened.Goals as goal

pub returns-in-Tiles-clause-run : goal.returns-in-Tiles-clause-run
returns-in-Tiles-clause-run g c =
    let src = g.R.ByteSource in
    let files = c.args.files.now in
    let old = c.in-Tiles.field-0 in
    subst (λ e. IsDerivedRun src g.W.ByteSink e (Tiles (record { side = old.side; tiles = with_items old.tiles c.derive_set.new.inputs })) files.sinks.items files.products c.derive_set.new.products c.args.out.now c.derive_set.new.out c.with_header.result) (sym c.in-Tiles.is) (
      c.derive_set.result,
      subst (λ xs. IsDerivedOn (ForOpened src.bytes_left (Tiles old) (plain files.sinks.items)) (UsesGround tile_devices (TilesTakeAtMost src.bytes_left old.side) AreNamesKept src.bytes_left src.counts old.tiles.items xs)
          (IsLayoutOf old.side (names_of old.tiles.items)) g.W.ByteSink files.products c.derive_set.new.products c.args.out.now c.derive_set.new.out c.derive_set.result)
          (sym (with_items_is old.tiles c.derive_set.new.inputs (c.derive_set.auto.inputs ∙ c.as_mut_slice-tiles.ensures.len)))
          (subst (λ sinks. IsDerivedOn (ForOpened src.bytes_left (Tiles old) (plain sinks)) (UsesGround tile_devices (TilesTakeAtMost src.bytes_left old.side) AreNamesKept src.bytes_left src.counts old.tiles.items c.derive_set.new.inputs)
          (IsLayoutOf old.side (names_of old.tiles.items)) g.W.ByteSink files.products c.derive_set.new.products c.args.out.now c.derive_set.new.out c.derive_set.result)
          c.as_slice-sinks.ensures.value
          (subst (λ xs. IsDerivedOn (ForSet tile_ground (TellTiles src.bytes_left old.side xs) src.bytes_left (plain c.as_slice-sinks.result.now)) (UsesGround tile_devices (TilesTakeAtMost src.bytes_left old.side) AreNamesKept src.bytes_left src.counts xs c.derive_set.new.inputs)
          (IsLayoutOf old.side (names_of xs)) g.W.ByteSink files.products c.derive_set.new.products c.args.out.now c.derive_set.new.out c.derive_set.result)
          c.as_mut_slice-tiles.ensures.value
          (with_frame _ _ _ _ g.W.ByteSink files.products c.derive_set.new.products c.args.out.now c.derive_set.new.out c.derive_set.result
          (λ layout known. subst (λ side. IsLayoutOf side (names_of c.as_mut_slice-tiles.result.now) layout) known.1 known.0) c.derive_set.ensures.run))),
      c.with_header.ensures,
    )

pub returns-in-Tiles-clause-written : goal.returns-in-Tiles-clause-written
returns-in-Tiles-clause-written g c =
    subst (λ set. IfOk set (λ made. DerivedFit made.0 made.1)) (sym c.with_header.ensures) (header_fits c.derive_set.result c.derive_set.ensures.counts)

pub returns-in-Dem-clause-run : goal.returns-in-Dem-clause-run
returns-in-Dem-clause-run g c =
    let src = g.R.ByteSource in
    let files = c.args.files.now in
    let dem = c.in-Dem.dem in
    subst (λ e. IsDerivedRun src g.W.ByteSink e (Dem c.derive_set-in-Dem.new.inputs) files.sinks.items files.products c.derive_set-in-Dem.new.products c.args.out.now c.derive_set-in-Dem.new.out c.derive_set-in-Dem.result) (sym c.in-Dem.is)
    (subst (λ sinks. IsDerivedOn (ForOpened src.bytes_left (Dem dem) (plain sinks)) (UsesOpened src (Dem dem) (Dem c.derive_set-in-Dem.new.inputs))
    (λ h. IsDemInput h dem) g.W.ByteSink files.products c.derive_set-in-Dem.new.products c.args.out.now c.derive_set-in-Dem.new.out c.derive_set-in-Dem.result)
    c.as_slice-sinks.ensures.value
    (with_frame _ _ _ _ g.W.ByteSink files.products c.derive_set-in-Dem.new.products c.args.out.now c.derive_set-in-Dem.new.out c.derive_set-in-Dem.result (λ h known. known.0) c.derive_set-in-Dem.ensures.run))

pub returns-in-Dem-clause-written : goal.returns-in-Dem-clause-written
returns-in-Dem-clause-written g c =
    IfOk-weaker c.derive_set-in-Dem.result _ _ (λ made. DerivedFit-counts made.0 made.1) c.derive_set-in-Dem.ensures.counts
