use Rattle.drain_cli.proofs.Names.{◌≡◌, ◌∙◌, subst, sym, ForOpened, ForSet, given_in, Tiles, Dem, TellTiles, tile_ground, tile_devices, TilesTakeAtMost, AreNamesKept, UsesGround, UsesOpened}
use Rattle.std.specs.Vec.{with_items}
use Rattle.std.proofs.lemmas.List.{with_items_is}
use Rattle.drain_cli.specs.WindowRuns.{IsWindowRun, IsWindowRunOn}
use Rattle.drain_hgt.specs.Inputs.{names_of}
use Rattle.drain_union.specs.Windows.{IsOrigin}
use Rattle.drain_verdict.specs.Given.{Given}
use Rattle.drain_window.specs.WindowAnswers.{IsOfDem, IsOfTiles}
use Rattle.drain_cli.proofs.runs.run_window.judge_opened.Goals as goal

pub returns-in-Tiles : goal.returns-in-Tiles
returns-in-Tiles g c =
    let src = g.R.ByteSource in
    let files = c.args.files.now in
    let sinks = c.as_slice.ensures.value in
    let given = c.given_of-given.ensures in
    let same : c.given_of-given.result ≡ given_in files = cc in
    let old = c.in-Tiles.field-0 in
    let ran = c.judge_or_print in
    record {
      run = subst (λ e. IsWindowRun src g.W.ByteSink c.args.place.now c.args.at e (Tiles (record { side = old.side; tiles = with_items old.tiles ran.new.inputs })) (given_in files) files.products ran.new.products c.args.out.now ran.new.out ran.result) (sym c.in-Tiles.is)
          (subst (λ xs. IsWindowRunOn (ForOpened src.bytes_left (Tiles old) (given_in files)) (UsesGround tile_devices (TilesTakeAtMost src.bytes_left old.side) AreNamesKept src.bytes_left src.counts old.tiles.items xs)
          (Unit {0}) (IsOfTiles old.side (names_of old.tiles.items)) g.W.ByteSink c.args.place.now files.products ran.new.products c.args.out.now ran.new.out ran.result)
          (sym (with_items_is old.tiles ran.new.inputs (ran.auto.inputs ∙ c.as_mut_slice.ensures.len)))
          (subst (λ (given : Given). IsWindowRunOn (ForOpened src.bytes_left (Tiles old) given) (UsesGround tile_devices (TilesTakeAtMost src.bytes_left old.side) AreNamesKept src.bytes_left src.counts old.tiles.items ran.new.inputs)
          (Unit {0}) (IsOfTiles old.side (names_of old.tiles.items)) g.W.ByteSink c.args.place.now files.products ran.new.products c.args.out.now ran.new.out ran.result) same
          (subst (λ xs. IsWindowRunOn (ForSet tile_ground (TellTiles src.bytes_left old.side xs) src.bytes_left c.given_of-given.result) (UsesGround tile_devices (TilesTakeAtMost src.bytes_left old.side) AreNamesKept src.bytes_left src.counts xs ran.new.inputs)
          (Unit {0}) (IsOfTiles old.side (names_of xs)) g.W.ByteSink c.args.place.now files.products ran.new.products c.args.out.now ran.new.out ran.result) c.as_mut_slice.ensures.value
          ran.ensures.run)));
    }

pub returns-in-Dem : goal.returns-in-Dem
returns-in-Dem g c =
    let src = g.R.ByteSource in
    let files = c.args.files.now in
    let sinks = c.as_slice.ensures.value in
    let given = c.given_of-given.ensures in
    let same : c.given_of-given.result ≡ given_in files = cc in
    let dem = c.in-Dem.dem in
    let ran = c.judge_or_print-in-Dem in
    record {
      run = subst (λ e. IsWindowRun src g.W.ByteSink c.args.place.now c.args.at e (Dem ran.new.inputs) (given_in files) files.products ran.new.products c.args.out.now ran.new.out ran.result) (sym c.in-Dem.is)
          (subst (λ (given : Given). IsWindowRunOn (ForOpened src.bytes_left (Dem dem) given) (UsesOpened src (Dem dem) (Dem ran.new.inputs))
          (IsOrigin c.args.at) (IsOfDem c.args.at dem) g.W.ByteSink c.args.place.now files.products ran.new.products c.args.out.now ran.new.out ran.result) same
          ran.ensures.run);
    }
