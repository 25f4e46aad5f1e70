use Rattle.drain_cli.proofs.Names.{◌≡◌, ◌∙◌, subst, sym, Fields, ForOpened, ForSet, UsesGround, UsesOpened, given_in, Tiles, Dem, TellTiles, tile_ground, tile_devices, TilesTakeAtMost, AreNamesKept, IsExplainedAt, IsExplainedOn}
use Rattle.std.specs.Vec.{with_items}
use Rattle.std.proofs.lemmas.List.{with_items_is}
use Rattle.drain_cli.specs.ExplainRuns.{place_on_tiles}
use Rattle.drain_verdict.specs.Given.{Given}
use Rattle.drain_cli.proofs.runs.explain_opened.run_explain_on.Goals as goal

pub returns-in-Tiles : goal.returns-in-Tiles
returns-in-Tiles g c =
    let src = g.R.ByteSource in
    let sinks = c.as_slice.ensures.value in
    let given = c.given_of-given.ensures in
    let same : c.given_of-given.result ≡ given_in c.args.files.now = cc in
    let old = c.in-Tiles.field-0 in
    let ran = c.run_explain in
    record {
      run = subst (λ e. IsExplainedOn src e (Tiles (record { side = old.side; tiles = with_items old.tiles ran.new.inputs })) (given_in c.args.files.now) c.args.files.now.products ran.new.products c.args.mapping g.B.ExplainOutput.has_saved ran.new.beside g.W.ByteSink c.args.out.now ran.new.out c.args.form ran.result) (sym c.in-Tiles.is)
          (subst (λ xs. IsExplainedAt place_on_tiles (ForOpened src.bytes_left (Tiles old) (given_in c.args.files.now)) (UsesGround tile_devices (TilesTakeAtMost src.bytes_left old.side) AreNamesKept src.bytes_left src.counts old.tiles.items xs) (given_in c.args.files.now) c.args.files.now.products ran.new.products c.args.mapping g.B.ExplainOutput.has_saved ran.new.beside g.W.ByteSink c.args.out.now ran.new.out c.args.form ran.result)
          (sym (with_items_is old.tiles ran.new.inputs (ran.auto.inputs ∙ c.as_mut_slice.ensures.len)))
          (subst (λ (given : Given). IsExplainedAt place_on_tiles (ForOpened src.bytes_left (Tiles old) given) (UsesGround tile_devices (TilesTakeAtMost src.bytes_left old.side) AreNamesKept src.bytes_left src.counts old.tiles.items ran.new.inputs) given c.args.files.now.products ran.new.products c.args.mapping g.B.ExplainOutput.has_saved ran.new.beside g.W.ByteSink c.args.out.now ran.new.out c.args.form ran.result) same
          (subst (λ xs. IsExplainedAt place_on_tiles (ForSet tile_ground (TellTiles src.bytes_left old.side xs) src.bytes_left c.given_of-given.result) (UsesGround tile_devices (TilesTakeAtMost src.bytes_left old.side) AreNamesKept src.bytes_left src.counts xs ran.new.inputs) c.given_of-given.result c.args.files.now.products ran.new.products c.args.mapping g.B.ExplainOutput.has_saved ran.new.beside g.W.ByteSink c.args.out.now ran.new.out c.args.form ran.result) c.as_mut_slice.ensures.value
          ran.ensures.run)));
    }

pub returns-in-Dem : goal.returns-in-Dem
returns-in-Dem g c =
    let src = g.R.ByteSource in
    let sinks = c.as_slice.ensures.value in
    let given = c.given_of-given.ensures in
    let same : c.given_of-given.result ≡ given_in c.args.files.now = cc in
    let ran = c.run_explain-in-Dem in
    record {
      run = subst (λ e. IsExplainedOn src e (Dem ran.new.inputs) (given_in c.args.files.now) c.args.files.now.products ran.new.products c.args.mapping g.B.ExplainOutput.has_saved ran.new.beside g.W.ByteSink c.args.out.now ran.new.out c.args.form ran.result) (sym c.in-Dem.is)
          (subst (λ (given : Given). IsExplainedAt {F = Fields} (λ h. h) (ForOpened src.bytes_left (Dem c.in-Dem.dem) given) (UsesOpened src (Dem c.in-Dem.dem) (Dem ran.new.inputs)) given c.args.files.now.products ran.new.products c.args.mapping g.B.ExplainOutput.has_saved ran.new.beside g.W.ByteSink c.args.out.now ran.new.out c.args.form ran.result) same
          ran.ensures.run);
    }
