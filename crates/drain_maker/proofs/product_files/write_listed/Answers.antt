use Rattle.drain_maker.proofs.Names.{◌<◌, [], length, map, Ok, Err, arith, length-map, err_from_is_err_and, file_bytes}
use Rattle.drain_maker.proofs.FileLemmas.{so_far-none, so_far-more, so_far-stop, so_far-all, WritesFile-listed}
use Rattle.drain_maker.proofs.product_files.write_listed.Goals as goal

pub loop-k-init : goal.loop-k-init
loop-k-init g c = so_far-none g.F.ByteSink c.args.files.now (map (file_bytes c.args.con.now c.args.elevations.now (g.S.FileSet.rasters c.args.set.now)) c.args.list.now)

pub write_file-requires-clause-held : goal.write_file-requires-clause-held
write_file-requires-clause-held g c = c.requires.held c.loop-k.k _ (omega (arith, c.requires.counted, c.loop-k.auto.files, c.loop-k.auto.k-end, c.loop-k-test.true))

pub returns-in_err-write_file : goal.returns-in_err-write_file
returns-in_err-write_file g c =
    let told = err_from_is_err_and c.from_residual.result c.from_residual.ensures.1 in
    let less : c.loop-k.k < length c.args.list.now = omega (arith, c.requires.counted, c.loop-k.auto.files, c.loop-k.auto.k-end, c.loop-k-test.true) in
    let bytes_of = file_bytes c.args.con.now c.args.elevations.now (g.S.FileSet.rasters c.args.set.now) in
    let fault = c.in_err-write_file.field-0.0 in
    rw (told.1, told.2) (so_far-stop g.F.ByteSink c.args.files.now c.loop-k.files (map bytes_of c.args.list.now) c.loop-k.k c.index-files-k.result c.write_file.new.to [] fault
    c.loop-k.invariant (omega (arith, c.loop-k.auto.files, c.loop-k.auto.k-end, c.loop-k-test.true)) (omega (arith, length-map c.args.list.now bytes_of, less))
    (WritesFile-listed g.F.ByteSink _ c.write_file.new.to bytes_of c.args.list.now c.loop-k.k _ (Err fault) less c.in_err-write_file.ensures))

pub loop-k-preserved : goal.loop-k-preserved
loop-k-preserved g c =
    let less : c.loop-k.k < length c.args.list.now = omega (arith, c.requires.counted, c.loop-k.auto.files, c.loop-k.auto.k-end, c.loop-k-test.true) in
    let bytes_of = file_bytes c.args.con.now c.args.elevations.now (g.S.FileSet.rasters c.args.set.now) in
    so_far-more g.F.ByteSink c.args.files.now c.loop-k.files (map bytes_of c.args.list.now) c.loop-k.k c.index-files-k.result c.write_file.new.to []
    c.loop-k.invariant (omega (arith, c.loop-k.auto.files, c.loop-k.auto.k-end, c.loop-k-test.true)) (omega (arith, length-map c.args.list.now bytes_of, less))
    (WritesFile-listed g.F.ByteSink _ c.write_file.new.to bytes_of c.args.list.now c.loop-k.k _ (Ok tt) less c.in_ok-write_file.ensures)

pub returns : goal.returns
returns g c =
    let bytes_of = file_bytes c.args.con.now c.args.elevations.now (g.S.FileSet.rasters c.args.set.now) in
    so_far-all g.F.ByteSink c.args.files.now c.loop-k.files (map bytes_of c.args.list.now) c.loop-k.k c.loop-k.invariant
    (omega (arith, c.loop-k.auto.files, c.loop-k.auto.k-end, c.loop-k-test.false))
    (omega (arith, length-map c.args.list.now bytes_of, c.requires.counted, c.loop-k.auto.files, c.loop-k.auto.k-end, c.loop-k-test.false))
