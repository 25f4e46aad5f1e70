use Rattle.drain_maker.proofs.FileLemmas.{numbers-failed}
use Rattle.drain_maker.proofs.product_files.write_numbers.Goals as goal

pub returns-in-Err : goal.returns-in-Err
returns-in-Err g c =
    numbers-failed g.F.ByteSink c.args.to.now c.write_raster.new.to c.args.header.now c.args.raster.now c.in-Err.field-0
    c.requires.written c.in-Err.ensures.out_of_range c.in-Err.ensures.bytes c.in-Err.ensures.faults
