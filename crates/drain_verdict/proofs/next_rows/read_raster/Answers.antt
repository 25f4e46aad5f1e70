use Rattle.drain_verdict.proofs.Names.{◌≡◌, ap, arith, length, rules, Stopped}
use Rattle.drain_verdict.proofs.RasterSteps.{took, found_short, narrow, was_short}
use Rattle.drain_verdict.proofs.next_rows.read_raster.Goals as goal

pub returns-in-Ok-clause-rows : goal.returns-in-Ok-clause-rows
returns-in-Ok-clause-rows g c = λ start n before.
    took c.args.raster.now c.next_pixels.new.self _ _ _ _ start n c.in-Ok.ensures.rows c.in-Ok.ensures.after c.in-Ok.ensures.empty before

pub returns-in-Err-WrongLength-clause-rows : goal.returns-in-Err-WrongLength-clause-rows
returns-in-Err-WrongLength-clause-rows g c = λ start n before.
    let now = c.in-Err-WrongLength.ensures in
    found_short c.args.raster.now c.next_pixels.new.self _ _ _ _ start n c.in-Err-WrongLength.field-0-is now.rows now.after now.empty before

pub returns-in-Err-AlreadyFailed-clause-rows : goal.returns-in-Err-AlreadyFailed-clause-rows
returns-in-Err-AlreadyFailed-clause-rows g c = λ start n before.
    let now = c.in-Err-AlreadyFailed.ensures in
    let stopped : c.args.raster.now.progress ≡ Stopped = search rules in
    was_short c.args.raster.now c.next_pixels.new.self _ _ _ start n stopped now.after (ap g.R.ByteSource.bytes_left (now.reads_nothing (λ going. cc))) now.empty before

pub returns-in-Ok-clause-narrow : goal.returns-in-Ok-clause-narrow
returns-in-Ok-clause-narrow g c = narrow _ c.args.raster.now.header.cols _ _ (omega arith) c.in-Ok.ensures.long c.in-Ok.ensures.empty

pub returns-in-Err-WrongLength-clause-narrow : goal.returns-in-Err-WrongLength-clause-narrow
returns-in-Err-WrongLength-clause-narrow g c = let none = ap length c.in-Err-WrongLength.ensures.empty in omega (arith, none)

pub returns-in-Err-AlreadyFailed-clause-narrow : goal.returns-in-Err-AlreadyFailed-clause-narrow
returns-in-Err-AlreadyFailed-clause-narrow g c = let none = ap length c.in-Err-AlreadyFailed.ensures.empty in omega (arith, none)
