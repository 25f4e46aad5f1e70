use Rattle.std.proofs.Common.{[]}
use Rattle.drain_maker.proofs.FileLemmas.{FitHeaders-derived, IsDerived-at, derived_bytes-listed}
use Rattle.drain_maker.proofs.product_files.write_derived.Goals as goal

pub write_listed-requires-clause-held : goal.write_listed-requires-clause-held
write_listed-requires-clause-held g c = IsDerived-at

pub write_listed-requires-clause-written : goal.write_listed-requires-clause-written
write_listed-requires-clause-written g c = FitHeaders-derived c.args.elevations.now c.args.derived.now c.requires.written

pub returns : goal.returns
returns g c = rw (derived_bytes-listed [] c.args.elevations.now c.args.derived.now) c.write_listed.ensures
