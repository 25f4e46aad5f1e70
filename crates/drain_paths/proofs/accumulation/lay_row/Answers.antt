use Rattle.drain_paths.proofs.InflowLemmas.{laid_row}
use Rattle.drain_paths.proofs.accumulation.lay_row.Goals as goal
use Rattle.std.proofs.Common.{arith}

pub returns-then-down-rows-clause-codes : goal.returns-then-down-rows-clause-codes
returns-then-down-rows-clause-codes t c =
    laid_row c.args.shape (t.O.Onward.flows c.args.onward.now) c.args.down c.row_start.result _ c.lay_codes.new.codes c.if-down-gt0.true (omega arith) c.row_start.ensures.place
    c.requires.codes_len c.lay_codes.ensures.first c.lay_codes.ensures.last c.lay_codes.ensures.codes
