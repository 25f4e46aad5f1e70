use Rattle.drain_header.proofs.Names.{arith, rules, ap, ◌∙◌, to_z-of_z, w128, Some, parts_of, decimal_from}
use Rattle.drain_header.proofs.Units.{small_units, great_units, coordinate_is, no_coordinate}
use Rattle.drain_header.proofs.decimal.coordinate.Goals as goal

pub returns-then-not-is_within : goal.returns-then-not-is_within
returns-then-not-is_within c =
    let n = c.in_ok-negative in
    let great = great_units n.negative (parts_of n.numeral) 15 _ 10000000000000000000000000 _ c.in_units-units.ensures (omega arith) (omega arith) c.if-not-is_within.ensures in
    no_coordinate c.args.word.now (decimal_from n.negative (parts_of n.numeral)) n.ensures.value great

pub returns : goal.returns
returns c =
    let n = c.in_ok-negative in
    let small = small_units n.negative (parts_of n.numeral) 15 _ 10000000000000000000000000 _ c.in_units-units.ensures (omega arith) (omega arith) c.if-not-is_within.ensures in
    ap (λ z. Some z) (to_z-of_z w128 c.signed.result (search rules) ∙ c.signed.ensures) ∙ coordinate_is c.args.word.now (decimal_from n.negative (parts_of n.numeral)) _ n.ensures.value small.0 small.1
