use Rattle.drain_header.proofs.Names.{arith, rules, ap, ◌∙◌, to_z-of_z, w64, Some, ◌&&◌, parts_of, decimal_from, is_small, is_whole}
use Rattle.drain_header.proofs.Units.{small_units, great_units, whole_units, nodata_is, no_nodata, and_false}
use Rattle.drain_header.proofs.decimal.nodata.Goals as goal

pub returns-then-not-is_exact : goal.returns-then-not-is_exact
returns-then-not-is_exact c =
    let n = c.in_ok-negative in
    let d = decimal_from n.negative (parts_of n.numeral) in
    let whole = whole_units n.negative (parts_of n.numeral) _ _ c.in_units-units.ensures ∙ c.if-not-is_exact.true in
    no_nodata c.args.word.now d n.ensures.value (ap (λ b. is_small d && b) whole ∙ and_false (is_small d))

pub returns-then-not-is_within : goal.returns-then-not-is_within
returns-then-not-is_within c =
    let n = c.in_ok-negative in
    let d = decimal_from n.negative (parts_of n.numeral) in
    let great = great_units n.negative (parts_of n.numeral) 0 _ 10000000000 _ c.in_units-units.ensures (omega arith) (omega arith) c.if-not-is_within.ensures in
    no_nodata c.args.word.now d n.ensures.value (ap (λ b. b && is_whole d) great)

pub returns : goal.returns
returns c =
    let n = c.in_ok-negative in
    let d = decimal_from n.negative (parts_of n.numeral) in
    let whole = whole_units n.negative (parts_of n.numeral) _ _ c.in_units-units.ensures ∙ c.if-not-is_exact.false in
    let small = small_units n.negative (parts_of n.numeral) 0 _ 10000000000 _ c.in_units-units.ensures (omega arith) (omega arith) c.if-not-is_within.ensures in
    ap (λ z. Some z) (to_z-of_z w64 c.small_signed.result (search rules) ∙ c.small_signed.ensures) ∙ nodata_is c.args.word.now d _ n.ensures.value small.0 whole small.1
