use Rattle.std.proofs.Common.{◌≡◌, ℕ, ◌+◌, ◌-◌, ◌*◌, ◌/◌, ◌%◌, ◌<◌, ◌≤◌, arith, sym, ◌≢◌}
use Rattle.std.proofs.Math.Nat.{mul-le-mul_right, mod-lt}
use Rattle.std.proofs.lemmas.Nat.{div-add-mod'}
use Rattle.drain_files.proofs.Fractions.{ends_whole, below_high, inner_ordered, goes_on, at_most_low}
use Rattle.drain_files.proofs.simplest.+simplest.Goals as goal

-- the lower width is the whole part and the rest
parts : (n m : ℕ) → n ≡ n / m * m + n % m
parts n m = sym (div-add-mod' n m)

some_rest : (n : ℕ) → n ≢ 0 → 0 < n
some_rest n other = omega (arith, other)

pub returns-then-rest-eq0 : goal.returns-then-rest-eq0
returns-then-rest-eq0 t c =
    ends_whole c.args.low c.args.high _ c.requires (omega (arith, parts c.args.low.width c.args.low.height, c.if-rest-eq0.true))

-- pub returns-then-whole-high : goal.returns-then-whole-high

-- src/simplest.rt:37:34
pub overflow_mul-whole : goal.overflow_mul-whole
overflow_mul-whole t c =
    let rest = some_rest _ c.if-rest-eq0.false in
    let less = below_high c.args.low c.args.high _ _ c.requires rest (parts c.args.low.width c.args.low.height) in
    omega (arith, less, c.well_formed)

-- src/simplest.rt:37:21
pub overflow_sub-high : goal.overflow_sub-high
overflow_sub-high t c =
    let rest = some_rest _ c.if-rest-eq0.false in
    let less = below_high c.args.low c.args.high _ _ c.requires rest (parts c.args.low.width c.args.low.height) in
    omega (arith, less)

-- src/simplest.rt:34:9
pub simplest-inner-requires : goal.simplest-inner-requires
simplest-inner-requires t c =
    let rest = some_rest _ c.if-rest-eq0.false in
    let less = below_high c.args.low c.args.high _ _ c.requires rest (parts c.args.low.width c.args.low.height) in
    let most : c.args.high.width / c.args.high.height * c.args.high.height ≤ c.args.low.width / c.args.low.height * c.args.high.height =
    mul-le-mul_right c.args.high.height c.if-whole-high.false in
    let upper : c.args.high.width % c.args.high.height < c.args.high.height = mod-lt c.args.high.width c.requires.some_high in
    let lower : c.args.low.width % c.args.low.height < c.args.low.height = mod-lt c.args.low.width c.requires.some_low in
    let smaller : (c.args.high.width - c.args.low.width / c.args.low.height * c.args.high.height) + c.args.low.width % c.args.low.height < c.args.low.height + c.args.high.height =
    omega (arith, most, upper, lower, parts c.args.high.width c.args.high.height) in (
      omega (arith, smaller, c.decreases),
      record {
        some_low = omega (arith, less);
        some_high = rest;
        ordered = inner_ordered c.args.low c.args.high _ _ c.requires rest (parts c.args.low.width c.args.low.height);
      },
    )

-- src/simplest.rt:45:16
pub overflow_mul-result : goal.overflow_mul-result
overflow_mul-result t c =
    let rest = some_rest _ c.if-rest-eq0.false in
    let simplest = goes_on c.args.low c.args.high c.simplest-inner.result _ _ c.requires rest (parts c.args.low.width c.args.low.height) c.simplest-inner.ensures in
    let most = at_most_low c.args.low c.args.high _ c.requires simplest in
    omega (arith, most.0, c.well_formed)

-- src/simplest.rt:45:16
pub overflow_add-result-2 : goal.overflow_add-result-2
overflow_add-result-2 t c =
    let rest = some_rest _ c.if-rest-eq0.false in
    let simplest = goes_on c.args.low c.args.high c.simplest-inner.result _ _ c.requires rest (parts c.args.low.width c.args.low.height) c.simplest-inner.ensures in
    let most = at_most_low c.args.low c.args.high _ c.requires simplest in
    omega (arith, most.0, c.well_formed)

-- src/simplest.rt:15:1
pub returns : goal.returns
returns t c =
    let rest = some_rest _ c.if-rest-eq0.false in
    goes_on c.args.low c.args.high c.simplest-inner.result _ _ c.requires rest (parts c.args.low.width c.args.low.height) c.simplest-inner.ensures
