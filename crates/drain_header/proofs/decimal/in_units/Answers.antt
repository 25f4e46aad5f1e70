use Rattle.drain_header.proofs.Names.{◌+◌, ◌-◌, length, drop, arith, sym, ap, ◌∙◌, take_rest, digits_value, ◌==◌, ◌&&◌, cond, parts_of, take_digits, drop_digits, first_digits}
use Rattle.std.proofs.Common.{ℕ, List, refl}
use Rattle.drain_text.proofs.Digits.{last_digits}
use Rattle.drain_header.proofs.Scaling.{scaled}
use Rattle.drain_header.proofs.decimal.in_units.Goals as goal

pub append_digits-value-requires : goal.append_digits-value-requires
append_digits-value-requires c = take_digits _ _ (first_digits _ c.args.numeral.now.fraction.now c.requires.digits.mantissa)

pub append_digits-value-requires-2 : goal.append_digits-value-requires-2
append_digits-value-requires-2 c = take_digits _ _ (last_digits c.args.numeral.now.whole.now _ c.requires.digits.mantissa)

pub are_noughts-requires : goal.are_noughts-requires
are_noughts-requires c = take_digits _ _ (drop_digits _ _ (first_digits _ c.args.numeral.now.fraction.now c.requires.digits.mantissa))

pub are_noughts-is_exact-requires : goal.are_noughts-is_exact-requires
are_noughts-is_exact-requires c = take_digits _ _ (drop_digits _ _ (last_digits c.args.numeral.now.whole.now _ c.requires.digits.mantissa))

pub returns-then-are_noughts : goal.returns-then-are_noughts
returns-then-are_noughts c =
    let n = c.args.numeral.now in
    let kf = c.saturating_sub-kept.result - c.min-kept_whole.result in
    let told = c.append_noughts-value.ensures _ (c.append_digits-value-2.ensures _ (c.append_digits-value.ensures 0 (omega arith))) in
    let fraction = c.are_noughts-is_exact.ensures ∙ ap (λ (ds : List ℕ). digits_value 10 ds == 0) (take_rest n.fraction.now kf) in
    let whole = sym c.if-are_noughts.true ∙ c.are_noughts.ensures ∙ ap (λ (ds : List ℕ). digits_value 10 ds == 0) (take_rest n.whole.now c.min-kept_whole.result) in
    scaled (parts_of n) c.args.places c.scales-up.result.0 c.scales-up.result.1 c.saturating_sub-kept.result c.min-kept_whole.result kf c.append_noughts-value.result c.are_noughts-is_exact.result c.requires.digits.mantissa
    (c.scales-up.ensures.up ∙ ap (λ (p : ℕ). cond n.exponent_negative 0 p + c.args.places) c.power.ensures.value)
    (c.scales-up.ensures.down ∙ ap (λ (p : ℕ). length n.fraction.now + cond n.exponent_negative p 0) c.power.ensures.value)
    (omega arith) c.min-kept_whole.ensures refl
    (rw (← c.saturating_sub.ensures) told)
    (fraction ∙ ap (λ b. b && (digits_value 10 (drop kf n.fraction.now) == 0)) whole)

pub returns-else-are_noughts : goal.returns-else-are_noughts
returns-else-are_noughts c =
    let n = c.args.numeral.now in
    let kf = c.saturating_sub-kept.result - c.min-kept_whole.result in
    let told = c.append_noughts-value.ensures _ (c.append_digits-value-2.ensures _ (c.append_digits-value.ensures 0 (omega arith))) in
    let fraction = c.if-are_noughts.false in
    let whole = sym c.if-are_noughts.false ∙ c.are_noughts.ensures ∙ ap (λ (ds : List ℕ). digits_value 10 ds == 0) (take_rest n.whole.now c.min-kept_whole.result) in
    scaled (parts_of n) c.args.places c.scales-up.result.0 c.scales-up.result.1 c.saturating_sub-kept.result c.min-kept_whole.result kf c.append_noughts-value.result c.are_noughts.result c.requires.digits.mantissa
    (c.scales-up.ensures.up ∙ ap (λ (p : ℕ). cond n.exponent_negative 0 p + c.args.places) c.power.ensures.value)
    (c.scales-up.ensures.down ∙ ap (λ (p : ℕ). length n.fraction.now + cond n.exponent_negative p 0) c.power.ensures.value)
    (omega arith) c.min-kept_whole.ensures refl
    (rw (← c.saturating_sub.ensures) told)
    (fraction ∙ ap (λ b. b && (digits_value 10 (drop kf n.fraction.now) == 0)) whole)
