use Rattle.std.proofs.Common.{◌≡◌, ℕ, ◌+◌, ◌<◌, ◌%◌, ◌∷◌, List, length, arith, ap, ◌∙◌}
use Rattle.std.specs.Prelude.{◌++◌, decimal}
use Rattle.std.proofs.lemmas.Result.{on_ok_weaker}
use Rattle.drain_header.specs.Text.{fraction_text}
use Rattle.drain_header.proofs.WorkedDecimals.{fraction_led, behind_first}
use Rattle.drain_header.proofs.text.push_fraction.Goals as goal

small : (rest : ℕ) → rest < 1000000000000000 → rest ≡ rest % 1000000000000000
small rest few = omega (arith, few)

led_by : (bytes : List ℕ) (rest n : ℕ) → bytes ≡ decimal (1000000000000000 + rest) → rest ≡ n % 1000000000000000 → bytes ≡ 49 ∷ fraction_text n
led_by bytes rest n is same = is ∙ (ap (λ (r : ℕ). decimal (1000000000000000 + r)) same ∙ fraction_led n)

pub slice_bounds-push-count : goal.slice_bounds-push-count
slice_bounds-push-count c =
    let led : c.as_bytes.result.now ≡ 49 ∷ fraction_text c.args.rest = led_by c.as_bytes.result.now c.args.rest c.args.rest (c.as_bytes.ensures.value ∙ c.format-led.ensures.text) (small c.args.rest c.requires) in
    omega (arith, ap length led)

pub slice_bounds-push-start : goal.slice_bounds-push-start
slice_bounds-push-start c =
    let led : c.as_bytes.result.now ≡ 49 ∷ fraction_text c.args.rest = led_by c.as_bytes.result.now c.args.rest c.args.rest (c.as_bytes.ensures.value ∙ c.format-led.ensures.text) (small c.args.rest c.requires) in
    omega (arith, ap length led)

pub returns : goal.returns
returns c = on_ok_weaker c.push.result (λ is magnitude same.
    (let led = led_by c.as_bytes.result.now c.args.rest magnitude (c.as_bytes.ensures.value ∙ c.format-led.ensures.text) same in
    is ∙ ap (λ end. c.args.text.now.items ++ end) (behind_first c.as_bytes.result.now 49 (fraction_text magnitude) led))) c.push.ensures
