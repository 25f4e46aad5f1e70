use Rattle.drain_paths.proofs.Names.{◌≡◌, ◌≢◌, ◌<◌, ◌∙◌, length, get_or, set, get_or-set_other, get_or-set_same, below_more, sym, arith, ext_get_or, get_or-map, length-map, byte_flow, bytes_flows}
use Rattle.std.proofs.lemmas.List.{length-set}
use Rattle.drain_paths.specs.declared.flow.Flow.TheVariants.{Void}
use Rattle.drain_paths.proofs.flow.flows_of_codes.Goals as goal

pub loop-place-preserved : goal.loop-place-preserved
loop-place-preserved c =
    let place = c.loop-place.place in
    let flows = c.loop-place.flows.items in
    let codes = c.args.codes.now in
    let within : place < length codes = c.loop-place-test.true in
    let flow = c.flow.result in
    record {
      counted = length-set flows place flow ∙ c.loop-place.invariant.counted;
      so_far =
          below_more (λ i. get_or (set flows place flow) i Void ≡ byte_flow (get_or codes i 0)) place
          (λ i less. (let other : i ≢ place = omega arith in get_or-set_other flows place i flow Void other ∙ c.loop-place.invariant.so_far i less))
          (get_or-set_same flows place flow Void (omega (arith, within, c.loop-place.invariant.counted)) ∙ c.flow.ensures);
    }

pub returns : goal.returns
returns c =
    let flows = c.loop-place.flows.items in
    let codes = c.args.codes.now in
    let counted = c.loop-place.invariant.counted in
    ext_get_or Void flows (bytes_flows codes) (counted ∙ sym (length-map codes byte_flow))
    (λ i less.
    (let within : i < length codes = omega (arith, less, counted) in
    c.loop-place.invariant.so_far i (omega (arith, within, c.loop-place-test.false)) ∙ sym (get_or-map byte_flow codes i 0 Void within)))
