use Rattle.drain_paths.proofs.Names.{◌≡◌, ◌≢◌, ◌<◌, ◌+◌, ◌-◌, ◌∙◌, get_or, set, get_or-set_other, get_or-set_same, below_more, length, ap, arith, byte_flow}
use Rattle.std.proofs.lemmas.List.{length-set}
use Rattle.drain_paths.specs.declared.flow.Flow.TheVariants.{Void}
use Rattle.drain_paths.proofs.accumulation.lay_codes.Goals as goal

pub loop-k-preserved : goal.loop-k-preserved
loop-k-preserved t c =
    let codes = c.loop-k.codes in
    let inv = c.loop-k.invariant in
    let there = c.loop-k.k + 1 in
    let code = c.code.result in
    let inside : there < length codes = omega (arith, inv.len, c.loop-k-test.true) in
    let not_first : 0 ≢ there = omega arith in
    let not_last : length c.args.codes.now - 2 + 1 ≢ there = omega (arith, c.loop-k-test.true) in
    record {
      len = length-set codes there code ∙ inv.len;
      first = get_or-set_other codes there 0 code 0 not_first ∙ inv.first;
      last = get_or-set_other codes there (length c.args.codes.now - 2 + 1) code 0 not_last ∙ inv.last;
      codes =
          below_more (λ k. byte_flow (get_or (set codes there code) (k + 1) 0) ≡ get_or (t.O.Onward.flows c.args.onward.now) (c.args.start + k) Void) c.loop-k.k
          (λ k less. (let other : k + 1 ≢ there = omega (arith, less) in ap byte_flow (get_or-set_other codes there (k + 1) code 0 other) ∙ inv.codes k less))
          (ap byte_flow (get_or-set_same codes there code 0 inside) ∙ c.code.ensures);
    }
