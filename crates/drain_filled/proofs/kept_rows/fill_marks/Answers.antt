use Rattle.drain_filled.proofs.Names.{◌≡◌, ◌<◌, ◌∙◌, ℕ, ℤ, List, Option, None, length, map, get_or, ap, sym, rules, arith, ext_get_or, get_or-map, length-map, mark_of}
use Rattle.drain_filled.proofs.FirstCon.{one_more}
use Rattle.drain_filled.proofs.kept_rows.fill_marks.Goals as goal

all_marks : (z : List (Option ℤ)) (out : List ℕ) → length out ≡ length z →
    ((i : ℕ) → i < length z → get_or out i 0 ≡ mark_of (get_or z i None)) → out ≡ map mark_of z
all_marks z out long each =
    let count = length-map z mark_of in
    ext_get_or 0 out (map mark_of z) (long ∙ sym count)
    (λ k less.
    (let within : k < length z = omega (arith, less, long) in
    each k within ∙ sym (get_or-map mark_of z k None 0 within)))

pub loop-k-preserved : goal.loop-k-preserved
loop-k-preserved c =
    one_more 0 (λ i. mark_of (get_or c.args.z.now i None)) c.loop-k.out c.loop-k.k _ (search rules)
    (c.mark_of.ensures ∙ ap mark_of c.z.ensures) c.loop-k.invariant

pub returns : goal.returns
returns c = all_marks c.args.z.now c.loop-k.out (search rules) (λ i less. c.loop-k.invariant i (search rules))
