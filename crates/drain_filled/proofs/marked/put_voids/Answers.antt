use Rattle.drain_filled.proofs.Names.{◌≡◌, ◌∙◌, ◌+◌, ◌<◌, ◌≤◌, ℕ, ℤ, pos, List, inl, inr, length, set, get_or, sym, subst, arith, rules, SFits, cases_order, to_z-of_z, get_or_default, length-set, within, IsVoided}
use mir.Syntax.{w64}
use mir.Val.{to_z, of_z}
use Rattle.std.proofs.lemmas.List.{get_or-set_other, get_or-set_same}
use Rattle.drain_filled.proofs.marked.put_voids.Goals as goal

-- one place more
each_more : (marks : List ℕ) (old con : List ℤ) (void x height : ℤ) (place : ℕ) → place < length con → height ≡ get_or con place (pos 0) →
    ((k : ℕ) → k < place → IsVoided void (get_or marks k 0) (get_or old k (pos 0)) (get_or con k (pos 0))) →
    ((k : ℕ) → place ≤ k → get_or con k (pos 0) ≡ get_or old k (pos 0)) → IsVoided void (get_or marks place 0) height x →
    (k : ℕ) → k < place + 1 → IsVoided void (get_or marks k 0) (get_or old k (pos 0)) (get_or (set con place x) k (pos 0))
each_more marks old con void x height place inside height_is each rest now k less =
    elim (cases_order k place) [
      | inl same ↦
          subst (λ j. IsVoided void (get_or marks j 0) (get_or old j (pos 0)) (get_or (set con place x) j (pos 0))) (sym same)
          (subst (λ z. IsVoided void (get_or marks place 0) (get_or old place (pos 0)) z) (sym (get_or-set_same con place x (pos 0) inside))
          (subst (λ z. IsVoided void (get_or marks place 0) z x) (height_is ∙ rest place (omega arith)) now))
      | inr (inl before) ↦
          subst (λ z. IsVoided void (get_or marks k 0) (get_or old k (pos 0)) z) (sym (get_or-set_other con place k x (pos 0) (λ same. apart k place before same)))
          (each k before)
      | inr (inr after) ↦ absurd (omega (arith, less, after))
    ]
  where
    apart : (a b : ℕ) → a < b → a ≡ b → ⊥
    apart a b before same = absurd (omega (arith, before, same))

rest_more : (old con : List ℤ) (x : ℤ) (place : ℕ) → ((k : ℕ) → place ≤ k → get_or con k (pos 0) ≡ get_or old k (pos 0)) →
    (k : ℕ) → place + 1 ≤ k → get_or (set con place x) k (pos 0) ≡ get_or old k (pos 0)
rest_more old con x place rest k later = get_or-set_other con place k x (pos 0) (λ same. apart k later same) ∙ rest k (omega (arith, later))
  where
    apart : (k : ℕ) → place + 1 ≤ k → k ≡ place → ⊥
    apart k later same = absurd (omega (arith, later, same))

pub loop-place-preserved : goal.loop-place-preserved
loop-place-preserved c =
    let con = c.loop-place.con.items in
    let x = to_z w64 (of_z w64 c.voided.result) in
    let fits : SFits w64 c.voided.result = search rules in
    let height_fits : SFits w64 c.index.result.now = search rules in
    let inside : c.loop-place.place < length con = search rules in
    let height : c.index.result.now ≡ get_or con c.loop-place.place (pos 0) =
    c.index.ensures ∙ get_or_default con c.loop-place.place c.index.result.now (pos 0) inside in
    let marks = c.marks-marks.ensures.marks in
    let now : IsVoided (to_z w64 (of_z w64 c.args.void)) (get_or c.args.ground.now.marks c.loop-place.place 0) (to_z w64 (of_z w64 c.index.result.now)) x =
    subst (λ xs. IsVoided (to_z w64 (of_z w64 c.args.void)) (get_or xs c.loop-place.place 0) (to_z w64 (of_z w64 c.index.result.now)) x) marks
    (subst (λ z. IsVoided (to_z w64 (of_z w64 c.args.void)) (get_or c.marks-marks.result.now c.loop-place.place 0) (to_z w64 (of_z w64 c.index.result.now)) z)
    (sym (to_z-of_z w64 c.voided.result fits)) c.voided.ensures) in
    record {
      len = length-set con c.loop-place.place x ∙ c.loop-place.invariant.len;
      each = each_more c.args.ground.now.marks c.args.con.now.items con _ x _ c.loop-place.place inside (to_z-of_z w64 c.index.result.now height_fits ∙ height)
          c.loop-place.invariant.each c.loop-place.invariant.rest now;
      rest = rest_more c.args.con.now.items con x c.loop-place.place c.loop-place.invariant.rest;
    }

pub returns-clause-each : goal.returns-clause-each
returns-clause-each c = λ k less.
    (let end : c.len-place-end.result ≡ length c.args.con.now.items = search rules in
    subst (λ z. IsVoided z (get_or c.args.ground.now.marks k 0) (get_or c.args.con.now.items k (pos 0)) (get_or c.loop-place.con.items k (pos 0)))
    (to_z-of_z w64 c.args.void c.ranges.void)
    (c.loop-place.invariant.each k (within k (length c.args.con.now.items) c.len-place-end.result c.loop-place.place less end c.loop-place-test.false)))
