use Rattle.drain_basin.proofs.Names.{◌≡◌, ◌↔◌, ◌∙◌, ℕ, IsTrue, ap, cond, max, nat_eq, subst, sym, high_bit, low_bit, set_bit, IsAdmitted, LabelSet}
use Rattle.drain_basin.proofs.Bits.{low_past, whole}
use Rattle.drain_basin.proofs.Labels.{adds_high, adds_low, admitted_after, new_where_clear, only_high, only_low, place_of, Adds}
use Rattle.drain_basin.proofs.outlets.OutletLabels.admit.Goals as goal
use Rattle.drain_basin.proofs.outlets.OutletLabels.admit.Goals.{then-reach, else-reach+in_ok-is_new}

pub returns-clause-new : goal.returns-clause-new
returns-clause-new c =
    let old : LabelSet = c.args.self.now in
    let place : ℕ = c.cast_unsigned-place.result in
    let low = c.reach.new.low.items in
    let high = c.reach.new.high.entries in
    let same : (p : ℕ) → max (low_bit low p) (high_bit high p) ≡ set_bit old p = λ p. c.reach.ensures.bits p ∙ ap (λ (s : LabelSet). set_bit s p) c.self.view_is in
    let is_place = place_of c.args.label place c.ranges.label c.cast_unsigned-place.ensures in
    elim c.if-reach.branch [
      | then-reach w ↦
          let clear = only_low old low high place (same place) (c.reach.ensures.apart place (c.reach.ensures.has_word w.if-reach.true)) in
          let read = ap (λ xs. low_bit xs place) w.deref_mut.ensures.value ∙ clear in
          subst (λ b. IsTrue b ↔ ¬ IsAdmitted old c.args.label) (sym w.is_new-is)
          (new_where_clear old c.args.label place w.set_low-is_new.result c.ranges.label is_place
          (subst (λ n. IsTrue w.set_low-is_new.result ↔ (n ≡ 0)) read w.set_low-is_new.ensures.is_new))
      | else-reach+in_ok-is_new w ↦
          let clear = only_high old low high place (same place) (low_past low place (c.reach.ensures.none w.if-reach.false)) in
          subst (λ b. IsTrue b ↔ ¬ IsAdmitted old c.args.label) (sym w.is_new-is)
          (new_where_clear old c.args.label place w.in_ok-is_new.is_new c.ranges.label is_place
          (subst (λ n. IsTrue w.in_ok-is_new.is_new ↔ (n ≡ 0)) clear w.in_ok-is_new.ensures.is_new))
    ]

pub returns-clause-kept : goal.returns-clause-kept
returns-clause-kept c =
    let old : LabelSet = c.args.self.now in
    let place : ℕ = c.cast_unsigned-place.result in
    let low = c.reach.new.low.items in
    let high = c.reach.new.high.entries in
    let same : (p : ℕ) → max (low_bit low p) (high_bit high p) ≡ set_bit old p = λ p. c.reach.ensures.bits p ∙ ap (λ (s : LabelSet). set_bit s p) c.self.view_is in
    let is_place = place_of c.args.label place c.ranges.label c.cast_unsigned-place.ensures in
    let adds : Adds old (record { low = c.if-reach.self-inside.low.items; high = c.if-reach.self-inside.high.entries }) place =
    elim c.if-reach.branch [
      | then-reach w ↦
          subst (λ it. Adds old (record { low = it.low.items; high = it.high.entries }) place) (sym w.self-inside-is)
          (adds_low old low _ high place same
          (λ p. ap (λ xs. low_bit xs p) (whole w.set_low-is_new.new.low _ c.reach.new.low.len (w.set_low-is_new.ensures.len ∙ w.deref_mut.ensures.len))
          ∙ (w.set_low-is_new.ensures.set p ∙ ap (λ xs. cond (nat_eq place p) 1 (low_bit xs p)) w.deref_mut.ensures.value)))
      | else-reach+in_ok-is_new w ↦
          subst (λ it. Adds old (record { low = it.low.items; high = it.high.entries }) place) (sym w.self-inside-is)
          (adds_high old low high _ place same w.in_ok-is_new.ensures.set)
    ] in
    admitted_after old _ c.args.label place c.ranges.label is_place adds
