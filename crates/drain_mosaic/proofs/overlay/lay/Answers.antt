use Rattle.drain_mosaic.proofs.Names.{◌≡◌, ◌≢◌, ℤ, int_eq, true, false, arith, refl, sym, ◌∙◌, subst, length, VOID, Conflict, ConflictAt, IsLeastOf, IsRefusedAt, filled}
use Rattle.drain_mosaic.proofs.Laying.{filled-data, filled-over, isnt_int, least-same, ne_int}
use Rattle.drain_mosaic.proofs.overlay.lay.Goals as goal

-- a number is refused exactly in a conflict
refused-conflict : (z s new : ℤ) → new ≡ filled z s → s ≢ VOID → new ≢ s → Conflict z s
refused-conflict z s new is some other = elim (int_eq z VOID) as (λ b. int_eq z VOID ≡ b → Conflict z s) [
  | true ↦ λ e. absurd (other (is ∙ filled-over z s e))
  | false ↦ λ e. (isnt_int z VOID e, some, λ same. other (is ∙ filled-data z s e ∙ same))
] refl

conflict-refused : (z s new : ℤ) → new ≡ filled z s → Conflict z s → (s ≢ VOID) × (new ≢ s)
conflict-refused z s new is c = (c.1, λ same. c.2 (sym (is ∙ filled-data z s (ne_int z VOID c.0)) ∙ same))

pub returns-clause-first : goal.returns-clause-first
returns-clause-first c =
    let values = c.fill_voids.ensures.values in
    let long : length c.fill_voids.new.here ≡ length c.args.here.now = c.fill_voids.auto.here in
    least-same (IsRefusedAt c.fill_voids.new.here c.args.other.now) (ConflictAt c.args.here.now c.args.other.now) (length c.args.here.now) c.first_refused.result
    (subst (λ n. IsLeastOf (IsRefusedAt c.fill_voids.new.here c.args.other.now) n c.first_refused.result) long c.first_refused.ensures)
    (λ k inside r. refused-conflict _ _ _ (values k (omega (arith, long, inside))) r.0 r.1)
    (λ k inside h. conflict-refused _ _ _ (values k (omega (arith, long, inside))) h)
