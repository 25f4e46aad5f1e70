use Rattle.drain_merge.proofs.Names.{◌≡◌, ℕ, ◌+◌, ◌-◌, min, max, sym, ap, ◌∙◌, arith, Place, Report, spacing_at}
use Rattle.drain_merge.proofs.SpacedRows.{alike_from, alike_to}
use Rattle.drain_merge.proofs.spacings.are_spaced_alike.Goals as goal

pub returns : goal.returns
returns c =
    let q = c.args.a.now in
    let r = c.args.b.now in
    let place_a : c.a.inside.place ≡ q.place = ap (λ (x : Report). x.place) c.a.view_is in
    let place_b : c.b.inside.place ≡ r.place = ap (λ (x : Report). x.place) c.b.view_is in
    let top_a : c.a.inside.place.top ≡ q.place.top = ap (λ (p : Place). p.top) place_a in
    let top_b : c.b.inside.place.top ≡ r.place.top = ap (λ (p : Place). p.top) place_b in
    let rows_a : c.a.inside.place.extent.rows ≡ q.place.extent.rows = ap (λ (p : Place). p.extent.rows) place_a in
    let rows_b : c.b.inside.place.extent.rows ≡ r.place.extent.rows = ap (λ (p : Place). p.extent.rows) place_b in
    let xs : c.deref.result.now ≡ q.spacings = c.deref.ensures.value ∙ ap (λ (x : Report). x.spacings) c.a.view_is in
    let ys : c.deref-2.result.now ≡ r.spacings = c.deref-2.ensures.value ∙ ap (λ (x : Report). x.spacings) c.b.view_is in
    let top = c.max-top.result in
    let count = c.saturating_sub-count.result in
    let first : top ≡ max q.place.top r.place.top = omega (arith, c.max-top.ensures, top_a, top_b) in
    let counted : count ≡ min (q.place.top + q.place.extent.rows) (r.place.top + r.place.extent.rows) - top =
    omega (arith, c.saturating_sub-count.ensures, c.min.ensures, c.end_of-end_a.ensures, c.end_of-end_b.ensures, c.from.ensures, c.rows.ensures, c.rows-2.ensures, top_a, top_b, rows_a, rows_b) in
    let from_a : top - c.a.inside.place.top ≡ top - q.place.top = ap (λ n. top - n) top_a in
    let from_b : top - c.b.inside.place.top ≡ top - r.place.top = ap (λ n. top - n) top_b in
    let at_a : (k : ℕ) → spacing_at c.deref.result.now (top - c.a.inside.place.top + k) ≡ spacing_at q.spacings (top - q.place.top + k) =
    λ k. ap (λ l. spacing_at l (top - c.a.inside.place.top + k)) xs ∙ ap (λ n. spacing_at q.spacings (n + k)) from_a in
    let at_b : (k : ℕ) → spacing_at c.deref-2.result.now (top - c.b.inside.place.top + k) ≡ spacing_at r.spacings (top - r.place.top + k) =
    λ k. ap (λ l. spacing_at l (top - c.b.inside.place.top + k)) ys ∙ ap (λ n. spacing_at r.spacings (n + k)) from_b in (
      (λ same.
          alike_from q.spacings r.spacings q.place.top r.place.top q.place.extent.rows r.place.extent.rows top count first counted
          (λ k below. sym (at_a k) ∙ c.same_rows.ensures.0 same k below ∙ at_b k)),
      (λ alike.
          c.same_rows.ensures.1
          (λ k below. at_a k
          ∙ alike_to q.spacings r.spacings q.place.top r.place.top q.place.extent.rows r.place.extent.rows top count first counted alike k below
          ∙ sym (at_b k))),
    )
