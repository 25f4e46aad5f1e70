-- A tile's rows end wrong exactly where its length is wrong: by induction on the rows left.
use Rattle.drain_hgt.proofs.Names.{◌≡◌, ◌↔◌, ℕ, zero, suc, ◌*◌, List, [], ◌∷◌, length, drop, true, false, IsTrue, inl, inr, arith, refl, cases_lt, lt-ltb, le-ltb, length-drop, ends_wrong, tile_rows, TileRowsTellLengths}

ends : (side left : ℕ) (body : List ℕ) → IsTrue (ends_wrong (tile_rows side left body)) ↔ (length body ≡ 2 * side * left → ⊥)
ends side zero [] = (λ wrong. absurd (let no : false ≡ true = wrong in cc), λ other. absurd (other (omega arith)))
ends side zero (x ∷ xs) = (λ wrong e. omega arith, λ other. refl)
ends side (suc left) body = elim (cases_lt (length body) (2 * side)) [
  | inl short ↦ rw (lt-ltb (length body) (2 * side) short) (λ wrong e. omega (arith, short), λ other. refl)
  | inr whole ↦ rw (le-ltb (length body) (2 * side) (omega (arith, whole))) (
      let rest = ends side left (drop (2 * side) body) in
      let long = length-drop (2 * side) body in (
        λ wrong e. rest.0 wrong (omega (arith, long, e)),
        λ other. rest.1 (λ e. other (omega (arith, long, e, whole))),
      ))
]

pub tile_rows_tell_lengths : TileRowsTellLengths
tile_rows_tell_lengths side body =
    let all = ends side side body in
    let same : 2 * side * side ≡ 2 * (side * side) = omega arith in
    (λ wrong e. all.0 wrong (omega (arith, same, e)), λ other. all.1 (λ e. other (omega (arith, same, e))))
