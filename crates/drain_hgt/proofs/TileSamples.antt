-- The rows of a whole tile are its samples: by induction on the rows left.
use Rattle.drain_hgt.proofs.Names.{◌≡◌, ℕ, zero, suc, ◌+◌, ◌*◌, ◌<◌, ◌≤◌, ℤ, List, [], ◌∷◌, ◌++◌, length, take, drop, arith, refl, sym, ap, ◌∙◌, take-append-drop, slice_index_or, le-ltb, length-take-le, length-drop, get_or_append_left, get_or-append-add, twos_complement, nth_row, samples_of, tile_rows, TileRowsAreSamples}
use Rattle.drain_grid.specs.declared.tile.TheConstants.{VOID}

pub samples-append : (n : ℕ) (xs ys : List ℕ) → length xs ≡ 2 * n → samples_of (xs ++ ys) ≡ samples_of xs ++ samples_of ys
samples-append zero [] ys even = refl
samples-append zero (x ∷ xs) ys even = absurd (omega arith)
samples-append (suc n) [] ys even = absurd (omega arith)
samples-append (suc n) (x ∷ []) ys even = absurd (omega arith)
samples-append (suc n) (high ∷ low ∷ more) ys even = ap (λ (zs : List ℤ). twos_complement 2 (256 * high + low) ∷ zs) (samples-append n more ys (omega arith))

pub samples-length : (n : ℕ) (xs : List ℕ) → length xs ≡ 2 * n → length (samples_of xs) ≡ n
samples-length zero [] even = refl
samples-length zero (x ∷ xs) even = absurd (omega arith)
samples-length (suc n) [] even = absurd (omega arith)
samples-length (suc n) (x ∷ []) even = absurd (omega arith)
samples-length (suc n) (high ∷ low ∷ more) even = omega (arith, samples-length n more (omega arith))

-- a row and the samples after it
split : (side : ℕ) (body : List ℕ) → 2 * side ≤ length body → samples_of body ≡ samples_of (take (2 * side) body) ++ samples_of (drop (2 * side) body)
split side body long = ap samples_of (sym (take-append-drop (2 * side) body)) ∙ samples-append side (take (2 * side) body) (drop (2 * side) body) (length-take-le (2 * side) body long)

at : (side left k col : ℕ) (body : List ℕ) → k < left → col < side → length body ≡ 2 * side * left →
    slice_index_or (nth_row k (tile_rows side left body)) col VOID ≡ slice_index_or (samples_of body) (k * side + col) VOID
at side zero k col body above inside whole = absurd (omega arith)
at side (suc left) zero col body above inside whole =
    let long : 2 * side ≤ length body = omega arith in
    let wide = samples-length side (take (2 * side) body) (length-take-le (2 * side) body long) in
    let place : zero * side + col ≡ col = omega arith in
    rw (le-ltb (length body) (2 * side) long, place, split side body long)
    (sym (get_or_append_left (samples_of (take (2 * side) body)) (samples_of (drop (2 * side) body)) VOID col (omega (arith, wide))))
at side (suc left) (suc k) col body above inside whole =
    let long : 2 * side ≤ length body = omega arith in
    let wide = samples-length side (take (2 * side) body) (length-take-le (2 * side) body long) in
    let place : suc k * side + col ≡ length (samples_of (take (2 * side) body)) + (k * side + col) = omega (arith, wide) in
    rw (le-ltb (length body) (2 * side) long, place, split side body long)
    (at side left k col (drop (2 * side) body) (omega arith) inside (omega (arith, length-drop (2 * side) body))
    ∙ sym (get_or-append-add (samples_of (take (2 * side) body)) (samples_of (drop (2 * side) body)) (k * side + col) VOID))

pub tile_rows_are_samples : TileRowsAreSamples
tile_rows_are_samples side body row col whole above inside = at side side row col body above inside (omega (arith, whole))
