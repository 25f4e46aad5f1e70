-- Pairs of bytes read one by one are the samples of all of them.
use Rattle.drain_hgt.proofs.Names.{◌≡◌, ◌≢◌, ℕ, suc, ◌+◌, ◌-◌, ◌*◌, ◌<◌, ℤ, List, [], ◌∷◌, length, drop, w16, w64, take, set, get_or, get_or-set_other, get_or-set_same, below_more, arith, refl, sym, ap, ◌∙◌, cast_signed, slice_index, ints, to_z-of_z, take_rest, nat_tests, twos_complement, big_number, IsReadBy, IsSample, samples_of}
use mir.Val.{to_z, of_z}

-- the sample of the first two bytes
abbrev pub sample : List ℕ → ℤ
sample ys = cast_signed w16 (big_number 2 ys)

sample_is : (n : ℕ) → n < 65536 → cast_signed w16 n ≡ twos_complement 2 n
sample_is n small = grind (arith, ints, nat_tests)

pub all_samples : (bytes : List ℕ) (samples : List ℤ) → length bytes ≡ 2 * length samples → ((i : ℕ) → slice_index bytes i < 256) → IsReadBy sample 2 bytes samples → samples_of bytes ≡ samples
all_samples [] [] long small read = refl
all_samples [] (x ∷ xs) long small read = absurd (omega arith)
all_samples (high ∷ []) [] long small read = absurd (omega arith)
all_samples (high ∷ []) (x ∷ xs) long small read = absurd (omega arith)
all_samples (high ∷ low ∷ more) [] long small read = absurd (omega arith)
all_samples (high ∷ low ∷ more) (x ∷ xs) long small read =
    let first : x ≡ cast_signed w16 (256 * high + low) = read x 0 (omega arith) ∙ ap (cast_signed w16) (omega arith) in
    let is = sample_is (256 * high + low) (omega (arith, small 0, small 1)) in
    let rest : IsReadBy sample 2 more xs = λ d k h. (
    let two : 2 * suc k ≡ suc (suc (2 * k)) = omega arith in
    read d (suc k) (omega arith) ∙ ap (λ n. sample (drop n (high ∷ low ∷ more))) two) in
    let tail = all_samples more xs (omega arith) (λ i. small (suc (suc i))) rest in
    ap (λ y. y ∷ samples_of more) (sym (first ∙ is)) ∙ ap (λ ys. x ∷ ys) tail

-- the number is the sample at this place among bytes
pub record IsSampleIn (bytes : List ℕ) (k : ℕ) (number : ℤ) : Type 0 where
  pub value : number ≡ sample (drop (2 * k) bytes)
  pub in_range : IsSample number

-- a sample goes through 64 bits unchanged
sample-stored : (n : ℤ) → IsSample n → to_z w64 (of_z w64 n) ≡ n
sample-stored n ok = to_z-of_z w64 n (grind (arith, ints, ok.low, ok.high))

-- one sample more in its place
pub sample_put : (bytes : List ℕ) (out : List ℤ) (k : ℕ) (x : ℤ) → k < length out → x ≡ sample (take (length bytes - 2 * k) (drop (2 * k) bytes)) → IsSample x →
    ((d : ℤ) (i : ℕ) → i < k → IsSampleIn bytes i (get_or out i d)) →
    (d : ℤ) (i : ℕ) → i < k + 1 → IsSampleIn bytes i (get_or (set out k (to_z w64 (of_z w64 x))) i d)
sample_put bytes out k x inside is ok so_far d =
    let here : IsSampleIn bytes k x = record {
      value = is ∙ ap sample (take_rest bytes (2 * k));
      in_range = ok;
    } in
    below_more (λ i. IsSampleIn bytes i (get_or (set out k (to_z w64 (of_z w64 x))) i d)) k
    (λ i h. let ne : i ≢ k = omega arith in rw get_or-set_other (so_far d i h))
    (rw (get_or-set_same, sample-stored x ok) here)
