-- What is kept of the pixels of a raster: numbers that its header's pixels can encode, and that mean the same elevations.
use Rattle.drain_maker.proofs.Names.{◌≡◌, ◌≢◌, ◌∙◌, ℕ, ◌-◌, ◌%◌, ◌<◌, ◌≤◌, ◌||◌, not, nat_lt, ℤ, pos, neg_ℤ, Bool, true, false, Option, Some, None, IfSome, inl, inr, unwrap_or, if◌then◌else◌, refl, sym, ap, subst, arith, int_eq, false≢true, ltb-true, ltb-false, Decides-int_eq, ints, IsFloatNumber, is_finite, number_of, HeightKind, Whole, Single, Extent, IsCellOf, Pixels, IsPixel, number_at, Fields, height_with, is_number, whole_voids, CanSpell, CanSpellAs, IsKept, kept_number, FitsHeader, con_no_data, no_height, con_float}

-- the number of a pattern of 32 bits is that of a float
pub pattern_number : (p : ℕ) → p < 4294967296 → IsFloatNumber (number_of p)
pattern_number p small = elim (nat_lt 2139095040 (p % 2147483648)) as (λ b. nat_lt 2139095040 (p % 2147483648) ≡ b → IsFloatNumber (if b then pos 2143289344 else (if nat_lt p 2147483648 then pos p else neg_ℤ (pos (p - 2147483648))))) [
  | true ↦ λ is. inr refl
  | false ↦ λ is. elim (nat_lt p 2147483648) as (λ b. nat_lt p 2147483648 ≡ b → IsFloatNumber (if b then pos p else neg_ℤ (pos (p - 2147483648)))) [
    | true ↦ λ low. (let few = ltb-false _ _ is in let below = ltb-true _ _ low in let k : p ≤ 2139095040 = omega arith in inl (record { low = omega (arith, ints); high = omega (arith, ints) }))
    | false ↦ λ high. (let few = ltb-false _ _ is in let above = ltb-false _ _ high in let k : p - 2147483648 ≤ 2139095040 = omega arith in inl (record { low = omega (arith, ints); high = omega (arith, ints) }))
  ] refl
] refl

-- the no-data number of a raster that has con's is a float's
pub void_float : (h inside : Fields) (p : Pixels) → inside ≡ h → (inside.kind ≡ Single → ∥ IfSome inside.nodata IsFloatNumber ∥₁) → p.nodata ≡ con_no_data h → inside.kind ≡ Single →
    IsFloatNumber p.nodata
void_float h inside p view ok nodata single = subst IsFloatNumber (ap con_no_data view ∙ sym nodata) (con_float inside.kind inside.nodata ok single)

-- and a pixel's
pub float_pixel : (z : ℤ) → IsFloatNumber z → IsPixel z
float_pixel z (inl is) = let low = is.low in let high = is.high in record { low = omega (arith, ints, low); high = omega (arith, ints, high) }
float_pixel z (inr is) = record { low = omega (arith, ints, is); high = omega (arith, ints, is) }

pub either_pixel : (b : Bool) (void n : ℤ) → IsPixel void → IsPixel n → IsPixel (if b then n else void)
either_pixel true void n one other = other
either_pixel false void n one other = one

-- pixels of the kind can encode what is kept, where they can encode the number and that of voids
either_float : (b : Bool) (void n : ℤ) → IsFloatNumber void → IsFloatNumber n → IsFloatNumber (if b then n else void)
either_float true void n one other = other
either_float false void n one other = one

kept_spelled : (kind : HeightKind) (signed : Bool) (bits : ℕ) (void n : ℤ) → (kind ≡ Single → IsFloatNumber void) → CanSpellAs kind signed bits n →
    CanSpellAs kind signed bits (kept_number kind void n)
kept_spelled Whole signed bits void n float ok = ok
kept_spelled Single signed bits void n float ok = either_float (is_finite n) void n (float refl) ok

pub fits_kept : (h : Fields) (p kept : Pixels) → (h.kind ≡ Single → IsFloatNumber p.nodata) → FitsHeader h p → IsKept h.kind p kept → FitsHeader h kept
fits_kept h p kept float fits is = record {
  extent = is.extent ∙ fits.extent;
  spelled = λ c inside.
      (let there : IsCellOf p.extent c = subst (λ (e : Extent). IsCellOf e c) is.extent inside in
      subst (CanSpell h) (sym (is.numbers c there)) (kept_spelled h.kind h.signed h.bits p.nodata (number_at p c) float (fits.spelled c there)));
}

-- Where no number means a void, none is the number that stands for it.

is_false : (b : Bool) → ¬ (b ≡ true) → b ≡ false
is_false true never = absurd (never refl)
is_false false never = refl

of_whole : (void : Option ℤ) (n : ℤ) → n ≢ pos 4294967296 → height_with (whole_voids (Some (unwrap_or void (pos 4294967296)))) n ≡ height_with (whole_voids void) n
of_whole (Some v) n other = refl
of_whole None n other = ap (λ b. if b then None else Some n) (is_false (int_eq n (pos 4294967296)) (λ same. other ((Decides-int_eq n (pos 4294967296)).0 same)))

of_single : (b : Bool) (void : Option ℤ) (n : ℤ) → (b ≡ true → n ≢ pos 2143289344) →
    (if int_eq (if b then n else unwrap_or void (pos 2143289344)) (unwrap_or void (pos 2143289344)) then None else Some (if b then n else unwrap_or void (pos 2143289344)))
    ≡ (if not b || is_number void n then None else Some n)
of_single false void n other =
    let v = unwrap_or void (pos 2143289344) in
    ap (λ e. if e then None else Some v) ((Decides-int_eq v v).1 refl)
of_single true (Some v) n other = refl
of_single true None n other = ap (λ e. if e then None else Some n) (is_false (int_eq n (pos 2143289344)) (λ same. other refl ((Decides-int_eq n (pos 2143289344)).0 same)))

-- the number of NaN is not finite
not_nan : (n : ℤ) → is_finite n ≡ true → n ≢ pos 2143289344
not_nan n finite same = false≢true (subst (λ z. is_finite z ≡ true) same finite)

-- so what is kept means the elevation of the pixel
pub kept_height : (kind : HeightKind) (void : Option ℤ) (n : ℤ) → (kind ≡ Whole → kept_number kind (unwrap_or void (no_height kind)) n ≢ pos 4294967296) →
    height_with (whole_voids (Some (unwrap_or void (no_height kind)))) (kept_number kind (unwrap_or void (no_height kind)) n) ≡ height_with (record { number = void; kind = kind }) n
kept_height Whole void n other = of_whole void n (other refl)
kept_height Single void n other = of_single (is_finite n) void n (not_nan n)
