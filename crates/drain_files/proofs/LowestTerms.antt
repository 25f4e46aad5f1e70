-- Two sizes, divided by their greatest common divisor.
use Rattle.drain_files.proofs.Names.{◌≡◌, ℕ, ℤ, zero, suc, pos, ◌*◌, ◌/◌, ◌<◌, Option, Some, None, MatchOption, false, arith, inl, inr, refl, sym, ap, subst, ◌∙◌, ◌∣◌, IsGcd, int_le, unsigned_abs, ints, div-mul_cancel, mul-div_cancel, same_from_IsGcd, Fields, IsSimplest, Ratio}
use Rattle.drain_grid.specs.Spacing.{Distances, IsSpacing}
use Rattle.drain_grid.specs.declared.height_kind.HeightKind.TheVariants.{Whole}
use Rattle.drain_files.specs.OpenSpacings.{AreSizes, IsLowest, IsPixelSpacing, IsRatio, IsRounded, greatest_ratio, least_ratio}

-- a divisor of a size above 0 is above 0
pub above_zero : (g x : ℕ) → g ∣ x → 0 < x → 0 < g
above_zero zero x divides some = absurd (omega (arith, div-mul_cancel zero divides, some))
above_zero (suc g) x divides some = omega arith

-- the quotients are in lowest terms
lowest : (x y g : ℕ) → IsGcd x y g → IsLowest x y (record { width = x / g; height = y / g; kind = Whole })
lowest x y g greatest = record {
  divisor = g;
  greatest = greatest;
  width = sym (div-mul_cancel g greatest.0);
  height = sym (div-mul_cancel g greatest.1);
  kind = refl;
}

-- a product, divided by its second factor
quotient : (x w d g : ℕ) → x ≡ w * d → d ≡ g → 0 < g → w ≡ x / g
quotient x w d g is same some = sym (ap (λ (n : ℕ). n / g) (is ∙ ap (λ (n : ℕ). w * n) same) ∙ mul-div_cancel w some)

-- and no others are
only : (x y g : ℕ) (s : Distances) → IsGcd x y g → 0 < g → IsLowest x y s → s ≡ record { width = x / g; height = y / g; kind = Whole }
only x y g s greatest some l =
    let same = same_from_IsGcd x y l.divisor g l.greatest greatest in
    let width = quotient x s.width l.divisor g l.width same some in
    let height = quotient y s.height l.divisor g l.height same some in
    λ i. record { width = width i; height = height i; kind = l.kind i }

-- where the quotients are a spacing, it is that of the sizes; else the sizes have none
pub lowest_matched : (x y g : ℕ) (r : Option Distances) → IsGcd x y g → 0 < x
    → MatchOption r (IsSpacing (record { width = x / g; height = y / g; kind = Whole }) → ⊥) (λ s. s ≡ record { width = x / g; height = y / g; kind = Whole })
    → MatchOption r ((s : Distances) → IsSpacing s → IsLowest x y s → ⊥) (IsLowest x y)
lowest_matched x y g None greatest some none = λ s fits l. none (subst IsSpacing (only x y g s greatest (above_zero g x greatest.0 some) l) fits)
lowest_matched x y g (Some s) greatest some same = subst (IsLowest x y) (sym same) (lowest x y g greatest)

-- the simplest ratio between two others is one
pub simplest_once : (low high a b : Ratio) → IsSimplest low high a → IsSimplest low high b → (a.width ≡ b.width) × (a.height ≡ b.height)
simplest_once low high a b here there =
    let less = here.least b.width b.height there.between in
    let more = there.least a.width a.height here.between in
    (omega (arith, less.0, more.0), omega (arith, less.1, more.1))

-- where the least numbers in between are a spacing, it is that of the sizes, rounded; else there is none
pub rounded_matched : (x y : ℕ) (found : Ratio) (r : Option Distances) → IsSimplest (least_ratio x y) (greatest_ratio x y) found
    → MatchOption r (IsSpacing (record { width = found.width; height = found.height; kind = Whole }) → ⊥) (λ s. s ≡ record { width = found.width; height = found.height; kind = Whole })
    → MatchOption r ((s : Distances) → IsSpacing s → IsRounded x y s → ⊥) (IsRounded x y)
rounded_matched x y found None simplest none = λ s fits l. (
    let same = simplest_once (least_ratio x y) (greatest_ratio x y) (record { width = s.width; height = s.height }) found l.0 simplest in
    let spacing : s ≡ record { width = found.width; height = found.height; kind = Whole } = λ i. record { width = same.0 i; height = same.1 i; kind = l.1 i } in
    none (subst IsSpacing spacing fits))
rounded_matched x y found (Some s) simplest same = subst (IsRounded x y) (sym same) (simplest, refl)

-- without an exact ratio the rounded one is the ratio
pub ratio_matched : (x y : ℕ) (r : Option Distances) → ((e : Distances) → IsSpacing e → IsLowest x y e → ⊥)
    → MatchOption r ((s : Distances) → IsSpacing s → IsRounded x y s → ⊥) (IsRounded x y)
    → MatchOption r ((s : Distances) → IsSpacing s → IsRatio x y s → ⊥) (IsRatio x y)
ratio_matched x y None inexact none = λ s fits is. elim is [ inl lowest ↦ inexact s fits lowest | inr other ↦ none s fits other.1 ]
ratio_matched x y (Some s) inexact rounded = inr (inexact, rounded)

-- a number that isn't at most 0 is its magnitude
pub is_size : (z : ℤ) (n : ℕ) → n ≡ unsigned_abs z → int_le z (pos 0) ≡ false → (z ≡ pos n) × (0 < n)
is_size z n is above = (omega (arith, ints, is, above), omega (arith, ints, is, above))

-- so it is of a header with these sizes
pub pixel_matched : (h : Fields) (x y : ℕ) (r : Option Distances) → AreSizes h x y
    → MatchOption r ((s : Distances) → IsSpacing s → IsRatio x y s → ⊥) (IsRatio x y)
    → MatchOption r ((s : Distances) → IsSpacing s → IsPixelSpacing h s → ⊥) (IsPixelSpacing h)
pixel_matched h x y None are none = λ s fits is. none s fits (is.sizes x y are)
pixel_matched h x y (Some s) are l = record {
  sizes = λ a b others. (
      let width : pos x ≡ pos a = sym are.width ∙ others.width in
      let height : pos y ≡ pos b = sym are.height ∙ others.height in
      let w : x ≡ a = cc in
      let v : y ≡ b = cc in
      subst (λ m. IsRatio m b s) w (subst (λ n. IsRatio x n s) v l));
  other = λ none. absurd (none x y are);
}
