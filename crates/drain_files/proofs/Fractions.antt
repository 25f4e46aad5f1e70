-- The ratio of the least whole numbers between two others: by continued fractions, one step at a time.
use Rattle.drain_files.proofs.Names.{◌≡◌, ℕ, ◌+◌, ◌-◌, ◌*◌, ◌<◌, ◌≤◌, arith, ap, le-mul_of_pos_right, le_of_mul-le-mul_left, lt_of_mul-lt-mul_left, mul-le-mul_left, mul-pos, AreBounds, IsBetween, IsSimplest, Ratio}

-- the lower ratio is a whole number: no smaller number is in between
pub ends_whole : (low high : Ratio) (q : ℕ) → AreBounds low high → low.width ≡ q * low.height → IsSimplest low high (record { width = q; height = 1 })
ends_whole low high q bounds is =
    let some : 0 < low.height = bounds.some_low in
    let above : low.height * (q * high.height) ≤ low.height * (high.width * 1) =
    omega (arith, bounds.ordered, ap (λ (n : ℕ). n * high.height) is) in
    record {
      between = record { some = omega arith; not_below = omega (arith, is); not_above = le_of_mul-le-mul_left above some };
      least = λ w h other. (
          let less : low.height * (q * h) ≤ low.height * w = omega (arith, other.not_below, ap (λ (n : ℕ). n * h) is) in
          let most : q * h ≤ w = le_of_mul-le-mul_left less some in
          let grows : q ≤ q * h = le-mul_of_pos_right q other.some in
          (omega (arith, most, grows), omega (arith, other.some)));
    }

-- with a rest, the whole part of each ratio in between is at least that of the lower one, and it isn't whole
pub beyond : (low high : Ratio) (q r w h : ℕ) → 0 < r → low.width ≡ q * low.height + r → IsBetween low high w h → q * h < w
beyond low high q r w h some is other =
    let rest : 0 < r * h = mul-pos some other.some in
    let less : low.height * (q * h) < low.height * w = omega (arith, rest, other.not_below, ap (λ (n : ℕ). n * h) is) in
    lt_of_mul-lt-mul_left low.height less

-- the next whole number is in between: no smaller one is
pub ends_above : (low high : Ratio) (q r : ℕ) → 0 < r → r < low.height → low.width ≡ q * low.height + r → (q + 1) * high.height ≤ high.width
    → IsSimplest low high (record { width = q + 1; height = 1 })
ends_above low high q r some small is fits = record {
  between = record { some = omega arith; not_below = omega (arith, is, small); not_above = omega (arith, fits) };
  least = λ w h other. (
      let more : q * h < w = beyond low high q r w h some is other in
      let grows : q ≤ q * h = le-mul_of_pos_right q other.some in
      (omega (arith, more, grows), omega (arith, other.some)));
}

-- the whole part is below the upper ratio
pub below_high : (low high : Ratio) (q r : ℕ) → AreBounds low high → 0 < r → low.width ≡ q * low.height + r → q * high.height < high.width
below_high low high q r bounds some is =
    let rest : 0 < r * high.height = mul-pos some bounds.some_high in
    let less : low.height * (q * high.height) < low.height * high.width =
    omega (arith, rest, bounds.ordered, ap (λ (n : ℕ). n * high.height) is) in
    lt_of_mul-lt-mul_left low.height less

pub inner_ordered : (low high : Ratio) (q r : ℕ) → AreBounds low high → 0 < r → low.width ≡ q * low.height + r
    → high.height * r ≤ low.height * (high.width - q * high.height)
inner_ordered low high q r bounds some is =
    let less : q * high.height < high.width = below_high low high q r bounds some is in
    let left : (high.width - q * high.height) + q * high.height ≡ high.width = omega (arith, less) in
    omega (arith, bounds.ordered, ap (λ (n : ℕ). n * high.height) is, ap (λ (n : ℕ). low.height * n) left)

-- and the simplest of these, turned over and put on the whole part, is the simplest
pub goes_on : (low high inner : Ratio) (q r : ℕ) → AreBounds low high → 0 < r → low.width ≡ q * low.height + r
    → IsSimplest (record { width = high.height; height = high.width - q * high.height }) (record { width = low.height; height = r }) inner
    → IsSimplest low high (record { width = q * inner.width + inner.height; height = inner.width })
goes_on low high inner q r bounds some is simplest =
    let less : q * high.height < high.width = below_high low high q r bounds some is in
    let left : (high.width - q * high.height) + q * high.height ≡ high.width = omega (arith, less) in
    let here = simplest.between in
    let positive : 0 < inner.width * (high.width - q * high.height) =
    (let product : 0 < high.height * inner.height = mul-pos bounds.some_high here.some in omega (arith, product, here.not_below)) in
    let wide : 0 < inner.width = lt_of_mul-lt-mul_left (high.width - q * high.height) (omega (arith, positive)) in
    record {
      between = record {
        some = wide;
        not_below = omega (arith, here.not_above, ap (λ (n : ℕ). n * inner.width) is);
        not_above = omega (arith, here.not_below, ap (λ (n : ℕ). n * inner.width) left);
      };
      least = λ w h other. (
          let more : q * h < w = beyond low high q r w h some is other in
          let parts : (w - q * h) + q * h ≡ w = omega (arith, more) in
          let within : IsBetween (record { width = high.height; height = high.width - q * high.height }) (record { width = low.height; height = r }) h (w - q * h) = record {
            some = omega (arith, more);
            not_below = omega (arith, other.not_above, ap (λ (n : ℕ). n * high.height) parts, ap (λ (n : ℕ). n * h) left);
            not_above = omega (arith, other.not_below, ap (λ (n : ℕ). n * low.height) parts, ap (λ (n : ℕ). n * h) is);
          } in
          let both = simplest.least h (w - q * h) within in
          let grows : q * inner.width ≤ q * h = mul-le-mul_left q both.0 in
          (omega (arith, both.1, grows, more), both.0));
    }

-- its numbers are at most those of the lower ratio
pub at_most_low : (low high r : Ratio) → AreBounds low high → IsSimplest low high r → (r.width ≤ low.width) × (r.height ≤ low.height)
at_most_low low high r bounds simplest = simplest.least low.width low.height (record { some = bounds.some_low; not_below = omega arith; not_above = omega (arith, bounds.ordered) })
