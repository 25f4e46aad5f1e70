-- Heights of like size as whole numbers of one unit, a power of two: their drops compare as these numbers do.
use Rattle.drain_slope.proofs.Names.{◌≡◌, ℕ, suc, ◌+◌, ◌-◌, ◌*◌, ◌^◌, ◌<◌, ◌≤◌, ◌↔◌, Bool, IsTrue, ℤ, pos, negsuc, ◌+ℤ◌, ◌-ℤ◌, ◌*ℤ◌, unsigned_abs, sym, ◌∙◌, ap, subst, arith, mul-lt-mul_of_pos_right, lt_of_mul-lt-mul_right, ints, pow-add, pow_pos, mul-lt}
use Rattle.drain_slope.proofs.Products.{associates, distributes}
use Rattle.drain_slope.specs.Singles.{ComparesDrops}

-- a number of units of which each is a power of two
pub in_units : (number power r : ℤ) (shift unit : ℕ) → unit ≤ shift → power ≡ pos (2 ^ (shift - unit)) → r ≡ number *ℤ power → number *ℤ pos (2 ^ shift) ≡ r *ℤ pos (2 ^ unit)
in_units number power r shift unit from is_power is_r =
    let above = pos (2 ^ (shift - unit)) in
    let one = pos (2 ^ unit) in
    let shifts : shift ≡ (shift - unit) + unit = omega (arith, from) in
    let split : pos (2 ^ shift) ≡ above *ℤ one = ap (λ k. pos (2 ^ k)) shifts ∙ ap pos (pow-add 2 (shift - unit) unit) in
    ap (λ z. number *ℤ z) split ∙ (sym (associates number above one) ∙ ap (λ z. z *ℤ one) (sym (is_r ∙ ap (λ z. number *ℤ z) is_power)))

-- how far two heights are apart, where the first is not lower
pub apart_in_units : (a b : ℤ) (x d u : ℕ) → pos x ≡ (a *ℤ pos u) -ℤ (b *ℤ pos u) → d ≡ unsigned_abs (a -ℤ b) → x ≡ d * u
apart_in_units a b x d u is_x is_d =
    by_sign (a -ℤ b) d is_d (less (a *ℤ pos u) (b *ℤ pos u) ((a -ℤ b) *ℤ pos u) (pos x) is_x (ap (λ z. z *ℤ pos u) (back a b) ∙ distributes (a -ℤ b) b (pos u)))
  where
    back : (a b : ℤ) → a ≡ (a -ℤ b) +ℤ b
    back a b = omega (arith, ints)

    less : (au bu du x : ℤ) → x ≡ au -ℤ bu → au ≡ du +ℤ bu → x ≡ du
    less au bu du x is_x is_au = omega (arith, ints, is_x, is_au)

    by_sign : (z : ℤ) (d : ℕ) → d ≡ unsigned_abs z → pos x ≡ z *ℤ pos u → x ≡ d * u
    by_sign (pos n) d is h = let same : d ≡ n = is in let all : x ≡ n * u = omega (arith, ints, h) in all ∙ ap (λ k. k * u) (sym same)
    by_sign (negsuc n) d is h = let same : d ≡ suc n = is in let all : x ≡ suc n * u = omega (arith, ints, h) in all ∙ ap (λ k. k * u) (sym same)

-- products across of drops in units
pub compared_in_units : (x y p q o v u : ℕ) → 0 < u → x ≡ p * u → y ≡ q * u → ((q * q) * v < (p * p) * o) ↔ ((y * y) * v < (x * x) * o)
compared_in_units x y p q o v u some is_x is_y =
    scaled ((q * q) * v) ((p * p) * o) ((y * y) * v) ((x * x) * o) (u * u) (mul-lt 0 0 u u some some) (gathers y q v is_y) (gathers x p o is_x)
  where
    gathers : (x p o : ℕ) → x ≡ p * u → (x * x) * o ≡ ((p * p) * o) * (u * u)
    gathers x p o is = ap (λ k. (k * k) * o) is ∙ omega arith

    scaled : (a b c d k : ℕ) → 0 < k → c ≡ a * k → d ≡ b * k → (a < b) ↔ (c < d)
    scaled a b c d k some is_c is_d = (
      (λ less. let products : a * k < b * k = mul-lt-mul_of_pos_right less some in omega (arith, products, is_c, is_d)),
      (λ less. lt_of_mul-lt-mul_right k (omega (arith, less, is_c, is_d))),
    )

-- the comparison of drops in units is that of the drops
pub drops_in_units : (h f s a b c : ℤ) (p q o v u : ℕ) (steeper : Bool) → h ≡ a *ℤ pos (2 ^ u) → f ≡ b *ℤ pos (2 ^ u) → s ≡ c *ℤ pos (2 ^ u) →
    p ≡ unsigned_abs (a -ℤ b) → q ≡ unsigned_abs (a -ℤ c) → IsTrue steeper ↔ ((q * q) * v < (p * p) * o) → ComparesDrops h f s v o steeper
drops_in_units h f s a b c p q o v u steeper is_h is_f is_s is_p is_q test = λ x y is_x is_y.
    (let drop : x ≡ p * 2 ^ u = apart_in_units a b x p (2 ^ u) (subst (λ z. pos x ≡ z -ℤ (b *ℤ pos (2 ^ u))) is_h (subst (λ z. pos x ≡ h -ℤ z) is_f is_x)) is_p in
    let other : y ≡ q * 2 ^ u = apart_in_units a c y q (2 ^ u) (subst (λ z. pos y ≡ z -ℤ (c *ℤ pos (2 ^ u))) is_h (subst (λ z. pos y ≡ h -ℤ z) is_s is_y)) is_q in
    let both = compared_in_units x y p q o v (2 ^ u) (pow_pos u) drop other in
    ((λ t. both.0 (test.0 t)), (λ less. test.1 (both.1 less))))

-- the same drops between the same heights
pub same_drops : (h f s top left right : ℤ) (v o : ℕ) (steeper : Bool) → h ≡ top → f ≡ left → s ≡ right → ComparesDrops h f s v o steeper → ComparesDrops top left right v o steeper
same_drops h f s top left right v o steeper is_h is_f is_s compares =
    subst (λ z. ComparesDrops top left z v o steeper) is_s (subst (λ z. ComparesDrops top z s v o steeper) is_f (subst (λ z. ComparesDrops z f s v o steeper) is_h compares))
