-- Products of whole numbers: they distribute over sums, and are bounded by their factors.
use Rattle.drain_slope.proofs.Names.{◌≡◌, ℕ, zero, suc, ◌*◌, ◌^◌, ◌≤◌, ◌<◌, ℤ, pos, negsuc, neg_ℤ, ◌+ℤ◌, ◌*ℤ◌, ◌≤ℤ◌, FitsSigned, to_z, of_z, sym, ◌∙◌, ap, subst, arith, suc_ℤ-*ℤ, *ℤ-negsuc, *ℤ-zero, *ℤ_comm, w128, ints, to_z-of_z, mul-le}

-- one more in the second factor
mul_suc : (x : ℤ) (n : ℕ) → x *ℤ pos (suc n) ≡ (x *ℤ pos n) +ℤ x
mul_suc x n = *ℤ_comm x (pos (suc n)) ∙ (suc_ℤ-*ℤ (pos n) x ∙ ap (λ y. y +ℤ x) (*ℤ_comm (pos n) x))

-- products distribute over sums
distributes_pos : (a b : ℤ) (n : ℕ) → (a +ℤ b) *ℤ pos n ≡ (a *ℤ pos n) +ℤ (b *ℤ pos n)
distributes_pos a b zero = *ℤ-zero (a +ℤ b) ∙ sym (nothing _ _ (*ℤ-zero a) (*ℤ-zero b))
  where
    nothing : (x y : ℤ) → x ≡ pos zero → y ≡ pos zero → x +ℤ y ≡ pos zero
    nothing x y hx hy = omega (arith, ints, hx, hy)
distributes_pos a b (suc n) = gathers a b _ _ _ ((a +ℤ b) *ℤ pos n) (a *ℤ pos n) (b *ℤ pos n) (mul_suc (a +ℤ b) n) (mul_suc a n) (mul_suc b n) (distributes_pos a b n)
  where
    gathers : (a b x y z p q r : ℤ) → x ≡ p +ℤ (a +ℤ b) → y ≡ q +ℤ a → z ≡ r +ℤ b → p ≡ q +ℤ r → x ≡ y +ℤ z
    gathers a b x y z p q r hx hy hz h = omega (arith, ints, hx, hy, hz, h)

pub distributes : (a b c : ℤ) → (a +ℤ b) *ℤ c ≡ (a *ℤ c) +ℤ (b *ℤ c)
distributes a b (pos n) = distributes_pos a b n
distributes a b (negsuc n) =
    gathers _ _ _ ((a +ℤ b) *ℤ pos (suc n)) (a *ℤ pos (suc n)) (b *ℤ pos (suc n)) (*ℤ-negsuc (a +ℤ b) n) (*ℤ-negsuc a n) (*ℤ-negsuc b n) (distributes_pos a b (suc n))
  where
    gathers : (x y z p q r : ℤ) → x ≡ neg_ℤ p → y ≡ neg_ℤ q → z ≡ neg_ℤ r → p ≡ q +ℤ r → x ≡ y +ℤ z
    gathers x y z p q r hx hy hz h = omega (arith, ints, hx, hy, hz, h)

pub distributes_left : (a b c : ℤ) → c *ℤ (a +ℤ b) ≡ (c *ℤ a) +ℤ (c *ℤ b)
distributes_left a b c = *ℤ_comm c (a +ℤ b) ∙ (distributes a b c ∙ (ap (λ x. x +ℤ (b *ℤ c)) (*ℤ_comm a c) ∙ ap (λ x. (c *ℤ a) +ℤ x) (*ℤ_comm b c)))

-- the product with a negative is the negative
pub mul_neg : (a b : ℤ) → a *ℤ neg_ℤ b ≡ neg_ℤ (a *ℤ b)
mul_neg a (pos zero) = *ℤ-zero a ∙ sym (ap neg_ℤ (*ℤ-zero a))
mul_neg a (pos (suc n)) = *ℤ-negsuc a n
mul_neg a (negsuc n) = twice (a *ℤ pos (suc n)) _ (*ℤ-negsuc a n)
  where
    twice : (x y : ℤ) → y ≡ neg_ℤ x → x ≡ neg_ℤ y
    twice x y h = omega (arith, ints, h)

-- and associative
associates_pos : (a b : ℤ) (n : ℕ) → (a *ℤ b) *ℤ pos n ≡ a *ℤ (b *ℤ pos n)
associates_pos a b zero = *ℤ-zero (a *ℤ b) ∙ sym (ap (λ x. a *ℤ x) (*ℤ-zero b) ∙ *ℤ-zero a)
associates_pos a b (suc n) =
    mul_suc (a *ℤ b) n ∙ (ap (λ x. x +ℤ (a *ℤ b)) (associates_pos a b n) ∙ (sym (distributes_left (b *ℤ pos n) b a) ∙ ap (λ x. a *ℤ x) (sym (mul_suc b n))))

pub associates : (a b c : ℤ) → (a *ℤ b) *ℤ c ≡ a *ℤ (b *ℤ c)
associates a b (pos n) = associates_pos a b n
associates a b (negsuc n) =
    *ℤ-negsuc (a *ℤ b) n ∙ (ap neg_ℤ (associates_pos a b (suc n)) ∙ (sym (mul_neg a (b *ℤ pos (suc n))) ∙ ap (λ x. a *ℤ x) (sym (*ℤ-negsuc b n))))

-- a product with a number of at most this size
pub mul_high : (n : ℤ) (size p q : ℕ) → n ≤ℤ pos size → p ≤ q → (n *ℤ pos p) ≤ℤ pos (size * q)
mul_high (pos a) size p q high less =
    let most : a * p ≤ size * q = mul-le a p size q (omega (arith, ints, high)) less in omega (arith, ints, most)
mul_high (negsuc a) size p q high less = omega (arith, ints)

pub mul_low : (n : ℤ) (size p q : ℕ) → neg_ℤ (pos size) ≤ℤ n → p ≤ q → neg_ℤ (pos (size * q)) ≤ℤ (n *ℤ pos p)
mul_low (pos a) size p q low less = omega (arith, ints)
mul_low (negsuc a) size p q low less =
    let most : suc a * p ≤ size * q = mul-le (suc a) p size q (omega (arith, ints, low)) less in omega (arith, ints, most)

-- and with one of at least this size
pub mul_above : (n : ℤ) (size p : ℕ) → pos size ≤ℤ n → pos (size * p) ≤ℤ (n *ℤ pos p)
mul_above (pos a) size p most =
    let least : size * p ≤ a * p = mul-le size p a p (omega (arith, ints, most)) (omega arith) in omega (arith, ints, least)
mul_above (negsuc a) size p most = absurd (omega (arith, ints, most))

pub mul_below : (n : ℤ) (size p : ℕ) → n ≤ℤ neg_ℤ (pos size) → 0 < size → (n *ℤ pos p) ≤ℤ neg_ℤ (pos (size * p))
mul_below (pos a) size p most some = absurd (omega (arith, ints, most, some))
mul_below (negsuc a) size p most some =
    let least : size * p ≤ suc a * p = mul-le size p (suc a) p (omega (arith, ints, most)) (omega arith) in omega (arith, ints, least)

-- products of two bounded numbers
pub record IsBounded (bound : ℕ) (z : ℤ) : Type 0 where
  pub low : neg_ℤ (pos bound) ≤ℤ z
  pub high : z ≤ℤ pos bound

pub bounded_product : (a b : ℤ) (m n : ℕ) → IsBounded m a → IsBounded n b → IsBounded (m * n) (a *ℤ b)
bounded_product a (pos q) m n in_m in_n =
    let few : q ≤ n = (let high = in_n.high in omega (arith, ints, high)) in
    record { low = mul_low a m q n in_m.low few; high = mul_high a m q n in_m.high few }
bounded_product a (negsuc q) m n in_m in_n =
    let few : suc q ≤ n = (let low = in_n.low in omega (arith, ints, low)) in
    negated _ _ (m * n) (*ℤ-negsuc a q) (mul_low a m (suc q) n in_m.low few) (mul_high a m (suc q) n in_m.high few)
  where
    negated : (x y : ℤ) (k : ℕ) → x ≡ neg_ℤ y → neg_ℤ (pos k) ≤ℤ y → y ≤ℤ pos k → IsBounded k x
    negated x y k is low high = record { low = omega (arith, ints, is, low, high); high = omega (arith, ints, is, low, high) }

-- a number that a machine has for a product
pub of_machine : (r a b : ℤ) (m n : ℕ) → IsBounded m a → IsBounded n b → m * n ≤ 2 ^ 110 → FitsSigned w128 a → FitsSigned w128 b →
    r ≡ to_z w128 (of_z w128 (to_z w128 (of_z w128 a) *ℤ to_z w128 (of_z w128 b))) → (r ≡ a *ℤ b) × IsBounded (m * n) r
of_machine r a b m n in_m in_n few fits_a fits_b is =
    let bounds = bounded_product a b m n in_m in_n in
    let same : r ≡ a *ℤ b = is ∙ (ap (λ z. to_z w128 (of_z w128 (z *ℤ to_z w128 (of_z w128 b)))) (to_z-of_z w128 a fits_a) ∙
    (ap (λ z. to_z w128 (of_z w128 (a *ℤ z))) (to_z-of_z w128 b fits_b) ∙ to_z-of_z w128 (a *ℤ b) (fits_by _ (m * n) bounds few))) in
    (same, subst (IsBounded (m * n)) (sym same) bounds)
  where
    fits_by : (z : ℤ) (k : ℕ) → IsBounded k z → k ≤ 2 ^ 110 → FitsSigned w128 z
    fits_by z k bounds few = let low = bounds.low in let high = bounds.high in omega (arith, ints, low, high, few)
