-- Products across of squared drops, as sums of products of heights.
use Rattle.drain_slope.proofs.Names.{◌≡◌, ℕ, ◌+◌, ◌*◌, ◌^◌, ◌<◌, ◌↔◌, ℤ, pos, neg_ℤ, ◌+ℤ◌, ◌-ℤ◌, ◌*ℤ◌, ◌<ℤ◌, sym, ◌∙◌, ap, arith, *ℤ_comm, *ℤ-zero, ints, pow-add}
use Rattle.drain_slope.proofs.Products.{associates, distributes, distributes_left, mul_neg}

-- factors in another order
swap_middle : (a b c d : ℤ) → (a *ℤ b) *ℤ (c *ℤ d) ≡ (a *ℤ c) *ℤ (b *ℤ d)
swap_middle a b c d =
    associates a b (c *ℤ d) ∙ (ap (λ z. a *ℤ z) (sym (associates b c d) ∙ (ap (λ z. z *ℤ d) (*ℤ_comm b c) ∙ associates c b d)) ∙ sym (associates a c (b *ℤ d)))

-- the product of two terms and a factor
pub product_value : (a b k r : ℤ) (i j : ℕ) → r ≡ (a *ℤ b) *ℤ k → r *ℤ pos (2 ^ (i + j)) ≡ ((a *ℤ pos (2 ^ i)) *ℤ (b *ℤ pos (2 ^ j))) *ℤ k
product_value a b k r i j is =
    let power : pos (2 ^ (i + j)) ≡ pos (2 ^ i) *ℤ pos (2 ^ j) = ap pos (pow-add 2 i j) in
    let both = pos (2 ^ i) *ℤ pos (2 ^ j) in
    ap (λ z. z *ℤ pos (2 ^ (i + j))) is ∙ (ap (λ z. ((a *ℤ b) *ℤ k) *ℤ z) power ∙
    (associates (a *ℤ b) k both ∙ (ap (λ z. (a *ℤ b) *ℤ z) (*ℤ_comm k both) ∙ (sym (associates (a *ℤ b) both k) ∙
    ap (λ z. z *ℤ k) (swap_middle a b (pos (2 ^ i)) (pos (2 ^ j)))))))

-- the square of a difference
square_of_difference : (h f x : ℤ) → h ≡ x +ℤ f → (x *ℤ x) +ℤ ((h *ℤ f) +ℤ (h *ℤ f)) ≡ (h *ℤ h) +ℤ (f *ℤ f)
square_of_difference h f x is =
    let hf : h *ℤ f ≡ (x *ℤ f) +ℤ (f *ℤ f) = ap (λ z. z *ℤ f) is ∙ distributes x f f in
    let hx : h *ℤ x ≡ (x *ℤ x) +ℤ (f *ℤ x) = ap (λ z. z *ℤ x) is ∙ distributes x f x in
    let hh : h *ℤ h ≡ (h *ℤ x) +ℤ (h *ℤ f) = ap (λ z. h *ℤ z) is ∙ distributes_left x f h in
    gathers (x *ℤ x) (h *ℤ f) (h *ℤ h) (f *ℤ f) (x *ℤ f) (f *ℤ x) (h *ℤ x) hf hx hh (*ℤ_comm x f)
  where
    gathers : (xx hf hh ff xf fx hx : ℤ) → hf ≡ xf +ℤ ff → hx ≡ xx +ℤ fx → hh ≡ hx +ℤ hf → xf ≡ fx → xx +ℤ (hf +ℤ hf) ≡ hh +ℤ ff
    gathers xx hf hh ff xf fx hx a b c d = omega (arith, ints, a, b, c, d)

-- the same times a factor
square_times : (h f x k : ℤ) → h ≡ x +ℤ f → ((x *ℤ x) *ℤ k) +ℤ (((h *ℤ f) *ℤ k) +ℤ ((h *ℤ f) *ℤ k)) ≡ ((h *ℤ h) *ℤ k) +ℤ ((f *ℤ f) *ℤ k)
square_times h f x k is =
    sym (distributes (x *ℤ x) ((h *ℤ f) +ℤ (h *ℤ f)) k ∙ ap (λ z. ((x *ℤ x) *ℤ k) +ℤ z) (distributes (h *ℤ f) (h *ℤ f) k))
    ∙ (ap (λ z. z *ℤ k) (square_of_difference h f x is) ∙ distributes (h *ℤ h) (f *ℤ f) k)

-- a factor that is a difference, or twice a number
times_difference : (c a b d : ℤ) → d ≡ a -ℤ b → (c *ℤ d) +ℤ (c *ℤ b) ≡ c *ℤ a
times_difference c a b d is = sym (distributes_left d b c) ∙ ap (λ z. c *ℤ z) (adds a b d is)
  where
    adds : (a b d : ℤ) → d ≡ a -ℤ b → d +ℤ b ≡ a
    adds a b d h = omega (arith, ints, h)

times_twice : (c : ℤ) (n : ℕ) → c *ℤ pos (2 * n) ≡ (c *ℤ pos n) +ℤ (c *ℤ pos n)
times_twice c n = ap (λ z. c *ℤ z) (doubled n) ∙ distributes_left (pos n) (pos n) c
  where
    doubled : (n : ℕ) → pos (2 * n) ≡ pos n +ℤ pos n
    doubled n = omega (arith, ints)

-- five products of heights come to the difference of the products across
pub products_across : (h f s x y a b c d e da db dc : ℤ) (o v : ℕ) → x ≡ h -ℤ f → y ≡ h -ℤ s →
    da ≡ pos o -ℤ pos v → a ≡ (h *ℤ h) *ℤ da → db ≡ pos o -ℤ pos 0 → b ≡ (f *ℤ f) *ℤ db → dc ≡ pos 0 -ℤ pos v → c ≡ (s *ℤ s) *ℤ dc →
    d ≡ (h *ℤ f) *ℤ neg_ℤ (pos (2 * o)) → e ≡ (h *ℤ s) *ℤ pos (2 * v) →
    (a +ℤ (b +ℤ (c +ℤ (d +ℤ e)))) +ℤ ((y *ℤ y) *ℤ pos v) ≡ (x *ℤ x) *ℤ pos o
products_across h f s x y a b c d e da db dc o v is_x is_y is_da is_a is_db is_b is_dc is_c is_d is_e =
    let first = square_times h f x (pos o) (adds h f x is_x) in
    let second = square_times h s y (pos v) (adds h s y is_y) in
    let ha = times_difference (h *ℤ h) (pos o) (pos v) da is_da in
    let hb = times_difference (f *ℤ f) (pos o) (pos 0) db is_db in
    let hc = times_difference (s *ℤ s) (pos 0) (pos v) dc is_dc in
    let hd = mul_neg (h *ℤ f) (pos (2 * o)) in
    let he = times_twice (h *ℤ f) o in
    let hg = times_twice (h *ℤ s) v in
    gathers a b c d e ((h *ℤ h) *ℤ da) ((f *ℤ f) *ℤ db) ((s *ℤ s) *ℤ dc) ((h *ℤ f) *ℤ neg_ℤ (pos (2 * o))) ((h *ℤ s) *ℤ pos (2 * v))
    ((h *ℤ f) *ℤ pos (2 * o)) ((h *ℤ h) *ℤ pos o) ((h *ℤ h) *ℤ pos v) ((f *ℤ f) *ℤ pos o) ((f *ℤ f) *ℤ pos 0) ((s *ℤ s) *ℤ pos v) ((s *ℤ s) *ℤ pos 0)
    ((h *ℤ f) *ℤ pos o) ((h *ℤ s) *ℤ pos v) ((x *ℤ x) *ℤ pos o) ((y *ℤ y) *ℤ pos v)
    is_a is_b is_c is_d is_e ha hb hc hd he hg (*ℤ-zero (f *ℤ f)) (*ℤ-zero (s *ℤ s)) first second
  where
    adds : (h f x : ℤ) → x ≡ h -ℤ f → h ≡ x +ℤ f
    adds h f x is = omega (arith, ints, is)

    gathers : (a b c d e ta tb tc td te hfd hho hhv ffo ff0 ssv ss0 hfo hsv xxo yyv : ℤ) → a ≡ ta → b ≡ tb → c ≡ tc → d ≡ td → e ≡ te →
        ta +ℤ hhv ≡ hho → tb +ℤ ff0 ≡ ffo → tc +ℤ ssv ≡ ss0 → td ≡ neg_ℤ hfd → hfd ≡ hfo +ℤ hfo → te ≡ hsv +ℤ hsv → ff0 ≡ pos 0 → ss0 ≡ pos 0 →
        xxo +ℤ (hfo +ℤ hfo) ≡ hho +ℤ ffo → yyv +ℤ (hsv +ℤ hsv) ≡ hhv +ℤ ssv → (a +ℤ (b +ℤ (c +ℤ (d +ℤ e)))) +ℤ yyv ≡ xxo
    gathers a b c d e ta tb tc td te hfd hho hhv ffo ff0 ssv ss0 hfo hsv xxo yyv ha hb hc hd he h1 h2 h3 h4 h5 h6 h7 h8 h9 h10 =
        omega (arith, ints, ha, hb, hc, hd, he, h1, h2, h3, h4, h5, h6, h7, h8, h9, h10)

-- so the sum is above 0 exactly where the first product across is greater
pub sum_decides : (total : ℤ) (x y o v : ℕ) → total +ℤ ((pos y *ℤ pos y) *ℤ pos v) ≡ (pos x *ℤ pos x) *ℤ pos o → (pos 0 <ℤ total) ↔ ((y * y) * v < (x * x) * o)
sum_decides total x y o v is = by_products total ((y * y) * v) ((x * x) * o) is
  where
    by_products : (t : ℤ) (m n : ℕ) → t +ℤ pos m ≡ pos n → (pos 0 <ℤ t) ↔ (m < n)
    by_products t m n is = ((λ h. omega (arith, ints, is, h)), (λ h. omega (arith, ints, is, h)))
