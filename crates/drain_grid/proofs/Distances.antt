-- Keys compare as slopes do: products across of squared drops and squared distances. In each direction the weight times
-- the square of the distance is one number, the product of the three squares.
use Rattle.drain_grid.proofs.Names.{◌≡◌, ℕ, ◌*◌, ◌<◌, ◌≤◌, ◌↔◌, ℤ, pos, ◌*ℤ◌, ◌<ℤ◌, if◌then◌else◌, inl, inr, refl, sym, ◌∙◌, ap, subst, arith, mul-le-mul_left, mul-le-mul_right, le_of_mul-le-mul_right, mul_comm, mul_assoc, cases_lt, ints, mul-le, mul-lt, Direction, East, SouthEast, South, SouthWest, West, NorthWest, North, NorthEast, slope_key, is_straight, Distances, unit_spacing, IsSpacing, row_square, col_square, corner_square, distance_square, weight_of}

-- a product of three in another order
swap_last : (a b c : ℕ) → (a * b) * c ≡ (a * c) * b
swap_last a b c = mul_assoc a b c ∙ (ap (λ x. a * x) (mul_comm b c) ∙ sym (mul_assoc a c b))

-- the product of the three squared distances
whole : Distances → ℕ
whole s = (row_square s * col_square s) * corner_square s

of_row : (r c k : ℕ) → (c * k) * r ≡ (r * c) * k
of_row r c k = mul_comm (c * k) r ∙ sym (mul_assoc r c k)

of_col : (r c k : ℕ) → (r * k) * c ≡ (r * c) * k
of_col r c k = swap_last r k c

-- each weight times its own square is that product
weighs : (s : Distances) (d : Direction) → weight_of s d * distance_square s d ≡ whole s
unfolding whole
weighs s East = of_row (row_square s) (col_square s) (corner_square s)
weighs s SouthEast = refl
weighs s South = of_col (row_square s) (col_square s) (corner_square s)
weighs s SouthWest = refl
weighs s West = of_row (row_square s) (col_square s) (corner_square s)
weighs s NorthWest = refl
weighs s North = of_col (row_square s) (col_square s) (corner_square s)
weighs s NorthEast = refl

positive : (s : Distances) → IsSpacing s → (0 < row_square s) × (0 < col_square s) × (0 < corner_square s)
positive s valid =
    let row : 0 < s.width * s.width = mul-lt 0 0 s.width s.width valid.width.some valid.width.some in
    let col : 0 < s.height * s.height = mul-lt 0 0 s.height s.height valid.height.some valid.height.some in
    (row, col, omega (arith, row, col))

-- a squared distance is above 0
pub distance_above_0 : (s : Distances) (d : Direction) → IsSpacing s → 0 < distance_square s d
distance_above_0 s East valid = (positive s valid).0
distance_above_0 s SouthEast valid = (positive s valid).2
distance_above_0 s South valid = (positive s valid).1
distance_above_0 s SouthWest valid = (positive s valid).2
distance_above_0 s West valid = (positive s valid).0
distance_above_0 s NorthWest valid = (positive s valid).2
distance_above_0 s North valid = (positive s valid).1
distance_above_0 s NorthEast valid = (positive s valid).2

-- and so is a weight
pub weight_above_0 : (s : Distances) (d : Direction) → IsSpacing s → 0 < weight_of s d
weight_above_0 s East valid = let h = positive s valid in mul-lt 0 0 (col_square s) (corner_square s) h.1 h.2
weight_above_0 s SouthEast valid = let h = positive s valid in mul-lt 0 0 (row_square s) (col_square s) h.0 h.1
weight_above_0 s South valid = let h = positive s valid in mul-lt 0 0 (row_square s) (corner_square s) h.0 h.2
weight_above_0 s SouthWest valid = let h = positive s valid in mul-lt 0 0 (row_square s) (col_square s) h.0 h.1
weight_above_0 s West valid = let h = positive s valid in mul-lt 0 0 (col_square s) (corner_square s) h.1 h.2
weight_above_0 s NorthWest valid = let h = positive s valid in mul-lt 0 0 (row_square s) (col_square s) h.0 h.1
weight_above_0 s North valid = let h = positive s valid in mul-lt 0 0 (row_square s) (corner_square s) h.0 h.2
weight_above_0 s NorthEast valid = let h = positive s valid in mul-lt 0 0 (row_square s) (col_square s) h.0 h.1

-- of two fractions x / p and y / q whose weights u and v have u * p and v * q equal: by weights as by products across
across : (u v p q x y k : ℕ) → u * p ≡ k → v * q ≡ k → 0 < k → 0 < p → 0 < q → u * x ≤ v * y → x * q ≤ y * p
across u v p q x y k up vq some_k some_p some_q least =
    -- (u * x) * (p * q) is k * (x * q), and likewise on the other side
    let left : (u * x) * (p * q) ≡ (x * q) * k = regroup u x p q ∙ ap (λ z. (x * q) * z) up in
    let right : (v * y) * (p * q) ≡ (y * p) * k = ap (λ z. (v * y) * z) (mul_comm p q) ∙ (regroup v y q p ∙ ap (λ z. (y * p) * z) vq) in
    le_of_mul-le-mul_right (subst (λ z. z ≤ (y * p) * k) left (subst (λ z. (u * x) * (p * q) ≤ z) right (mul-le-mul_right (p * q) least))) some_k
  where
    regroup : (a b c d : ℕ) → (a * b) * (c * d) ≡ (b * d) * (a * c)
    regroup a b c d =
        sym (mul_assoc (a * b) c d) ∙ (ap (λ z. z * d) (swap_last a b c) ∙ (mul_assoc (a * c) b d ∙ mul_comm (a * c) (b * d)))

back : (u v p q x y k : ℕ) → u * p ≡ k → v * q ≡ k → 0 < k → 0 < p → 0 < q → x * q ≤ y * p → u * x ≤ v * y
back u v p q x y k up vq some_k some_p some_q least =
    let left : (u * x) * (p * q) ≡ (x * q) * k = regroup u x p q ∙ ap (λ z. (x * q) * z) up in
    let right : (v * y) * (p * q) ≡ (y * p) * k = ap (λ z. (v * y) * z) (mul_comm p q) ∙ (regroup v y q p ∙ ap (λ z. (y * p) * z) vq) in
    le_of_mul-le-mul_right (subst (λ z. z ≤ (v * y) * (p * q)) (sym left) (subst (λ z. (x * q) * k ≤ z) (sym right) (mul-le-mul_right k least)))
    (mul-lt 0 0 p q some_p some_q)
  where
    regroup : (a b c d : ℕ) → (a * b) * (c * d) ≡ (b * d) * (a * c)
    regroup a b c d =
        sym (mul_assoc (a * b) c d) ∙ (ap (λ z. z * d) (swap_last a b c) ∙ (mul_assoc (a * c) b d ∙ mul_comm (a * c) (b * d)))

one_mul : (drop : ℤ) → pos 1 *ℤ (drop *ℤ drop) ≡ drop *ℤ drop
one_mul drop = once (drop *ℤ drop)
  where
    once : (z : ℤ) → pos 1 *ℤ z ≡ z
    once z = omega (arith, ints)

-- the key of a drop is a natural number
key_of_natural : (weight drop : ℕ) → slope_key weight (pos drop) ≡ pos (weight * (drop * drop))
key_of_natural weight drop = refl

-- a way is steeper exactly where its product across is greater
pub steeper_across : (s : Distances) (d e : Direction) (x y : ℕ) → IsSpacing s →
    ((y * y) * distance_square s d < (x * x) * distance_square s e) ↔
    (slope_key (weight_of s e) (pos y) <ℤ slope_key (weight_of s d) (pos x))
steeper_across s d e x y valid =
    let p = distance_above_0 s d valid in
    let q = distance_above_0 s e valid in
    let k : 0 < weight_of s d * distance_square s d = mul-lt 0 0 (weight_of s d) (distance_square s d) (weight_above_0 s d valid) p in
    let same : weight_of s e * distance_square s e ≡ weight_of s d * distance_square s d = weighs s e ∙ sym (weighs s d) in
    let to = across (weight_of s d) (weight_of s e) (distance_square s d) (distance_square s e) (x * x) (y * y) (weight_of s d * distance_square s d) refl same k p q in
    let from = back (weight_of s d) (weight_of s e) (distance_square s d) (distance_square s e) (x * x) (y * y) (weight_of s d * distance_square s d) refl same k p q in (
      (λ h. elim (cases_lt (weight_of s e * (y * y)) (weight_of s d * (x * x))) [
        | inl less ↦ less_keys _ _ _ _ (key_of_natural (weight_of s e) y) (key_of_natural (weight_of s d) x) less
        | inr not_less ↦ absurd (let most = to not_less in omega (arith, most, h))
      ]),
      (λ h. elim (cases_lt ((y * y) * distance_square s d) ((x * x) * distance_square s e)) [
        | inl less ↦ less
        | inr not_less ↦ absurd (
            let most = from not_less in
            let less = less_numbers _ _ _ _ (key_of_natural (weight_of s e) y) (key_of_natural (weight_of s d) x) h in
            omega (arith, most, less))
      ]),
    )
  where
    less_keys : (a b : ℤ) (x y : ℕ) → a ≡ pos x → b ≡ pos y → x < y → a <ℤ b
    less_keys a b x y is_x is_y h = omega (arith, ints)

    less_numbers : (a b : ℤ) (x y : ℕ) → a ≡ pos x → b ≡ pos y → a <ℤ b → x < y
    less_numbers a b x y is_x is_y h = omega (arith, ints)

-- on unit spacing keys are those of squares
pub keys_on_unit_spacing : (d : Direction) (drop : ℤ) →
    slope_key (weight_of unit_spacing d) drop ≡ (if is_straight d then pos 2 *ℤ (drop *ℤ drop) else drop *ℤ drop)
keys_on_unit_spacing East drop = refl
keys_on_unit_spacing SouthEast drop = one_mul drop
keys_on_unit_spacing South drop = refl
keys_on_unit_spacing SouthWest drop = one_mul drop
keys_on_unit_spacing West drop = refl
keys_on_unit_spacing NorthWest drop = one_mul drop
keys_on_unit_spacing North drop = refl
keys_on_unit_spacing NorthEast drop = one_mul drop

-- a fraction q / p that is no greater than the ratio of two distances decides by two products: what passes is no steeper
pub by_fraction : (x y p q lm ln : ℕ) → 0 < p → x * p ≤ y * q → ln * (q * q) ≤ lm * (p * p) → (x * x) * ln ≤ (y * y) * lm
by_fraction x y p q lm ln some least ratio =
    let squares : (x * p) * (x * p) ≤ (y * q) * (y * q) = mul-le (x * p) (x * p) (y * q) (y * q) least least in
    let first : ((x * p) * (x * p)) * ln ≤ ((y * q) * (y * q)) * ln = mul-le-mul_right ln squares in
    let second : (y * y) * (ln * (q * q)) ≤ (y * y) * (lm * (p * p)) = mul-le-mul_left (y * y) ratio in
    let left : ((x * p) * (x * p)) * ln ≡ ((x * x) * ln) * (p * p) = ap (λ z. z * ln) (squared x p) ∙ swap_last (x * x) (p * p) ln in
    let middle : ((y * q) * (y * q)) * ln ≡ (y * y) * (ln * (q * q)) =
    ap (λ z. z * ln) (squared y q) ∙ (mul_assoc (y * y) (q * q) ln ∙ ap (λ z. (y * y) * z) (mul_comm (q * q) ln)) in
    let right : (y * y) * (lm * (p * p)) ≡ ((y * y) * lm) * (p * p) = sym (mul_assoc (y * y) lm (p * p)) in
    le_of_mul-le-mul_right
    (subst (λ z. z ≤ ((y * y) * lm) * (p * p)) left (subst (λ z. ((x * p) * (x * p)) * ln ≤ z) right
    (le_trans _ _ _ (subst (λ z. ((x * p) * (x * p)) * ln ≤ z) middle first) second)))
    (mul-lt 0 0 p p some some)
  where
    squared : (a b : ℕ) → (a * b) * (a * b) ≡ (a * a) * (b * b)
    squared a b = sym (mul_assoc (a * b) a b) ∙ (ap (λ z. z * b) (swap_last a b a) ∙ mul_assoc (a * a) b b)

    le_trans : (a b c : ℕ) → a ≤ b → b ≤ c → a ≤ c
    le_trans a b c h k = omega (arith, h, k)
