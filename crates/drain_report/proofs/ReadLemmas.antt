-- Numbers that are read one after another, and numbers that are appended.
use Rattle.drain_report.proofs.Names.{◌≡◌, ℕ, zero, suc, ◌+◌, ◌<◌, ◌⊎◌, List, [], ◌∷◌, ◌++◌, ℤ, length, take, get_or, arith, refl, sym, ap, ◌∙◌, length-append, append-nil, append_assoc, rules, signed_decimal, take_more, IsLong, AreLong, line, spaced, IsNumberThen}

pub spaced-append : (xs ys : List ℤ) → spaced (xs ++ ys) ≡ spaced xs ++ spaced ys
spaced-append [] ys = refl
spaced-append (x ∷ xs) ys = ap (λ t. 32 ∷ (signed_decimal x ++ t)) (spaced-append xs ys) ∙ sym (append_assoc (32 ∷ signed_decimal x) (spaced xs) (spaced ys))

-- one number more is read
pub sound_more : (text rest after : List ℕ) (done more : List ℤ) (n : ℤ) → text ≡ spaced done ++ rest → rest ≡ 32 ∷ (signed_decimal n ++ after) → more ≡ done ++ n ∷ [] → text ≡ spaced more ++ after
sound_more text rest after done more n was next is =
    was ∙ ap (λ t. spaced done ++ t) next
    ∙ sym (append_assoc (spaced done) (32 ∷ signed_decimal n) after)
    ∙ ap (λ t. (spaced done ++ t) ++ after) (sym (append-nil (32 ∷ signed_decimal n)))
    ∙ ap (λ t. t ++ after) (sym (spaced-append done (n ∷ [])))
    ∙ ap (λ ns. spaced ns ++ after) (sym is)

-- of the numbers that a text has, these are read, and the rest has the others and the byte e after them
pub record IsLeft (ns done : List ℤ) (rest : List ℕ) (e : ℕ) (after : List ℕ) : Type 0 where
  pub left : List ℤ
  pub whole : ns ≡ done ++ left
  pub long : AreLong left
  pub ends : (e ≡ 32) ⊎ (e ≡ 10)
  pub is : rest ≡ spaced left ++ e ∷ after

-- the next one of them
pub record IsNext (ns done : List ℤ) (rest : List ℕ) (e : ℕ) (after : List ℕ) : Type 0 where
  pub n : ℤ
  pub c : ℕ
  pub then : List ℕ
  pub number : IsNumberThen rest n c then
  pub left : IsLeft ns (done ++ n ∷ []) (c ∷ then) e after

next_of : (ns done left : List ℤ) (rest : List ℕ) (e : ℕ) (after : List ℕ) → ns ≡ done ++ left → AreLong left → (e ≡ 32) ⊎ (e ≡ 10) → rest ≡ spaced left ++ e ∷ after → length done < length ns → IsNext ns done rest e after
next_of ns done [] rest e after whole long ends is less = absurd (omega (arith, ap length whole, length-append done []))
next_of ns done (n ∷ []) rest e after whole long ends is less = record {
  n = n;
  c = e;
  then = after;
  number = record { long = long.0; ends = ends; is = is ∙ ap (λ t. 32 ∷ (t ++ e ∷ after)) (append-nil (signed_decimal n)) };
  left = record { left = []; whole = whole ∙ sym (append-nil (done ++ n ∷ [])); long = tt; ends = ends; is = refl };
}
next_of ns done (n ∷ (m ∷ left)) rest e after whole long ends is less = record {
  n = n;
  c = 32;
  then = signed_decimal m ++ spaced left ++ e ∷ after;
  number = record { long = long.0; ends = search rules; is = is ∙ simp append_assoc };
  left = record { left = m ∷ left; whole = whole ∙ sym (append_assoc done (n ∷ []) (m ∷ left)); long = long.1; ends = ends; is = simp append_assoc };
}

pub next : (ns done : List ℤ) (rest : List ℕ) (e : ℕ) (after : List ℕ) → IsLeft ns done rest e after → length done < length ns → IsNext ns done rest e after
next ns done rest e after h less = next_of ns done h.left rest e after h.whole h.long h.ends h.is less

-- none is left
none_of : (ns done left : List ℤ) (rest : List ℕ) (e : ℕ) (after : List ℕ) → ns ≡ done ++ left → rest ≡ spaced left ++ e ∷ after → length done ≡ length ns → (done ≡ ns) × (rest ≡ e ∷ after)
none_of ns done [] rest e after whole is same = (sym (whole ∙ append-nil done), is)
none_of ns done (n ∷ left) rest e after whole is same = absurd (omega (arith, ap length whole, length-append done (n ∷ left)))

pub none_left : (ns done : List ℤ) (rest : List ℕ) (e : ℕ) (after : List ℕ) → IsLeft ns done rest e after → length done ≡ length ns → (done ≡ ns) × (rest ≡ e ∷ after)
none_left ns done rest e after h same = none_of ns done h.left rest e after h.whole h.is same

-- one number more is appended
pub pushed_more : (ns : List ℤ) (k : ℕ) (d : ℤ) (before was now : List ℕ) → k < length ns → was ≡ before ++ spaced (take k ns) → now ≡ was ++ 32 ∷ signed_decimal (get_or ns k d) → now ≡ before ++ spaced (take (k + 1) ns)
pushed_more ns k d before was now less had is =
    is ∙ ap (λ t. t ++ 32 ∷ signed_decimal (get_or ns k d)) had
    ∙ append_assoc before (spaced (take k ns)) (32 ∷ signed_decimal (get_or ns k d))
    ∙ ap (λ t. before ++ (spaced (take k ns) ++ t)) (sym (append-nil (32 ∷ signed_decimal (get_or ns k d))))
    ∙ ap (λ t. before ++ t) (sym (spaced-append (take k ns) (get_or ns k d ∷ [])))
    ∙ ap (λ t. before ++ spaced t) (sym (take_more ns k d less))

pub long_at : (ns : List ℤ) (k : ℕ) (d : ℤ) → AreLong ns → k < length ns → IsLong (get_or ns k d)
long_at [] k d long less = absurd (omega arith)
long_at (n ∷ ns) zero d long less = long.0
long_at (n ∷ ns) (suc k) d long less = long_at ns k d long.1 (omega arith)

-- the next number was read
pub read_more : (ns done more : List ℤ) (rest : List ℕ) (e : ℕ) (after : List ℕ) (n : ℤ) {was : List ℕ} (step : IsNext ns done was e after) → n ≡ step.n → rest ≡ step.c ∷ step.then → more ≡ done ++ n ∷ [] → IsLeft ns more rest e after
read_more ns done more rest e after n step number text is = rw (is, number, text) step.left

pub line_split : (word : List ℕ) (ns : List ℤ) (rest : List ℕ) → line word ns ++ rest ≡ word ++ (spaced ns ++ 10 ∷ rest)
line_split word ns rest = append_assoc word (spaced ns ++ 10 ∷ []) rest ∙ ap (λ t. word ++ t) (append_assoc (spaced ns) (10 ∷ []) rest)

pub long-append : (xs ys : List ℤ) → AreLong xs → AreLong ys → AreLong (xs ++ ys)
long-append [] ys p q = q
long-append (x ∷ xs) ys p q = (p.0, long-append xs ys p.1 q)
