-- A text has one answer: what it describes is computed from its lines, and no two faults have the same place.
use Rattle.drain_header.proofs.Names.{◌+◌, ◌*◌, ◌/◌, ◌%◌, ◌<◌, ◌∷◌, arith, sym, ap, ◌∙◌, inl, inr, cond, ◌==◌, slice_get, Option, Some, None, option_and_then, option_map, Result, Ok, Err, ne_eqb, IsFirst, HeightKind, Whole, HeaderFault, TooLong, RepeatedKey, BadValue, MissingKey, NotOneBand, BadBits, BadPixelType, RowTooShort, Fields, keys, fault_order, HasFaultOf, AnswersOf, Answers}
use Rattle.std.proofs.Common.{◌≡◌, ℕ, List, [], refl}
use Rattle.std.proofs.lemmas.Bool.{eq-eqb}
use Rattle.drain_header.proofs.AnswerTests.{key_place}

-- the fault of a line that has this second number
abbrev line_fault_at : ℕ → HeaderFault
line_fault_at m = cond (m % 2 == 0) (RepeatedKey (m / 2)) (BadValue (m / 2))

-- the fault at a place
abbrev fault_at : ℕ → ℕ → Option HeaderFault
fault_at k m =
    option_and_then (λ fault. fault)
    (slice_get (None ∷ Some TooLong ∷ Some (line_fault_at m) ∷ option_map (λ key. MissingKey key) (slice_get keys m) ∷ Some NotOneBand ∷ Some BadBits ∷ Some BadPixelType ∷ Some RowTooShort ∷ []) k)

fault_there : (f : HeaderFault) → fault_at (fault_order f).0 (fault_order f).1 ≡ Some f
fault_there TooLong = refl
fault_there (RepeatedKey n) =
    ap (λ b. Some (cond b (RepeatedKey (2 * n / 2)) (BadValue (2 * n / 2)))) (eq-eqb (2 * n % 2) 0 (omega arith))
    ∙ ap (λ (m : ℕ). Some (RepeatedKey m)) (omega arith)
fault_there (BadValue n) =
    ap (λ b. Some (cond b (RepeatedKey ((2 * n + 1) / 2)) (BadValue ((2 * n + 1) / 2)))) (ne_eqb ((2 * n + 1) % 2) 0 (λ e. omega (arith, e)))
    ∙ ap (λ (m : ℕ). Some (BadValue m)) (omega arith)
fault_there (MissingKey key) = ap (option_map (λ k. MissingKey k)) (key_place key)
fault_there NotOneBand = refl
fault_there BadBits = refl
fault_there BadPixelType = refl
fault_there RowTooShort = refl

same_number : (a b : ℕ) → (a < b → ⊥) → (b < a → ⊥) → a ≡ b
same_number a b above below = omega arith

one_fault : (kind : HeightKind) (text : List ℕ) (f g : HeaderFault) → IsFirst fault_order (HasFaultOf kind text) f → IsFirst fault_order (HasFaultOf kind text) g → f ≡ g
one_fault kind text f g p q =
    let kind = same_number (fault_order f).0 (fault_order g).0 (λ h. q.first f (inl h) p.holds) (λ h. p.first g (inl h) q.holds) in
    let within = same_number (fault_order f).1 (fault_order g).1 (λ h. q.first f (inr (kind, h)) p.holds) (λ h. p.first g (inr (sym kind, h)) q.holds) in
    let there = sym (fault_there f) ∙ ap (λ (k : ℕ). fault_at k (fault_order f).1) kind ∙ ap (fault_at (fault_order g).0) within ∙ fault_there g in
    cc

pub one_answer_of : (kind : HeightKind) (text : List ℕ) (a b : Result Fields HeaderFault) → AnswersOf kind text a → AnswersOf kind text b → a ≡ b
one_answer_of kind text (Ok g) (Ok h) p q = ap (λ x. Ok x) (p.fields ∙ sym q.fields)
one_answer_of kind text (Ok g) (Err f) p q = absurd (p.sound f q.holds)
one_answer_of kind text (Err f) (Ok h) p q = absurd (q.sound f p.holds)
one_answer_of kind text (Err f) (Err g) p q = ap (λ x. Err x) (one_fault kind text f g p q)

-- of whole heights
pub one_answer : (text : List ℕ) (a b : Result Fields HeaderFault) → Answers text a → Answers text b → a ≡ b
one_answer text a b p q = one_answer_of Whole text a b p q
