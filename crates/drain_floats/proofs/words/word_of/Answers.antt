use Rattle.drain_floats.proofs.Names.{◌≡◌, ℕ, [], ◌∷◌, ℤ, pos, of_z, refl, sym, ◌∙◌, ap, subst, arith, rules, inl, inr, option_map, w64, binary32, ints, to_z-of_z, T, of_bits, nan_bits, not, pattern_of, IsSingle, IsFloatNumber, float_number, IsFloatWord}
use Rattle.std.specs.Prelude.{Some}
use Rattle.std.proofs.lemmas.Float.Parse.{parse_float_on_literals}
use lib.Ieee.{to_bits}
use Rattle.drain_floats.proofs.Spelling
use Rattle.drain_floats.proofs.words.word_of.Goals as goal
use Rattle.drain_floats.proofs.words.word_of.Goals.{After-pattern}

-- the word of the NaNs
nan_word : IsFloatWord (pos 2143289344) (110 ∷ 97 ∷ 110 ∷ [])
unfolding parse_float_on_literals to_bits
nan_word = record { reads = refl; some = omega arith; short = omega arith; ink = (omega arith, (omega arith, (omega arith, tt))) }

pub returns-then-number-eq-NAN : goal.returns-then-number-eq-NAN
returns-then-number-eq-NAN c =
    let is : c.args.number ≡ pos 2143289344 = omega (arith, ints) in
    subst (λ (n : ℤ). IsFloatWord n (110 ∷ 97 ∷ 110 ∷ [])) (sym is) nan_word

-- a number that isn't theirs
single : (n : ℤ) → IsFloatNumber n → (n ≡ pos 2143289344 → ⊥) → IsSingle n
single n (inl is) other = is
single n (inr nan) other = absurd (other nan)

module _ (c : After-pattern) where
  is_single : IsSingle c.args.number
  is_single = single c.args.number c.requires (λ e. c.if-number-eq-NAN.false (ap (of_z w64) e))

  is_pattern : c.pattern.result ≡ pattern_of c.args.number
  is_pattern = c.pattern.ensures.value ∙ ap pattern_of (to_z-of_z w64 c.args.number (search rules))

pub float_from_bits-pattern : goal.float_from_bits-pattern
float_from_bits-pattern c = subst (λ (p : ℕ). T (not (nan_bits binary32 p))) (sym (is_pattern c)) (Spelling.no_nan c.args.number (is_single c))

pub returns : goal.returns
returns c =
    let at = (goal.at.returns c).After-pattern in
    let ink = Spelling.word_ink (of_bits binary32 c.pattern.result) c.format.result.now c.format.ensures.plain c.format.ensures.word in
    record {
      reads = ap (option_map float_number) c.format.ensures.parses ∙ ap (λ (p : ℕ). Some (float_number (of_bits binary32 p))) (is_pattern at) ∙ ap (λ (n : ℤ). Some n) (Spelling.float_read c.args.number (is_single at));
      some = ink.some;
      short = c.format.ensures.short;
      ink = ink.ink;
    }
