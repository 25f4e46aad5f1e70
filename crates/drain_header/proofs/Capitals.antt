-- Words that are compared in capitals, letter by letter.
use Rattle.drain_header.proofs.Names.{◌<◌, true, false, length, map, get_or, arith, sym, ◌∙◌, bytes_eq, to_ascii_uppercase, same_lists, get_or-map, get_or_default, length-map, reads}
use Rattle.std.proofs.Common.{◌≡◌, ℕ, List, refl}
use Rattle.std.proofs.lemmas.Slice.Eq.{bytes_eq-Decides}

pub reads_same : (text word : List ℕ) → length word ≡ length text → ((k : ℕ) → k < length word → to_ascii_uppercase (get_or word k 0) ≡ get_or text k 0) → true ≡ reads text word
reads_same text word long same =
    let capitals = map to_ascii_uppercase word in
    let count = length-map word to_ascii_uppercase in
    let each : (k d : ℕ) → k < length capitals → get_or capitals k d ≡ get_or text k d = λ k d h. (
    let inside : k < length word = omega arith in
    get_or-map to_ascii_uppercase word k 0 d inside ∙ same k inside ∙ get_or_default text k 0 d (omega arith)) in
    sym ((bytes_eq-Decides capitals text).1 (same_lists capitals text (omega arith) each))

pub reads_other : (text word : List ℕ) → (map to_ascii_uppercase word ≡ text → ⊥) → false ≡ reads text word
reads_other text word other =
    elim (bytes_eq (map to_ascii_uppercase word) text) as (λ b. bytes_eq (map to_ascii_uppercase word) text ≡ b → false ≡ b) [
      | true ↦ λ e. absurd (other ((bytes_eq-Decides (map to_ascii_uppercase word) text).0 e))
      | false ↦ λ e. refl
    ] refl
