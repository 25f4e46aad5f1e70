-- One element more of a list, in a search for the first element without a property.
use Rattle.drain_merge.proofs.Names.{◌≡◌, ℕ, ◌+◌, ◌<◌, List, length, slice_index_or, subst, ◌∙◌, below_more, arith, AllWithin, get_or_default}

-- an element that was read is the one at its place
pub at_place : {X : Type 0} (P : X → Type 0) (xs : List X) (i : ℕ) (x : X) → i < length xs → x ≡ slice_index_or xs i x → P x →
    (d : X) → P (slice_index_or xs i d)
at_place P xs i x below is here d = subst P (is ∙ get_or_default xs i x d below) here

pub within_more : {X : Type 0} (P : X → Type 0) (xs : List X) (i : ℕ) (x : X) → i < length xs → x ≡ slice_index_or xs i x →
    AllWithin P xs 0 i → P x → AllWithin P xs 0 (i + 1)
within_more P xs i x below is before here k d low high =
    below_more (λ n. P (slice_index_or xs n d)) i (λ n less. before n d (omega arith) less) (at_place P xs i x below is here d) k high
