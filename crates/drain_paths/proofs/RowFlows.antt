-- The flows of a row, place by place.
use Rattle.drain_paths.proofs.Names.{◌≡◌, ◌≢◌, ◌<◌, ◌+◌, ℕ, zero, suc, ◌∙◌, ℤ, pos, Option, None, List, [], ◌∷◌, length, get_or, set, get_or-set_other, get_or-set_same, below_more, refl, sym, ap, arith, ext_get_or, get_or-map, length-map, elevations, height_with, Flow, byte_flow, bytes_flows, cell_flow, flows_of}
use Rattle.drain_pixels.specs.declared.voids.Voids.{Voids}
use Rattle.drain_paths.specs.declared.flow.Flow.TheVariants.{Void}

-- the flow at a place of a row
abbrev pub place_flow : List (Option ℤ) → List ℤ → ℕ → Flow
place_flow zs ns k = cell_flow (get_or zs k None) (get_or ns k (pos 0))

pub length-flows_of : (zs : List (Option ℤ)) (ns : List ℤ) → length zs ≡ length ns → length (flows_of zs ns) ≡ length zs
length-flows_of [] ns same = refl
length-flows_of (z ∷ zs) [] same = absurd (omega arith)
length-flows_of (z ∷ zs) (n ∷ ns) same = ap suc (length-flows_of zs ns (omega arith))

pub get_or-flows_of : (zs : List (Option ℤ)) (ns : List ℤ) (k : ℕ) → length zs ≡ length ns → k < length zs →
    get_or (flows_of zs ns) k Void ≡ place_flow zs ns k
get_or-flows_of [] ns k same less = absurd (omega arith)
get_or-flows_of (z ∷ zs) [] k same less = absurd (omega arith)
get_or-flows_of (z ∷ zs) (n ∷ ns) zero same less = refl
get_or-flows_of (z ∷ zs) (n ∷ ns) (suc k) same less = get_or-flows_of zs ns k (omega arith) (omega arith)

-- an elevation of a row of numbers
pub height-kept : (voids : Voids) (numbers : List ℤ) (k : ℕ) → k < length numbers → height_with voids (get_or numbers k (pos 0)) ≡ get_or (elevations voids numbers) k None
height-kept voids numbers k less = sym (get_or-map (height_with voids) numbers k (pos 0) None less)

-- one place more, from the code put there
pub flows_more : (zs : List (Option ℤ)) (ns : List ℤ) (out : List ℕ) (k code : ℕ) → k < length out → byte_flow code ≡ place_flow zs ns k →
    ((i : ℕ) → i < k → byte_flow (get_or out i 0) ≡ place_flow zs ns i) →
    (i : ℕ) → i < k + 1 → byte_flow (get_or (set out k code) i 0) ≡ place_flow zs ns i
flows_more zs ns out k code inside here so_far =
    below_more (λ i. byte_flow (get_or (set out k code) i 0) ≡ place_flow zs ns i) k
    (λ i h. let ne : i ≢ k = omega arith in ap byte_flow (get_or-set_other out k i code 0 ne) ∙ so_far i h)
    (ap byte_flow (get_or-set_same out k code 0 inside) ∙ here)

-- all places
pub flows_filled : (zs : List (Option ℤ)) (ns : List ℤ) (out : List ℕ) → length out ≡ length zs → length zs ≡ length ns →
    ((i : ℕ) → i < length zs → byte_flow (get_or out i 0) ≡ place_flow zs ns i) → bytes_flows out ≡ flows_of zs ns
flows_filled zs ns out long same each =
    ext_get_or Void (bytes_flows out) (flows_of zs ns) (length-map out byte_flow ∙ long ∙ sym (length-flows_of zs ns same))
    (λ k less.
    (let within : k < length out = omega (arith, less, length-map out byte_flow) in
    let inside : k < length zs = omega (arith, within, long) in
    get_or-map byte_flow out k 0 Void within ∙ each k inside ∙ sym (get_or-flows_of zs ns k same inside)))
