-- The tiles of a layout one by one, and their rows.
use Rattle.drain_mosaic.proofs.Names.{◌≡◌, ℕ, zero, suc, ◌+◌, ◌-◌, ◌*◌, ◌<◌, ◌≤◌, ℤ, pos, List, [], ◌∷◌, ◌++◌, length, map, take, get_or, Option, Some, option_map, slice_get, arith, refl, sym, ap, ◌∙◌, inl, inr, subst, ◌⊎◌, slice_range, slice_index_or, cases_lt, get_or-map, get_or-take, get_or-drop, length-take-le, length-drop, take_more, slice_get-get_or, same_Some, mul-le-mul_right, Cell, VOID, Corner, Tiling, extent_of, top_of, top_left_of, Tile, AreTiles, tiles_of, IsLaidOver, IsJoinedRow, first_of}
use Rattle.std.proofs.Common.{None}
use Rattle.std.proofs.lemmas.Slice.{between_is}
use Rattle.drain_mosaic.proofs.Joining.{laid, passed, first_of_none}

-- a tile to read lists of tiles by
abbrev pub nowhere : Corner
nowhere = record { lat = pos 0; lon = pos 0 }

abbrev no_tile : Tile
no_tile = record { corner = nowhere; samples = [] }

-- what the code has of a tile is in the tile's place
pub item_at : {V : Type 0} (items : V → List ℤ) (vs : List V) (i : ℕ) (v : V) → i < length vs → v ≡ get_or vs i v → items v ≡ get_or (map items vs) i []
item_at items vs i v inside is = ap items is ∙ sym (get_or-map items vs i v [] inside)

pub length-tiles_of : (cs : List Corner) (ss : List (List ℤ)) → length ss ≡ length cs → length (tiles_of cs ss) ≡ length cs
length-tiles_of [] ss same = refl
length-tiles_of (c ∷ cs) [] same = absurd (omega arith)
length-tiles_of (c ∷ cs) (s ∷ ss) same = ap suc (length-tiles_of cs ss (omega arith))

tiles_at : (cs : List Corner) (ss : List (List ℤ)) (i : ℕ) → length ss ≡ length cs → i < length cs → get_or (tiles_of cs ss) i no_tile ≡ record { corner = get_or cs i nowhere; samples = get_or ss i [] }
tiles_at [] ss i same inside = absurd (omega arith)
tiles_at (c ∷ cs) [] i same inside = absurd (omega arith)
tiles_at (c ∷ cs) (s ∷ ss) zero same inside = refl
tiles_at (c ∷ cs) (s ∷ ss) (suc i) same inside = tiles_at cs ss i (omega arith) (omega arith)

-- the tile in place i of the layout
abbrev pub tile_of : Tiling → List (List ℤ) → ℕ → Tile
tile_of t samples i = record { corner = get_or t.corners i nowhere; samples = get_or samples i [] }

-- the first tiles with one more
pub take_tile : (t : Tiling) (samples : List (List ℤ)) (i : ℕ) → AreTiles t samples → i < length samples → take (i + 1) (tiles_of t.corners samples) ≡ take i (tiles_of t.corners samples) ++ tile_of t samples i ∷ []
take_tile t samples i tiles inside =
    let all = tiles_of t.corners samples in
    let long = length-tiles_of t.corners samples tiles.named in
    take_more all i no_tile (omega (arith, long, tiles.named)) ∙ ap (λ x. take i all ++ x ∷ []) (tiles_at t.corners samples i tiles.named (omega (arith, tiles.named)))

pub place_is : (t : Tiling) (i : ℕ) (place : Cell) → i < length t.corners → Some place ≡ option_map (top_left_of t) (slice_get t.corners i) → place ≡ top_left_of t (get_or t.corners i nowhere)
place_is t i place inside at = same_Some place (top_left_of t (get_or t.corners i nowhere)) (at ∙ ap (option_map (top_left_of t)) (slice_get-get_or t.corners i nowhere inside))

-- a whole row lies within a square
row_within : (side r : ℕ) → r < side → r * side + side ≤ side * side
row_within side r less = let h = mul-le-mul_right side less in omega (arith, h)

pub length_part : (side r : ℕ) (tile : List ℤ) → r < side → length tile ≡ side * side → length (slice_range tile (r * side) (r * side + side)) ≡ side
length_part side r tile less whole =
    let within = row_within side r less in
    let long = length-take-le (r * side + side) tile (omega arith) in
    ap length (between_is tile (r * side) (r * side + side)) ∙ omega (arith, long, length-drop (r * side) (take (r * side + side) tile))

pub part_at : (side r k : ℕ) (tile : List ℤ) → k < side → slice_index_or (slice_range tile (r * side) (r * side + side)) k VOID ≡ slice_index_or tile (r * side + k) VOID
part_at side r k tile less =
    ap (λ ys. get_or ys k VOID) (between_is tile (r * side) (r * side + side)) ∙ get_or-drop (r * side) (take (r * side + side) tile) k VOID ∙ get_or-take (r * side + side) tile (r * side + k) VOID (omega arith)

-- what the code did with a tile at a row
pub record IsTileLaid (side : ℕ) (place : Cell) (tile : List ℤ) (row : ℕ) (old new : List ℤ) (found : Option ℕ) : Type 0 where
  pub over : place.row ≤ row → row < place.row + side → IsLaidOver place.col (slice_range tile ((row - place.row) * side) ((row - place.row) * side + side)) old new found
  pub beside : (row < place.row) ⊎ (place.row + side ≤ row) → (new ≡ old) × (found ≡ None)

tile_laid : (t : Tiling) (ts : List Tile) (tile : Tile) (row : ℕ) (old new : List ℤ) (seam found : Option ℕ) → length tile.samples ≡ t.side * t.side → length old ≡ (extent_of t).cols
    → IsTileLaid t.side (top_left_of t tile.corner) tile.samples row old new found → IsJoinedRow t ts row old seam → IsJoinedRow t (ts ++ tile ∷ []) row new (first_of seam found)
tile_laid t ts tile row old new seam found whole wide is joined = elim (cases_lt row top) [
  | inl north ↦ untouched (inl north) (λ h. absurd (omega (arith, north, h.0)))
  | inr from ↦ elim (cases_lt row (top + t.side)) [
    | inl to ↦ laid t ts tile row old new part seam found wide from to (length_part t.side (row - top) tile.samples (omega arith) whole)
        (λ k less. part_at t.side (row - top) k tile.samples less) joined (is.over from to)
    | inr south ↦ untouched (inr south) (λ h. absurd (omega (arith, south, h.1)))
  ]
]
  where
    top : ℕ
    top = top_of t tile.corner

    part : List ℤ
    part = slice_range tile.samples ((row - top) * t.side) ((row - top) * t.side + t.side)

    untouched : (row < top) ⊎ (top + t.side ≤ row) → ¬ ((top ≤ row) × (row < top + t.side)) → IsJoinedRow t (ts ++ tile ∷ []) row new (first_of seam found)
    untouched aside not =
        let same = is.beside aside in
        let before = passed t ts tile row old seam not joined in
        subst (λ samples. IsJoinedRow t (ts ++ tile ∷ []) row samples (first_of seam found)) (sym same.0)
        (subst (λ f. IsJoinedRow t (ts ++ tile ∷ []) row old (first_of seam f)) (sym same.1) (subst (IsJoinedRow t (ts ++ tile ∷ []) row old) (sym (first_of_none seam)) before))

-- one tile of the layout more
pub tile_step : (t : Tiling) (samples : List (List ℤ)) (i row : ℕ) (place : Cell) (tile : List ℤ) (side : ℕ) (old new : List ℤ) (seam found next : Option ℕ) → side ≡ t.side → AreTiles t samples → i < length samples → tile ≡ get_or samples i []
    → Some place ≡ option_map (top_left_of t) (slice_get t.corners i) → length old ≡ (extent_of t).cols → IsTileLaid side place tile row old new found → next ≡ first_of seam found
    → IsJoinedRow t (take i (tiles_of t.corners samples)) row old seam → IsJoinedRow t (take (i + 1) (tiles_of t.corners samples)) row new next
tile_step t samples i row place tile side old new seam found next side_is tiles inside is at wide laid_is next_is joined =
    let all = tiles_of t.corners samples in
    let here = tile_of t samples i in
    let place_at = place_is t i place (omega (arith, tiles.named)) at in
    let laid_here = subst (λ ss. IsTileLaid t.side (top_left_of t here.corner) ss row old new found) is (subst (λ p. IsTileLaid t.side p tile row old new found) place_at (subst (λ n. IsTileLaid n place tile row old new found) side_is laid_is)) in
    let more = tile_laid t (take i all) here row old new seam found (tiles.whole i [] inside) wide laid_here joined in
    subst (λ ts. IsJoinedRow t ts row new next) (sym (take_tile t samples i tiles inside)) (subst (IsJoinedRow t (take i all ++ here ∷ []) row new) (sym next_is) more)
