-- What tiles and seams say of the inputs: which of their refusals apply, and which is the first.
use Rattle.drain_verdict.proofs.Names.{◌≡◌, zero, suc, ◌<◌, List, [], ◌∷◌, slice_get, Some, None, length, arith, refl, sym, subst, get_or_from_slice_get, slice_get_within, Cell, index_of, Corner, IsTile, IsFirstBadLength, IsFirstRepeated, IsLayout, given_tiles, TilesAgree, IsFirstSeam, BadTileLength, SeamMismatch, IsToldOf, Inputs, HasBadLength, IsSeamFault, TilesRefuse, place_among, tile_ground, tile_place, input_tiles, tiling_of, TileRowLaws, tile_rows_of}
use Rattle.std.proofs.Common.{ℕ, Option, MatchOption}
use Rattle.std.specs.List.{All}
use Rattle.drain_mosaic.specs.Tiling as tiling
use Rattle.drain_mosaic.specs.Mosaic as mosaic
use Rattle.drain_mosaic.specs.declared.layout.LayoutFault.TheVariants as layout
use Rattle.drain_verdict.proofs.Order.{at_seam, at_tile}
use Rattle.drain_verdict.proofs.LayoutAnswers.{place_of_tile, earlier_by_index}

-- a body in its place has the length that all have
length_at : (side : ℕ) (bodies : List (List ℕ)) (k : ℕ) (body : List ℕ) → All (IsTile side) bodies → slice_get bodies k ≡ Some body → IsTile side body
length_at side bodies k body all at = subst (IsTile side) (get_or_from_slice_get bodies k body body at) (all k body (slice_get_within bodies k body at))

-- where all have the length of tiles, none has another
pub none_of_another_length : (i : Inputs) → All (IsTile i.side) i.tiles → (c : Corner) → ¬ HasBadLength i c
none_of_another_length i all c bad = bad.length_is_not (length_at i.side i.tiles bad.place bad.body all bad.body_is)

-- the first body of another length is that of the first such tile
pub first_of_another_length : (i : Inputs) (c : Corner) (place : ℕ) → ((d : Corner) → ¬ IsFirstRepeated i.corners d) → slice_get i.corners place ≡ Some c →
    IsFirstBadLength i.side i.tiles place → HasBadLength i c × ((d : Corner) → place_among i.corners d < place_among i.corners c → ¬ HasBadLength i d)
first_of_another_length i c place distinct at first =
    let here : place_among i.corners c ≡ place = place_of_tile i.corners distinct c place at in (
      record { place = place; body = first.body; corner_is = at; body_is = first.body_is; length_is_not = first.length_is_not },
      λ d less bad. bad.length_is_not (first.before bad.place bad.body (omega (arith, less, here, place_of_tile i.corners distinct d bad.place bad.corner_is)) bad.body_is),
    )

-- where tiles agree, no cell has two values
pub none_of_two_values : (i : Inputs) → TilesAgree (tiling_of i) (input_tiles i) → (c : Cell) → ¬ IsSeamFault i c
none_of_two_values i agree c fault = fault.1.differ (agree c fault.1.one fault.1.other fault.0 fault.1.is_one fault.1.is_other)

-- the first cell where tiles differ has two values, and none before it
pub first_of_two_values : (i : Inputs) (c : Cell) → IsFirstSeam (tiling_of i) (input_tiles i) c →
    IsSeamFault i c × ((b : Cell) → index_of (tiling.extent_of (tiling_of i)) b < index_of (tiling.extent_of (tiling_of i)) c → ¬ IsSeamFault i b)
first_of_two_values i c first = (
  (first.inside, first.differ),
  λ b less fault. first.first b fault.0 (earlier_by_index (tiling.extent_of (tiling_of i)) b c fault.0 first.inside less) fault.1,
)

-- What is reported once all rows were read.

-- what was found where it is none, and where it is one
at_none : {A : Type 0} (o : Option A) (N : Type 0) (P : A → Type 0) → o ≡ None → MatchOption o N P → N
at_none None N P is m = m
at_none (Some x) N P is m = absurd (let no : Some x ≡ None = is in cc)

at_some : {A : Type 0} (o : Option A) (N : Type 0) (P : A → Type 0) (x : A) → o ≡ Some x → MatchOption o N P → P x
at_some None N P x is m = absurd (let no : None ≡ Some x = is in cc)
at_some (Some y) N P x is m = let same : y ≡ x = cc in subst P same m

module _ (laws : TileRowLaws) (i : Inputs) (is_layout : IsLayout (tiling_of i)) (counted : length i.tiles ≡ length i.corners) where
  lengths_told : (wrong : Option ℕ) → wrong ≡ (tile_rows_of i).wrong → MatchOption wrong (All (IsTile i.side) i.tiles) (IsFirstBadLength i.side i.tiles)
  lengths_told wrong is = subst (λ o. MatchOption o (All (IsTile i.side) i.tiles) (IsFirstBadLength i.side i.tiles)) (sym is) (laws.lengths (tiling_of i) i.tiles is_layout counted)

  -- if no tile of wrong length was found, none has one
  pub no_bad_length : (wrong : Option ℕ) → wrong ≡ (tile_rows_of i).wrong → wrong ≡ None → IsToldOf (tile_ground i) 5 None
  no_bad_length wrong is none =
      at_tile (λ b. ¬ TilesRefuse i b) (none_of_another_length i (at_none wrong (All (IsTile i.side) i.tiles) (IsFirstBadLength i.side i.tiles) none (lengths_told wrong is))) (λ no. no)

  -- or that is the first
  pub first_bad_length : (wrong : Option ℕ) (k : ℕ) (c : Corner) → wrong ≡ (tile_rows_of i).wrong → wrong ≡ Some k → slice_get i.corners k ≡ Some c → IsToldOf (tile_ground i) 5 (Some (BadTileLength c))
  first_bad_length wrong k c is some named =
      let bad = at_some wrong (All (IsTile i.side) i.tiles) (IsFirstBadLength i.side i.tiles) k some (lengths_told wrong is) in
      let told = first_of_another_length i c k (λ d. is_layout.sound (layout.RepeatedTile d)) named bad in
      record {
        kind_is = refl;
        refuses = told.0;
        first = at_tile (λ b. tile_place i b < place_among i.corners c → ¬ TilesRefuse i b) told.1 (λ less no. no);
      }

  -- if no refusal of a length applies, each tile has the right one
  whole : IsToldOf (tile_ground i) 5 None → (wrong : Option ℕ) → wrong ≡ (tile_rows_of i).wrong → All (IsTile i.side) i.tiles
  whole none None is = lengths_told None is
  whole none (Some k) is =
      let bad : IsFirstBadLength i.side i.tiles k = lengths_told (Some k) is in
      let inside = slice_get_within i.tiles k bad.body bad.body_is in
      let corner = corner_at i.corners k (subst (λ n. k < n) counted inside) in
      absurd (none (BadTileLength corner.0) refl (record { place = k; body = bad.body; corner_is = corner.1; body_is = bad.body_is; length_is_not = bad.length_is_not }))
    where
      corner_at : (cs : List Corner) (k : ℕ) → k < length cs → (c : Corner) × (slice_get cs k ≡ Some c)
      corner_at [] k less = absurd (omega arith)
      corner_at (c ∷ cs) zero less = (c, refl)
      corner_at (c ∷ cs) (suc k) less = corner_at cs k (omega arith)

  -- then tiles give all their samples
  pub all_given : IsToldOf (tile_ground i) 5 None → given_tiles (tiling_of i) i.tiles ≡ input_tiles i
  all_given none = laws.samples (tiling_of i) i.tiles is_layout (whole none (tile_rows_of i).wrong refl)

  seams_told : IsToldOf (tile_ground i) 5 None → (seam : Option Cell) → seam ≡ (tile_rows_of i).conflict → MatchOption seam (TilesAgree (tiling_of i) (input_tiles i)) (IsFirstSeam (tiling_of i) (input_tiles i))
  seams_told none seam is =
      subst (λ (o : Option Cell). MatchOption o (TilesAgree (tiling_of i) (input_tiles i)) (IsFirstSeam (tiling_of i) (input_tiles i))) (sym is)
      (subst (λ (tiles : List mosaic.Tile). MatchOption (tile_rows_of i).conflict (TilesAgree (tiling_of i) tiles) (IsFirstSeam (tiling_of i) tiles)) (all_given none)
      (laws.seams (tiling_of i) i.tiles is_layout))

  -- if no seam was found, no cell has two values
  pub no_seam : IsToldOf (tile_ground i) 5 None → (seam : Option Cell) → seam ≡ (tile_rows_of i).conflict → seam ≡ None → IsToldOf (tile_ground i) 7 None
  no_seam none seam is none_found =
      at_seam (λ b. ¬ TilesRefuse i b)
      (none_of_two_values i (at_none seam (TilesAgree (tiling_of i) (input_tiles i)) (IsFirstSeam (tiling_of i) (input_tiles i)) none_found (seams_told none seam is)))

  -- or that is the first
  pub first_seam : IsToldOf (tile_ground i) 5 None → (seam : Option Cell) (c : Cell) → seam ≡ (tile_rows_of i).conflict → seam ≡ Some c → IsToldOf (tile_ground i) 7 (Some (SeamMismatch c))
  first_seam none seam c is some =
      let told = first_of_two_values i c (at_some seam (TilesAgree (tiling_of i) (input_tiles i)) (IsFirstSeam (tiling_of i) (input_tiles i)) c some (seams_told none seam is)) in
      record {
        kind_is = refl;
        refuses = told.0;
        first = at_seam (λ b. tile_place i b < index_of (tiling.extent_of (tiling_of i)) c → ¬ TilesRefuse i b) told.1;
      }
