-- The only tile of a mosaic.
use Rattle.drain_mosaic.proofs.Names.{◌≡◌, ℕ, List, [], ◌∷◌, length, get_or, set, Option, arith, refl, subst, zero, suc, ◌<◌, ap, ◌∙◌, ◌+◌, ◌++◌, take, Bool, true, Some, option_map, slice_get, sym, ◌-◌, ◌*◌, ◌≤◌, ℤ, pos, ◌-ℤ◌, ◌≤ℤ◌, nat_abs, map, to_z, of_z, w16, SFits, All, AllZip, TileInput, stream_of, streams_of, ArePlacedWithin, IsPlacedWithin, IsAtStart, PlacedRows, All-set, All-push, All-same, names_of, TileRows, take_more, get_or-map, length-map, full_patience, Going, Corner, Tiling, top_left_of, least, greatest, west_of, north_of, extent_of, tiles_down, tiles_across, ints, to_z-of_z, slice_get_read, Cell, Extent, IsSide, AreTilingNumbers}
use Rattle.std.proofs.Common.{cond}
use Rattle.drain_mosaic.proofs.TileRows.{nowhere, place_is}
use Rattle.drain_mosaic.proofs.Bounds.{least_le, greatest_ge, before_east, before_south, inside_box}

-- what is true of the only element
pub all-one : {X : Type 0} (P : X → Type 0) (xs : List X) (x : X) → length xs ≡ 1 → P x → All P (set xs 0 x)
all-one P [] x one here = absurd (omega arith)
all-one P (y ∷ []) x one here = λ k d inside. subst (λ (j : ℕ). P (get_or (x ∷ []) j d)) (let first : 0 ≡ k = omega arith in first) here
all-one P (y ∷ z ∷ ys) x one here = absurd (omega arith)

-- its stream
module _ (R : Type 0) (bl : R → Option (List ℕ)) where
  pub one-stream : (ts : List PlacedRows) (fs : List (TileInput R)) (p : PlacedRows) (t : TileInput R) → length ts ≡ 1 → length fs ≡ length ts → streams_of bl ts fs ≡ stream_of (get_or ts 0 p) (bl (get_or fs 0 t).body) ∷ []
  one-stream [] fs p t one same = absurd (omega arith)
  one-stream (x ∷ ts) [] p t one same = absurd (omega arith)
  one-stream (x ∷ []) (y ∷ fs) p t one same = refl
  one-stream (x ∷ z ∷ ts) (y ∷ fs) p t one same = absurd (omega arith)

-- Tiles that go on keep their names and places.

-- for any default of a missing element
pub any_default : {X : Type 0} (xs : List X) (i : ℕ) (d e : X) → i < length xs → get_or xs i d ≡ get_or xs i e
any_default [] i d e inside = absurd (omega arith)
any_default (x ∷ xs) zero d e inside = refl
any_default (x ∷ xs) (suc i) d e inside = any_default xs i d e (omega arith)

-- names stay
pub names-kept : {R : Type 0} (xs : List (TileInput R)) (i : ℕ) (d : TileInput R) (b : R) → i < length xs →
    names_of (set xs i (record { name = (get_or xs i d).name; body = b })) ≡ names_of xs
names-kept [] i d b inside = absurd (omega arith)
names-kept (x ∷ xs) zero d b inside = refl
names-kept (x ∷ xs) (suc i) d b inside = ap (λ (ns : List (List ℕ)). x.name ∷ ns) (names-kept xs i d b (omega arith))

pub kept : (tiles : List PlacedRows) (i : ℕ) (d : PlacedRows) (r : TileRows) (side rows cols : ℕ) → i < length tiles → r.side ≡ (get_or tiles i d).rows.side → ArePlacedWithin side rows cols tiles →
    ArePlacedWithin side rows cols (set tiles i (record { place = (get_or tiles i d).place; rows = r }))
kept tiles i d r side rows cols inside same within =
    let here = within i d inside in
    let moved : IsPlacedWithin side rows cols (record { place = (get_or tiles i d).place; rows = r }) = record { side_is = same ∙ here.side_is; above = here.above; inside = here.inside } in
    All-set (IsPlacedWithin side rows cols) tiles i _ moved within

-- Each tile of a new mosaic is at its place, with its first row to come.

AllZip-more : {A B : Type 0} (P : A → B → Type 0) (xs : List A) (ys : List B) (x : A) (y : B) → AllZip P xs ys → P x y → AllZip P (xs ++ x ∷ []) (ys ++ y ∷ [])
AllZip-more P [] [] x y all here = (here, tt)
AllZip-more P [] (z ∷ ys) x y all here = absurd all
AllZip-more P (w ∷ xs) [] x y all here = absurd all
AllZip-more P (w ∷ xs) (z ∷ ys) x y all here = (all.0, AllZip-more P xs ys x y all.1 here)

-- one tile more
pub start-more : (t : Tiling) (i : ℕ) (tiles now : List PlacedRows) (p : PlacedRows) (pushed : Bool) → pushed ≡ true → now ≡ cond pushed (tiles ++ p ∷ []) tiles → i < length t.corners →
    Some p.place ≡ option_map (top_left_of t) (slice_get t.corners i) → p.rows.side ≡ t.side → p.rows.left ≡ t.side → p.rows.progress ≡ Going → p.rows.patience ≡ full_patience →
    AllZip (IsAtStart t) (take i t.corners) tiles → AllZip (IsAtStart t) (take (i + 1) t.corners) now
start-more t i tiles now p pushed is_pushed is inside place side left going patience so_far =
    let here : Corner = get_or t.corners i nowhere in
    let at : IsAtStart t here p = record { place_is = place_is t i p.place inside place; side_is = side; left_is = left; going = going; patience_is = patience } in
    subst (AllZip (IsAtStart t) (take (i + 1) t.corners)) (sym (is ∙ ap (λ b. cond b (tiles ++ p ∷ []) tiles) is_pushed))
    (subst (λ cs. AllZip (IsAtStart t) cs (tiles ++ p ∷ [])) (sym (take_more t.corners i nowhere inside)) (AllZip-more (IsAtStart t) (take i t.corners) tiles here p so_far at))

-- what each tile so far is, where the next is it too
pub all-more : {X : Type 0} (P : X → Type 0) (xs now : List X) (x : X) (pushed : Bool) → pushed ≡ true → now ≡ cond pushed (xs ++ x ∷ []) xs → All P xs → P x → All P now
all-more P xs now x pushed is_pushed is all here = All-same P now (xs ++ x ∷ []) (is ∙ ap (λ b. cond b (xs ++ x ∷ []) xs) is_pushed) (All-push P xs x all here)

-- Where a tile lies in its mosaic, from the numbers of the box.

-- a cell by its row and its column
cell : (row col : ℕ) (c : Cell) → row ≡ c.row → col ≡ c.col → record { row = row; col = col } ≡ c
cell row col c p q = ap (λ r. record { row = r; col = col }) p ∙ ap (λ k. record { row = c.row; col = k }) q

-- the tile's north-west cell, and that the tile lies within the mosaic
pub record IsPlaced (t : Tiling) (i row col : ℕ) : Type 0 where
  pub place : Some (record { row = row; col = col }) ≡ option_map (top_left_of t) (slice_get t.corners i)
  pub rows_inside : row + t.side ≤ (extent_of t).rows
  pub cols_inside : col + t.side ≤ (extent_of t).cols

pub placed : (t : Tiling) (west north : ℤ) (shape : Extent) (i : ℕ) (corner : Corner) (row col : ℕ) → IsSide t.side → AreTilingNumbers t west north shape → i < length t.corners → corner ≡ get_or t.corners i corner
    → row ≡ nat_abs (north -ℤ pos 1 -ℤ corner.lat) * (t.side - 1) → col ≡ nat_abs (corner.lon -ℤ west) * (t.side - 1) → IsPlaced t i row col
placed t west north shape i corner row col side numbers inside is p q =
    let lats = map (λ c. c.lat) t.corners in
    let lons = map (λ c. c.lon) t.corners in
    let lat : get_or lats i (pos 0) ≡ corner.lat = get_or-map (λ c. c.lat) t.corners i corner (pos 0) inside ∙ ap (λ c. c.lat) (sym is) in
    let lon : get_or lons i (pos 0) ≡ corner.lon = get_or-map (λ c. c.lon) t.corners i corner (pos 0) inside ∙ ap (λ c. c.lon) (sym is) in
    let in_lats : i < length lats = omega (arith, length-map t.corners (λ c. c.lat)) in
    let in_lons : i < length lons = omega (arith, length-map t.corners (λ c. c.lon)) in
    let south_most = subst (λ x. least lats ≤ℤ x) lat (least_le (get_or lats 0 (pos 0)) lats i in_lats) in
    let north_most = subst (λ x. x ≤ℤ greatest lats) lat (greatest_ge (get_or lats 0 (pos 0)) lats i in_lats) in
    let west_most = subst (λ x. least lons ≤ℤ x) lon (least_le (get_or lons 0 (pos 0)) lons i in_lons) in
    let east_most = subst (λ x. x ≤ℤ greatest lons) lon (greatest_ge (get_or lons 0 (pos 0)) lons i in_lons) in
    let row_is : row ≡ nat_abs (north_of t -ℤ pos 1 -ℤ corner.lat) * (t.side - 1) = p ∙ ap (λ n. nat_abs (n -ℤ pos 1 -ℤ corner.lat) * (t.side - 1)) numbers.north_is in
    let col_is : col ≡ nat_abs (corner.lon -ℤ west_of t) * (t.side - 1) = q ∙ ap (λ w. nat_abs (corner.lon -ℤ w) * (t.side - 1)) numbers.west_is in
    let down = inside_box t.side (nat_abs (north_of t -ℤ pos 1 -ℤ corner.lat)) (tiles_down t) side.least (before_south (least lats) corner.lat (greatest lats) south_most north_most) in
    let across = inside_box t.side (nat_abs (corner.lon -ℤ west_of t)) (tiles_across t) side.least (before_east (least lons) corner.lon (greatest lons) west_most east_most) in
    let cell_is : record { row = row; col = col } ≡ top_left_of t corner = cell row col (top_left_of t corner) row_is col_is in
    record {
      place = ap (λ (cell : Cell). Some cell) cell_is ∙ sym (ap (option_map (top_left_of t)) (slice_get_read t.corners (length t.corners) i corner refl inside is));
      rows_inside = subst (λ r. r + t.side ≤ (extent_of t).rows) (sym row_is) down;
      cols_inside = subst (λ k. k + t.side ≤ (extent_of t).cols) (sym col_is) across;
    }

-- the code's differences of degrees are those of the numbers
pub row_seen : (side : ℕ) (north lat : ℤ) (w : ℤ) → nat_abs north ≤ 90 → w ≡ lat → SFits w16 w
    → nat_abs (to_z w16 (of_z w16 (to_z w16 (of_z w16 north) -ℤ pos 1)) -ℤ to_z w16 (of_z w16 w)) * (side - 1) ≡ nat_abs (north -ℤ pos 1 -ℤ lat) * (side - 1)
row_seen side north lat w near is fits =
    let first : to_z w16 (of_z w16 (to_z w16 (of_z w16 north) -ℤ pos 1)) ≡ north -ℤ pos 1 = omega (arith, ints) in
    let second = to_z-of_z w16 w fits ∙ is in
    ap (λ x. nat_abs (x -ℤ to_z w16 (of_z w16 w)) * (side - 1)) first ∙ ap (λ y. nat_abs (north -ℤ pos 1 -ℤ y) * (side - 1)) second

pub col_seen : (side : ℕ) (west lon : ℤ) (w : ℤ) → nat_abs west ≤ 180 → w ≡ lon → SFits w16 w → nat_abs (to_z w16 (of_z w16 w) -ℤ to_z w16 (of_z w16 west)) * (side - 1) ≡ nat_abs (lon -ℤ west) * (side - 1)
col_seen side west lon w near is fits =
    let first = to_z-of_z w16 w fits ∙ is in
    let second : to_z w16 (of_z w16 west) ≡ west = omega (arith, ints) in
    ap (λ x. nat_abs (x -ℤ to_z w16 (of_z w16 west)) * (side - 1)) first ∙ ap (λ y. nat_abs (lon -ℤ y) * (side - 1)) second
