-- What the stage of the layout says of the inputs: no refusal of its kinds applies, or its refusal is the first.
use Rattle.drain_verdict.proofs.Names.{◌≡◌, zero, suc, ◌+◌, ◌<◌, ◌≤◌, List, [], ◌∷◌, ◌++◌, length, take, get_or, Some, arith, sym, ap, ◌∙◌, subst, ◌*◌, Bool, true, false, ◌&&◌, cond, slice_get, refl, inl, inr, below_more, Ok, is_negative, AllZip, take_more, take_all, length-map, get_or-map, slice_get-get_or, TileInput, Corner, IsNameOf, MeansName, names_of, Stands, NoneStandsBefore, GroundSet, IsRefusalIn, NoneStandsIn, SetTexts, StandsIn, texts_of, tile_ground, place_in, refusal_kind, IsBadName, place_among, tiling_of, IsFirstBadName, IsLayoutOf, IsLayoutRefusal, IsLayoutFault, mul-le-mul_right, Decides-int_eq, Cell, Extent, IsCellOf, IsEarlier, index_of, IsRepeatedAt, IsFirstRepeated, HasLayoutFault, layout_fault_order, IsFirst, IsSide, OneName, Tiling, Refusal, BadSide, BadName, NoTiles, RepeatedTile, BoxTooLarge, OutOfMemory, ReadFailed, Inputs, AreNames, IsRefusal}
use Rattle.std.proofs.Common.{ℕ, int_eq}
use Rattle.std.specs.Prelude.{Err, nat_abs}
use Rattle.drain_hgt.specs.declared.name.NameFault.{NameFault}
use Rattle.drain_hgt.specs.declared.name.NameFault.TheVariants.{BadForm, BadRange}
use Rattle.std.proofs.Math.Decide.{dec_lt}
use Rattle.drain_mosaic.specs.declared.layout.LayoutFault.{LayoutFault}
use Rattle.drain_verdict.proofs.Order.{at_side, at_name, at_layout, none_first, none_more, first_of}
use Rattle.drain_mosaic.specs.declared.layout.LayoutFault.TheVariants as layout

-- The names of tiles, one after the other: those that were read name tiles, and the first that is not read is the first bad one.

pub AllZip-more : {A B : Type 0} (R : A → B → Type 0) (xs : List A) (ys : List B) (x : A) (y : B) → AllZip R xs ys → R x y → AllZip R (xs ++ x ∷ []) (ys ++ y ∷ [])
AllZip-more R [] [] x y all here = (here, tt)
AllZip-more R [] (b ∷ ys) x y all here = absurd all
AllZip-more R (a ∷ xs) [] x y all here = absurd all
AllZip-more R (a ∷ xs) (b ∷ ys) x y all here = (all.0, AllZip-more R xs ys x y all.1 here)

-- bytes that have a fault name no tile
names_none : (name : List ℕ) (fault : NameFault) → MeansName name (Err fault) → (c : Corner) → ¬ IsNameOf name c
names_none name BadForm means c names = means (record { south = is_negative c.lat; lat = nat_abs c.lat; west = is_negative c.lon; lon = nat_abs c.lon; text = names.text })
names_none name BadRange means c names = means.1 c names

-- the name in a place is that of the tile there
name_at : {R : Type 0} (tiles : List (TileInput R)) (place : ℕ) (tile : TileInput R) → place < length tiles → tile ≡ get_or tiles place tile →
    get_or (names_of tiles) place tile.name ≡ tile.name
name_at tiles place tile inside is = get_or-map (λ t. t.name) tiles place tile tile.name inside ∙ ap (λ t. t.name) (sym is)

pub named_more : {R : Type 0} (tiles : List (TileInput R)) (place : ℕ) (tile : TileInput R) (corners : List Corner) (c : Corner) → place < length tiles →
    tile ≡ get_or tiles place tile → AllZip IsNameOf (take place (names_of tiles)) corners → IsNameOf tile.name c →
    AllZip IsNameOf (take (place + 1) (names_of tiles)) (corners ++ c ∷ [])
named_more tiles place tile corners c inside is so_far here =
    let more = take_more (names_of tiles) place tile.name (omega (arith, inside, length-map tiles (λ t. t.name))) in
    let more_is = more ∙ ap (λ n. take place (names_of tiles) ++ n ∷ []) (name_at tiles place tile inside is) in
    subst (λ ns. AllZip IsNameOf ns (corners ++ c ∷ [])) (sym more_is) (AllZip-more IsNameOf (take place (names_of tiles)) corners tile.name c so_far here)

none_bad : (names : List (List ℕ)) (corners : List Corner) (n k : ℕ) → AllZip IsNameOf (take n names) corners → k < n → ¬ IsBadName names k
none_bad [] corners n k named less bad = cc
none_bad (x ∷ names) corners zero k named less bad = omega arith
none_bad (x ∷ names) [] (suc n) k named less bad = absurd named
none_bad (x ∷ names) (c ∷ corners) (suc n) zero named less bad =
    let same : bad.name ≡ x = cc in
    bad.names_none c (subst (λ name. IsNameOf name c) (sym same) named.0)
none_bad (x ∷ names) (c ∷ corners) (suc n) (suc k) named less bad =
    none_bad names corners n k named.1 (omega arith) (record { name = bad.name; is_there = bad.is_there; names_none = bad.names_none })

pub first_bad : {R : Type 0} (tiles : List (TileInput R)) (place : ℕ) (tile : TileInput R) (corners : List Corner) (fault : NameFault) → place < length tiles →
    tile ≡ get_or tiles place tile → AllZip IsNameOf (take place (names_of tiles)) corners → MeansName tile.name (Err fault) →
    IsFirstBadName (names_of tiles) place
first_bad tiles place tile corners fault inside is so_far means = record {
  bad = record {
    name = tile.name;
    is_there = slice_get-get_or (names_of tiles) place tile.name (omega (arith, inside, length-map tiles (λ t. t.name))) ∙ ap (λ n. Some n) (name_at tiles place tile inside is);
    names_none = names_none tile.name fault means;
  };
  first = λ k less. none_bad (names_of tiles) corners place k so_far less;
}

pub named_all : {R : Type 0} (tiles : List (TileInput R)) (place : ℕ) (corners : List Corner) → length tiles ≤ place →
    AllZip IsNameOf (take place (names_of tiles)) corners → AllZip IsNameOf (names_of tiles) corners
named_all tiles place corners all so_far =
    subst (λ ns. AllZip IsNameOf ns corners) (take_all place (names_of tiles) (omega (arith, all, length-map tiles (λ t. t.name)))) so_far

-- where each name names a tile, none is bad
pub none_bad_in : (names : List (List ℕ)) (corners : List Corner) → AllZip IsNameOf names corners → (k : ℕ) → ¬ IsBadName names k
none_bad_in [] corners named k bad = cc
none_bad_in (x ∷ names) [] named k bad = absurd named
none_bad_in (x ∷ names) (c ∷ corners) named zero bad =
    let same : bad.name ≡ x = cc in
    bad.names_none c (subst (λ name. IsNameOf name c) (sym same) named.0)
none_bad_in (x ∷ names) (c ∷ corners) named (suc k) bad =
    none_bad_in names corners named.1 k (record { name = bad.name; is_there = bad.is_there; names_none = bad.names_none })

-- The place of a tile in a list without repetitions, and cells in row order.

-- where no tile is the first that is repeated, none is repeated
pub none_repeated : (cs : List Corner) → ((c : Corner) → ¬ IsFirstRepeated cs c) → (n m : ℕ) → m < n → (c : Corner) → ¬ IsRepeatedAt cs m c
none_repeated cs none zero m less = absurd (omega arith)
none_repeated cs none (suc n) m less =
    below_more (λ k. (c : Corner) → ¬ IsRepeatedAt cs k c) n (none_repeated cs none n) (λ c repeated. none c (record {
      place = n;
      repeated = repeated;
      first = λ k d earlier. none_repeated cs none n k earlier d;
    })) m (omega arith)

both : (a b : Bool) → (a && b) ≡ true → (a ≡ true) × (b ≡ true)
both true b e = (refl, e)
both false b e = cc

same : (c d : Corner) → (int_eq c.lat d.lat && int_eq c.lon d.lon) ≡ true → c ≡ d
same c d e =
    let r = both (int_eq c.lat d.lat) (int_eq c.lon d.lon) e in
    let lat = (Decides-int_eq c.lat d.lat).0 r.0 in
    let lon = (Decides-int_eq c.lon d.lon).0 r.1 in
    ap (λ x. record { lat = x; lon = c.lon }) lat ∙ ap (λ y. record { lat = d.lat; lon = y }) lon

itself : (c : Corner) → (int_eq c.lat c.lat && int_eq c.lon c.lon) ≡ true
itself c =
    let lat = (Decides-int_eq c.lat c.lat).1 refl in
    let lon = (Decides-int_eq c.lon c.lon).1 refl in
    ap (λ b. b && int_eq c.lon c.lon) lat ∙ lon

-- a corner's place is the first place that has it
pub place_is : (cs : List Corner) (c : Corner) (k : ℕ) → slice_get cs k ≡ Some c → ((j : ℕ) → j < k → ¬ (slice_get cs j ≡ Some c)) → place_among cs c ≡ k
place_is [] c k there none = cc
place_is (d ∷ cs) c zero there none =
    let is : d ≡ c = cc in
    rw is (ap (λ b. cond b 0 (suc (place_among cs c))) (itself c))
place_is (d ∷ cs) c (suc k) there none =
    let rest = place_is cs c k there (λ j less at. none (suc j) (omega arith) at) in
    further (int_eq c.lat d.lat && int_eq c.lon d.lon) refl rest
  where
    further : (b : Bool) → b ≡ (int_eq c.lat d.lat && int_eq c.lon d.lon) → place_among cs c ≡ k → cond b 0 (suc (place_among cs c)) ≡ suc k
    further true is rest =
        let it : c ≡ d = same c d (sym is) in
        absurd (none 0 (omega arith) (ap (λ x. Some x) (sym it)))
    further false is rest = ap suc rest

-- in a list without repetitions a corner's place is its position
pub place_of_tile : (cs : List Corner) → ((c : Corner) → ¬ IsFirstRepeated cs c) → (c : Corner) (k : ℕ) → slice_get cs k ≡ Some c → place_among cs c ≡ k
place_of_tile cs none c k there = place_is cs c k there (λ j less at. none_repeated cs none (suc k) k (omega arith) c (record { earlier = j; before = less; here = there; there = at }))

-- a cell whose index is less is earlier
pub earlier_by_index : (e : Extent) (b c : Cell) → IsCellOf e b → IsCellOf e c → index_of e b < index_of e c → IsEarlier b c
earlier_by_index e b c in_b in_c less =
    below_more (λ n. b.row ≡ n → IsEarlier b c) c.row (λ n above at. inl (omega (arith, above, at)))
    (λ at. inr (at, omega (arith, less, ap (λ r. r * e.cols) at))) b.row not_below refl
  where
    too_far : c.row < b.row → (suc c.row) * e.cols ≤ b.row * e.cols → ⊥
    too_far below far = omega (arith, far, less, in_c.col)

    not_below : b.row < c.row + 1
    not_below = elim (dec_lt c.row b.row) [
      | yes below ↦ absurd (too_far below (mul-le-mul_right e.cols below))
      | no above ↦ omega (arith, above)
    ]

are_names : (names : List (List ℕ)) (corners : List Corner) → AllZip IsNameOf names corners → AreNames names
are_names names corners named = λ k d less. here names corners named k d less
  where
    here : (names : List (List ℕ)) (corners : List Corner) → AllZip IsNameOf names corners → (k : ℕ) (d : List ℕ) → k < length names → (c : Corner) × IsNameOf (get_or names k d) c
    here [] corners named k d less = absurd (omega arith)
    here (n ∷ names) [] named k d less = absurd named
    here (n ∷ names) (c ∷ corners) named zero d less = (c, named.0)
    here (n ∷ names) (c ∷ corners) named (suc k) d less = here names corners named.1 k d (omega arith)

-- bytes name one tile
one_tile : OneName → (name : List ℕ) (c d : Corner) → IsNameOf name c → IsNameOf name d → c ≡ d
one_tile one name c d is_c is_d =
    let same = one name (Ok c) (Ok d) is_c is_d in cc

-- names name one list of tiles
one_list : OneName → (names : List (List ℕ)) (cs ds : List Corner) → AllZip IsNameOf names cs → AllZip IsNameOf names ds → cs ≡ ds
one_list one [] [] [] is_c is_d = refl
one_list one [] (c ∷ cs) ds is_c is_d = absurd is_c
one_list one [] [] (d ∷ ds) is_c is_d = absurd is_d
one_list one (n ∷ names) [] ds is_c is_d = absurd is_c
one_list one (n ∷ names) (c ∷ cs) [] is_c is_d = absurd is_d
one_list one (n ∷ names) (c ∷ cs) (d ∷ ds) is_c is_d =
    let first = one_tile one n c d is_c.0 is_d.0 in
    let rest = one_list one names cs ds is_c.1 is_d.1 in
    cc

-- the tiles that were read are those of the inputs
same_corners : OneName → (i : Inputs) → (AreNames i.names → AllZip IsNameOf i.names i.corners) → (corners : List Corner) → AllZip IsNameOf i.names corners → corners ≡ i.corners
same_corners one i told corners named = one_list one i.names corners i.corners named (told (are_names i.names corners named))

-- tiles with what is said to lie on them
abbrev pub tile_set : Inputs → SetTexts → GroundSet
tile_set i texts = record { terrain = tile_ground i; texts = texts }

-- if the side is a tile's and the names are those of tiles, no refusal of the first two kinds applies
named_none : (i : Inputs) (texts : SetTexts) (corners : List Corner) → IsSide i.side → AllZip IsNameOf i.names corners → NoneStandsIn (tile_set i texts) 3
named_none i texts corners in_range named =
    none_more (StandsIn (tile_set i texts)) 2
    (none_more (StandsIn (tile_set i texts)) 1 (none_first (tile_set i texts)) (at_side (λ b. ¬ StandsIn (tile_set i texts) b) (λ stands. stands in_range) (λ fault no. no)))
    (at_name (λ b. ¬ StandsIn (tile_set i texts) b) (λ k. none_bad_in i.names corners named k) (λ no. no))

pub layout_is : OneName → (i : Inputs) → (AreNames i.names → AllZip IsNameOf i.names i.corners) → (t : Tiling) → IsLayoutOf i.side i.names t → t ≡ tiling_of i
layout_is one i told t is =
    let corners = same_corners one i told t.corners is.named in
    let side = is.side_is in
    λ k. record { side = side k; corners = corners k }

pub layout_none : OneName → (i : Inputs) → (AreNames i.names → AllZip IsNameOf i.names i.corners) → (t : Tiling) → IsLayoutOf i.side i.names t → NoneStandsBefore i 4
layout_none one i told t is =
    let sound : (fault : LayoutFault) → ¬ HasLayoutFault (tiling_of i) fault = subst (λ t. (fault : LayoutFault) → ¬ HasLayoutFault t fault) (layout_is one i told t is) is.sound in
    none_more (Stands i) 3 (named_none i (texts_of i) t.corners is.in_range is.named)
    (at_layout (λ b. ¬ Stands i b) (sound layout.NoTiles) (λ c. sound (layout.RepeatedTile c)) (sound layout.BoxTooLarge))

-- the fault of the list of tiles is that of the inputs
first_fault : OneName → (i : Inputs) → (AreNames i.names → AllZip IsNameOf i.names i.corners) → (fault : LayoutFault) → IsLayoutFault i.side i.names fault →
    IsFirst layout_fault_order (HasLayoutFault (tiling_of i)) fault
first_fault one i told fault is =
    subst (λ corners. IsFirst layout_fault_order (HasLayoutFault (record { side = i.side; corners = corners })) fault) (same_corners one i told is.corners is.named) is.first

-- the refusal of a side or of names is the first, whatever is said to lie on the tiles
pub layout_refuses : OneName → (i : Inputs) (texts : SetTexts) → (AreNames i.names → AllZip IsNameOf i.names i.corners) → (refusal : Refusal) → IsLayoutRefusal i.side i.names refusal → IsRefusalIn (tile_set i texts) refusal
layout_refuses one i texts told BadSide bad = first_of (tile_set i texts) (StandsIn (tile_set i texts)) 1 0 BadSide refl bad (none_first (tile_set i texts)) (λ b at less. absurd (no_less b at less))
  where
    no_less : (b : Refusal) → refusal_kind b ≡ 1 → place_in (tile_set i texts) b < 0 → ⊥
    no_less b at less = omega arith
layout_refuses one i texts told (BadName k) bad =
    first_of (tile_set i texts) (StandsIn (tile_set i texts)) 2 k (BadName k) refl bad.1.bad (none_more (StandsIn (tile_set i texts)) 1 (none_first (tile_set i texts)) (at_side (λ b. ¬ StandsIn (tile_set i texts) b) (λ stands. stands bad.0) (λ fault no. no)))
    (at_name (λ b. place_in (tile_set i texts) b < k → ¬ StandsIn (tile_set i texts) b) (λ j less. bad.1.first j less) (λ less no. no))
layout_refuses one i texts told NoTiles bad =
    let first = first_fault one i told layout.NoTiles bad.1 in
    first_of (tile_set i texts) (StandsIn (tile_set i texts)) 3 0 NoTiles refl first.holds (named_none i texts bad.1.corners bad.0 bad.1.named) (λ b at less. absurd (no_less b at less))
  where
    no_less : (b : Refusal) → refusal_kind b ≡ 3 → place_in (tile_set i texts) b < 0 → ⊥
    no_less b at less = omega arith
layout_refuses one i texts told (RepeatedTile c) bad =
    let first = first_fault one i told (layout.RepeatedTile c) bad.1 in
    first_of (tile_set i texts) (StandsIn (tile_set i texts)) 3 1 (RepeatedTile c) refl first.holds (named_none i texts bad.1.corners bad.0 bad.1.named)
    (at_layout (λ b. place_in (tile_set i texts) b < 1 → ¬ StandsIn (tile_set i texts) b) (λ less. first.first layout.NoTiles (inl (omega arith))) (λ d less. absurd (omega arith)) (λ less. absurd (omega arith)))
layout_refuses one i texts told BoxTooLarge bad =
    let first = first_fault one i told layout.BoxTooLarge bad.1 in
    first_of (tile_set i texts) (StandsIn (tile_set i texts)) 3 2 BoxTooLarge refl first.holds (named_none i texts bad.1.corners bad.0 bad.1.named)
    (at_layout (λ b. place_in (tile_set i texts) b < 2 → ¬ StandsIn (tile_set i texts) b) (λ less. first.first layout.NoTiles (inl (omega arith))) (λ d less. first.first (layout.RepeatedTile d) (inl (omega arith))) (λ less. absurd (omega arith)))
layout_refuses one i texts told OutOfMemory bad = tt
layout_refuses one i texts told ReadFailed bad = tt
layout_refuses one i texts told refusal bad = absurd bad

pub layout_refused : OneName → (i : Inputs) → (AreNames i.names → AllZip IsNameOf i.names i.corners) → (refusal : Refusal) → IsLayoutRefusal i.side i.names refusal → IsRefusal i refusal
layout_refused one i told refusal bad = layout_refuses one i (texts_of i) told refusal bad
