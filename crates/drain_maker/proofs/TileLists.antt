-- The results of reading some tiles: those read, the one that stopped, and those after it, whose devices weren't
-- called.
use Rattle.drain_maker.proofs.Names.{◌≡◌, List, [], ◌∷◌, ◌++◌, length, slice_index_or, Some, refl, ap, ◌↔◌, ℕ, ◌+◌, ◌*◌, ◌<◌, ◌⊎◌, inl, inr, ℤ, map, get_or, Option, arith, sym, ◌∙◌, append_assoc, append-nil, AllZip, map-append, get_or_append_left, All-push, FaultCounts, ReadFails, TakesAtMost, TileInput, Corner, IsTile, samples_of, tile_length, names_of, tile_devices, AreBodies, IsFirstBadLength, Refusal, BadSide, BadName, NoTiles, RepeatedTile, BoxTooLarge, BadHeader, WrongShape, Misplaced, BadTileLength, RasterShort, SeamMismatch, BadSinkLine, SinkNotData, BadSpacingLine, SpacingRows, BadDemHeader, BadPixelSize, DemShort, ReadFailed, SomeReadFails, IsTileRefusal, AreSamplesOf, IsOneTileRefusal, SomeReadFails-none, SomeReadFails-one, SomeReadFails-then, takes-none}
use Rattle.std.proofs.Common.{All, length-append}
use Rattle.std.specs.Prelude.{slice_get, slice_set}
use Rattle.std.proofs.Math.ListN.{set}
use Rattle.std.proofs.lemmas.Option.{get_or_from_slice_get}
use Rattle.drain_answer.specs.declared.refusal.Refusal.TheVariants.{OutOfMemory}

-- The place in a list where one part ends and the next begins.

pub slice_get-seam : {A : Type 0} (xs : List A) (y : A) (ys : List A) → slice_get (xs ++ y ∷ ys) (length xs) ≡ Some y
slice_get-seam [] y ys = refl
slice_get-seam (x ∷ xs) y ys = slice_get-seam xs y ys

pub set-seam : {A : Type 0} (xs : List A) (y v : A) (ys : List A) → slice_set (xs ++ y ∷ ys) (length xs) v ≡ xs ++ v ∷ ys
set-seam [] y v ys = refl
set-seam (x ∷ xs) y v ys = ap (λ l. x ∷ l) (set-seam xs y v ys)

pub get-seam : {A : Type 0} (xs : List A) (y d : A) (ys : List A) → slice_index_or (xs ++ y ∷ ys) (length xs) d ≡ y
get-seam [] y d ys = refl
get-seam (x ∷ xs) y d ys = get-seam xs y d ys

-- a relation of two lists, place by place, holds of the parts, and of parts together
AllZip-then : {A B : Type 0} (P : A → B → Type 0) (xs us : List A) (ys vs : List B) → AllZip P xs ys → AllZip P us vs → AllZip P (xs ++ us) (ys ++ vs)
AllZip-then P [] us [] vs first more = more
AllZip-then P [] us (y ∷ ys) vs first more = absurd first
AllZip-then P (x ∷ xs) us [] vs first more = absurd first
AllZip-then P (x ∷ xs) us (y ∷ ys) vs first more = (first.0, AllZip-then P xs us ys vs first.1 more)

AllZip-same : {A : Type 0} (P : A → A → Type 0) (xs : List A) → ((x : A) → P x x) → AllZip P xs xs
AllZip-same P [] each = tt
AllZip-same P (x ∷ xs) each = (each x, AllZip-same P xs each)

AllZip-parts : {A B : Type 0} (P : A → B → Type 0) (xs us : List A) (zs : List B) → AllZip P (xs ++ us) zs →
    (ys : List B) × (vs : List B) × (zs ≡ ys ++ vs) × AllZip P xs ys × AllZip P us vs
AllZip-parts P [] us zs both = ([], zs, refl, tt, both)
AllZip-parts P (x ∷ xs) us [] both = absurd both
AllZip-parts P (x ∷ xs) us (z ∷ zs) both =
    let (ys, vs, is, first, more) = AllZip-parts P xs us zs both.1 in (z ∷ ys, vs, ap (λ l. z ∷ l) is, (both.0, first), more)

AllZip-front : {A B : Type 0} (P : A → B → Type 0) (x : A) (xs : List A) (zs : List B) → AllZip P (x ∷ xs) zs →
    (y : B) × (ys : List B) × (zs ≡ y ∷ ys) × P x y × AllZip P xs ys
AllZip-front P x xs [] both = absurd both
AllZip-front P x xs (z ∷ zs) both = (z, zs, refl, both.0, both.1)

AllZip-nothing : {A B : Type 0} (P : A → B → Type 0) (zs : List B) → AllZip P [] zs → zs ≡ []
AllZip-nothing P [] both = refl
AllZip-nothing P (z ∷ zs) both = absurd both

AllZip-length : {A B : Type 0} (P : A → B → Type 0) (xs : List A) (ys : List B) → AllZip P xs ys → length xs ≡ length ys
AllZip-length P [] [] both = refl
AllZip-length P [] (y ∷ ys) both = absurd both
AllZip-length P (x ∷ xs) [] both = absurd both
AllZip-length P (x ∷ xs) (y ∷ ys) both = omega (arith, AllZip-length P xs ys both.1)

-- one tile's part: its device's faults, how far it was read, and its name
pub record IsRead {R : Type 0} (bytes_left : R → Option (List ℕ)) (counts : R → FaultCounts) (side : ℕ) (old new : TileInput R) (Fails : Type 0) : Type 0 where
  pub faults : ReadFails (counts old.body) (counts new.body) Fails
  pub within : TakesAtMost (tile_length side + 1) (bytes_left old.body) (bytes_left new.body)
  pub name : new.name ≡ old.name

-- the part of some tiles, one after the other: their devices' faults, how far each was read, and the names
pub record AreRead {R : Type 0} (bytes_left : R → Option (List ℕ)) (counts : R → FaultCounts) (side : ℕ) (olds news : List (TileInput R)) (Fails : Type 0) : Type 0 where
  pub faults : SomeReadFails (map counts (tile_devices olds)) (map counts (tile_devices news)) Fails
  pub within : AllZip (λ old new. TakesAtMost (tile_length side + 1) (bytes_left old.body) (bytes_left new.body)) olds news
  pub names : names_of news ≡ names_of olds

are_read-none : {R : Type 0} (bytes_left : R → Option (List ℕ)) (counts : R → FaultCounts) (side : ℕ) (tiles : List (TileInput R)) → AreRead bytes_left counts side tiles tiles ⊥
are_read-none bytes_left counts side tiles = record {
  faults = SomeReadFails-none (map counts (tile_devices tiles)) (λ f. f);
  within = AllZip-same (λ old new. TakesAtMost (tile_length side + 1) (bytes_left old.body) (bytes_left new.body)) tiles (λ t. takes-none (tile_length side + 1) (bytes_left t.body));
  names = refl;
}

are_read-one : {R : Type 0} (bytes_left : R → Option (List ℕ)) (counts : R → FaultCounts) (side : ℕ) (old new : TileInput R) (Fails : Type 0) →
    IsRead bytes_left counts side old new Fails → AreRead bytes_left counts side (old ∷ []) (new ∷ []) Fails
are_read-one bytes_left counts side old new Fails one = record {
  faults = SomeReadFails-one one.faults;
  within = (one.within, tt);
  names = ap (λ n. n ∷ []) one.name;
}

devices-then : {R : Type 0} (counts : R → FaultCounts) (xs ys : List (TileInput R)) →
    map counts (tile_devices (xs ++ ys)) ≡ map counts (tile_devices xs) ++ map counts (tile_devices ys)
devices-then counts xs ys = ap (map counts) (map-append (λ t. t.body) xs ys) ∙ map-append counts (tile_devices xs) (tile_devices ys)

are_read-then : {R : Type 0} (bytes_left : R → Option (List ℕ)) (counts : R → FaultCounts) (side : ℕ) (olds news us vs : List (TileInput R)) (F G H : Type 0) →
    (F ⊎ G) ↔ H → AreRead bytes_left counts side olds news F → AreRead bytes_left counts side us vs G → AreRead bytes_left counts side (olds ++ us) (news ++ vs) H
are_read-then bytes_left counts side olds news us vs F G H either first more = record {
  faults = rw (devices-then counts olds us, devices-then counts news vs) (SomeReadFails-then either first.faults more.faults);
  within = AllZip-then _ olds us news vs first.within more.within;
  names = map-append (λ t. t.name) news vs ∙ ap (λ l. l ++ names_of vs) first.names ∙ ap (λ l. names_of olds ++ l) more.names ∙ sym (map-append (λ t. t.name) olds us);
}

-- after n tiles of a list: those before are read, and give these samples; the rest is untouched
pub record SoFar {R : Type 0} (bytes_left : R → Option (List ℕ)) (counts : R → FaultCounts) (side i : ℕ) (start now : List (TileInput R)) (samples : List (List ℤ)) : Type 0 where
  pub olds : List (TileInput R)
  pub news : List (TileInput R)
  pub rest : List (TileInput R)
  pub start_is : start ≡ olds ++ rest
  pub now_is : now ≡ news ++ rest
  pub place : i ≡ length news
  pub as_many : length olds ≡ length news
  pub read : AreRead bytes_left counts side olds news ⊥
  pub samples_are : (bodies : List (List ℕ)) → AreBodies bytes_left olds bodies → AreSamplesOf side bodies samples
  pub counted : length samples ≡ length olds
  pub whole : All (λ tile. length tile ≡ side * side) samples

pub so_far-none : {R : Type 0} (bytes_left : R → Option (List ℕ)) (counts : R → FaultCounts) (side : ℕ) (tiles : List (TileInput R)) → SoFar bytes_left counts side 0 tiles tiles []
so_far-none {R} bytes_left counts side tiles = record {
  olds = [];
  news = [];
  rest = tiles;
  start_is = refl;
  now_is = refl;
  place = refl;
  as_many = refl;
  read = are_read-none bytes_left counts side [];
  samples_are = λ bodies are. rw (AllZip-nothing {A = TileInput R} (λ t body. bytes_left t.body ≡ Some body) bodies are) (record { lengths = λ k d below. omega (arith, below); samples_are = refl });
  counted = refl;
  whole = λ k d below. omega (arith, below);
}

-- the place of a tile in the list
seam : {A : Type 0} (now news rest : List A) (i : ℕ) (d v : A) → now ≡ news ++ rest → i ≡ length news → i < length now →
    (more : List A) × (rest ≡ slice_index_or now i d ∷ more) × (slice_set now i v ≡ news ++ v ∷ more)
seam now news [] i d v is place below =
    let all : length now ≡ length news = ap length (is ∙ append-nil news) in
    let none : ⊥ = omega (arith, all, place, below) in absurd none
seam now news (x ∷ more) i d v is place below = (
  more,
  ap (λ y. y ∷ more) (sym (rw (is, place) (get-seam news x d more))),
  rw (is, place) (set-seam news x v more),
)

-- the bodies of some tiles, one more, and the rest
bodies-parts : {R : Type 0} (bytes_left : R → Option (List ℕ)) (olds more : List (TileInput R)) (old : TileInput R) (bodies : List (List ℕ)) → AreBodies bytes_left (olds ++ old ∷ more) bodies →
    (bs : List (List ℕ)) × (b : List ℕ) × (cs : List (List ℕ)) × (bodies ≡ bs ++ b ∷ cs) × AreBodies bytes_left olds bs × (bytes_left old.body ≡ Some b) × AreBodies bytes_left more cs
bodies-parts {R} bytes_left olds more old bodies are =
    let P : TileInput R → List ℕ → Type 0 = λ t body. bytes_left t.body ≡ Some body in
    let (bs, rest, is, before, behind) = AllZip-parts P olds (old ∷ more) bodies are in
    let (b, cs, rest_is, here, later) = AllZip-front P old more rest behind in
    (bs, b, cs, is ∙ ap (λ l. bs ++ l) rest_is, before, here, later)

-- one tile more
samples-more : {R : Type 0} (bytes_left : R → Option (List ℕ)) (side : ℕ) (olds : List (TileInput R)) (old : TileInput R) (samples : List (List ℤ)) (s : List ℤ) →
    ((bodies : List (List ℕ)) → AreBodies bytes_left olds bodies → AreSamplesOf side bodies samples) →
    ((bytes : List ℕ) → bytes_left old.body ≡ Some bytes → IsTile side bytes × (s ≡ samples_of bytes)) →
    (bodies : List (List ℕ)) → AreBodies bytes_left (olds ++ old ∷ []) bodies → AreSamplesOf side bodies (samples ++ s ∷ [])
samples-more {R} bytes_left side olds old samples s before one bodies are =
    let (bs, b, cs, is, first, here, later) = bodies-parts bytes_left olds [] old bodies are in
    let none : cs ≡ [] = AllZip-nothing {A = TileInput R} (λ t body. bytes_left t.body ≡ Some body) cs later in
    let all : bodies ≡ bs ++ b ∷ [] = is ∙ ap (λ l. bs ++ b ∷ l) none in
    let so = before bs first in
    let this = one b here in
    rw all (record {
      lengths = All-push (IsTile side) bs b so.lengths this.0;
      samples_are = ap (λ l. l ++ s ∷ []) so.samples_are ∙ ap (λ x. map samples_of bs ++ x ∷ []) this.1 ∙ sym (map-append samples_of bs (b ∷ []));
    })

pub so_far-more : {R : Type 0} (bytes_left : R → Option (List ℕ)) (counts : R → FaultCounts) (side i : ℕ) (start now : List (TileInput R)) (samples : List (List ℤ)) (d v : TileInput R) (s : List ℤ) (Fails : Type 0) →
    SoFar bytes_left counts side i start now samples → i < length now → IsRead bytes_left counts side (slice_index_or now i d) v Fails → ¬ Fails →
    ((bytes : List ℕ) → bytes_left (slice_index_or now i d).body ≡ Some bytes → IsTile side bytes × (s ≡ samples_of bytes)) → length s ≡ side * side →
    SoFar bytes_left counts side (i + 1) start (slice_set now i v) (samples ++ s ∷ [])
so_far-more bytes_left counts side i start now samples d v s Fails so below one went_on are long =
    let old = slice_index_or now i d in
    let (more, rest_is, now_is) = seam now so.news so.rest i d v so.now_is so.place below in
    record {
      olds = so.olds ++ old ∷ [];
      news = so.news ++ v ∷ [];
      rest = more;
      start_is = so.start_is ∙ ap (λ l. so.olds ++ l) rest_is ∙ sym (append_assoc so.olds (old ∷ []) more);
      now_is = now_is ∙ sym (append_assoc so.news (v ∷ []) more);
      place = omega (arith, so.place, length-append so.news (v ∷ []));
      as_many = omega (arith, so.as_many, length-append so.news (v ∷ []), length-append so.olds (old ∷ []));
      read = are_read-then bytes_left counts side so.olds so.news (old ∷ []) (v ∷ []) ⊥ Fails ⊥ (λ either. elim either [ inl f ↦ f | inr f ↦ went_on f ], λ f. inl f) so.read
          (are_read-one bytes_left counts side old v Fails one);
      samples_are = samples-more bytes_left side so.olds old samples s so.samples_are are;
      counted = omega (arith, so.counted, length-append samples (s ∷ []), length-append so.olds (old ∷ []));
      whole = All-push (λ tile. length tile ≡ side * side) samples s so.whole long;
    }

-- a tile was refused at this place
pub record Stopped {R : Type 0} (bytes_left : R → Option (List ℕ)) (counts : R → FaultCounts) (side : ℕ) (corners : List Corner) (start now : List (TileInput R)) (refusal : Refusal) (Fails : Type 0) : Type 0 where
  pub refused : (bodies : List (List ℕ)) → AreBodies bytes_left start bodies → IsTileRefusal (record { side = side; corners = corners }) bodies refusal
  pub read : AreRead bytes_left counts side start now Fails

first-bad : (side place : ℕ) (bs cs : List (List ℕ)) (b : List ℕ) → place ≡ length bs → All (IsTile side) bs → ¬ IsTile side b → IsFirstBadLength side (bs ++ b ∷ cs) place
first-bad side place bs cs b is before not = record {
  body = b;
  body_is = rw is (slice_get-seam bs b cs);
  length_is_not = not;
  before = λ k earlier less found.
      let inside : k < length bs = omega (arith, is, less) in
      let same : get_or bs k earlier ≡ earlier = sym (get_or_append_left bs (b ∷ cs) earlier k inside) ∙ get_or_from_slice_get (bs ++ b ∷ cs) k earlier earlier found in
      let tile = before k earlier inside in rw same at tile;
}

-- the refusal of one tile is that of the list
refusal-there : (side place : ℕ) (corners : List Corner) (corner : Corner) (bs cs : List (List ℕ)) (b : List ℕ) (refusal : Refusal) → place ≡ length bs → slice_get corners place ≡ Some corner →
    All (IsTile side) bs → IsOneTileRefusal side corner b refusal → IsTileRefusal (record { side = side; corners = corners }) (bs ++ b ∷ cs) refusal
refusal-there side place corners corner bs cs b (BadTileLength c) is named before (same, not) = (place, named ∙ ap Some (sym same), first-bad side place bs cs b is before not)
refusal-there side place corners corner bs cs b OutOfMemory is named before refused = tt
refusal-there side place corners corner bs cs b ReadFailed is named before refused = tt
refusal-there side place corners corner bs cs b BadSide is named before refused = refused
refusal-there side place corners corner bs cs b (BadName k) is named before refused = refused
refusal-there side place corners corner bs cs b NoTiles is named before refused = refused
refusal-there side place corners corner bs cs b (RepeatedTile c) is named before refused = refused
refusal-there side place corners corner bs cs b BoxTooLarge is named before refused = refused
refusal-there side place corners corner bs cs b (BadHeader p fault) is named before refused = refused
refusal-there side place corners corner bs cs b (WrongShape p) is named before refused = refused
refusal-there side place corners corner bs cs b (Misplaced p) is named before refused = refused
refusal-there side place corners corner bs cs b (RasterShort p) is named before refused = refused
refusal-there side place corners corner bs cs b (SeamMismatch c) is named before refused = refused
refusal-there side place corners corner bs cs b (BadSinkLine n) is named before refused = refused
refusal-there side place corners corner bs cs b (SinkNotData n) is named before refused = refused
refusal-there side place corners corner bs cs b (BadSpacingLine n) is named before refused = refused
refusal-there side place corners corner bs cs b (SpacingRows n) is named before refused = refused
refusal-there side place corners corner bs cs b (BadDemHeader fault) is named before refused = refused
refusal-there side place corners corner bs cs b BadPixelSize is named before refused = refused
refusal-there side place corners corner bs cs b DemShort is named before refused = refused

pub so_far-stop : {R : Type 0} (bytes_left : R → Option (List ℕ)) (counts : R → FaultCounts) (side i : ℕ) (corners : List Corner) (start now : List (TileInput R)) (samples : List (List ℤ)) (d v : TileInput R)
    (corner : Corner) (refusal : Refusal) (Fails : Type 0) →
    SoFar bytes_left counts side i start now samples → i < length now → IsRead bytes_left counts side (slice_index_or now i d) v Fails → Some corner ≡ slice_get corners i →
    ((bytes : List ℕ) → bytes_left (slice_index_or now i d).body ≡ Some bytes → IsOneTileRefusal side corner bytes refusal) →
    Stopped bytes_left counts side corners start (slice_set now i v) refusal Fails
so_far-stop {R} bytes_left counts side i corners start now samples d v corner refusal Fails so below one named refused =
    let old = slice_index_or now i d in
    let (more, rest_is, now_is) = seam now so.news so.rest i d v so.now_is so.place below in
    let start_is : start ≡ so.olds ++ (old ∷ more) = so.start_is ∙ ap (λ l. so.olds ++ l) rest_is in
    let P : TileInput R → List ℕ → Type 0 = λ t body. bytes_left t.body ≡ Some body in
    let either : (Fails ⊎ ⊥) ↔ Fails = (λ e. elim e [ inl f ↦ f | inr f ↦ absurd f ], λ f. inl f) in
    let behind : AreRead bytes_left counts side (old ∷ more) (v ∷ more) Fails =
    are_read-then bytes_left counts side (old ∷ []) (v ∷ []) more more Fails ⊥ Fails either (are_read-one bytes_left counts side old v Fails one) (are_read-none bytes_left counts side more) in
    let all : AreRead bytes_left counts side (so.olds ++ (old ∷ more)) (so.news ++ (v ∷ more)) Fails =
    are_read-then bytes_left counts side so.olds so.news (old ∷ more) (v ∷ more) ⊥ Fails Fails (λ e. elim e [ inl f ↦ absurd f | inr f ↦ f ], λ f. inr f) so.read behind in
    record {
      refused = λ bodies are.
          let (bs, b, cs, is, first, here, later) = bodies-parts bytes_left so.olds more old bodies (rw start_is at are) in
          let place : i ≡ length bs = omega (arith, so.place, so.as_many, AllZip-length P so.olds bs first) in
          rw is (refusal-there side i corners corner bs cs b refusal place (sym named) (so.samples_are bs first).lengths (refused b here));
      read = rw (start_is, now_is) all;
    }

-- no tile is left
no-rest : {A : Type 0} (now news rest : List A) → now ≡ news ++ rest → length now ≡ length news → rest ≡ []
no-rest now news [] is all = refl
no-rest now news (x ∷ rest) is all =
    let more : ⊥ = omega (arith, all, ap length is, length-append news (x ∷ rest)) in absurd more

-- each tile of a list is read, and gives its samples
pub record AllRead {R : Type 0} (bytes_left : R → Option (List ℕ)) (counts : R → FaultCounts) (side : ℕ) (start now : List (TileInput R)) (samples : List (List ℤ)) : Type 0 where
  pub read : AreRead bytes_left counts side start now ⊥
  pub samples_are : (bodies : List (List ℕ)) → AreBodies bytes_left start bodies → AreSamplesOf side bodies samples
  pub counted : length samples ≡ length start
  pub whole : All (λ tile. length tile ≡ side * side) samples

pub so_far-all : {R : Type 0} (bytes_left : R → Option (List ℕ)) (counts : R → FaultCounts) (side i : ℕ) (start now : List (TileInput R)) (samples : List (List ℤ)) →
    SoFar bytes_left counts side i start now samples → i ≡ length now → AllRead bytes_left counts side start now samples
so_far-all bytes_left counts side i start now samples so all =
    let none : so.rest ≡ [] = no-rest now so.news so.rest so.now_is (omega (arith, all, so.place)) in
    let start_is : start ≡ so.olds = so.start_is ∙ ap (λ l. so.olds ++ l) none ∙ append-nil so.olds in
    let now_is : now ≡ so.news = so.now_is ∙ ap (λ l. so.news ++ l) none ∙ append-nil so.news in
    record {
      read = rw (start_is, now_is) so.read;
      samples_are = rw start_is so.samples_are;
      counted = rw start_is so.counted;
      whole = so.whole;
    }
