-- The first tile of a list that equals an earlier one, place by place.
use Rattle.drain_mosaic.proofs.Names.{◌≡◌, ℕ, ◌+◌, ◌<◌, ◌≤◌, Bool, true, false, ◌&&◌, List, length, get_or, take, int_eq, Some, arith, refl, sym, ap, ◌∙◌, below_more, ◌≢◌, ◌*◌, ◌-◌, ℤ, [], inl, inr, nat_abs, subst, zero, suc, ◌∷◌, false≢true, ltb-true, lt-ltb, leb-true, le-leb, Decides-int_eq, get_or-take, length-take-le, slice_get-get_or, get_or_from_slice_get, Corner, IsRepeatedAt, IsFirstRepeated, HasLayoutFault, IsLayout, AreTilingNumbers, AreBoundsOf, layout_fault_order, ◌⊎◌, ◌==◌, nat_le, nat_lt, Extent, IsSide, height_from, NoTiles, RepeatedTile, BoxTooLarge, Tiling, tiles_down, tiles_across, top_of, left_of, Any, option_or, Cell, Covers, Tile, ShowsSample, IsValue, sample_over, value_from, first_value, AgreementGivesElevation}
use Rattle.std.specs.Prelude.{cond, None}
use Rattle.drain_text.specs.First.{IsFirst, IsBefore}
use Rattle.drain_mosaic.specs.declared.layout.TheConstants.{MAX_BOX}
use Rattle.drain_mosaic.specs.declared.layout.LayoutFault.{LayoutFault}
use Rattle.drain_mosaic.specs.declared.layout.LayoutFault.TheVariants.{OutOfMemory}

-- the two tiles have the same degrees
abbrev pub same_tile : Corner → Corner → Bool
same_tile c d = int_eq c.lat d.lat && int_eq c.lon d.lon

both : (a b : Bool) → (a && b) ≡ true → (a ≡ true) × (b ≡ true)
both true b e = (refl, e)
both false b e = cc

same : (c d : Corner) → same_tile c d ≡ true → c ≡ d
same c d e =
    let r = both (int_eq c.lat d.lat) (int_eq c.lon d.lon) e in
    let lat = (Decides-int_eq c.lat d.lat).0 r.0 in
    let lon = (Decides-int_eq c.lon d.lon).0 r.1 in
    ap (λ x. record { lat = x; lon = c.lon }) lat ∙ ap (λ y. record { lat = d.lat; lon = y }) lon

itself : (c : Corner) → same_tile c c ≡ true
itself c =
    let lat = (Decides-int_eq c.lat c.lat).1 refl in
    let lon = (Decides-int_eq c.lon c.lon).1 refl in
    ap (λ b. b && int_eq c.lon c.lon) lat ∙ lon

pub first_found : (names : List Corner) (i : ℕ) (name : Corner) (k : ℕ) → i < length names → name ≡ get_or names i name → k < length (take i names) → ((d : Corner) → same_tile (get_or (take i names) k d) name ≡ true)
    → ((k : ℕ) (c : Corner) → k < i → ¬ IsRepeatedAt names k c) → IsFirstRepeated names name
first_found names i name k inside is within found none =
    let long = length-take-le i names (omega arith) in
    let earlier : get_or names k name ≡ name = sym (get_or-take i names k name (omega arith)) ∙ same _ _ (found name) in
    record {
      place = i;
      repeated = record {
        earlier = k;
        before = omega arith;
        here = slice_get-get_or names i name inside ∙ ap (λ c. Some c) (sym is);
        there = slice_get-get_or names k name (omega arith) ∙ ap (λ c. Some c) earlier;
      };
      first = none;
    }

pub none_more : (names : List Corner) (i : ℕ) (name : Corner) → i < length names → name ≡ get_or names i name → ((k : ℕ) (d : Corner) → 0 ≤ k → k < length (take i names) → same_tile (get_or (take i names) k d) name ≡ false)
    → ((k : ℕ) (c : Corner) → k < i → ¬ IsRepeatedAt names k c) → (k : ℕ) (c : Corner) → k < i + 1 → ¬ IsRepeatedAt names k c
none_more names i name inside is apart none k c below = below_more (λ k. (c : Corner) → ¬ IsRepeatedAt names k c) i (λ k h c. none k c h) here k below c
  where
    here : (c : Corner) → ¬ IsRepeatedAt names i c
    here c r =
        let long = length-take-le i names (omega arith) in
        let at : c ≡ name = sym (get_or_from_slice_get names i c name r.here) ∙ sym is in
        let there = get_or-take i names r.earlier name r.before ∙ get_or_from_slice_get names r.earlier c name r.there ∙ at in
        false≢true (sym (apart r.earlier name (omega arith) (omega (arith, long, r.before))) ∙ ap (λ d. same_tile d name) there ∙ itself name)

-- Which fault of a list of tiles comes first, and that a list without them makes a mosaic.

-- there are tiles, each named once
pub record AreNamedOnce (t : Tiling) : Type 0 where
  pub some : t.corners ≢ []
  pub once : (i : ℕ) (c : Corner) → ¬ IsRepeatedAt t.corners i c

no_fault_before : (t : Tiling) → AreNamedOnce t → (fault : LayoutFault) → IsBefore (layout_fault_order fault) (2, 0) → ¬ HasLayoutFault t fault
no_fault_before t named NoTiles before h = named.some h
no_fault_before t named (RepeatedTile c) before h = named.once h.place c h.repeated
no_fault_before t named BoxTooLarge (inl before) h = absurd (omega arith)
no_fault_before t named BoxTooLarge (inr before) h = absurd (omega (arith, before.1))
no_fault_before t named OutOfMemory before h = h

pub too_large : (t : Tiling) → AreNamedOnce t → (MAX_BOX < tiles_down t) ⊎ (MAX_BOX < tiles_across t) → IsFirst layout_fault_order (HasLayoutFault t) BoxTooLarge
too_large t named large = record { holds = large; first = no_fault_before t named }

pub sound : (t : Tiling) (down across : ℕ) → AreNamedOnce t → down ≡ tiles_down t → across ≡ tiles_across t → down ≤ MAX_BOX → across ≤ MAX_BOX → (fault : LayoutFault) → ¬ HasLayoutFault t fault
sound t down across named p q few small NoTiles h = named.some h
sound t down across named p q few small (RepeatedTile c) h = named.once h.place c h.repeated
sound t down across named p q few small BoxTooLarge (inl h) = absurd (omega (arith, p, few, h))
sound t down across named p q few small BoxTooLarge (inr h) = absurd (omega (arith, q, small, h))
sound t down across named p q few small OutOfMemory h = h

pub is_some : (corners : List Corner) (empty : Bool) → empty ≡ false → empty ≡ (length corners == 0) → corners ≢ []
is_some corners empty full is none = false≢true (sym full ∙ is ∙ ap (λ cs. length cs == 0) none)

-- running out of memory says nothing of the tiles, so it is never their first fault
pub not_memory : (t : Tiling) (fault : LayoutFault) → IsFirst layout_fault_order (HasLayoutFault t) fault → fault ≢ OutOfMemory
not_memory t fault first e = subst (HasLayoutFault t) e first.holds

-- tiles without a fault make a mosaic, and the code's numbers are those of its box
pub layout_is : (t : Tiling) (down across : ℕ) (west north w n : ℤ) (shape : Extent) → IsSide t.side → ((fault : LayoutFault) → ¬ HasLayoutFault t fault) → AreBoundsOf t west north down across
    → w ≡ west → n ≡ north → shape ≡ record { rows = down * (t.side - 1) + 1; cols = across * (t.side - 1) + 1 } → IsLayout t × AreTilingNumbers t w n shape
layout_is t down across west north w n shape side sound bounds p q is = (
  record { side = side; sound = sound },
  record {
    west_is = p ∙ bounds.west_is;
    north_is = q ∙ bounds.north_is;
    shape_is = is ∙ ap (λ d. record { rows = d * (t.side - 1) + 1; cols = across * (t.side - 1) + 1 }) bounds.down_is
        ∙ ap (λ a. record { rows = tiles_down t * (t.side - 1) + 1; cols = a * (t.side - 1) + 1 }) bounds.across_is;
    west_near = subst (λ x. nat_abs x ≤ 180) (sym p) bounds.west_near;
    north_near = subst (λ x. nat_abs x ≤ 90) (sym q) bounds.north_near;
  },
)

-- Where tiles agree, the first value is the one value of each cell.

pub chosen : {A : Type 0} (b : Bool) (x y z : A) → cond b x y ≡ z → ((b ≡ true) × (x ≡ z)) ⊎ ((b ≡ false) × (y ≡ z))
chosen true x y z e = inl (refl, e)
chosen false x y z e = inr (refl, e)

four_true : (a b c d : Bool) → (a && (b && (c && d))) ≡ true → (a ≡ true) × (b ≡ true) × (c ≡ true) × (d ≡ true)
four_true true true true true e = (refl, refl, refl, refl)
four_true true true true false e = cc
four_true true true false d e = cc
four_true true false c d e = cc
four_true false b c d e = cc

pub all_true : {A : Type 0} (a b c d : Bool) (x y : A) → a ≡ true → b ≡ true → c ≡ true → d ≡ true → cond (a && (b && (c && d))) x y ≡ x
all_true a b c d x y p q r s = rw (p, q, r, s) refl

pub gives_from : (t : Tiling) (tile : Tile) (c : Cell) (v : ℤ) → value_from t tile c ≡ Some v → ShowsSample t tile c v
gives_from t tile c v e =
    let top = top_of t tile.corner in
    let left = left_of t tile.corner in
    elim (chosen (nat_le top c.row && (nat_lt c.row (top + t.side) && (nat_le left c.col && nat_lt c.col (left + t.side)))) (height_from (sample_over t tile c)) None (Some v) e) [
      | inl r ↦ (
          let tests = four_true (nat_le top c.row) (nat_lt c.row (top + t.side)) (nat_le left c.col) (nat_lt c.col (left + t.side)) r.0 in
          record {
            covers = record {
              from_top = leb-true top c.row tests.0;
              to_bottom = ltb-true c.row (top + t.side) tests.1;
              from_left = leb-true left c.col tests.2;
              to_right = ltb-true c.col (left + t.side) tests.3;
            };
            is = r.1;
          })
      | inr r ↦ (let p = r.1 in cc)
    ]

-- a tile gives its sample where it covers the cell
pub covered : (t : Tiling) (tile : Tile) (c : Cell) → Covers t tile c → value_from t tile c ≡ height_from (sample_over t tile c)
covered t tile c h =
    let top = top_of t tile.corner in
    let left = left_of t tile.corner in
    all_true
    (nat_le top c.row)
    (nat_lt c.row (top + t.side))
    (nat_le left c.col)
    (nat_lt c.col (left + t.side))
    (height_from (sample_over t tile c))
    None
    (le-leb top c.row h.from_top)
    (lt-ltb c.row (top + t.side) h.to_bottom)
    (le-leb left c.col h.from_left)
    (lt-ltb c.col (left + t.side) h.to_right)

pub from_gives : (t : Tiling) (tile : Tile) (c : Cell) (v : ℤ) → ShowsSample t tile c v → value_from t tile c ≡ Some v
from_gives t tile c v g = covered t tile c g.covers ∙ g.is

pub any_here : {X : Type 0} (P : X → Type 0) (x : X) (xs : List X) → P x → Any P (x ∷ xs)
any_here P x xs p = (0, x, omega arith, refl, p)

pub any_later : {X : Type 0} (P : X → Type 0) (x : X) (xs : List X) → Any P xs → Any P (x ∷ xs)
any_later P x xs a = (suc a.0, a.1, omega (arith, a.2), a.3, a.4)

-- what the first value is, some tile gives
pub value_of_first : (t : Tiling) (tiles : List Tile) (c : Cell) (v : ℤ) → first_value t tiles c ≡ Some v → IsValue t tiles c v
value_of_first t [] c v e = cc
value_of_first t (tile ∷ more) c v e =
    elim (value_from t tile c) as (λ o. value_from t tile c ≡ o → option_or o (first_value t more c) ≡ Some v → IsValue t (tile ∷ more) c v) [
      | Some w ↦ λ is f. any_here (λ s. ShowsSample t s c v) tile more (gives_from t tile c v (is ∙ f))
      | None ↦ λ is f. any_later (λ s. ShowsSample t s c v) tile more (value_of_first t more c v f)
    ] refl e

-- a value of the cell means that the first value is there
pub is_some_first : (t : Tiling) (tiles : List Tile) (c : Cell) (v : ℤ) → IsValue t tiles c v → (w : ℤ) × (first_value t tiles c ≡ Some w)
is_some_first t [] c v is = absurd (omega (arith, is.2))
is_some_first t (tile ∷ more) c v is =
    elim (value_from t tile c) as (λ o. value_from t tile c ≡ o → (w : ℤ) × (option_or o (first_value t more c) ≡ Some w)) [
      | Some w ↦ λ here. (w, refl)
      | None ↦ λ none. is_some_first t more c v (later is.0 is.1 is.2 is.3 is.4 none)
    ] refl
  where
    later : (k : ℕ) (x : Tile) → k < length (tile ∷ more) → get_or (tile ∷ more) k x ≡ x → ShowsSample t x c v → value_from t tile c ≡ None → IsValue t more c v
    later zero x below at gives none = (let p = from_gives t tile c v (rw (← at) at gives) in cc)
    later (suc k) x below at gives none = (k, x, omega arith, at, gives)

pub agreement_gives_elevation : AgreementGivesElevation
agreement_gives_elevation t tiles agree c v inside = (
  λ e. value_of_first t tiles c v e,
  λ is. (
      let first = is_some_first t tiles c v is in
      let same : first.0 ≡ v = agree c first.0 v inside (value_of_first t tiles c first.0 first.1) is in
      first.1 ∙ ap (λ w. Some w) same),
)
