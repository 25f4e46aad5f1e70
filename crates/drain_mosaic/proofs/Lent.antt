-- What a vector keeps whose items were lent whole and written back.
use Rattle.drain_mosaic.proofs.Names.{◌≡◌, ℕ, ◌<◌, ◌≤◌, ◌^◌, ℤ, List, ◌++◌, length, map, take, drop, Option, Some, Ok, Err, IsErrOf, MatchOption, arith, sym, ap, ◌∙◌, subst, All, ints, All-same, FaultCounts, ReadFault, ReadFailed, Progress, Going, Done, Stopped, VOID, IsSample, lent_back, TileInput, ArePlacedWithin, HaveRead, IsPlacedWithin, IsRowLaid, streams_of, Stream, PlacedRows}
use Rattle.std.proofs.Common.{None}
use Rattle.drain_mosaic.proofs.MosaicSteps.{have-so}

-- the n items of a vector were lent, and others came back in their place
pub record IsLent {X : Type 0} (old held cur : List X) (n : ℕ) : Type 0 where
  pub same : held ≡ old
  pub full : length held ≡ n
  pub long : length cur ≡ length held

-- what the vector holds then
abbrev pub back : {X : Type 0} → List X → List X → ℕ → List X
back old cur n = take n (cur ++ drop (length cur) old)

pub lent : {X : Type 0} {old held cur : List X} {n : ℕ} → held ≡ old → length held ≡ n → length cur ≡ length held → IsLent old held cur n
lent same full long = record { same = same; full = full; long = long }

pub is_back : {X : Type 0} {old held cur : List X} {n : ℕ} → IsLent old held cur n → back old cur n ≡ cur
is_back l = lent_back l.same l.full l.long

pub as_long : {X : Type 0} {old held cur : List X} {n : ℕ} → IsLent old held cur n → length (back old cur n) ≡ length old
as_long l = ap length (is_back l) ∙ l.long ∙ ap length l.same

-- what was true of the items is true of those that were lent
pub all_lent : {X : Type 0} {old held : List X} (P : X → Type 0) → held ≡ old → All P old → All P held
all_lent {old = old} {held = held} P same h = All-same P held old same h

-- and what is true of those that came back is true of the vector's
pub all_back : {X : Type 0} {old held cur : List X} {n : ℕ} (P : X → Type 0) → IsLent old held cur n → All P cur → All P (back old cur n)
all_back {old = old} {cur = cur} {n = n} P l h = All-same P (back old cur n) cur (is_back l) h

-- so tiles that stay within rows as wide as these do
pub within_back : {old held cur : List PlacedRows} {n : ℕ} (side rows cols wide : ℕ) → IsLent old held cur n → wide ≡ cols → All (IsPlacedWithin side rows cols) old →
    (ArePlacedWithin side rows wide held → ArePlacedWithin side rows wide cur) → All (IsPlacedWithin side rows cols) (back old cur n)
within_back {held = held} {cur = cur} side rows cols wide l same within stay =
    let P = IsPlacedWithin side rows cols in
    all_back P l (subst (λ m. ArePlacedWithin side rows m cur) same (stay (subst (λ m. ArePlacedWithin side rows m held) (sym same) (all_lent P l.same within))))

-- the same calls, for the vector's tiles
have-back : {R : Type 0} {bl : R → Option (List ℕ)} {ct : R → FaultCounts} {old held cur : List PlacedRows} {n : ℕ} {from now : List (TileInput R)} {F G : Type 0} → IsLent old held cur n → (F → G) → (G → F) →
    HaveRead bl ct held cur from now F → HaveRead bl ct old (back old cur n) from now G
have-back {bl = bl} {ct = ct} {old = old} {held = held} {cur = cur} {n = n} {from = from} {now = now} {F = F} {G = G} l there here read =
    have-so bl ct old cur (back old cur n) from now F G (is_back l) there here (subst (λ (x : List PlacedRows). HaveRead bl ct x cur from now F) l.same read)

pub have-back-ok : {R T U : Type 0} {bl : R → Option (List ℕ)} {ct : R → FaultCounts} {old held cur : List PlacedRows} {n : ℕ} {from now : List (TileInput R)} {t : T} {u : U} → IsLent old held cur n →
    HaveRead bl ct held cur from now (IsErrOf {E = ReadFault} (Ok t) ReadFailed) → HaveRead bl ct old (back old cur n) from now (IsErrOf {E = ReadFault} (Ok u) ReadFailed)
have-back-ok l read = have-back l (λ e. absurd (cc)) (λ e. absurd (cc)) read

pub have-back-err : {R T U : Type 0} {bl : R → Option (List ℕ)} {ct : R → FaultCounts} {old held cur : List PlacedRows} {n : ℕ} {from now : List (TileInput R)} {fault : ReadFault} → IsLent old held cur n →
    HaveRead bl ct held cur from now (IsErrOf {T = T} (Err fault) ReadFailed) → HaveRead bl ct old (back old cur n) from now (IsErrOf {T = U} (Err fault) ReadFailed)
have-back-err l read = have-back l (λ e. cc) (λ e. cc) read

-- and their streams
pub streams-back : {R : Type 0} (bl : R → Option (List ℕ)) {old held cur : List PlacedRows} {n : ℕ} (from now : List (TileInput R)) (f : Stream → Stream) → IsLent old held cur n →
    streams_of bl cur now ≡ map f (streams_of bl held from) → streams_of bl (back old cur n) now ≡ map f (streams_of bl old from)
streams-back bl from now f l next =
    ap (λ (x : List PlacedRows). streams_of bl x now) (is_back l) ∙ next ∙ ap (λ (x : List PlacedRows). map f (streams_of bl x from)) l.same

-- tiles that were lent laid a row: so did the vector's
pub laid-by : {R : Type 0} (bl : R → Option (List ℕ)) {side row : ℕ} {old held : List PlacedRows} (from : List (TileInput R)) {out : List ℤ} {found : Option ℕ} → held ≡ old →
    IsRowLaid side row (streams_of bl held from) out found → IsRowLaid side row (streams_of bl old from) out found
laid-by bl {side = side} {row = row} from {out = out} {found = found} same laid = subst (λ (x : List PlacedRows). IsRowLaid side row (streams_of bl x from) out found) same laid

-- a row of voids that was lent
pub lent-voids : {old held : List ℤ} → held ≡ old → All (λ z. z ≡ VOID) old → All IsSample held
lent-voids same voids k d inside = subst IsSample (sym (all_lent (λ z. z ≡ VOID) same voids k d inside)) (record { low = omega (arith, ints); high = omega (arith, ints) })

-- a row has fewer columns than 2^32
pub found-fits : {n m : ℕ} (found : Option ℕ) → n ≡ m → m < 2 ^ 32 → MatchOption found (Unit {0}) (λ col. col < n) → MatchOption found (Unit {0}) (λ col. col < 2 ^ 32)
found-fits None same fits inside = tt
found-fits (Some col) same fits inside = omega (arith, inside)

-- one row more
pub row-below : {row rows given : ℕ} → row ≤ rows → given ≡ rows → (row ≡ given → ⊥) → row < rows
row-below bounded same other = omega (arith, other)

pub done-or-going : Done ≡ Going → ⊥
done-or-going e = cc

pub stopped-or-going : Stopped ≡ Going → ⊥
stopped-or-going e = cc

pub stopped-or-done : Stopped ≡ Done → ⊥
stopped-or-done e = cc

pub going-or-done : {s : Progress} → s ≡ Going → s ≡ Done → ⊥
going-or-done e f = cc
