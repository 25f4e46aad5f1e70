-- Which product's device failed for good, if each is read only while nothing was refused before.
use Rattle.drain_verdict.proofs.Names.{◌≡◌, ◌≢◌, ◌↔◌, List, map, Ok, IfErr, IsErrOf, refl, subst, [], ◌∷◌, Some, None, IsSome, sym, ◌⊎◌, inl, inr, Bool, IsTrue, IfSome, ap, ◌∙◌, FaultCounts, SomeReadFails-iff, SomeReadFails-none, takes-none, TileInput, TilesTakeAtMost, names_of, of_product, as_five, audit_devices, AreNames, devices_of, AreNamesKept, UsesInputs, UsesSet, UsesTold, IsOfBodies, AuditProducts, Refusal, OutOfMemory, ReadFailed, AllZip, false≢true, Corner, IsNameOf, NamesGiveCorners, InputsAreTold, PerProduct, SetProduct, by_set_product, Dir, Acc, Bas, Rnk, RasterRows, RasterHasRead, RastersHaveRead, told_by}
use Rattle.std.proofs.Common.{ℕ, Option, Result, Err, IfOk}
use Rattle.drain_verdict.specs.Inputs.{Products}
use Rattle.drain_verdict.proofs.AuditDevices.{devices_of_four, tiles_take_none}
use Rattle.std.specs.List.{All}
use Rattle.std.proofs.lemmas.List.Elements.{All-head, All-tail}
use Rattle.drain_grid.specs.declared.set_product.SetProduct.TheVariants.{Con}
use Rattle.drain_verdict.specs.Reading.{gave_up}

-- How an answer uses its inputs: where none was called, and of four products of which one is read twice.

-- a read failed where the answer says so
pub told_failed : {T : Type 0} (answer : Result T Refusal) → IsErrOf answer ReadFailed ↔ (told_by answer ≡ Some ReadFailed)
told_failed (Ok x) = (λ is. absurd (let no = is in cc), λ is. absurd (let no = is in cc))
told_failed (Err refusal) = (λ is. (let same : refusal ≡ ReadFailed = cc in ap Some same), λ is. (let same : refusal ≡ ReadFailed = cc in ap Err same))

-- no read failed where no refusal of these kinds says so
pub reads_none : {T : Type 0} (Why : Refusal → Type 0) → ¬ Why ReadFailed → (answer : Result T Refusal) → IfErr answer Why → told_by answer ≢ Some ReadFailed
reads_none Why not (Ok x) why is = absurd (let no = is in cc)
reads_none Why not (Err refusal) why is = not (subst Why (let same : refusal ≡ ReadFailed = cc in same) why)

-- an answer about bodies may change the inputs
pub of_bodies_may : {T : Type 0} (Same : Type 0) (answer : Result T Refusal) → IfErr answer IsOfBodies → IfSome (told_by answer) (λ refusal. ¬ IsOfBodies refusal → Same)
of_bodies_may Same (Ok x) of_bodies = tt
of_bodies_may Same (Err refusal) of_bodies = λ not. absurd (not of_bodies)

same_in : (Same : Type 0) (told : Option Refusal) → Same → IfSome told (λ refusal. ¬ IsOfBodies refusal → Same)
same_in Same None same = tt
same_in Same (Some refusal) same = λ not. same

-- if no device was called, all is as it was
pub set_uses_none : {X R P T : Type 0} (inputs_of : P → Products R) (devices : List X → P → List R) (IsWithin IsKept : List X → List X → Type 0) (bytes_left : R → Option (List ℕ)) (counts : R → FaultCounts)
    (inputs : List X) (ps : P) (answer : Result T Refusal) → IsWithin inputs inputs → IsKept inputs inputs → ¬ IsErrOf answer ReadFailed →
    UsesSet inputs_of devices IsWithin IsKept bytes_left counts (inputs, ps) (inputs, ps) answer
set_uses_none inputs_of devices IsWithin IsKept bytes_left counts inputs ps answer within kept not = record {
  inputs_within = within;
  rasters_within = λ p. takes-none _ (bytes_left (of_product (inputs_of ps) p).body);
  faults = SomeReadFails-none (map counts (devices inputs ps)) (λ is. not ((told_failed answer).1 is));
  kept = kept;
  headers = λ p. refl;
  untouched = same_in _ (told_by answer) (refl, refl);
}

pub uses_none : {R P T : Type 0} (inputs_of : P → Products R) (devices : List (TileInput R) → P → List R) (bytes_left : R → Option (List ℕ)) (counts : R → FaultCounts) (side : ℕ)
    (tiles : List (TileInput R)) (ps : P) (answer : Result T Refusal) → ¬ IsErrOf answer ReadFailed → UsesInputs inputs_of devices bytes_left counts side (tiles, ps) (tiles, ps) answer
uses_none inputs_of devices bytes_left counts side tiles ps answer not =
    set_uses_none inputs_of devices (TilesTakeAtMost bytes_left side) AreNamesKept bytes_left counts tiles ps answer (tiles_take_none bytes_left side tiles) refl not

-- where memory runs out after all was read
pub no_memory_left : {X R P : Type 0} (inputs_of : P → Products R) (devices : List X → P → List R) (IsWithin IsKept : List X → List X → Type 0) (bytes_left : R → Option (List ℕ)) (counts : R → FaultCounts)
    (old new : List X × P) → UsesTold inputs_of devices IsWithin IsKept bytes_left counts old new None → UsesTold inputs_of devices IsWithin IsKept bytes_left counts old new (Some OutOfMemory)
no_memory_left inputs_of devices IsWithin IsKept bytes_left counts old new uses = record {
  inputs_within = uses.inputs_within;
  rasters_within = uses.rasters_within;
  faults = SomeReadFails-iff (λ is. absurd (let no = is in cc), λ is. absurd (let no = is in cc)) uses.faults;
  kept = uses.kept;
  headers = uses.headers;
  untouched = λ not. absurd (not tt);
}

-- four products of which one is read twice: that one counts once
pub four_used : {R : Type 0} (bytes_left : R → Option (List ℕ)) (counts : R → FaultCounts) (side : ℕ) (old new : List (TileInput R) × AuditProducts R) (told : Option Refusal) →
    UsesTold as_five (λ ts ps. devices_of ts (as_five ps)) (TilesTakeAtMost bytes_left side) AreNamesKept bytes_left counts old new told →
    UsesTold as_five audit_devices (TilesTakeAtMost bytes_left side) AreNamesKept bytes_left counts old new told
four_used bytes_left counts side old new told uses = record {
  inputs_within = uses.inputs_within;
  rasters_within = uses.rasters_within;
  faults = devices_of_four counts old.0 new.0 old.1 new.1 uses.kept uses.faults;
  kept = uses.kept;
  headers = uses.headers;
  untouched = uses.untouched;
}

-- The inputs that a call encodes: each part is read off the arguments, and each name gives its corner.

-- the known bytes, and none if they aren't known
abbrev told : Option (List ℕ) → List ℕ
told (Some bytes) = bytes
told None = []

told_is : (bytes : Option (List ℕ)) → IsSome bytes → bytes ≡ Some (told bytes)
told_is (Some bytes) some = refl
told_is None some = absurd (false≢true some)

-- names that name tiles name those that the function gives
corners_named : (corner_of : List ℕ → Corner) → ((bytes : List ℕ) (c : Corner) → IsNameOf bytes c → corner_of bytes ≡ c) →
    (names : List (List ℕ)) → AreNames names → AllZip IsNameOf names (map corner_of names)
corners_named corner_of gives [] all = tt
corners_named corner_of gives (name ∷ names) all =
    let P : List ℕ → Type 0 = λ bytes. (c : Corner) × IsNameOf bytes c in
    let here : (c : Corner) × IsNameOf name c = All-head P name names all in
    (subst (IsNameOf name) (sym (gives name here.0 here.1)) here.1, corners_named corner_of gives names (All-tail P name names all))

-- each tile's body is its source's bytes
bodies_told : {R : Type 0} (bytes_left : R → Option (List ℕ)) (tiles : List (TileInput R)) → All (λ tile. IsSome (bytes_left tile.body)) tiles →
    AllZip (λ t body. bytes_left t.body ≡ Some body) tiles (map (λ t. told (bytes_left t.body)) tiles)
bodies_told bytes_left [] all = tt
bodies_told {R} bytes_left (tile ∷ tiles) all =
    let P : TileInput R → Type 0 = λ t. IsSome (bytes_left t.body) in
    (told_is (bytes_left tile.body) (All-head P tile tiles all), bodies_told bytes_left tiles (All-tail P tile tiles all))

pub inputs_are_told : NamesGiveCorners → {R : Type 0} (bytes_left : R → Option (List ℕ)) → InputsAreTold bytes_left
inputs_are_told corner bytes_left side tiles given ps tiles_tell products_tell = (
  record {
    side = side;
    names = names_of tiles;
    corners = map corner.0 (names_of tiles);
    tiles = map (λ t. told (bytes_left t.body)) tiles;
    given = given;
    header = λ p. (of_product ps p).header;
    raster = λ p. told (bytes_left (of_product ps p).body);
  },
  record {
    side_is = refl;
    names_are = refl;
    corners_are = corners_named corner.0 corner.1 (names_of tiles);
    tiles_are = bodies_told bytes_left tiles tiles_tell;
    given_is = refl;
    headers_are = λ p. refl;
    rasters_are = λ p. told_is (bytes_left (of_product ps p).body) (products_tell p);
  },
)

abbrev pub Answer : Type 0
Answer = Result (Unit {0}) Refusal

-- what follows from a result's clause is a clause of it
pub over_ok : {T E : Type 0} (r : Result T E) (P Q : T → Type 0) → ((x : T) → P x → Q x) → IfOk r P → IfOk r Q
over_ok (Ok x) P Q step h = step x h
over_ok (Err e) P Q step h = tt

pub over_err : {T E : Type 0} (r : Result T E) (P Q : E → Type 0) → ((e : E) → P e → Q e) → IfErr r P → IfErr r Q
over_err (Ok x) P Q step h = tt
over_err (Err e) P Q step h = step e h

-- a refusal by which a device failed for good
pub only_failed : (refusal : Refusal) → IsTrue (gave_up None (Some refusal)) → refusal ≡ ReadFailed
only_failed ReadFailed up = refl
only_failed refusal up = absurd (let no = up in cc)

abbrev pub HasFailed : Answer → Type 0
HasFailed answer = told_by answer ≡ Some ReadFailed

-- a device has given up exactly where one had before, or this one did
pub fails_then : (before after : Answer) → IfErr before (λ refusal. after ≡ Err refusal) → HasFailed after ↔ (HasFailed before ⊎ IsTrue (gave_up (told_by before) (told_by after)))
fails_then (Ok done) (Ok done_then) stays = (λ failed. absurd (let no = failed in cc), λ either. elim either [ inl failed ↦ absurd (let no = failed in cc) | inr up ↦ absurd (let no = up in cc) ])
fails_then (Ok done) (Err refusal) stays = (
  λ failed. let is : refusal ≡ ReadFailed = (let f = failed in cc) in inr (subst (λ r. IsTrue (gave_up None (Some r))) (sym is) refl),
  λ either. elim either [ inl failed ↦ absurd (let no = failed in cc) | inr up ↦ ap Some (only_failed refusal up) ],
)
fails_then (Err refusal) after stays = (
  λ failed. inl (sym (ap told_by stays) ∙ failed),
  λ either. elim either [ inl failed ↦ ap told_by stays ∙ failed | inr up ↦ absurd (let no = up in cc) ],
)

-- whether the product's device failed for good
abbrev pub failed_at : (con dir acc bas rnk : Answer) → SetProduct → Bool
failed_at con dir acc bas rnk Con = gave_up None (told_by con)
failed_at con dir acc bas rnk Dir = gave_up (told_by con) (told_by dir)
failed_at con dir acc bas rnk Acc = gave_up (told_by dir) (told_by acc)
failed_at con dir acc bas rnk Bas = gave_up (told_by acc) (told_by bas)
failed_at con dir acc bas rnk Rnk = gave_up (told_by bas) (told_by rnk)

-- an earlier answer stays the answer
pub record Stay (con dir acc bas rnk : Answer) : Type 0 where
  pub at_dir : IfErr con (λ refusal. dir ≡ Err refusal)
  pub at_acc : IfErr dir (λ refusal. acc ≡ Err refusal)
  pub at_bas : IfErr acc (λ refusal. bas ≡ Err refusal)
  pub at_rnk : IfErr bas (λ refusal. rnk ≡ Err refusal)

-- the last answer says that a device failed for good exactly if that of some product did
pub some_failed : (con dir acc bas rnk : Answer) → Stay con dir acc bas rnk → HasFailed rnk ↔ ((p : SetProduct) × IsTrue (failed_at con dir acc bas rnk p))
some_failed con dir acc bas rnk stay =
    let at_con = fails_then (Ok tt) con tt in
    let at_dir = fails_then con dir stay.at_dir in
    let at_acc = fails_then dir acc stay.at_acc in
    let at_bas = fails_then acc bas stay.at_bas in
    let at_rnk = fails_then bas rnk stay.at_rnk in
    let from_con : HasFailed con → ((p : SetProduct) × IsTrue (failed_at con dir acc bas rnk p)) = λ h. elim (at_con.0 h) [ inl none ↦ absurd (let no = none in cc) | inr up ↦ (Con, up) ] in
    let from_dir : HasFailed dir → ((p : SetProduct) × IsTrue (failed_at con dir acc bas rnk p)) = λ h. elim (at_dir.0 h) [ inl before ↦ from_con before | inr up ↦ (Dir, up) ] in
    let from_acc : HasFailed acc → ((p : SetProduct) × IsTrue (failed_at con dir acc bas rnk p)) = λ h. elim (at_acc.0 h) [ inl before ↦ from_dir before | inr up ↦ (Acc, up) ] in
    let from_bas : HasFailed bas → ((p : SetProduct) × IsTrue (failed_at con dir acc bas rnk p)) = λ h. elim (at_bas.0 h) [ inl before ↦ from_acc before | inr up ↦ (Bas, up) ] in
    let to_bas : HasFailed bas → HasFailed rnk = λ h. at_rnk.1 (inl h) in
    let to_acc : HasFailed acc → HasFailed rnk = λ h. to_bas (at_bas.1 (inl h)) in
    let to_dir : HasFailed dir → HasFailed rnk = λ h. to_acc (at_acc.1 (inl h)) in
    let to_con : HasFailed con → HasFailed rnk = λ h. to_dir (at_dir.1 (inl h)) in (
      λ h. elim (at_rnk.0 h) [ inl before ↦ from_bas before | inr up ↦ (Rnk, up) ],
      λ some. by_set_product (λ p. IsTrue (failed_at con dir acc bas rnk p) → HasFailed rnk)
          (λ up. to_con (at_con.1 (inr up))) (λ up. to_dir (at_dir.1 (inr up))) (λ up. to_acc (at_acc.1 (inr up)))
          (λ up. to_bas (at_bas.1 (inr up))) (λ up. at_rnk.1 (inr up)) some.0 some.1,
    )

-- the products with other bodies
abbrev pub with_bodies : {R : Type 0} → Products R → R → R → R → R → R → Products R
with_bodies ps con dir acc bas rnk = record {
  con = record { header = ps.con.header; body = con };
  dir = record { header = ps.dir.header; body = dir };
  acc = record { header = ps.acc.header; body = acc };
  bas = record { header = ps.bas.header; body = bas };
  rnk = record { header = ps.rnk.header; body = rnk };
}

module _ {R : Type 0} (bytes_left : R → Option (List ℕ)) (counts : R → FaultCounts) (old new : PerProduct RasterRows) (lent : Products R) where
  -- one product's part: between these answers its device was called, or left alone
  abbrev pub IsPart : SetProduct → R → Bool → Type 0
  IsPart p body failed = RasterHasRead (bytes_left (of_product lent p).body) (bytes_left body) (counts (of_product lent p).body) (counts body) (of_product old p) (of_product new p) (IsTrue failed)

  pub all_read : (con dir acc bas rnk : R) (a b c d e : Answer) → Stay a b c d e →
      IsPart Con con (failed_at a b c d e Con) → IsPart Dir dir (failed_at a b c d e Dir) → IsPart Acc acc (failed_at a b c d e Acc) →
      IsPart Bas bas (failed_at a b c d e Bas) → IsPart Rnk rnk (failed_at a b c d e Rnk) →
      RastersHaveRead bytes_left counts old new lent (with_bodies lent con dir acc bas rnk) (told_by e)
  all_read con dir acc bas rnk a b c d e stay at_con at_dir at_acc at_bas at_rnk =
      let lent_then = with_bodies lent con dir acc bas rnk in
      record {
        failed = failed_at a b c d e;
        exactly = some_failed a b c d e stay;
        each = by_set_product (λ p. IsPart p (of_product lent_then p).body (failed_at a b c d e p)) at_con at_dir at_acc at_bas at_rnk;
        headers = by_set_product (λ p. (of_product lent_then p).header ≡ (of_product lent p).header) refl refl refl refl refl;
      }
