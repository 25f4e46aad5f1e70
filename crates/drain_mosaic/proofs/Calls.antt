-- One call for each tile, one tile after another.
use Rattle.drain_mosaic.proofs.Names.{◌≡◌, ◌≢◌, ℕ, zero, suc, ◌+◌, ◌<◌, ◌≤◌, ℤ, List, [], ◌∷◌, ◌++◌, length, map, get_or, set, take, Option, Some, Err, IsErrOf, arith, refl, sym, ap, ◌∙◌, inl, inr, subst, IsTrue, MatchOption, below_more, IsSome, All, cases_lt, take_more, FaultCounts, VOID, TileInput, IsLeastOf, first_of, Stream, end_stream, is_seam, next_stream, AreTold, HasRead, HaveRead, IsPlacedAt, IsRowLaid, IsTileRowLaid, stream_of, streams_of, PlacedRows, ReadFault, WrongLength, ReadFailed, AlreadyFailed}
use Rattle.std.proofs.Common.{None}
use Rattle.std.proofs.lemmas.List.{get_or-set_same, get_or-set_other}
use Rattle.drain_mosaic.proofs.Places.{any_default}
use Rattle.drain_mosaic.proofs.Laying.{values-more, seam-more, seam-none}
use Rattle.drain_mosaic.proofs.TileCalls.{read-none, read-so}
use Rattle.drain_device.specs.declared.row_source.ReadFault.TheVariants.{OutOfMemory}

-- a call for the tile in this place
abbrev pub ReadAt : (R : Type 0) → (R → Option (List ℕ)) → (R → FaultCounts) → List PlacedRows → List PlacedRows → List (TileInput R) → List (TileInput R) → ℕ → PlacedRows → TileInput R → Type 0 → Type 0
ReadAt R bl ct old cur from now k p t Fails =
    HasRead (bl (get_or from k t).body) (bl (get_or now k t).body) (ct (get_or from k t).body) (ct (get_or now k t).body) (get_or old k p) (get_or cur k p) Fails

-- the first i tiles had a call that didn't fail, the others none
pub record Gone {R : Type 0} (bl : R → Option (List ℕ)) (ct : R → FaultCounts) (i : ℕ) (old cur : List PlacedRows) (from now : List (TileInput R)) : Type 0 where
  pub rest : (k : ℕ) (p : PlacedRows) → i ≤ k → get_or cur k p ≡ get_or old k p
  pub rest_from : (k : ℕ) (t : TileInput R) → i ≤ k → get_or now k t ≡ get_or from k t
  pub gone : (k : ℕ) → k < i → (p : PlacedRows) (t : TileInput R) → ReadAt R bl ct old cur from now k p t ⊥

module _ (R : Type 0) (bl : R → Option (List ℕ)) (ct : R → FaultCounts) where
  pub gone-start : (old : List PlacedRows) (from : List (TileInput R)) → Gone bl ct 0 old old from from
  gone-start old from = record {
    rest = λ k p h. refl;
    rest_from = λ k t h. refl;
    gone = λ k h. absurd (omega (arith, h));
  }

  pub gone-more : (i : ℕ) (old cur : List PlacedRows) (from now : List (TileInput R)) (p0 q : PlacedRows) (t0 u : TileInput R) (F : Type 0) → (F → ⊥) → i < length old → length cur ≡ length old → length now ≡ length from → length from ≡ length old →
      Gone bl ct i old cur from now → HasRead (bl (get_or now i t0).body) (bl u.body) (ct (get_or now i t0).body) (ct u.body) (get_or cur i p0) q F → Gone bl ct (i + 1) old (set cur i q) from (set now i u)
  gone-more i old cur from now p0 q t0 u F never inside same same_from named g here = record {
    rest = λ k p h. get_or-set_other cur i k q p (omega (arith, h)) ∙ g.rest k p (omega (arith, h));
    rest_from = λ k t h. get_or-set_other now i k u t (omega (arith, h)) ∙ g.rest_from k t (omega (arith, h));
    gone = below_more (λ k. (p : PlacedRows) (t : TileInput R) → ReadAt R bl ct old (set cur i q) from (set now i u) k p t ⊥) i before at;
  }
    where
      before : (k : ℕ) → k < i → (p : PlacedRows) (t : TileInput R) → ReadAt R bl ct old (set cur i q) from (set now i u) k p t ⊥
      before k less p t =
          let e1 : get_or (set cur i q) k p ≡ get_or cur k p = get_or-set_other cur i k q p (omega arith) in
          let e2 : get_or (set now i u) k t ≡ get_or now k t = get_or-set_other now i k u t (omega arith) in
          rw (e1, e2) (g.gone k less p t)

      at : (p : PlacedRows) (t : TileInput R) → ReadAt R bl ct old (set cur i q) from (set now i u) i p t ⊥
      at p t =
          let e1 : get_or (set cur i q) i p ≡ q = get_or-set_same cur i q p (omega arith) in
          let e2 : get_or (set now i u) i t ≡ u = get_or-set_same now i u t (omega arith) in
          let e3 : get_or old i p ≡ get_or cur i p0 = any_default old i p p0 inside ∙ sym (g.rest i p0 (omega arith)) in
          let e4 : get_or from i t ≡ get_or now i t0 = any_default from i t t0 (omega arith) ∙ sym (g.rest_from i t0 (omega arith)) in
          rw (e1, e2, e3, e4) (read-so (bl (get_or now i t0).body) (bl u.body) (ct (get_or now i t0).body) (ct u.body) (get_or cur i p0) q F ⊥ never (λ x. absurd x) here)

  pub gone-at : (i : ℕ) (old cur : List PlacedRows) (from now : List (TileInput R)) → Gone bl ct i old cur from now → (k : ℕ) (p : PlacedRows) (t : TileInput R) (F : Type 0) → (F → ⊥) → ReadAt R bl ct old cur from now k p t F
  gone-at i old cur from now g k p t F never = elim (cases_lt k i) [
    | inl less ↦ read-so (bl (get_or from k t).body) (bl (get_or now k t).body) (ct (get_or from k t).body) (ct (get_or now k t).body) (get_or old k p) (get_or cur k p) ⊥ F (λ x. absurd x) never (g.gone k less p t)
    | inr from_i ↦ (
        let e1 : get_or cur k p ≡ get_or old k p = g.rest k p from_i in
        let e2 : get_or now k t ≡ get_or from k t = g.rest_from k t from_i in
        rw (e1, e2) (read-none (bl (get_or from k t).body) (ct (get_or from k t).body) (get_or old k p) F never))
  ]

  pub gone-well : (i : ℕ) (old cur : List PlacedRows) (from now : List (TileInput R)) (G : Type 0) → (G → ⊥) → Gone bl ct i old cur from now → HaveRead bl ct old cur from now G
  gone-well i old cur from now G never g = record {
    failed = None;
    exactly = never;
    each = λ k p t inside. gone-at i old cur from now g k p t (None ≡ Some k) (λ e. cc);
  }

  gone-failed : (i : ℕ) (old cur : List PlacedRows) (from now : List (TileInput R)) (p0 q : PlacedRows) (t0 u : TileInput R) (F G : Type 0) → F → G → i < length old → length cur ≡ length old → length now ≡ length from → length from ≡ length old →
      Gone bl ct i old cur from now → HasRead (bl (get_or now i t0).body) (bl u.body) (ct (get_or now i t0).body) (ct u.body) (get_or cur i p0) q F → HaveRead bl ct old (set cur i q) from (set now i u) G
  gone-failed i old cur from now p0 q t0 u F G f x inside same same_from named g here = record {
    failed = Some i;
    exactly = (inside, x);
    each = each;
  }
    where
      other : (k : ℕ) (p : PlacedRows) (t : TileInput R) → k ≢ i → ReadAt R bl ct old (set cur i q) from (set now i u) k p t (Some i ≡ Some k)
      other k p t ne =
          let e1 : get_or (set cur i q) k p ≡ get_or cur k p = get_or-set_other cur i k q p ne in
          let e2 : get_or (set now i u) k t ≡ get_or now k t = get_or-set_other now i k u t ne in
          rw (e1, e2) (gone-at i old cur from now g k p t (Some i ≡ Some k) (λ e. ne (let is : k ≡ i = cc in is)))

      at : (p : PlacedRows) (t : TileInput R) → ReadAt R bl ct old (set cur i q) from (set now i u) i p t (Some i ≡ Some i)
      at p t =
          let e1 : get_or (set cur i q) i p ≡ q = get_or-set_same cur i q p (omega arith) in
          let e2 : get_or (set now i u) i t ≡ u = get_or-set_same now i u t (omega arith) in
          let e3 : get_or old i p ≡ get_or cur i p0 = any_default old i p p0 inside ∙ sym (g.rest i p0 (omega arith)) in
          let e4 : get_or from i t ≡ get_or now i t0 = any_default from i t t0 (omega arith) ∙ sym (g.rest_from i t0 (omega arith)) in
          rw (e1, e2, e3, e4) (read-so (bl (get_or now i t0).body) (bl u.body) (ct (get_or now i t0).body) (ct u.body) (get_or cur i p0) q F (Some i ≡ Some i) (λ y. refl) (λ y. f) here)

      each : (k : ℕ) (p : PlacedRows) (t : TileInput R) → k < length old → ReadAt R bl ct old (set cur i q) from (set now i u) k p t (Some i ≡ Some k)
      each k p t below = elim (cases_lt k i) [
        | inl less ↦ other k p t (omega (arith, less))
        | inr from_i ↦ elim (cases_lt i k) [
          | inl more ↦ other k p t (omega (arith, more))
          | inr to_i ↦ (let is : i ≡ k = omega arith in subst (λ (j : ℕ). ReadAt R bl ct old (set cur i q) from (set now i u) j p t (Some i ≡ Some j)) is (at p t))
        ]
      ]

  gone-unfailed : (i : ℕ) (old cur : List PlacedRows) (from now : List (TileInput R)) (p0 q : PlacedRows) (t0 u : TileInput R) (F G : Type 0) → (F → ⊥) → (G → ⊥) → i < length old → length cur ≡ length old → length now ≡ length from → length from ≡ length old →
      Gone bl ct i old cur from now → HasRead (bl (get_or now i t0).body) (bl u.body) (ct (get_or now i t0).body) (ct u.body) (get_or cur i p0) q F → HaveRead bl ct old (set cur i q) from (set now i u) G
  gone-unfailed i old cur from now p0 q t0 u F G f x inside same same_from named g here =
      gone-well (i + 1) old (set cur i q) from (set now i u) G x (gone-more i old cur from now p0 q t0 u F f inside same same_from named g here)

  -- a fault ended the calls
  pub gone-fault : (T : Type 0) (fault : ReadFault) (F : Type 0) → (F → fault ≡ ReadFailed) → (fault ≡ ReadFailed → F) → (i : ℕ) (old cur : List PlacedRows) (from now : List (TileInput R)) (p0 q : PlacedRows) (t0 u : TileInput R) → i < length old → length cur ≡ length old → length now ≡ length from → length from ≡ length old →
      Gone bl ct i old cur from now → HasRead (bl (get_or now i t0).body) (bl u.body) (ct (get_or now i t0).body) (ct u.body) (get_or cur i p0) q F → HaveRead bl ct old (set cur i q) from (set now i u) (IsErrOf {T = T} {E = ReadFault} (Err fault) ReadFailed)
  gone-fault T WrongLength F there back i old cur from now p0 q t0 u inside same same_from named g here =
      gone-unfailed i old cur from now p0 q t0 u F _ (λ f. let e : WrongLength ≡ ReadFailed = there f in cc) (λ e. cc) inside same same_from named g here
  gone-fault T ReadFailed F there back i old cur from now p0 q t0 u inside same same_from named g here =
      gone-failed i old cur from now p0 q t0 u F _ (back refl) refl inside same same_from named g here
  gone-fault T OutOfMemory F there back i old cur from now p0 q t0 u inside same same_from named g here =
      gone-unfailed i old cur from now p0 q t0 u F _ (λ f. let e : OutOfMemory ≡ ReadFailed = there f in cc) (λ e. cc) inside same same_from named g here
  gone-fault T AlreadyFailed F there back i old cur from now p0 q t0 u inside same same_from named g here =
      gone-unfailed i old cur from now p0 q t0 u F _ (λ f. let e : AlreadyFailed ≡ ReadFailed = there f in cc) (λ e. cc) inside same same_from named g here

  -- the streams of tiles, one by one
  pub streams-len : (ts : List PlacedRows) (fs : List (TileInput R)) → length fs ≡ length ts → length (streams_of bl ts fs) ≡ length ts
  streams-len [] fs same = refl
  streams-len (p ∷ ts) [] same = absurd (omega arith)
  streams-len (p ∷ ts) (t ∷ fs) same = ap suc (streams-len ts fs (omega arith))

  pub streams-at : (ts : List PlacedRows) (fs : List (TileInput R)) (k : ℕ) (p : PlacedRows) (t : TileInput R) (d : Stream) → length fs ≡ length ts → k < length ts →
      get_or (streams_of bl ts fs) k d ≡ stream_of (get_or ts k p) (bl (get_or fs k t).body)
  streams-at [] fs k p t d same inside = absurd (omega arith)
  streams-at (x ∷ ts) [] k p t d same inside = absurd (omega arith)
  streams-at (x ∷ ts) (y ∷ fs) zero p t d same inside = refl
  streams-at (x ∷ ts) (y ∷ fs) (suc k) p t d same inside = streams-at ts fs k p t d (omega arith) (omega arith)

  pub streams-next : (f : Stream → Stream) (ts us : List PlacedRows) (fs gs : List (TileInput R)) → length us ≡ length ts → length fs ≡ length ts → length gs ≡ length ts →
      ((k : ℕ) → k < length ts → (p : PlacedRows) (t : TileInput R) → stream_of (get_or us k p) (bl (get_or gs k t).body) ≡ f (stream_of (get_or ts k p) (bl (get_or fs k t).body))) →
      streams_of bl us gs ≡ map f (streams_of bl ts fs)
  streams-next f [] [] fs gs a b d each = refl
  streams-next f [] (u ∷ us) fs gs a b d each = absurd (omega arith)
  streams-next f (x ∷ ts) [] fs gs a b d each = absurd (omega arith)
  streams-next f (x ∷ ts) (u ∷ us) [] gs a b d each = absurd (omega arith)
  streams-next f (x ∷ ts) (u ∷ us) (y ∷ fs) [] a b d each = absurd (omega arith)
  streams-next f (x ∷ ts) (u ∷ us) (y ∷ fs) (z ∷ gs) a b d each =
      ap (λ (s : Stream). s ∷ streams_of bl us gs) (each 0 (omega arith) u z)
      ∙ ap (λ (ss : List Stream). f (stream_of x (bl y.body)) ∷ ss) (streams-next f ts us fs gs (omega arith) (omega arith) (omega arith) (λ k less p t. each (suc k) (omega (arith, less)) p t))

-- the first i tiles were laid over the row
pub record Laying {R : Type 0} (bl : R → Option (List ℕ)) (side row i : ℕ) (old cur : List PlacedRows) (from now : List (TileInput R)) (start out : List ℤ) (seam : Option ℕ) : Type 0 where
  pub at : All (IsPlacedAt side row) old → (k : ℕ) → k < i → (p : PlacedRows) → IsPlacedAt side (row + 1) (get_or cur k p)
  pub goes_on : AreTold bl from → (k : ℕ) → k < i → (p : PlacedRows) (t : TileInput R) → stream_of (get_or cur k p) (bl (get_or now k t).body) ≡ next_stream side row (stream_of (get_or old k p) (bl (get_or from k t).body))
  pub laid : AreTold bl from → All (λ z. z ≡ VOID) start → IsRowLaid side row (take i (streams_of bl old from)) out seam

-- a row without a tile
pub laid-none : (side row : ℕ) (start : List ℤ) → All (λ z. z ≡ VOID) start → IsRowLaid side row [] start None
laid-none side row start voids = record { values = λ col inside. voids col VOID inside; first = seam-none side row (length start) }

pub laid-more : (side row : ℕ) (xs : List Stream) (s : Stream) (old new : List ℤ) (seam found both : Option ℕ) → length new ≡ length old → both ≡ first_of seam found → IsRowLaid side row xs old seam → IsTileRowLaid side row s old new found →
    IsRowLaid side row (xs ++ s ∷ []) new both
laid-more side row xs s old new seam found both wide is so_far laid = record {
  values = λ col inside. values-more side row xs s old new found so_far.values laid col (omega (arith, wide, inside));
  first = subst (λ n. IsLeastOf (λ col. IsTrue (is_seam side row (xs ++ s ∷ []) col)) n both) (sym wide)
      (subst (IsLeastOf (λ col. IsTrue (is_seam side row (xs ++ s ∷ []) col)) (length old)) (sym is) (seam-more side row xs s old new seam found so_far.values so_far.first laid));
}

module _ (R : Type 0) (bl : R → Option (List ℕ)) (ct : R → FaultCounts) (side row : ℕ) where
  pub laying-start : (old : List PlacedRows) (from : List (TileInput R)) (start : List ℤ) → Laying bl side row 0 old old from from start start None
  laying-start old from start = record {
    at = λ all k h. absurd (omega (arith, h));
    goes_on = λ told k h. absurd (omega (arith, h));
    laid = λ told voids. laid-none side row start voids;
  }

  pub laying-more : (i : ℕ) (old cur : List PlacedRows) (from now : List (TileInput R)) (start out new : List ℤ) (seam found both : Option ℕ) (p0 q : PlacedRows) (t0 u : TileInput R) → i < length old → length cur ≡ length old → length now ≡ length from → length from ≡ length old → length new ≡ length out → both ≡ first_of seam found →
      (IsPlacedAt side row (get_or cur i p0) → IsPlacedAt side (row + 1) q) →
      (IsSome (bl (get_or now i t0).body) → stream_of q (bl u.body) ≡ next_stream side row (stream_of (get_or cur i p0) (bl (get_or now i t0).body))) →
      (IsSome (bl (get_or now i t0).body) → IsTileRowLaid side row (stream_of (get_or cur i p0) (bl (get_or now i t0).body)) out new found) →
      Gone bl ct i old cur from now → Laying bl side row i old cur from now start out seam → Laying bl side row (i + 1) old (set cur i q) from (set now i u) start new both
  laying-more i old cur from now start out new seam found both p0 q t0 u inside same same_from named wide is at_here goes_here laid_here g l = record {
    at = λ all. below_more (λ k. (p : PlacedRows) → IsPlacedAt side (row + 1) (get_or (set cur i q) k p)) i
        (λ k less p. let e1 : get_or (set cur i q) k p ≡ get_or cur k p = get_or-set_other cur i k q p (omega (arith, less)) in rw e1 (l.at all k less p))
        (λ p. let e1 : get_or (set cur i q) i p ≡ q = get_or-set_same cur i q p (omega arith) in rw e1 (at_here (let e : get_or cur i p0 ≡ get_or old i p0 = tile in rw e (all i p0 inside))));
    goes_on = λ told. below_more (λ k. (p : PlacedRows) (t : TileInput R) → stream_of (get_or (set cur i q) k p) (bl (get_or (set now i u) k t).body) ≡ next_stream side row (stream_of (get_or old k p) (bl (get_or from k t).body))) i
        (λ k less p t.
        let e1 : get_or (set cur i q) k p ≡ get_or cur k p = get_or-set_other cur i k q p (omega (arith, less)) in
        let e2 : get_or (set now i u) k t ≡ get_or now k t = get_or-set_other now i k u t (omega (arith, less)) in
        ap (λ (x : PlacedRows). stream_of x (bl (get_or (set now i u) k t).body)) e1 ∙ ap (λ (y : TileInput R). stream_of (get_or cur k p) (bl y.body)) e2 ∙ l.goes_on told k less p t)
        (λ p t.
        let e1 : get_or (set cur i q) i p ≡ q = get_or-set_same cur i q p (omega arith) in
        let e2 : get_or (set now i u) i t ≡ u = get_or-set_same now i u t (omega arith) in
        let e3 : get_or cur i p0 ≡ get_or old i p = tile ∙ any_default old i p0 p inside in
        let e4 : get_or now i t0 ≡ get_or from i t = input ∙ any_default from i t0 t (omega arith) in
        ap (λ (x : PlacedRows). stream_of x (bl (get_or (set now i u) i t).body)) e1 ∙ ap (λ (y : TileInput R). stream_of q (bl y.body)) e2 ∙ goes_here (told_here told)
        ∙ ap (λ (x : PlacedRows). next_stream side row (stream_of x (bl (get_or now i t0).body))) e3 ∙ ap (λ (y : TileInput R). next_stream side row (stream_of (get_or old i p) (bl y.body))) e4);
    laid = λ told voids. subst (λ (ss : List Stream). IsRowLaid side row ss new both) (sym taken)
        (laid-more side row (take i (streams_of bl old from)) here out new seam found both wide is (l.laid told voids)
        (subst (λ (s : Stream). IsTileRowLaid side row s out new found) stream (laid_here (told_here told))));
  }
    where
      tile : get_or cur i p0 ≡ get_or old i p0
      tile = g.rest i p0 (omega arith)

      input : get_or now i t0 ≡ get_or from i t0
      input = g.rest_from i t0 (omega arith)

      here : Stream
      here = stream_of (get_or old i p0) (bl (get_or from i t0).body)

      told_here : AreTold bl from → IsSome (bl (get_or now i t0).body)
      told_here told = subst (λ (y : TileInput R). IsSome (bl y.body)) (sym input) (told i t0 (omega arith))

      stream : stream_of (get_or cur i p0) (bl (get_or now i t0).body) ≡ here
      stream = ap (λ (x : PlacedRows). stream_of x (bl (get_or now i t0).body)) tile ∙ ap (λ (y : TileInput R). stream_of (get_or old i p0) (bl y.body)) input

      taken : take (i + 1) (streams_of bl old from) ≡ take i (streams_of bl old from) ++ here ∷ []
      taken = take_more (streams_of bl old from) i here (omega (arith, streams-len R bl ct old from named)) ∙ ap (λ (s : Stream). take i (streams_of bl old from) ++ s ∷ []) (streams-at R bl ct old from i p0 t0 here named inside)

-- the lesser of two columns is a column
pub found-more : (n : ℕ) (seam found both : Option ℕ) → both ≡ first_of seam found → MatchOption seam (Unit {0}) (λ col. col < n) → MatchOption found (Unit {0}) (λ col. col < n) → MatchOption both (Unit {0}) (λ col. col < n)
found-more n seam found both is a b = subst (λ (o : Option ℕ). MatchOption o (Unit {0}) (λ col. col < n)) (sym is) (least n seam found a b)
  where
    least : (n : ℕ) (seam found : Option ℕ) → MatchOption seam (Unit {0}) (λ col. col < n) → MatchOption found (Unit {0}) (λ col. col < n) → MatchOption (first_of seam found) (Unit {0}) (λ col. col < n)
    least n None found a b = b
    least n (Some x) None a b = a
    least n (Some x) (Some y) a b = omega (arith, a, b)

-- one tile more was read to its end
module _ (R : Type 0) (bl : R → Option (List ℕ)) (ct : R → FaultCounts) where
  pub ends-more : (i : ℕ) (old cur : List PlacedRows) (from now : List (TileInput R)) (p0 q : PlacedRows) (t0 u : TileInput R) → i < length old → length cur ≡ length old → length now ≡ length from → length from ≡ length old →
      (IsSome (bl (get_or now i t0).body) → stream_of q (bl u.body) ≡ end_stream (stream_of (get_or cur i p0) (bl (get_or now i t0).body))) → Gone bl ct i old cur from now →
      (AreTold bl from → (k : ℕ) → k < i → (p : PlacedRows) (t : TileInput R) → stream_of (get_or cur k p) (bl (get_or now k t).body) ≡ end_stream (stream_of (get_or old k p) (bl (get_or from k t).body))) →
      AreTold bl from → (k : ℕ) → k < i + 1 → (p : PlacedRows) (t : TileInput R) → stream_of (get_or (set cur i q) k p) (bl (get_or (set now i u) k t).body) ≡ end_stream (stream_of (get_or old k p) (bl (get_or from k t).body))
  ends-more i old cur from now p0 q t0 u inside same same_from named goes_here g so_far told =
      below_more (λ k. (p : PlacedRows) (t : TileInput R) → stream_of (get_or (set cur i q) k p) (bl (get_or (set now i u) k t).body) ≡ end_stream (stream_of (get_or old k p) (bl (get_or from k t).body))) i
      (λ k less p t.
      let e1 : get_or (set cur i q) k p ≡ get_or cur k p = get_or-set_other cur i k q p (omega (arith, less)) in
      let e2 : get_or (set now i u) k t ≡ get_or now k t = get_or-set_other now i k u t (omega (arith, less)) in
      ap (λ (x : PlacedRows). stream_of x (bl (get_or (set now i u) k t).body)) e1 ∙ ap (λ (y : TileInput R). stream_of (get_or cur k p) (bl y.body)) e2 ∙ so_far told k less p t)
      (λ p t.
      let e1 : get_or (set cur i q) i p ≡ q = get_or-set_same cur i q p (omega arith) in
      let e2 : get_or (set now i u) i t ≡ u = get_or-set_same now i u t (omega arith) in
      let e3 : get_or cur i p0 ≡ get_or old i p = g.rest i p0 (omega arith) ∙ any_default old i p0 p inside in
      let e4 : get_or now i t0 ≡ get_or from i t = g.rest_from i t0 (omega arith) ∙ any_default from i t0 t (omega arith) in
      ap (λ (x : PlacedRows). stream_of x (bl (get_or (set now i u) i t).body)) e1 ∙ ap (λ (y : TileInput R). stream_of q (bl y.body)) e2
      ∙ goes_here (subst (λ (y : TileInput R). IsSome (bl y.body)) (sym (g.rest_from i t0 (omega arith))) (told i t0 (omega arith)))
      ∙ ap (λ (x : PlacedRows). end_stream (stream_of x (bl (get_or now i t0).body))) e3 ∙ ap (λ (y : TileInput R). end_stream (stream_of (get_or old i p) (bl y.body))) e4)
