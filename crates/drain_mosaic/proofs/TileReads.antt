-- What the calls of a mosaic's rows read adds up: tile by tile, from the first call on.
use Rattle.drain_mosaic.proofs.Names.{◌≡◌, ◌↔◌, ℕ, zero, suc, ◌+◌, ◌*◌, ◌<◌, List, [], ◌∷◌, ◌++◌, length, map, get_or, Option, Some, MatchOption, arith, refl, sym, ap, ◌∙◌, subst, inl, inr, AllZip, Any, Consumes-trans, PartFails, GivesUp, full_patience, ReadsWithin, most_at, FaultCounts, any-cases, any-first, any-later, any-none, gave_up, PartFails-then, TileInput, Corner, TilesTakeAtMost, tile_devices, tile_length, tile_most_bytes, Tiling, AreTold, HasRead, HaveRead, IsAtStart, PlacedRows}
use Rattle.std.proofs.Common.{None, length-append}
use Rattle.drain_device.specs.FaultLists.{AnsweredEach, Faults, SomeReadFails}
use Rattle.drain_device.specs.Reads.{TakesAtMost}
use Rattle.drain_mosaic.proofs.TileCalls.{read-none, told-kept}

-- two calls for a tile, the first of which didn't fail
both-read : (known between after : Option (List ℕ)) (counts counts_between counts_after : FaultCounts) (a b c : PlacedRows) (F G : Type 0) → (F → ⊥) →
    HasRead known between counts counts_between a b F → HasRead between after counts_between counts_after b c G → HasRead known after counts counts_after a c G
both-read known between after counts counts_between counts_after a b c F G well one other = record {
  within = (
    one.within.0 ++ other.within.0,
    Consumes-trans known between after one.within.0 other.within.0 one.within.1 other.within.1,
    omega (arith, one.within.2, other.within.2, length-append one.within.0 other.within.0),
  );
  faults = PartFails-then counts counts_between counts_after a.rows.patience b.rows.patience c.rows.patience F G well one.faults other.faults;
}

module _ (R : Type 0) (bl : R → Option (List ℕ)) (ct : R → FaultCounts) where
  -- no call
  pub reads-none : (tiles : List PlacedRows) (from : List (TileInput R)) → HaveRead bl ct tiles tiles from from ⊥
  reads-none tiles from = record {
    failed = None;
    exactly = λ x. x;
    each = λ k p t inside. read-none (bl (get_or from k t).body) (ct (get_or from k t).body) (get_or tiles k p) (None ≡ Some k) (λ e. cc);
  }

  none-failed : (n k : ℕ) (F : Type 0) (failed : Option ℕ) → (F → ⊥) → MatchOption failed (F → ⊥) (λ i. (i < n) × F) → failed ≡ Some k → ⊥
  none-failed n k F None never exactly is = cc
  none-failed n k F (Some i) never exactly is = never exactly.1

  -- some calls that didn't fail, and then some more
  pub reads-then : (a b c : List PlacedRows) (from between after : List (TileInput R)) (F G : Type 0) → (F → ⊥) → length b ≡ length a →
      HaveRead bl ct a b from between F → HaveRead bl ct b c between after G → HaveRead bl ct a c from after G
  reads-then a b c from between after F G well same one other = record {
    failed = other.failed;
    exactly = subst (λ n. MatchOption other.failed (G → ⊥) (λ k. (k < n) × G)) same other.exactly;
    each = λ k p t inside.
        both-read (bl (get_or from k t).body) (bl (get_or between k t).body) (bl (get_or after k t).body) (ct (get_or from k t).body) (ct (get_or between k t).body) (ct (get_or after k t).body)
        (get_or a k p) (get_or b k p) (get_or c k p) (one.failed ≡ Some k) (other.failed ≡ Some k) (none-failed (length a) k F one.failed well one.exactly) (one.each k p t inside) (other.each k p t (omega (arith, inside, same)));
  }

  -- the bytes of devices stay known
  pub reads-told : (old cur : List PlacedRows) (from now : List (TileInput R)) (G : Type 0) → length now ≡ length from → length from ≡ length old → HaveRead bl ct old cur from now G → AreTold bl from → AreTold bl now
  reads-told [] cur from now G same named read told k t inside = absurd (omega (arith, same, named, inside))
  reads-told (p ∷ old) cur from now G same named read told k t inside =
      let h = read.each k p t (omega (arith, same, named, inside)) in
      told-kept (tile_most_bytes (get_or (p ∷ old) k p).rows) (tile_most_bytes (get_or cur k p).rows) (bl (get_or from k t).body) (bl (get_or now k t).body) h.within (told k t (omega (arith, same, inside)))

  -- at most this many bytes, of a tile that was at its start
  most-taken : (t : Tiling) (c : Corner) (p q : PlacedRows) (known after : Option (List ℕ)) → IsAtStart t c p → ReadsWithin (tile_most_bytes p.rows) (tile_most_bytes q.rows) known after → TakesAtMost (tile_length t.side + 1) known after
  most-taken t c p q known after start within =
      let most : tile_most_bytes p.rows ≡ 2 * t.side * t.side + 1 =
      ap (λ progress. most_at progress (2 * p.rows.side * p.rows.left + 1)) start.going ∙ ap (λ side. 2 * side * p.rows.left + 1) start.side_is ∙ ap (λ left. 2 * t.side * left + 1) start.left_is in
      let same : 2 * t.side * t.side ≡ 2 * (t.side * t.side) = omega arith in
      (within.0, within.1, omega (arith, within.2, most, same))

  -- the rest of the tiles
  others : (p q : PlacedRows) (olds news : List PlacedRows) (x y : TileInput R) (xs ys : List (TileInput R)) (failed : ℕ → Type 0) →
      ((k : ℕ) (d : PlacedRows) (e : TileInput R) → k < length (p ∷ olds) → HasRead (bl (get_or (x ∷ xs) k e).body) (bl (get_or (y ∷ ys) k e).body) (ct (get_or (x ∷ xs) k e).body) (ct (get_or (y ∷ ys) k e).body) (get_or (p ∷ olds) k d) (get_or (q ∷ news) k d) (failed k)) →
      (k : ℕ) (d : PlacedRows) (e : TileInput R) → k < length olds → HasRead (bl (get_or xs k e).body) (bl (get_or ys k e).body) (ct (get_or xs k e).body) (ct (get_or ys k e).body) (get_or olds k d) (get_or news k d) (failed (suc k))
  others p q olds news x y xs ys failed each k d e inside = each (suc k) d e (omega (arith, inside))

  each-within : (t : Tiling) (corners : List Corner) (olds news : List PlacedRows) (xs ys : List (TileInput R)) (failed : ℕ → Type 0) → AllZip (IsAtStart t) corners olds → length news ≡ length olds → length xs ≡ length olds → length ys ≡ length olds →
      ((k : ℕ) (d : PlacedRows) (e : TileInput R) → k < length olds → HasRead (bl (get_or xs k e).body) (bl (get_or ys k e).body) (ct (get_or xs k e).body) (ct (get_or ys k e).body) (get_or olds k d) (get_or news k d) (failed k)) → TilesTakeAtMost bl t.side xs ys
  each-within t [] [] [] [] [] failed starts a b c each = tt
  each-within t [] (p ∷ olds) news xs ys failed starts a b c each = absurd starts
  each-within t (k ∷ corners) [] news xs ys failed starts a b c each = absurd starts
  each-within t (k ∷ corners) (p ∷ olds) (q ∷ news) (x ∷ xs) (y ∷ ys) failed starts a b c each = (
    most-taken t k p q (bl x.body) (bl y.body) starts.0 (each 0 p x (omega arith)).within,
    each-within t corners olds news xs ys (λ i. failed (suc i)) starts.1 (omega arith) (omega arith) (omega arith) (others p q olds news x y xs ys failed each),
  )
  each-within t corners olds news xs ys failed starts a b c each = absurd (omega arith)

  -- of each tile at most one byte past its end was taken
  pub reads-within : (t : Tiling) (old new : List PlacedRows) (from after : List (TileInput R)) (F : Type 0) → AllZip (IsAtStart t) t.corners old → length new ≡ length old → length from ≡ length old → length after ≡ length old →
      HaveRead bl ct old new from after F → TilesTakeAtMost bl t.side from after
  reads-within t old new from after F starts a b c read = each-within t t.corners old new from after (λ k. read.failed ≡ Some k) starts a b c read.each

  -- the faults of each device, and that one failed for good where a tile's read failed
  pub record FaultsOfEach (n : ℕ) (xs ys : List (TileInput R)) (failed : ℕ → Type 0) : Type 0 where
    pub faults : List Faults
    pub answered : AnsweredEach (map ct (tile_devices xs)) (map ct (tile_devices ys)) faults
    pub some : ((k : ℕ) × (k < n) × failed k) ↔ Any gave_up faults

  -- one device more
  faults-more : (n patience left : ℕ) (x y : TileInput R) (xs ys : List (TileInput R)) (failed : ℕ → Type 0) → patience ≡ full_patience → PartFails (ct x.body) (ct y.body) patience left (failed 0) →
      FaultsOfEach n xs ys (λ i. failed (suc i)) → FaultsOfEach (suc n) (x ∷ xs) (y ∷ ys) failed
  faults-more n patience left x y xs ys failed full here rest = record {
    faults = f ∷ rest.faults;
    answered = (here.answered, rest.answered);
    some = (λ h. there h.0 h.1 h.2, back);
  }
    where
      f : Faults
      f = record { failures = here.failures; interruptions = here.interruptions }

      there : (i : ℕ) → i < suc n → failed i → Any gave_up (f ∷ rest.faults)
      there zero inside fails = any-first gave_up f rest.faults (subst (λ n. GivesUp n here.failures here.interruptions) full (here.exactly.0 fails))
      there (suc i) inside fails = any-later gave_up f rest.faults (rest.some.0 (i, omega (arith, inside), fails))

      back : Any gave_up (f ∷ rest.faults) → (i : ℕ) × (i < suc n) × failed i
      back some = elim (any-cases gave_up f rest.faults some) [
        | inl first ↦ (0, omega arith, here.exactly.1 (subst (λ n. GivesUp n here.failures here.interruptions) (sym full) first))
        | inr later ↦ (let found = rest.some.1 later in (suc found.0, omega (arith, found.1), found.2))
      ]

  each-faults : (t : Tiling) (corners : List Corner) (olds news : List PlacedRows) (xs ys : List (TileInput R)) (failed : ℕ → Type 0) → AllZip (IsAtStart t) corners olds → length news ≡ length olds → length xs ≡ length olds → length ys ≡ length olds →
      ((k : ℕ) (d : PlacedRows) (e : TileInput R) → k < length olds → HasRead (bl (get_or xs k e).body) (bl (get_or ys k e).body) (ct (get_or xs k e).body) (ct (get_or ys k e).body) (get_or olds k d) (get_or news k d) (failed k)) → FaultsOfEach (length olds) xs ys failed
  each-faults t [] [] [] [] [] failed starts a b c each = record {
    faults = [];
    answered = tt;
    some = (λ h. absurd (omega (arith, h.1)), λ some. absurd (any-none gave_up some));
  }
  each-faults t [] (p ∷ olds) news xs ys failed starts a b c each = absurd starts
  each-faults t (k ∷ corners) [] news xs ys failed starts a b c each = absurd starts
  each-faults t (k ∷ corners) (p ∷ olds) (q ∷ news) (x ∷ xs) (y ∷ ys) failed starts a b c each =
      faults-more (length olds) p.rows.patience q.rows.patience x y xs ys failed starts.0.patience_is (each 0 p x (omega arith)).faults
      (each-faults t corners olds news xs ys (λ i. failed (suc i)) starts.1 (omega arith) (omega arith) (omega arith) (others p q olds news x y xs ys failed each))
  each-faults t corners olds news xs ys failed starts a b c each = absurd (omega arith)

  -- a read of the tiles failed exactly where one of their devices failed, or was interrupted for the 1,000th time
  pub reads-fail : (t : Tiling) (old new : List PlacedRows) (from after : List (TileInput R)) (F : Type 0) → AllZip (IsAtStart t) t.corners old → length new ≡ length old → length from ≡ length old → length after ≡ length old →
      HaveRead bl ct old new from after F → SomeReadFails (map ct (tile_devices from)) (map ct (tile_devices after)) F
  reads-fail t old new from after F starts a b c read =
      let all = each-faults t t.corners old new from after (λ k. read.failed ≡ Some k) starts a b c read.each in
      record {
        faults = all.faults;
        answered = all.answered;
        exactly = (λ fails. all.some.0 (some read.failed read.exactly fails), λ any. (let found = all.some.1 any in fails_at read.failed read.exactly found.0 found.2));
      }
    where
      some : (failed : Option ℕ) → MatchOption failed (F → ⊥) (λ k. (k < length old) × F) → F → (k : ℕ) × (k < length old) × (failed ≡ Some k)
      some None never fails = absurd (never fails)
      some (Some k) here fails = (k, here.0, refl)

      fails_at : (failed : Option ℕ) → MatchOption failed (F → ⊥) (λ k. (k < length old) × F) → (k : ℕ) → failed ≡ Some k → F
      fails_at None never k is = absurd (let wrong : None ≡ Some k = is in cc)
      fails_at (Some i) here k is = here.1
