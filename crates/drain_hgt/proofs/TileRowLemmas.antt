-- What is to come of a tile, one row further.
use Rattle.drain_hgt.proofs.Names.{◌≡◌, ℕ, zero, suc, ◌+◌, ◌-◌, ◌*◌, ◌≤◌, ℤ, List, [], ◌∷◌, ◌++◌, length, Option, arith, refl, length-append, lt-ltb, le-ltb, take_at, drop_at, Gives, ReadsWithin, coming_at, most_at, RowComes, EndComes, samples_of, tile_rows}
use Rattle.std.proofs.Common.{Ok, Err}
use Rattle.drain_device.specs.declared.row_source.RowStep.TheVariants.{Row}
use Rattle.drain_device.specs.declared.row_source.ReadFault.{ReadFault}
use Rattle.drain_device.specs.declared.row_source.Progress.{Progress}
use Rattle.drain_device.specs.declared.row_source.Progress.TheVariants.{Going}
use Rattle.drain_device.specs.RowSteps.Coming.{Next, Wrong}
use Rattle.drain_device.proofs.RowLemmas.{gives-row, gives-no_row, gives-no_end, within-row}

-- a row is there
tile_rows-next : (side left : ℕ) (xs rest : List ℕ) → (left ≡ 0 → ⊥) → length xs ≡ 2 * side → tile_rows side left (xs ++ rest) ≡ Next (samples_of xs) (tile_rows side (left - 1) rest)
tile_rows-next side zero xs rest some whole = absurd (some refl)
tile_rows-next side (suc left) xs rest some whole =
    let less : suc left - 1 ≡ left = omega arith in
    rw (le-ltb (length (xs ++ rest)) (2 * side) (omega (arith, length-append xs rest)), take_at xs rest (2 * side) whole, drop_at xs rest (2 * side) whole, less) refl

-- a row isn't whole
tile_rows-short : (side left : ℕ) (xs : List ℕ) → (left ≡ 0 → ⊥) → length xs + 1 ≤ 2 * side → tile_rows side left xs ≡ Wrong
tile_rows-short side zero xs some short = absurd (some refl)
tile_rows-short side (suc left) xs some short = rw (lt-ltb (length xs) (2 * side) (omega arith)) refl

-- there is a byte after the last row
tile_rows-longer : (side : ℕ) (xs rest : List ℕ) → length xs ≡ 1 → tile_rows side 0 (xs ++ rest) ≡ Wrong
tile_rows-longer side [] rest one = absurd (omega arith)
tile_rows-longer side (x ∷ xs) rest one = refl

-- the bytes of a row, of those of all rows left
tile_bytes : (side left : ℕ) → (left ≡ 0 → ⊥) → 2 * side + (2 * side * (left - 1) + 1) ≤ 2 * side * left + 1
tile_bytes side zero some = absurd (some refl)
tile_bytes side (suc left) some =
    let less : suc left - 1 ≡ left = omega arith in
    rw less (omega arith)

-- the same of a row source that goes on
pub tile-gives-row : (progress : Progress) → progress ≡ Going → (side left : ℕ) (old new : Option (List ℕ)) (out : List ℤ) (bytes : List ℕ) → (left ≡ 0 → ⊥) →
    RowComes samples_of (2 * side) old new (Ok tt) out bytes →
    Gives (λ bs. coming_at progress (tile_rows side left bs)) (λ bs. coming_at progress (tile_rows side (left - 1) bs)) old new (Ok Row) out
tile-gives-row progress going side left old new out bytes some came = rw going (gives-row samples_of (2 * side) (λ bs. tile_rows side left bs) (λ bs. tile_rows side (left - 1) bs) old new out bytes came
    (λ xs rest whole. tile_rows-next side left xs rest some whole))

pub tile-gives-no_row : (progress : Progress) → progress ≡ Going → (side left : ℕ) (old new : Option (List ℕ)) (fault : ReadFault) (out : List ℤ) (bytes : List ℕ) → (left ≡ 0 → ⊥) →
    RowComes samples_of (2 * side) old new (Err fault) out bytes →
    Gives (λ bs. coming_at progress (tile_rows side left bs)) (λ bs. Wrong) old new (Err fault) out
tile-gives-no_row progress going side left old new fault out bytes some came = rw going (gives-no_row samples_of (2 * side) (λ bs. tile_rows side left bs) (λ bs. Wrong) old new fault out bytes came
    (λ xs short. tile_rows-short side left xs some short) (λ xs. refl))

pub tile-gives-no_end : (progress : Progress) → progress ≡ Going → (side left : ℕ) (old new : Option (List ℕ)) (fault : ReadFault) (out : List ℤ) → left ≡ 0 →
    EndComes old new (Err fault) → Gives (λ bs. coming_at progress (tile_rows side left bs)) (λ bs. Wrong) old new (Err fault) out
tile-gives-no_end progress going side left old new fault out none came = rw (going, none) (gives-no_end (λ bs. tile_rows side 0 bs) (λ bs. Wrong) old new fault out came
    (λ xs rest one. tile_rows-longer side xs rest one) (λ xs. refl))

pub tile-within-row : (progress : Progress) → progress ≡ Going → (side left : ℕ) (old new : Option (List ℕ)) (out : List ℤ) (bytes : List ℕ) → (left ≡ 0 → ⊥) →
    RowComes samples_of (2 * side) old new (Ok tt) out bytes →
    ReadsWithin (most_at progress (2 * side * left + 1)) (most_at progress (2 * side * (left - 1) + 1)) old new
tile-within-row progress going side left old new out bytes some came =
    rw going (within-row samples_of (2 * side) (2 * side * left + 1) (2 * side * (left - 1) + 1) old new (Ok tt) out bytes came (tile_bytes side left some))

pub tile-within-no_row : (progress : Progress) → progress ≡ Going → (side left : ℕ) (old new : Option (List ℕ)) (fault : ReadFault) (out : List ℤ) (bytes : List ℕ) → (left ≡ 0 → ⊥) →
    RowComes samples_of (2 * side) old new (Err fault) out bytes → ReadsWithin (most_at progress (2 * side * left + 1)) 0 old new
tile-within-no_row progress going side left old new fault out bytes some came =
    rw going (within-row samples_of (2 * side) (2 * side * left + 1) 0 old new (Err fault) out bytes came (omega (arith, tile_bytes side left some)))
