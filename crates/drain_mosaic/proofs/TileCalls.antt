-- One call for a tile.
use Rattle.drain_mosaic.proofs.Names.{false≢true, ◌≡◌, ◌≢◌, ℕ, ◌+◌, ◌-◌, ◌<◌, ◌≤◌, ℤ, List, [], length, Option, Some, Result, Ok, Err, arith, refl, sym, ap, ◌∙◌, inl, inr, true, false, ◌⊎◌, IsSome, unwrap_or, Consumes-nil, FaultCounts, PartFails-none, PartFails-same, nth_row, after_rows, Coming, Gives, IsEmptyUnlessRow, IsLong, ReadsWithin, StaysEnded, Steps, coming_at, progress_after, Stream, is_over, next_stream, HasRead, IsPlacedAt, stop_of, Wrong, tile_coming, tile_rows, PlacedRows, TileRows, ReadFault, WrongLength, ReadFailed, AlreadyFailed, Progress, Going, Done, Stopped}
use Rattle.std.proofs.Common.{None, cond}
use Rattle.drain_device.specs.declared.row_source.RowStep.{RowStep}
use Rattle.drain_device.specs.declared.row_source.RowStep.TheVariants.{Row, Ended}
use Rattle.drain_device.specs.declared.row_source.ReadFault.TheVariants.{OutOfMemory}

-- a row has room
pub part-fits : (side : ℕ) (answer : Result RowStep ReadFault) (part : List ℤ) → IsLong side answer part → IsEmptyUnlessRow answer part → (length part ≡ side) ⊎ (part ≡ [])
part-fits side (Ok Row) part long empty = inl long
part-fits side (Ok Ended) part long empty = inr empty
part-fits side (Err fault) part long empty = inr empty

pub part-room : (side left wide : ℕ) (part : List ℤ) → left + side ≤ wide → (length part ≡ side) ⊎ (part ≡ []) → left + length part ≤ wide
part-room side left wide part fits (inl long) = omega arith
part-room side left wide part fits (inr none) = omega (arith, ap length none)

-- a step that doesn't end the mosaic leaves what follows the row, and the part is the row
pub step-goes : (progress progress_then : Progress) (c c_then : Coming) (answer : Result RowStep ReadFault) (part : List ℤ) → stop_of answer ≡ None → progress_then ≡ progress_after answer →
    (answer ≡ Err AlreadyFailed → progress ≡ Stopped) → IsEmptyUnlessRow answer part → Steps (coming_at progress c) answer part (coming_at progress_then c_then) →
    (coming_at progress_then c_then ≡ after_rows 1 (coming_at progress c)) × (part ≡ nth_row 0 (coming_at progress c))
step-goes progress progress_then c c_then (Ok Row) part goes then already empty step = (sym (ap (after_rows 1) step), sym (ap (nth_row 0) step))
step-goes progress progress_then c c_then (Ok Ended) part goes then already empty step = (step.1 ∙ sym (ap (after_rows 1) step.0), empty ∙ sym (ap (nth_row 0) step.0))
step-goes progress progress_then c c_then (Err WrongLength) part goes then already empty step = (step.1 ∙ sym (ap (after_rows 1) step.0), empty ∙ sym (ap (nth_row 0) step.0))
step-goes progress progress_then c c_then (Err ReadFailed) part goes then already empty step = absurd (let e : Some ReadFailed ≡ None = goes in cc)
step-goes progress progress_then c c_then (Err OutOfMemory) part goes then already empty step = absurd (let e : Some OutOfMemory ≡ None = goes in cc)
step-goes progress progress_then c c_then (Err AlreadyFailed) part goes then already empty step =
    let before : coming_at progress c ≡ Wrong = ap (λ s. coming_at s c) (already refl) in
    let after : coming_at progress_then c_then ≡ Wrong = ap (λ s. coming_at s c_then) then in
    (after ∙ sym (ap (after_rows 1) before), empty ∙ sym (ap (nth_row 0) before))

-- the same of a device with known bytes
pub tile-goes : (old new : TileRows) (known known_then : Option (List ℕ)) (answer : Result RowStep ReadFault) (part : List ℤ) → stop_of answer ≡ None → new.progress ≡ progress_after answer →
    (answer ≡ Err AlreadyFailed → old.progress ≡ Stopped) → IsEmptyUnlessRow answer part →
    Gives (tile_coming old) (tile_coming new) known known_then answer part → IsSome known →
    (tile_coming new (unwrap_or known_then []) ≡ after_rows 1 (tile_coming old (unwrap_or known []))) × (part ≡ nth_row 0 (tile_coming old (unwrap_or known [])))
tile-goes old new None known_then answer part goes then already empty gives told = absurd (false≢true told)
tile-goes old new (Some xs) None answer part goes then already empty gives told = absurd gives
tile-goes old new (Some xs) (Some ys) answer part goes then already empty gives told =
    step-goes old.progress new.progress (tile_rows old.side old.left xs) (tile_rows new.side new.left ys) answer part goes then already empty gives

-- a tile over the row goes on by a row; one that isn't over it stays
pub stream-goes : (side row : ℕ) (s : Stream) (c : Coming) → is_over side row s ≡ true → c ≡ after_rows 1 s.coming → (record { place = s.place; coming = c }) ≡ next_stream side row s
stream-goes side row s c over is = ap (λ (y : Coming). the_stream y) (is ∙ sym (ap (λ b. cond b (after_rows 1 s.coming) s.coming) over))
  where
    the_stream : Coming → Stream
    the_stream y = record { place = s.place; coming = y }

pub stream-stays : (side row : ℕ) (s : Stream) → is_over side row s ≡ false → s ≡ next_stream side row s
stream-stays side row s not_over = ap (λ (y : Coming). the_stream y) (sym (ap (λ b. cond b (after_rows 1 s.coming) s.coming) not_over))
  where
    the_stream : Coming → Stream
    the_stream y = record { place = s.place; coming = y }

-- a device's bytes stay known
pub told-kept : (most most_then : ℕ) (known known_then : Option (List ℕ)) → ReadsWithin most most_then known known_then → IsSome known → IsSome known_then
told-kept most most_then None known_then within told = absurd (false≢true told)
told-kept most most_then (Some xs) None within told = absurd within.1
told-kept most most_then (Some xs) (Some ys) within told = refl

-- no call
pub read-none : (known : Option (List ℕ)) (counts : FaultCounts) (p : PlacedRows) (Fails : Type 0) → (Fails → ⊥) → HasRead known known counts counts p p Fails
read-none known counts p Fails never = record {
  within = ([], Consumes-nil known, omega arith);
  faults = PartFails-none counts p.rows.patience Fails never;
}

-- the same call, stated otherwise
pub read-so : (known known_then : Option (List ℕ)) (counts counts_then : FaultCounts) (old new : PlacedRows) (F G : Type 0) → (F → G) → (G → F) → HasRead known known_then counts counts_then old new F → HasRead known known_then counts counts_then old new G
read-so known known_then counts counts_then old new F G there back read = record {
  within = read.within;
  faults = PartFails-same counts counts_then old.rows.patience new.rows.patience F G there back read.faults;
}

-- the rows left
pub at-row : (side row : ℕ) (p : PlacedRows) (new : TileRows) (answer : Result RowStep ReadFault) → stop_of answer ≡ None → new.progress ≡ progress_after answer → (answer ≡ Ok Row → new.left + 1 ≡ p.rows.left) →
    (p.rows.progress ≢ Going → answer ≢ Ok Row) → p.place.row ≤ row → row < p.place.row + side → IsPlacedAt side row p → IsPlacedAt side (row + 1) (record { place = p.place; rows = new })
at-row side row p new answer goes then less stays from_top to_bottom here = record { left_is = λ going. by_answer answer goes then less stays going }
  where
    by_answer : (answer : Result RowStep ReadFault) → stop_of answer ≡ None → new.progress ≡ progress_after answer → (answer ≡ Ok Row → new.left + 1 ≡ p.rows.left) → (p.rows.progress ≢ Going → answer ≢ Ok Row) → new.progress ≡ Going →
        new.left ≡ side - (row + 1 - p.place.row)
    by_answer (Ok Row) goes then less stays going = by_progress p.rows.progress refl
      where
        by_progress : (progress : Progress) → p.rows.progress ≡ progress → new.left ≡ side - (row + 1 - p.place.row)
        by_progress Going is = omega (arith, less refl, here.left_is is)
        by_progress Done is = absurd (stays (λ e. let f : Done ≡ Going = sym is ∙ e in cc) refl)
        by_progress Stopped is = absurd (stays (λ e. let f : Stopped ≡ Going = sym is ∙ e in cc) refl)
    by_answer (Ok Ended) goes then less stays going = absurd (let e : Done ≡ Going = sym then ∙ going in cc)
    by_answer (Err fault) goes then less stays going = absurd (let e : Stopped ≡ Going = sym then ∙ going in cc)

pub at-beside : (side row : ℕ) (p : PlacedRows) → (row < p.place.row) ⊎ (p.place.row + side ≤ row) → IsPlacedAt side row p → IsPlacedAt side (row + 1) p
at-beside side row p (inl above) here = record { left_is = λ going. omega (arith, here.left_is going) }
at-beside side row p (inr below) here = record { left_is = λ going. omega (arith, here.left_is going) }

-- a tile at row 0
pub at-start : (side : ℕ) (p : PlacedRows) → p.rows.left ≡ side → IsPlacedAt side 0 p
at-start side p is = record { left_is = λ going. omega (arith, is) }

-- below the last row a tile has no row left, and a call that ends no mosaic finds its end
pub ended-here : (side rows : ℕ) (p : PlacedRows) (new : TileRows) (answer : Result RowStep ReadFault) → stop_of answer ≡ None → new.progress ≡ progress_after answer → (answer ≡ Ok Row → new.left + 1 ≡ p.rows.left) →
    (p.rows.progress ≢ Going → answer ≢ Ok Row) → p.place.row + side ≤ rows → IsPlacedAt side rows p → new.progress ≢ Going
ended-here side rows p new (Ok Row) goes then less stays above here going = by_progress p.rows.progress refl
  where
    by_progress : (progress : Progress) → p.rows.progress ≡ progress → ⊥
    by_progress Going is = absurd (omega (arith, less refl, here.left_is is))
    by_progress Done is = stays (λ e. let f : Done ≡ Going = sym is ∙ e in cc) refl
    by_progress Stopped is = stays (λ e. let f : Stopped ≡ Going = sym is ∙ e in cc) refl
ended-here side rows p new (Ok Ended) goes then less stays above here going = let e : Done ≡ Going = sym then ∙ going in cc
ended-here side rows p new (Err fault) goes then less stays above here going = let e : Stopped ≡ Going = sym then ∙ going in cc

-- a source that doesn't go on gives no row
pub stays-no_row : (progress : Progress) (answer : Result RowStep ReadFault) → StaysEnded progress answer → progress ≢ Going → answer ≢ Ok Row
stays-no_row Going answer stays not_going is = not_going refl
stays-no_row Done answer stays not_going is = cc
stays-no_row Stopped answer stays not_going is = cc

-- the fault that ends a mosaic is that of the answer
pub stop-is : (answer : Result RowStep ReadFault) (fault : ReadFault) → stop_of answer ≡ Some fault → answer ≡ Err fault
stop-is (Ok step) fault is = absurd (let e : None ≡ Some fault = is in cc)
stop-is (Err WrongLength) fault is = absurd (let e : None ≡ Some fault = is in cc)
stop-is (Err ReadFailed) fault is = let e : Some ReadFailed ≡ Some fault = is in cc
stop-is (Err OutOfMemory) fault is = let e : Some OutOfMemory ≡ Some fault = is in cc
stop-is (Err AlreadyFailed) fault is = absurd (let e : None ≡ Some fault = is in cc)

-- an answer that ends no mosaic is no failed read
pub goes-unfailed : (answer : Result RowStep ReadFault) → stop_of answer ≡ None → answer ≡ Err ReadFailed → ⊥
goes-unfailed (Ok step) goes is = cc
goes-unfailed (Err WrongLength) goes is = cc
goes-unfailed (Err ReadFailed) goes is = let e : Some ReadFailed ≡ None = goes in cc
goes-unfailed (Err OutOfMemory) goes is = cc
goes-unfailed (Err AlreadyFailed) goes is = cc
