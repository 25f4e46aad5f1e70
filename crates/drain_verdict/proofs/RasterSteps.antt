-- One more call of a raster's rows, after a given number.
use Rattle.drain_verdict.proofs.Names.{◌≡◌, ◌↔◌, ◌≤◌, zero, suc, ◌+◌, ℤ, List, [], length, Some, None, Ok, refl, sym, ap, subst, ◌∙◌, arith, Coming, after_rows, nth_row, Gives, IsEmptyUnlessRow, IsLong, Steps, coming_at, progress_after, Next, End, Wrong, RowStep, Row, Ended, Progress, Stopped, RasterRows, raster_coming, raster_rows, IsAfterTold, IsNextRow, IsRasterAfter}
use Rattle.std.proofs.Common.{ℕ, Option, Err}
use Rattle.drain_device.specs.declared.row_source.ReadFault.{ReadFault}
use Rattle.drain_device.specs.declared.row_source.ReadFault.TheVariants.{WrongLength}

-- of what is to come after n rows this is taken, and this is left
pub record IsTaken (start : Coming) (n : ℕ) (out : List ℤ) (left : Coming) : Type 0 where
  pub out_is : out ≡ nth_row n start
  pub left_is : left ≡ after_rows (n + 1) start

later : (n : ℕ) (start : Coming) → after_rows (suc (n + 1)) start ≡ after_rows (suc n + 1) start
later n start = let same : suc (n + 1) ≡ suc n + 1 = omega arith in ap (λ k. after_rows k start) same

pub row_taken : (n : ℕ) (start left : Coming) (row : List ℤ) → after_rows n start ≡ Next row left → IsTaken start n row left
row_taken zero (Next r more) left row is = record { out_is = cc; left_is = cc }
row_taken zero End left row is = absurd cc
row_taken zero Wrong left row is = absurd cc
row_taken (suc n) (Next r more) left row is = let one = row_taken n more left row is in record { out_is = one.out_is; left_is = one.left_is ∙ later n (Next r more) }
row_taken (suc n) End left row is = absurd cc
row_taken (suc n) Wrong left row is = absurd cc

pub end_taken : (n : ℕ) (start : Coming) → after_rows n start ≡ End → IsTaken start n [] End
end_taken zero (Next r more) is = absurd cc
end_taken zero End is = record { out_is = refl; left_is = refl }
end_taken zero Wrong is = absurd cc
end_taken (suc n) (Next r more) is = let one = end_taken n more is in record { out_is = one.out_is; left_is = one.left_is ∙ later n (Next r more) }
end_taken (suc n) End is = record { out_is = refl; left_is = later n End }
end_taken (suc n) Wrong is = absurd cc

pub wrong_taken : (n : ℕ) (start : Coming) → after_rows n start ≡ Wrong → IsTaken start n [] Wrong
wrong_taken zero (Next r more) is = absurd cc
wrong_taken zero End is = absurd cc
wrong_taken zero Wrong is = record { out_is = refl; left_is = refl }
wrong_taken (suc n) (Next r more) is = let one = wrong_taken n more is in record { out_is = one.out_is; left_is = one.left_is ∙ later n (Next r more) }
wrong_taken (suc n) End is = absurd cc
wrong_taken (suc n) Wrong is = record { out_is = refl; left_is = later n Wrong }

-- a raster that goes on or has ended was not wrong before
not_wrong : (progress : Progress) (n : ℕ) (start before : Coming) → before ≡ after_rows n start → (before ≡ Wrong → ⊥) → (progress ≡ Stopped → ⊥) → (m : ℕ) → n + 1 ≡ m + 1 →
    (progress ≡ Stopped) ↔ (after_rows m start ≡ Wrong)
not_wrong progress n start before before_is right goes_on m same =
    let here : m ≡ n = omega (arith, same) in
    (λ stopped. absurd (goes_on stopped), λ wrong. absurd (right (before_is ∙ subst (λ k. after_rows k start ≡ Wrong) here wrong)))

-- one that has stopped was
was_wrong : (progress : Progress) (n : ℕ) (start : Coming) → after_rows n start ≡ Wrong → progress ≡ Stopped → (m : ℕ) → n + 1 ≡ m + 1 →
    (progress ≡ Stopped) ↔ (after_rows m start ≡ Wrong)
was_wrong progress n start wrong stopped m same =
    let here : n ≡ m = omega (arith, same) in
    (λ again. subst (λ k. after_rows k start ≡ Wrong) here wrong, λ again. stopped)

pub took : (old new : RasterRows) (known known_then : Option (List ℕ)) (step : RowStep) (out : List ℤ) (start : Coming) (n : ℕ) →
    Gives (raster_coming old) (raster_coming new) known known_then (Ok step) out → new.progress ≡ progress_after (Ok step) → IsEmptyUnlessRow (Ok step) out →
    IsAfterTold old known start n → IsNextRow new known_then start n out
took old new None known_then step out start n gives progress empty before = absurd before
took old new (Some bytes) None step out start n gives progress empty before = absurd gives
took old new (Some bytes) (Some bytes_then) Row out start n gives progress empty before =
    let taken = row_taken n start (raster_coming new bytes_then) out (sym before.coming_is ∙ gives) in
    record {
      after = record {
        coming_is = taken.left_is;
        stopped = not_wrong new.progress n start (raster_coming old bytes) before.coming_is (λ wrong. cc) (λ stopped. cc);
      };
      out_is = taken.out_is;
    }
took old new (Some bytes) (Some bytes_then) Ended out start n gives progress empty before =
    let taken = end_taken n start (sym before.coming_is ∙ gives.0) in
    record {
      after = record {
        coming_is = gives.1 ∙ taken.left_is;
        stopped = not_wrong new.progress n start (raster_coming old bytes) before.coming_is (λ wrong. let ended = gives.0 in cc) (λ stopped. cc);
      };
      out_is = empty ∙ taken.out_is;
    }

pub found_short : (old new : RasterRows) (known known_then : Option (List ℕ)) (fault : ReadFault) (out : List ℤ) (start : Coming) (n : ℕ) → fault ≡ WrongLength →
    Gives (raster_coming old) (raster_coming new) known known_then (Err fault) out → new.progress ≡ Stopped → out ≡ [] →
    IsAfterTold old known start n → IsNextRow new known_then start n out
found_short old new None known_then fault out start n is gives progress empty before = absurd before
found_short old new (Some bytes) None fault out start n is gives progress empty before = absurd gives
found_short old new (Some bytes) (Some bytes_then) fault out start n is gives progress empty before =
    let ends = subst (λ f. Steps (raster_coming old bytes) (Err f) out (raster_coming new bytes_then)) is gives in
    let wrong = sym before.coming_is ∙ ends.0 in
    let taken = wrong_taken n start wrong in
    record {
      after = record { coming_is = ends.1 ∙ taken.left_is; stopped = was_wrong new.progress n start wrong progress };
      out_is = empty ∙ taken.out_is;
    }

-- what is to come of a raster that has stopped
stopped_is_wrong : (raster : RasterRows) (bytes : List ℕ) → raster.progress ≡ Stopped → raster_coming raster bytes ≡ Wrong
stopped_is_wrong raster bytes stopped = ap (λ (p : Progress). coming_at p (raster_rows raster.header raster.left raster.gap bytes)) stopped

pub was_short : (old new : RasterRows) (known known_then : Option (List ℕ)) (out : List ℤ) (start : Coming) (n : ℕ) →
    old.progress ≡ Stopped → new.progress ≡ Stopped → known_then ≡ known → out ≡ [] →
    IsAfterTold old known start n → IsNextRow new known_then start n out
was_short old new None known_then out start n stopped progress same empty before = absurd before
was_short old new (Some bytes) known_then out start n stopped progress same empty before =
    let wrong = sym before.coming_is ∙ stopped_is_wrong old bytes stopped in
    let taken = wrong_taken n start wrong in
    let told : IsRasterAfter new bytes start (n + 1) = record { coming_is = stopped_is_wrong new bytes progress ∙ taken.left_is; stopped = was_wrong new.progress n start wrong progress } in
    record {
      after = subst (λ k. IsAfterTold new k start (n + 1)) (sym same) told;
      out_is = empty ∙ taken.out_is;
    }

-- a row isn't longer than this
pub narrow : (step : RowStep) (cols most : ℕ) (out : List ℤ) → cols ≤ most → IsLong cols (Ok step) out → IsEmptyUnlessRow (Ok step) out → length out ≤ most
narrow Row cols most out fits long empty = omega (arith, fits, long)
narrow Ended cols most out fits long empty = let none : length out ≡ 0 = ap length empty in omega (arith, none)
