-- What an audit finds, and what its verdict means.
use Rattle.drain_verdict.proofs.Names.{◌≡◌, List, Bool, IsTrue, Some, None, Ok, IfErr, OnOk, refl, subst, ◌≤◌, ◌*◌, ◌↔◌, ◌∙◌, ℤ, pos, IsNone, IsSome, is_some, arith, cond, sym, ap, FaultCounts, SetProduct, Dir, Acc, Bas, Rnk, PerProduct, of_product, by_set_product, RasterRows, as_five, readers_as_five, RasterHasRead, RastersHaveRead, told_by, AuditProducts, OutOfMemory, mul-le-mul_right, false≢true, Cell, Rule, RanksAreSteps, IsFirstEndless, run_steps, with_ranks, with_rank_nodata, unranked, IsCorrect, Grid, IsInside, HoldsAt, CorrectIsLocal, RanksPlayNoPart, check_rules, Extent, IsExtent, NoDataNumbers, run_steps-alike, UNKNOWN, IsVerdictOf, Verdict, AllRunsEnd, IsAcceptance, IsAuditVerdict, IsOfBoth, IsPlainVerdict, certified_nodata, certified_ranks, AuditVerdict, GroundSet, set_grid, set_numbers, set_products}
use Rattle.std.proofs.Common.{ℕ, Option, Err, MatchOption}
use Rattle.drain_grid.specs.declared.judged.Judged.TheVariants.{All}
use Rattle.drain_grid.specs.declared.set_product.SetProduct.TheVariants.{Con}
use Rattle.drain_verdict.specs.Judgements.{IsJudgementOf}
use Rattle.drain_verdict.specs.Reading.{gave_up}
use Rattle.drain_verdict.specs.declared.judgement.Judgement.{Judgement}
use Rattle.drain_verdict.proofs.InputLemmas.{Answer, Stay, failed_at, some_failed}
use Rattle.drain_grid.specs.Grid.{Products}
use Rattle.drain_grid.proofs.Walks.{run_steps-le}
use Rattle.drain_answer.specs.declared.outcome.AuditVerdict.TheVariants.{Accepted, Rejected, NoEnd}
use Rattle.drain_grid.specs.declared.verdict.Verdict.TheVariants as checked

-- What was read of the devices of an audit's four products: dir's device counts for the ranks too.

-- if only memory ran out, no device failed for good
pub no_device : (before after : Answer) → OnOk before (IfErr after (λ refusal. refusal ≡ OutOfMemory)) → ¬ IsTrue (gave_up (told_by before) (told_by after))
no_device (Ok done) (Ok done_then) only up = let no = up in cc
no_device (Ok done) (Err refusal) only up = let no : IsTrue (gave_up None (Some OutOfMemory)) = subst (λ r. IsTrue (gave_up None (Some r))) only up in cc
no_device (Err refusal) after only up = let no = up in cc

-- whether the product's device failed for good; that of dir takes the place of the ranks
abbrev failed_of_four : (con dir acc bas last : Answer) → SetProduct → Bool
failed_of_four con dir acc bas last Rnk = failed_at con dir acc bas last Dir
failed_of_four con dir acc bas last p = failed_at con dir acc bas last p

module _ {R : Type 0} (bl : R → Option (List ℕ)) (ct : R → FaultCounts) (old new : PerProduct RasterRows) where
  -- one product's part
  abbrev IsPart : R → R → RasterRows → RasterRows → Bool → Type 0
  IsPart body body_then raster raster_then failed = RasterHasRead (bl body) (bl body_then) (ct body) (ct body_then) raster raster_then (IsTrue failed)

  pub four_read : (lent : AuditProducts R) (con dir acc bas : R) (a b c d e : Answer) → Stay a b c d e → ¬ IsTrue (gave_up (told_by d) (told_by e)) →
      IsPart lent.con.body con old.con new.con (failed_at a b c d e Con) → IsPart lent.dir.body dir old.dir new.dir (failed_at a b c d e Dir) →
      IsPart lent.acc.body acc old.acc new.acc (failed_at a b c d e Acc) → IsPart lent.bas.body bas old.bas new.bas (failed_at a b c d e Bas) →
      RastersHaveRead bl ct (readers_as_five old) (readers_as_five new) (as_five lent)
      (as_five (record {
        con = record { header = lent.con.header; body = con };
        dir = record { header = lent.dir.header; body = dir };
        acc = record { header = lent.acc.header; body = acc };
        bas = record { header = lent.bas.header; body = bas };
      })) (told_by e)
  four_read lent con dir acc bas a b c d e stay none at_con at_dir at_acc at_bas =
      let some = some_failed a b c d e stay in
      let failed = failed_of_four a b c d e in
      let then : AuditProducts R = record {
        con = record { header = lent.con.header; body = con };
        dir = record { header = lent.dir.header; body = dir };
        acc = record { header = lent.acc.header; body = acc };
        bas = record { header = lent.bas.header; body = bas };
      } in
      record {
        failed = failed;
        exactly = (
          λ is. let found = some.0 is in
              by_set_product (λ p. IsTrue (failed_at a b c d e p) → (q : SetProduct) × IsTrue (failed q)) (λ up. (Con, up)) (λ up. (Dir, up)) (λ up. (Acc, up)) (λ up. (Bas, up)) (λ up. absurd (none up)) found.0 found.1,
          λ found. some.1 (by_set_product (λ p. IsTrue (failed p) → (q : SetProduct) × IsTrue (failed_at a b c d e q)) (λ up. (Con, up)) (λ up. (Dir, up)) (λ up. (Acc, up)) (λ up. (Bas, up)) (λ up. (Dir, up)) found.0 found.1),
        );
        each = by_set_product (λ p. IsPart (of_product (as_five lent) p).body (of_product (as_five then) p).body (of_product (readers_as_five old) p) (of_product (readers_as_five new) p) (failed p))
            at_con at_dir at_acc at_bas at_dir;
        headers = by_set_product (λ p. (of_product (as_five then) p).header ≡ (of_product (as_five lent) p).header) refl refl refl refl refl;
      }

-- the verdict of the rules that ask nothing of ranks, and the first run without an end
pub both_are : (g : Grid) (ps : Products) (nodata : NoDataNumbers) (verdict : Verdict) (endless : Option Cell) (audit : AuditVerdict) →
    IsOfBoth verdict endless audit → MatchOption endless (AllRunsEnd g ps) (IsFirstEndless g ps) → IsVerdictOf (unranked nodata) g ps verdict → IsPlainVerdict g ps nodata audit
both_are g ps nodata verdict (Some c) audit both first is = subst (IsPlainVerdict g ps nodata) (sym both) first
both_are g ps nodata (checked.Accepted counts) None audit both ends is = subst (IsPlainVerdict g ps nodata) (sym both) (ends, is)
both_are g ps nodata (checked.Rejected rule row col) None audit both ends is = subst (IsPlainVerdict g ps nodata) (sym both) (ends, is)

-- so of a judgement of a set
pub plain_of : {W : Type 0} (s : GroundSet) (j : Judgement W) (audit : AuditVerdict) → IsOfBoth j.verdict j.cell audit → IsJudgementOf All s j → IsPlainVerdict (set_grid s) (set_products s) (set_numbers s) audit
plain_of s j audit both is = both_are (set_grid s) (set_products s) (set_numbers s) j.verdict j.cell audit both is.decided is.verdict

-- it accepts exactly where the products are correct
pub exactly : CorrectIsLocal → (g : Grid) (ps : Products) (nodata : NoDataNumbers) (audit : AuditVerdict) → IsPlainVerdict g ps nodata audit → IsAcceptance audit ↔ IsCorrect g ps nodata
exactly law g ps nodata (Accepted counts) is = (λ accepted. (law g ps nodata).1 (is.0, is.1.0), λ correct. tt)
exactly law g ps nodata (Rejected rule row col) is = (
  λ accepted. absurd accepted,
  λ correct. absurd (is.1.fails (((law g ps nodata).0 correct).1 (record { row = row; col = col }) rule is.1.inside is.1.is_own)),
)
exactly law g ps nodata (NoEnd row col) is = (λ accepted. absurd accepted, λ correct. absurd (is.endless (correct.runs_end (record { row = row; col = col }) is.here)))

-- 28,801 by 28,801 at most
few_cells : (e : Extent) → IsExtent e → e.rows * e.cols ≤ 829497601
few_cells e h =
    let cols : e.cols ≤ 28801 = h.cols_fit in
    let rows : e.rows * e.cols ≤ 28801 * e.cols = mul-le-mul_right e.cols h.rows_fit in
    omega (arith, rows, cols)

at_data : (z : Option ℤ) (a b : ℤ) → IsSome z → cond (is_some z) a b ≡ a
at_data None a b h = absurd (false≢true h)
at_data (Some z) a b h = refl

at_void : (z : Option ℤ) (a b : ℤ) → IsNone z → cond (is_some z) a b ≡ b
at_void None a b h = refl
at_void (Some z) a b h = absurd (false≢true (sym h))

-- certified ranks are the numbers of steps
certified_are_steps : (g : Grid) (ps : Products) (nodata : NoDataNumbers) → IsExtent g.extent → RanksAreSteps g (with_ranks ps (certified_ranks g ps)) (with_rank_nodata nodata (pos UNKNOWN))
certified_are_steps g ps nodata extent =
    let qs = with_ranks ps (certified_ranks g ps) in
    let same : (c : Cell) → ps.dir c ≡ qs.dir c = λ c. refl in
    record {
      steps = λ c here. at_data (g.elevation c) (pos (run_steps g ps c)) (pos UNKNOWN) here.is_data ∙ ap pos (run_steps-alike g ps qs same c);
      voids = λ c inside void. at_void (g.elevation c) (pos (run_steps g ps c)) (pos UNKNOWN) void;
      complete = λ c here none. few (run_steps g ps c) (g.extent.rows * g.extent.cols) (run_steps-le g ps c) (few_cells g.extent extent)
          (sym (at_data (g.elevation c) (pos (run_steps g ps c)) (pos UNKNOWN) here.is_data) ∙ none);
    }
  where
    few : (n cells : ℕ) → n ≤ cells → cells ≤ 829497601 → pos n ≡ pos UNKNOWN → ⊥
    few n cells less most same = let is : n ≡ UNKNOWN = cc in omega (arith, less, most, is)

-- and the verdict is that of a check with them
pub as_certified : RanksPlayNoPart → (g : Grid) (ps : Products) (nodata : NoDataNumbers) (audit : AuditVerdict) → IsExtent g.extent → IsPlainVerdict g ps nodata audit → IsAuditVerdict g ps nodata audit
as_certified law g ps nodata audit extent is = by_kind audit is
  where
    same : AllRunsEnd g ps → (c : Cell) (r : Rule) → IsInside g c →
        HoldsAt (check_rules (certified_nodata nodata)) g (with_ranks ps (certified_ranks g ps)) c r ↔ HoldsAt (unranked nodata) g ps c r
    same ends = law g ps nodata (certified_ranks g ps) (pos UNKNOWN) ends (certified_are_steps g ps nodata extent)

    by_kind : (audit : AuditVerdict) → IsPlainVerdict g ps nodata audit → IsAuditVerdict g ps nodata audit
    by_kind (Accepted counts) is = (is.0, (λ c r inside own. (same is.0 c r inside).1 (is.1.0 c r inside own), is.1.1))
    by_kind (Rejected rule row col) is = (
      is.0,
      record {
        inside = is.1.inside;
        is_own = is.1.is_own;
        fails = λ holds. is.1.fails ((same is.0 (record { row = row; col = col }) rule is.1.inside).0 holds);
        first = λ b q inside own earlier. (same is.0 b q inside).1 (is.1.first b q inside own earlier);
      },
    )
    by_kind (NoEnd row col) is = is
