use Rattle.drain_kernel.proofs.Names.{◌≡◌, ℕ, ◌<◌, Bool, true, ◌&&◌, List, length, sym, ◌∙◌, subst, false, and_parts, Dir, Acc, Bas, Rnk, IfJudged, has_rnk, AreCapped, AreLower, AreUpper}
use Rattle.drain_kernel.proofs.product_lanes.ProductLanes.take.Goals as goal

-- all fit
record AllFit (dir acc bas rnk capped_acc capped_rnk halves : Bool) : Type 0 where
  dir_fits : dir ≡ true
  acc_fits : acc ≡ true
  bas_fits : bas ≡ true
  rnk_fits : rnk ≡ true
  acc_is_capped : capped_acc ≡ true
  rnk_is_capped : capped_rnk ≡ true
  rnk_is_halved : halves ≡ true

all_fit : (dir acc bas rnk capped_acc capped_rnk halves : Bool) →
    ((((((dir && acc) && bas) && rnk) && capped_acc) && capped_rnk) && halves) ≡ true →
    AllFit dir acc bas rnk capped_acc capped_rnk halves
all_fit dir acc bas rnk capped_acc capped_rnk halves h =
    let six = and_parts _ halves h in
    let five = and_parts _ capped_rnk six.0 in
    let four = and_parts _ capped_acc five.0 in
    let three = and_parts _ rnk four.0 in
    let two = and_parts _ bas three.0 in
    let one = and_parts dir acc two.0 in
    record {
      dir_fits = one.0;
      acc_fits = one.1;
      bas_fits = two.1;
      rnk_fits = three.1;
      acc_is_capped = four.1;
      rnk_is_capped = five.1;
      rnk_is_halved = six.1;
    }

-- as many lanes of each as numbers
as_many : (lanes numbers cols dir dirs : ℕ) → lanes ≡ numbers → numbers ≡ cols → dir ≡ dirs → dirs ≡ cols → lanes ≡ dir
as_many lanes numbers cols dir dirs own long here all = own ∙ long ∙ sym all ∙ sym here

-- the numbers that were capped or halved are those in the lanes
images_of : (Are : List ℕ → List ℕ → ℕ → Type 0) (slice held images : List ℕ) (n : ℕ) → slice ≡ held → length slice ≡ n → Are slice images (length slice) →
    Are held images n
images_of Are slice held images n same long are = subst (Are held images) long (subst (λ xs. Are xs images (length slice)) same are)

pub invariant_of-self-else-not-fit : goal.invariant_of-self-else-not-fit
invariant_of-self-else-not-fit g c =
    let fit = all_fit c.take_short_numbers.result c.take_numbers.result c.take_numbers-2.result
    c.take_ranks.result c.take_capped.result c.take_capped-2.result c.take_halves.result c.if-not-fit.false in
    let dirs = c.take_short_numbers.ensures.len fit.dir_fits in
    record {
      acc_len = as_many _ _ _ _ _ (c.take_numbers.ensures.len fit.acc_fits) (c.requires Acc) dirs (c.requires Dir);
      bas_len = as_many _ _ _ _ _ (c.take_numbers-2.ensures.len fit.bas_fits) (c.requires Bas) dirs (c.requires Dir);
      capped_acc_len = c.take_capped.ensures.len fit.acc_is_capped ∙ c.deref.ensures.len;
      acc_is_capped = images_of AreCapped _ _ _ _ c.deref.ensures.value c.deref.ensures.len (c.take_capped.ensures.capped fit.acc_is_capped);
      ranks_match = record {
        capped_len = c.take_capped-2.ensures.len fit.rnk_is_capped ∙ c.deref-2.ensures.len;
        are_capped = images_of AreCapped _ _ _ _ c.deref-2.ensures.value c.deref-2.ensures.len (c.take_capped-2.ensures.capped fit.rnk_is_capped);
        low_len = c.take_halves.ensures.low_len fit.rnk_is_halved ∙ c.deref-3.ensures.len;
        are_lower = images_of AreLower _ _ _ _ c.deref-3.ensures.value c.deref-3.ensures.len (c.take_halves.ensures.lower fit.rnk_is_halved);
        high_len = c.take_halves.ensures.high_len fit.rnk_is_halved ∙ c.deref-3.ensures.len;
        are_upper = images_of AreUpper _ _ _ _ c.deref-3.ensures.value c.deref-3.ensures.len (c.take_halves.ensures.upper fit.rnk_is_halved);
      };
    }

asked_len : (ranks : Bool) (lanes numbers cols : ℕ) → IfJudged ranks (lanes ≡ numbers) → numbers ≡ cols → IfJudged ranks (lanes ≡ cols)
asked_len true lanes numbers cols own long = own ∙ long
asked_len false lanes numbers cols own long = tt

pub returns-else-not-fit-clause-len : goal.returns-else-not-fit-clause-len
returns-else-not-fit-clause-len g c = λ all.
    let fit = all_fit c.take_short_numbers.result c.take_numbers.result c.take_numbers-2.result
    c.take_ranks.result c.take_capped.result c.take_capped-2.result c.take_halves.result all in
    c.take_short_numbers.ensures.len fit.dir_fits ∙ c.requires Dir

pub returns-else-not-fit-clause-dir : goal.returns-else-not-fit-clause-dir
returns-else-not-fit-clause-dir g c = λ all.
    let fit = all_fit c.take_short_numbers.result c.take_numbers.result c.take_numbers-2.result
    c.take_ranks.result c.take_capped.result c.take_capped-2.result c.take_halves.result all in
    λ k less. c.take_short_numbers.ensures.lanes fit.dir_fits k (subst (λ n. k < n) (sym (c.requires Dir)) less)

pub returns-else-not-fit-clause-acc : goal.returns-else-not-fit-clause-acc
returns-else-not-fit-clause-acc g c = λ all.
    let fit = all_fit c.take_short_numbers.result c.take_numbers.result c.take_numbers-2.result
    c.take_ranks.result c.take_capped.result c.take_capped-2.result c.take_halves.result all in
    λ k less. c.take_numbers.ensures.lanes fit.acc_fits k (subst (λ n. k < n) (sym (c.requires Acc)) less)

pub returns-else-not-fit-clause-bas : goal.returns-else-not-fit-clause-bas
returns-else-not-fit-clause-bas g c = λ all.
    let fit = all_fit c.take_short_numbers.result c.take_numbers.result c.take_numbers-2.result
    c.take_ranks.result c.take_capped.result c.take_capped-2.result c.take_halves.result all in
    λ k less. c.take_numbers-2.ensures.lanes fit.bas_fits k (subst (λ n. k < n) (sym (c.requires Bas)) less)

pub returns-else-not-fit-clause-rnk : goal.returns-else-not-fit-clause-rnk
returns-else-not-fit-clause-rnk g c = λ all has.
    let fit = all_fit c.take_short_numbers.result c.take_numbers.result c.take_numbers-2.result
    c.take_ranks.result c.take_capped.result c.take_capped-2.result c.take_halves.result all in
    λ k less. c.take_ranks.ensures.lanes fit.rnk_fits (has ∙ sym (c.requires Rnk)) k (subst (λ n. k < n) (sym (c.requires Rnk)) less)

pub returns-else-not-fit-clause-ranked : goal.returns-else-not-fit-clause-ranked
returns-else-not-fit-clause-ranked g c = λ all.
    let fit = all_fit c.take_short_numbers.result c.take_numbers.result c.take_numbers-2.result
    c.take_ranks.result c.take_capped.result c.take_capped-2.result c.take_halves.result all in
    asked_len (has_rnk c.args.judged) _ _ _ (c.take_ranks.ensures.len fit.rnk_fits) (c.requires Rnk)
