-- Heights and directions that are right stay so whatever the other products are. Products whose acc, bas and rnk are derived are correct exactly if con and dir are right: each fact about the other
-- three is one about what is derived.
use Rattle.drain_maker.proofs.Names.{◌≡◌, ◌≢◌, ◌∙◌, ℤ, ◌-ℤ◌, ◌≤ℤ◌, ◌<ℤ◌, inl, inr, Option, Some, option_and_then, refl, sym, ap, subst, Cell, IsCorrect, NeverClimbs, step, Grid, Products, Pixels, IsLeastSurface, IsLowerCell, IsSteepestCell, IsFlatCell, IsOutlet, only_data, next, weight_between, NoDataNumbers, rules_from_correct, AreRouted, routed_part, with_counts, AreDerived, with_derived, AreDefaultBut, DerivedCompletes}
use Rattle.drain_grid.specs.Unranked.{RanksAreSteps}
use Rattle.drain_grid.specs.Direction.{named_direction}
use Rattle.drain_grid.specs.HeightKinds.{height_of}
use Rattle.drain_grid.specs.Slope.{slope_key}
use Rattle.drain_grid.proofs.AllRules.{correct_from_rules}

lower : (g : Grid) (ps qs : Products) → ps.con ≡ qs.con → (c n : Cell) → IsLowerCell g ps c n → IsLowerCell g qs c n
lower g ps qs con c n h = record {
  from_data = h.from_data;
  to_data = h.to_data;
  beside = h.beside;
  below = subst (λ (f : Cell → ℤ). f n <ℤ f c) con h.below;
}

flat : (g : Grid) (ps qs : Products) → ps.con ≡ qs.con → (c : Cell) → IsFlatCell g ps c → IsFlatCell g qs c
flat g ps qs con c h = (h.0, λ n below. h.1 n (lower g qs ps (sym con) c n below))

outlet : (g : Grid) (ps qs : Products) → ps.con ≡ qs.con → (c : Cell) → IsOutlet g ps c → IsOutlet g qs c
outlet g ps qs con c h = (h.0, flat g ps qs con c h.1)

steepest : (g : Grid) (ps qs : Products) → ps.con ≡ qs.con → (c n : Cell) → IsSteepestCell g ps c n → IsSteepestCell g qs c n
steepest g ps qs con c n h = record {
  lower = lower g ps qs con c n h.lower;
  greatest = λ m below. subst (λ (f : Cell → ℤ). key f m ≤ℤ key f n) con (h.greatest m (lower g qs ps (sym con) c m below));
}
  where
    key : (Cell → ℤ) → Cell → ℤ
    key f m =
        slope_key (weight_between (g.spacing c.row) c m) (height_of (g.spacing c.row).kind (f c) -ℤ height_of (g.spacing c.row).kind (f m))

code : (ps qs : Products) → ps.dir ≡ qs.dir → (c : Cell) → ps.dir c ≡ qs.dir c
code ps qs dir c = ap (λ (f : Cell → ℤ). f c) dir

leads : (g : Grid) (ps qs : Products) → ps.dir ≡ qs.dir → (c : Cell) (o : Option Cell) → next g ps c ≡ o → next g qs c ≡ o
leads g ps qs dir c o is =
    sym (ap (λ (n : ℤ). option_and_then (only_data g) (option_and_then (step g.extent c) (named_direction n))) (code ps qs dir c)) ∙ is

climbs : (g : Grid) (ps qs : Products) → ps.con ≡ qs.con → ps.dir ≡ qs.dir → (c : Cell) → NeverClimbs g ps c → NeverClimbs g qs c
climbs g ps qs con dir c (inl is_zero) = inl (sym (code ps qs dir c) ∙ is_zero)
climbs g ps qs con dir c (inr on) = inr (
  on.0,
  record {
    named = leads g ps qs dir c (Some on.0) on.1.named;
    to_data = on.1.to_data;
    beside = on.1.beside;
    not_higher = subst (λ (f : Cell → ℤ). f on.0 ≤ℤ f c) con on.1.not_higher;
  },
)

-- where products have the same con and dir, these are right in both or in neither
AreRouted-alike : (g : Grid) (ps qs : Products) (nodata : NoDataNumbers) → ps.con ≡ qs.con → ps.dir ≡ qs.dir → AreRouted g ps nodata → AreRouted g qs nodata
AreRouted-alike g ps qs nodata con dir routed = record {
  void_con = λ c inside void. subst (λ (f : Cell → ℤ). f c ≡ nodata.con) con (routed.void_con c inside void);
  void_dir = λ c inside void. subst (λ (f : Cell → ℤ). f c ≡ nodata.dir) dir (routed.void_dir c inside void);
  data_con = λ c here. subst (λ (f : Cell → ℤ). f c ≢ nodata.con) con (routed.data_con c here);
  data_dir = λ c here. subst (λ (f : Cell → ℤ). f c ≢ nodata.dir) dir (routed.data_dir c here);
  least = subst (IsLeastSurface g) con routed.least;
  never_climbs = λ c here. climbs g ps qs con dir c (routed.never_climbs c here);
  steepest = λ c here not_flat.
      (let way = routed.steepest c here (λ is_flat. not_flat (flat g ps qs con c is_flat)) in
      (way.0, leads g ps qs dir c (Some way.0) way.1, steepest g ps qs con c way.0 way.2));
  outlets = λ c here. (
    (λ is_zero. outlet g ps qs con c ((routed.outlets c here).0 (code ps qs dir c ∙ is_zero))),
    (λ out. sym (code ps qs dir c) ∙ (routed.outlets c here).1 (outlet g qs ps (sym con) c out)),
  );
}

module _ (g : Grid) (ps : Products) (acc bas rnk : Pixels) (nodata : NoDataNumbers) (numbers : AreDefaultBut nodata) (derived : AreDerived g ps acc bas rnk) where
  acc_nodata : nodata.acc ≡ acc.nodata
  acc_nodata = numbers.acc ∙ sym derived.acc_nodata

  bas_nodata : nodata.bas ≡ bas.nodata
  bas_nodata = numbers.bas ∙ sym derived.bas_nodata

  rnk_nodata : nodata.rnk ≡ rnk.nodata
  rnk_nodata = numbers.rnk ∙ sym derived.rnk_nodata

  completed : AreRouted g (with_derived ps acc bas rnk) nodata → IsCorrect g (with_derived ps acc bas rnk) nodata
  completed routed = with_counts g (with_derived ps acc bas rnk) nodata routed
      (λ c inside void. (derived.void_acc c inside void ∙ sym acc_nodata, derived.void_bas c inside void ∙ sym bas_nodata))
      (λ c here. ((λ none. derived.data_acc c here (none ∙ acc_nodata)), (λ none. derived.data_bas c here (none ∙ bas_nodata)))) derived.ends derived.counts derived.labels

  ranks : RanksAreSteps g (with_derived ps acc bas rnk) nodata
  ranks = record {
    steps = derived.steps;
    voids = λ c inside void. derived.void_rnk c inside void ∙ sym rnk_nodata;
    complete = λ c here none. derived.data_rnk c here (none ∙ rnk_nodata);
  }

pub derived_completes : DerivedCompletes
derived_completes g ps acc bas rnk nodata numbers derived =
    let all = with_derived ps acc bas rnk in
    let there : AreRouted g ps nodata → IsCorrect g all nodata = λ routed.
    completed g ps acc bas rnk nodata numbers derived (AreRouted-alike g ps all nodata refl refl routed) in
    let back : IsCorrect g all nodata → AreRouted g ps nodata = λ correct.
    AreRouted-alike g all ps nodata refl refl (routed_part g all nodata correct) in
    let own = ranks g ps acc bas rnk nodata numbers derived in
    record {
      correct = (there, back);
      rules = ((λ routed. rules_from_correct g all nodata (there routed) own), (λ rules. back (correct_from_rules g all nodata rules).0));
    }
