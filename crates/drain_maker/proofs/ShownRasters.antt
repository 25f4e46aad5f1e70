-- The rasters show what was computed: so what holds of that holds of them.
use Rattle.drain_maker.proofs.Names.{◌≡◌, ◌∙◌, ℕ, ◌≤◌, ◌*◌, ℤ, pos, List, [], map, refl, sym, ap, subst, Product, Grid, Products, Pixels, default_no_data, Extent, number_at, AreFlowsOf, bytes_flows, OfFlows, MAX_CELLS, AreCountsAndLabels, AreRightProducts, AreRoutes, SomeRunsEnd, made_numbers, shown}
use Rattle.drain_grid.specs.declared.product.Product.TheVariants.{Dir, Acc, Bas, Rnk}
use Rattle.drain_paths.specs.declared.flow.Flow.{Flow}
use Rattle.drain_maker.proofs.RoutedProducts.{routes_end, routes_keep_rules}

abbrev pub heights : Extent → ℤ → List ℤ → Pixels
heights e nodata numbers = record { extent = e; nodata = nodata; numbers = numbers }

abbrev pub numbers : Extent → Product → List ℕ → Pixels
numbers e p ns = heights e (default_no_data p) (map (λ n. pos n) ns)

-- products of five rasters
abbrev pub showing : Pixels → Pixels → Pixels → Pixels → Pixels → Products
showing con dir acc bas rnk = record { con = number_at con; dir = number_at dir; acc = number_at acc; bas = number_at bas; spl = λ c. pos 0; rnk = number_at rnk }

showing_same : (a b c d r : Pixels) {a' b' c' d' r' : Pixels} → a ≡ a' → b ≡ b' → c ≡ c' → d ≡ d' → r ≡ r' → showing a b c d r ≡ showing a' b' c' d' r'
showing_same a b c d r p q s t u = rw (p, q, s, t, u) refl

-- the flows are those of some grid and products whose runs end
abbrev pub AreEnded : Grid → ℤ → Extent → Type 0
AreEnded g void e = (con : List ℤ) (rnk dirs : List ℕ) (flows : List Flow) → e.rows * e.cols ≤ MAX_CELLS → AreRoutes g void con rnk dirs →
    flows ≡ bytes_flows dirs → SomeRunsEnd e flows

pub ended : (g : Grid) (void : ℤ) (e : Extent) → e ≡ g.extent → AreEnded g void e
ended g void e same = subst (AreEnded g void) (sym same) at_grid
  where
    at_grid : AreEnded g void g.extent
    at_grid con rnk dirs flows few routes is =
        let both = routes_end g routes.flood routes.laying void [] [] few routes.surface routes.voids routes.ways in (
          g,
          shown g.extent routes.flood routes.laying [] [],
          subst (AreFlowsOf g (shown g.extent routes.flood routes.laying [] []) g.extent) (sym (is ∙ ap bytes_flows routes.dir_is)) both.0,
          both.1,
        )

-- rasters of right routes, counts and labels are right
abbrev pub RastersAreRight : Grid → ℤ → Extent → Type 0
RastersAreRight g void e = (con : List ℤ) (rnk dirs counts labels : List ℕ) (flows : List Flow) (rc rd ra rb rr : Pixels) → e.rows * e.cols ≤ MAX_CELLS →
    AreRoutes g void con rnk dirs → flows ≡ bytes_flows dirs → OfFlows e flows (λ h ps. AreCountsAndLabels h ps e counts labels) →
    rc ≡ heights e void con → rd ≡ numbers e Dir dirs → ra ≡ numbers e Acc counts → rb ≡ numbers e Bas labels → rr ≡ numbers e Rnk rnk →
    AreRightProducts g (made_numbers void) (showing rc rd ra rb rr)

pub right : (g : Grid) (void : ℤ) (e : Extent) → e ≡ g.extent → RastersAreRight g void e
right g void e same = subst (RastersAreRight g void) (sym same) at_grid
  where
    at_grid : RastersAreRight g void g.extent
    at_grid con rnk dirs counts labels flows rc rd ra rb rr few routes is both con_is dir_is acc_is bas_is rnk_is =
        let f = routes.flood in
        let w = routes.laying in
        let ps = shown g.extent f w counts labels in
        let ends = routes_end g f w void counts labels few routes.surface routes.voids routes.ways in
        let flows_are : AreFlowsOf g ps g.extent flows = subst (AreFlowsOf g ps g.extent) (sym (is ∙ ap bytes_flows routes.dir_is)) ends.0 in
        let made = routes_keep_rules g f w void counts labels few routes.surface routes.voids routes.ways (both g ps flows_are) in
        let shows : showing rc rd ra rb rr ≡ ps =
        showing_same rc rd ra rb rr (con_is ∙ ap (heights g.extent void) routes.con_is) (dir_is ∙ ap (numbers g.extent Dir) routes.dir_is) acc_is bas_is
        (rnk_is ∙ ap (numbers g.extent Rnk) routes.rnk_is) in
        subst (AreRightProducts g (made_numbers void)) (sym shows) made
