use Rattle.drain_slope.proofs.Names.{◌≡◌, ℕ, ℤ, pos, ◌-ℤ◌, ◌∙◌, refl, sym, ap, subst, arith, FitsSigned, to_z, of_z, w64, ints, to_z-of_z, height_of, single_height, IsPixel, IsLowerCon, IsLowerNumber}
use Rattle.drain_grid.specs.declared.height_kind.HeightKind.{HeightKind}
use Rattle.drain_grid.specs.declared.height_kind.HeightKind.TheVariants.{Single}
use Rattle.drain_slope.proofs.Keys.{drops_by_con, steeper_than_none, steeper_by_drops, natural_drop}
use Rattle.drain_slope.proofs.is_steeper_by_heights.Goals as goal

pub returns-in-Some-None : goal.returns-in-Some-None
returns-in-Some-None c =
    let p = c.args.patch.now in
    let lower : IsLowerNumber p c.args.first c.in-Some-None.field-0-0 = subst (IsLowerCon p c.args.first) c.in-Some-None.is-0 c.lower_con.ensures in
    let none = subst (IsLowerCon p c.args.second) c.in-Some-None.is-1 c.lower_con-2.ensures in
    ((λ _. steeper_than_none p c.args.first c.args.second c.distance_square-over.ensures.valid (drops_by_con p c.args.first c.in-Some-None.field-0-0 lower) none), (λ _. refl))

-- the drop of floats, by numbers as the code has them
drop_of_floats : (kind : HeightKind) (here there here' : ℤ) (drop : ℤ) (k : ℕ) → kind ≡ Single → drop ≡ height_of kind here -ℤ height_of kind there → pos k ≡ drop →
    IsPixel here' → here' ≡ here → IsPixel there →
    pos k ≡ single_height (to_z w64 (of_z w64 here')) -ℤ single_height (to_z w64 (of_z w64 there))
drop_of_floats kind here there here' drop k is_single is_drop is pixel same pixel' =
    is ∙ (is_drop ∙ (ap (λ k. height_of k here -ℤ height_of k there) is_single ∙
    (ap (λ z. single_height z -ℤ single_height there) (sym (to_z-of_z w64 here' (fits here' pixel) ∙ same)) ∙
    ap (λ z. single_height (to_z w64 (of_z w64 here')) -ℤ single_height z) (sym (to_z-of_z w64 there (fits there pixel'))))))
  where
    fits : (z : ℤ) → IsPixel z → FitsSigned w64 z
    fits z pixel = let low = pixel.low in let high = pixel.high in omega (arith, ints, low, high)

pub returns-in-Some-Some : goal.returns-in-Some-Some
returns-in-Some-Some c =
    let p = c.args.patch.now in
    let first : IsLowerNumber p c.args.first c.in-Some-Some.there = subst (IsLowerCon p c.args.first) c.in-Some-Some.is-0 c.lower_con.ensures in
    let second : IsLowerNumber p c.args.second c.in-Some-Some.other = subst (IsLowerCon p c.args.second) c.in-Some-Some.is-1 c.lower_con-2.ensures in
    let x = natural_drop p c.args.first in
    let y = natural_drop p c.args.second in
    steeper_by_drops p c.args.first c.args.second x.0 y.0 c.distance_square-over.result c.distance_square-other_over.result
    c.distance_square-over.ensures.valid x.1 y.1 c.distance_square-over.ensures.square c.distance_square-other_over.ensures.square
    c.is_steeper.result (c.is_steeper.ensures x.0 y.0
    (drop_of_floats p.spacing.kind p.here.con c.in-Some-Some.there c.con_here.result _ x.0 c.requires first.drop x.1 c.con_here.ensures.pixel c.con_here.ensures.is first.pixel)
    (drop_of_floats p.spacing.kind p.here.con c.in-Some-Some.other c.con_here.result _ y.0 c.requires second.drop y.1 c.con_here.ensures.pixel c.con_here.ensures.is second.pixel))
