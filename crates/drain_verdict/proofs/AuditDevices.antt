-- The devices of an audit: con's, which is read for the ranks too, counts once.
use Rattle.drain_verdict.proofs.Names.{audit_devices, as_five, four_devices, ◌↔◌, ◌⊎◌, List, [], ◌∷◌, ◌++◌, map, ◌≡◌, inl, inr, length, refl, ap, sym, subst, arith, map-append, length-map, FaultCounts, TileInput, tile_devices, TilesTakeAtMost, names_of, SomeReadFails, AnsweredEach, Faults, product_devices, devices_of, set_devices, SomeReadFails-then, SomeReadFails-none, takes-none, any-cases, any-either, any-first, any-later, any-left, any-none, any-right, Any, cases_order, full_patience, AuditProducts}
use Rattle.drain_verdict.specs.Inputs.{Products}
use Rattle.std.proofs.Common.{ℕ, Option}
use Rattle.drain_device.proofs.FaultLists.{gave_up}
use Rattle.drain_device.specs.Counts.{Answered}

-- The devices of a check, and what is known of them if only a part was called.

-- where no tile was called, nothing was taken
pub tiles_take_none : {R : Type 0} (bytes_left : R → Option (List ℕ)) (side : ℕ) (tiles : List (TileInput R)) → TilesTakeAtMost bytes_left side tiles tiles
tiles_take_none bytes_left side [] = tt
tiles_take_none bytes_left side (t ∷ tiles) = (takes-none _ (bytes_left t.body), tiles_take_none bytes_left side tiles)

-- the faults of the ground's devices, and then of the products'
pub devices_then : {X R : Type 0} (counts : R → FaultCounts) (devices : List X → List R) (old new : List X) (old_products new_products : Products R) {F G H : Type 0} →
    (F ⊎ G) ↔ H → SomeReadFails (map counts (devices old)) (map counts (devices new)) F →
    SomeReadFails (map counts (product_devices old_products)) (map counts (product_devices new_products)) G →
    SomeReadFails (map counts (set_devices devices old old_products)) (map counts (set_devices devices new new_products)) H
devices_then counts devices old new old_products new_products {F} {G} {H} either inputs products =
    let both : SomeReadFails (map counts (devices old) ++ map counts (product_devices old_products)) (map counts (devices new) ++ map counts (product_devices new_products)) H
    = SomeReadFails-then either inputs products in
    let was = map-append counts (devices old) (product_devices old_products) in
    let is = map-append counts (devices new) (product_devices new_products) in
    rw (was, is) both

-- no device was called
pub devices_none : {X R : Type 0} (counts : R → FaultCounts) (devices : List X → List R) (inputs : List X) (products : Products R) {F : Type 0} → ¬ F →
    SomeReadFails (map counts (set_devices devices inputs products)) (map counts (set_devices devices inputs products)) F
devices_none counts devices inputs products not = SomeReadFails-none (map counts (set_devices devices inputs products)) not

gave_up_or_not : (f : Faults) → gave_up f ⊎ ¬ gave_up f
gave_up_or_not f = elim (cases_order 0 f.failures) [
  | inl none ↦ elim (cases_order full_patience f.interruptions) [
    | inl same ↦ inr (λ up. elim up [ inl failed ↦ omega (arith, none, failed) | inr ran_out ↦ omega (arith, same, ran_out) ])
    | inr (inl ran_out) ↦ inl (inr ran_out)
    | inr (inr borne) ↦ inr (λ up. elim up [ inl failed ↦ omega (arith, none, failed) | inr ran_out ↦ omega (arith, borne, ran_out) ])
  ]
  | inr (inl failed) ↦ inl (inl failed)
  | inr (inr less) ↦ absurd (omega (arith, less))
]

-- faults of one device, counted twice, are the same faults
pub record AreOf (old new : FaultCounts) (one other f : Faults) : Type 0 where
  pub answered : Answered old new f.failures f.interruptions
  pub gives_up : gave_up f ↔ (gave_up one ⊎ gave_up other)

told_once : (old new : FaultCounts) (one other : Faults) → Answered old new one.failures one.interruptions → Answered old new other.failures other.interruptions →
    (f : Faults) × AreOf old new one other f
told_once old new one other first last = elim (gave_up_or_not other) [
  | inl up ↦ (other, record { answered = last; gives_up = (λ h. inr h, λ h. up) })
  | inr borne ↦ (one, record { answered = first; gives_up = (λ h. inl h, λ h. elim h [ inl is ↦ is | inr is ↦ absurd (borne is) ]) })
]

-- faults of a list of devices are those of its parts
split : (xs us ys vs : List FaultCounts) (fs : List Faults) → length xs ≡ length us → AnsweredEach (xs ++ ys) (us ++ vs) fs →
    (gs : List Faults) × (hs : List Faults) × (fs ≡ gs ++ hs) × AnsweredEach xs us gs × AnsweredEach ys vs hs
split [] [] ys vs fs same each = ([], fs, refl, tt, each)
split [] (u ∷ us) ys vs fs same each = absurd (omega (arith, same))
split (x ∷ xs) [] ys vs fs same each = absurd (omega (arith, same))
split (x ∷ xs) (u ∷ us) ys vs [] same each = absurd each
split (x ∷ xs) (u ∷ us) ys vs (f ∷ fs) same (here, each) =
    let rest = split xs us ys vs fs (omega (arith, same)) each in
    (f ∷ rest.0, rest.1, ap (λ ks. f ∷ ks) rest.2, (here, rest.3), rest.4)

module _ (a b c d at bt ct dt : FaultCounts) where
  abbrev Five : List Faults → Type 0
  Five fs = AnsweredEach (a ∷ b ∷ c ∷ d ∷ b ∷ []) (at ∷ bt ∷ ct ∷ dt ∷ bt ∷ []) fs

  abbrev Four : List Faults → Type 0
  Four fs = AnsweredEach (a ∷ b ∷ c ∷ d ∷ []) (at ∷ bt ∷ ct ∷ dt ∷ []) fs

  -- five of which the last is the second are four
  four_of_five : (fs : List Faults) → Five fs → (gs : List Faults) × Four gs × (Any gave_up fs ↔ Any gave_up gs)
  four_of_five [] each = absurd each
  four_of_five (f ∷ []) (one, each) = absurd each
  four_of_five (f ∷ g ∷ []) (one, (two, each)) = absurd each
  four_of_five (f ∷ g ∷ h ∷ []) (one, (two, (three, each))) = absurd each
  four_of_five (f ∷ g ∷ h ∷ i ∷ []) (one, (two, (three, (four, each)))) = absurd each
  four_of_five (f ∷ g ∷ h ∷ i ∷ j ∷ k ∷ fs) (one, (two, (three, (four, (five, each))))) = absurd each
  four_of_five (f ∷ g ∷ h ∷ i ∷ j ∷ []) (one, (two, (three, (four, (five, each))))) =
      let once = told_once b bt g j two five in
      let more = g ∷ h ∷ i ∷ [] in
      let rest = once.0 ∷ h ∷ i ∷ [] in (
        f ∷ rest,
        (one, (once.1.answered, (three, (four, tt)))),
        (
          λ some. elim (any-cases gave_up f (more ++ (j ∷ [])) some) [
            | inl first ↦ any-first gave_up f rest first
            | inr later ↦ any-later gave_up f rest (elim (any-either gave_up more (j ∷ []) later) [
              | inl early ↦ elim (any-cases gave_up g (h ∷ i ∷ []) early) [
                | inl is ↦ any-first gave_up once.0 (h ∷ i ∷ []) (once.1.gives_up.1 (inl is))
                | inr last ↦ any-later gave_up once.0 (h ∷ i ∷ []) last
              ]
              | inr last ↦ elim (any-cases gave_up j [] last) [
                | inl is ↦ any-first gave_up once.0 (h ∷ i ∷ []) (once.1.gives_up.1 (inr is))
                | inr none ↦ absurd (any-none gave_up none)
              ]
            ])
          ],
          λ some. elim (any-cases gave_up f rest some) [
            | inl first ↦ any-first gave_up f (more ++ (j ∷ [])) first
            | inr later ↦ any-later gave_up f (more ++ (j ∷ [])) (elim (any-cases gave_up once.0 (h ∷ i ∷ []) later) [
              | inl is ↦ elim (once.1.gives_up.0 is) [
                | inl early ↦ any-first gave_up g (h ∷ i ∷ j ∷ []) early
                | inr last ↦ any-right gave_up more (j ∷ []) (any-first gave_up j [] last)
              ]
              | inr last ↦ any-left gave_up more (j ∷ []) (any-later gave_up g (h ∷ i ∷ []) last)
            ])
          ],
        ),
      )

  -- so a read of the four fails where one of the five does
  fails_of_four : (xs us : List FaultCounts) {F : Type 0} → length xs ≡ length us →
      SomeReadFails (xs ++ (a ∷ b ∷ c ∷ d ∷ b ∷ [])) (us ++ (at ∷ bt ∷ ct ∷ dt ∷ bt ∷ [])) F → SomeReadFails (xs ++ (a ∷ b ∷ c ∷ d ∷ [])) (us ++ (at ∷ bt ∷ ct ∷ dt ∷ [])) F
  fails_of_four xs us {F} same fails =
      let parts = split xs us (a ∷ b ∷ c ∷ d ∷ b ∷ []) (at ∷ bt ∷ ct ∷ dt ∷ bt ∷ []) fails.faults same fails.answered in
      let four = four_of_five parts.1 parts.4 in
      let left : SomeReadFails xs us (Any gave_up parts.0) = record { faults = parts.0; answered = parts.3; exactly = (λ h. h, λ h. h) } in
      let right : SomeReadFails (a ∷ b ∷ c ∷ d ∷ []) (at ∷ bt ∷ ct ∷ dt ∷ []) (Any gave_up four.0) = record { faults = four.0; answered = four.1; exactly = (λ h. h, λ h. h) } in
      SomeReadFails-then (
        λ either. fails.exactly.1 (subst (Any gave_up) (sym parts.2) (elim either [
          | inl early ↦ any-left gave_up parts.0 parts.1 early
          | inr late ↦ any-right gave_up parts.0 parts.1 (four.2.1 late)
        ])),
        λ failed. elim (any-either gave_up parts.0 parts.1 (subst (Any gave_up) parts.2 (fails.exactly.0 failed))) [
          | inl early ↦ inl early
          | inr late ↦ inr (four.2.0 late)
        ],
      ) left right

-- five products of which one is read twice, beside these devices of a ground
pub set_devices_of_four : {X R : Type 0} (counts : R → FaultCounts) (devices : List X → List R) (xs xs_then : List X) (ps ps_then : AuditProducts R) {F : Type 0} →
    length (map counts (devices xs)) ≡ length (map counts (devices xs_then)) →
    SomeReadFails (map counts (set_devices devices xs (as_five ps))) (map counts (set_devices devices xs_then (as_five ps_then))) F →
    SomeReadFails (map counts (devices xs ++ four_devices ps)) (map counts (devices xs_then ++ four_devices ps_then)) F
set_devices_of_four counts devices xs xs_then ps ps_then {F} as_many fails =
    let four = fails_of_four (counts ps.con.body) (counts ps.dir.body) (counts ps.acc.body) (counts ps.bas.body)
    (counts ps_then.con.body) (counts ps_then.dir.body) (counts ps_then.acc.body) (counts ps_then.bas.body) (map counts (devices xs)) (map counts (devices xs_then)) as_many
    (rw (
      sym (map-append counts (devices xs) (ps.con.body ∷ ps.dir.body ∷ ps.acc.body ∷ ps.bas.body ∷ ps.dir.body ∷ [])),
      sym (map-append counts (devices xs_then) (ps_then.con.body ∷ ps_then.dir.body ∷ ps_then.acc.body ∷ ps_then.bas.body ∷ ps_then.dir.body ∷ [])),
    ) fails) in
    rw (
      map-append counts (devices xs) (four_devices ps),
      map-append counts (devices xs_then) (four_devices ps_then),
    ) four

-- the same beside tiles
pub devices_of_four : {R : Type 0} (counts : R → FaultCounts) (tiles tiles_then : List (TileInput R)) (ps ps_then : AuditProducts R) {F : Type 0} → names_of tiles_then ≡ names_of tiles →
    SomeReadFails (map counts (devices_of tiles (as_five ps))) (map counts (devices_of tiles_then (as_five ps_then))) F →
    SomeReadFails (map counts (audit_devices tiles ps)) (map counts (audit_devices tiles_then ps_then)) F
devices_of_four {R} counts tiles tiles_then ps ps_then names fails = set_devices_of_four counts tile_devices tiles tiles_then ps ps_then as_many fails
  where
    as_many : length (map counts (tile_devices tiles)) ≡ length (map counts (tile_devices tiles_then))
    as_many =
        let many = ap length names in
        omega (
          arith,
          many,
          length-map (tile_devices tiles) counts,
          length-map (tile_devices tiles_then) counts,
          length-map tiles (λ (t : TileInput R). t.body),
          length-map tiles_then (λ (t : TileInput R). t.body),
          length-map tiles (λ (t : TileInput R). t.name),
          length-map tiles_then (λ (t : TileInput R). t.name),
        )
