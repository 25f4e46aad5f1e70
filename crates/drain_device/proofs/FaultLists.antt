-- How parts of a read add up, in faults and patience.
use Rattle.drain_device.proofs.Names.{◌≡◌, ℕ, ◌+◌, ◌-◌, Ok, IsErrOf, arith, inl, inr, ◌↔◌, zero, suc, ◌⊎◌, List, Option, Some, None, [], ◌∷◌, ◌++◌, refl, FaultCounts, ReadFault, ReadFailed, PartFails, ReadFails, GivesUp, full_patience, Answered, TakesAtMost}
use Rattle.drain_device.proofs.PartLemmas.{bears, gives_up-left, gives_up-full}
use Rattle.std.specs.List.{Any}
use Rattle.drain_device.specs.FaultLists.{Faults, AnsweredEach, SomeReadFails}

-- a part that made no call
pub PartFails-none : (a : FaultCounts) (patience : ℕ) (Fails : Type 0) → (Fails → ⊥) → PartFails a a patience patience Fails
PartFails-none a patience Fails never = record {
  failures = 0;
  interruptions = 0;
  answered = record { failures_are = omega arith; interruptions_are = omega arith };
  left_is = omega arith;
  exactly = (λ fails. absurd (never fails), λ gives_up. elim gives_up [ inl failed ↦ absurd (omega arith) | inr ran_out ↦ absurd (omega arith) ]);
}

-- one that fails where another says so
pub PartFails-same : (a b : FaultCounts) (patience left : ℕ) (F G : Type 0) → (F → G) → (G → F) → PartFails a b patience left F → PartFails a b patience left G
PartFails-same a b patience left F G there back part = record {
  failures = part.failures;
  interruptions = part.interruptions;
  answered = part.answered;
  left_is = part.left_is;
  exactly = (λ x. part.exactly.0 (back x), λ x. there (part.exactly.1 x));
}

-- a part that came didn't fail
pub PartFails-ok : {T : Type 0} (a b : FaultCounts) (patience left : ℕ) (done : T) → PartFails a b patience left (IsErrOf {T = T} {E = ReadFault} (Ok done) ReadFailed) →
    PartFails a b patience left ⊥
PartFails-ok {T = T} a b patience left done part = PartFails-same a b patience left (IsErrOf {T = T} {E = ReadFault} (Ok done) ReadFailed) ⊥ (λ e. cc) (λ x. absurd x) part

-- one part that didn't fail, and then another
pub PartFails-then : (a b c : FaultCounts) (patience between left : ℕ) (F G : Type 0) → (F → ⊥) → PartFails a b patience between F → PartFails b c between left G →
    PartFails a c patience left G
PartFails-then a b c patience between left F G goes_on one other =
    let borne = bears patience one.failures one.interruptions (λ h. goes_on (one.exactly.1 h)) in
    let fewer : between + one.interruptions ≡ patience = omega (arith, borne.1, one.left_is) in
    record {
      failures = other.failures;
      interruptions = patience - between + other.interruptions;
      answered = record {
        failures_are = omega (arith, borne.0, one.answered.failures_are, other.answered.failures_are);
        interruptions_are = omega (arith, fewer, one.answered.interruptions_are, other.answered.interruptions_are);
      };
      left_is = omega (arith, fewer, other.left_is);
      exactly = (
        λ x. gives_up-left patience between other.failures other.interruptions (omega (arith, fewer)) (other.exactly.0 x),
        λ x. other.exactly.1 (gives_up-full patience between other.failures other.interruptions (omega (arith, fewer)) x),
      );
    }

-- one part that came, and then another
pub PartFails-after : {T : Type 0} {a b c : FaultCounts} {patience between left : ℕ} {done : T} {G : Type 0} →
    PartFails a b patience between (IsErrOf {T = T} {E = ReadFault} (Ok done) ReadFailed) → PartFails b c between left G → PartFails a c patience left G
PartFails-after {T = T} {a = a} {b = b} {c = c} {patience = patience} {between = between} {left = left} {done = done} {G = G} one other =
    PartFails-then a b c patience between left ⊥ G (λ x. x) (PartFails-ok {T = T} a b patience between done one) other

-- How the faults of many devices decide whether a read failed: no call, one device, and one part after another.

-- the device failed, or was interrupted for the 1,000th time
abbrev pub gave_up : Faults → Type 0
gave_up f = GivesUp full_patience f.failures f.interruptions

-- one of the faults comes first, or is among the rest
pub any-first : {X : Type 0} (P : X → Type 0) (x : X) (xs : List X) → P x → Any P (x ∷ xs)
any-first P x xs holds = (0, x, omega arith, refl, holds)

pub any-later : {X : Type 0} (P : X → Type 0) (x : X) (xs : List X) → Any P xs → Any P (x ∷ xs)
any-later P x xs (k, y, below, is, holds) = (suc k, y, omega (arith, below), is, holds)

pub any-cases : {X : Type 0} (P : X → Type 0) (x : X) (xs : List X) → Any P (x ∷ xs) → P x ⊎ Any P xs
any-cases P x xs (zero, y, below, is, holds) = inl (rw is holds)
any-cases P x xs (suc k, y, below, is, holds) = inr (k, y, omega (arith, below), is, holds)

pub any-none : {X : Type 0} (P : X → Type 0) → Any P [] → ⊥
any-none P (k, y, below, is, holds) = omega (arith, below)

-- of two lists, it is among the one or the other
pub any-left : {X : Type 0} (P : X → Type 0) (xs ys : List X) → Any P xs → Any P (xs ++ ys)
any-left P [] ys some = absurd (any-none P some)
any-left P (x ∷ xs) ys some = elim (any-cases P x xs some) [
  | inl here ↦ any-first P x (xs ++ ys) here
  | inr later ↦ any-later P x (xs ++ ys) (any-left P xs ys later)
]

pub any-right : {X : Type 0} (P : X → Type 0) (xs ys : List X) → Any P ys → Any P (xs ++ ys)
any-right P [] ys some = some
any-right P (x ∷ xs) ys some = any-later P x (xs ++ ys) (any-right P xs ys some)

pub any-either : {X : Type 0} (P : X → Type 0) (xs ys : List X) → Any P (xs ++ ys) → Any P xs ⊎ Any P ys
any-either P [] ys some = inr some
any-either P (x ∷ xs) ys some = elim (any-cases P x (xs ++ ys) some) [
  | inl here ↦ inl (any-first P x xs here)
  | inr later ↦ elim (any-either P xs ys later) [
    | inl left ↦ inl (any-later P x xs left)
    | inr right ↦ inr right
  ]
]

-- a device that wasn't called answered no fault
answered-none : (c : FaultCounts) → Answered c c 0 0
answered-none c = record { failures_are = omega arith; interruptions_are = omega arith }

abbrev nothing : Faults
nothing = record { failures = 0; interruptions = 0 }

nothing-borne : ¬ gave_up nothing
nothing-borne (inl failed) = omega (arith, failed)
nothing-borne (inr ran_out) = omega (arith, ran_out)

-- what some devices answered, and then some more
answered-then : (xs ys us vs : List FaultCounts) (fs gs : List Faults) → AnsweredEach xs ys fs → AnsweredEach us vs gs → AnsweredEach (xs ++ us) (ys ++ vs) (fs ++ gs)
answered-then [] [] us vs [] gs first more = more
answered-then [] [] us vs (f ∷ fs) gs first more = absurd first
answered-then [] (b ∷ ys) us vs fs gs first more = absurd first
answered-then (a ∷ xs) [] us vs fs gs first more = absurd first
answered-then (a ∷ xs) (b ∷ ys) us vs [] gs first more = absurd first
answered-then (a ∷ xs) (b ∷ ys) us vs (f ∷ fs) gs first more = (first.0, answered-then xs ys us vs fs gs first.1 more)

-- the same with an equivalent condition
pub SomeReadFails-iff : {old new : List FaultCounts} {F G : Type 0} → F ↔ G → SomeReadFails old new F → SomeReadFails old new G
SomeReadFails-iff same reads = record {
  faults = reads.faults;
  answered = reads.answered;
  exactly = (λ g. reads.exactly.0 (same.1 g), λ some. same.0 (reads.exactly.1 some));
}

-- one part, and then another
pub SomeReadFails-then : {xs ys us vs : List FaultCounts} {F G H : Type 0} → (F ⊎ G) ↔ H → SomeReadFails xs ys F → SomeReadFails us vs G →
    SomeReadFails (xs ++ us) (ys ++ vs) H
SomeReadFails-then {xs} {ys} {us} {vs} {F} {G} {H} either first more =
    let to : (F ⊎ G) → Any gave_up (first.faults ++ more.faults) = λ s. elim s [
      | inl f ↦ any-left gave_up first.faults more.faults (first.exactly.0 f)
      | inr g ↦ any-right gave_up first.faults more.faults (more.exactly.0 g)
    ] in
    let from : Any gave_up (first.faults ++ more.faults) → F ⊎ G = λ some. elim (any-either gave_up first.faults more.faults some) [
      | inl left ↦ inl (first.exactly.1 left)
      | inr right ↦ inr (more.exactly.1 right)
    ] in
    record {
      faults = first.faults ++ more.faults;
      answered = answered-then xs ys us vs first.faults more.faults first.answered more.answered;
      exactly = (λ h. to (either.1 h), λ some. either.0 (from some));
    }

-- one device
pub SomeReadFails-one : {old new : FaultCounts} {F : Type 0} → ReadFails old new F → SomeReadFails (old ∷ []) (new ∷ []) F
SomeReadFails-one {old} {new} {F} read =
    let f : Faults = record { failures = read.failures; interruptions = read.interruptions } in
    record {
      faults = f ∷ [];
      answered = (read.answered, tt);
      exactly = (
        λ fails. any-first gave_up f [] (read.exactly.0 fails),
        λ some. elim (any-cases gave_up f [] some) [ inl here ↦ read.exactly.1 here | inr later ↦ absurd (any-none gave_up later) ],
      );
    }

-- a device that wasn't called
pub untouched : (c : FaultCounts) {F : Type 0} → ¬ F → ReadFails c c F
untouched c not = record {
  failures = 0;
  interruptions = 0;
  answered = answered-none c;
  exactly = (λ f. absurd (not f), λ up. absurd (nothing-borne up));
}

-- took no byte
pub takes-none : (limit : ℕ) (left : Option (List ℕ)) → TakesAtMost limit left left
takes-none limit None = ([], tt, omega arith)
takes-none limit (Some xs) = ([], refl, omega arith)

-- where no device was called none fails
pub SomeReadFails-none : (cs : List FaultCounts) {F : Type 0} → ¬ F → SomeReadFails cs cs F
SomeReadFails-none [] not = record {
  faults = [];
  answered = tt;
  exactly = (λ f. absurd (not f), λ some. absurd (any-none gave_up some));
}
SomeReadFails-none (c ∷ cs) not =
    SomeReadFails-then (λ either. elim either [ inl f ↦ f | inr f ↦ f ], λ f. absurd (not f)) (SomeReadFails-one (untouched c not)) (SomeReadFails-none cs not)
