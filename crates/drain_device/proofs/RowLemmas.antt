-- How a row that was read is one step of what is to come.
use Rattle.drain_device.proofs.Names.{◌≡◌, ℕ, ◌+◌, ◌≤◌, ℤ, List, [], ◌++◌, length, Option, Some, None, Result, Ok, Err, arith, refl, sym, subst, ap, ◌∙◌, Consumes, IsAtEnd, TakesAtMost, ReadFault, WrongLength, ReadFailed, OutOfMemory, AlreadyFailed, RowComes, EndComes, Coming, Gives, Steps, ReadsWithin, Next, Wrong}
use Rattle.std.proofs.Common.{append-nil}
use Rattle.drain_device.specs.declared.row_source.RowStep.{RowStep}
use Rattle.drain_device.specs.declared.row_source.RowStep.TheVariants.{Row}

-- a step on the bytes taken, whatever follows them
gives-part : (before after : List ℕ → Coming) (old new : Option (List ℕ)) (answer : Result RowStep ReadFault) (out : List ℤ) (bytes : List ℕ) →
    Consumes old new bytes → ((rest : List ℕ) → Steps (before (bytes ++ rest)) answer out (after rest)) → Gives before after old new answer out
gives-part before after None new answer out bytes took each = tt
gives-part before after (Some xs) None answer out bytes took each = took
gives-part before after (Some xs) (Some ys) answer out bytes took each =
    subst (λ (zs : List ℕ). Steps (before zs) answer out (after ys)) (sym took) (each ys)

-- a step where all the bytes were taken
gives-all : (before after : List ℕ → Coming) (old new : Option (List ℕ)) (answer : Result RowStep ReadFault) (out : List ℤ) (bytes : List ℕ) →
    Consumes old new bytes → IsAtEnd new → Steps (before bytes) answer out (after []) → Gives before after old new answer out
gives-all before after None new answer out bytes took end step = tt
gives-all before after (Some xs) None answer out bytes took end step = took
gives-all before after (Some xs) (Some ys) answer out bytes took end step =
    let whole : xs ≡ bytes = took ∙ ap (λ (zs : List ℕ). bytes ++ zs) end ∙ append-nil bytes in
    subst (λ (zs : List ℕ). Steps (before zs) answer out (after ys)) (sym whole) (subst (λ (zs : List ℕ). Steps (before bytes) answer out (after zs)) (sym end) step)

-- a fault of the device or of memory says nothing of what is to come, if the device still gives its bytes
gives-fault : (before after : List ℕ → Coming) (old new : Option (List ℕ)) (fault : ReadFault) (out : List ℤ) (n : ℕ) → TakesAtMost n old new →
    ((fault ≡ ReadFailed → ⊥) → fault ≡ OutOfMemory) → Gives before after old new (Err fault) out
gives-fault before after None new fault out n took only = tt
gives-fault before after (Some xs) None fault out n took only = took.1
gives-fault before after (Some xs) (Some ys) WrongLength out n took only = absurd (let wrong : WrongLength ≡ OutOfMemory = only (λ e. cc) in cc)
gives-fault before after (Some xs) (Some ys) ReadFailed out n took only = tt
gives-fault before after (Some xs) (Some ys) OutOfMemory out n took only = tt
gives-fault before after (Some xs) (Some ys) AlreadyFailed out n took only = tt

-- a row that was read
pub gives-row : (numbers : List ℕ → List ℤ) (n : ℕ) (before after : List ℕ → Coming) (old new : Option (List ℕ)) (out : List ℤ) (bytes : List ℕ) →
    RowComes numbers n old new (Ok tt) out bytes → ((xs rest : List ℕ) → length xs ≡ n → before (xs ++ rest) ≡ Next (numbers xs) (after rest)) →
    Gives before after old new (Ok Row) out
gives-row numbers n before after old new out bytes came step =
    gives-part before after old new (Ok Row) out bytes came.1
    (λ rest. step bytes rest came.0 ∙ ap (λ row. Next row (after rest)) (sym came.2))

-- a row that wasn't
pub gives-no_row : (numbers : List ℕ → List ℤ) (n : ℕ) (before after : List ℕ → Coming) (old new : Option (List ℕ)) (fault : ReadFault) (out : List ℤ) (bytes : List ℕ) →
    RowComes numbers n old new (Err fault) out bytes → ((xs : List ℕ) → length xs + 1 ≤ n → before xs ≡ Wrong) → ((xs : List ℕ) → after xs ≡ Wrong) →
    Gives before after old new (Err fault) out
gives-no_row numbers n before after old new WrongLength out bytes came short stopped =
    gives-all before after old new (Err WrongLength) out came.0.bytes came.0.took came.0.ended (short came.0.bytes (omega (arith, came.0.short)), stopped [])
gives-no_row numbers n before after old new ReadFailed out bytes came short stopped = gives-fault before after old new ReadFailed out n came.0 (λ no_fail. absurd (no_fail refl))
gives-no_row numbers n before after old new OutOfMemory out bytes came short stopped = gives-fault before after old new OutOfMemory out 0 came.0 (λ _. refl)
gives-no_row numbers n before after old new AlreadyFailed out bytes came short stopped = absurd came

-- how many bytes that took
pub within-row : (numbers : List ℕ → List ℤ) (n before after : ℕ) (old new : Option (List ℕ)) (result : Result (Unit {0}) ReadFault) (out : List ℤ) (bytes : List ℕ) →
    RowComes numbers n old new result out bytes → n + after ≤ before → ReadsWithin before after old new
within-row numbers n before after old new (Ok done) out bytes came fits = (bytes, came.1, omega (arith, came.0))
within-row numbers n before after old new (Err WrongLength) out bytes came fits = (came.0.bytes, came.0.took, omega (arith, came.0.short))
within-row numbers n before after old new (Err ReadFailed) out bytes came fits = (came.0.0, came.0.1, omega (arith, came.0.2))
within-row numbers n before after old new (Err OutOfMemory) out bytes came fits = (came.0.0, came.0.1, omega (arith, came.0.2))
within-row numbers n before after old new (Err AlreadyFailed) out bytes came fits = absurd came

-- the end was expected and bytes are left
pub gives-no_end : (before after : List ℕ → Coming) (old new : Option (List ℕ)) (fault : ReadFault) (out : List ℤ) → EndComes old new (Err fault) →
    ((xs rest : List ℕ) → length xs ≡ 1 → before (xs ++ rest) ≡ Wrong) → ((xs : List ℕ) → after xs ≡ Wrong) → Gives before after old new (Err fault) out
gives-no_end before after old new WrongLength out came longer stopped =
    gives-part before after old new (Err WrongLength) out came.0 came.1 (λ rest. (longer came.0 rest came.2, stopped rest))
gives-no_end before after old new ReadFailed out came longer stopped = gives-fault before after old new ReadFailed out 1 came (λ no_fail. absurd (no_fail refl))
gives-no_end before after old new OutOfMemory out came longer stopped = absurd came
gives-no_end before after old new AlreadyFailed out came longer stopped = absurd came
