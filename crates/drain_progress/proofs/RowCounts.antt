-- How many rows end within n bytes, by a division.
use Rattle.std.proofs.Common.{◌≡◌, ℕ, ◌+◌, ◌*◌, ◌-◌, ◌/◌, ◌%◌, ◌≤◌, ◌<◌, min, arith}
use Rattle.std.proofs.lemmas.Nat.{div-add-mod', mod_below, mul-le}
use Rattle.drain_progress.specs.Progress.{IsRowCount}

-- not even the first ends
pub none_ends : (first each bytes : ℕ) → bytes < first → IsRowCount first each bytes 0
none_ends first each bytes short = record {
  ended = λ row less. absurd (omega (arith, less));
  not_ended = λ some long. omega (arith, short);
}

-- the first, and as many further ones as there are lengths of a row after it; the count stays at the greatest number
pub further_end : (first each bytes behind further most rows : ℕ) → first ≤ bytes → behind ≡ bytes - first → 0 < each → further ≡ behind / each → bytes ≤ most →
    rows ≡ min (further + 1) most → IsRowCount first each bytes rows
further_end first each bytes behind further most rows whole behind_is long further_is fits rows_are =
    let split : further * each + behind % each ≡ behind = rw further_is (div-add-mod' behind each) in
    let over : behind % each < each = mod_below behind each long in
    let least : further * 1 ≤ further * each = mul-le further 1 further each (omega arith) (omega (arith, long)) in
    record {
      ended = λ row less. omega (arith, mul-le row each further each (omega (arith, less, rows_are)) (omega arith), split, whole, behind_is);
      not_ended = λ some same. let all : rows ≡ further + 1 = omega (arith, rows_are, some, least, split, fits, whole, behind_is) in
          rw all (omega (arith, split, over, whole, behind_is));
    }
