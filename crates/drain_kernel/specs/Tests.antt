-- The tests at one cell, on numbers.
use Rattle.std.specs.Prelude.{ℕ, ◌+◌, ◌-◌, ◌*◌, Bool, not, ◌||◌, ◌&&◌, ◌==◌, nat_lt, nat_le, min, max, List, slice_index, if◌then◌else◌}
use Rattle.drain_kernel.specs.Around.{named_in, is_straight_code, is_direction_code, least_straight_in, least_across_in}

-- the conditioned elevation is not below the ground, and no neighbour shows a lower way out
unfoldable pub keeps_surface : ℕ → ℕ → List ℕ → Bool
keeps_surface height con cons = nat_le height con && nat_le con (max height (min (least_straight_in cons) (least_across_in cons)))

-- this drop along a row or a column is at least as steep as that one across a corner
abbrev pub is_as_steep : ℕ → ℕ → Bool
is_as_steep along aslant = nat_le (aslant * aslant) (2 * (along * along))

-- and this one across a corner at least as steep as that one along a row or a column
abbrev pub is_as_steep_across : ℕ → ℕ → Bool
is_as_steep_across aslant along = nat_le (2 * (along * along)) (aslant * aslant)

-- the code leads down the steepest way
unfoldable pub falls_steepest : ℕ → ℕ → List ℕ → Bool
falls_steepest con code cons =
    let next = named_in code cons in
    let straight = least_straight_in cons in
    let across = least_across_in cons in
    nat_lt next con &&
    (((is_straight_code code && next == straight) && is_as_steep (con - straight) (con - across)) ||
    ((not (is_straight_code code) && next == across) && is_as_steep_across (con - across) (con - straight)))

-- no neighbour is lower, and the code leads along the flat
unfoldable pub steps_along : ℕ → ℕ → List ℕ → Bool
steps_along con code cons = named_in code cons == con && nat_le con (min (least_straight_in cons) (least_across_in cons))

-- the rules of the direction, without ranks
unfoldable pub keeps_direction : ℕ → ℕ → List ℕ → Bool
keeps_direction con code cons = is_direction_code code && (falls_steepest con code cons || steps_along con code cons)

-- the rule of the label
abbrev pub keeps_label : ℕ → ℕ → List ℕ → Bool
keeps_label code label labels = named_in code labels == label

-- what a neighbour passes on
abbrev pub passed_on : ℕ → ℕ → ℕ → ℕ
passed_on code back acc = if code == back then acc else 0

-- the rule of the accumulation
unfoldable pub adds_up : ℕ → List ℕ → List ℕ → Bool
adds_up acc codes accs =
    acc == (((passed_on (slice_index codes 0) 16 (slice_index accs 0) + passed_on (slice_index codes 1) 32 (slice_index accs 1)) +
    passed_on (slice_index codes 2) 64 (slice_index accs 2)) + passed_on (slice_index codes 3) 128 (slice_index accs 3)) +
    (((passed_on (slice_index codes 4) 1 (slice_index accs 4) + passed_on (slice_index codes 5) 2 (slice_index accs 5)) +
    passed_on (slice_index codes 6) 4 (slice_index accs 6)) + passed_on (slice_index codes 7) 8 (slice_index accs 7)) + 1

-- the code leads to a smaller conditioned elevation, or to a smaller rank
unfoldable pub is_ranked : ℕ → ℕ → List ℕ → ℕ → List ℕ → Bool
is_ranked con code cons rank ranks = nat_lt (named_in code cons) con || nat_lt (named_in code ranks) rank

-- the same by the lower and the upper halves of ranks
unfoldable pub is_ranked_by_halves : ℕ → ℕ → List ℕ → ℕ → List ℕ → ℕ → List ℕ → Bool
is_ranked_by_halves con code cons low lows high highs =
    (nat_lt (named_in code cons) con || nat_lt (named_in code highs) high) || (named_in code highs == high && nat_lt (named_in code lows) low)
