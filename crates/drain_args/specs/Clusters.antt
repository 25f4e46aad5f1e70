-- Arguments of several letters behind one hyphen. Source: the syntax guidelines of POSIX, of which this program uses no group of options.
use Rattle.std.specs.Prelude.{◌==◌, ◌&&◌, ◌||◌, if◌then◌else◌}
use Rattle.drain_args.specs.Names.{ℕ, Bool, not, nat_lt, List, length, Option, Some, None, codes, find, option_and_then, slice_index_or}
use Rattle.std.specs.Str.{bytes_eq}

-- one hyphen, then another byte, and at least one more
abbrev pub is_cluster : List ℕ → Bool
is_cluster word = nat_lt 2 (length word) && (slice_index_or word 0 0 == 45 && not (slice_index_or word 1 0 == 45))

-- behind it no argument is an option, or help or the version is printed
abbrev pub ends_options : List ℕ → Bool
ends_options word = bytes_eq word (codes "--") || (bytes_eq word (codes "-h") || (bytes_eq word (codes "--help")
    || (bytes_eq word (codes "-V") || bytes_eq word (codes "--version"))))

-- the first argument of either kind, if it is of the first
abbrev pub first_cluster : List (List ℕ) → Option (List ℕ)
first_cluster words =
    option_and_then (λ word. if is_cluster word then Some word else None) (find (λ word. is_cluster word || ends_options word) words)
