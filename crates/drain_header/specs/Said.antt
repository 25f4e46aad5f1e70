-- The keywords' values by their kinds.
use Rattle.std.specs.Prelude.{ℕ, ℤ, Bool, Option, Some, None, option_and_then, slice_index_or}
use Rattle.drain_header.specs.declared.header.ByteOrdering.{ByteOrdering}
use Rattle.drain_header.specs.declared.key.Key.{Key}
use Rattle.drain_header.specs.declared.value.Value.{Value}
use Rattle.drain_header.specs.declared.value.Value.TheVariants.{Number, Ordering, Signed, Coordinate, Nodata}
use Rattle.drain_header.specs.Lines.{key_order}
use Rattle.drain_header.specs.Reading.{Seen}

-- the whole number that a value is
abbrev pub said_number : Value → Option ℕ
said_number (Number n) = Some n
said_number value = None

-- the order of bytes that a value is
abbrev pub ordering_in : Value → Option ByteOrdering
ordering_in (Ordering order) = Some order
ordering_in value = None

-- whether pixels are signed, if the pixel type is one of the two known words
abbrev pub sign_in : Value → Option Bool
sign_in (Signed signed) = signed
sign_in value = None

-- the coordinate that a value is
abbrev pub coordinate_in : Value → Option ℤ
coordinate_in (Coordinate z) = Some z
coordinate_in value = None

-- the no-data number that a value is
abbrev pub said_nodata : Value → Option ℤ
said_nodata (Nodata z) = Some z
said_nodata value = None

-- the meaning of a keyword's value, if a line has the keyword
abbrev pub said_by : {A : Type 0} → (Value → Option A) → Key → Seen → Option A
said_by kind key seen = option_and_then kind (slice_index_or seen (key_order key) None)
