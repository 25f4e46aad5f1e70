-- That a raster fits a header is one fact at most: so a type can say it of its fields.
use Rattle.std.proofs.Common.{◌≡◌, ℤ, ℕ, pos, Bool, inl, inr, ap, arith}
use Rattle.std.proofs.Props.{props}
use Rattle.std.proofs.lemmas.Int.{ints}
use Rattle.drain_maker.specs.Names.{IsFloatNumber, IsSingle, HeightKind, Whole, Single, Pixels, Fields, CanSpellAs}
use Rattle.drain_maker.specs.ProductFiles.{FitsHeader}

float_prop : (n : ℤ) → IsProp (IsFloatNumber n)
float_prop n (inl a) (inl b) = let p : IsProp (IsSingle n) = hlevel props in ap inl (p a b)
float_prop n (inr a) (inr b) = let p : IsProp (n ≡ pos 2143289344) = hlevel props in ap inr (p a b)
float_prop n (inl a) (inr b) = absurd (let high = a.high in omega (arith, ints, high, b))
float_prop n (inr a) (inl b) = absurd (let high = b.high in omega (arith, ints, high, a))

spelled_prop : (kind : HeightKind) (signed : Bool) (bits : ℕ) (n : ℤ) → IsProp (CanSpellAs kind signed bits n)
spelled_prop Whole signed bits n = hlevel props
spelled_prop Single signed bits n = float_prop n

pub fits_prop : (h : Fields) (p : Pixels) → IsProp (FitsHeader h p)
fits_prop h p = hlevel (props, spelled_prop)
