-- The elevations of numbers of pixels are such numbers, or none.
use Rattle.drain_pixels.proofs.Names.{ℤ, Bool, true, false, Option, Some, None, IfSome, List, All, get_or, if◌then◌else◌, All-map, IsPixel, elevations, height_with, is_void}
use Rattle.drain_pixels.specs.declared.voids.Voids.{Voids}

-- the number, or none
number_or_none : (number : ℤ) (void : Bool) → IsPixel number → IfSome (if void then None else Some number) IsPixel
number_or_none number true is = tt
number_or_none number false is = is

pub each_pixel : (voids : Voids) (numbers : List ℤ) → All IsPixel numbers → All (λ (z : Option ℤ). IfSome z IsPixel) (elevations voids numbers)
each_pixel voids numbers all =
    All-map (λ (z : Option ℤ). IfSome z IsPixel) (height_with voids) numbers
    (λ k d within. number_or_none (get_or numbers k d) (is_void voids (get_or numbers k d)) (all k d within))
