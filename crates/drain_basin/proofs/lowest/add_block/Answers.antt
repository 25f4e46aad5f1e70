use Rattle.drain_basin.proofs.Names.{◌≡◌, ◌*◌, ◌/◌, ◌%◌, ◌^◌, ℕ, List, cond, max, nat_eq, get_or, slice_set, bit_or, subst, sym, bit_at, low_bit}
use Rattle.drain_basin.proofs.Bits.{low_added}
use Rattle.drain_basin.proofs.lowest.add_block.Goals as goal

pub returns-clause-added : goal.returns-clause-added
returns-clause-added c p =
    let low : List ℕ = c.args.low.now in
    let block : ℕ = c.args.block in
    let bitmap : ℕ = c.args.bitmap in
    subst (λ n. low_bit (slice_set low (block / 4) (bit_or (get_or low (block / 4) 0) (n * 2 ^ (16 * (block % 4)) % 2 ^ 64))) p ≡ cond (nat_eq block (p / 16)) (max (low_bit low p) (bit_at bitmap (p % 16))) (low_bit low p))
    (sym c.from.ensures) (low_added low block bitmap c.requires c.ranges.bitmap.fits p)
