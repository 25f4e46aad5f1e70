-- The flows of all numbers of a byte, number by number.
use Rattle.drain_paths.proofs.Names.{◌≡◌, ◌<◌, ◌+◌, ◌∙◌, ℕ, zero, suc, List, [], ◌∷◌, get_or, ap, arith, Flow, byte_flow, IsByteTable}
use Rattle.drain_paths.specs.declared.flow.Flow.TheVariants.{Void}

-- those of n numbers, from the first on
abbrev pub flows_from : ℕ → ℕ → List Flow
flows_from first zero = []
flows_from first (suc more) = byte_flow first ∷ flows_from (suc first) more

get_or-flows_from : (first many k number : ℕ) → k < many → first + k ≡ number → get_or (flows_from first many) k Void ≡ byte_flow number
get_or-flows_from first zero k number less is = absurd (omega arith)
get_or-flows_from first (suc more) zero number less is =
    let same : first ≡ number = omega arith in
    ap byte_flow same
get_or-flows_from first (suc more) (suc k) number less is = get_or-flows_from (suc first) more k number (omega arith) (omega arith)

pub IsByteTable-listed : (flows : List Flow) → flows ≡ flows_from 0 256 → IsByteTable flows
IsByteTable-listed flows listed number less =
    ap (λ fs. get_or fs number Void) listed ∙ get_or-flows_from 0 256 number number less (omega arith)
