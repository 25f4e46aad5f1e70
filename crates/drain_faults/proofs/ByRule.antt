-- What holds of each rule holds of all.
use Rattle.drain_faults.proofs.Names.{◌≡◌, Bool, arith, Rule, VoidCell, Missing, BadCode, BelowGround, OpenRaised, NoSpill, SpillHeight, SpillRank, NotLeast, Slope, OutletCode, FlatStep, Accumulation, Label, SharedLabel, IsPatchRule, TellsFault, of_rule}
use Rattle.drain_faults.specs.declared.per_rule.PerRule.{PerRule}

pub by_rule : (P : Rule → Type 0) → P VoidCell → P Missing → P BadCode → P BelowGround → P OpenRaised → P NoSpill → P SpillHeight → P SpillRank →
    P NotLeast → P Slope → P OutletCode → P FlatStep → P Accumulation → P Label → P SharedLabel → (r : Rule) → P r
by_rule P a b c d e f g h i j k l m n o VoidCell = a
by_rule P a b c d e f g h i j k l m n o Missing = b
by_rule P a b c d e f g h i j k l m n o BadCode = c
by_rule P a b c d e f g h i j k l m n o BelowGround = d
by_rule P a b c d e f g h i j k l m n o OpenRaised = e
by_rule P a b c d e f g h i j k l m n o NoSpill = f
by_rule P a b c d e f g h i j k l m n o SpillHeight = g
by_rule P a b c d e f g h i j k l m n o SpillRank = h
by_rule P a b c d e f g h i j k l m n o NotLeast = i
by_rule P a b c d e f g h i j k l m n o Slope = j
by_rule P a b c d e f g h i j k l m n o OutletCode = k
by_rule P a b c d e f g h i j k l m n o FlatStep = l
by_rule P a b c d e f g h i j k l m n o Accumulation = m
by_rule P a b c d e f g h i j k l m n o Label = n
by_rule P a b c d e f g h i j k l m n o SharedLabel = o

-- flags that say of each rule of a patch whether it fails
pub tells_each : (P : Rule → Type 0) (flags : PerRule Bool) → TellsFault flags.void_cell (P VoidCell) → TellsFault flags.missing (P Missing) →
    TellsFault flags.bad_code (P BadCode) → TellsFault flags.below_ground (P BelowGround) → TellsFault flags.open_raised (P OpenRaised) →
    TellsFault flags.no_spill (P NoSpill) → TellsFault flags.spill_height (P SpillHeight) → TellsFault flags.spill_rank (P SpillRank) →
    TellsFault flags.not_least (P NotLeast) → TellsFault flags.slope (P Slope) → TellsFault flags.outlet_code (P OutletCode) →
    TellsFault flags.flat_step (P FlatStep) → TellsFault flags.accumulation (P Accumulation) → TellsFault flags.label (P Label) →
    (r : Rule) → IsPatchRule r → TellsFault (of_rule flags r) (P r)
tells_each P flags a b c d e f g h i j k l m n =
    by_rule (λ r. IsPatchRule r → TellsFault (of_rule flags r) (P r)) (λ own. a) (λ own. b) (λ own. c) (λ own. d) (λ own. e) (λ own. f) (λ own. g)
    (λ own. h) (λ own. i) (λ own. j) (λ own. k) (λ own. l) (λ own. m) (λ own. n) (λ own. absurd (omega (arith, own.1)))

-- and with that of SharedLabel, of every rule
pub tells_every : (P : Rule → Type 0) (old new : PerRule Bool) → ((r : Rule) → IsPatchRule r → TellsFault (of_rule old r) (P r)) →
    ((r : Rule) → IsPatchRule r → of_rule new r ≡ of_rule old r) → TellsFault new.shared_label (P SharedLabel) → (r : Rule) → TellsFault (of_rule new r) (P r)
tells_every P old new each others shared =
    by_rule (λ r. TellsFault (of_rule new r) (P r)) (of VoidCell (omega arith, omega arith)) (of Missing (omega arith, omega arith))
    (of BadCode (omega arith, omega arith)) (of BelowGround (omega arith, omega arith)) (of OpenRaised (omega arith, omega arith))
    (of NoSpill (omega arith, omega arith)) (of SpillHeight (omega arith, omega arith)) (of SpillRank (omega arith, omega arith))
    (of NotLeast (omega arith, omega arith)) (of Slope (omega arith, omega arith)) (of OutletCode (omega arith, omega arith))
    (of FlatStep (omega arith, omega arith)) (of Accumulation (omega arith, omega arith)) (of Label (omega arith, omega arith)) shared
  where
    of : (r : Rule) → IsPatchRule r → TellsFault (of_rule new r) (P r)
    of r own = rw (others r own) (each r own)
