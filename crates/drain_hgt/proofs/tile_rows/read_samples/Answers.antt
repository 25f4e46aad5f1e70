use Rattle.drain_hgt.proofs.Names.{length, ap, ◌∙◌, IsSample, grown, lent_back}
use Rattle.std.proofs.lemmas.List.Elements.{All-same}
use Rattle.drain_hgt.proofs.tile_rows.read_samples.Goals as goal

pub returns-clause-counted : goal.returns-clause-counted
returns-clause-counted g c =
    ap length (lent_back c.deref_mut.ensures.value c.deref_mut.ensures.len c.put_samples.auto.out)
    ∙ c.put_samples.auto.out ∙ c.deref_mut.ensures.len ∙ grown _ c.resize.ensures.len c.is_err.ensures.negation c.if-is_err.false

pub returns-clause-samples : goal.returns-clause-samples
returns-clause-samples g c =
    All-same IsSample _ c.put_samples.new.out (lent_back c.deref_mut.ensures.value c.deref_mut.ensures.len c.put_samples.auto.out) c.put_samples.ensures.samples
