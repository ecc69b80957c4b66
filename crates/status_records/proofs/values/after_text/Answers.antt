use Rattle.std.proofs.lemmas.Slice.Eq.{strip_prefix_is}
use Rattle.std.proofs.lemmas.Bool.Decides.{Decides-eqb}
use Rattle.status_records.proofs.Parsing.{prefix_some, prefix_none}
use Rattle.status_records.proofs.values.after_text.Goals as goal

pub returns : goal.returns
returns c =
    let is = strip_prefix_is Decides-eqb c.args.bytes.now c.as_bytes.result.now c.strip_prefix.result c.strip_prefix.ensures.cases in
    record { some = prefix_some c.strip_prefix.result _ _ _ c.as_bytes.ensures.value is; none = prefix_none c.strip_prefix.result _ _ _ c.as_bytes.ensures.value is }
