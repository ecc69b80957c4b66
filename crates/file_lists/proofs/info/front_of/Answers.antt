use Rattle.std.proofs.lemmas.Slice.Eq.{strip_suffix_is}
use Rattle.std.proofs.lemmas.Bool.Decides.{Decides-eqb}
use Rattle.file_lists.proofs.Entries.{suffix_some, suffix_none}
use Rattle.file_lists.proofs.info.front_of.Goals as goal

pub returns : goal.returns
returns c =
    let is = strip_suffix_is Decides-eqb c.args.entry.now c.as_bytes.result.now c.strip_suffix.result c.strip_suffix.ensures.cases in
    record { some = suffix_some c.strip_suffix.result _ _ _ c.as_bytes.ensures.value is; none = suffix_none c.strip_suffix.result _ _ _ c.as_bytes.ensures.value is }
