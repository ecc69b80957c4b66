use Rattle.std.proofs.Common.{◌==◌, List, ℕ, length, not, rules, refl}
use Rattle.std.proofs.lemmas.Iterator.Consumers.{map_from_collect, YieldsList-from_filter}
use Rattle.std.proofs.lemmas.Iterator.Splits.{YieldsList-from_slice_split}
use Rattle.control_fields.specs.Names.{is_blank}
use Rattle.trigger_journal.proofs.requests.words_in.Goals as goal

pub returns : goal.returns
returns c = map_from_collect _ c.collect.ensures.ran
    (YieldsList-from_filter _ (λ (word : List ℕ). not (length word == 0))
    (YieldsList-from_slice_split _ is_blank c.args.line.now (search rules) (search rules) refl (λ x b q k. search rules)) c.filter.ensures.closure (λ x b q k. search rules))
