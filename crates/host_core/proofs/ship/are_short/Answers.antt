use Rattle.std.proofs.Common.{rules, nat_eq}
use Rattle.std.proofs.lemmas.Iterator.Splits.{YieldsList-from_slice_split}
use Rattle.std.proofs.lemmas.Iterator.Search.{all_from_yields_List}
use Rattle.host_core.specs.Paths.{is_short}
use Rattle.host_core.proofs.ship.are_short.Goals as goal

pub returns : goal.returns
returns c = all_from_yields_List is_short _ _ _ c.all.ensures.ran (YieldsList-from_slice_split _ (λ b. nat_eq b 47) c.args.text.now c.split.ensures.rest c.split.ensures.done c.split.ensures.closure (λ x b q h. search rules)) (λ x b q h. search rules)
