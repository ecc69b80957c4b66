use Rattle.std.proofs.Common.{rules, nat_eq}
use Rattle.std.proofs.lemmas.Iterator.Splits.{YieldsList-from_slice_split}
use Rattle.std.proofs.lemmas.Iterator.Search.{any_from_yields_List}
use Rattle.package_tree.specs.Debian.{is_entry}
use Rattle.package_tree.proofs.reading.has_entry.Goals as goal

pub returns : goal.returns
returns c = any_from_yields_List is_entry _ _ _ c.any.ensures.ran (YieldsList-from_slice_split _ (λ b. nat_eq b 10) c.args.text.now c.split.ensures.rest c.split.ensures.done c.split.ensures.closure (λ x b q h. search rules)) (λ x b q h. search rules)
