use Rattle.std.proofs.Common.{◌∙◌, ap, true}
use Rattle.std.specs.Prelude.{◌||◌}
use Rattle.std.specs.Str.{bytes_eq}
use Rattle.std.specs.BTreeSet.{contains_text}
use Rattle.std.specs.String.{string_bytes}
use Rattle.std.proofs.lemmas.Cmp.{nat_list_eq_equiv}
use Rattle.std.proofs.lemmas.Map.Text.{btree_set_updates_text}
use Rattle.file_check.proofs.Indexing.{joined}
use Rattle.file_check.proofs.index.add.Goals as goal

pub returns : goal.returns
returns c = λ q.
    let key = string_bytes c.in_ok-from_str.field-0 in
    btree_set_updates_text key c.args.set.now c.insert.new.self true c.in_ok-insert.ensures.updates q
    ∙ joined (bytes_eq key q) (contains_text c.args.set.now q)
    ∙ ap (λ b. contains_text c.args.set.now q || b) (nat_list_eq_equiv.symm key q ∙ ap (bytes_eq q) (c.in_ok-from_str.ensures.ok ∙ c.as_str.ensures))
