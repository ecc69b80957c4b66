use Rattle.std.proofs.Common.{◌≤◌, ◌||◌, ◌∙◌, List, true, length, ap, arith}
use Rattle.std.specs.BTreeSet.{contains_text}
use Rattle.std.specs.String.{string_bytes}
use Rattle.std.proofs.lemmas.List.{take_all}
use Rattle.std.proofs.lemmas.Map.Text.{btree_set_updates_text}
use Rattle.host_core.specs.Paths.{Path}
use Rattle.name_sets.specs.Names.{is_among}
use Rattle.dpkg_session.proofs.Touching.{name_entered}
use Rattle.dpkg_session.proofs.tellings.add_all.Goals as goal

pub loop-name-preserved : goal.loop-name-preserved
loop-name-preserved c = λ q.
    let key = string_bytes c.in_ok-from_str.field-0 in
    name_entered c.args.names.now c.loop-name.name-index c.name-item.result key q (contains_text c.insert.new.self q) (contains_text c.loop-name.set q) (contains_text c.args.set.now q)
    c.loop-name-test.true c.name-item.is (c.in_ok-from_str.ensures.ok ∙ c.as_str.ensures) (btree_set_updates_text key c.loop-name.set c.insert.new.self true c.in_ok-insert.ensures.updates q) (c.loop-name.invariant q)

pub returns : goal.returns
returns c = λ q.
    let end : length c.args.names.now ≤ c.loop-name.name-index = omega (arith, c.loop-name-test.false) in
    c.loop-name.invariant q ∙ ap (λ (l : List Path). contains_text c.args.set.now q || is_among l q) (take_all c.loop-name.name-index c.args.names.now end)
