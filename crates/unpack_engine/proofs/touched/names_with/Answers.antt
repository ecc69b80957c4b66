use Rattle.std.proofs.Common.{◌∙◌, ◌||◌, ◌++◌, true, sym, ap}
use Rattle.std.specs.BTreeSet.{contains_text}
use Rattle.std.specs.Str.{bytes_eq}
use Rattle.std.specs.String.{string_bytes}
use Rattle.std.proofs.lemmas.List.Folds.{list_any-append}
use Rattle.std.proofs.lemmas.Map.Text.{btree_set_updates_text}
use Rattle.status_records.specs.declared.record.Record.{Record}
use Rattle.unpack_engine.specs.Touched.{deconfigured, is_named}
use Rattle.unpack_engine.proofs.Names.{entered}
use Rattle.unpack_engine.proofs.touched.names_with.Goals as goal

pub returns : goal.returns
returns c = λ q.
    let key = string_bytes c.in_ok-from_str.field-0 in
    let records = c.args.records.now in
    let moved = deconfigured c.args.database.now.records c.args.others.now in
    entered q key (contains_text c.insert.new.self q) (contains_text c.add_deconfigured.new.set q) (is_named (records ++ moved) q) c.args.name.now
    (c.in_ok-from_str.ensures.ok ∙ c.as_str.ensures) (btree_set_updates_text key c.add_deconfigured.new.set c.insert.new.self true c.in_ok-insert.ensures.updates q)
    (c.in_ok-add_deconfigured.ensures q ∙ ap (λ b. b || is_named moved q) (c.in_ok-set.ensures q) ∙ sym (list_any-append (λ (r : Record). bytes_eq q r.name) records moved))
