use Rattle.std.proofs.Common.{◌≡◌, List, Option, refl, sym, ap, subst, ◌∙◌}
use Rattle.host_core.specs.Paths.{Path}
use Rattle.status_records.specs.declared.record.Record.{Record}
use Rattle.unpack_plan.specs.Lists.{IsAfter, old_leaving}
use Rattle.unpack_plan.specs.Names.{cleared_names}
use Rattle.unpack_plan.specs.Planned.{IsPlanned, Job, name_of, planned_from}
use Rattle.unpack_plan.proofs.again.plan_again.Goals as goal

pub returns : goal.returns
returns c = λ j works calls commit tree_is at fresh planned.
    let tree = c.args.incoming in
    let lists = c.args.lists.now.lists in
    let ways = c.args.diversions.now.ways in
    let rows = c.args.rows.now in
    let files = c.in_ok-files.ensures in
    let changes = c.in_ok-files.files.changes in
    let contents = c.in_ok-files.files.contents in
    let same : j ≡ record j { «package» = tree; lists = lists } = (λ i. record j { «package» = tree_is i; lists = at i }) in
    let was = subst (λ (x : Job). IsPlanned x (planned_from rows works calls commit)) same planned in
    let here : Job = record j { «package» = tree; lists = lists; ways = ways } in
    let new = planned_from rows contents.works.items calls (record commit { new_list = changes.new_list; leaving = changes.leaving; names = contents.names }) in
    let found = c.as_ref-found.ensures.value in
    let listed : changes.listed ≡ rows.listed = files.listed ∙ sym was.lists_are.listed_is in
    let is : IsPlanned here new = record {
      records_are = record {
        found_is = was.records_are.found_is;
        incoming_is = was.records_are.incoming_is;
        fresh_is = was.records_are.fresh_is;
        named = was.records_are.named;
        own = was.records_are.own;
      };
      rows_are = record { rows_are = was.rows_are.rows_are; kinds_are = was.rows_are.kinds_are; others_are = was.rows_are.others_are };
      works_are = record { works_are = files.works; named = files.named; fitting = files.fitting };
      lists_are = record {
        listed_is = was.lists_are.listed_is;
        listed_paths = was.lists_are.listed_paths;
        union_is = was.lists_are.union_is;
        new_is = subst (λ (r : Record). IsAfter tree.files r changes.new_list) (sym fresh) files.new_list;
        leaving_is = files.leaving ∙ ap (λ (f : Option Record). old_leaving ways lists tree.name f changes.new_list changes.listed) found ∙ ap (λ (l : List Path). old_leaving ways lists tree.name rows.found changes.new_list l) listed;
        spares = files.spares;
      };
      names_are = record {
        names_are = files.names ∙ ap (λ (f : Option Record). cleared_names ways tree.name f tree.conffiles contents.works.items changes.leaving.items) found;
        elsewhere = files.elsewhere;
      };
      members_are = was.members_are;
    } in
    subst (λ (x : Job). IsPlanned (record x { ways = ways }) new) (sym same) is
