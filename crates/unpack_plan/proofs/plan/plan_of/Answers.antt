use Rattle.std.proofs.Common.{sym, subst}
use Rattle.unpack_plan.specs.Planned.{IsPlanned, Job}
use Rattle.unpack_plan.proofs.Parts.{lists_planned, names_planned, records_planned, rows_planned}
use Rattle.unpack_plan.proofs.plan.plan_of.Goals as goal

pub returns-clause-planned : goal.returns-clause-planned
returns-clause-planned c =
    let p = c.args.incoming in
    let calls = c.in_ok-calls.ensures in
    let files = c.in_ok-files.ensures in
    let job : Job = record {
      «package» = p;
      records = c.args.database.now.records;
      lists = c.args.lists.now.lists;
      begun = c.args.diversions.now.ways;
      ways = c.args.diversions.now.ways;
      stored = c.args.stored;
      others = c.args.others.packages.items;
      yields = c.args.others.yields;
    } in
    subst (IsPlanned job) (sym c.plan_from.ensures.planned) (record {
      records_are = records_planned _ _ _ calls.found p.named c.get-found.ensures calls.incoming calls.fresh;
      rows_are = rows_planned _ _ _ calls.found calls.rows calls.kinds calls.others;
      works_are = record { works_are = files.works; named = files.named; fitting = files.fitting };
      lists_are = lists_planned _ _ _ calls.found files.listed files.listed_paths files.union files.new_list files.leaving files.spares;
      names_are = names_planned _ _ _ calls.found files.names files.elsewhere;
      members_are = files.members;
    })
