use Rattle.std.proofs.Common.{map, ap, sym, ◌∙◌, ◌++◌}
use Rattle.status_records.specs.declared.record.Record.{Record}
use Rattle.removal_engine.specs.Stages.{gone_stage, left_stage, planned, purge_stages}
use Rattle.removal_engine.specs.Records.{config_files, goes_at_once}
use Rattle.removal_engine.proofs.Pushed.{goes_on, pushed}
use Rattle.removal_engine.proofs.stages.push_end.Goals as goal

pub returns : goal.returns
returns c =
    let ways = c.args.diversions.now.ways in
    let lists = c.args.administration.now.lists.lists in
    let r = c.args.entry.now in
    let base = c.args.stages.now.items in
    goes_on (map planned base) _ _ (goes_at_once r c.args.stored) c.args.purge (gone_stage r) (left_stage r) (purge_stages ways lists (config_files r) c.args.stored c.args.to_come.now)
    (sym c.goes_at_once.ensures ∙ c.if-goes_at_once.false) c.if-not-purge.false
    (pushed base _ c.in_ok-left_stage.field-0 (left_stage r) c.in_ok-push-2.ensures.items c.in_ok-left_stage.ensures)
    (c.in_ok-push_purge.ensures ∙ ap (λ (x : Record). map planned c.push-2.new.self.items ++ purge_stages ways lists x c.args.stored c.args.to_come.now) c.in_ok-left.ensures)
