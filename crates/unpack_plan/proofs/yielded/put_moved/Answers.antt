use Rattle.std.proofs.Common.{◌∙◌, sym, ap, option_copied}
use Rattle.status_records.specs.ConffilePaths.{placed_by}
use Rattle.status_records.specs.Conffiles.{has_entry}
use Rattle.status_records.specs.declared.entries.ConffileEntry.{ConffileEntry}
use Rattle.unpack_plan.specs.Yielded.{put_moved}
use Rattle.unpack_plan.proofs.yielded.put_moved.Goals as goal

pub put-requires : goal.put-requires
put-requires c = ap (λ (e : ConffileEntry). has_entry c.args.entries.now e.path) c.in_ok-moved_entry.ensures ∙ c.requires

pub returns : goal.returns
returns c =
    c.in_ok-put.ensures.ok ∙ ap (λ e. placed_by (λ (x : ConffileEntry). x.path) e c.args.entries.now) c.in_ok-moved_entry.ensures
    ∙ ap (λ o. put_moved c.args.digest.now c.args.entries.now (option_copied o)) (sym c.in-Some.is)
