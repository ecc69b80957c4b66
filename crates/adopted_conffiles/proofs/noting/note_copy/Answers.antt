use Rattle.std.proofs.Common.{List, ap}
use Rattle.host_core.proofs.Moments.{since_weaker_if}
use Rattle.status_records.specs.Records.{put_record}
use Rattle.status_records.specs.declared.record.Record.{Record}
use Rattle.adopted_conffiles.proofs.Putting.{moments_none, one_put}
use Rattle.adopted_conffiles.proofs.noting.note_copy.Goals as goal

pub returns-in-Ok-clause-any_moment : goal.returns-in-Ok-clause-any_moment
returns-in-Ok-clause-any_moment g c =
    let table = c.args.database.now.records in
    since_weaker_if _ _ _ _ (λ h so_far w noting. one_put c.args.entry.now table _ _ w (ap (λ (r : Record). put_record r table) c.in-Ok.ensures) noting) c.note_record.ensures.any_moment

pub returns-in-Err-clause-any_moment : goal.returns-in-Err-clause-any_moment
returns-in-Err-clause-any_moment g c = moments_none _ c.args.database.now.records c.args.database.now.notes _ c.requires.kept
