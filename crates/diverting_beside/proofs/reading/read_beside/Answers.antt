use Rattle.std.proofs.Common.{subst, sym}
use Rattle.host_core.proofs.Moments.{reads_then}
use Rattle.host_overlay.specs.Seen.{seen}
use Rattle.inquiries.specs.Read.{HasFollowed}
use Rattle.opening.specs.declared.open.Opened.{Opened}
use Rattle.diverting_beside.specs.Beside.{IsHeldBeside}
use Rattle.diverting_beside.proofs.reading.read_beside.Goals as goal

pub returns-in-Ok-check_table-clause-held : goal.returns-in-Ok-check_table-clause-held
returns-in-Ok-check_table-clause-held g c =
    let all = c.in-Ok.all in
    subst (λ (o : Opened). IsHeldBeside o.database.records o.lists.lists o.diversions.ways (g.H.Host.state c.check_table.new.host)) (sym c.opened_of.ensures) (
      seen all.shown,
      λ h. subst (HasFollowed all.opened.database.records all.opened.lists.lists all.opened.diversions.ways (seen all.shown)) (sym c.check_table.ensures.reads.world) (c.in-Ok.ensures.held (c.check_table.ensures.reads.honest h)),
    )

pub returns-in-Ok-check_table-clause-reads : goal.returns-in-Ok-check_table-clause-reads
returns-in-Ok-check_table-clause-reads g c = reads_then _ _ _ c.read_followed.ensures.reads c.check_table.ensures.reads

pub returns-in-Err-check_table-clause-reads : goal.returns-in-Err-check_table-clause-reads
returns-in-Err-check_table-clause-reads g c = reads_then _ _ _ c.read_followed.ensures.reads c.check_table.ensures.reads
