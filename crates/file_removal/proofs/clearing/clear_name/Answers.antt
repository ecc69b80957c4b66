use Rattle.host_core.proofs.Moments.{since_reads, since_then}
use Rattle.file_removal.proofs.Visiting.{standing_is}
use Rattle.file_removal.proofs.Clears.{clearing_start, clearing_does}
use Rattle.file_removal.proofs.clearing.clear_name.Goals as goal

pub returns-in_err-look-clause-any_moment : goal.returns-in_err-look-clause-any_moment
returns-in_err-look-clause-any_moment g c = since_reads _ _ _ c.look.ensures.looks.reads (λ fs all. clearing_start _ _)

pub returns-in-Nothing-clause-any_moment : goal.returns-in-Nothing-clause-any_moment
returns-in-Nothing-clause-any_moment g c = since_reads _ _ _ c.look.ensures.looks.reads (λ fs all. clearing_start _ _)

pub returns-in-Directory-clause-any_moment : goal.returns-in-Directory-clause-any_moment
returns-in-Directory-clause-any_moment g c = since_reads _ _ _ c.look.ensures.looks.reads (λ fs all. clearing_start _ _)

pub returns-in-Loose-clause-any_moment : goal.returns-in-Loose-clause-any_moment
returns-in-Loose-clause-any_moment g c =
    let old = (g.H.Host.state c.args.host.now).world in
    since_then _ _ _ _ (since_reads _ _ _ c.look.ensures.looks.reads (λ fs all. clearing_start _ _))
    (clearing_does c.args.path.now old _ _ c.look.ensures.looks.reads.world (λ h. standing_is _ _ (old c.args.path.now) c.in-Loose.is (c.in_ok-look.ensures.looks.found (c.remove.ensures.silent.honest h))) _ c.remove.ensures.does)
