use Rattle.std.proofs.Common.{◌≡◌, [], ◌∷◌, subst, sym}
use Rattle.host_core.specs.Host.{Since}
use Rattle.host_core.proofs.Moments.{since_reads, since_then}
use Rattle.file_removal.specs.Clearing.{IsRetiring}
use Rattle.file_removal.proofs.Clears.{retiring_start}
use Rattle.file_removal.proofs.Lowered.{took_reads, took_then}
use Rattle.file_removal.proofs.clearing.retire_name.Goals as goal

pub returns-in_err-look-clause-any_moment : goal.returns-in_err-look-clause-any_moment
returns-in_err-look-clause-any_moment g c = since_reads _ _ _ c.look.ensures.looks.reads (λ fs all. retiring_start _ _)

pub returns-in_err-look-clause-lowered : goal.returns-in_err-look-clause-lowered
returns-in_err-look-clause-lowered g c = took_reads _ _ c.look.ensures.looks.reads

pub returns-in-Nothing-clause-any_moment : goal.returns-in-Nothing-clause-any_moment
returns-in-Nothing-clause-any_moment g c = since_reads _ _ _ c.look.ensures.looks.reads (λ fs all. retiring_start _ _)

pub returns-in-Nothing-clause-lowered : goal.returns-in-Nothing-clause-lowered
returns-in-Nothing-clause-lowered g c = took_reads _ _ c.look.ensures.looks.reads

pub returns-in-Directory-clause-any_moment : goal.returns-in-Directory-clause-any_moment
returns-in-Directory-clause-any_moment g c = since_reads _ _ _ c.look.ensures.looks.reads (λ fs all. retiring_start _ _)

pub returns-in-Directory-clause-lowered : goal.returns-in-Directory-clause-lowered
returns-in-Directory-clause-lowered g c = took_reads _ _ c.look.ensures.looks.reads

pub returns-in-Loose-clause-any_moment : goal.returns-in-Loose-clause-any_moment
returns-in-Loose-clause-any_moment g c =
    let p = c.args.path.now in
    let mid = g.H.Host.state c.look.new.host in
    let new = g.H.Host.state c.retire.new.host in
    since_then _ _ _ _ (since_reads _ _ _ c.look.ensures.looks.reads (λ fs all. retiring_start _ _))
    (subst (λ w. Since (λ so_far. IsRetiring (p ∷ []) w) mid new) c.look.ensures.looks.reads.world c.retire.ensures.any_moment)

pub returns-in-Loose-clause-lowered : goal.returns-in-Loose-clause-lowered
returns-in-Loose-clause-lowered g c = took_then _ _ _ (took_reads _ _ c.look.ensures.looks.reads) c.retire.ensures.lowered
