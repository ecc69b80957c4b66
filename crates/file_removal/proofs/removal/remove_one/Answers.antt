use Rattle.std.proofs.Common.{inl, inr, subst, ◌≡◌, ◌⊎◌, None, rules}
use Rattle.host_core.specs.World.{IsBare, IsLoose, IsDirectory, put}
use Rattle.host_core.specs.Host.{Counts, WasDenied}
use Rattle.host_core.proofs.Moments.{since_reads, since_then, reads_then}
use Rattle.host_core.proofs.Denials.{denied_later_reads}
use Rattle.file_removal.proofs.Visiting.{standing_is, visiting_start, retiring_moments, retired_visited, taking_moments, taken_visited, reads_undeclined, on_ok}
use Rattle.file_removal.proofs.Lowered.{took_start, took_reads, took_then}
use Rattle.file_removal.proofs.removal.remove_one.Goals as goal

pub returns-in_err-look-clause-any_moment : goal.returns-in_err-look-clause-any_moment
returns-in_err-look-clause-any_moment g c = since_reads _ _ _ c.look.ensures.looks.reads (λ fs all. visiting_start _ _ _)

pub returns-in-Nothing-clause-any_moment : goal.returns-in-Nothing-clause-any_moment
returns-in-Nothing-clause-any_moment g c = since_reads _ _ _ c.look.ensures.looks.reads (λ fs all. visiting_start _ _ _)

pub returns-then-directories_only-clause-any_moment : goal.returns-then-directories_only-clause-any_moment
returns-then-directories_only-clause-any_moment g c = since_reads _ _ _ c.look.ensures.looks.reads (λ fs all. visiting_start _ _ _)

pub returns-else-directories_only-clause-any_moment : goal.returns-else-directories_only-clause-any_moment
returns-else-directories_only-clause-any_moment g c =
    let x = c.args.leaving.now in
    let old = (g.H.Host.state c.args.host.now).world in
    since_then _ _ _ _ (since_reads _ _ _ c.look.ensures.looks.reads (λ fs all. visiting_start _ _ _))
    (retiring_moments c.args.directories_only x old _ _ c.look.ensures.looks.reads.world
    (λ h. let loose = standing_is _ _ (old x.place) c.in-Loose.is (c.in_ok-look.ensures.looks.found (c.retire.ensures.silent.honest h)) in
    ((c.if-not-leaving.false, inl (c.if-directories_only.false, loose)), loose))
    c.retire.ensures.any_moment)

pub returns-in_err-is_bare-in-Directory-clause-any_moment : goal.returns-in_err-is_bare-in-Directory-clause-any_moment
returns-in_err-is_bare-in-Directory-clause-any_moment g c = since_reads _ _ _ (reads_then _ _ _ c.look.ensures.looks.reads c.is_bare.ensures.looks.reads) (λ fs all. visiting_start _ _ _)

pub returns-then-not-branch-clause-any_moment : goal.returns-then-not-branch-clause-any_moment
returns-then-not-branch-clause-any_moment g c = since_reads _ _ _ (reads_then _ _ _ c.look.ensures.looks.reads c.is_bare.ensures.looks.reads) (λ fs all. visiting_start _ _ _)

pub returns-else-not-branch-clause-any_moment : goal.returns-else-not-branch-clause-any_moment
returns-else-not-branch-clause-any_moment g c =
    let x = c.args.leaving.now in
    let old = (g.H.Host.state c.args.host.now).world in
    let reads = reads_then _ _ _ c.look.ensures.looks.reads c.is_bare.ensures.looks.reads in
    since_then _ _ _ _ (since_reads _ _ _ reads (λ fs all. visiting_start _ _ _))
    (taking_moments c.args.directories_only x old _ _ reads.world
    (λ h.
    let bare_told = c.remove_directory.ensures.silent.honest h in (
      c.if-not-leaving.false,
      inr (
        standing_is _ _ (old x.place) c.in-Directory.is (c.in_ok-look.ensures.looks.found (c.is_bare.ensures.looks.silent.honest bare_told)),
        subst (λ w. IsBare w x.place) c.look.ensures.looks.reads.world ((c.in_ok-is_bare-in-Directory.ensures.looks.found bare_told).0 c.if-not-branch.false),
      ),
    ))
    c.remove_directory.ensures.any_moment)

pub returns-else-not-branch-clause-visited : goal.returns-else-not-branch-clause-visited
returns-else-not-branch-clause-visited g c = λ h.
    let x = c.args.leaving.now in
    let old = g.H.Host.state c.args.host.now in
    let mid = g.H.Host.state c.is_bare.new.host in
    let new = g.H.Host.state c.remove_directory.new.host in
    let reads = reads_then _ _ _ c.look.ensures.looks.reads c.is_bare.ensures.looks.reads in
    let told = c.remove_directory.ensures.silent.honest h in
    let is_directory = standing_is _ _ (old.world x.place) c.in-Directory.is (c.in_ok-look.ensures.looks.found (c.is_bare.ensures.looks.silent.honest told)) in
    let bare = subst (λ w. IsBare w x.place) c.look.ensures.looks.reads.world ((c.in_ok-is_bare-in-Directory.ensures.looks.found told).0 c.if-not-branch.false) in
    on_ok c.remove_directory.result _ _
    (λ gone. taken_visited c.args.directories_only x (WasDenied old new) old.world new.world (c.if-not-leaving.false, inr (is_directory, bare)) is_directory
    (subst (λ w. (new.world ≡ put w x.place None) ⊎ ((new.world ≡ w) × WasDenied old new x.place)) reads.world
    (elim gone [ inl taken ↦ inl taken | inr stays ↦ inr (stays.0, denied_later_reads old mid new x.place reads stays.1) ])))
    (c.remove_directory.ensures.gone h)

pub returns-then-not-leaving-clause-lowered : goal.returns-then-not-leaving-clause-lowered
returns-then-not-leaving-clause-lowered g c = took_start _

pub returns-in_err-look-clause-lowered : goal.returns-in_err-look-clause-lowered
returns-in_err-look-clause-lowered g c = took_reads _ _ c.look.ensures.looks.reads

pub returns-in-Nothing-clause-lowered : goal.returns-in-Nothing-clause-lowered
returns-in-Nothing-clause-lowered g c = took_reads _ _ c.look.ensures.looks.reads

pub returns-then-directories_only-clause-lowered : goal.returns-then-directories_only-clause-lowered
returns-then-directories_only-clause-lowered g c = took_reads _ _ c.look.ensures.looks.reads

pub returns-else-directories_only-clause-lowered : goal.returns-else-directories_only-clause-lowered
returns-else-directories_only-clause-lowered g c = took_then _ _ _ (took_reads _ _ c.look.ensures.looks.reads) c.retire.ensures.lowered

pub returns-in_err-is_bare-in-Directory-clause-lowered : goal.returns-in_err-is_bare-in-Directory-clause-lowered
returns-in_err-is_bare-in-Directory-clause-lowered g c = took_reads _ _ (reads_then _ _ _ c.look.ensures.looks.reads c.is_bare.ensures.looks.reads)

pub returns-then-not-branch-clause-lowered : goal.returns-then-not-branch-clause-lowered
returns-then-not-branch-clause-lowered g c = took_reads _ _ (reads_then _ _ _ c.look.ensures.looks.reads c.is_bare.ensures.looks.reads)

pub returns-else-not-branch-clause-lowered : goal.returns-else-not-branch-clause-lowered
returns-else-not-branch-clause-lowered g c = took_then _ _ _ (took_reads _ _ (reads_then _ _ _ c.look.ensures.looks.reads c.is_bare.ensures.looks.reads)) c.remove_directory.ensures.lowered

pub returns-in_err-look-clause-declined : goal.returns-in_err-look-clause-declined
returns-in_err-look-clause-declined g c = λ is.
    let counts : Counts (g.H.Host.state c.args.host.now) (g.H.Host.state c.look.new.host) c.from_residual.result = search rules in
    absurd (reads_undeclined c.from_residual.result _ _ c.look.ensures.looks.reads counts is)

pub returns-in_err-is_bare-in-Directory-clause-declined : goal.returns-in_err-is_bare-in-Directory-clause-declined
returns-in_err-is_bare-in-Directory-clause-declined g c = λ is.
    let counts : Counts (g.H.Host.state c.look.new.host) (g.H.Host.state c.is_bare.new.host) c.from_residual-in_err-is_bare-in-Directory.result = search rules in
    absurd (reads_undeclined c.from_residual-in_err-is_bare-in-Directory.result _ _ c.is_bare.ensures.looks.reads counts is)

pub returns-else-directories_only-clause-declined : goal.returns-else-directories_only-clause-declined
returns-else-directories_only-clause-declined g c = λ is.
    let x = c.args.leaving.now in
    let old = g.H.Host.state c.args.host.now in (
      c.if-directories_only.false,
      λ h. (
        x.place,
        standing_is _ _ (old.world x.place) c.in-Loose.is (c.in_ok-look.ensures.looks.found (c.retire.ensures.silent.honest h)),
        denied_later_reads old (g.H.Host.state c.look.new.host) (g.H.Host.state c.retire.new.host) x.place c.look.ensures.looks.reads (c.retire.ensures.declined is),
      ),
    )
