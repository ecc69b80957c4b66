use Rattle.std.proofs.Common.{ap, subst, sym, ◌∙◌, ◌++◌, codes}
use Rattle.host_core.specs.Paths.{Path}
use Rattle.host_core.specs.World.{HasParent}
use Rattle.administration.specs.Places.{temporary}
use Rattle.trigger_journal.proofs.Steps.{all_written, directory_parent, disk_since, journal_parent, looked_since, made_since, made_there, replaced_since, taken_by, unmade_by}
use Rattle.trigger_journal.proofs.writing.write_text.Goals as goal

pub make_directory-requires : goal.make_directory-requires
make_directory-requires g c = record {
  parent = λ h. subst (HasParent (g.H.Host.state c.args.host.now).world) (sym c.in_ok-directory.ensures) (directory_parent _ (c.requires.home h));
}

pub returns-in_err-make_directory-clause-any_moment : goal.returns-in_err-make_directory-clause-any_moment
returns-in_err-make_directory-clause-any_moment g c = made_since _ _ _ _ c.in_ok-directory.ensures c.make_directory.ensures.any_moment

pub returns-then-not-branch-clause-written : goal.returns-then-not-branch-clause-written
returns-then-not-branch-clause-written g c = λ h.
    unmade_by (g.H.Host.state c.args.host.now) (g.H.Host.state c.make_directory.new.host) _ _ c.in_ok-directory.ensures c.if-not-branch.true (c.in_ok-make_directory.ensures.made h) c.make_directory.ensures.any_moment h

pub returns-then-not-branch-clause-any_moment : goal.returns-then-not-branch-clause-any_moment
returns-then-not-branch-clause-any_moment g c = made_since _ _ _ _ c.in_ok-directory.ensures c.make_directory.ensures.any_moment

pub returns-in_err-is_taken-clause-any_moment : goal.returns-in_err-is_taken-clause-any_moment
returns-in_err-is_taken-clause-any_moment g c = looked_since _ _ _ _ (made_since _ _ _ _ c.in_ok-directory.ensures c.make_directory.ensures.any_moment) c.is_taken.ensures.looks.reads

pub returns-then-branch-clause-written : goal.returns-then-branch-clause-written
returns-then-branch-clause-written g c = λ h.
    taken_by (g.H.Host.state c.args.host.now) (g.H.Host.state c.make_directory.new.host) (g.H.Host.state c.is_taken.new.host) _ _ _ _ c.in_ok-directory.ensures c.in_ok-path.ensures
    (c.in_ok-spare.ensures ∙ ap (λ (p : Path). temporary p) c.in_ok-path.ensures) c.if-branch.true
    (c.in_ok-is_taken.ensures.looks.found h) c.make_directory.ensures.any_moment c.is_taken.ensures.looks.reads h

pub returns-then-branch-clause-any_moment : goal.returns-then-branch-clause-any_moment
returns-then-branch-clause-any_moment g c = looked_since _ _ _ _ (made_since _ _ _ _ c.in_ok-directory.ensures c.make_directory.ensures.any_moment) c.is_taken.ensures.looks.reads

pub replace-requires-clause-parent : goal.replace-requires-clause-parent
replace-requires-clause-parent g c = λ h.
    let made = g.H.Host.state c.make_directory.new.host in
    let there = made_there (g.H.Host.state c.args.host.now) made _ _ c.in_ok-directory.ensures c.if-not-branch.false (c.in_ok-make_directory.ensures.made (c.is_taken.ensures.looks.reads.honest h)) in
    subst (λ w. HasParent w c.in_ok-path.path) (sym c.is_taken.ensures.looks.reads.world)
    (subst (HasParent made.world) (sym c.in_ok-path.ensures) (journal_parent made.world there))

pub returns-in_err-replace-clause-any_moment : goal.returns-in_err-replace-clause-any_moment
returns-in_err-replace-clause-any_moment g c =
    replaced_since _ _ _ _ _ _ c.in_ok-path.ensures c.journal_file-node.ensures c.replace.ensures.silent.honest
    (looked_since _ _ _ _ (made_since _ _ _ _ c.in_ok-directory.ensures c.make_directory.ensures.any_moment) c.is_taken.ensures.looks.reads) c.replace.ensures.any_moment

pub returns-in_err-barrier-clause-any_moment : goal.returns-in_err-barrier-clause-any_moment
returns-in_err-barrier-clause-any_moment g c =
    disk_since _ c.barrier.result _ _ _
    (replaced_since _ _ _ _ _ _ c.in_ok-path.ensures c.journal_file-node.ensures c.replace.ensures.silent.honest
    (looked_since _ _ _ _ (made_since _ _ _ _ c.in_ok-directory.ensures c.make_directory.ensures.any_moment) c.is_taken.ensures.looks.reads) c.replace.ensures.any_moment) c.barrier.ensures.does

pub returns-clause-written : goal.returns-clause-written
returns-clause-written g c = λ h.
    all_written _ (g.H.Host.state c.args.host.now) (g.H.Host.state c.is_taken.new.host) (g.H.Host.state c.replace.new.host) (g.H.Host.state c.barrier.new.self) _ _ c.barrier.result c.in_ok-path.ensures c.journal_file-node.ensures
    (looked_since _ _ _ _ (made_since _ _ _ _ c.in_ok-directory.ensures c.make_directory.ensures.any_moment) c.is_taken.ensures.looks.reads)
    c.replace.ensures.silent.honest c.barrier.ensures.silent.honest (λ honest. c.in_ok-replace.ensures.replaced honest) c.barrier.ensures.does h

pub returns-clause-any_moment : goal.returns-clause-any_moment
returns-clause-any_moment g c =
    disk_since _ c.barrier.result _ _ _
    (replaced_since _ _ _ _ _ _ c.in_ok-path.ensures c.journal_file-node.ensures c.replace.ensures.silent.honest
    (looked_since _ _ _ _ (made_since _ _ _ _ c.in_ok-directory.ensures c.make_directory.ensures.any_moment) c.is_taken.ensures.looks.reads) c.replace.ensures.any_moment) c.barrier.ensures.does
