use Rattle.std.proofs.Common.{false, sym, ap, subst, ◌∙◌}
use Rattle.administration.specs.Files.{IsDropped, NoDirectory}
use Rattle.administration.specs.Places.{list_path}
use Rattle.administration.proofs.NamePaths.{list_is_path}
use Rattle.administration.proofs.WholeFiles.{no_directory_at}
use Rattle.control_members.specs.Stored.{AreMemberNames, AreStoredNames, IsMembersReady, goes}
use Rattle.control_members.proofs.Apart.{no_list}
use Rattle.package_files.proofs.WriteMoments.{on_ok}
use Rattle.unpack_steps.specs.Clearing.{IsCleared}
use Rattle.unpack_steps.proofs.Leftovers.{clears, since_dropping, since_looked, since_taking}
use Rattle.unpack_steps.proofs.clearing.clear_name.Goals as goal

pub returns-in_err-names-clause-any_moment : goal.returns-in_err-names-clause-any_moment
returns-in_err-names-clause-any_moment g c = since_looked c.args.name.now _ _ c.stored_names.ensures.looks.reads

pub discard_members-requires-clause-members : goal.discard_members-requires-clause-members
discard_members-requires-clause-members g c = subst AreMemberNames (sym c.as_slice.ensures) c.in_ok-names.ensures.members

pub discard_members-requires-clause-ready : goal.discard_members-requires-clause-ready
discard_members-requires-clause-ready g c = λ h. subst (IsMembersReady c.args.name.now) (sym c.stored_names.ensures.looks.reads.world) (c.requires.members (c.stored_names.ensures.looks.reads.honest h))

pub returns-in_err-discard_members-clause-any_moment : goal.returns-in_err-discard_members-clause-any_moment
returns-in_err-discard_members-clause-any_moment g c = since_taking c.args.name.now _ _ c.stored_names.ensures.looks.reads (goes c.as_slice.result.now false) _ c.discard_members.ensures.any_moment

pub list_path-requires : goal.list_path-requires
list_path-requires g c = list_is_path c.args.name.now c.requires.named

pub returns-in_err-path-clause-any_moment : goal.returns-in_err-path-clause-any_moment
returns-in_err-path-clause-any_moment g c = since_taking c.args.name.now _ _ c.stored_names.ensures.looks.reads (goes c.as_slice.result.now false) _ c.discard_members.ensures.any_moment

pub discard-requires : goal.discard-requires
discard-requires g c = λ h.
    let name = c.args.name.now in
    let w = (g.H.Host.state c.discard_members.new.host).world in
    let h1 = c.discard_members.ensures.silent.honest h in
    let ready = c.requires.list (c.stored_names.ensures.looks.reads.honest h1) in
    no_directory_at (w c.in_ok-path.path) ((g.H.Host.state c.stored_names.new.host).world (list_path name))
    (ap w c.in_ok-path.ensures ∙ (c.in_ok-discard_members.ensures.taken h).rest (list_path name) (λ member is e. no_list name name member is (sym e)))
    (subst (λ v. NoDirectory (v (list_path name))) (sym c.stored_names.ensures.looks.reads.world) ready.target)

pub returns-clause-cleared : goal.returns-clause-cleared
returns-clause-cleared g c = λ h.
    let h2 = c.discard.ensures.silent.honest h in
    let h1 = c.discard_members.ensures.silent.honest h2 in
    on_ok c.discard.result (IsDropped c.in_ok-path.path (g.H.Host.state c.discard_members.new.host).world (g.H.Host.state c.discard.new.host).world)
    (IsCleared c.args.name.now (g.H.Host.state c.args.host.now).world (g.H.Host.state c.discard.new.host).world)
    (λ dropped. clears c.args.name.now (g.H.Host.state c.args.host.now) (g.H.Host.state c.stored_names.new.host) c.stored_names.ensures.looks.reads c.as_slice.result.now (g.H.Host.state c.discard_members.new.host) (g.H.Host.state c.discard.new.host) c.in_ok-path.path
    (subst (λ names. AreStoredNames (g.H.Host.state c.args.host.now).world c.args.name.now names) (sym c.as_slice.ensures) (c.in_ok-names.ensures.looks.found h1)) (c.in_ok-discard_members.ensures.taken h2) c.in_ok-path.ensures dropped)
    (c.discard.ensures.dropped h)

pub returns-clause-any_moment : goal.returns-clause-any_moment
returns-clause-any_moment g c =
    since_dropping c.args.name.now _ _ c.stored_names.ensures.looks.reads (goes c.as_slice.result.now false) _ _ c.in_ok-path.path c.discard_members.ensures.any_moment c.in_ok-discard_members.ensures.taken c.in_ok-path.ensures c.discard.ensures.any_moment
