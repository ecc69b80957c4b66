use Rattle.std.proofs.Common.{inl, inr, false, ◌++◌}
use Rattle.host_core.specs.Events.{IsDeniedIn}
use Rattle.host_core.specs.Host.{WasDenied}
use Rattle.host_core.proofs.Denials.{denied_first_since}
use Rattle.host_core.proofs.Moments.{grown, since_barrier, since_weaker}
use Rattle.administration.specs.Files.{IsReplacing}
use Rattle.administration.specs.Places.{list_path}
use Rattle.file_lists.specs.Writing.{list_file}
use Rattle.file_removal.specs.Removal.{IsRemoving}
use Rattle.file_removal.proofs.Leavings.{unless_wider}
use Rattle.file_removal.proofs.Removing.{removing_start}
use Rattle.package_files.proofs.WriteMoments.{on_ok}
use Rattle.listed_files.specs.Closing.{MayRenewUnless}
use Rattle.listed_files.proofs.Denying.{barrier_removed, barrier_removing, began, denied_here, on_ok_so, then_at_each_of}
use Rattle.listed_files.proofs.Closings.{ready_removed}
use Rattle.listed_files.proofs.closing.renew_list.Goals as goal

pub returns-in_err-barrier-clause-any_moment : goal.returns-in_err-barrier-clause-any_moment
returns-in_err-barrier-clause-any_moment g c =
    let old = g.H.Host.state c.args.host.now in
    let leaving = c.args.leaving.now in
    since_weaker _ _ _ _ (λ so_far now is. inl is) (since_barrier (IsRemoving leaving old.world) c.barrier.result old (g.H.Host.state c.barrier.new.self) c.barrier.ensures.does (λ h. removing_start false leaving old.world))

pub returns-in_err-remove_owned-clause-any_moment : goal.returns-in_err-remove_owned-clause-any_moment
returns-in_err-remove_owned-clause-any_moment g c =
    since_weaker _ _ _ _ (λ so_far now is. inl is) (barrier_removing c.args.leaving.now (g.H.Host.state c.args.host.now) (g.H.Host.state c.barrier.new.self) (g.H.Host.state c.remove_owned.new.host) c.in_ok-barrier.ensures.does c.remove_owned.ensures.any_moment)

pub replace_list-requires-clause-ready : goal.replace_list-requires-clause-ready
replace_list-requires-clause-ready g c = λ h.
    let old = g.H.Host.state c.args.host.now in
    let mid = g.H.Host.state c.remove_owned.new.host in
    ready_removed (WasDenied old mid) c.args.name.now c.args.leaving.now old.world mid.world c.requires.spared
    (barrier_removed c.args.leaving.now old (g.H.Host.state c.barrier.new.self) mid c.in_ok-barrier.ensures.does (c.in_ok-remove_owned.ensures.removed h)) (c.requires.ready (c.barrier.ensures.silent.honest (c.remove_owned.ensures.silent.honest h)))

pub returns-clause-renewed : goal.returns-clause-renewed
returns-clause-renewed g c = λ h.
    let old = g.H.Host.state c.args.host.now in
    let mid = g.H.Host.state c.remove_owned.new.host in
    let new = g.H.Host.state c.replace_list.new.host in
    on_ok c.replace_list.result _ _ (λ is. record {
      mid = _;
      removed = unless_wider (WasDenied old mid) (WasDenied old new) false c.args.leaving.now old.world mid.world
          (λ p denied. denied_first_since _ old mid new p denied c.replace_list.ensures.any_moment)
          (barrier_removed c.args.leaving.now old (g.H.Host.state c.barrier.new.self) mid c.in_ok-barrier.ensures.does (c.in_ok-remove_owned.ensures.removed (c.replace_list.ensures.silent.honest h)));
      replaced = is;
    }) (c.replace_list.ensures.replaced h)

pub returns-clause-first : goal.returns-clause-first
returns-clause-first g c =
    let old = g.H.Host.state c.args.host.now in
    let begun = g.H.Host.state c.barrier.new.self in
    let mid = g.H.Host.state c.remove_owned.new.host in
    let new = g.H.Host.state c.replace_list.new.host in
    let removed = c.remove_owned.ensures.any_moment in
    let replaced = c.replace_list.ensures.any_moment in
    on_ok_so c.replace_list.result _ (began c.args.leaving.now old begun mid c.in_ok-barrier.ensures.does (removed.added ++ replaced.added) new (grown begun.events mid.events new.events removed.added replaced.added removed.events replaced.events))

pub returns-clause-any_moment : goal.returns-clause-any_moment
returns-clause-any_moment g c =
    let list = list_path c.args.name.now in
    let node = list_file c.args.shipped in
    let leaving = c.args.leaving.now in
    let old = g.H.Host.state c.args.host.now in
    let begun = g.H.Host.state c.barrier.new.self in
    let mid = g.H.Host.state c.remove_owned.new.host in
    let new = g.H.Host.state c.replace_list.new.host in
    then_at_each_of (IsRemoving leaving) (IsReplacing list node) (λ old so_far now. MayRenewUnless (IsDeniedIn so_far) leaving list node old now) old mid new (λ so_far now is. inl is)
    (λ h added later now events is. inr (
      mid.world,
      unless_wider (WasDenied old mid) (IsDeniedIn (added ++ later)) false leaving old.world mid.world (λ p denied. denied_here old mid added later p events denied)
          (barrier_removed leaving old begun mid c.in_ok-barrier.ensures.does (c.in_ok-remove_owned.ensures.removed (c.replace_list.ensures.silent.honest h))),
      is,
    )) (barrier_removing leaving old begun mid c.in_ok-barrier.ensures.does c.remove_owned.ensures.any_moment) c.replace_list.ensures.any_moment
