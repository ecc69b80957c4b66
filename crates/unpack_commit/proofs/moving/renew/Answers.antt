use Rattle.std.proofs.Common.{OnOk, sym, subst}
use Rattle.host_core.specs.Events.{IsDeniedIn}
use Rattle.host_core.specs.Host.{AtEachMomentOf, WasDenied}
use Rattle.administration.specs.Places.{list_path}
use Rattle.file_lists.specs.Writing.{list_file}
use Rattle.listed_files.specs.Closing.{HasRenewedUnless, MayRenewUnless, SparesAdministration}
use Rattle.unpack_commit.proofs.moving.renew.Goals as goal

pub renew_list-requires-clause-spared : goal.renew_list-requires-clause-spared
renew_list-requires-clause-spared g c = subst SparesAdministration (sym c.as_slice-leaving.ensures.value) c.requires.spared

pub returns-clause-renewed : goal.returns-clause-renewed
returns-clause-renewed g c = λ h.
    subst (λ l. OnOk c.renew_list.result (HasRenewedUnless (WasDenied (g.H.Host.state c.args.host.now) (g.H.Host.state c.renew_list.new.host)) l (list_path c.args.change.now.name) (list_file c.args.new_list) (g.H.Host.state c.args.host.now).world (g.H.Host.state c.renew_list.new.host).world)) c.as_slice-leaving.ensures.value (c.renew_list.ensures.renewed h)

pub returns-clause-any_moment : goal.returns-clause-any_moment
returns-clause-any_moment g c =
    subst (λ l. AtEachMomentOf (λ old so_far now. MayRenewUnless (IsDeniedIn so_far) l (list_path c.args.change.now.name) (list_file c.args.new_list) old now) (g.H.Host.state c.args.host.now) (g.H.Host.state c.renew_list.new.host)) c.as_slice-leaving.ensures.value c.renew_list.ensures.any_moment
