use Rattle.std.proofs.Common.{◌≡◌}
use Rattle.host_core.proofs.Moments.{since_then, since_weaker, since_weaker_if}
use Rattle.administration.specs.Files.{KeepsBeside}
use Rattle.package_files.specs.Steps.{IsCleared, AreCleared, KeepsBesideSpares}
use Rattle.package_files.proofs.WorkNames.{named_apart}
use Rattle.package_files.proofs.OnePath.{cleared_both, keeps_first, keeps_second}
use Rattle.package_files.proofs.WriteMoments.{on_ok}
use Rattle.package_files.specs.Steps.{HasBegun}
use Rattle.package_files.proofs.Tried.{begun_clearing, on_declined}
use Rattle.package_files.proofs.clearing.clear_spares.Goals as goal

pub returns-in_err-clear_name-clause-any_moment : goal.returns-in_err-clear_name-clause-any_moment
returns-in_err-clear_name-clause-any_moment g c =
    let old = g.H.Host.state c.args.host.now in
    let x = c.args.work.now in
    since_weaker (λ so_far. KeepsBeside x.fresh old.world) (λ so_far. KeepsBesideSpares x old.world) old (g.H.Host.state c.clear_name.new.host) (λ so_far w is. keeps_first x old.world w is) c.clear_name.ensures.any_moment

pub returns-clause-cleared : goal.returns-clause-cleared
returns-clause-cleared g c = λ h.
    let old = (g.H.Host.state c.args.host.now).world in
    let mid = (g.H.Host.state c.clear_name.new.host).world in
    let new = (g.H.Host.state c.clear_name-2.new.host).world in
    let x = c.args.work.now in
    on_ok c.clear_name-2.result (IsCleared x.backup mid new) (AreCleared x old new) (cleared_both x old mid new (named_apart x c.requires.named) (c.in_ok-clear_name.ensures.cleared (c.clear_name-2.ensures.silent.honest h))) (c.clear_name-2.ensures.cleared h)

pub returns-clause-any_moment : goal.returns-clause-any_moment
returns-clause-any_moment g c =
    let old = g.H.Host.state c.args.host.now in
    let mid = g.H.Host.state c.clear_name.new.host in
    let new = g.H.Host.state c.clear_name-2.new.host in
    let x = c.args.work.now in
    since_then (λ so_far. KeepsBesideSpares x old.world) old mid new
    (since_weaker (λ so_far. KeepsBeside x.fresh old.world) (λ so_far. KeepsBesideSpares x old.world) old mid (λ so_far w is. keeps_first x old.world w is) c.clear_name.ensures.any_moment)
    (since_weaker_if (λ so_far. KeepsBeside x.backup mid.world) (λ so_far. KeepsBesideSpares x old.world) mid new
    (λ h so_far w is. keeps_second x old.world mid.world w (c.in_ok-clear_name.ensures.cleared (c.clear_name-2.ensures.silent.honest h)).rest is) c.clear_name-2.ensures.any_moment)

pub returns-clause-tried : goal.returns-clause-tried
returns-clause-tried g c = λ h.
    let old = (g.H.Host.state c.args.host.now).world in
    let mid = (g.H.Host.state c.clear_name.new.host).world in
    let new = (g.H.Host.state c.clear_name-2.new.host).world in
    let x = c.args.work.now in
    on_declined c.clear_name-2.result (new ≡ mid) (HasBegun x old new) (begun_clearing x old mid new c.requires.named (c.in_ok-clear_name.ensures.cleared (c.clear_name-2.ensures.silent.honest h))) (c.clear_name-2.ensures.tried h)
