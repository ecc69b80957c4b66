use Rattle.host_core.proofs.Moments.{since_weaker}
use Rattle.package_files.specs.Back.{GoesBack, IsGoingBack}
use Rattle.package_files.specs.Laid.{Undoes, IsUndoing}
use Rattle.package_files.proofs.TakingBack.{can_all, goes_all, going_all}
use Rattle.package_files.proofs.WriteMoments.{on_ok}
use Rattle.package_files.proofs.putting_back.put_back_files.Goals as goal

pub take_back-requires-clause-under_way : goal.take_back-requires-clause-under_way
take_back-requires-clause-under_way g c = λ h. can_all c.args.works.now _ (c.requires.written h)

pub returns-clause-back : goal.returns-clause-back
returns-clause-back g c = λ h.
    let works = c.args.works.now in
    let old = (g.H.Host.state c.args.host.now).world in
    let new = (g.H.Host.state c.take_back.new.host).world in
    on_ok c.take_back.result (Undoes works old new) (GoesBack works old new) (goes_all works old new) (c.take_back.ensures.back h)

pub returns-clause-any_moment : goal.returns-clause-any_moment
returns-clause-any_moment g c =
    let works = c.args.works.now in
    let old = g.H.Host.state c.args.host.now in
    since_weaker (λ so_far. IsUndoing works old.world) (λ so_far. IsGoingBack works old.world) old (g.H.Host.state c.take_back.new.host)
    (λ so_far w undoing. going_all works old.world w undoing) c.take_back.ensures.any_moment
