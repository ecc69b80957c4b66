use Rattle.std.proofs.Common.{inl, inr, sym, subst}
use Rattle.administration.specs.Files.{IsReplacing}
use Rattle.administration.specs.Places.{list_path}
use Rattle.file_lists.specs.Writing.{list_file, IsListReady}
use Rattle.package_files.specs.Back.{GoesBack, IsGoingBack}
use Rattle.package_files.proofs.WriteMoments.{on_ok}
use Rattle.listed_files.specs.Listing.{MayUnlist}
use Rattle.listed_files.proofs.Moments.{at_each}
use Rattle.listed_files.proofs.Turning.{to_disk, then_later}
use Rattle.listed_files.proofs.Listings.{ready_back}
use Rattle.listed_files.proofs.listing.put_back_listed.Goals as goal

pub returns-in_err-put_back_files-clause-any_moment : goal.returns-in_err-put_back_files-clause-any_moment
returns-in_err-put_back_files-clause-any_moment g c =
    let works = c.args.works.now in
    at_each (IsGoingBack works) (MayUnlist (list_path c.args.name.now) (list_file c.args.old) works) _ _ (λ now is. inl is) c.put_back_files.ensures.any_moment

pub returns-in_err-barrier-clause-any_moment : goal.returns-in_err-barrier-clause-any_moment
returns-in_err-barrier-clause-any_moment g c =
    let works = c.args.works.now in
    let P = MayUnlist (list_path c.args.name.now) (list_file c.args.old) works in
    to_disk P c.barrier.result _ _ _ (at_each (IsGoingBack works) P _ _ (λ now is. inl is) c.put_back_files.ensures.any_moment) c.barrier.ensures.does

pub replace_list-requires-clause-ready : goal.replace_list-requires-clause-ready
replace_list-requires-clause-ready g c = λ h.
    let h1 = c.barrier.ensures.silent.honest h in
    let h0 = c.put_back_files.ensures.silent.honest h1 in
    subst (IsListReady c.args.name.now) (sym c.in_ok-barrier.ensures.does.world)
    (ready_back c.args.name.now c.args.works.now _ _ c.requires.named (c.requires.written h0) (c.in_ok-put_back_files.ensures.back h1) (c.requires.ready h0))

pub returns-clause-unlisted : goal.returns-clause-unlisted
returns-clause-unlisted g c = λ h.
    let h1 = c.barrier.ensures.silent.honest (c.replace_list.ensures.silent.honest h) in
    on_ok c.replace_list.result _ _
    (λ is. record {
      mid = _;
      back = subst (GoesBack c.args.works.now (g.H.Host.state c.args.host.now).world) (sym c.in_ok-barrier.ensures.does.world) (c.in_ok-put_back_files.ensures.back h1);
      replaced = is;
    }) (c.replace_list.ensures.replaced h)

pub returns-clause-any_moment : goal.returns-clause-any_moment
returns-clause-any_moment g c =
    let list = list_path c.args.name.now in
    let node = list_file c.args.old in
    let works = c.args.works.now in
    let old = g.H.Host.state c.args.host.now in
    let mid = g.H.Host.state c.put_back_files.new.host in
    let bar = g.H.Host.state c.barrier.new.self in
    let new = g.H.Host.state c.replace_list.new.host in
    let P = MayUnlist list node works in
    then_later P (IsReplacing list node) old bar new
    (to_disk P c.barrier.result old mid bar (at_each (IsGoingBack works) P old mid (λ now is. inl is) c.put_back_files.ensures.any_moment) c.barrier.ensures.does)
    (λ h now is. inr (
      bar.world,
      subst (GoesBack works old.world) (sym c.in_ok-barrier.ensures.does.world) (c.in_ok-put_back_files.ensures.back (c.barrier.ensures.silent.honest (c.replace_list.ensures.silent.honest h))),
      is,
    ))
    c.replace_list.ensures.any_moment
