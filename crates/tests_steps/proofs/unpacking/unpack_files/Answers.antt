use Rattle.std.proofs.Common.{List, ◌<◌, length, sym, subst, rules}
use Rattle.std.specs.Prelude.{IfSome}
use Rattle.std.specs.List.Sorted.{IsPermutation}
use Rattle.host_core.specs.World.{World}
use Rattle.host_core.specs.Host.{Since}
use Rattle.host_core.proofs.Moments.{since_reads, since_then}
use Rattle.package_files.specs.declared.work.Work.{Work}
use Rattle.package_files.specs.Files.{Each, IsAmid, Written}
use Rattle.package_files.specs.Names.{IsNamed}
use Rattle.file_check.specs.Ready.{IsSameBut}
use Rattle.file_check.proofs.WorkLists.{named_still}
use Rattle.file_check.proofs.Permuting.{amid_here, written_back, rearranged, written_from, none_told}
use Rattle.package_files.specs.Free.{IsWrittenFrom}
use Rattle.tests_steps.proofs.Answered.{none_then, whichever}
use Rattle.tests_steps.proofs.unpacking.unpack_files.Goals as goal

pub returns-in_err-found-clause-any_moment : goal.returns-in_err-found-clause-any_moment
returns-in_err-found-clause-any_moment g c = since_reads _ _ _ c.check.ensures.looks.reads (λ fs failed. amid_here _ _)

pub returns-in-Some-clause-any_moment : goal.returns-in-Some-clause-any_moment
returns-in-Some-clause-any_moment g c = since_reads _ _ _ c.check.ensures.looks.reads (λ fs failed. amid_here _ _)

pub write_works-requires-clause-named : goal.write_works-requires-clause-named
write_works-requires-clause-named g c =
    let same = subst (λ (xs : List Work). IsSameBut xs c.check.new.works) c.as_mut_slice.ensures.value c.check.ensures.same_works in
    let back = written_back c.args.works.now.len c.args.works.now.items c.check.new.works (search rules) same in
    subst (Each IsNamed) (sym back) (named_still c.args.works.now.items c.check.new.works same c.requires.named)

pub returns-in_err-declined-clause-works : goal.returns-in_err-declined-clause-works
returns-in_err-declined-clause-works g c =
    let same = subst (λ (xs : List Work). IsSameBut xs c.check.new.works) c.as_mut_slice.ensures.value c.check.ensures.same_works in
    let back = written_back c.args.works.now.len c.args.works.now.items c.check.new.works (search rules) same in
    let new = c.write_works.new.works.items in
    rearranged c.args.works.now.items c.check.new.works new same (subst (λ (l : List Work). IsPermutation l new) back c.write_works.ensures.works)

pub returns-in_err-declined-clause-any_moment : goal.returns-in_err-declined-clause-any_moment
returns-in_err-declined-clause-any_moment g c =
    let new = c.write_works.new.works.items in
    let old = g.H.Host.state c.args.host.now in
    let mid = g.H.Host.state c.check.new.host in
    let end = g.H.Host.state c.write_works.new.host in
    since_then (λ so_far. IsAmid new old.world old.world) old mid end (since_reads (λ so_far. IsAmid new old.world old.world) old mid c.check.ensures.looks.reads (λ fs failed. amid_here new old.world))
    (subst (λ (v : World). Since (λ so_far. IsAmid new v v) mid end) c.check.ensures.looks.reads.world c.write_works.ensures.any_moment)

pub fault_at-requires : goal.fault_at-requires
fault_at-requires g c = subst (λ (l : List Work). IfSome c.in_ok-declined.declined (λ k. k < length l)) (sym c.as_slice.ensures.value) c.in_ok-declined.ensures.within

pub returns-in_err-fault_at-clause-works : goal.returns-in_err-fault_at-clause-works
returns-in_err-fault_at-clause-works g c =
    let same = subst (λ (xs : List Work). IsSameBut xs c.check.new.works) c.as_mut_slice.ensures.value c.check.ensures.same_works in
    let back = written_back c.args.works.now.len c.args.works.now.items c.check.new.works (search rules) same in
    let new = c.write_works.new.works.items in
    rearranged c.args.works.now.items c.check.new.works new same (subst (λ (l : List Work). IsPermutation l new) back c.write_works.ensures.works)

pub returns-in_err-fault_at-clause-any_moment : goal.returns-in_err-fault_at-clause-any_moment
returns-in_err-fault_at-clause-any_moment g c =
    let new = c.write_works.new.works.items in
    let old = g.H.Host.state c.args.host.now in
    let mid = g.H.Host.state c.check.new.host in
    let end = g.H.Host.state c.write_works.new.host in
    since_then (λ so_far. IsAmid new old.world old.world) old mid end (since_reads (λ so_far. IsAmid new old.world old.world) old mid c.check.ensures.looks.reads (λ fs failed. amid_here new old.world))
    (subst (λ (v : World). Since (λ so_far. IsAmid new v v) mid end) c.check.ensures.looks.reads.world c.write_works.ensures.any_moment)

pub returns-clause-works : goal.returns-clause-works
returns-clause-works g c =
    let same = subst (λ (xs : List Work). IsSameBut xs c.check.new.works) c.as_mut_slice.ensures.value c.check.ensures.same_works in
    let back = written_back c.args.works.now.len c.args.works.now.items c.check.new.works (search rules) same in
    let new = c.write_works.new.works.items in
    rearranged c.args.works.now.items c.check.new.works new same (subst (λ (l : List Work). IsPermutation l new) back c.write_works.ensures.works)

pub returns-clause-order : goal.returns-clause-order
returns-clause-order g c = whichever c.in_ok-fault_at.field-0 _ c.write_works.ensures.order

pub returns-clause-written : goal.returns-clause-written
returns-clause-written g c = λ h.
    let new = c.write_works.new.works.items in
    let w = (g.H.Host.state c.args.host.now).world in
    let mid = (g.H.Host.state c.check.new.host).world in
    let end = (g.H.Host.state c.write_works.new.host).world in
    none_then c.in_ok-fault_at.field-0 c.in_ok-declined.declined (Written new mid end) (Written new w end) c.in_ok-fault_at.ensures (c.in_ok-declined.ensures.written h)
    (λ is. subst (λ (v : World). Written new v end) c.check.ensures.looks.reads.world is)

pub returns-clause-ready : goal.returns-clause-ready
returns-clause-ready g c = λ h.
    let same = subst (λ (xs : List Work). IsSameBut xs c.check.new.works) c.as_mut_slice.ensures.value c.check.ensures.same_works in
    let back = written_back c.args.works.now.len c.args.works.now.items c.check.new.works (search rules) same in
    let new = c.write_works.new.works.items in
    let w = (g.H.Host.state c.args.host.now).world in
    let mid = (g.H.Host.state c.check.new.host).world in
    let end = (g.H.Host.state c.write_works.new.host).world in
    let h1 = c.write_works.ensures.silent.honest h in
    none_then c.in_ok-fault_at.field-0 c.in_ok-declined.declined (Written new mid end) (IsWrittenFrom new w end) c.in_ok-fault_at.ensures (c.in_ok-declined.ensures.written h)
    (λ is. written_from c.check.new.works new w end (subst (λ (l : List Work). IsPermutation l new) back c.write_works.ensures.works)
    (none_told c.in_ok-found.found _ c.in_default.is (c.in_ok-found.ensures.free h1)) (none_told c.in_ok-found.found _ c.in_default.is (c.in_ok-found.ensures.seen h1))
    (subst (λ (v : World). Written new v end) c.check.ensures.looks.reads.world is))

pub returns-clause-any_moment : goal.returns-clause-any_moment
returns-clause-any_moment g c =
    let new = c.write_works.new.works.items in
    let old = g.H.Host.state c.args.host.now in
    let mid = g.H.Host.state c.check.new.host in
    let end = g.H.Host.state c.write_works.new.host in
    since_then (λ so_far. IsAmid new old.world old.world) old mid end (since_reads (λ so_far. IsAmid new old.world old.world) old mid c.check.ensures.looks.reads (λ fs failed. amid_here new old.world))
    (subst (λ (v : World). Since (λ so_far. IsAmid new v v) mid end) c.check.ensures.looks.reads.world c.write_works.ensures.any_moment)
