use Rattle.std.proofs.Common.{List, ◌<◌, length, sym, subst}
use Rattle.std.specs.Prelude.{IfOk, IfSome, MatchOption}
use Rattle.package_files.specs.declared.work.Work.{Work}
use Rattle.package_files.specs.Files.{Each, Undone, Written}
use Rattle.package_files.specs.Free.{IsFreeIn, IsSeen}
use Rattle.package_files.specs.Names.{IsNamed, IsHomed}
use Rattle.file_check.proofs.Permuting.{each_permuted, homed_permuted}
use Rattle.tests_steps.proofs.Answered.{none_of}
use Rattle.tests_steps.proofs.unpacking.write_works.Goals as goal

pub write_files-requires-clause-named : goal.write_files-requires-clause-named
write_files-requires-clause-named g c = subst (Each IsNamed) (sym c.as_slice.ensures.value) (each_permuted IsNamed c.args.works.now.items _ c.order_works.ensures.same c.requires.named)

pub write_files-requires-clause-free : goal.write_files-requires-clause-free
write_files-requires-clause-free g c = λ h.
    let w = (g.H.Host.state c.args.host.now).world in
    subst (Each (IsFreeIn w)) (sym c.as_slice.ensures.value) (each_permuted (IsFreeIn w) c.args.works.now.items _ c.order_works.ensures.same (c.requires.free h))

pub write_files-requires-clause-homed : goal.write_files-requires-clause-homed
write_files-requires-clause-homed g c = λ h.
    let w = (g.H.Host.state c.args.host.now).world in
    subst (λ (xs : List Work). Each (IsHomed xs w) xs) (sym c.as_slice.ensures.value) (homed_permuted c.args.works.now.items _ w c.order_works.ensures.same (c.requires.homed h))

pub write_files-requires-clause-seen : goal.write_files-requires-clause-seen
write_files-requires-clause-seen g c = λ h.
    let w = (g.H.Host.state c.args.host.now).world in
    subst (Each (IsSeen w)) (sym c.as_slice.ensures.value) (each_permuted (IsSeen w) c.args.works.now.items _ c.order_works.ensures.same (c.requires.seen h))

pub returns-clause-within : goal.returns-clause-within
returns-clause-within g c = subst (λ (xs : List Work). IfOk c.write_files.result (λ declined. IfSome declined (λ k. k < length xs))) c.as_slice.ensures.value c.write_files.ensures.within

pub returns-clause-written : goal.returns-clause-written
returns-clause-written g c = λ h.
    let xs = c.order_works.new.works.items in
    let old = (g.H.Host.state c.args.host.now).world in
    let new = (g.H.Host.state c.write_files.new.host).world in
    none_of c.write_files.result (Written xs old new) (λ k. Undone xs old new)
    (subst (λ (ys : List Work). IfOk c.write_files.result (λ declined. MatchOption declined (Written ys old new) (λ k. Undone ys old new))) c.as_slice.ensures.value (c.write_files.ensures.written h))
