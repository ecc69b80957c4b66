use Rattle.std.proofs.Common.{List, sym, subst}
use Rattle.file_check.proofs.Permuting.{each_permuted, homed_permuted}
use Rattle.package_files.specs.declared.work.Work.{Work}
use Rattle.package_files.specs.Files.{Each}
use Rattle.package_files.specs.Free.{IsFreeIn, IsSeen}
use Rattle.package_files.specs.Names.{IsHomed, IsNamed}
use Rattle.unpack_steps.proofs.file_moves.write_ordered.Goals as goal

pub write_listed-requires-clause-named : goal.write_listed-requires-clause-named
write_listed-requires-clause-named g c = subst (Each IsNamed) (sym c.as_slice.ensures.value) (each_permuted IsNamed c.args.works.now.items _ c.order_works.ensures.same c.requires.named)

pub write_listed-requires-clause-free : goal.write_listed-requires-clause-free
write_listed-requires-clause-free g c = λ h.
    let w = (g.H.Host.state c.args.host.now).world in
    subst (Each (IsFreeIn w)) (sym c.as_slice.ensures.value) (each_permuted (IsFreeIn w) c.args.works.now.items _ c.order_works.ensures.same (c.requires.free h))

pub write_listed-requires-clause-seen : goal.write_listed-requires-clause-seen
write_listed-requires-clause-seen g c = λ h.
    let w = (g.H.Host.state c.args.host.now).world in
    subst (Each (IsSeen w)) (sym c.as_slice.ensures.value) (each_permuted (IsSeen w) c.args.works.now.items _ c.order_works.ensures.same (c.requires.seen h))

pub write_listed-requires-clause-homed : goal.write_listed-requires-clause-homed
write_listed-requires-clause-homed g c = λ h.
    let w = (g.H.Host.state c.args.host.now).world in
    subst (λ (xs : List Work). Each (IsHomed xs w) xs) (sym c.as_slice.ensures.value) (homed_permuted c.args.works.now.items _ w c.order_works.ensures.same (c.requires.homed h))
