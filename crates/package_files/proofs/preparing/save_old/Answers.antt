use Rattle.std.proofs.Common.{refl, sym, ◌∙◌}
use Rattle.host_core.proofs.Moments.{since_start}
use Rattle.package_files.specs.Steps.{KeepsBesideSpares}
use Rattle.package_files.proofs.Written.{kind_none, kind_loose}
use Rattle.package_files.proofs.OnePath.{fresh_absent, spare_absent, not_over, none_saved}
use Rattle.package_files.proofs.preparing.save_old.Goals as goal

pub returns-in-None-clause-saved : goal.returns-in-None-clause-saved
returns-in-None-clause-saved g c = λ h.
    none_saved c.args.work.now _ c.requires.named c.requires.exchanged (c.requires.seen h) (c.requires.ready h) (kind_none _ (sym c.in-None.is ∙ c.requires.seen h))

pub returns-in-None-clause-any_moment : goal.returns-in-None-clause-any_moment
returns-in-None-clause-any_moment g c =
    let old = g.H.Host.state c.args.host.now in
    since_start (λ so_far. KeepsBesideSpares c.args.work.now old.world) old (λ q ne_b ne_f. refl)

pub link_or_copy-requires-clause-there : goal.link_or_copy-requires-clause-there
link_or_copy-requires-clause-there g c = λ h.
    kind_loose _ c.in-Some.field-0 (sym c.in-Some.is ∙ c.requires.seen h) (not_over c.args.work.now _ c.requires.named c.requires.exchanged (c.requires.seen h) (c.requires.ready h))

pub link_or_copy-requires-clause-spare : goal.link_or_copy-requires-clause-spare
link_or_copy-requires-clause-spare g c = λ h. spare_absent c.args.work.now _ c.requires.named c.requires.exchanged (c.requires.seen h) (c.requires.ready h)

pub link_or_copy-requires-clause-absent : goal.link_or_copy-requires-clause-absent
link_or_copy-requires-clause-absent g c = λ h. fresh_absent c.args.work.now _ c.requires.named c.requires.exchanged (c.requires.seen h) (c.requires.ready h)

pub link_or_copy-requires-clause-parent : goal.link_or_copy-requires-clause-parent
link_or_copy-requires-clause-parent g c = λ h. (c.requires.ready h).parent
