use Rattle.std.proofs.Common.{List, sym, ap, subst, ◌∙◌}
use Rattle.file_check.specs.Ships.{shipped_works, FitsConffiles}
use Rattle.file_lists.specs.Increasing.{AreIncreasing}
use Rattle.host_core.specs.Paths.{Path}
use Rattle.unpack_plan.specs.Planned.{pairs_of}
use Rattle.unpack_plan.proofs.Ordered.{increasing}
use Rattle.unpack_plan.proofs.Shipping.{conffiles_fit}
use Rattle.unpack_plan.proofs.works.own_works.Goals as goal

pub works_of-requires-clause-order : goal.works_of-requires-clause-order
works_of-requires-clause-order c = subst AreIncreasing (sym c.as_slice.ensures) (increasing c.args.conffiles.now c.law-2.ensures)

pub works_of-requires-clause-conffiles : goal.works_of-requires-clause-conffiles
works_of-requires-clause-conffiles c =
    let pairs = c.in_ok-pairs.ensures ∙ ap pairs_of c.into_vec.ensures in
    subst (λ (l : List Path). FitsConffiles l c.in_ok-pairs.pairs.items) (sym c.as_slice.ensures)
    (subst (FitsConffiles c.args.conffiles.now) (sym pairs) (conffiles_fit c.args.files c.args.conffiles.now c.requires.0 c.law.ensures c.requires.1))

pub returns-clause-works : goal.returns-clause-works
returns-clause-works c =
    let entries = c.args.diversions.now.ways in
    c.in_ok-works.ensures.works ∙ ap (λ (l : List Path). shipped_works entries c.args.name.now l c.in_ok-pairs.pairs.items) c.as_slice.ensures
    ∙ ap (shipped_works entries c.args.name.now c.args.conffiles.now) (c.in_ok-pairs.ensures ∙ ap pairs_of c.into_vec.ensures)
