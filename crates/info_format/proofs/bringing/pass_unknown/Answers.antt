use Rattle.std.proofs.Common.{◌≡◌, ◌∙◌, ap, sym, subst}
use Rattle.host_core.specs.World.{World}
use Rattle.info_format.specs.Converting.{IsConverted}
use Rattle.info_format.proofs.Conversion.{none_to_clear, odd_damage}
use Rattle.info_format.proofs.bringing.pass_unknown.Goals as goal

pub returns-then-branch-clause-fault : goal.returns-then-branch-clause-fault
returns-then-branch-clause-fault g c = λ arches all h.
    let w = (g.H.Host.state c.args.host.now).world in
    let h0 = c.has_long.ensures.looks.silent.honest h in
    let odd = c.requires.unknown h0 in
    odd_damage arches c.args.pairs.now c.in_ok-has_long.field-0 w _ c.if-branch.true (c.in_ok-has_long.ensures.looks.found h) (all h0) (c.in_ok-copy.ensures ∙ c.requires.place) odd.0 odd.1

pub returns-clause-converted : goal.returns-clause-converted
returns-clause-converted g c = λ arches all h.
    let old = (g.H.Host.state c.args.host.now).world in
    let h0 = c.has_long.ensures.looks.silent.honest h in
    subst (λ (v : World). IsConverted arches old v) (sym c.has_long.ensures.looks.reads.world)
    (none_to_clear arches c.args.pairs.now c.in_ok-has_long.field-0 old c.if-branch.false (c.in_ok-has_long.ensures.looks.found h) (all h0) (c.requires.unknown h0).1)
