use Rattle.std.proofs.Common.{subst}
use Rattle.host_core.specs.World.{World}
use Rattle.host_core.specs.Host.{Since}
use Rattle.host_core.proofs.Moments.{since_reads, since_then, since_weaker_if}
use Rattle.file_lists.proofs.Looked.{fault_told, host_told}
use Rattle.info_format.specs.Converting.{IsConverted, IsConverting, IsNamesDamage}
use Rattle.info_format.specs.Steps.{AreTaken, AreTaking}
use Rattle.info_format.proofs.Conversion.{cleared, clearing_converting, converting_start, other_beside}
use Rattle.info_format.proofs.bringing.clear_doubles.Goals as goal

pub returns-in_err-check_all-clause-fault : goal.returns-in_err-check_all-clause-fault
returns-in_err-check_all-clause-fault g c = λ arches all h.
    let old = (g.H.Host.state c.args.host.now).world in
    let h0 = c.check_all.ensures.silent.honest h in
    fault_told (IsNamesDamage arches old) c.in_err-check_all.field-0.0 c.from_residual.result c.from_residual.ensures.1
    (other_beside arches c.args.pairs.now old (all h0) c.in_err-check_all.field-0.0 (c.requires.plain h0) (c.in_err-check_all.ensures.fault h))

pub returns-in_err-check_all-clause-any_moment : goal.returns-in_err-check_all-clause-any_moment
returns-in_err-check_all-clause-any_moment g c = λ arches all. since_reads _ _ _ c.check_all.ensures.reads (λ fs ok. converting_start arches (g.H.Host.state c.args.host.now).world)

pub returns-in_err-clear-clause-fault : goal.returns-in_err-clear-clause-fault
returns-in_err-clear-clause-fault g c = λ arches all h. host_told (IsNamesDamage arches (g.H.Host.state c.args.host.now).world) _ c.from_residual-in_err-clear.result c.from_residual-in_err-clear.ensures.1 tt tt tt

pub returns-in_err-clear-clause-any_moment : goal.returns-in_err-clear-clause-any_moment
returns-in_err-clear-clause-any_moment g c = λ arches all.
    let old = (g.H.Host.state c.args.host.now).world in
    since_then (λ so_far. IsConverting arches old) _ _ _ (since_reads _ _ _ c.check_all.ensures.reads (λ fs ok. converting_start arches old))
    (since_weaker_if (λ so_far. AreTaking c.args.pairs.now old) (λ so_far. IsConverting arches old) _ _
    (λ h so_far w is. (let h1 = c.clear.ensures.silent.honest h in let h0 = c.check_all.ensures.silent.honest h1 in clearing_converting arches c.args.pairs.now old (all h0) w (c.requires.plain h0) (c.in_ok-check_all.ensures.fit h1) is))
    (subst (λ (v : World). Since (λ so_far. AreTaking c.args.pairs.now v) (g.H.Host.state c.check_all.new.host) (g.H.Host.state c.clear.new.host)) c.check_all.ensures.reads.world c.clear.ensures.any_moment))

pub returns-clause-converted : goal.returns-clause-converted
returns-clause-converted g c = λ arches all h.
    let old = (g.H.Host.state c.args.host.now).world in
    let new = (g.H.Host.state c.clear.new.host).world in
    let h1 = c.clear.ensures.silent.honest h in
    let h0 = c.check_all.ensures.silent.honest h1 in
    cleared arches c.args.pairs.now old (all h0) new (c.requires.plain h0) (c.in_ok-check_all.ensures.fit h1) (subst (λ (v : World). AreTaken c.args.pairs.now v new) c.check_all.ensures.reads.world (c.in_ok-clear.ensures.taken h))

pub returns-clause-any_moment : goal.returns-clause-any_moment
returns-clause-any_moment g c = λ arches all.
    let old = (g.H.Host.state c.args.host.now).world in
    since_then (λ so_far. IsConverting arches old) _ _ _ (since_reads _ _ _ c.check_all.ensures.reads (λ fs ok. converting_start arches old))
    (since_weaker_if (λ so_far. AreTaking c.args.pairs.now old) (λ so_far. IsConverting arches old) _ _
    (λ h so_far w is. (let h1 = c.clear.ensures.silent.honest h in let h0 = c.check_all.ensures.silent.honest h1 in clearing_converting arches c.args.pairs.now old (all h0) w (c.requires.plain h0) (c.in_ok-check_all.ensures.fit h1) is))
    (subst (λ (v : World). Since (λ so_far. AreTaking c.args.pairs.now v) (g.H.Host.state c.check_all.new.host) (g.H.Host.state c.clear.new.host)) c.check_all.ensures.reads.world c.clear.ensures.any_moment))
