use Rattle.std.proofs.Common.{ap, refl, ◌∙◌}
use Rattle.unit_reports.specs.declared.report.Reply.TheVariants.{Broken}
use Rattle.diversions.specs.Diverted.{Diverted}
use Rattle.unit_reports.specs.Held.{held_by}
use Rattle.dpkg_session.specs.declared.displacing.UnpackEnd.{UnpackEnd}
use Rattle.dpkg_session.proofs.Runs.{answer_not_damaged, answer_within, counts_answered, is_unpacked}
use Rattle.dpkg_session.proofs.Told.{called_as}
use Rattle.dpkg_session.proofs.units.unpack_named.Goals as goal
use Rattle.unit_reports.proofs.Counting.{counts_broken, fault_within}

pub returns-in-Ok-clause-unit : goal.returns-in-Ok-clause-unit
returns-in-Ok-clause-unit g c =
    is_unpacked _ _ _ _ c.answered.result c.args.behind _ _ _ _ _ _ _ _ c.requires.behind.name c.requires.known c.new-calls.ensures.items c.answered.ensures.told c.in-Ok.ensures.unit c.in-Ok.ensures.order c.in-Ok.ensures.touched c.answered.ensures.answer

pub returns-in-Ok-clause-told : goal.returns-in-Ok-clause-told
returns-in-Ok-clause-told g c = called_as _ _ (held_by c.args.administration.now c.args.diversions.now) _ _ _ _ _ c.new-calls.ensures.items c.answered.ensures.told c.unpack_whole.ensures.told

pub returns-in-Err-clause-told : goal.returns-in-Err-clause-told
returns-in-Err-clause-told g c = called_as _ _ (held_by c.args.administration.now c.args.diversions.now) _ _ _ _ _ c.new-calls.ensures.items c.broken.ensures.told c.unpack_whole.ensures.told

pub returns-in-Ok-clause-counts : goal.returns-in-Ok-clause-counts
returns-in-Ok-clause-counts g c = counts_answered _ _ _ _ _ _ _ _ c.answered.result (g.H.Host.state c.args.host.now) (g.H.Host.state c.unpack_whole.new.host) c.in-Ok.ensures.counts c.in-Ok.ensures.denied c.answered.ensures.answer

pub returns-in-Err-clause-counts : goal.returns-in-Err-clause-counts
returns-in-Err-clause-counts g c = counts_broken UnpackEnd c.in-Err.fault c.broken.result.reply (g.H.Host.state c.args.host.now) (g.H.Host.state c.unpack_whole.new.host) (c.broken.ensures.reply ∙ ap Broken c.breakage_of.ensures) c.in-Err.ensures.counts

pub returns-in-Ok-clause-not_closed : goal.returns-in-Ok-clause-not_closed
returns-in-Ok-clause-not_closed g c = answer_within _ _ _ _ _ _ _ _ c.answered.result c.answered.ensures.answer

pub returns-in-Ok-clause-not_damaged : goal.returns-in-Ok-clause-not_damaged
returns-in-Ok-clause-not_damaged g c = answer_not_damaged _ _ _ _ _ _ _ _ c.answered.result c.answered.ensures.answer

pub returns-in-Err-clause-not_closed : goal.returns-in-Err-clause-not_closed
returns-in-Err-clause-not_closed g c = fault_within c.in-Err.fault c.broken.result.reply (c.broken.ensures.reply ∙ ap Broken c.breakage_of.ensures)

pub returns-in-Ok-clause-writable : goal.returns-in-Ok-clause-writable
returns-in-Ok-clause-writable g c = λ was. ap (λ (d : Diverted). d.closed) c.unpack_whole.ensures.diversions ∙ was

pub returns-in-Err-clause-writable : goal.returns-in-Err-clause-writable
returns-in-Err-clause-writable g c = λ was. ap (λ (d : Diverted). d.closed) c.unpack_whole.ensures.diversions ∙ was
