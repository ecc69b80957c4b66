use Rattle.std.proofs.Common.{get_or, sym, subst}
use Rattle.unit_reports.specs.declared.report.Unit.{Unit as AUnit}
use Rattle.unit_reports.specs.Units.{IsRefusal}
use Rattle.removal_run.proofs.Tellings.{refused_next, told_next}
use Rattle.removal_run.proofs.telling.tell_all.Goals as goal

pub finished-requires : goal.finished-requires
finished-requires g c = record {
  begun = λ over. subst (λ (u : AUnit). IsRefusal u.reply) (sym c.unit-item.is) (refused_next c.args.units.now c.loop-unit.unit-index c.unit-item.result c.loop-unit-test.true c.requires.refused);
}

pub loop-unit-preserved : goal.loop-unit-preserved
loop-unit-preserved g c =
    let tells = g.W.Watcher.tells in
    let s = g.H.Host.state c.args.host.now in
    told_next tells s c.args.watcher.now c.loop-unit.watcher c.finished.new.self c.args.units.now c.loop-unit.unit-index c.unit-item.result c.loop-unit-test.true c.requires.quiet c.loop-unit.invariant
    (subst (λ (u : AUnit). tells c.loop-unit.watcher u s c.finished.new.self) c.unit-item.is c.finished.ensures)
