use Rattle.std.proofs.Common.{subst, rules}
use Rattle.host_core.proofs.Moments.{reads_then}
use Rattle.host_core.specs.World.{World}
use Rattle.status_db.specs.Notes.{below_limit}
use Rattle.status_db.specs.NoteReading.{IsNext}
use Rattle.status_db.proofs.NotesRead.{numbers_stopped, taken_start}
use Rattle.status_db.proofs.updates.read_marked.Goals as goal

pub loop-number-init : goal.loop-number-init
loop-number-init g c = record {
  reads = search rules;
  silent = search rules;
  counts = search rules;
  within = search rules;
  taken = λ h. taken_start _ _;
}

pub loop-number-preserved : goal.loop-number-preserved
loop-number-preserved g c =
    let before = c.loop-number.invariant in
    record {
      reads = reads_then _ _ _ before.reads c.read_if_marked.ensures.reads;
      silent = search rules;
      counts = search rules;
      within = c.in_ok-count.ensures.within;
      taken = λ h. subst (λ (w : World). IsNext w c.loop-number.number c.loop-number.count c.in_ok-count.count c.loop-number.table c.read_if_marked.new.table) before.reads.world (c.in_ok-count.ensures.taken h) _ (before.taken (c.read_if_marked.ensures.silent.honest h));
    }

pub returns-in_err-count-clause-damage : goal.returns-in_err-count-clause-damage
returns-in_err-count-clause-damage g c = λ h.
    let before = c.loop-number.invariant in
    numbers_stopped c.from_residual.result c.in_err-count.field-0.0 _ _ c.loop-number.count c.loop-number.number c.args.table.now _ c.from_residual.ensures.1 (below_limit c.loop-number.number c.loop-number-test.true) before.reads.world
    (before.taken (c.read_if_marked.ensures.silent.honest h)) (c.in_err-count.ensures.damage h)
