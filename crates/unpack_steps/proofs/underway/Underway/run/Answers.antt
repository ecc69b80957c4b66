use Rattle.std.proofs.Common.{◌≡◌, ◌++◌, IfOk, List, length, sym, ap, subst}
use Rattle.host_core.specs.Host.{State}
use Rattle.package_files.specs.declared.work.Work.{Work}
use Rattle.undo_rows.specs.declared.rows.Called.{Called}
use Rattle.undo_rows.specs.Ended.{ended_as}
use Rattle.undo_rows.specs.Place.{Forward}
use Rattle.undo_rows.specs.Telling.{Begun, HasRun, HasSucceeded}
use Rattle.undo_rows.specs.Transcripts.{MayRun}
use Rattle.unpack_steps.specs.At.{At, IsFileFault, holding_by}
use Rattle.unpack_steps.specs.Task.{Task, task_by}
use Rattle.unpack_steps.proofs.underway.Underway.run.Goals as goal

pub run_all-requires-clause-place : goal.run_all-requires-clause-place
run_all-requires-clause-place g c =
    let t = λ (w : List Work). task_by (g.H.Host.state c.args.self.now.start.host.value) c.args.self.now.start.administration.value c.args.diversions.now.ways w c.args.rows.now in
    let w = c.args.works.now.items in
    let is : t c.of-shipped.result.value.items ≡ t w = (λ i. t (c.of-shipped.ensures i).items) in
    subst (λ (x : Task). At x (holding_by c.args.administration.now w) (g.H.Host.state c.args.host.now) (Forward (length c.args.self.now.stack))) (sym is) c.requires.place

pub returns-clause-calls : goal.returns-clause-calls
returns-clause-calls g c =
    let s = g.H.Host.state c.args.host.now in
    let t = λ (w : List Work). task_by (g.H.Host.state c.args.self.now.start.host.value) c.args.self.now.start.administration.value c.args.diversions.now.ways w c.args.rows.now in
    let w = c.args.works.now.items in
    let is : t c.of-shipped.result.value.items ≡ t w = (λ i. t (c.of-shipped.ensures i).items) in
    let there = c.args.self.now.stack in
    subst (λ (x : Task). IfOk c.run_all.result (λ u. (start : State) (before : List Called) → HasSucceeded (IsFileFault x) there start s before c.args.told.now.items
    → HasRun (IsFileFault x) (ended_as u) (there ++ c.args.calls.items) start (g.H.Host.state c.run_all.new.host) before c.run_all.new.told.items)) is c.run_all.ensures.calls

pub returns-clause-told : goal.returns-clause-told
returns-clause-told g c =
    let s = g.H.Host.state c.args.host.now in
    let t = λ (w : List Work). task_by (g.H.Host.state c.args.self.now.start.host.value) c.args.self.now.start.administration.value c.args.diversions.now.ways w c.args.rows.now in
    let w = c.args.works.now.items in
    let is : t c.of-shipped.result.value.items ≡ t w = (λ i. t (c.of-shipped.ensures i).items) in
    let there = c.args.self.now.stack in
    subst (λ (x : Task). (start : State) (before : List Called) → HasSucceeded (IsFileFault x) there start s before c.args.told.now.items
    → Begun (MayRun (there ++ c.args.calls.items)) start (g.H.Host.state c.run_all.new.host) before c.run_all.new.told.items) is c.run_all.ensures.told

pub returns-clause-apart : goal.returns-clause-apart
returns-clause-apart g c = c.run_all.ensures.apart
