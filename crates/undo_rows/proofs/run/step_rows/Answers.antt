use Rattle.std.proofs.Common.{◌≡◌, ◌+◌, List, [], ◌∷◌, ◌++◌, Option, length, refl, sym, ap, subst, ◌∙◌, append_assoc, length-append, rules}
use Rattle.std.proofs.lemmas.List.{append-nil, nil_from_length}
use Rattle.host_core.specs.World.{is_kept}
use Rattle.host_core.specs.Host.{State}
use Rattle.undo_rows.specs.declared.rows.Called.{Called}
use Rattle.undo_rows.specs.declared.rows.Row.{Row}
use Rattle.undo_rows.specs.declared.fall.Fall.{Fall}
use Rattle.undo_rows.specs.Place.{Forward, leads}
use Rattle.undo_rows.specs.Telling.{Begun, HasStepped, HasSucceeded}
use Rattle.undo_rows.specs.Transcripts.{MayRun}
use Rattle.undo_rows.proofs.Listed.{at_once, behind, behind_one, fit_at, next_part, nothing_done}
use Rattle.scattered_losses.proofs.GoingApart.{faults_behind, fails_so, gone_by, gone_here, gone_on, later_of, passed_on}
use Rattle.undo_rows.proofs.run.step_rows.Goals as goal

pub loop-row-init : goal.loop-row-init
loop-row-init g c =
    let A = g.A.Around in
    let s = g.H.Host.state c.args.host.now in
    let t = A.task c.args.around.now in
    let there = c.args.stack.now in
    let same : there ≡ there ++ [] = sym (append-nil there) in
    record {
      left = search rules;
      stack = same;
      succeeded = λ start before first. subst (λ (l : List Row). HasSucceeded (A.file_step_fault t) l start s before c.args.told.now.items) same first;
      place = subst (λ (l : List Row). A.at c.args.around.now s (Forward (length l))) same c.requires.place;
      any_moment = at_once (A.stops t) (is_kept (A.kept c.args.around.now)) s (λ h more v only. g.met.A.Around.holds c.args.around.now s (Forward (length there)) more v c.requires.place h only);
      task = refl;
      reference = refl;
      apart = gone_here A.area s;
      counts = search rules;
    }

pub step-requires-clause-place : goal.step-requires-clause-place
step-requires-clause-place g c = subst (λ (l : List Row). g.A.Around.at c.loop-row.around (g.H.Host.state c.loop-row.host) (Forward (length l))) (sym c.loop-row.invariant.stack) c.loop-row.invariant.place

pub step-requires-clause-row : goal.step-requires-clause-row
step-requires-clause-row g c =
    let A = g.A.Around in
    let inv = c.loop-row.invariant in
    let fits = A.fits (A.task c.args.around.now) in
    let there = c.args.stack.now in
    let xs = c.loop-row.yielded in
    let walk : c.args.rows.items ≡ xs ++ c.in-Some.row ∷ c.next.new.self.rest.items = search rules in
    let here = fit_at fits (there ++ c.args.rows.items) (there ++ xs) c.in-Some.row c.next.new.self.rest.items (behind there c.args.rows.items xs (c.in-Some.row ∷ c.next.new.self.rest.items) walk) c.requires.rows in
    subst (λ t. A.fits t (length c.loop-row.stack) c.in-Some.row) (sym inv.task) (subst (λ (l : List Row). fits (length l) c.in-Some.row) (sym inv.stack) here)

pub loop-row-preserved-in_default : goal.loop-row-preserved-in_default
loop-row-preserved-in_default g c =
    let A = g.A.Around in
    let inv = c.loop-row.invariant in
    let t = A.task c.args.around.now in
    let a = g.H.Host.state c.args.host.now in
    let b = g.H.Host.state c.loop-row.host in
    let d = g.H.Host.state c.step.new.host in
    let there = c.args.stack.now in
    let xs = c.loop-row.yielded in
    let row = c.in-Some.row in
    let was = c.loop-row.told.items in
    let walk : c.args.rows.items ≡ xs ++ row ∷ c.next.new.self.rest.items = search rules in
    let now = c.step.new.told.items in
    let stepped = subst (λ (o : Option Fall). HasStepped (A.file_step_fault t) row o b d was now) c.in_default.is
    (subst (λ u. HasStepped (A.file_step_fault u) row c.in_ok-fall.field-0 b d was now) inv.task c.in_ok-fall.ensures.calls) in
    record {
      left = walk ∙ sym (append_assoc xs (row ∷ []) c.next.new.self.rest.items);
      stack = c.in_ok-fall.ensures.rows ∙ ap (λ (l : List Row). l ++ row ∷ []) inv.stack ∙ append_assoc there xs (row ∷ []);
      succeeded = λ start before first. subst (λ (l : List Row). HasSucceeded (A.file_step_fault t) l start d before now) (append_assoc there xs (row ∷ []))
          (c.steps_and_an_unwind_are_a_run.ensures.step t (there ++ xs) row start b d before was now (inv.succeeded start before first) stepped);
      place = subst (λ n. A.at c.step.new.around d (Forward n)) (ap (λ (l : List Row). length l + 1) inv.stack ∙ behind_one there xs row)
          (subst (λ (o : Option Fall). A.at c.step.new.around d (leads (length c.loop-row.stack) o)) c.in_default.is c.in_ok-fall.ensures.place);
      any_moment = next_part _ A.stops _ _ inv.task _ _ _ inv.any_moment c.step.ensures.any_moment;
      task = c.step.ensures.task ∙ inv.task;
      reference = c.step.ensures.reference ∙ inv.reference;
      apart = gone_on A.area a b d inv.apart (gone_by A.area _ b d c.step.ensures.any_moment c.in_ok-fall.ensures.apart);
      counts = search rules;
    }

pub loop-row-preserved : goal.loop-row-preserved
loop-row-preserved g c =
    let A = g.A.Around in
    let inv = c.loop-row.invariant in
    let t = A.task c.args.around.now in
    let a = g.H.Host.state c.args.host.now in
    let b = g.H.Host.state c.loop-row.host in
    let d = g.H.Host.state c.step.new.host in
    let there = c.args.stack.now in
    let xs = c.loop-row.yielded in
    let row = c.in-Some.row in
    let was = c.loop-row.told.items in
    let walk : c.args.rows.items ≡ xs ++ row ∷ c.next.new.self.rest.items = search rules in
    let now = c.step.new.told.items in
    let stepped = subst (λ (o : Option Fall). HasStepped (A.file_step_fault t) row o b d was now) c.in_default.is
    (subst (λ u. HasStepped (A.file_step_fault u) row c.in_ok-fall.field-0 b d was now) inv.task c.in_ok-fall.ensures.calls) in
    record {
      left = walk ∙ sym (append_assoc xs (row ∷ []) c.next.new.self.rest.items);
      stack = c.in_ok-fall.ensures.rows ∙ ap (λ (l : List Row). l ++ row ∷ []) inv.stack ∙ append_assoc there xs (row ∷ []);
      succeeded = λ start before first. subst (λ (l : List Row). HasSucceeded (A.file_step_fault t) l start d before now) (append_assoc there xs (row ∷ []))
          (c.steps_and_an_unwind_are_a_run.ensures.step t (there ++ xs) row start b d before was now (inv.succeeded start before first) stepped);
      place = subst (λ n. A.at c.step.new.around d (Forward n)) (ap (λ (l : List Row). length l + 1) inv.stack ∙ behind_one there xs row)
          (subst (λ (o : Option Fall). A.at c.step.new.around d (leads (length c.loop-row.stack) o)) c.in_default.is c.in_ok-fall.ensures.place);
      any_moment = next_part _ A.stops _ _ inv.task _ _ _ inv.any_moment c.step.ensures.any_moment;
      task = c.step.ensures.task ∙ inv.task;
      reference = c.step.ensures.reference ∙ inv.reference;
      apart = gone_on A.area a b d inv.apart (gone_by A.area _ b d c.step.ensures.any_moment c.in_ok-fall.ensures.apart);
      counts = search rules;
    }

pub returns-in_err-forward-clause-told : goal.returns-in_err-forward-clause-told
returns-in_err-forward-clause-told g c =
    let inv = c.loop-row.invariant in
    let b = g.H.Host.state c.loop-row.host in
    let was = c.loop-row.told.items in
    let there = c.args.stack.now in
    let xs = c.loop-row.yielded in
    let rest = c.loop-row.row-iterator.rest.items in
    λ start before first. subst (λ (l : List Row). Begun (MayRun l) start b before was) (sym {A = List Row} (behind there c.args.rows.items xs rest inv.left))
    (c.what_is_broken_off_begins_a_run.ensures.beside (g.A.Around.task c.args.around.now) (there ++ xs) rest start b b before was (inv.succeeded start before first) (nothing_done b))

pub returns-in_err-fall-clause-told : goal.returns-in_err-fall-clause-told
returns-in_err-fall-clause-told g c =
    let inv = c.loop-row.invariant in
    let b = g.H.Host.state c.loop-row.host in
    let d = g.H.Host.state c.step.new.host in
    let was = c.loop-row.told.items in
    let now = c.step.new.told.items in
    let there = c.args.stack.now in
    let xs = c.loop-row.yielded in
    let row = c.in-Some.row in
    let rest = c.next.new.self.rest.items in
    let walk : c.args.rows.items ≡ xs ++ row ∷ rest = search rules in
    λ start before first. subst (λ (l : List Row). Begun (MayRun l) start d before now) (sym (behind there c.args.rows.items xs (row ∷ rest) walk))
    (c.what_is_broken_off_begins_a_run.ensures.step (g.A.Around.task c.args.around.now) (there ++ xs) rest row start b d before was now (inv.succeeded start before first) c.step.ensures.told)

pub returns-in_err-fall-clause-any_moment : goal.returns-in_err-fall-clause-any_moment
returns-in_err-fall-clause-any_moment g c =
    let inv = c.loop-row.invariant in
    next_part _ g.A.Around.stops _ _ inv.task _ _ _ inv.any_moment c.step.ensures.any_moment

pub returns-in-Some-2-clause-told : goal.returns-in-Some-2-clause-told
returns-in-Some-2-clause-told g c =
    let inv = c.loop-row.invariant in
    let b = g.H.Host.state c.loop-row.host in
    let d = g.H.Host.state c.step.new.host in
    let was = c.loop-row.told.items in
    let now = c.step.new.told.items in
    let there = c.args.stack.now in
    let xs = c.loop-row.yielded in
    let row = c.in-Some.row in
    let rest = c.next.new.self.rest.items in
    let walk : c.args.rows.items ≡ xs ++ row ∷ rest = search rules in
    λ start before first. subst (λ (l : List Row). Begun (MayRun l) start d before now) (sym (behind there c.args.rows.items xs (row ∷ rest) walk))
    (c.what_is_broken_off_begins_a_run.ensures.step (g.A.Around.task c.args.around.now) (there ++ xs) rest row start b d before was now (inv.succeeded start before first) c.step.ensures.told)

pub returns-in-Some-2-clause-any_moment : goal.returns-in-Some-2-clause-any_moment
returns-in-Some-2-clause-any_moment g c =
    let inv = c.loop-row.invariant in
    next_part _ g.A.Around.stops _ _ inv.task _ _ _ inv.any_moment c.step.ensures.any_moment

pub returns-clause-told : goal.returns-clause-told
returns-clause-told g c =
    let inv = c.loop-row.invariant in
    let b = g.H.Host.state c.loop-row.host in
    let was = c.loop-row.told.items in
    let there = c.args.stack.now in
    let xs = c.loop-row.yielded in
    let rest = c.loop-row.row-iterator.rest.items in
    λ start before first. subst (λ (l : List Row). Begun (MayRun l) start b before was) (sym {A = List Row} (behind there c.args.rows.items xs rest inv.left))
    (c.what_is_broken_off_begins_a_run.ensures.beside (g.A.Around.task c.args.around.now) (there ++ xs) rest start b b before was (inv.succeeded start before first) (nothing_done b))

pub returns-in_err-forward-clause-apart : goal.returns-in_err-forward-clause-apart
returns-in_err-forward-clause-apart g c =
    fails_so g.A.Around.area c.from_residual.result (g.H.Host.state c.args.host.now) (g.H.Host.state c.loop-row.host) c.loop-row.invariant.apart (passed_on _ _ c.from_residual.result c.from_residual.ensures.1)

pub returns-in_err-fall-clause-apart : goal.returns-in_err-fall-clause-apart
returns-in_err-fall-clause-apart g c =
    let b = g.H.Host.state c.loop-row.host in
    let d = g.H.Host.state c.step.new.host in
    faults_behind g.A.Around.area c.from_residual-in_err-fall.result (g.H.Host.state c.args.host.now) b d c.loop-row.invariant.apart (later_of _ b d c.step.ensures.any_moment) (λ h. (c.step.ensures.apart h).0)
    (passed_on _ _ c.from_residual-in_err-fall.result c.from_residual-in_err-fall.ensures.1)

pub returns-in-Some-2-clause-apart : goal.returns-in-Some-2-clause-apart
returns-in-Some-2-clause-apart g c =
    let b = g.H.Host.state c.loop-row.host in
    let d = g.H.Host.state c.step.new.host in
    (gone_on g.A.Around.area (g.H.Host.state c.args.host.now) b d c.loop-row.invariant.apart (gone_by g.A.Around.area _ b d c.step.ensures.any_moment c.in_ok-fall.ensures.apart)).1

pub returns-clause-apart : goal.returns-clause-apart
returns-clause-apart g c = c.loop-row.invariant.apart.1

pub returns-in-Some-2-clause-calls : goal.returns-in-Some-2-clause-calls
returns-in-Some-2-clause-calls g c =
    let A = g.A.Around in
    let inv = c.loop-row.invariant in
    let there = c.args.stack.now in
    let xs = c.loop-row.yielded in
    let row = c.in-Some.row in
    let rest = c.next.new.self.rest.items in
    let walk : c.args.rows.items ≡ xs ++ row ∷ rest = search rules in
    let b = g.H.Host.state c.loop-row.host in
    let d = g.H.Host.state c.step.new.host in
    record {
      before = there ++ xs;
      row = row;
      after = rest;
      rows_are = behind there c.args.rows.items xs (row ∷ rest) walk;
      stack_is = search rules;
      fell_at = search rules;
      forward_is = search rules;
      between = b;
      so_far = c.loop-row.told.items;
      succeeded = inv.succeeded;
      failed = search rules;
    }

pub returns-clause-calls : goal.returns-clause-calls
returns-clause-calls g c =
    let inv = c.loop-row.invariant in
    let there = c.args.stack.now in
    let xs = c.loop-row.yielded in
    let rest = c.loop-row.row-iterator.rest in
    let none : rest.items ≡ [] = nil_from_length rest.items (sym rest.ok.0 ∙ c.in-None.ensures.steps.0) in
    let same : c.args.rows.items ≡ xs = inv.left ∙ ap (λ (l : List Row). xs ++ l) none ∙ append-nil xs in
    λ start before first. subst (λ (l : List Row). HasSucceeded (g.A.Around.file_step_fault (g.A.Around.task c.args.around.now)) (there ++ l) start (g.H.Host.state c.loop-row.host) before c.loop-row.told.items) (sym same)
    (inv.succeeded start before first)
