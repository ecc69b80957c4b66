use Rattle.std.proofs.Common.{◌≡◌, ◌+◌, ◌-◌, List, drop, length, refl, subst, sym, ◌∙◌, arith, rules}
use Rattle.undo_rows.specs.declared.failed.Failed.{Failed}
use Rattle.host_core.specs.World.{is_kept}
use Rattle.undo_rows.specs.Place.{Back}
use Rattle.undo_rows.specs.Transcripts.{MayUndo, MayUnwind}
use Rattle.undo_rows.specs.Undoing.{UndoesAll, UndoesAt}
use Rattle.undo_rows.proofs.Listed.{at_once}
use Rattle.undo_rows.proofs.Parts.{next_part, nothing_done}
use Rattle.undo_rows.proofs.Tellings.{begun_more, begun_then, begun_whole, made_none, made_then}
use Rattle.undo_rows.proofs.Undone.{none_undone, undoes_more, undoes_on, undoes_one_more}
use Rattle.scattered_losses.proofs.GoingApart.{faults_behind, gone_by, gone_here, gone_on, later_of, passed_on}
use Rattle.undo_rows.proofs.steps.unwind.Goals as goal

pub loop-left-init : goal.loop-left-init
loop-left-init g c =
    let A = g.A.Around in
    let s = g.H.Host.state c.args.host.now in
    let rows = c.args.rows.now in
    let fall = c.args.fall.now in
    let place = subst (λ (l : List Failed). A.at c.args.around.now s (Back (length rows) fall l)) (sym c.requires.none) c.requires.place in
    record {
      within = omega arith;
      undone = made_none (λ ts. UndoesAll (length rows) (drop (length rows) rows) ts c.args.failed.now.items) s s c.args.told.now.items (none_undone rows c.args.failed.now.items c.requires.none) (nothing_done s);
      place = place;
      any_moment = at_once (A.stops (A.task c.args.around.now)) (is_kept (A.kept c.args.around.now)) s (λ h more v only. g.met.A.Around.holds c.args.around.now s (Back (length rows) fall c.args.failed.now.items) more v place h only);
      task = refl;
      reference = refl;
      apart = gone_here A.area s;
      counts = search rules;
    }

pub loop-left-preserved : goal.loop-left-preserved
loop-left-preserved g c =
    let A = g.A.Around in
    let inv = c.loop-left.invariant in
    let rows = c.args.rows.now in
    let i = c.loop-left.left - 1 in
    let next : i + 1 ≡ c.loop-left.left = omega arith in
    let before = c.loop-left.failed.items in
    record {
      within = omega arith;
      undone = made_then (λ ts. UndoesAll c.loop-left.left (drop c.loop-left.left rows) ts before) (λ ts. UndoesAll i (drop i rows) ts c.undo.new.failed.items) (λ _ ts. UndoesAt i c.index-rows-left.result before ts c.undo.new.failed.items) _ _ _ _ _ _
          (λ x y p q. undoes_more rows i c.index-rows-left.result (omega arith) c.index-rows-left.is before c.undo.new.failed.items x y (subst (λ n. UndoesAll n (drop n rows) x before) (sym next) p) q)
          inv.undone c.in_ok-undo.ensures.calls;
      place = c.in_ok-undo.ensures.place;
      any_moment = next_part _ A.stops _ _ inv.task _ _ _ inv.any_moment c.undo.ensures.any_moment;
      task = c.undo.ensures.task ∙ inv.task;
      reference = c.undo.ensures.reference ∙ inv.reference;
      apart = gone_on A.area _ _ _ inv.apart (gone_by A.area _ _ _ c.undo.ensures.any_moment c.in_ok-undo.ensures.apart);
      counts = search rules;
    }

pub returns-in_err-undo-clause-told : goal.returns-in_err-undo-clause-told
returns-in_err-undo-clause-told g c =
    let inv = c.loop-left.invariant in
    let rows = c.args.rows.now in
    let i = c.loop-left.left - 1 in
    let next : i + 1 ≡ c.loop-left.left = omega arith in
    let row = c.index-rows-left.result in
    let before = c.loop-left.failed.items in
    begun_more (λ ts. (now : List Failed) × UndoesAll i (drop i rows) ts now) (MayUnwind rows) _ _ _ _ (λ ts is. undoes_on rows i (omega arith) is.0 ts is.1)
    (begun_then (λ ts. UndoesAll c.loop-left.left (drop c.loop-left.left rows) ts before) (MayUndo row before) (λ ts. (now : List Failed) × UndoesAll i (drop i rows) ts now) _ _ _ _ _ _
    (λ x y p q. undoes_one_more rows i row (omega arith) c.index-rows-left.is before x y (subst (λ n. UndoesAll n (drop n rows) x before) (sym next) p) q)
    inv.undone c.undo.ensures.told)

pub returns-in_err-undo-clause-any_moment : goal.returns-in_err-undo-clause-any_moment
returns-in_err-undo-clause-any_moment g c =
    let inv = c.loop-left.invariant in
    next_part _ g.A.Around.stops _ _ inv.task _ _ _ inv.any_moment c.undo.ensures.any_moment

pub returns-clause-told : goal.returns-clause-told
returns-clause-told g c =
    let inv = c.loop-left.invariant in
    let rows = c.args.rows.now in
    begun_more (λ ts. UndoesAll c.loop-left.left (drop c.loop-left.left rows) ts c.loop-left.failed.items) (MayUnwind rows) _ _ _ _ (undoes_on rows c.loop-left.left inv.within c.loop-left.failed.items) (begun_whole _ _ _ _ _ inv.undone)

pub returns-in_err-undo-clause-apart : goal.returns-in_err-undo-clause-apart
returns-in_err-undo-clause-apart g c =
    let b = g.H.Host.state c.loop-left.host in
    let d = g.H.Host.state c.undo.new.host in
    faults_behind g.A.Around.area c.from_residual.result (g.H.Host.state c.args.host.now) b d c.loop-left.invariant.apart (later_of _ b d c.undo.ensures.any_moment) (λ h. (c.undo.ensures.apart h).0)
    (passed_on _ _ c.from_residual.result c.from_residual.ensures.1)

pub returns-clause-apart : goal.returns-clause-apart
returns-clause-apart g c = c.loop-left.invariant.apart.1
