use Rattle.std.proofs.Common.{◌≡◌, List, [], ◌∷◌, ◌++◌, true, false, sym, ap, subst, ◌∙◌, refl, rules}
use Rattle.undo_rows.specs.declared.rows.Owner.TheVariants.{Files}
use Rattle.undo_rows.specs.declared.failed.Failed.{Failed}
use Rattle.undo_rows.specs.Place.{Back, blamed}
use Rattle.undo_rows.specs.Transcripts.{MayUndo}
use Rattle.undo_rows.specs.Undoing.{Undoes, UndoesAt}
use Rattle.undo_rows.proofs.Parts.{on_ok}
use Rattle.undo_rows.proofs.Tellings.{begun_none, made_none, made_weaker}
use Rattle.undo_rows.proofs.Undone.{undoes_at}
use Rattle.scattered_losses.proofs.GoingApart.{faults_so, passed_on}
use Rattle.undo_rows.proofs.steps.undo.Goals as goal

pub returns-then-is_files-clause-calls : goal.returns-then-is_files-clause-calls
returns-then-is_files-clause-calls g c =
    let row = c.args.row.now in
    let failed = c.args.failed.now.items in
    let files : row.owner ≡ Files = search rules in
    on_ok _ _ (made_none (λ ts. UndoesAt c.args.index row failed ts failed) _ _ _ (false, Undoes.put_back files, refl) c.put_back.ensures.silent)

pub returns-then-is_files-clause-told : goal.returns-then-is_files-clause-told
returns-then-is_files-clause-told g c =
    let files : c.args.row.now.owner ≡ Files = search rules in
    begun_none (MayUndo c.args.row.now c.args.failed.now.items) _ _ _ [] (false, Undoes.put_back files) c.put_back.ensures.silent

pub returns-in_ok-push-clause-calls : goal.returns-in_ok-push-clause-calls
returns-in_ok-push-clause-calls g c =
    let row = c.args.row.now in
    let failed = c.args.failed.now.items in
    let f = c.in_ok-failed_at.field-0 in
    let grown : c.push.new.self.items ≡ failed ++ f ∷ [] = search rules in
    let is : f ≡ record { row = c.args.index; owner = row.owner } = (λ i. record { row = c.in_ok-failed_at.ensures.row i; owner = c.in_ok-failed_at.ensures.owner i }) in
    let now : c.push.new.self.items ≡ blamed true c.args.index row.owner failed = grown ∙ ap (λ (x : Failed). failed ++ x ∷ []) is in
    made_weaker _ (λ ts. UndoesAt c.args.index row failed ts c.push.new.self.items) _ _ _ _ (undoes_at c.args.index row c.in_ok-undo_calls.field-0 c.as_slice-2.result.now failed c.push.new.self.items c.as_slice-2.ensures.value (now ∙ sym (ap (λ b. blamed b c.args.index row.owner failed) c.if-branch.true))) c.in_ok-undo_calls.ensures.calls

pub returns-in_ok-push-clause-place : goal.returns-in_ok-push-clause-place
returns-in_ok-push-clause-place g c =
    let row = c.args.row.now in
    let failed = c.args.failed.now.items in
    let f = c.in_ok-failed_at.field-0 in
    let grown : c.push.new.self.items ≡ failed ++ f ∷ [] = search rules in
    let is : f ≡ record { row = c.args.index; owner = row.owner } = (λ i. record { row = c.in_ok-failed_at.ensures.row i; owner = c.in_ok-failed_at.ensures.owner i }) in
    let now : c.push.new.self.items ≡ blamed true c.args.index row.owner failed = grown ∙ ap (λ (x : Failed). failed ++ x ∷ []) is in
    subst (λ l. g.A.Around.at c.undo_calls.new.around (g.H.Host.state c.undo_calls.new.host) (Back c.args.index c.args.fall.now l)) (sym now ∙ refl)
    (subst (λ (l : List Failed). g.A.Around.at c.undo_calls.new.around (g.H.Host.state c.undo_calls.new.host) (Back c.args.index c.args.fall.now (blamed true c.args.index row.owner l))) c.as_slice-2.ensures.value
    (subst (λ b. g.A.Around.at c.undo_calls.new.around (g.H.Host.state c.undo_calls.new.host) (Back c.args.index c.args.fall.now (blamed b c.args.index row.owner c.as_slice-2.result.now))) c.if-branch.true c.in_ok-undo_calls.ensures.place))

pub returns-else-branch-clause-calls : goal.returns-else-branch-clause-calls
returns-else-branch-clause-calls g c =
    let row = c.args.row.now in
    let failed = c.args.failed.now.items in
    made_weaker _ (λ ts. UndoesAt c.args.index row failed ts failed) _ _ _ _ (undoes_at c.args.index row c.in_ok-undo_calls.field-0 c.as_slice-2.result.now failed failed c.as_slice-2.ensures.value (sym (ap (λ b. blamed b c.args.index row.owner failed) c.if-branch.false))) c.in_ok-undo_calls.ensures.calls

pub returns-in_err-undo_calls-clause-apart : goal.returns-in_err-undo_calls-clause-apart
returns-in_err-undo_calls-clause-apart g c = faults_so g.A.Around.area c.from_residual.result (g.H.Host.state c.args.host.now) (g.H.Host.state c.undo_calls.new.host) (λ h. (c.undo_calls.ensures.apart h).0) (passed_on _ _ c.from_residual.result c.from_residual.ensures.1)

pub returns-in_err-failed_at-clause-apart : goal.returns-in_err-failed_at-clause-apart
returns-in_err-failed_at-clause-apart g c = faults_so g.A.Around.area c.from_residual-in_err-failed_at.result (g.H.Host.state c.args.host.now) (g.H.Host.state c.undo_calls.new.host) (λ h. (c.undo_calls.ensures.apart h).0) (passed_on _ _ c.from_residual-in_err-failed_at.result c.from_residual-in_err-failed_at.ensures.1)

pub returns-in_err-push-clause-apart : goal.returns-in_err-push-clause-apart
returns-in_err-push-clause-apart g c = faults_so g.A.Around.area c.from_residual-in_err-push.result (g.H.Host.state c.args.host.now) (g.H.Host.state c.undo_calls.new.host) (λ h. (c.undo_calls.ensures.apart h).0) (passed_on _ _ c.from_residual-in_err-push.result c.from_residual-in_err-push.ensures.1)

pub returns-in_ok-push-clause-apart : goal.returns-in_ok-push-clause-apart
returns-in_ok-push-clause-apart g c = c.in_ok-undo_calls.ensures.apart

pub returns-else-branch-clause-apart : goal.returns-else-branch-clause-apart
returns-else-branch-clause-apart g c = c.in_ok-undo_calls.ensures.apart
