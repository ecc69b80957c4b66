use Rattle.std.proofs.Common.{◌≡◌, ◌≢◌, Some, None, [], refl, subst, rules}
use Rattle.host_core.specs.Host.{calls}
use Rattle.undo_rows.specs.declared.rows.Owner.TheVariants.{Files}
use Rattle.undo_rows.specs.Transcript.{Goes, Tries, TriesRow}
use Rattle.undo_rows.specs.Transcripts.{IfHonest, MayStep}
use Rattle.undo_rows.proofs.Tellings.{begun_none, begun_weaker, made_none, made_weaker}
use Rattle.undo_rows.proofs.Rowwise.{may_step_files, may_step_calls}
use Rattle.scattered_losses.proofs.GoingApart.{faults_so, passed_on}
use Rattle.undo_rows.proofs.steps.step.Goals as goal

pub returns-in_err-fault-clause-told : goal.returns-in_err-fault-clause-told
returns-in_err-fault-clause-told g c =
    let files : c.args.row.now.owner ≡ Files = search rules in
    begun_none (MayStep c.args.row.now) _ _ _ [] (may_step_files c.args.row.now files) c.work.ensures.silent

pub returns-in_default-clause-told : goal.returns-in_default-clause-told
returns-in_default-clause-told g c =
    let files : c.args.row.now.owner ≡ Files = search rules in
    begun_none (MayStep c.args.row.now) _ _ _ [] (may_step_files c.args.row.now files) c.work.ensures.silent

pub returns-in_default-clause-calls : goal.returns-in_default-clause-calls
returns-in_default-clause-calls g c =
    let fault = IfHonest (g.H.Host.state c.work.new.host) (g.A.Around.file_step_fault (g.A.Around.task c.args.around.now)) in
    let past = calls (g.H.Host.state c.args.host.now) in
    let files : c.args.row.now.owner ≡ Files = search rules in
    made_none (λ ts. Goes fault past c.args.row.now ts None) _ _ _ (Goes.wrote files (subst (fault past) c.in_default.is c.in_ok-fault.ensures.fault)) c.work.ensures.silent

pub returns-then-is_files-clause-told : goal.returns-then-is_files-clause-told
returns-then-is_files-clause-told g c =
    let files : c.args.row.now.owner ≡ Files = search rules in
    begun_none (MayStep c.args.row.now) _ _ _ [] (may_step_files c.args.row.now files) c.work.ensures.silent

pub returns-then-is_files-clause-calls : goal.returns-then-is_files-clause-calls
returns-then-is_files-clause-calls g c =
    let fault = IfHonest (g.H.Host.state c.work.new.host) (g.A.Around.file_step_fault (g.A.Around.task c.args.around.now)) in
    let past = calls (g.H.Host.state c.args.host.now) in
    let files : c.args.row.now.owner ≡ Files = search rules in
    made_none (λ ts. Goes fault past c.args.row.now ts (Some (record { row = c.args.index; fault = Some c.in-Some.fault }))) _ _ _ (Goes.clashed c.in-Some.fault _ files (subst (fault past) c.in-Some.is c.in_ok-fault.ensures.fault) refl) c.work.ensures.silent

pub returns-in_err-step_calls-clause-told : goal.returns-in_err-step_calls-clause-told
returns-in_err-step_calls-clause-told g c =
    let calls : c.args.row.now.owner ≢ Files = search rules in
    begun_weaker (TriesRow c.args.row.now) (MayStep c.args.row.now) _ _ _ _ (may_step_calls c.args.row.now calls) c.step_calls.ensures.told

pub returns-then-branch-clause-told : goal.returns-then-branch-clause-told
returns-then-branch-clause-told g c =
    let calls : c.args.row.now.owner ≢ Files = search rules in
    begun_weaker (TriesRow c.args.row.now) (MayStep c.args.row.now) _ _ _ _ (may_step_calls c.args.row.now calls) c.step_calls.ensures.told

pub returns-then-branch-clause-calls : goal.returns-then-branch-clause-calls
returns-then-branch-clause-calls g c =
    let fault = IfHonest (g.H.Host.state c.step_calls.new.host) (g.A.Around.file_step_fault (g.A.Around.task c.args.around.now)) in
    let past = calls (g.H.Host.state c.args.host.now) in
    let calls : c.args.row.now.owner ≢ Files = search rules in
    made_weaker _ (λ ts. Goes fault past c.args.row.now ts None) _ _ _ _ (λ ts p. Goes.succeeded ts calls (subst (Tries c.args.row.now ts) c.if-branch.true p)) c.in_ok-step_calls.ensures.calls

pub returns-clause-told : goal.returns-clause-told
returns-clause-told g c =
    let calls : c.args.row.now.owner ≢ Files = search rules in
    begun_weaker (TriesRow c.args.row.now) (MayStep c.args.row.now) _ _ _ _ (may_step_calls c.args.row.now calls) c.step_calls.ensures.told

pub returns-clause-calls : goal.returns-clause-calls
returns-clause-calls g c =
    let fault = IfHonest (g.H.Host.state c.step_calls.new.host) (g.A.Around.file_step_fault (g.A.Around.task c.args.around.now)) in
    let past = calls (g.H.Host.state c.args.host.now) in
    let calls : c.args.row.now.owner ≢ Files = search rules in
    made_weaker _ (λ ts. Goes fault past c.args.row.now ts (Some (record { row = c.args.index; fault = None }))) _ _ _ _ (λ ts p. Goes.failed ts _ calls (subst (Tries c.args.row.now ts) c.if-branch.false p) refl) c.in_ok-step_calls.ensures.calls

pub returns-in_err-fault-clause-apart : goal.returns-in_err-fault-clause-apart
returns-in_err-fault-clause-apart g c = faults_so g.A.Around.area c.from_residual.result (g.H.Host.state c.args.host.now) (g.H.Host.state c.work.new.host) (λ h. (c.work.ensures.apart h).0) (passed_on _ _ c.from_residual.result c.from_residual.ensures.1)

pub returns-in_default-clause-apart : goal.returns-in_default-clause-apart
returns-in_default-clause-apart g c = c.in_ok-fault.ensures.apart

pub returns-then-is_files-clause-apart : goal.returns-then-is_files-clause-apart
returns-then-is_files-clause-apart g c = c.in_ok-fault.ensures.apart

pub returns-in_err-step_calls-clause-apart : goal.returns-in_err-step_calls-clause-apart
returns-in_err-step_calls-clause-apart g c = faults_so g.A.Around.area c.from_residual-in_err-step_calls.result (g.H.Host.state c.args.host.now) (g.H.Host.state c.step_calls.new.host) (λ h. (c.step_calls.ensures.apart h).0) (passed_on _ _ c.from_residual-in_err-step_calls.result c.from_residual-in_err-step_calls.ensures.1)

pub returns-then-branch-clause-apart : goal.returns-then-branch-clause-apart
returns-then-branch-clause-apart g c = c.in_ok-step_calls.ensures.apart

pub returns-clause-apart : goal.returns-clause-apart
returns-clause-apart g c = c.in_ok-step_calls.ensures.apart
