use Rattle.std.proofs.Common.{◌≡◌, ◌∷◌, ◌++◌, ◌∙◌, [], inl, inr, ap, string_bytes, subst}
use Rattle.host_files.specs.Shown.{administration_calls, sync_calls}
use Rattle.host_files.specs.Walked.{Includes}
use Rattle.host_files.specs.declared.trace.SystemCall.TheVariants.{SyncSystem}
use Rattle.host_files.proofs.Meeting.{on_ok_with}
use Rattle.host_files.proofs.syncing.flush_any.Goals as goal

pub returns-then-branch-clause-brought : goal.returns-then-branch-clause-brought
returns-then-branch-clause-brought c = inl (c.in_ok-sync_system.ensures.done c.if-branch.true ∙ ap (λ l. SyncSystem ∷ l) c.requires.begun)

pub returns-clause-brought : goal.returns-clause-brought
returns-clause-brought c =
    let front = string_bytes c.args.root.now.front in
    let before = c.in_ok-flush_administration.ensures.synced ∙ ap (λ l. administration_calls front ++ l) c.in_ok-flush_directories.ensures.brought in
    on_ok_with c.walk.result (λ walked calls. inr (subst (λ l. Includes l c.walk.new.system.trace.calls) before calls, walked)) c.walk.ensures.walked c.walk.ensures.calls
