use Rattle.std.proofs.Common.{◌∷◌, [], ap, ◌∙◌}
use Rattle.std.specs.Fs.{metadata_mode}
use Rattle.host_files.specs.SystemCalls.{look_call}
use Rattle.host_files.specs.declared.trace.SystemCall.TheVariants.{SyncFile}
use Rattle.host_files.proofs.RememberedLaws.{looked_at}
use Rattle.host_files.proofs.syncing.flush_at.Goals as goal

pub returns-in-Some-clause-sure : goal.returns-in-Some-clause-sure
returns-in-Some-clause-sure c = (metadata_mode c.in-Some.found, ([], c.args.system.now.trace.calls, c.in_ok-found.ensures.ok ∙ ap (λ o. look_call c.args.place.now o ∷ c.args.system.now.trace.calls) c.in-Some.is))

pub returns-in-Some-2-clause-sure : goal.returns-in-Some-2-clause-sure
returns-in-Some-2-clause-sure c = looked_at c.sync_file.result c.args.place.now c.in-Some-2.found (SyncFile c.args.place.now ∷ []) c.args.system.now.trace.calls c.sync_file.new.self.trace.calls
    (c.sync_file.ensures.made ∙ ap (λ l. SyncFile c.args.place.now ∷ l) (c.in_ok-found.ensures.ok ∙ ap (λ o. look_call c.args.place.now o ∷ c.args.system.now.trace.calls) c.in-Some-2.is))
