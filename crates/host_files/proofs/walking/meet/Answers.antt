use Rattle.std.proofs.Common.{◌≡◌, ◌∙◌, ◌++◌, ◌∷◌, [], Contains, List, Some, true, false, map, string_bytes, sym, ap, subst}
use Rattle.std.proofs.lemmas.Bool.{true≢false}
use Rattle.std.proofs.lemmas.List.{map-append}
use Rattle.std.proofs.lemmas.List.Elements.{Contains-push}
use Rattle.std.proofs.lemmas.Result.{on_ok_weaker}
use Rattle.host_files.specs.Places.{place_of}
use Rattle.host_files.specs.SystemCalls.{look_call}
use Rattle.host_files.specs.declared.trace.SystemCall.TheVariants.{Apart, SyncFile}
use Rattle.host_files.proofs.Meeting.{apart_met, directory_met, file_met, includes_call, includes_then, seen_at}
use Rattle.host_files.proofs.walking.meet.Goals as goal

pub returns-in_default-clause-calls : goal.returns-in_default-clause-calls
returns-in_default-clause-calls c = includes_call _ c.args.system.now.trace.calls c.look.new.self.trace.calls c.in_ok-seen.ensures.ok

pub returns-then-is_file-clause-met : goal.returns-then-is_file-clause-met
returns-then-is_file-clause-met c =
    let front = string_bytes c.args.root.now.front in
    let at : string_bytes c.in_ok-place.place ≡ place_of front (string_bytes c.args.path) = c.in_ok-place.ensures ∙ ap (place_of front) c.as_str.ensures.value in
    let looked = seen_at front c.as_str-2.result.now (place_of front (string_bytes c.args.path)) c.in_ok-seen.field-0 c.in-Some.seen c.args.system.now.trace.calls c.look.new.self.trace.calls (c.as_str-2.ensures.value ∙ at) c.in-Some.is c.in_ok-seen.ensures.ok in
    on_ok_weaker c.sync_seen.result
    (λ is. file_met front c.look.new.self.trace.calls c.sync_seen.new.self.trace.calls (map string_bytes c.args.walked.now.items) (string_bytes c.args.path) (string_bytes c.in_ok-place.place) c.in-Some.seen looked at is (c.is_file.ensures.0 c.if-is_file.true))
    c.sync_seen.ensures.made

pub returns-then-is_file-clause-calls : goal.returns-then-is_file-clause-calls
returns-then-is_file-clause-calls c = on_ok_weaker c.sync_seen.result
    (λ is. includes_then c.args.system.now.trace.calls c.look.new.self.trace.calls c.sync_seen.new.self.trace.calls
    (includes_call _ c.args.system.now.trace.calls c.look.new.self.trace.calls c.in_ok-seen.ensures.ok)
    (includes_call (SyncFile (string_bytes c.in_ok-place.place)) c.look.new.self.trace.calls c.sync_seen.new.self.trace.calls is))
    c.sync_seen.ensures.made

pub returns-then-not-is_dir-clause-calls : goal.returns-then-not-is_dir-clause-calls
returns-then-not-is_dir-clause-calls c = includes_call _ c.args.system.now.trace.calls c.look.new.self.trace.calls c.in_ok-seen.ensures.ok

pub returns-then-dev-device-clause-met : goal.returns-then-dev-device-clause-met
returns-then-dev-device-clause-met c =
    let front = string_bytes c.args.root.now.front in
    let at : string_bytes c.in_ok-place.place ≡ place_of front (string_bytes c.args.path) = c.in_ok-place.ensures ∙ ap (place_of front) c.as_str.ensures.value in
    let looked = seen_at front c.as_str-2.result.now (place_of front (string_bytes c.args.path)) c.in_ok-seen.field-0 c.in-Some.seen c.args.system.now.trace.calls c.look.new.self.trace.calls (c.as_str-2.ensures.value ∙ at) c.in-Some.is c.in_ok-seen.ensures.ok in
    apart_met front c.look.new.self.trace.calls c.pass_over.new.self.trace.calls (map string_bytes c.args.walked.now.items) (string_bytes c.args.path) c.as_str-then-dev-device.result.now c.in-Some.seen looked
    (c.as_str-then-dev-device.ensures.value ∙ at) c.pass_over.ensures (λ f. true≢false (sym (c.is_file.ensures.1 f) ∙ c.if-is_file.false))

pub returns-then-dev-device-clause-calls : goal.returns-then-dev-device-clause-calls
returns-then-dev-device-clause-calls c =
    includes_then c.args.system.now.trace.calls c.look.new.self.trace.calls c.pass_over.new.self.trace.calls
    (includes_call _ c.args.system.now.trace.calls c.look.new.self.trace.calls c.in_ok-seen.ensures.ok)
    (includes_call (Apart c.as_str-then-dev-device.result.now) c.look.new.self.trace.calls c.pass_over.new.self.trace.calls c.pass_over.ensures)

pub returns-clause-met : goal.returns-clause-met
returns-clause-met c =
    let front = string_bytes c.args.root.now.front in
    let at : string_bytes c.in_ok-place.place ≡ place_of front (string_bytes c.args.path) = c.in_ok-place.ensures ∙ ap (place_of front) c.as_str.ensures.value in
    let looked = seen_at front c.as_str-2.result.now (place_of front (string_bytes c.args.path)) c.in_ok-seen.field-0 c.in-Some.seen c.args.system.now.trace.calls c.look.new.self.trace.calls (c.as_str-2.ensures.value ∙ at) c.in-Some.is c.in_ok-seen.ensures.ok in
    let more : map string_bytes c.push.new.self.items ≡ map string_bytes c.args.walked.now.items ++ string_bytes c.args.path ∷ [] =
    ap (map string_bytes) c.in_ok-push.ensures.items ∙ map-append string_bytes c.args.walked.now.items (c.args.path ∷ []) in
    directory_met front c.look.new.self.trace.calls (map string_bytes c.push.new.self.items) (string_bytes c.args.path) c.in-Some.seen looked
    (subst (λ l. Contains l (string_bytes c.args.path)) (sym more) (Contains-push (map string_bytes c.args.walked.now.items) (string_bytes c.args.path)))
    (λ f. true≢false (sym (c.is_file.ensures.1 f) ∙ c.if-is_file.false))

pub returns-clause-calls : goal.returns-clause-calls
returns-clause-calls c = includes_call _ c.args.system.now.trace.calls c.look.new.self.trace.calls c.in_ok-seen.ensures.ok

pub returns-clause-more : goal.returns-clause-more
returns-clause-more c = (string_bytes c.args.path ∷ [], ap (map string_bytes) c.in_ok-push.ensures.items ∙ map-append string_bytes c.args.walked.now.items (c.args.path ∷ []))
