use Rattle.std.proofs.Common.{◌≡◌, ◌∷◌, ◌-◌, ◌<◌, ◌≤◌, ◌∙◌, length, map, string_bytes, ap, arith, subst}
use Rattle.std.proofs.lemmas.List.{length-map}
use Rattle.host_files.specs.Places.{place_of}
use Rattle.host_files.specs.declared.trace.SystemCall.TheVariants.{SyncDirectory}
use Rattle.host_files.proofs.Meeting.{AreSynced, all_synced, includes_call, includes_then, one_synced, path_at}
use Rattle.host_files.proofs.walking.sync_backwards.Goals as goal

pub loop-at-preserved : goal.loop-at-preserved
loop-at-preserved c =
    let before = c.loop-at.invariant in
    let front = string_bytes c.args.root.now.front in
    let walked = map string_bytes c.args.walked.now in
    let some : 0 < c.loop-at.at = omega arith in
    let low : c.loop-at.at - 1 < length c.args.walked.now = omega arith in
    let within : c.loop-at.at ≤ length (map string_bytes c.args.walked.now) = simp length-map (omega arith) in
    let path = c.as_str.ensures.value ∙ path_at c.args.walked.now (c.loop-at.at - 1) c.index-walked-at.result low c.index-walked-at.is in
    let made = c.in_ok-sync_directory.ensures.made in
    record {
      synced = one_synced front c.loop-at.system.trace.calls c.sync_directory.new.self.trace.calls walked c.loop-at.at c.as_str.result.now some within path made before.synced;
      calls = includes_then c.args.system.now.trace.calls c.loop-at.system.trace.calls c.sync_directory.new.self.trace.calls before.calls (includes_call (SyncDirectory (place_of front c.as_str.result.now)) c.loop-at.system.trace.calls c.sync_directory.new.self.trace.calls made);
      same = c.sync_directory.ensures.same ∙ before.same;
    }

pub returns-clause-synced : goal.returns-clause-synced
returns-clause-synced c =
    let front = string_bytes c.args.root.now.front in
    let none : c.loop-at.at ≡ 0 = omega arith in
    all_synced front c.loop-at.system.trace.calls (map string_bytes c.args.walked.now) (subst (AreSynced front c.loop-at.system.trace.calls (map string_bytes c.args.walked.now)) none c.loop-at.invariant.synced)
