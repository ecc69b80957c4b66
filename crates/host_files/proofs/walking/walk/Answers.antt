use Rattle.std.proofs.Common.{[], Contains, map, string_bytes, subst, sym}
use Rattle.std.proofs.lemmas.Result.{on_ok_weaker}
use Rattle.host_files.proofs.Meeting.{goes_includes, includes_itself, includes_then, listed_more, on_ok_with, root_there}
use Rattle.host_files.proofs.walking.walk.Goals as goal

pub returns-clause-walked : goal.returns-clause-walked
returns-clause-walked c =
    let walked = map string_bytes c.walk_all.new.walked.items in
    let root = root_there c.new-walked.result.items c.push.new.self.items c.new.result c.in_ok-push.ensures.items c.new.ensures.bytes in
    on_ok_with c.sync_backwards.result
    (λ synced calls. (
      walked,
      goes_includes (map string_bytes c.push.new.self.items) walked c.in_ok-walk_all.ensures.more [] root,
      λ path has. (
        listed_more (string_bytes c.args.root.now.front) c.walk_all.new.system.trace.calls c.sync_backwards.new.system.trace.calls walked walked path calls (includes_itself walked) (c.in_ok-walk_all.ensures.listed path has),
        synced path (subst (λ l. Contains (map string_bytes l) path) (sym c.as_slice.ensures.value) has),
      ),
    ))
    c.sync_backwards.ensures.synced c.sync_backwards.ensures.calls

pub returns-clause-calls : goal.returns-clause-calls
returns-clause-calls c = on_ok_weaker c.sync_backwards.result
    (λ calls. includes_then c.args.system.now.trace.calls c.device_of.new.system.trace.calls c.sync_backwards.new.system.trace.calls c.in_ok-device.ensures.calls
    (includes_then c.device_of.new.system.trace.calls c.walk_all.new.system.trace.calls c.sync_backwards.new.system.trace.calls c.in_ok-walk_all.ensures.calls calls))
    c.sync_backwards.ensures.calls
