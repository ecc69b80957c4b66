use Rattle.std.proofs.Common.{Contains, map, string_bytes, subst, sym}
use Rattle.std.proofs.lemmas.Result.{on_ok_weaker}
use Rattle.host_files.specs.Places.{place_of}
use Rattle.host_files.specs.declared.trace.SystemCall.TheVariants.{Names}
use Rattle.host_files.proofs.Meeting.{has_call, includes_call, includes_then, on_ok_with}
use Rattle.host_files.proofs.walking.walk_through.Goals as goal

pub returns-clause-listed : goal.returns-clause-listed
returns-clause-listed c =
    let place = place_of (string_bytes c.args.root.now.front) c.args.directory.now in
    let names = map string_bytes c.in_ok-names.names.items in
    on_ok_with c.meet_all.result
    (λ met calls. (
      names,
      calls _ (has_call (Names place names) c.args.system.now.trace.calls c.names_in.new.self.trace.calls c.in_ok-names.ensures.told),
      λ name has. met name (subst (λ l. Contains (map string_bytes l) name) (sym c.as_slice.ensures.value) has),
    ))
    c.meet_all.ensures.met c.meet_all.ensures.calls

pub returns-clause-calls : goal.returns-clause-calls
returns-clause-calls c =
    let place = place_of (string_bytes c.args.root.now.front) c.args.directory.now in
    let names = map string_bytes c.in_ok-names.names.items in
    on_ok_weaker c.meet_all.result
    (λ calls. includes_then c.args.system.now.trace.calls c.names_in.new.self.trace.calls c.meet_all.new.system.trace.calls
    (includes_call (Names place names) c.args.system.now.trace.calls c.names_in.new.self.trace.calls c.in_ok-names.ensures.told) calls)
    c.meet_all.ensures.calls
