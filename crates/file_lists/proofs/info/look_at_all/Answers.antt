use Rattle.std.proofs.Common.{◌≡◌, sym, subst, true, false, rules}
use Rattle.std.specs.BTreeSet.{contains_text}
use Rattle.std.specs.String.{string_bytes}
use Rattle.std.proofs.lemmas.Map.Text.{btree_set_updates_text}
use Rattle.host_core.specs.Paths.{Path, is_path}
use Rattle.host_core.specs.World.{World}
use Rattle.host_core.proofs.Moments.{reads_then}
use Rattle.host_overlay.specs.Seen.{seen}
use Rattle.file_lists.specs.Info.{IsSound, entry_path}
use Rattle.file_lists.specs.Owners.{names_of}
use Rattle.file_lists.specs.Reading.{HasTaken, IsFaultAmong, IsFaultAt}
use Rattle.file_lists.proofs.Among.{above_text, none_left, amid_more, amid_sound, amid_taken, first_among}
use Rattle.file_lists.proofs.Looked.{fault_told}
use Rattle.file_lists.proofs.info.look_at_all.Goals as goal

pub look_at-requires : goal.look_at-requires
look_at-requires g c = λ h.
    subst (λ (e : Path). is_path (entry_path e) ≡ true) (sym c.as_str.ensures.value)
    (c.requires (c.loop-entry.invariant.silent.honest h) (string_bytes c.in-Some.entry) ((c.loop-entry.invariant.amid h).less (string_bytes c.in-Some.entry) c.in-Some.ensures.member))

pub loop-entry-preserved : goal.loop-entry-preserved
loop-entry-preserved g c =
    let before = c.loop-entry.invariant in
    let w = seen c.args.shown.now (g.H.Host.state c.args.host.now).world in
    let names = names_of c.loop-entry.table in
    let key = string_bytes c.in-Some.entry in
    record {
      silent = search rules;
      counts = search rules;
      reads = reads_then _ _ _ before.reads c.look_at.ensures.reads;
      amid = λ h.
          (let sound = subst (λ (e : Path). IsSound names e (seen c.args.shown.now (g.H.Host.state c.loop-entry.host).world (entry_path e))) c.as_str.ensures.value (c.in_ok-look_at.ensures.sound h) in
          let taken = subst (λ (e : Path). HasTaken e (seen c.args.shown.now (g.H.Host.state c.loop-entry.host).world (entry_path e)) c.loop-entry.table c.look_at.new.table) c.as_str.ensures.value (c.in_ok-look_at.ensures.taken h) in
          amid_more w (contains_text c.args.entries.now) (contains_text c.loop-entry.entries) (contains_text c.pop_first.new.self) c.args.table.now c.loop-entry.table c.look_at.new.table key (before.amid (c.look_at.ensures.silent.honest h)) c.in-Some.ensures.member
          (btree_set_updates_text key c.loop-entry.entries c.pop_first.new.self false c.in-Some.ensures.updates)
          (subst (λ (v : World). IsSound names key (seen c.args.shown.now v (entry_path key))) before.reads.world sound)
          (subst (λ (v : World). HasTaken key (seen c.args.shown.now v (entry_path key)) c.loop-entry.table c.look_at.new.table) before.reads.world taken));
    }

pub returns-in_err-look_at-clause-reads : goal.returns-in_err-look_at-clause-reads
returns-in_err-look_at-clause-reads g c = reads_then _ _ _ c.loop-entry.invariant.reads c.look_at.ensures.reads

pub returns-in_err-look_at-clause-fault : goal.returns-in_err-look_at-clause-fault
returns-in_err-look_at-clause-fault g c = λ h.
    let before = c.loop-entry.invariant in
    let w = seen c.args.shown.now (g.H.Host.state c.args.host.now).world in
    let names = names_of c.loop-entry.table in
    let key = string_bytes c.in-Some.entry in
    let fault = subst (λ (e : Path). IsFaultAt (seen c.args.shown.now (g.H.Host.state c.loop-entry.host).world) names e c.in_err-look_at.field-0.0) c.as_str.ensures.value (c.in_err-look_at.ensures.fault h) in
    fault_told (IsFaultAmong w (names_of c.args.table.now) (contains_text c.args.entries.now)) c.in_err-look_at.field-0.0 c.from_residual.result c.from_residual.ensures.1
    (first_among w (contains_text c.args.entries.now) (contains_text c.loop-entry.entries) (contains_text c.pop_first.new.self) c.args.table.now c.loop-entry.table key c.in_err-look_at.field-0.0 (before.amid (c.look_at.ensures.silent.honest h)) c.in-Some.ensures.member
    (btree_set_updates_text key c.loop-entry.entries c.pop_first.new.self false c.in-Some.ensures.updates)
    (above_text c.in-Some.entry c.pop_first.new.self c.in-Some.ensures.all_above)
    (subst (λ (v : World). IsFaultAt (seen c.args.shown.now v) names key c.in_err-look_at.field-0.0) before.reads.world fault))

pub returns-clause-taken : goal.returns-clause-taken
returns-clause-taken g c = λ h. amid_taken (seen c.args.shown.now (g.H.Host.state c.args.host.now).world) (contains_text c.args.entries.now) (contains_text c.loop-entry.entries) c.args.table.now c.loop-entry.table (c.loop-entry.invariant.amid h) (none_left c.loop-entry.entries c.in_default.ensures.variant.1)

pub returns-clause-sound : goal.returns-clause-sound
returns-clause-sound g c = λ h. amid_sound (seen c.args.shown.now (g.H.Host.state c.args.host.now).world) (contains_text c.args.entries.now) (contains_text c.loop-entry.entries) c.args.table.now c.loop-entry.table (c.loop-entry.invariant.amid h) (none_left c.loop-entry.entries c.in_default.ensures.variant.1)
