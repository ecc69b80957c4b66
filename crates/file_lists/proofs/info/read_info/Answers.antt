use Rattle.std.proofs.Common.{subst}
use Rattle.std.specs.BTreeSet.{contains_text}
use Rattle.host_core.specs.World.{World}
use Rattle.host_core.proofs.Moments.{reads_then}
use Rattle.host_overlay.specs.Seen.{seen}
use Rattle.file_lists.specs.Info.{IsInfoDamage}
use Rattle.file_lists.specs.Owners.{names_of}
use Rattle.file_lists.specs.Reading.{IsFaultAmong, AreSoundAmong, HaveTaken}
use Rattle.file_lists.proofs.Looked.{fault_told}
use Rattle.file_lists.proofs.WholeInfo.{among_same, are_sound, entry_damage, has_lists}
use Rattle.file_lists.proofs.info.read_info.Goals as goal

pub returns-in_err-look_at_all-clause-damage : goal.returns-in_err-look_at_all-clause-damage
returns-in_err-look_at_all-clause-damage g c = λ h.
    let w = seen c.args.shown.now (g.H.Host.state c.args.host.now).world in
    let all = contains_text c.in_ok-entries.entries in
    let mine = names_of c.in_ok-table.table in
    let fault = c.in_err-look_at_all.field-0.0 in
    fault_told (IsInfoDamage w c.args.names.now) fault c.from_residual-in_err-look_at_all.result c.from_residual-in_err-look_at_all.ensures.1
    (entry_damage w c.args.names.now mine all fault (c.in_ok-entries.ensures.entries (c.look_at_all.ensures.silent.honest h)) c.in_ok-table.ensures.names
    (subst (λ (v : World). IsFaultAmong (seen c.args.shown.now v) mine all fault) c.entries_in.ensures.reads.world (c.in_err-look_at_all.ensures.fault h)))

pub returns-in_err-look_at_all-clause-reads : goal.returns-in_err-look_at_all-clause-reads
returns-in_err-look_at_all-clause-reads g c = reads_then _ _ _ c.entries_in.ensures.reads c.look_at_all.ensures.reads

pub returns-clause-lists : goal.returns-clause-lists
returns-clause-lists g c = λ h.
    let w = seen c.args.shown.now (g.H.Host.state c.args.host.now).world in
    let all = contains_text c.in_ok-entries.entries in
    let empty = c.in_ok-table.table in
    let before = c.look_at_all.ensures.silent.honest h in
    let sound = subst (λ (v : World). AreSoundAmong (seen c.args.shown.now v) (names_of empty) all) c.entries_in.ensures.reads.world (c.in_ok-look_at_all.ensures.sound h) in
    let taken = subst (λ (v : World). HaveTaken (seen c.args.shown.now v) all empty c.look_at_all.new.table) c.entries_in.ensures.reads.world (c.in_ok-look_at_all.ensures.taken h) in
    has_lists w c.args.names.now all empty c.look_at_all.new.table (c.requires.sources (c.entries_in.ensures.silent.honest before)).tree (c.in_ok-entries.ensures.entries before)
    (among_same w (names_of empty) c.args.names.now all c.in_ok-table.ensures.names sound) c.in_ok-table.ensures.names c.in_ok-table.ensures.empty taken

pub returns-clause-sound : goal.returns-clause-sound
returns-clause-sound g c = λ h.
    let w = seen c.args.shown.now (g.H.Host.state c.args.host.now).world in
    let all = contains_text c.in_ok-entries.entries in
    let empty = c.in_ok-table.table in
    let before = c.look_at_all.ensures.silent.honest h in
    let sound = subst (λ (v : World). AreSoundAmong (seen c.args.shown.now v) (names_of empty) all) c.entries_in.ensures.reads.world (c.in_ok-look_at_all.ensures.sound h) in
    are_sound w c.args.names.now all (c.in_ok-entries.ensures.entries before) (among_same w (names_of empty) c.args.names.now all c.in_ok-table.ensures.names sound)

pub returns-clause-reads : goal.returns-clause-reads
returns-clause-reads g c = reads_then _ _ _ c.entries_in.ensures.reads c.look_at_all.ensures.reads
