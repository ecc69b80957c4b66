use Rattle.std.proofs.Common.{inr, ap, ◌∙◌}
use Rattle.host_core.specs.Host.{WasDenied}
use Rattle.file_lists.specs.Filed.{Filed}
use Rattle.file_removal.specs.Removal.{any_path}
use Rattle.listed_files.proofs.Denying.{began_later, renewed_wider}
use Rattle.package_files.proofs.WriteMoments.{on_ok}
use Rattle.unpack_commit.specs.Commit.{IsStoring, changes_of}
use Rattle.unpack_commit.proofs.Parts.{has_committed, kept_released, kept_renewed, kept_stored, lists_amid, lists_both, lists_first, lists_last, none_noted, on_err_as, on_ok_as, released_as, releasing_as, renewed_end, renewing_any, while_noting, while_releasing, while_renewing, while_storing}
use Rattle.unpack_commit.proofs.Ready.{list_ready_renewed, list_ready_stored, members_ready_renewed}
use Rattle.scattered_losses.proofs.GoingApart.{fails_so, gone_on, later_of, passed_on, works_behind}
use Rattle.administration.specs.Places.{list_path}
use Rattle.file_lists.specs.Writing.{list_file}
use Rattle.listed_files.specs.Closing.{MayRelease, MayRenew}
use Rattle.status_db.specs.Held.{is_record_place}
use Rattle.unpack_commit.proofs.RecordsApart.{stays_gone}
use Rattle.unpack_commit.proofs.Stays.{releasing_stays, renewing_stays, written_stays}
use Rattle.unpack_commit.proofs.committing.commit.Goals as goal

pub returns-in_err-renew-clause-any_moment : goal.returns-in_err-renew-clause-any_moment
returns-in_err-renew-clause-any_moment g c =
    while_renewing (changes_of c.args.change.now c.args.new_list) c.args.diversions.now.ways c.args.lists.now.lists c.requires.spared c.requires.elsewhere c.args.database.now c.args.records.now _ _ c.requires.kept c.renew.ensures.any_moment

pub store_members-requires-clause-ready : goal.store_members-requires-clause-ready
store_members-requires-clause-ready g c = λ h.
    members_ready_renewed c.args.change.now.leaving.items c.args.change.now.name _ _ _ c.requires.spared (renewed_wider (WasDenied (g.H.Host.state c.args.host.now) (g.H.Host.state c.renew.new.host)) any_path (λ p is. tt) c.args.change.now.leaving.items _ _ _ _ (c.in_ok-renew.ensures.renewed h)) c.args.change.now.name (c.requires.members (c.renew.ensures.silent.honest h))

pub returns-in_err-store_members-clause-any_moment : goal.returns-in_err-store_members-clause-any_moment
returns-in_err-store_members-clause-any_moment g c =
    while_storing (changes_of c.args.change.now c.args.new_list) c.args.diversions.now.ways c.args.lists.now.lists c.requires.spared c.requires.elsewhere c.args.database.now c.args.records.now _ _ c.requires.kept c.renew.ensures.any_moment _
    c.in_ok-renew.ensures.renewed c.store_members.ensures.any_moment

pub release_places-requires-clause-ready : goal.release_places-requires-clause-ready
release_places-requires-clause-ready g c = λ h name there.
    let h1 = c.store_members.ensures.silent.honest h in
    list_ready_stored c.args.change.now.name _ _ name (c.in_ok-store_members.ensures.stored h).replaced.rest
    (list_ready_renewed c.args.change.now.leaving.items c.args.change.now.name c.args.new_list _ _ name c.requires.spared (renewed_wider (WasDenied (g.H.Host.state c.args.host.now) (g.H.Host.state c.renew.new.host)) any_path (λ p is. tt) c.args.change.now.leaving.items _ _ _ _ (c.in_ok-renew.ensures.renewed h1)) (c.requires.losers_ready (c.renew.ensures.silent.honest h1) name there))

pub returns-in_err-release_places-clause-any_moment : goal.returns-in_err-release_places-clause-any_moment
returns-in_err-release_places-clause-any_moment g c =
    while_releasing (changes_of c.args.change.now c.args.new_list) c.args.diversions.now.ways c.args.lists.now.lists c.requires.spared c.requires.elsewhere c.args.database.now c.args.records.now _ _ c.requires.kept c.renew.ensures.any_moment _
    c.in_ok-renew.ensures.renewed c.store_members.ensures.any_moment _ c.in_ok-store_members.ensures.stored
    (releasing_as (changes_of c.args.change.now c.args.new_list) c.args.diversions.now.ways c.args.lists.now.lists c.renew.new.lists.lists (ap (λ (f : Filed). f.lists) c.in_ok-renew.ensures.lists) (g.H.Host.state c.store_members.new.host) (g.H.Host.state c.release_places.new.host) c.release_places.ensures.any_moment)

pub note_records-requires-clause-kept : goal.note_records-requires-clause-kept
note_records-requires-clause-kept g c = λ h.
    let change = changes_of c.args.change.now c.args.new_list in
    let entries = c.args.diversions.now.ways in
    let lists = c.args.lists.now.lists in
    let d = c.args.database.now in
    let h2 = c.release_places.ensures.silent.honest h in
    let h1 = c.store_members.ensures.silent.honest h2 in
    let renewed = kept_renewed change entries lists c.requires.spared c.requires.elsewhere d (WasDenied (g.H.Host.state c.args.host.now) (g.H.Host.state c.renew.new.host)) _ _ (c.in_ok-renew.ensures.renewed h1) (c.requires.kept (c.renew.ensures.silent.honest h1)) in
    let stored = kept_stored change entries lists c.requires.spared c.requires.elsewhere d _ _ (c.in_ok-store_members.ensures.stored h2) renewed in
    kept_released change entries lists c.requires.spared c.requires.elsewhere d _ _ (released_as change entries lists c.renew.new.lists.lists (ap (λ (f : Filed). f.lists) c.in_ok-renew.ensures.lists) (g.H.Host.state c.store_members.new.host).world (g.H.Host.state c.release_places.new.host).world (c.in_ok-release_places.ensures.released h)) stored

pub returns-clause-committed : goal.returns-clause-committed
returns-clause-committed g c = λ h.
    let change = changes_of c.args.change.now c.args.new_list in
    let entries = c.args.diversions.now.ways in
    let lists = c.args.lists.now.lists in
    let old = g.H.Host.state c.args.host.now in
    let new = g.H.Host.state c.note_records.new.host in
    let h3 = c.note_records.ensures.silent.honest h in
    let h2 = c.release_places.ensures.silent.honest h3 in
    let h1 = c.store_members.ensures.silent.honest h2 in
    on_ok c.note_records.result _ _
    (λ is. has_committed change entries lists (WasDenied old new) _ _ _ _ _ _
    (renewed_end change entries lists c.requires.spared c.requires.elsewhere c.args.database.now c.args.records.now old (g.H.Host.state c.renew.new.host) c.requires.kept c.renew.ensures.any_moment (g.H.Host.state c.store_members.new.host) c.in_ok-renew.ensures.renewed c.store_members.ensures.any_moment (g.H.Host.state c.release_places.new.host) c.in_ok-store_members.ensures.stored (releasing_as change entries lists c.renew.new.lists.lists (ap (λ (f : Filed). f.lists) c.in_ok-renew.ensures.lists) (g.H.Host.state c.store_members.new.host) (g.H.Host.state c.release_places.new.host) c.release_places.ensures.any_moment) new c.note_records.ensures.any_moment (c.in_ok-renew.ensures.renewed h1))
    (c.in_ok-store_members.ensures.stored h2) (released_as (changes_of c.args.change.now c.args.new_list) c.args.diversions.now.ways c.args.lists.now.lists c.renew.new.lists.lists (ap (λ (f : Filed). f.lists) c.in_ok-renew.ensures.lists) (g.H.Host.state c.store_members.new.host).world (g.H.Host.state c.release_places.new.host).world (c.in_ok-release_places.ensures.released h3)) is)
    (c.note_records.ensures.noted h)

pub returns-clause-any_moment : goal.returns-clause-any_moment
returns-clause-any_moment g c =
    while_noting (changes_of c.args.change.now c.args.new_list) c.args.diversions.now.ways c.args.lists.now.lists c.requires.spared c.requires.elsewhere c.args.database.now c.args.records.now _ _ c.requires.kept c.renew.ensures.any_moment _
    c.in_ok-renew.ensures.renewed c.store_members.ensures.any_moment _ c.in_ok-store_members.ensures.stored
    (releasing_as (changes_of c.args.change.now c.args.new_list) c.args.diversions.now.ways c.args.lists.now.lists c.renew.new.lists.lists (ap (λ (f : Filed). f.lists) c.in_ok-renew.ensures.lists) (g.H.Host.state c.store_members.new.host) (g.H.Host.state c.release_places.new.host) c.release_places.ensures.any_moment) _
    (λ h. released_as (changes_of c.args.change.now c.args.new_list) c.args.diversions.now.ways c.args.lists.now.lists c.renew.new.lists.lists (ap (λ (f : Filed). f.lists) c.in_ok-renew.ensures.lists) (g.H.Host.state c.store_members.new.host).world (g.H.Host.state c.release_places.new.host).world (c.in_ok-release_places.ensures.released h)) c.note_records.ensures.any_moment

-- the lists and the table, as far as it went

pub returns-in_err-renew-clause-lists_err : goal.returns-in_err-renew-clause-lists_err
returns-in_err-renew-clause-lists_err g c = on_err_as c.from_residual.result _ (lists_first (changes_of c.args.change.now c.args.new_list) c.args.diversions.now.ways c.args.lists.now _ c.in_err-renew.ensures.err)

pub returns-in_err-renew-clause-err : goal.returns-in_err-renew-clause-err
returns-in_err-renew-clause-err g c = on_err_as c.from_residual.result _ (none_noted c.args.records.now c.args.database.now.records)

pub returns-in_err-store_members-clause-lists_err : goal.returns-in_err-store_members-clause-lists_err
returns-in_err-store_members-clause-lists_err g c = on_err_as c.from_residual-in_err-store_members.result _ (lists_amid (changes_of c.args.change.now c.args.new_list) c.args.diversions.now.ways c.args.lists.now _ c.in_ok-renew.ensures.lists)

pub returns-in_err-store_members-clause-err : goal.returns-in_err-store_members-clause-err
returns-in_err-store_members-clause-err g c = on_err_as c.from_residual-in_err-store_members.result _ (none_noted c.args.records.now c.args.database.now.records)

pub release_places-requires-clause-opened : goal.release_places-requires-clause-opened
release_places-requires-clause-opened g c = ap (λ (f : Filed). f.closed) c.in_ok-renew.ensures.lists ∙ c.requires.opened

pub returns-in_err-release_places-clause-lists_err : goal.returns-in_err-release_places-clause-lists_err
returns-in_err-release_places-clause-lists_err g c = on_err_as c.from_residual-in_err-release_places.result _ (lists_last (changes_of c.args.change.now c.args.new_list) c.args.diversions.now.ways c.args.lists.now _ _ c.in_ok-renew.ensures.lists c.in_err-release_places.ensures.err)

pub returns-in_err-release_places-clause-err : goal.returns-in_err-release_places-clause-err
returns-in_err-release_places-clause-err g c = on_err_as c.from_residual-in_err-release_places.result _ (none_noted c.args.records.now c.args.database.now.records)

pub returns-clause-lists : goal.returns-clause-lists
returns-clause-lists g c = on_ok_as c.note_records.result _ (lists_both (changes_of c.args.change.now c.args.new_list) c.args.diversions.now.ways c.args.lists.now _ _ c.in_ok-renew.ensures.lists c.in_ok-release_places.ensures.lists)

pub returns-clause-lists_err : goal.returns-clause-lists_err
returns-clause-lists_err g c =
    on_err_as c.note_records.result _ (lists_last (changes_of c.args.change.now c.args.new_list) c.args.diversions.now.ways c.args.lists.now _ _ c.in_ok-renew.ensures.lists (inr c.in_ok-release_places.ensures.lists))

-- a barrier comes first

pub returns-clause-first : goal.returns-clause-first
returns-clause-first g c =
    let first = c.in_ok-renew.ensures.first in
    let old = g.H.Host.state c.args.host.now in
    let renewed = g.H.Host.state c.renew.new.host in
    let stored = g.H.Host.state c.store_members.new.host in
    let released = g.H.Host.state c.release_places.new.host in
    let new = g.H.Host.state c.note_records.new.host in
    on_ok_as c.note_records.result _
    (began_later old released new c.note_records.ensures.any_moment.added c.note_records.ensures.any_moment.events
    (began_later old stored released c.release_places.ensures.any_moment.added c.release_places.ensures.any_moment.events
    (began_later old renewed stored c.store_members.ensures.any_moment.added c.store_members.ensures.any_moment.events first)))

-- the places of records

pub returns-in_err-renew-clause-apart : goal.returns-in_err-renew-clause-apart
returns-in_err-renew-clause-apart g c =
    let s0 = g.H.Host.state c.args.host.now in
    let s1 = g.H.Host.state c.renew.new.host in
    let change = changes_of c.args.change.now c.args.new_list in
    let renewed = stays_gone (MayRenew change.leaving (list_path change.name) (list_file change.listed)) s0 s1
    (λ now may. renewing_stays change.leaving change.name (list_file change.listed) s0.world c.requires.spared now may) (renewing_any change c.args.diversions.now.ways c.args.lists.now.lists s0 s1 c.renew.ensures.any_moment) in
    fails_so is_record_place c.from_residual.result s0 s1 renewed (passed_on _ _ c.from_residual.result c.from_residual.ensures.1)

pub returns-in_err-store_members-clause-apart : goal.returns-in_err-store_members-clause-apart
returns-in_err-store_members-clause-apart g c =
    let s0 = g.H.Host.state c.args.host.now in
    let s1 = g.H.Host.state c.renew.new.host in
    let change = changes_of c.args.change.now c.args.new_list in
    let renewed = stays_gone (MayRenew change.leaving (list_path change.name) (list_file change.listed)) s0 s1
    (λ now may. renewing_stays change.leaving change.name (list_file change.listed) s0.world c.requires.spared now may) (renewing_any change c.args.diversions.now.ways c.args.lists.now.lists s0 s1 c.renew.ensures.any_moment) in
    let s2 = g.H.Host.state c.store_members.new.host in
    let stored = gone_on is_record_place s0 s1 s2 renewed (stays_gone (IsStoring change.name change.members) s1 s2 (λ now is. written_stays change.name s1.world now is.replacing.rest) c.store_members.ensures.any_moment) in
    fails_so is_record_place c.from_residual-in_err-store_members.result s0 s2 stored (passed_on _ _ c.from_residual-in_err-store_members.result c.from_residual-in_err-store_members.ensures.1)

pub returns-in_err-release_places-clause-apart : goal.returns-in_err-release_places-clause-apart
returns-in_err-release_places-clause-apart g c =
    let s0 = g.H.Host.state c.args.host.now in
    let s1 = g.H.Host.state c.renew.new.host in
    let change = changes_of c.args.change.now c.args.new_list in
    let renewed = stays_gone (MayRenew change.leaving (list_path change.name) (list_file change.listed)) s0 s1
    (λ now may. renewing_stays change.leaving change.name (list_file change.listed) s0.world c.requires.spared now may) (renewing_any change c.args.diversions.now.ways c.args.lists.now.lists s0 s1 c.renew.ensures.any_moment) in
    let s2 = g.H.Host.state c.store_members.new.host in
    let stored = gone_on is_record_place s0 s1 s2 renewed (stays_gone (IsStoring change.name change.members) s1 s2 (λ now is. written_stays change.name s1.world now is.replacing.rest) c.store_members.ensures.any_moment) in
    let s3 = g.H.Host.state c.release_places.new.host in
    let had = c.renew.new.lists.lists in
    let entries = c.args.diversions.now.ways in
    let released = gone_on is_record_place s0 s2 s3 stored (stays_gone (MayRelease entries change.places change.losers had change.names) s2 s3
    (λ now may. releasing_stays entries change.places change.losers had change.names s2.world c.requires.elsewhere now may) c.release_places.ensures.any_moment) in
    fails_so is_record_place c.from_residual-in_err-release_places.result s0 s3 released (passed_on _ _ c.from_residual-in_err-release_places.result c.from_residual-in_err-release_places.ensures.1)

pub returns-clause-apart : goal.returns-clause-apart
returns-clause-apart g c =
    let s0 = g.H.Host.state c.args.host.now in
    let s1 = g.H.Host.state c.renew.new.host in
    let change = changes_of c.args.change.now c.args.new_list in
    let renewed = stays_gone (MayRenew change.leaving (list_path change.name) (list_file change.listed)) s0 s1
    (λ now may. renewing_stays change.leaving change.name (list_file change.listed) s0.world c.requires.spared now may) (renewing_any change c.args.diversions.now.ways c.args.lists.now.lists s0 s1 c.renew.ensures.any_moment) in
    let s2 = g.H.Host.state c.store_members.new.host in
    let stored = gone_on is_record_place s0 s1 s2 renewed (stays_gone (IsStoring change.name change.members) s1 s2 (λ now is. written_stays change.name s1.world now is.replacing.rest) c.store_members.ensures.any_moment) in
    let s3 = g.H.Host.state c.release_places.new.host in
    let had = c.renew.new.lists.lists in
    let entries = c.args.diversions.now.ways in
    let released = gone_on is_record_place s0 s2 s3 stored (stays_gone (MayRelease entries change.places change.losers had change.names) s2 s3
    (λ now may. releasing_stays entries change.places change.losers had change.names s2.world c.requires.elsewhere now may) c.release_places.ensures.any_moment) in
    let s4 = g.H.Host.state c.note_records.new.host in
    works_behind is_record_place c.note_records.result s0 s3 s4 released (later_of _ s3 s4 c.note_records.ensures.any_moment) c.note_records.ensures.apart
