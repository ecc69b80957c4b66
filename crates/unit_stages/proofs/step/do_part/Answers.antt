use Rattle.std.proofs.Common.{false, true, [], ◌∷◌, sym, subst}
use Rattle.host_core.specs.Host.{AtEachMoment, WasDenied}
use Rattle.administration.specs.Files.{IsDropping, IsReplacing}
use Rattle.administration.specs.Places.{list_path}
use Rattle.conffiles.specs.Settling.{AreSettled, AreSettling}
use Rattle.file_lists.specs.Filed.{Filed}
use Rattle.file_lists.specs.Writing.{list_file}
use Rattle.file_removal.specs.Clearing.{Cleared, IsClearing}
use Rattle.file_removal.specs.Removal.{IsRemoving, IsRemovingDirectories, Removed, RemovedDirectories}
use Rattle.package_files.proofs.WriteMoments.{on_ok}
use Rattle.status_db.specs.Noting.{IsNoting}
use Rattle.status_records.specs.Records.{drop_record, put_record}
use Rattle.unit_stages.specs.Doing.{IsDoing, MayDrop}
use Rattle.unit_stages.specs.PartFitting.{AreSettleable, IsFit}
use Rattle.held_administration.specs.Order.{IsInOrder}
use Rattle.unit_stages.specs.declared.part.Part.TheVariants.{Note, Forget, Settle, Remove, RemoveDirectories, Clear, List as Listing, DropList, DropMembers}
use Rattle.unit_stages.proofs.PartMoments.{kept_doing, members_doing, on_both, on_three, outside_doing, since_doing, since_settled}
use Rattle.unit_stages.proofs.Order.{dropped_order, dropping_kept, dropping_loose, forget_order, home_there, listing_order, note_order, noting_loose, outside_order, own_list, own_members, replacing_kept, replacing_loose, taken_order}
use Rattle.unit_stages.proofs.Outside.{cleared_outside, clearing_outside, removed_outside, removing_outside, settled_outside, settling_outside}
use Rattle.unit_stages.proofs.Apart.{beside_apart, drop_same, outside_same, stays_same}
use Rattle.unit_stages.proofs.Places.{listing_stays}
use Rattle.unit_stages.proofs.step.do_part.Goals as goal

pub returns-in-Note-clause-order : goal.returns-in-Note-clause-order
returns-in-Note-clause-order g c =
    λ h. on_both c.note_copy.result _ _ _ (λ is noted. note_order c.args.database.now c.args.lists.now.lists _ (c.requires.order (c.note_copy.ensures.silent.honest h)) c.args.name.now c.in-Note.entry c.note_copy.new.database _ (subst (λ p. IsFit c.args.name.now p c.args.database.now.records c.args.lists.now.lists) c.in-Note.is c.requires.fit) is noted) c.note_copy.ensures.records (c.note_copy.ensures.kept h)

pub returns-in-Note-clause-any_moment : goal.returns-in-Note-clause-any_moment
returns-in-Note-clause-any_moment g c =
    subst (λ p. AtEachMoment (IsDoing c.args.name.now p c.args.database.now.records) (g.H.Host.state c.args.host.now) (g.H.Host.state c.note_copy.new.host)) (sym c.in-Note.is)
    (since_doing (IsNoting c.args.database.now.records (put_record c.in-Note.entry c.args.database.now.records)) c.args.name.now (Note c.in-Note.entry) c.args.database.now c.args.lists.now.lists (g.H.Host.state c.args.host.now) (g.H.Host.state c.note_copy.new.host) c.requires.order
    (λ now order is. record { may = is; records = is.records; opens = is.opens; loose = noting_loose c.args.database.now c.args.lists.now.lists _ order (put_record c.in-Note.entry c.args.database.now.records) now is }) c.note_copy.ensures.any_moment)

pub returns-in-Forget-clause-order : goal.returns-in-Forget-clause-order
returns-in-Forget-clause-order g c =
    λ h. on_both c.note_no_record.result _ _ _ (λ is noted. forget_order c.args.database.now c.args.lists.now.lists _ (c.requires.order (c.note_no_record.ensures.silent.honest h)) c.args.name.now c.note_no_record.new.database _ (subst (λ p. IsFit c.args.name.now p c.args.database.now.records c.args.lists.now.lists) c.in-Forget.is c.requires.fit) is noted) c.note_no_record.ensures.records (c.note_no_record.ensures.kept h)

pub returns-in-Forget-clause-any_moment : goal.returns-in-Forget-clause-any_moment
returns-in-Forget-clause-any_moment g c =
    subst (λ p. AtEachMoment (IsDoing c.args.name.now p c.args.database.now.records) (g.H.Host.state c.args.host.now) (g.H.Host.state c.note_no_record.new.host)) (sym c.in-Forget.is)
    (since_doing (IsNoting c.args.database.now.records (drop_record c.args.name.now c.args.database.now.records)) c.args.name.now (Forget) c.args.database.now c.args.lists.now.lists (g.H.Host.state c.args.host.now) (g.H.Host.state c.note_no_record.new.host) c.requires.order
    (λ now order is. record { may = is; records = is.records; opens = is.opens; loose = noting_loose c.args.database.now c.args.lists.now.lists _ order (drop_record c.args.name.now c.args.database.now.records) now is }) c.note_no_record.ensures.any_moment)

pub returns-in-Remove-clause-order : goal.returns-in-Remove-clause-order
returns-in-Remove-clause-order g c =
    λ h. on_ok c.remove_owned.result _ _
    (λ is. (let order = c.requires.order (c.remove_owned.ensures.silent.honest h) in
    outside_order c.args.database.now c.args.lists.now.lists (g.H.Host.state c.args.host.now).world order (g.H.Host.state c.remove_owned.new.host).world (removed_outside false c.in-Remove.leaving.items (g.H.Host.state c.args.host.now).world (g.H.Host.state c.remove_owned.new.host).world (subst (λ p. IsFit c.args.name.now p c.args.database.now.records c.args.lists.now.lists) c.in-Remove.is c.requires.fit) _ (subst (λ l. Removed (WasDenied (g.H.Host.state c.args.host.now) (g.H.Host.state c.remove_owned.new.host)) l (g.H.Host.state c.args.host.now).world (g.H.Host.state c.remove_owned.new.host).world) c.as_slice-in-Remove.ensures.value is)))) (c.remove_owned.ensures.removed h)

pub returns-in-Remove-clause-any_moment : goal.returns-in-Remove-clause-any_moment
returns-in-Remove-clause-any_moment g c =
    subst (λ p. AtEachMoment (IsDoing c.args.name.now p c.args.database.now.records) (g.H.Host.state c.args.host.now) (g.H.Host.state c.remove_owned.new.host)) (sym c.in-Remove.is)
    (since_doing (IsRemoving c.in-Remove.leaving.items) c.args.name.now (Remove c.in-Remove.leaving) c.args.database.now c.args.lists.now.lists (g.H.Host.state c.args.host.now) (g.H.Host.state c.remove_owned.new.host) c.requires.order
    (λ now order is. outside_doing c.args.name.now c.args.database.now c.args.lists.now.lists _ order (Remove c.in-Remove.leaving) now is (removing_outside false c.in-Remove.leaving.items _ now (subst (λ p. IsFit c.args.name.now p c.args.database.now.records c.args.lists.now.lists) c.in-Remove.is c.requires.fit) is)) (subst (λ l. AtEachMoment (IsRemoving l) (g.H.Host.state c.args.host.now) (g.H.Host.state c.remove_owned.new.host)) c.as_slice-in-Remove.ensures.value c.remove_owned.ensures.any_moment))

pub returns-in-RemoveDirectories-clause-order : goal.returns-in-RemoveDirectories-clause-order
returns-in-RemoveDirectories-clause-order g c =
    λ h. on_ok c.remove_directories.result _ _
    (λ is. (let order = c.requires.order (c.remove_directories.ensures.silent.honest h) in
    outside_order c.args.database.now c.args.lists.now.lists (g.H.Host.state c.args.host.now).world order (g.H.Host.state c.remove_directories.new.host).world (removed_outside true c.in-RemoveDirectories.leaving.items (g.H.Host.state c.args.host.now).world (g.H.Host.state c.remove_directories.new.host).world (subst (λ p. IsFit c.args.name.now p c.args.database.now.records c.args.lists.now.lists) c.in-RemoveDirectories.is c.requires.fit) _ (subst (λ l. RemovedDirectories (WasDenied (g.H.Host.state c.args.host.now) (g.H.Host.state c.remove_directories.new.host)) l (g.H.Host.state c.args.host.now).world (g.H.Host.state c.remove_directories.new.host).world) c.as_slice-in-RemoveDirectories.ensures.value is)))) (c.remove_directories.ensures.removed h)

pub returns-in-RemoveDirectories-clause-any_moment : goal.returns-in-RemoveDirectories-clause-any_moment
returns-in-RemoveDirectories-clause-any_moment g c =
    subst (λ p. AtEachMoment (IsDoing c.args.name.now p c.args.database.now.records) (g.H.Host.state c.args.host.now) (g.H.Host.state c.remove_directories.new.host)) (sym c.in-RemoveDirectories.is)
    (since_doing (IsRemovingDirectories c.in-RemoveDirectories.leaving.items) c.args.name.now (RemoveDirectories c.in-RemoveDirectories.leaving) c.args.database.now c.args.lists.now.lists (g.H.Host.state c.args.host.now) (g.H.Host.state c.remove_directories.new.host) c.requires.order
    (λ now order is. outside_doing c.args.name.now c.args.database.now c.args.lists.now.lists _ order (RemoveDirectories c.in-RemoveDirectories.leaving) now is (removing_outside true c.in-RemoveDirectories.leaving.items _ now (subst (λ p. IsFit c.args.name.now p c.args.database.now.records c.args.lists.now.lists) c.in-RemoveDirectories.is c.requires.fit) is)) (subst (λ l. AtEachMoment (IsRemovingDirectories l) (g.H.Host.state c.args.host.now) (g.H.Host.state c.remove_directories.new.host)) c.as_slice-in-RemoveDirectories.ensures.value c.remove_directories.ensures.any_moment))

pub returns-in-Clear-clause-order : goal.returns-in-Clear-clause-order
returns-in-Clear-clause-order g c =
    λ h. on_ok c.clear_names.result _ _
    (λ is. (let order = c.requires.order (c.clear_names.ensures.silent.honest h) in
    outside_order c.args.database.now c.args.lists.now.lists (g.H.Host.state c.args.host.now).world order (g.H.Host.state c.clear_names.new.host).world (cleared_outside c.in-Clear.names.items (g.H.Host.state c.args.host.now).world (g.H.Host.state c.clear_names.new.host).world (subst (λ p. IsFit c.args.name.now p c.args.database.now.records c.args.lists.now.lists) c.in-Clear.is c.requires.fit) (subst (λ l. Cleared l (g.H.Host.state c.args.host.now).world (g.H.Host.state c.clear_names.new.host).world) c.as_slice-in-Clear.ensures.value is)))) (c.clear_names.ensures.cleared h)

pub returns-in-Clear-clause-any_moment : goal.returns-in-Clear-clause-any_moment
returns-in-Clear-clause-any_moment g c =
    subst (λ p. AtEachMoment (IsDoing c.args.name.now p c.args.database.now.records) (g.H.Host.state c.args.host.now) (g.H.Host.state c.clear_names.new.host)) (sym c.in-Clear.is)
    (since_doing (IsClearing c.in-Clear.names.items) c.args.name.now (Clear c.in-Clear.names) c.args.database.now c.args.lists.now.lists (g.H.Host.state c.args.host.now) (g.H.Host.state c.clear_names.new.host) c.requires.order
    (λ now order is. outside_doing c.args.name.now c.args.database.now c.args.lists.now.lists _ order (Clear c.in-Clear.names) now is (clearing_outside c.in-Clear.names.items _ now (subst (λ p. IsFit c.args.name.now p c.args.database.now.records c.args.lists.now.lists) c.in-Clear.is c.requires.fit) is)) (subst (λ l. AtEachMoment (IsClearing l) (g.H.Host.state c.args.host.now) (g.H.Host.state c.clear_names.new.host)) c.as_slice-in-Clear.ensures.value c.clear_names.ensures.any_moment))

pub returns-in-Settle-clause-order : goal.returns-in-Settle-clause-order
returns-in-Settle-clause-order g c =
    λ h. on_ok c.apply.result _ _
    (λ is. (let h0 = c.apply.ensures.silent.honest h in
    let order = c.requires.order h0 in
    outside_order c.args.database.now c.args.lists.now.lists (g.H.Host.state c.args.host.now).world order (g.H.Host.state c.apply.new.host).world (settled_outside c.in-Settle.settled.items (g.H.Host.state c.args.host.now).world (g.H.Host.state c.apply.new.host).world (home_there c.args.database.now c.args.lists.now.lists (g.H.Host.state c.args.host.now).world order) (subst (λ p. AreSettleable (p ∷ []) (g.H.Host.state c.args.host.now).world) c.in-Settle.is (c.requires.settleable h0)).0
    (subst (λ l. AreSettled l (g.H.Host.state c.args.host.now).world (g.H.Host.state c.apply.new.host).world) c.as_slice.ensures.value is)))) (c.apply.ensures.settled h)

pub returns-in-Settle-clause-any_moment : goal.returns-in-Settle-clause-any_moment
returns-in-Settle-clause-any_moment g c =
    subst (λ p. AtEachMoment (IsDoing c.args.name.now p c.args.database.now.records) (g.H.Host.state c.args.host.now) (g.H.Host.state c.apply.new.host)) (sym c.in-Settle.is)
    (since_settled c.args.name.now (Settle c.in-Settle.settled) c.in-Settle.settled.items c.args.database.now c.args.lists.now.lists (g.H.Host.state c.args.host.now) (g.H.Host.state c.apply.new.host) c.requires.order (λ h. (subst (λ p. AreSettleable (p ∷ []) (g.H.Host.state c.args.host.now).world) c.in-Settle.is (c.requires.settleable h)).0)
    (λ now is. is) (subst (λ l. AtEachMoment (AreSettling l) (g.H.Host.state c.args.host.now) (g.H.Host.state c.apply.new.host)) c.as_slice.ensures.value c.apply.ensures.any_moment))

pub write_list-requires-clause-ready : goal.write_list-requires-clause-ready
write_list-requires-clause-ready g c =
    λ h. own_list c.args.database.now c.args.lists.now.lists _ (c.requires.order h) c.args.name.now c.requires.named

pub returns-in-List-clause-order : goal.returns-in-List-clause-order
returns-in-List-clause-order g c =
    λ h. on_three c.write_list.result _ _ _ _
    (λ lists texts replaced. subst (λ (f : Filed). IsInOrder c.args.database.now f.lists (g.H.Host.state c.write_list.new.host).world) (sym lists)
    (listing_order c.args.database.now c.args.lists.now.lists _ (c.requires.order (c.write_list.ensures.silent.honest h)) c.args.name.now c.in-List.paths (g.H.Host.state c.write_list.new.host).world (subst (λ p. IsFit c.args.name.now p c.args.database.now.records c.args.lists.now.lists) c.in-List.is c.requires.fit) texts replaced))
    c.write_list.ensures.lists c.write_list.ensures.texts (c.write_list.ensures.replaced h)

pub returns-in-List-clause-any_moment : goal.returns-in-List-clause-any_moment
returns-in-List-clause-any_moment g c =
    subst (λ p. AtEachMoment (IsDoing c.args.name.now p c.args.database.now.records) (g.H.Host.state c.args.host.now) (g.H.Host.state c.write_list.new.host)) (sym c.in-List.is)
    (since_doing (IsReplacing (list_path c.args.name.now) (list_file c.in-List.paths)) c.args.name.now (Listing c.in-List.paths) c.args.database.now c.args.lists.now.lists (g.H.Host.state c.args.host.now) (g.H.Host.state c.write_list.new.host) c.requires.order
    (λ now order is. kept_doing c.args.name.now c.args.database.now c.args.lists.now.lists _ order (Listing c.in-List.paths) now is (replacing_kept c.args.database.now c.args.lists.now.lists _ order c.args.name.now c.in-List.paths now is) (replacing_loose c.args.database.now c.args.lists.now.lists _ order c.args.name.now c.in-List.paths now is)) c.write_list.ensures.any_moment)

pub drop_list-requires-clause-ready : goal.drop_list-requires-clause-ready
drop_list-requires-clause-ready g c =
    λ h. own_list c.args.database.now c.args.lists.now.lists _ (c.requires.order h) c.args.name.now c.requires.named

pub returns-in-DropList-clause-order : goal.returns-in-DropList-clause-order
returns-in-DropList-clause-order g c =
    λ h. on_ok c.drop_list.result _ _ (λ is. dropped_order c.args.database.now c.args.lists.now.lists _ (c.requires.order (c.drop_list.ensures.silent.honest h)) c.args.name.now (g.H.Host.state c.drop_list.new.host).world (subst (λ p. IsFit c.args.name.now p c.args.database.now.records c.args.lists.now.lists) c.in-DropList.is c.requires.fit) is) (c.drop_list.ensures.dropped h)

pub returns-in-DropList-clause-any_moment : goal.returns-in-DropList-clause-any_moment
returns-in-DropList-clause-any_moment g c =
    subst (λ p. AtEachMoment (IsDoing c.args.name.now p c.args.database.now.records) (g.H.Host.state c.args.host.now) (g.H.Host.state c.drop_list.new.host)) (sym c.in-DropList.is)
    (since_doing (IsDropping (list_path c.args.name.now)) c.args.name.now (DropList) c.args.database.now c.args.lists.now.lists (g.H.Host.state c.args.host.now) (g.H.Host.state c.drop_list.new.host) c.requires.order
    (λ now order is. kept_doing c.args.name.now c.args.database.now c.args.lists.now.lists _ order DropList now is (dropping_kept c.args.database.now c.args.lists.now.lists _ order c.args.name.now now is) (dropping_loose c.args.database.now c.args.lists.now.lists _ order c.args.name.now now is)) c.drop_list.ensures.any_moment)

pub drop_members-requires-clause-ready : goal.drop_members-requires-clause-ready
drop_members-requires-clause-ready g c =
    λ h. own_members c.args.database.now c.args.lists.now.lists _ (c.requires.order h) c.args.name.now c.requires.named

pub returns-in-DropMembers-clause-order : goal.returns-in-DropMembers-clause-order
returns-in-DropMembers-clause-order g c =
    λ h. on_ok c.drop_members.result _ _ (λ is. taken_order c.args.database.now c.args.lists.now.lists _ (c.requires.order (c.drop_members.ensures.silent.honest h)) c.args.name.now _ (g.H.Host.state c.drop_members.new.host).world is.taken) (c.drop_members.ensures.dropped h)

pub returns-in-DropMembers-clause-any_moment : goal.returns-in-DropMembers-clause-any_moment
returns-in-DropMembers-clause-any_moment g c =
    subst (λ p. AtEachMoment (IsDoing c.args.name.now p c.args.database.now.records) (g.H.Host.state c.args.host.now) (g.H.Host.state c.drop_members.new.host)) (sym c.in-DropMembers.is)
    (since_doing (MayDrop c.args.name.now c.in-DropMembers.keep_postrm) c.args.name.now (DropMembers c.in-DropMembers.keep_postrm) c.args.database.now c.args.lists.now.lists (g.H.Host.state c.args.host.now) (g.H.Host.state c.drop_members.new.host) c.requires.order
    (λ now order is. members_doing c.args.name.now c.args.database.now c.args.lists.now.lists _ order c.in-DropMembers.keep_postrm now is) c.drop_members.ensures.any_moment)

pub returns-in-Remove-clause-apart : goal.returns-in-Remove-clause-apart
returns-in-Remove-clause-apart g c =
    beside_apart c.remove_owned.result (IsRemoving c.in-Remove.leaving.items) (g.H.Host.state c.args.host.now) (g.H.Host.state c.remove_owned.new.host)
    (λ h now is. outside_same (g.H.Host.state c.args.host.now).world now (removing_outside false c.in-Remove.leaving.items (g.H.Host.state c.args.host.now).world now (subst (λ p. IsFit c.args.name.now p c.args.database.now.records c.args.lists.now.lists) c.in-Remove.is c.requires.fit) is))
    (subst (λ l. AtEachMoment (IsRemoving l) (g.H.Host.state c.args.host.now) (g.H.Host.state c.remove_owned.new.host)) c.as_slice-in-Remove.ensures.value c.remove_owned.ensures.any_moment)

pub returns-in-RemoveDirectories-clause-apart : goal.returns-in-RemoveDirectories-clause-apart
returns-in-RemoveDirectories-clause-apart g c =
    beside_apart c.remove_directories.result (IsRemovingDirectories c.in-RemoveDirectories.leaving.items) (g.H.Host.state c.args.host.now) (g.H.Host.state c.remove_directories.new.host)
    (λ h now is. outside_same (g.H.Host.state c.args.host.now).world now (removing_outside true c.in-RemoveDirectories.leaving.items (g.H.Host.state c.args.host.now).world now (subst (λ p. IsFit c.args.name.now p c.args.database.now.records c.args.lists.now.lists) c.in-RemoveDirectories.is c.requires.fit) is))
    (subst (λ l. AtEachMoment (IsRemovingDirectories l) (g.H.Host.state c.args.host.now) (g.H.Host.state c.remove_directories.new.host)) c.as_slice-in-RemoveDirectories.ensures.value c.remove_directories.ensures.any_moment)

pub returns-in-Clear-clause-apart : goal.returns-in-Clear-clause-apart
returns-in-Clear-clause-apart g c =
    beside_apart c.clear_names.result (IsClearing c.in-Clear.names.items) (g.H.Host.state c.args.host.now) (g.H.Host.state c.clear_names.new.host)
    (λ h now is. outside_same (g.H.Host.state c.args.host.now).world now (clearing_outside c.in-Clear.names.items (g.H.Host.state c.args.host.now).world now (subst (λ p. IsFit c.args.name.now p c.args.database.now.records c.args.lists.now.lists) c.in-Clear.is c.requires.fit) is))
    (subst (λ l. AtEachMoment (IsClearing l) (g.H.Host.state c.args.host.now) (g.H.Host.state c.clear_names.new.host)) c.as_slice-in-Clear.ensures.value c.clear_names.ensures.any_moment)

pub returns-in-Settle-clause-apart : goal.returns-in-Settle-clause-apart
returns-in-Settle-clause-apart g c =
    beside_apart c.apply.result (AreSettling c.in-Settle.settled.items) (g.H.Host.state c.args.host.now) (g.H.Host.state c.apply.new.host)
    (λ h now is. (let h0 = c.apply.ensures.silent.honest h in
    let a = (g.H.Host.state c.args.host.now).world in
    outside_same a now (settling_outside c.in-Settle.settled.items a now (home_there c.args.database.now c.args.lists.now.lists a (c.requires.order h0)) (subst (λ p. AreSettleable (p ∷ []) a) c.in-Settle.is (c.requires.settleable h0)).0 is)))
    (subst (λ l. AtEachMoment (AreSettling l) (g.H.Host.state c.args.host.now) (g.H.Host.state c.apply.new.host)) c.as_slice.ensures.value c.apply.ensures.any_moment)

pub returns-in-List-clause-apart : goal.returns-in-List-clause-apart
returns-in-List-clause-apart g c =
    beside_apart c.write_list.result (IsReplacing (list_path c.args.name.now) (list_file c.in-List.paths)) (g.H.Host.state c.args.host.now) (g.H.Host.state c.write_list.new.host)
    (λ h now is. stays_same (g.H.Host.state c.args.host.now).world now (listing_stays c.args.name.now (g.H.Host.state c.args.host.now).world now is.rest))
    c.write_list.ensures.any_moment

pub returns-in-DropList-clause-apart : goal.returns-in-DropList-clause-apart
returns-in-DropList-clause-apart g c =
    beside_apart c.drop_list.result (IsDropping (list_path c.args.name.now)) (g.H.Host.state c.args.host.now) (g.H.Host.state c.drop_list.new.host)
    (λ h now is. stays_same (g.H.Host.state c.args.host.now).world now (listing_stays c.args.name.now (g.H.Host.state c.args.host.now).world now (λ q ne spare. is.rest q ne)))
    c.drop_list.ensures.any_moment

pub returns-in-DropMembers-clause-apart : goal.returns-in-DropMembers-clause-apart
returns-in-DropMembers-clause-apart g c =
    beside_apart c.drop_members.result (MayDrop c.args.name.now c.in-DropMembers.keep_postrm) (g.H.Host.state c.args.host.now) (g.H.Host.state c.drop_members.new.host)
    (λ h now is. drop_same c.args.name.now c.in-DropMembers.keep_postrm (g.H.Host.state c.args.host.now).world now is)
    c.drop_members.ensures.any_moment
