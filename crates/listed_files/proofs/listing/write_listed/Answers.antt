use Rattle.std.proofs.Common.{◌<◌, IsTrue, rules, inl, inr, sym, subst}
use Rattle.std.specs.Prelude.{MatchOption}
use Rattle.host_core.specs.Host.{NoFault, denials}
use Rattle.administration.specs.Files.{IsReplaced, IsReplacing}
use Rattle.administration.specs.Places.{list_path}
use Rattle.file_lists.specs.Writing.{list_file, IsListReady}
use Rattle.package_files.specs.Files.{IsAmid, Undone, Written}
use Rattle.listed_files.specs.Listing.{MayTurnBack}
use Rattle.listed_files.proofs.Moments.{at_each}
use Rattle.listed_files.proofs.Declining.{declined_early, declined_files, declined_later}
use Rattle.listed_files.proofs.Turning.{to_disk, then_later}
use Rattle.listed_files.proofs.Listings.{free_still, seen_still, homed_still, ready_replaced, ready_undone}
use Rattle.listed_files.proofs.listing.write_listed.Goals as goal

pub returns-in_err-replace_list-clause-any_moment : goal.returns-in_err-replace_list-clause-any_moment
returns-in_err-replace_list-clause-any_moment g c =
    let list = list_path c.args.name.now in
    at_each (IsReplacing list (list_file c.args.union)) (MayTurnBack list (list_file c.args.union) (list_file c.args.listed) c.args.works.now) _ _ (λ now is. inl (inl is)) c.replace_list.ensures.any_moment

pub returns-in_err-barrier-clause-any_moment : goal.returns-in_err-barrier-clause-any_moment
returns-in_err-barrier-clause-any_moment g c =
    let list = list_path c.args.name.now in
    let P = MayTurnBack list (list_file c.args.union) (list_file c.args.listed) c.args.works.now in
    to_disk P c.barrier.result _ _ _ (at_each (IsReplacing list (list_file c.args.union)) P _ _ (λ now is. inl (inl is)) c.replace_list.ensures.any_moment) c.barrier.ensures.does

pub write_files-requires-clause-free : goal.write_files-requires-clause-free
write_files-requires-clause-free g c = λ h.
    let h1 = c.barrier.ensures.silent.honest h in
    free_still c.args.name.now _ _ (subst (IsReplaced (list_path c.args.name.now) (list_file c.args.union) (g.H.Host.state c.args.host.now).world) (sym c.in_ok-barrier.ensures.does.world) (c.in_ok-replace_list.ensures.replaced h1)).rest c.args.works.now c.requires.named (c.requires.free (c.replace_list.ensures.silent.honest h1))

pub write_files-requires-clause-seen : goal.write_files-requires-clause-seen
write_files-requires-clause-seen g c = λ h.
    let h1 = c.barrier.ensures.silent.honest h in
    seen_still c.args.name.now _ _ (subst (IsReplaced (list_path c.args.name.now) (list_file c.args.union) (g.H.Host.state c.args.host.now).world) (sym c.in_ok-barrier.ensures.does.world) (c.in_ok-replace_list.ensures.replaced h1)).rest c.args.works.now c.requires.named (c.requires.seen (c.replace_list.ensures.silent.honest h1))

pub write_files-requires-clause-homed : goal.write_files-requires-clause-homed
write_files-requires-clause-homed g c = λ h.
    let h1 = c.barrier.ensures.silent.honest h in
    let h0 = c.replace_list.ensures.silent.honest h1 in
    homed_still c.args.name.now _ _ (subst (IsReplaced (list_path c.args.name.now) (list_file c.args.union) (g.H.Host.state c.args.host.now).world) (sym c.in_ok-barrier.ensures.does.world) (c.in_ok-replace_list.ensures.replaced h1)).rest c.args.works.now c.requires.named (c.requires.ready h0) (c.requires.homed h0)

pub returns-in_err-write_files-clause-any_moment : goal.returns-in_err-write_files-clause-any_moment
returns-in_err-write_files-clause-any_moment g c =
    let old = g.H.Host.state c.args.host.now in
    let rep = g.H.Host.state c.replace_list.new.host in
    let bar = g.H.Host.state c.barrier.new.self in
    let fil = g.H.Host.state c.write_files.new.host in
    let works = c.args.works.now in
    let list = list_path c.args.name.now in
    let union = list_file c.args.union in
    let listed = list_file c.args.listed in
    let replaced : IsTrue bar.honest → IsReplaced list union old.world bar.world = λ h. subst (IsReplaced list union old.world) (sym c.in_ok-barrier.ensures.does.world) (c.in_ok-replace_list.ensures.replaced (c.barrier.ensures.silent.honest h)) in
    let P = MayTurnBack list union listed works in
    let begun = to_disk P c.barrier.result old rep bar (at_each (IsReplacing list union) P old rep (λ now is. inl (inl is)) c.replace_list.ensures.any_moment) c.barrier.ensures.does in
    let filed = then_later P (λ mid now. IsAmid works mid mid now) old bar fil begun (λ h now is. inl (inr (bar.world, replaced (c.write_files.ensures.silent.honest h), is))) c.write_files.ensures.any_moment in
    filed

pub returns-in-None-clause-any_moment : goal.returns-in-None-clause-any_moment
returns-in-None-clause-any_moment g c =
    let old = g.H.Host.state c.args.host.now in
    let rep = g.H.Host.state c.replace_list.new.host in
    let bar = g.H.Host.state c.barrier.new.self in
    let fil = g.H.Host.state c.write_files.new.host in
    let works = c.args.works.now in
    let list = list_path c.args.name.now in
    let union = list_file c.args.union in
    let listed = list_file c.args.listed in
    let replaced : IsTrue bar.honest → IsReplaced list union old.world bar.world = λ h. subst (IsReplaced list union old.world) (sym c.in_ok-barrier.ensures.does.world) (c.in_ok-replace_list.ensures.replaced (c.barrier.ensures.silent.honest h)) in
    let P = MayTurnBack list union listed works in
    let begun = to_disk P c.barrier.result old rep bar (at_each (IsReplacing list union) P old rep (λ now is. inl (inl is)) c.replace_list.ensures.any_moment) c.barrier.ensures.does in
    let filed = then_later P (λ mid now. IsAmid works mid mid now) old bar fil begun (λ h now is. inl (inr (bar.world, replaced (c.write_files.ensures.silent.honest h), is))) c.write_files.ensures.any_moment in
    filed

pub returns-in-None-clause-listed : goal.returns-in-None-clause-listed
returns-in-None-clause-listed g c = λ h.
    let old = g.H.Host.state c.args.host.now in
    let bar = g.H.Host.state c.barrier.new.self in
    let fil = g.H.Host.state c.write_files.new.host in
    let works = c.args.works.now in
    let list = list_path c.args.name.now in
    let union = list_file c.args.union in
    let replaced : IsTrue bar.honest → IsReplaced list union old.world bar.world = λ h. subst (IsReplaced list union old.world) (sym c.in_ok-barrier.ensures.does.world) (c.in_ok-replace_list.ensures.replaced (c.barrier.ensures.silent.honest h)) in
    record {
      mid = bar.world;
      replaced = replaced (c.write_files.ensures.silent.honest h);
      written = subst (λ d. MatchOption d (Written works bar.world fil.world) (λ k. Undone works bar.world fil.world)) c.in-None.is (c.in_ok-write_files.ensures.written h);
    }

pub returns-in_err-barrier-in-Some-clause-any_moment : goal.returns-in_err-barrier-in-Some-clause-any_moment
returns-in_err-barrier-in-Some-clause-any_moment g c =
    let old = g.H.Host.state c.args.host.now in
    let rep = g.H.Host.state c.replace_list.new.host in
    let bar = g.H.Host.state c.barrier.new.self in
    let fil = g.H.Host.state c.write_files.new.host in
    let works = c.args.works.now in
    let list = list_path c.args.name.now in
    let union = list_file c.args.union in
    let listed = list_file c.args.listed in
    let replaced : IsTrue bar.honest → IsReplaced list union old.world bar.world = λ h. subst (IsReplaced list union old.world) (sym c.in_ok-barrier.ensures.does.world) (c.in_ok-replace_list.ensures.replaced (c.barrier.ensures.silent.honest h)) in
    let P = MayTurnBack list union listed works in
    let begun = to_disk P c.barrier.result old rep bar (at_each (IsReplacing list union) P old rep (λ now is. inl (inl is)) c.replace_list.ensures.any_moment) c.barrier.ensures.does in
    let filed = then_later P (λ mid now. IsAmid works mid mid now) old bar fil begun (λ h now is. inl (inr (bar.world, replaced (c.write_files.ensures.silent.honest h), is))) c.write_files.ensures.any_moment in
    let bak = g.H.Host.state c.barrier-in-Some.new.self in
    let synced = to_disk P c.barrier-in-Some.result old fil bak filed c.barrier-in-Some.ensures.does in
    synced

pub replace_list-requires-in-Some-clause-ready : goal.replace_list-requires-in-Some-clause-ready
replace_list-requires-in-Some-clause-ready g c = λ h.
    let old = g.H.Host.state c.args.host.now in
    let bar = g.H.Host.state c.barrier.new.self in
    let fil = g.H.Host.state c.write_files.new.host in
    let works = c.args.works.now in
    let list = list_path c.args.name.now in
    let union = list_file c.args.union in
    let replaced : IsTrue bar.honest → IsReplaced list union old.world bar.world = λ h. subst (IsReplaced list union old.world) (sym c.in_ok-barrier.ensures.does.world) (c.in_ok-replace_list.ensures.replaced (c.barrier.ensures.silent.honest h)) in
    let undone : IsTrue fil.honest → Undone works bar.world fil.world = λ h. subst (λ d. MatchOption d (Written works bar.world fil.world) (λ k. Undone works bar.world fil.world)) c.in-Some.is (c.in_ok-write_files.ensures.written h) in
    let h2 = c.barrier-in-Some.ensures.silent.honest h in
    let h1 = c.write_files.ensures.silent.honest h2 in
    let name = c.args.name.now in
    subst (IsListReady name) (sym c.in_ok-barrier-in-Some.ensures.does.world)
    (ready_undone name works bar.world fil.world c.requires.named (undone h2) (ready_replaced name c.args.union old.world bar.world (replaced h1) (c.requires.ready (c.replace_list.ensures.silent.honest (c.barrier.ensures.silent.honest h1)))))

pub returns-in_err-replace_list-in-Some-clause-any_moment : goal.returns-in_err-replace_list-in-Some-clause-any_moment
returns-in_err-replace_list-in-Some-clause-any_moment g c =
    let old = g.H.Host.state c.args.host.now in
    let rep = g.H.Host.state c.replace_list.new.host in
    let bar = g.H.Host.state c.barrier.new.self in
    let fil = g.H.Host.state c.write_files.new.host in
    let works = c.args.works.now in
    let list = list_path c.args.name.now in
    let union = list_file c.args.union in
    let listed = list_file c.args.listed in
    let replaced : IsTrue bar.honest → IsReplaced list union old.world bar.world = λ h. subst (IsReplaced list union old.world) (sym c.in_ok-barrier.ensures.does.world) (c.in_ok-replace_list.ensures.replaced (c.barrier.ensures.silent.honest h)) in
    let P = MayTurnBack list union listed works in
    let begun = to_disk P c.barrier.result old rep bar (at_each (IsReplacing list union) P old rep (λ now is. inl (inl is)) c.replace_list.ensures.any_moment) c.barrier.ensures.does in
    let filed = then_later P (λ mid now. IsAmid works mid mid now) old bar fil begun (λ h now is. inl (inr (bar.world, replaced (c.write_files.ensures.silent.honest h), is))) c.write_files.ensures.any_moment in
    let undone : IsTrue fil.honest → Undone works bar.world fil.world = λ h. subst (λ d. MatchOption d (Written works bar.world fil.world) (λ k. Undone works bar.world fil.world)) c.in-Some.is (c.in_ok-write_files.ensures.written h) in
    let bak = g.H.Host.state c.barrier-in-Some.new.self in
    let synced = to_disk P c.barrier-in-Some.result old fil bak filed c.barrier-in-Some.ensures.does in
    let back : IsTrue bak.honest → Undone works bar.world bak.world = λ h. subst (Undone works bar.world) (sym c.in_ok-barrier-in-Some.ensures.does.world) (undone (c.barrier-in-Some.ensures.silent.honest h)) in
    let new = g.H.Host.state c.replace_list-in-Some.new.host in
    then_later P (IsReplacing list listed) old bak new synced
    (λ h now is. let h2 = c.replace_list-in-Some.ensures.silent.honest h in inr (bar.world, bak.world, replaced (c.write_files.ensures.silent.honest (c.barrier-in-Some.ensures.silent.honest h2)), back h2, is)) c.replace_list-in-Some.ensures.any_moment

pub returns-in_ok-replace_list-in-Some-clause-any_moment : goal.returns-in_ok-replace_list-in-Some-clause-any_moment
returns-in_ok-replace_list-in-Some-clause-any_moment g c =
    let old = g.H.Host.state c.args.host.now in
    let rep = g.H.Host.state c.replace_list.new.host in
    let bar = g.H.Host.state c.barrier.new.self in
    let fil = g.H.Host.state c.write_files.new.host in
    let works = c.args.works.now in
    let list = list_path c.args.name.now in
    let union = list_file c.args.union in
    let listed = list_file c.args.listed in
    let replaced : IsTrue bar.honest → IsReplaced list union old.world bar.world = λ h. subst (IsReplaced list union old.world) (sym c.in_ok-barrier.ensures.does.world) (c.in_ok-replace_list.ensures.replaced (c.barrier.ensures.silent.honest h)) in
    let P = MayTurnBack list union listed works in
    let begun = to_disk P c.barrier.result old rep bar (at_each (IsReplacing list union) P old rep (λ now is. inl (inl is)) c.replace_list.ensures.any_moment) c.barrier.ensures.does in
    let filed = then_later P (λ mid now. IsAmid works mid mid now) old bar fil begun (λ h now is. inl (inr (bar.world, replaced (c.write_files.ensures.silent.honest h), is))) c.write_files.ensures.any_moment in
    let undone : IsTrue fil.honest → Undone works bar.world fil.world = λ h. subst (λ d. MatchOption d (Written works bar.world fil.world) (λ k. Undone works bar.world fil.world)) c.in-Some.is (c.in_ok-write_files.ensures.written h) in
    let bak = g.H.Host.state c.barrier-in-Some.new.self in
    let synced = to_disk P c.barrier-in-Some.result old fil bak filed c.barrier-in-Some.ensures.does in
    let back : IsTrue bak.honest → Undone works bar.world bak.world = λ h. subst (Undone works bar.world) (sym c.in_ok-barrier-in-Some.ensures.does.world) (undone (c.barrier-in-Some.ensures.silent.honest h)) in
    let new = g.H.Host.state c.replace_list-in-Some.new.host in
    then_later P (IsReplacing list listed) old bak new synced
    (λ h now is. let h2 = c.replace_list-in-Some.ensures.silent.honest h in inr (bar.world, bak.world, replaced (c.write_files.ensures.silent.honest (c.barrier-in-Some.ensures.silent.honest h2)), back h2, is)) c.replace_list-in-Some.ensures.any_moment

pub returns-in_err-replace_list-clause-twice : goal.returns-in_err-replace_list-clause-twice
returns-in_err-replace_list-clause-twice g c =
    declined_early (list_path c.args.name.now) (list_file c.args.union) c.from_residual.result (g.H.Host.state c.args.host.now) (g.H.Host.state c.replace_list.new.host) c.replace_list.ensures.any_moment

pub returns-in_err-barrier-clause-twice : goal.returns-in_err-barrier-clause-twice
returns-in_err-barrier-clause-twice g c =
    let list = list_path c.args.name.now in
    let union = list_file c.args.union in
    declined_early list union c.from_residual-in_err-barrier.result (g.H.Host.state c.args.host.now) (g.H.Host.state c.barrier.new.self)
    (to_disk (IsReplacing list union) c.barrier.result _ _ _ c.replace_list.ensures.any_moment c.barrier.ensures.does)

pub returns-in_err-write_files-clause-twice : goal.returns-in_err-write_files-clause-twice
returns-in_err-write_files-clause-twice g c =
    let old = g.H.Host.state c.args.host.now in
    let bar = g.H.Host.state c.barrier.new.self in
    let first : NoFault old bar = search rules in
    declined_files (list_path c.args.name.now) (list_file c.args.union) c.from_residual-in_err-write_files.result old bar (g.H.Host.state c.write_files.new.host) first (search rules)

pub returns-in_err-barrier-in-Some-clause-twice : goal.returns-in_err-barrier-in-Some-clause-twice
returns-in_err-barrier-in-Some-clause-twice g c =
    let old = g.H.Host.state c.args.host.now in
    let fil = g.H.Host.state c.write_files.new.host in
    let first : denials old < denials fil = search rules in
    declined_later (list_path c.args.name.now) (list_file c.args.union) c.from_residual-in_err-barrier-in-Some.result old fil (g.H.Host.state c.barrier-in-Some.new.self) first (search rules)

pub returns-in_err-replace_list-in-Some-clause-twice : goal.returns-in_err-replace_list-in-Some-clause-twice
returns-in_err-replace_list-in-Some-clause-twice g c =
    let old = g.H.Host.state c.args.host.now in
    let bak = g.H.Host.state c.barrier-in-Some.new.self in
    let first : denials old < denials bak = search rules in
    declined_later (list_path c.args.name.now) (list_file c.args.union) c.from_residual-in_err-replace_list-in-Some.result old bak (g.H.Host.state c.replace_list-in-Some.new.host) first (search rules)
