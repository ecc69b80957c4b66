use Rattle.std.proofs.Common.{◌≡◌, ◌↔◌, ◌++◌, true, List, Option, None, length, nat_le, refl, sym, subst}
use Rattle.undo_rows.specs.Transcripts.{Committed}
use Rattle.host_core.specs.Paths.{Path}
use Rattle.host_core.specs.Host.{AtEachMoment, WasDenied}
use Rattle.file_lists.specs.Beside.{AreSameBeside}
use Rattle.file_lists.specs.Writing.{IsListReady}
use Rattle.undo_rows.specs.Ended.{ended_as}
use Rattle.undo_rows.specs.declared.unwinding.Unwinding.{Unwinding}
use Rattle.status_records.specs.Records.{record_in}
use Rattle.unpack_rows.specs.EndStates.{own_name}
use Rattle.unpack_engine.specs.Endings.{changes_from, ended_lists, ended_records, ended_table, records_from}
use Rattle.unpack_engine.specs.Touched.{AreTold, deconfigured}
use Rattle.unpack_engine.specs.Units.{HasDropped, HasLeft, HasLeftBy, HasLeftUnless, MayDrop, MayLeave, MayLeaveBy}
use Rattle.unpack_engine.proofs.Alone.{same_here}
use Rattle.unpack_engine.proofs.Dropping.{dropped_kept, laying_kept}
use Rattle.unpack_engine.proofs.Ready.{list_ready}
use Rattle.unpack_engine.proofs.finishing.finish.Goals as goal

-- what was done with this name and these packages, where nothing was unwound
moved : (P : Path → List Path → Option Unwinding → Type 0) (n own : Path) (y ys : List Path) (u : Option Unwinding) → n ≡ own → y ≡ ys → u ≡ None → P n y None → P own ys u
moved P n own y ys u same_name same_yields none has = subst (P own ys) (sym none) (subst (λ l. P own l None) same_yields (subst (λ p. P p y None) same_name has))

pub returns-in-Ok-clause-told : goal.returns-in-Ok-clause-told
returns-in-Ok-clause-told g c =
    moved (λ n y u. AreTold n (ended_records (ended_as u) (records_from n y c.args.diversions.now.ways c.args.lists.now.lists c.args.works.now c.args.commit c.args.database.now.records) ++ deconfigured c.finish_committed.new.database.records c.args.rows.now.others.items) c.in-Ok.finished.touched)
    c.name-name.result.now _ c.as_slice-yields.result.now _ c.args.unwinding c.name-name.ensures c.as_slice-yields.ensures c.in-None.is
    (subst (λ os. AreTold c.name-name.result.now (records_from c.name-name.result.now c.as_slice-yields.result.now c.args.diversions.now.ways c.args.lists.now.lists c.args.works.now c.args.commit c.args.database.now.records ++ deconfigured c.finish_committed.new.database.records os) c.in-Ok.finished.touched)
    c.as_slice-others.ensures.value c.in-Ok.ensures.told)

pub returns-in-Ok-clause-alone : goal.returns-in-Ok-clause-alone
returns-in-Ok-clause-alone g c =
    moved (λ n y u. (c.in-Ok.finished.alone ≡ true) ↔ AreSameBeside n c.args.lists.now.lists c.finish_committed.new.lists.lists)
    c.name-name.result.now _ c.as_slice-yields.result.now _ c.args.unwinding c.name-name.ensures c.as_slice-yields.ensures c.in-None.is c.in-Ok.ensures.alone

pub returns-in-Ok-finish_unwound-clause-alone : goal.returns-in-Ok-finish_unwound-clause-alone
returns-in-Ok-finish_unwound-clause-alone g c = (λ yes. same_here (own_name c.args.rows.now.found c.args.rows.now.incoming) c.args.lists.now.lists, λ same. refl)

pub returns-in-Ok-clause-lists : goal.returns-in-Ok-clause-lists
returns-in-Ok-clause-lists g c =
    moved (λ n y u. c.finish_committed.new.lists ≡ record c.args.lists.now { lists = ended_lists (ended_as u) (changes_from n y c.args.diversions.now.ways c.args.lists.now.lists c.args.works.now c.args.commit) c.args.diversions.now.ways c.args.lists.now.lists })
    c.name-name.result.now _ c.as_slice-yields.result.now _ c.args.unwinding c.name-name.ensures c.as_slice-yields.ensures c.in-None.is c.in-Ok.ensures.lists

pub returns-in-Ok-clause-records : goal.returns-in-Ok-clause-records
returns-in-Ok-clause-records g c =
    moved (λ n y u. c.finish_committed.new.database.records ≡ ended_table (ended_as u) (records_from n y c.args.diversions.now.ways c.args.lists.now.lists c.args.works.now c.args.commit c.args.database.now.records) c.args.database.now.records)
    c.name-name.result.now _ c.as_slice-yields.result.now _ c.args.unwinding c.name-name.ensures c.as_slice-yields.ensures c.in-None.is c.in-Ok.ensures.records

pub returns-in-Ok-clause-left : goal.returns-in-Ok-clause-left
returns-in-Ok-clause-left g c = λ h.
    let ways = c.args.diversions.now.ways in
    let lists = c.args.lists.now.lists in
    let before = c.args.database.now.records in
    moved (λ n y u. HasLeft (changes_from n y ways lists c.args.works.now c.args.commit) (records_from n y ways lists c.args.works.now c.args.commit before) ways lists before (length c.args.rows.now.others.items) (ended_as u)
    (g.H.Host.state c.args.host.now).world (g.H.Host.state c.finish_committed.new.host).world)
    c.name-name.result.now _ c.as_slice-yields.result.now _ c.args.unwinding c.name-name.ensures c.as_slice-yields.ensures c.in-None.is
    (subst (λ os. HasLeft (changes_from c.name-name.result.now c.as_slice-yields.result.now ways lists c.args.works.now c.args.commit) (records_from c.name-name.result.now c.as_slice-yields.result.now ways lists c.args.works.now c.args.commit before) ways lists before (length os) Committed
    (g.H.Host.state c.args.host.now).world (g.H.Host.state c.finish_committed.new.host).world) c.as_slice-others.ensures.value (c.in-Ok.ensures.left h))

pub returns-in-Ok-clause-stays : goal.returns-in-Ok-clause-stays
returns-in-Ok-clause-stays g c = λ h.
    let ways = c.args.diversions.now.ways in
    let lists = c.args.lists.now.lists in
    let before = c.args.database.now.records in
    let start = g.H.Host.state c.args.host.now in
    let end = g.H.Host.state c.finish_committed.new.host in
    moved (λ n y u. HasLeftUnless (changes_from n y ways lists c.args.works.now c.args.commit) (records_from n y ways lists c.args.works.now c.args.commit before) ways lists before (length c.args.rows.now.others.items) (WasDenied start end) (ended_as u)
    start.world end.world)
    c.name-name.result.now _ c.as_slice-yields.result.now _ c.args.unwinding c.name-name.ensures c.as_slice-yields.ensures c.in-None.is
    (subst (λ os. HasLeftUnless (changes_from c.name-name.result.now c.as_slice-yields.result.now ways lists c.args.works.now c.args.commit) (records_from c.name-name.result.now c.as_slice-yields.result.now ways lists c.args.works.now c.args.commit before) ways lists before (length os) (WasDenied start end) Committed
    start.world end.world) c.as_slice-others.ensures.value (c.in-Ok.ensures.stays h))

pub returns-in-Ok-clause-any_moment : goal.returns-in-Ok-clause-any_moment
returns-in-Ok-clause-any_moment g c =
    let ways = c.args.diversions.now.ways in
    let lists = c.args.lists.now.lists in
    let before = c.args.database.now.records in
    moved (λ n y u. AtEachMoment (MayLeave (changes_from n y ways lists c.args.works.now c.args.commit) (records_from n y ways lists c.args.works.now c.args.commit before) ways lists before (length c.args.rows.now.others.items) (ended_as u))
    (g.H.Host.state c.args.host.now) (g.H.Host.state c.finish_committed.new.host))
    c.name-name.result.now _ c.as_slice-yields.result.now _ c.args.unwinding c.name-name.ensures c.as_slice-yields.ensures c.in-None.is
    (subst (λ os. AtEachMoment (MayLeave (changes_from c.name-name.result.now c.as_slice-yields.result.now ways lists c.args.works.now c.args.commit) (records_from c.name-name.result.now c.as_slice-yields.result.now ways lists c.args.works.now c.args.commit before) ways lists before (length os) Committed)
    (g.H.Host.state c.args.host.now) (g.H.Host.state c.finish_committed.new.host)) c.as_slice-others.ensures.value c.finish_committed.ensures.any_moment)

pub returns-in-None-clause-any_moment : goal.returns-in-None-clause-any_moment
returns-in-None-clause-any_moment g c =
    let ways = c.args.diversions.now.ways in
    let lists = c.args.lists.now.lists in
    let before = c.args.database.now.records in
    moved (λ n y u. AtEachMoment (MayLeave (changes_from n y ways lists c.args.works.now c.args.commit) (records_from n y ways lists c.args.works.now c.args.commit before) ways lists before (length c.args.rows.now.others.items) (ended_as u))
    (g.H.Host.state c.args.host.now) (g.H.Host.state c.finish_committed.new.host))
    c.name-name.result.now _ c.as_slice-yields.result.now _ c.args.unwinding c.name-name.ensures c.as_slice-yields.ensures c.in-None.is
    (subst (λ os. AtEachMoment (MayLeave (changes_from c.name-name.result.now c.as_slice-yields.result.now ways lists c.args.works.now c.args.commit) (records_from c.name-name.result.now c.as_slice-yields.result.now ways lists c.args.works.now c.args.commit before) ways lists before (length os) Committed)
    (g.H.Host.state c.args.host.now) (g.H.Host.state c.finish_committed.new.host)) c.as_slice-others.ensures.value c.finish_committed.ensures.any_moment)

pub finish_unwound-requires-clause-ready : goal.finish_unwound-requires-clause-ready
finish_unwound-requires-clause-ready g c = λ h.
    let w = (g.H.Host.state c.args.host.now).world in
    subst (λ n. IsListReady n w) (sym c.name-name.ensures) (list_ready w (c.requires.info h) (c.requires.loose h) _ c.requires.named)

pub returns-in-Ok-finish_unwound-clause-kept : goal.returns-in-Ok-finish_unwound-clause-kept
returns-in-Ok-finish_unwound-clause-kept g c = λ h.
    let old = (g.H.Host.state c.args.host.now).world in
    let new = (g.H.Host.state c.finish_unwound.new.host).world in
    let name = c.name-name.result.now in
    let reached = nat_le (length c.as_slice-others.result.now) c.in-Some.unwinding.fall.row in
    let left = c.in-Ok-finish_unwound.ensures.left h in
    laying_kept left.followed new left.removed.rest c.args.database.now
    (dropped_kept reached (record_in c.args.database.now.records name) name old left.followed left.has_followed c.args.database.now (c.requires.kept (c.finish_unwound.ensures.silent.honest h)))

pub returns-in-Ok-finish_unwound-clause-stays : goal.returns-in-Ok-finish_unwound-clause-stays
returns-in-Ok-finish_unwound-clause-stays g c = λ h.
    let before = c.args.database.now.records in
    let start = g.H.Host.state c.args.host.now in
    let end = g.H.Host.state c.finish_unwound.new.host in
    let name = c.name-name.result.now in
    let row = c.in-Some.unwinding.fall.row in
    subst (λ u. HasLeftUnless (changes_from (own_name c.args.rows.now.found c.args.rows.now.incoming) c.args.rows.now.yields c.args.diversions.now.ways c.args.lists.now.lists c.args.works.now c.args.commit) (records_from (own_name c.args.rows.now.found c.args.rows.now.incoming) c.args.rows.now.yields c.args.diversions.now.ways c.args.lists.now.lists c.args.works.now c.args.commit before) c.args.diversions.now.ways c.args.lists.now.lists before (length c.args.rows.now.others.items) (WasDenied start end) (ended_as u) start.world end.world) (sym c.in-Some.is)
    (subst (λ n. HasLeftBy (HasDropped (nat_le (length c.args.rows.now.others.items) row) (record_in before n) n) start.world end.world) c.name-name.ensures
    (subst (λ os. HasLeftBy (HasDropped (nat_le (length os) row) (record_in before name) name) start.world end.world) c.as_slice-others.ensures.value (c.in-Ok-finish_unwound.ensures.left h)))

pub returns-in-Ok-finish_unwound-clause-any_moment : goal.returns-in-Ok-finish_unwound-clause-any_moment
returns-in-Ok-finish_unwound-clause-any_moment g c =
    let before = c.args.database.now.records in
    let old = g.H.Host.state c.args.host.now in
    let new = g.H.Host.state c.finish_unwound.new.host in
    subst (λ u. AtEachMoment (MayLeave (changes_from (own_name c.args.rows.now.found c.args.rows.now.incoming) c.args.rows.now.yields c.args.diversions.now.ways c.args.lists.now.lists c.args.works.now c.args.commit) (records_from (own_name c.args.rows.now.found c.args.rows.now.incoming) c.args.rows.now.yields c.args.diversions.now.ways c.args.lists.now.lists c.args.works.now c.args.commit before) c.args.diversions.now.ways c.args.lists.now.lists before (length c.args.rows.now.others.items) (ended_as u)) old new) (sym c.in-Some.is)
    (subst (λ n. AtEachMoment (MayLeaveBy (HasDropped (nat_le (length c.args.rows.now.others.items) c.in-Some.unwinding.fall.row) (record_in before n) n) (MayDrop (nat_le (length c.args.rows.now.others.items) c.in-Some.unwinding.fall.row) (record_in before n) n)) old new) c.name-name.ensures
    (subst (λ os. AtEachMoment (MayLeaveBy (HasDropped (nat_le (length os) c.in-Some.unwinding.fall.row) (record_in before c.name-name.result.now) c.name-name.result.now) (MayDrop (nat_le (length os) c.in-Some.unwinding.fall.row) (record_in before c.name-name.result.now) c.name-name.result.now)) old new)
    c.as_slice-others.ensures.value c.finish_unwound.ensures.any_moment))

pub returns-clause-any_moment : goal.returns-clause-any_moment
returns-clause-any_moment g c =
    let before = c.args.database.now.records in
    let old = g.H.Host.state c.args.host.now in
    let new = g.H.Host.state c.finish_unwound.new.host in
    subst (λ u. AtEachMoment (MayLeave (changes_from (own_name c.args.rows.now.found c.args.rows.now.incoming) c.args.rows.now.yields c.args.diversions.now.ways c.args.lists.now.lists c.args.works.now c.args.commit) (records_from (own_name c.args.rows.now.found c.args.rows.now.incoming) c.args.rows.now.yields c.args.diversions.now.ways c.args.lists.now.lists c.args.works.now c.args.commit before) c.args.diversions.now.ways c.args.lists.now.lists before (length c.args.rows.now.others.items) (ended_as u)) old new) (sym c.in-Some.is)
    (subst (λ n. AtEachMoment (MayLeaveBy (HasDropped (nat_le (length c.args.rows.now.others.items) c.in-Some.unwinding.fall.row) (record_in before n) n) (MayDrop (nat_le (length c.args.rows.now.others.items) c.in-Some.unwinding.fall.row) (record_in before n) n)) old new) c.name-name.ensures
    (subst (λ os. AtEachMoment (MayLeaveBy (HasDropped (nat_le (length os) c.in-Some.unwinding.fall.row) (record_in before c.name-name.result.now) c.name-name.result.now) (MayDrop (nat_le (length os) c.in-Some.unwinding.fall.row) (record_in before c.name-name.result.now) c.name-name.result.now)) old new)
    c.as_slice-others.ensures.value c.finish_unwound.ensures.any_moment))

pub returns-in-Ok-clause-apart : goal.returns-in-Ok-clause-apart
returns-in-Ok-clause-apart g c = c.in-Ok.ensures.apart

pub returns-in-None-clause-apart : goal.returns-in-None-clause-apart
returns-in-None-clause-apart g c = λ h. ((c.finish_committed.ensures.apart h).0, tt)

pub returns-in-Ok-finish_unwound-clause-apart : goal.returns-in-Ok-finish_unwound-clause-apart
returns-in-Ok-finish_unwound-clause-apart g c = c.in-Ok-finish_unwound.ensures.apart

pub returns-clause-apart : goal.returns-clause-apart
returns-clause-apart g c = λ h. ((c.finish_unwound.ensures.apart h).0, tt)
