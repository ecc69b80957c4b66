use Rattle.std.proofs.Common.{Contains, length, sym, ap, subst, ◌∙◌}
use Rattle.texts.specs.PackageNames.{is_package_name}
use Rattle.undo_rows.specs.Transcripts.{Committed}
use Rattle.control_members.specs.LaidOut.{AreLaidOut}
use Rattle.file_lists.specs.Owners.{AreListPaths}
use Rattle.status_records.specs.Records.{AreStanding}
use Rattle.package_files.proofs.WriteMoments.{on_ok}
use Rattle.host_core.specs.Host.{AtEachMoment, WasDenied}
use Rattle.unpack_commit.specs.Commit.{Changes, changes_of}
use Rattle.listed_files.specs.Closing.{SparesAdministration}
use Rattle.listed_files.specs.Concluding.{AreElsewhere}
use Rattle.unpack_engine.specs.Endings.{records_from}
use Rattle.unpack_engine.specs.Units.{HasLeft, HasLeftUnless, MayLeave}
use Rattle.unpack_engine.proofs.Alone.{alone_committed}
use Rattle.unpack_engine.proofs.Losing.{loser_named}
use Rattle.unpack_engine.proofs.Ready.{list_ready, members_ready}
use Rattle.unpack_engine.proofs.Starts.{leave_start}
use Rattle.scattered_losses.proofs.GoingApart.{goes_here}
use Rattle.status_db.specs.Held.{is_record_place}
use Rattle.unpack_engine.proofs.finishing.finish_committed.Goals as goal

pub finish_ready-requires-clause-named : goal.finish_ready-requires-clause-named
finish_ready-requires-clause-named g c = ap (λ (x : Changes). is_package_name x.name) c.in-Ok.ensures.change ∙ c.requires.named

pub finish_ready-requires-clause-losers : goal.finish_ready-requires-clause-losers
finish_ready-requires-clause-losers g c = λ name has.
    loser_named c.args.diversions.now.ways _ c.args.lists.now.lists c.args.name.now c.args.yields.now name (subst (λ (x : Changes). Contains x.losers name) c.in-Ok.ensures.change has)

pub finish_ready-requires-clause-spared : goal.finish_ready-requires-clause-spared
finish_ready-requires-clause-spared g c = subst (λ (x : Changes). SparesAdministration x.leaving) (sym c.in-Ok.ensures.change) c.requires.spared

pub finish_ready-requires-clause-paths : goal.finish_ready-requires-clause-paths
finish_ready-requires-clause-paths g c = subst (λ (x : Changes). AreListPaths x.listed) (sym c.in-Ok.ensures.change) c.requires.paths

pub finish_ready-requires-clause-elsewhere : goal.finish_ready-requires-clause-elsewhere
finish_ready-requires-clause-elsewhere g c = subst (λ (x : Changes). AreElsewhere x.names) (sym c.in-Ok.ensures.change) c.requires.elsewhere

pub finish_ready-requires-clause-stands : goal.finish_ready-requires-clause-stands
finish_ready-requires-clause-stands g c = subst AreStanding (sym c.in-Ok.ensures.records) c.requires.stands

pub finish_ready-requires-clause-ready : goal.finish_ready-requires-clause-ready
finish_ready-requires-clause-ready g c = λ h.
    list_ready (g.H.Host.state c.args.host.now).world (c.requires.info h) (c.requires.loose h) _ (ap (λ (x : Changes). is_package_name x.name) c.in-Ok.ensures.change ∙ c.requires.named)

pub finish_ready-requires-clause-losers_ready : goal.finish_ready-requires-clause-losers_ready
finish_ready-requires-clause-losers_ready g c = λ h name has.
    list_ready (g.H.Host.state c.args.host.now).world (c.requires.info h) (c.requires.loose h) name
    (loser_named c.args.diversions.now.ways _ c.args.lists.now.lists c.args.name.now c.args.yields.now name (subst (λ (x : Changes). Contains x.losers name) c.in-Ok.ensures.change has))

pub finish_ready-requires-clause-members : goal.finish_ready-requires-clause-members
finish_ready-requires-clause-members g c = λ h.
    members_ready (g.H.Host.state c.args.host.now).world (c.requires.info h) (c.requires.loose h) _ (ap (λ (x : Changes). is_package_name x.name) c.in-Ok.ensures.change ∙ c.requires.named)

pub finish_ready-requires-clause-laid : goal.finish_ready-requires-clause-laid
finish_ready-requires-clause-laid g c = λ h. subst (λ ms. AreLaidOut ms (g.H.Host.state c.args.host.now).world) (sym c.in-Ok.ensures.members) (c.requires.laid h)

pub returns-in-Err-clause-any_moment : goal.returns-in-Err-clause-any_moment
returns-in-Err-clause-any_moment g c = leave_start _ c.args.diversions.now.ways c.args.lists.now.lists _ c.args.database.now (length c.args.others.now) (g.H.Host.state c.args.host.now) c.requires.kept

pub returns-in-Ok-clause-left : goal.returns-in-Ok-clause-left
returns-in-Ok-clause-left g c = λ h.
    let ways = c.args.diversions.now.ways in
    let lists = c.args.lists.now.lists in
    let before = c.args.database.now.records in
    let old = (g.H.Host.state c.args.host.now).world in
    let new = (g.H.Host.state c.finish_ready.new.host).world in
    let made = changes_of c.in-Ok.committing.change c.in-Ok.committing.new_list in
    let noted = c.in-Ok.committing.records.items in
    on_ok c.finish_ready.result (HasLeft made noted ways lists before (length c.args.others.now) Committed old new) _
    (λ left. subst (λ x. HasLeft x (records_from c.args.name.now c.args.yields.now ways lists c.args.works.now c.args.commit before) ways lists before (length c.args.others.now) Committed old new) c.in-Ok.ensures.change
    (subst (λ r. HasLeft made r ways lists before (length c.args.others.now) Committed old new) c.in-Ok.ensures.records left)) (c.finish_ready.ensures.left h)

pub returns-in-Ok-clause-alone : goal.returns-in-Ok-clause-alone
returns-in-Ok-clause-alone g c =
    alone_committed c.finish_ready.result (λ f. f.alone) c.args.name.now c.args.yields.now c.args.diversions.now.ways c.args.lists.now c.finish_ready.new.lists c.args.works.now c.args.commit
    (changes_of c.in-Ok.committing.change c.in-Ok.committing.new_list) c.in-Ok.ensures.change c.finish_ready.ensures.alone c.finish_ready.ensures.lists

pub returns-in-Ok-clause-stays : goal.returns-in-Ok-clause-stays
returns-in-Ok-clause-stays g c = λ h.
    let ways = c.args.diversions.now.ways in
    let lists = c.args.lists.now.lists in
    let before = c.args.database.now.records in
    let start = g.H.Host.state c.args.host.now in
    let end = g.H.Host.state c.finish_ready.new.host in
    let made = changes_of c.in-Ok.committing.change c.in-Ok.committing.new_list in
    let noted = c.in-Ok.committing.records.items in
    on_ok c.finish_ready.result (HasLeftUnless made noted ways lists before (length c.args.others.now) (WasDenied start end) Committed start.world end.world) _
    (λ left. subst (λ x. HasLeftUnless x (records_from c.args.name.now c.args.yields.now ways lists c.args.works.now c.args.commit before) ways lists before (length c.args.others.now) (WasDenied start end) Committed start.world end.world) c.in-Ok.ensures.change
    (subst (λ r. HasLeftUnless made r ways lists before (length c.args.others.now) (WasDenied start end) Committed start.world end.world) c.in-Ok.ensures.records left)) (c.finish_ready.ensures.stays h)

pub returns-in-Ok-clause-any_moment : goal.returns-in-Ok-clause-any_moment
returns-in-Ok-clause-any_moment g c =
    let ways = c.args.diversions.now.ways in
    let lists = c.args.lists.now.lists in
    let before = c.args.database.now.records in
    let old = g.H.Host.state c.args.host.now in
    let new = g.H.Host.state c.finish_ready.new.host in
    let made = changes_of c.in-Ok.committing.change c.in-Ok.committing.new_list in
    subst (λ x. AtEachMoment (MayLeave x (records_from c.args.name.now c.args.yields.now ways lists c.args.works.now c.args.commit before) ways lists before (length c.args.others.now) Committed) old new) c.in-Ok.ensures.change
    (subst (λ r. AtEachMoment (MayLeave made r ways lists before (length c.args.others.now) Committed) old new) c.in-Ok.ensures.records c.finish_ready.ensures.any_moment)

pub returns-in-Ok-clause-apart : goal.returns-in-Ok-clause-apart
returns-in-Ok-clause-apart g c = c.finish_ready.ensures.apart

pub returns-in-Err-clause-apart : goal.returns-in-Err-clause-apart
returns-in-Err-clause-apart g c = λ h. ((goes_here is_record_place (g.H.Host.state c.args.host.now) h).0, tt)
