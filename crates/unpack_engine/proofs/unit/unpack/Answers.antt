use Rattle.std.proofs.Common.{◌≡◌, ◌↔◌, true, sym, ap, subst, ◌∙◌}
use Rattle.std.specs.Prelude.{IfOk}
use Rattle.host_core.specs.Host.{AtEachMomentOf, Needs}
use Rattle.file_lists.specs.Beside.{AreSameBeside}
use Rattle.diversions.specs.Ways.{Ways}
use Rattle.file_lists.specs.Filed.{Filed}
use Rattle.undo_rows.specs.Ended.{ended_as}
use Rattle.held_administration.specs.Order.{IsInOrder}
use Rattle.unpack_engine.specs.Units.{GoesByTable, HasCalled, HasFailedFor, HasUnpacked, IsAmidEither, given_beside}
use Rattle.scattered_losses.proofs.GoingApart.{fails_so, gone_here, passed_on}
use Rattle.status_db.specs.Held.{is_record_place}
use Rattle.unpack_engine.proofs.unit.unpack.Goals as goal

pub plan_and_carry_out-requires-clause-open : goal.plan_and_carry_out-requires-clause-open
plan_and_carry_out-requires-clause-open g c = record { noting = c.requires.open.noting; listing = ap (λ (f : Filed). f.closed) c.index_where_many.ensures ∙ c.requires.open.listing }

pub plan_and_carry_out-requires-clause-order : goal.plan_and_carry_out-requires-clause-order
plan_and_carry_out-requires-clause-order g c =
    subst (λ (f : Filed). Needs (g.H.Host.state c.args.host.now) (IsInOrder c.args.administration.now.database f.lists)) (sym c.index_where_many.ensures) c.requires.order

pub returns-clause-unit : goal.returns-clause-unit
returns-clause-unit g c =
    let old = g.H.Host.state c.args.host.now in
    let new = g.H.Host.state c.plan_and_carry_out.new.host in
    let at = λ (f : Filed). given_beside c.args.incoming c.args.administration.now.database.records f.lists c.args.diversions.now.ways c.plan_and_carry_out.new.diversions.ways c.args.others.packages.items c.args.others.yields in
    subst (λ (f : Filed). IfOk c.plan_and_carry_out.result (λ u. HasUnpacked (at f) c.args.administration.now.places (ended_as u.unwinding) c.plan_and_carry_out.new.administration.database c.plan_and_carry_out.new.administration.lists.lists old new c.args.told.now.items c.plan_and_carry_out.new.told.items))
    c.index_where_many.ensures c.plan_and_carry_out.ensures.unit

pub returns-clause-cause : goal.returns-clause-cause
returns-clause-cause g c =
    let old = g.H.Host.state c.args.host.now in
    let new = g.H.Host.state c.plan_and_carry_out.new.host in
    let at = λ (f : Filed). given_beside c.args.incoming c.args.administration.now.database.records f.lists c.args.diversions.now.ways c.plan_and_carry_out.new.diversions.ways c.args.others.packages.items c.args.others.yields in
    subst (λ (f : Filed). IfOk c.plan_and_carry_out.result (λ u. HasFailedFor (at f) old new u.unwinding)) c.index_where_many.ensures c.plan_and_carry_out.ensures.cause

pub returns-clause-alone : goal.returns-clause-alone
returns-clause-alone g c =
    subst (λ (f : Filed). IfOk c.plan_and_carry_out.result (λ u. (u.alone ≡ true) ↔ AreSameBeside c.args.incoming.name f.lists c.plan_and_carry_out.new.administration.lists.lists)) c.index_where_many.ensures c.plan_and_carry_out.ensures.alone

pub returns-clause-told : goal.returns-clause-told
returns-clause-told g c =
    let old = g.H.Host.state c.args.host.now in
    let new = g.H.Host.state c.plan_and_carry_out.new.host in
    let at = λ (f : Filed). given_beside c.args.incoming c.args.administration.now.database.records f.lists c.args.diversions.now.ways c.args.diversions.now.ways c.args.others.packages.items c.args.others.yields in
    subst (λ (f : Filed). HasCalled (at f) old new c.args.told.now.items c.plan_and_carry_out.new.told.items) c.index_where_many.ensures c.plan_and_carry_out.ensures.told

pub returns-clause-any_moment : goal.returns-clause-any_moment
returns-clause-any_moment g c =
    let old = g.H.Host.state c.args.host.now in
    let new = g.H.Host.state c.plan_and_carry_out.new.host in
    let at = λ (f : Filed) (ways : Ways). given_beside c.args.incoming c.args.administration.now.database.records f.lists c.args.diversions.now.ways ways c.args.others.packages.items c.args.others.yields in
    subst (λ (f : Filed). AtEachMomentOf (IsAmidEither (at f c.args.diversions.now.ways) (at f c.plan_and_carry_out.new.diversions.ways) c.args.administration.now.places) old new) c.index_where_many.ensures c.plan_and_carry_out.ensures.any_moment

pub returns-clause-table : goal.returns-clause-table
returns-clause-table g c =
    let old = g.H.Host.state c.args.host.now in
    let new = g.H.Host.state c.plan_and_carry_out.new.host in
    let at = λ (f : Filed). given_beside c.args.incoming c.args.administration.now.database.records f.lists c.args.diversions.now.ways c.plan_and_carry_out.new.diversions.ways c.args.others.packages.items c.args.others.yields in
    subst (λ (f : Filed). IfOk c.plan_and_carry_out.result (λ u. GoesByTable (at f) u.unwinding old new)) c.index_where_many.ensures c.plan_and_carry_out.ensures.table

pub returns-in_err-index_where_many-clause-apart : goal.returns-in_err-index_where_many-clause-apart
returns-in_err-index_where_many-clause-apart g c =
    let s = g.H.Host.state c.args.host.now in
    fails_so is_record_place c.from_residual.result s s (gone_here is_record_place s) (passed_on _ _ c.from_residual.result c.from_residual.ensures.1)

pub returns-clause-apart : goal.returns-clause-apart
returns-clause-apart g c = c.plan_and_carry_out.ensures.apart
