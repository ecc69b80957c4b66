use Rattle.std.proofs.Common.{◌≡◌, ◌↔◌, true, sym, ap, subst, ◌∙◌}
use Rattle.std.specs.Prelude.{IfOk}
use Rattle.host_core.specs.Host.{AtEachMomentOf, Needs}
use Rattle.file_lists.specs.Beside.{AreSameBeside}
use Rattle.file_lists.specs.Filed.{Filed}
use Rattle.held_administration.specs.Order.{IsInOrder}
use Rattle.unit_reports.specs.Held.{held}
use Rattle.dpkg_session.specs.Run.{IsAmidBeside}
use Rattle.dpkg_session.specs.Units.{HasCalledBeside, HasUnpackedBeside}
use Rattle.dpkg_session.proofs.unpacking.unpack_beside.Goals as goal

pub unpack_indexed-requires-clause-open : goal.unpack_indexed-requires-clause-open
unpack_indexed-requires-clause-open g c = record { noting = c.requires.open.noting; listing = ap (λ (f : Filed). f.closed) c.index_where_many.ensures ∙ c.requires.open.listing }

pub unpack_indexed-requires-clause-order : goal.unpack_indexed-requires-clause-order
unpack_indexed-requires-clause-order g c =
    subst (λ (f : Filed). Needs (g.H.Host.state c.args.host.now) (IsInOrder c.args.administration.now.database f.lists)) (sym c.index_where_many.ensures) c.requires.order

pub returns-in-Ok-clause-unit : goal.returns-in-Ok-clause-unit
returns-in-Ok-clause-unit g c =
    let old = g.H.Host.state c.args.host.now in
    let new = g.H.Host.state c.unpack_indexed.new.host in
    let at = λ (f : Filed). held c.args.administration.now.database f c.args.diversions.now in
    subst (λ (f : Filed). IfOk c.unpack_indexed.result (λ u. HasUnpackedBeside c.args.incoming c.args.beside.now (at f) c.unpack_indexed.new.diversions.ways c.args.administration.now.places u.unwinding c.unpack_indexed.new.administration.database c.unpack_indexed.new.administration.lists.lists old new c.args.told.now.items c.unpack_indexed.new.told.items))
    c.index_where_many.ensures c.unpack_indexed.ensures.unit

pub returns-in-Ok-clause-alone : goal.returns-in-Ok-clause-alone
returns-in-Ok-clause-alone g c =
    subst (λ (f : Filed). IfOk c.unpack_indexed.result (λ u. (u.alone ≡ true) ↔ AreSameBeside c.args.incoming.name f.lists c.unpack_indexed.new.administration.lists.lists)) c.index_where_many.ensures c.unpack_indexed.ensures.alone

pub returns-in-Ok-clause-told : goal.returns-in-Ok-clause-told
returns-in-Ok-clause-told g c =
    let old = g.H.Host.state c.args.host.now in
    let new = g.H.Host.state c.unpack_indexed.new.host in
    let at = λ (f : Filed). held c.args.administration.now.database f c.args.diversions.now in
    subst (λ (f : Filed). HasCalledBeside c.args.incoming c.args.beside.now (at f) old new c.args.told.now.items c.unpack_indexed.new.told.items) c.index_where_many.ensures c.unpack_indexed.ensures.told

pub returns-in-Ok-clause-any_moment : goal.returns-in-Ok-clause-any_moment
returns-in-Ok-clause-any_moment g c =
    let old = g.H.Host.state c.args.host.now in
    let new = g.H.Host.state c.unpack_indexed.new.host in
    let at = λ (f : Filed). held c.args.administration.now.database f c.args.diversions.now in
    subst (λ (f : Filed). AtEachMomentOf (IsAmidBeside c.args.incoming c.args.beside.now (at f) c.args.administration.now.places) old new) c.index_where_many.ensures c.unpack_indexed.ensures.any_moment
