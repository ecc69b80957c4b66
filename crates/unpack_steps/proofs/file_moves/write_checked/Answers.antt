use Rattle.std.proofs.Common.{inl, refl, subst}
use Rattle.std.specs.Prelude.{MatchOption}
use Rattle.administration.specs.Places.{list_path}
use Rattle.file_lists.specs.Writing.{list_file}
use Rattle.listed_files.specs.Listing.{HasListed, HasTurnedBack, MayTurnBack}
use Rattle.unpack_rows.specs.EndStates.{own_name}
use Rattle.unpack_steps.proofs.Answering.{quiet_moments}
use Rattle.unpack_steps.proofs.file_moves.write_checked.Goals as goal

pub returns-in_err-push_places-clause-any_moment : goal.returns-in_err-push_places-clause-any_moment
returns-in_err-push_places-clause-any_moment g c =
    let s = g.H.Host.state c.args.host.now in
    quiet_moments (MayTurnBack (list_path (own_name c.args.rows.now.found c.args.rows.now.incoming)) (list_file c.args.rows.now.union) (list_file c.args.rows.now.listed) c.args.works.now.items s.world) s
    (λ h. inl (inl (record { target = inl refl; spare = (c.requires.ready h).spare; rest = λ q a b. refl })))

pub returns-in_err-union-clause-any_moment : goal.returns-in_err-union-clause-any_moment
returns-in_err-union-clause-any_moment g c =
    let s = g.H.Host.state c.args.host.now in
    quiet_moments (MayTurnBack (list_path (own_name c.args.rows.now.found c.args.rows.now.incoming)) (list_file c.args.rows.now.union) (list_file c.args.rows.now.listed) c.args.works.now.items s.world) s
    (λ h. inl (inl (record { target = inl refl; spare = (c.requires.ready h).spare; rest = λ q a b. refl })))

pub returns-in_err-had-clause-any_moment : goal.returns-in_err-had-clause-any_moment
returns-in_err-had-clause-any_moment g c =
    let s = g.H.Host.state c.args.host.now in
    quiet_moments (MayTurnBack (list_path (own_name c.args.rows.now.found c.args.rows.now.incoming)) (list_file c.args.rows.now.union) (list_file c.args.rows.now.listed) c.args.works.now.items s.world) s
    (λ h. inl (inl (record { target = inl refl; spare = (c.requires.ready h).spare; rest = λ q a b. refl })))

pub returns-clause-listed : goal.returns-clause-listed
returns-clause-listed g c = λ h.
    let d = c.in_ok-declined.declined in
    let works = c.write_ordered.new.works.items in
    let old = (g.H.Host.state c.args.host.now).world in
    let new = (g.H.Host.state c.write_ordered.new.host).world in
    let name = c.name.result.now in
    let union = c.in_ok-union.union in
    let rows = c.args.rows.now in
    subst (λ n. MatchOption d (HasListed (list_path n) (list_file rows.union) works old new) (λ path. HasTurnedBack (list_path n) (list_file rows.union) (list_file rows.listed) works old new)) c.name.ensures
    (subst (λ u. MatchOption d (HasListed (list_path name) (list_file u) works old new) (λ path. HasTurnedBack (list_path name) (list_file u) (list_file rows.listed) works old new)) c.in_ok-union.ensures
    (subst (λ l. MatchOption d (HasListed (list_path name) (list_file union) works old new) (λ path. HasTurnedBack (list_path name) (list_file union) (list_file l) works old new)) c.in_ok-had.ensures (c.in_ok-declined.ensures.listed h)))
