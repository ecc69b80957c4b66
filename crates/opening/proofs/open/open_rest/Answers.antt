use Rattle.std.proofs.Common.{◌∷◌, [], codes, refl}
use Rattle.administration.specs.Places.{diversions_path, home_path, info_path, status_path, temporary, updates_path}
use Rattle.opening.specs.Parts.{Way, Spare, Info, Diversions, Leftovers, names_of}
use Rattle.opening.proofs.Openings.{child_parent, home_kept, listed_through, moments_read, moments_then, opens_then, stopped_before, table_opens}
use Rattle.opening.proofs.open.open_rest.Goals as goal

pub returns-in_err-check_spare-clause-opens : goal.returns-in_err-check_spare-clause-opens
returns-in_err-check_spare-clause-opens g c = λ h.
    stopped_before (Spare (temporary status_path) ∷ []) (Way updates_path ∷ Way info_path ∷ Info ∷ Diversions ∷ Spare (temporary diversions_path) ∷ Leftovers ∷ []) _ c.from_residual.result _ _ c.from_residual.ensures.1 (c.in_err-check_spare.ensures.opens h)

pub returns-in_err-check_spare-clause-any_moment : goal.returns-in_err-check_spare-clause-any_moment
returns-in_err-check_spare-clause-any_moment g c = moments_read _ _ c.check_spare.ensures.reads

pub make_way-requires-clause-parent : goal.make_way-requires-clause-parent
make_way-requires-clause-parent g c = λ h1.
    child_parent (g.H.Host.state c.check_spare.new.host).world home_path (codes "updates") refl (home_kept _ _ (c.in_ok-check_spare.ensures.opens h1) (c.requires.home (c.check_spare.ensures.silent.honest h1)))

pub returns-in_err-make_way-clause-opens : goal.returns-in_err-make_way-clause-opens
returns-in_err-make_way-clause-opens g c = λ h.
    let h1 = c.make_way.ensures.silent.honest h in
    stopped_before (Spare (temporary status_path) ∷ Way updates_path ∷ []) (Way info_path ∷ Info ∷ Diversions ∷ Spare (temporary diversions_path) ∷ Leftovers ∷ []) _ c.from_residual-in_err-make_way.result _ _ c.from_residual-in_err-make_way.ensures.1
    (opens_then (Spare (temporary status_path) ∷ []) (Way updates_path ∷ []) _ _ _ _ ((refl, refl), tt) (c.in_ok-check_spare.ensures.opens h1) (c.in_err-make_way.ensures.opens h))

pub returns-in_err-make_way-clause-any_moment : goal.returns-in_err-make_way-clause-any_moment
returns-in_err-make_way-clause-any_moment g c = moments_then _ _ _ (moments_read _ _ c.check_spare.ensures.reads) c.make_way.ensures.any_moment

pub open_info-requires-clause-home : goal.open_info-requires-clause-home
open_info-requires-clause-home g c = λ h2.
    let h1 = c.make_way.ensures.silent.honest h2 in
    home_kept _ _ (c.in_ok-make_way.ensures.opens h2) (home_kept _ _ (c.in_ok-check_spare.ensures.opens h1) (c.requires.home (c.check_spare.ensures.silent.honest h1)))

pub open_info-requires-clause-table : goal.open_info-requires-clause-table
open_info-requires-clause-table g c = λ h2.
    let h1 = c.make_way.ensures.silent.honest h2 in
    table_opens _ _ _ (c.in_ok-make_way.ensures.opens h2) (table_opens _ _ _ (c.in_ok-check_spare.ensures.opens h1) (c.requires.table (c.check_spare.ensures.silent.honest h1)))

pub returns-in_err-lists-clause-opens : goal.returns-in_err-lists-clause-opens
returns-in_err-lists-clause-opens g c = λ h.
    let h2 = c.open_info.ensures.silent.honest h in
    let h1 = c.make_way.ensures.silent.honest h2 in
    stopped_before (Spare (temporary status_path) ∷ Way updates_path ∷ Way info_path ∷ Info ∷ []) (Diversions ∷ Spare (temporary diversions_path) ∷ Leftovers ∷ []) _ c.from_residual-in_err-lists.result _ _ c.from_residual-in_err-lists.ensures.1
    (opens_then (Spare (temporary status_path) ∷ []) (Way updates_path ∷ Way info_path ∷ Info ∷ []) _ _ _ _ ((refl, refl), tt) (c.in_ok-check_spare.ensures.opens h1)
    (opens_then (Way updates_path ∷ []) (Way info_path ∷ Info ∷ []) _ _ _ _ (refl, tt) (c.in_ok-make_way.ensures.opens h2) (c.in_err-lists.ensures.opens h)))

pub returns-in_err-lists-clause-any_moment : goal.returns-in_err-lists-clause-any_moment
returns-in_err-lists-clause-any_moment g c =
    moments_then _ _ _ (moments_then _ _ _ (moments_read _ _ c.check_spare.ensures.reads) c.make_way.ensures.any_moment) c.open_info.ensures.any_moment

pub returns-clause-opens : goal.returns-clause-opens
returns-clause-opens g c = λ h.
    let h3 = c.open_settled.ensures.silent.honest h in
    let h2 = c.open_info.ensures.silent.honest h3 in
    let h1 = c.make_way.ensures.silent.honest h2 in
    opens_then (Spare (temporary status_path) ∷ []) (Way updates_path ∷ Way info_path ∷ Info ∷ Diversions ∷ Spare (temporary diversions_path) ∷ Leftovers ∷ []) _ _ _ _ ((refl, refl), tt) (c.in_ok-check_spare.ensures.opens h1)
    (opens_then (Way updates_path ∷ []) (Way info_path ∷ Info ∷ Diversions ∷ Spare (temporary diversions_path) ∷ Leftovers ∷ []) _ _ _ _ (refl, tt) (c.in_ok-make_way.ensures.opens h2)
    (opens_then (Way info_path ∷ Info ∷ []) (Diversions ∷ Spare (temporary diversions_path) ∷ Leftovers ∷ []) _ _ _ _ (refl, (tt, tt)) (c.in_ok-lists.ensures.opens h3) (c.open_settled.ensures.opens h)))

pub returns-clause-listed : goal.returns-clause-listed
returns-clause-listed g c = λ h.
    listed_through c.open_settled.result (names_of c.args.database.now.records) c.in_ok-lists.lists _ _ (c.open_settled.ensures.opens h) c.open_settled.ensures.lists (c.in_ok-lists.ensures.listed (c.open_settled.ensures.silent.honest h))

pub returns-clause-any_moment : goal.returns-clause-any_moment
returns-clause-any_moment g c =
    moments_then _ _ _ (moments_then _ _ _ (moments_then _ _ _ (moments_read _ _ c.check_spare.ensures.reads) c.make_way.ensures.any_moment) c.open_info.ensures.any_moment) c.open_settled.ensures.any_moment
