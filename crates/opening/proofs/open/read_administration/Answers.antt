use Rattle.std.proofs.Common.{◌∷◌, [], refl, sym, subst}
use Rattle.administration.specs.Places.{diversions_path, home_path, info_path, status_path, temporary, updates_path}
use Rattle.opening.specs.Leaving.{var_path, lib_path}
use Rattle.opening.specs.Parts.{Root, Way, IsTable, Records, Spare, Info, Diversions, Leftovers}
use Rattle.status_db.specs.Held.{IsFree}
use Rattle.opening.proofs.Openings.{found_ok, found_open, free_kept, moments_read, moments_then, opens_then, records_damaged, records_read, stopped_before, table_opens}
use Rattle.opening.proofs.open.read_administration.Goals as goal

pub returns-in_err-open_ways-clause-opens : goal.returns-in_err-open_ways-clause-opens
returns-in_err-open_ways-clause-opens g c = λ h.
    stopped_before (Root ∷ Way var_path ∷ Way lib_path ∷ Way home_path ∷ []) (Records ∷ Spare (temporary status_path) ∷ Way updates_path ∷ Way info_path ∷ Info ∷ Diversions ∷ Spare (temporary diversions_path) ∷ Leftovers ∷ []) _ c.from_residual.result _ _ c.from_residual.ensures.1 (c.in_err-open_ways.ensures.opens h)

pub returns-in_err-database-clause-opens : goal.returns-in_err-database-clause-opens
returns-in_err-database-clause-opens g c = λ h.
    stopped_before (Root ∷ Way var_path ∷ Way lib_path ∷ Way home_path ∷ Records ∷ []) (Spare (temporary status_path) ∷ Way updates_path ∷ Way info_path ∷ Info ∷ Diversions ∷ Spare (temporary diversions_path) ∷ Leftovers ∷ []) _ c.from_residual-in_err-database.result _ _ c.from_residual-in_err-database.ensures.1
    (opens_then (Root ∷ Way var_path ∷ Way lib_path ∷ Way home_path ∷ []) (Records ∷ []) _ _ _ _ (tt, (refl, (refl, (refl, tt)))) (c.in_ok-open_ways.ensures.opens (c.open.ensures.silent.honest h))
    (records_damaged _ _ _ c.open.ensures.reads.world (c.in_err-database.ensures.damage h)))

pub returns-in_err-database-clause-any_moment : goal.returns-in_err-database-clause-any_moment
returns-in_err-database-clause-any_moment g c = moments_then _ _ _ c.open_ways.ensures.any_moment (moments_read _ _ c.open.ensures.reads)

pub returns-clause-opens : goal.returns-clause-opens
returns-clause-opens g c = λ h.
    let h2 = c.open_with.ensures.silent.honest h in
    let h1 = c.open.ensures.silent.honest h2 in
    opens_then (Root ∷ Way var_path ∷ Way lib_path ∷ Way home_path ∷ []) (Records ∷ Spare (temporary status_path) ∷ Way updates_path ∷ Way info_path ∷ Info ∷ Diversions ∷ Spare (temporary diversions_path) ∷ Leftovers ∷ []) _ _ _ _ (tt, (refl, (refl, (refl, tt)))) (c.in_ok-open_ways.ensures.opens h1)
    (opens_then (Records ∷ []) (Spare (temporary status_path) ∷ Way updates_path ∷ Way info_path ∷ Info ∷ Diversions ∷ Spare (temporary diversions_path) ∷ Leftovers ∷ []) _ _ _ _ (tt, tt)
    (records_read c.in_ok-database.database.records _ _ c.open.ensures.reads.world (c.in_ok-database.ensures.notes h2) (record { records = c.in_ok-database.ensures.records h2; standing = c.law.ensures.standing })) (c.open_with.ensures.opens h))

pub returns-clause-found : goal.returns-clause-found
returns-clause-found g c = λ h.
    let h2 = c.open_with.ensures.silent.honest h in
    let h1 = c.open.ensures.silent.honest h2 in
    let all = opens_then (Root ∷ Way var_path ∷ Way lib_path ∷ Way home_path ∷ []) (Records ∷ Spare (temporary status_path) ∷ Way updates_path ∷ Way info_path ∷ Info ∷ Diversions ∷ Spare (temporary diversions_path) ∷ Leftovers ∷ []) _ _ _ _ (tt, (refl, (refl, (refl, tt)))) (c.in_ok-open_ways.ensures.opens h1)
    (opens_then (Records ∷ []) (Spare (temporary status_path) ∷ Way updates_path ∷ Way info_path ∷ Info ∷ Diversions ∷ Spare (temporary diversions_path) ∷ Leftovers ∷ []) _ _ _ _ (tt, tt)
    (records_read c.in_ok-database.database.records _ _ c.open.ensures.reads.world (c.in_ok-database.ensures.notes h2) (record { records = c.in_ok-database.ensures.records h2; standing = c.law.ensures.standing })) (c.open_with.ensures.opens h)) in
    let later = table_opens c.in_ok-database.database.records _ _ (c.open_with.ensures.opens h)
    (subst (λ w. IsTable w c.in_ok-database.database.records) (sym c.open.ensures.reads.world) (record { records = c.in_ok-database.ensures.records h2; standing = c.law.ensures.standing })) in
    let free = free_kept c.in_ok-database.database.notes _ _ (c.open_with.ensures.opens h) (subst (IsFree c.in_ok-database.database.notes) (sym c.open.ensures.reads.world) (c.in_ok-database.ensures.free h2)) in
    found_ok c.open_with.result c.in_ok-database.database _ _ all c.open_with.ensures.database later free (c.open_with.ensures.listed h) (c.open_with.ensures.diverted h)

pub returns-clause-open : goal.returns-clause-open
returns-clause-open g c = found_open c.open_with.result c.in_ok-database.database c.open_with.ensures.database c.in_ok-database.ensures.opened

pub returns-clause-any_moment : goal.returns-clause-any_moment
returns-clause-any_moment g c = moments_then _ _ _ (moments_then _ _ _ c.open_ways.ensures.any_moment (moments_read _ _ c.open.ensures.reads)) c.open_with.ensures.any_moment
