use Rattle.std.proofs.Common.{◌∷◌, [], refl, ap, subst, codes, ◌∙◌, IfErr, IfOk}
use Rattle.administration.specs.Places.{home_path, info_path}
use Rattle.file_lists.specs.Info.{AreSound, IsInfoDamage}
use Rattle.file_lists.specs.Lists.{HasLists}
use Rattle.opening.specs.Parts.{Way, Info, names_of}
use Rattle.opening.proofs.Openings.{child_parent, info_read, listed_read, moments_read, moments_then, stopped_before, stopped_memory, table_opens}
use Rattle.opening.proofs.open.open_info.Goals as goal

pub make_way-requires-clause-parent : goal.make_way-requires-clause-parent
make_way-requires-clause-parent g c = λ h. child_parent (g.H.Host.state c.args.host.now).world home_path (codes "info") refl (c.requires.home h)

pub returns-in_err-names-clause-opens : goal.returns-in_err-names-clause-opens
returns-in_err-names-clause-opens g c = λ h. stopped_memory (Way info_path ∷ Info ∷ []) c.from_residual.result _ c.from_residual.ensures.1

pub returns-in_err-make_way-clause-opens : goal.returns-in_err-make_way-clause-opens
returns-in_err-make_way-clause-opens g c = λ h.
    stopped_before (Way info_path ∷ []) (Info ∷ []) _ c.from_residual-in_err-make_way.result _ _ c.from_residual-in_err-make_way.ensures.1 (c.in_err-make_way.ensures.opens h)

pub returns-clause-opens : goal.returns-clause-opens
returns-clause-opens g c = λ h.
    let h1 = c.open.ensures.silent.honest h in
    let made = c.in_ok-make_way.ensures.opens h1 in
    let named = c.as_slice.ensures ∙ c.in_ok-names.ensures ∙ ap names_of c.records.ensures in
    let world = (g.H.Host.state c.make_way.new.host).world in
    info_read c.open.result c.args.database.now.records _ _ _ made (table_opens c.args.database.now.records _ _ made (c.requires.table (c.make_way.ensures.silent.honest h1))) c.open.ensures.reads.world (c.open.ensures.text h)
    (subst (λ names. IfOk c.open.result (λ k. AreSound world names)) named (c.open.ensures.sound h))
    (subst (λ names. IfErr c.open.result (IsInfoDamage world names)) named (c.open.ensures.damage h))

pub returns-clause-listed : goal.returns-clause-listed
returns-clause-listed g c = λ h.
    let named = c.as_slice.ensures ∙ c.in_ok-names.ensures ∙ ap names_of c.records.ensures in
    let world = (g.H.Host.state c.make_way.new.host).world in
    listed_read c.open.result c.args.database.now.records _ _ c.open.ensures.reads.world
    (subst (λ names. IfOk c.open.result (λ k. AreSound world names)) named (c.open.ensures.sound h))
    (subst (λ names. IfOk c.open.result (λ f. HasLists world names f.lists)) named (c.open.ensures.lists h))

pub returns-clause-any_moment : goal.returns-clause-any_moment
returns-clause-any_moment g c = moments_then _ _ _ c.make_way.ensures.any_moment (moments_read _ _ c.open.ensures.reads)
