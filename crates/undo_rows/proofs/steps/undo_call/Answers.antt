use Rattle.std.proofs.Common.{◌≡◌, Contains, [], false, not, length, vec_len, refl, subst, rules}
use Rattle.undo_rows.specs.Transcript.{UndoesAny, UndoesRow}
use Rattle.undo_rows.proofs.Makes.{begins_none, begins_weaker, makes_none, makes_weaker, moments_none}
use Rattle.undo_rows.specs.Undoing.{Undoes, owners_of}
use Rattle.undo_rows.specs.Transcripts.{MayUndo}
use Rattle.undo_rows.proofs.Undone.{may_be_told, told_empty, undoes_told}
use Rattle.undo_rows.proofs.steps.undo_call.Goals as goal

pub returns-then-has_failed-clause-calls : goal.returns-then-has_failed-clause-calls
returns-then-has_failed-clause-calls g c =
    let has : Contains (owners_of c.args.failed.now) c.args.row.now.owner = search rules in
    makes_none _ (λ ts. Undoes c.args.row.now c.args.failed.now ts false) _ _ (Undoes.spared c.requires.calls has)

pub returns-then-has_failed-clause-told : goal.returns-then-has_failed-clause-told
returns-then-has_failed-clause-told g c =
    let has : Contains (owners_of c.args.failed.now) c.args.row.now.owner = search rules in
    begins_none _ (MayUndo c.args.row.now c.args.failed.now) _ _ _ [] refl (false, Undoes.spared c.requires.calls has)

pub returns-then-has_failed-clause-any_moment : goal.returns-then-has_failed-clause-any_moment
returns-then-has_failed-clause-any_moment g c = moments_none _ _

pub returns-in_err-undo_row-clause-told : goal.returns-in_err-undo_row-clause-told
returns-in_err-undo_row-clause-told g c =
    let lacks : Contains (owners_of c.args.failed.now) c.args.row.now.owner → ⊥ = search rules in
    begins_weaker _ (UndoesAny c.args.row.now _) (MayUndo c.args.row.now c.args.failed.now) _ _ _ _ (λ ts is. may_be_told c.args.row.now c.args.failed.now c.requires.calls lacks ts (subst (λ l. UndoesAny c.args.row.now l ts) c.new-owners.ensures.items is)) c.undo_row.ensures.told

pub returns-clause-told : goal.returns-clause-told
returns-clause-told g c =
    let lacks : Contains (owners_of c.args.failed.now) c.args.row.now.owner → ⊥ = search rules in
    begins_weaker _ (UndoesAny c.args.row.now _) (MayUndo c.args.row.now c.args.failed.now) _ _ _ _ (λ ts is. may_be_told c.args.row.now c.args.failed.now c.requires.calls lacks ts (subst (λ l. UndoesAny c.args.row.now l ts) c.new-owners.ensures.items is)) c.undo_row.ensures.told

pub returns-clause-calls : goal.returns-clause-calls
returns-clause-calls g c =
    let row = c.args.row.now in
    let failed = c.args.failed.now in
    let owners = c.undo_row.new.owners.items in
    let lacks : Contains (owners_of failed) row.owner → ⊥ = search rules in
    let long : vec_len c.undo_row.new.owners ≡ length owners = search rules in
    let fails = told_empty owners (vec_len c.undo_row.new.owners) c.is_empty.result long c.is_empty.ensures in
    makes_weaker _ (λ ts. UndoesRow row c.new-owners.result.items ts owners) (λ ts. Undoes row failed ts (not c.is_empty.result)) _ _ _ _
    (λ ts is. undoes_told row failed owners (not c.is_empty.result) c.requires.calls lacks fails.0 fails.1 ts (subst (λ l. UndoesRow row l ts owners) c.new-owners.ensures.items is))
    c.in_ok-undo_row.ensures.calls
