use Rattle.std.proofs.Common.{List, ◌∷◌, [], ◌++◌, Contains, arith, refl, sym, ap, subst, ◌∙◌, rules}
use Rattle.std.proofs.lemmas.Bool.{true≢false}
use Rattle.std.proofs.lemmas.Slice.{pushed}
use Rattle.host_core.specs.World.{is_kept}
use Rattle.undo_rows.specs.declared.rows.Owner.{Owner}
use Rattle.undo_rows.specs.Transcript.{IsCall, Makes, UndoesAny, UndoesRow}
use Rattle.undo_rows.proofs.Makes.{begins_none, begins_weaker, makes_none, makes_weaker, moments_none, no_value, killed, some_call}
use Rattle.undo_rows.proofs.OneRow.{undoes_any, undoes_done, undoes_failed}
use Rattle.undo_rows.proofs.rows.undo_row.Goals as goal

pub returns-in_default-clause-calls : goal.returns-in_default-clause-calls
returns-in_default-clause-calls g c = makes_none _ (λ ts. UndoesRow c.args.row.now c.args.owners.now.items ts c.args.owners.now.items) _ _ (UndoesRow.absent _ c.in_default.is)

pub returns-in_default-clause-told : goal.returns-in_default-clause-told
returns-in_default-clause-told g c = begins_none _ (UndoesAny c.args.row.now c.args.owners.now.items) (g.H.Host.state c.args.host.now) _ _ [] refl (c.args.owners.now.items, UndoesRow.absent _ c.in_default.is)

pub returns-in_default-clause-any_moment : goal.returns-in_default-clause-any_moment
returns-in_default-clause-any_moment g c = moments_none _ _

pub returns-then-contains-clause-told : goal.returns-then-contains-clause-told
returns-then-contains-clause-told g c =
    let has = subst (λ l. Contains l c.args.row.now.owner) c.deref.ensures.value (c.contains.ensures.0 c.if-contains.true) in
    begins_none _ (UndoesAny c.args.row.now c.args.owners.now.items) (g.H.Host.state c.args.host.now) _ _ [] refl (c.args.owners.now.items, UndoesRow.spared _ has)

pub returns-then-contains-clause-any_moment : goal.returns-then-contains-clause-any_moment
returns-then-contains-clause-any_moment g c = moments_none _ _

pub returns-then-contains-clause-calls : goal.returns-then-contains-clause-calls
returns-then-contains-clause-calls g c =
    let has = subst (λ l. Contains l c.args.row.now.owner) c.deref.ensures.value (c.contains.ensures.0 c.if-contains.true) in
    makes_none _ (λ ts. UndoesRow c.args.row.now c.args.owners.now.items ts c.args.owners.now.items) _ _ (UndoesRow.spared _ has)

pub returns-in_err-owner-clause-told : goal.returns-in_err-owner-clause-told
returns-in_err-owner-clause-told g c =
    let lacks = λ (has : Contains c.args.owners.now.items c.args.row.now.owner). true≢false (sym (c.contains.ensures.1 (subst (λ l. Contains l c.args.row.now.owner) (sym c.deref.ensures.value) has)) ∙ c.if-contains.false) in
    begins_none _ (UndoesAny c.args.row.now c.args.owners.now.items) (g.H.Host.state c.args.host.now) _ _ (killed c.in-Some.undo ∷ []) refl (undoes_any c.args.row.now c.args.owners.now.items c.in-Some.undo c.in-Some.is lacks _ (some_call c.in-Some.undo))

pub returns-in_err-owner-clause-any_moment : goal.returns-in_err-owner-clause-any_moment
returns-in_err-owner-clause-any_moment g c = moments_none _ _

pub returns-in_err-reserve-clause-told : goal.returns-in_err-reserve-clause-told
returns-in_err-reserve-clause-told g c =
    let lacks = λ (has : Contains c.args.owners.now.items c.args.row.now.owner). true≢false (sym (c.contains.ensures.1 (subst (λ l. Contains l c.args.row.now.owner) (sym c.deref.ensures.value) has)) ∙ c.if-contains.false) in
    begins_none _ (UndoesAny c.args.row.now c.args.owners.now.items) (g.H.Host.state c.args.host.now) _ _ (killed c.in-Some.undo ∷ []) refl (undoes_any c.args.row.now c.args.owners.now.items c.in-Some.undo c.in-Some.is lacks _ (some_call c.in-Some.undo))

pub returns-in_err-reserve-clause-any_moment : goal.returns-in_err-reserve-clause-any_moment
returns-in_err-reserve-clause-any_moment g c = moments_none _ _

pub returns-in_err-outcome-clause-calls : goal.returns-in_err-outcome-clause-calls
returns-in_err-outcome-clause-calls g c = no_value _ _ c.from_residual-in_err-outcome.result c.from_residual-in_err-outcome.ensures.1

pub returns-in_err-outcome-clause-told : goal.returns-in_err-outcome-clause-told
returns-in_err-outcome-clause-told g c =
    let lacks = λ (has : Contains c.args.owners.now.items c.args.row.now.owner). true≢false (sym (c.contains.ensures.1 (subst (λ l. Contains l c.args.row.now.owner) (sym c.deref.ensures.value) has)) ∙ c.if-contains.false) in
    begins_weaker _ (IsCall c.in-Some.undo) (UndoesAny c.args.row.now c.args.owners.now.items) (g.H.Host.state c.args.host.now) (g.H.Host.state c.call_script.new.host) _ _ (undoes_any c.args.row.now c.args.owners.now.items c.in-Some.undo c.in-Some.is lacks) c.call_script.ensures.told

pub returns-in_err-outcome-clause-any_moment : goal.returns-in_err-outcome-clause-any_moment
returns-in_err-outcome-clause-any_moment g c = c.call_script.ensures.any_moment

pub returns-then-not-is_success-clause-told : goal.returns-then-not-is_success-clause-told
returns-then-not-is_success-clause-told g c =
    let lacks = λ (has : Contains c.args.owners.now.items c.args.row.now.owner). true≢false (sym (c.contains.ensures.1 (subst (λ l. Contains l c.args.row.now.owner) (sym c.deref.ensures.value) has)) ∙ c.if-contains.false) in
    begins_weaker _ (IsCall c.in-Some.undo) (UndoesAny c.args.row.now c.args.owners.now.items) (g.H.Host.state c.args.host.now) (g.H.Host.state c.call_script.new.host) _ _ (undoes_any c.args.row.now c.args.owners.now.items c.in-Some.undo c.in-Some.is lacks) c.call_script.ensures.told

pub returns-then-not-is_success-clause-any_moment : goal.returns-then-not-is_success-clause-any_moment
returns-then-not-is_success-clause-any_moment g c = c.call_script.ensures.any_moment

pub returns-else-not-is_success-clause-told : goal.returns-else-not-is_success-clause-told
returns-else-not-is_success-clause-told g c =
    let lacks = λ (has : Contains c.args.owners.now.items c.args.row.now.owner). true≢false (sym (c.contains.ensures.1 (subst (λ l. Contains l c.args.row.now.owner) (sym c.deref.ensures.value) has)) ∙ c.if-contains.false) in
    begins_weaker _ (IsCall c.in-Some.undo) (UndoesAny c.args.row.now c.args.owners.now.items) (g.H.Host.state c.args.host.now) (g.H.Host.state c.call_script.new.host) _ _ (undoes_any c.args.row.now c.args.owners.now.items c.in-Some.undo c.in-Some.is lacks) c.call_script.ensures.told

pub returns-else-not-is_success-clause-any_moment : goal.returns-else-not-is_success-clause-any_moment
returns-else-not-is_success-clause-any_moment g c = c.call_script.ensures.any_moment

pub unwrap-requires : goal.unwrap-requires
unwrap-requires g c = c.push.ensures.succeeds (omega (arith, c.in_ok-reserve.ensures.ok))

pub returns-then-not-is_success-clause-calls : goal.returns-then-not-is_success-clause-calls
returns-then-not-is_success-clause-calls g c =
    let row = c.args.row.now in
    let owners = c.args.owners.now.items in
    let lacks : Contains owners row.owner → ⊥ = search rules in
    let grown = pushed (c.in_ok-owner.owner ∷ []) c.reserve.ensures.items c.unwrap.ensures c.push.ensures.items ∙ ap (λ o. owners ++ o ∷ []) c.in_ok-owner.ensures in
    makes_weaker _ _ (λ ts. UndoesRow row owners ts c.push.new.self.items) _ _ _ _
    (undoes_failed row c.in-Some.undo c.in_ok-outcome.outcome owners c.push.new.self.items c.in-Some.is lacks (sym c.is_success.ensures ∙ c.if-not-is_success.true) grown) c.in_ok-outcome.ensures.calls

pub returns-else-not-is_success-clause-calls : goal.returns-else-not-is_success-clause-calls
returns-else-not-is_success-clause-calls g c =
    let row = c.args.row.now in
    let owners = c.args.owners.now.items in
    let lacks = λ (has : Contains owners row.owner). true≢false (sym (c.contains.ensures.1 (subst (λ l. Contains l row.owner) (sym c.deref.ensures.value) has)) ∙ c.if-contains.false) in
    subst (λ now. Makes (is_kept c.args.keep.now) (λ ts. UndoesRow row owners ts now) (g.H.Host.state c.args.host.now) (g.H.Host.state c.call_script.new.host) c.args.told.now.items c.call_script.new.told.items) (sym {A = List Owner} c.reserve.ensures.items)
    (makes_weaker _ _ (λ ts. UndoesRow row owners ts owners) _ _ _ _
    (undoes_done row c.in-Some.undo c.in_ok-outcome.outcome owners c.in-Some.is lacks (sym c.is_success.ensures ∙ c.if-not-is_success.false)) c.in_ok-outcome.ensures.calls)
