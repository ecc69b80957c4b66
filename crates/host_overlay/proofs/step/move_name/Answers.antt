use Rattle.std.proofs.Common.{◌≡◌, ◌≢◌, ◌∙◌, sym, ap, subst, rules}
use Rattle.std.specs.Prelude.{IsSome}
use Rattle.std.specs.BTreeMap.{get_by_text}
use Rattle.host_core.specs.World.{Move}
use Rattle.host_overlay.specs.Standings.{Changed, changed, gone, held_at}
use Rattle.host_overlay.specs.declared.standing.Standing.{Standing}
use Rattle.host_overlay.proofs.Overlaying.{on_err, stays_same, stays_by, stays_held, becomes_by, becomes_move, becomes_move_nowhere, still_changed}
use Rattle.host_overlay.proofs.step.move_name.Goals as goal
use Rattle.host_overlay.proofs.step.move_name.Goals.{In_ok-set, In_ok-set-2}

-- what stands there is said as a change
once : (c : In_ok-set) → get_by_text c.set.new.self.map ≡ changed (get_by_text c.args.changes.now.map) c.args.from.now (held_at (get_by_text c.args.changes.now.map) c.args.from.now)
once c = c.in_ok-set.ensures.ok ∙ ap (λ (s : Standing). changed (get_by_text c.args.changes.now.map) c.args.from.now s) c.in_ok-held.ensures

-- and then as one of the other path too
twice : (c : In_ok-set-2) → get_by_text c.set-2.new.self.map ≡ changed (changed (get_by_text c.args.changes.now.map) c.args.from.now (held_at (get_by_text c.args.changes.now.map) c.args.from.now)) c.args.to.now (held_at (get_by_text c.args.changes.now.map) c.args.from.now)
twice c =
    let m = get_by_text c.args.changes.now.map in
    c.in_ok-set-2.ensures.ok ∙ ap (λ (x : Changed). changed x c.args.to.now c.in_ok-standing.standing) (c.in_ok-set.ensures.ok ∙ ap (λ (s : Standing). changed m c.args.from.now s) c.in_ok-held.ensures)
    ∙ ap (λ (s : Standing). changed (changed m c.args.from.now (held_at m c.args.from.now)) c.args.to.now s) (c.in_ok-standing.ensures ∙ c.in_ok-held.ensures)

pub returns-in_err-set-clause-err : goal.returns-in_err-set-clause-err
returns-in_err-set-clause-err c = on_err c.from_residual-in_err-set.result _
    (stays_same (Move c.args.from.now c.args.to.now) (get_by_text c.args.changes.now.map) (get_by_text c.set.new.self.map) c.in_err-set.ensures.err)

pub returns-in_err-set-2-clause-err : goal.returns-in_err-set-2-clause-err
returns-in_err-set-2-clause-err c =
    let m = get_by_text c.args.changes.now.map in
    let a = c.args.from.now in
    on_err c.from_residual-in_err-set-2.result _
    (stays_by (Move a c.args.to.now) m (changed m a (held_at m a)) (get_by_text c.set-2.new.self.map) (c.in_err-set-2.ensures.err ∙ once (goal.at.returns-in_err-set-2-clause-err c).In_ok-set) (stays_held m a c.args.to.now))

pub put_out-requires : goal.put_out-requires
put_out-requires c =
    let m = get_by_text c.args.changes.now.map in
    subst (λ (x : Changed). IsSome (x c.args.from.now)) (sym (twice (goal.at.put_out-requires c).In_ok-set-2)) (still_changed m c.args.from.now c.args.to.now (held_at m c.args.from.now) (held_at m c.args.from.now))

pub returns-then-not-is-clause-ok : goal.returns-then-not-is-clause-ok
returns-then-not-is-clause-ok c =
    let m = get_by_text c.args.changes.now.map in
    let a = c.args.from.now in
    let b = c.args.to.now in
    let ne : a ≢ b = search rules in
    becomes_by (Move a b) m _ (get_by_text c.put_out.new.self.map) (c.put_out.ensures ∙ ap (λ (x : Changed). changed x a gone) (twice (goal.at.returns-then-not-is-clause-ok c).In_ok-set-2)) (becomes_move m a b ne)

pub returns-else-not-is-clause-ok : goal.returns-else-not-is-clause-ok
returns-else-not-is-clause-ok c =
    let m = get_by_text c.args.changes.now.map in
    let a = c.args.from.now in
    let b = c.args.to.now in
    let same : a ≡ b = search rules in
    becomes_by (Move a b) m _ (get_by_text c.set-2.new.self.map) (twice (goal.at.returns-else-not-is-clause-ok c).In_ok-set-2) (becomes_move_nowhere m a b same)
