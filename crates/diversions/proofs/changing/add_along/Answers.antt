use Rattle.std.proofs.Common.{◌≡◌, ◌++◌, ◌∷◌, [], None, inl, refl, sym, subst, ◌∙◌}
use Rattle.host_core.proofs.Moments.{since_reads}
use Rattle.diversions.specs.Changes.{CanMove, doubled_if, moved_if, set_aside, set_aside_twice}
use Rattle.diversions.specs.Refusals.{first_holding, move_conditions}
use Rattle.diversions.specs.Held.{ways_of}
use Rattle.diversions.proofs.Moving.{since_sight}
use Rattle.diversions.proofs.Passing.{brought_behind, can_move, doubled_same, moved_same, other_along, table_with_added, way_of_added}
use Rattle.diversions.proofs.Turning.{looks_turn, looks_then_turn, later_by}
use Rattle.diversions.proofs.changing.add_along.Goals as goal

pub returns-in_err-sight-clause-any_moment : goal.returns-in_err-sight-clause-any_moment
returns-in_err-sight-clause-any_moment g c = since_reads _ _ _ c.look_around.ensures.looks.reads (λ fs all. inl refl)

pub returns-in_err-sight-clause-turns : goal.returns-in_err-sight-clause-turns
returns-in_err-sight-clause-turns g c = looks_turn _ _ c.look_around.ensures.looks.reads

pub returns-in_err-refusal-clause-any_moment : goal.returns-in_err-refusal-clause-any_moment
returns-in_err-refusal-clause-any_moment g c = since_reads _ _ _ c.look_around.ensures.looks.reads (λ fs all. inl refl)

pub returns-in_err-refusal-clause-turns : goal.returns-in_err-refusal-clause-turns
returns-in_err-refusal-clause-turns g c = looks_turn _ _ c.look_around.ensures.looks.reads

pub returns-in-Some-clause-any_moment : goal.returns-in-Some-clause-any_moment
returns-in-Some-clause-any_moment g c = since_reads _ _ _ c.look_around.ensures.looks.reads (λ fs all. inl refl)

pub returns-in-Some-clause-turns : goal.returns-in-Some-clause-turns
returns-in-Some-clause-turns g c = looks_turn _ _ c.look_around.ensures.looks.reads

pub enter-requires-clause-may : goal.enter-requires-clause-may
enter-requires-clause-may g c =
    table_with_added c.in_ok-sight.sight (ways_of c.args.ways.now) c.args.entry.now c.args.rename c.args.seen (sym c.in_ok-refusal.ensures ∙ c.in_default.is) c.requires.formed c.law.ensures

pub enter-requires-clause-can : goal.enter-requires-clause-can
enter-requires-clause-can g c = λ h moves.
    let d = c.args.entry.now in
    let from = c.args.route.now.from in
    let to = c.args.route.now.to in
    let way = c.way_of-way.result in
    let none = sym c.in_ok-refusal.ensures ∙ c.in_default.is in
    subst (CanMove way.brings from to) (sym c.look_around.ensures.looks.reads.world)
    (can_move way.moves way.brings c.args.rename c.args.seen.listed c.in_ok-sight.sight _ from to c.way_of-way.ensures.moves c.way_of-way.ensures.brings (c.in_ok-sight.ensures.looks.found h)
    (other_along c.in_ok-sight.sight (ways_of c.args.ways.now) d c.args.route.now c.args.rename c.args.seen c.requires.route none) c.law-2.ensures
    (subst (λ b. first_holding (move_conditions b c.in_ok-sight.sight) ≡ None) (sym c.way_of-way.ensures.moves)
    (way_of_added c.in_ok-sight.sight (ways_of c.args.ways.now) d c.args.rename c.args.seen none)) moves)

pub returns-in_err-enter-clause-any_moment : goal.returns-in_err-enter-clause-any_moment
returns-in_err-enter-clause-any_moment g c =
    let d = c.args.entry.now in
    let from = c.args.route.now.from in
    let to = c.args.route.now.to in
    let way = c.way_of-way.result in
    let same = c.look_around.ensures.looks.reads.world in
    since_sight (doubled_if way.moves from to) (set_aside_twice from to c.args.rename c.args.seen) (moved_if way.moves from to) (set_aside from to c.args.rename c.args.seen) (c.args.ways.now.entries ++ d ∷ []) _ _ _ c.look_around.ensures.looks.reads
    (λ h. doubled_same way.moves c.args.rename c.args.seen.listed c.in_ok-sight.sight _ _ from to c.way_of-way.ensures.moves (c.in_ok-sight.ensures.looks.found (c.enter.ensures.silent.honest h)) same)
    (λ h. moved_same way.moves c.args.rename c.args.seen.listed c.in_ok-sight.sight _ _ from to c.way_of-way.ensures.moves (c.in_ok-sight.ensures.looks.found (c.enter.ensures.silent.honest h)) same)
    c.enter.ensures.any_moment

pub returns-in_err-enter-clause-turns : goal.returns-in_err-enter-clause-turns
returns-in_err-enter-clause-turns g c = looks_then_turn _ _ _ c.look_around.ensures.looks.reads (later_by _ _ _ c.enter.ensures.any_moment) c.enter.ensures.turns

pub returns-clause-any_moment : goal.returns-clause-any_moment
returns-clause-any_moment g c =
    let d = c.args.entry.now in
    let from = c.args.route.now.from in
    let to = c.args.route.now.to in
    let way = c.way_of-way.result in
    let same = c.look_around.ensures.looks.reads.world in
    since_sight (doubled_if way.moves from to) (set_aside_twice from to c.args.rename c.args.seen) (moved_if way.moves from to) (set_aside from to c.args.rename c.args.seen) (c.args.ways.now.entries ++ d ∷ []) _ _ _ c.look_around.ensures.looks.reads
    (λ h. doubled_same way.moves c.args.rename c.args.seen.listed c.in_ok-sight.sight _ _ from to c.way_of-way.ensures.moves (c.in_ok-sight.ensures.looks.found (c.enter.ensures.silent.honest h)) same)
    (λ h. moved_same way.moves c.args.rename c.args.seen.listed c.in_ok-sight.sight _ _ from to c.way_of-way.ensures.moves (c.in_ok-sight.ensures.looks.found (c.enter.ensures.silent.honest h)) same)
    c.enter.ensures.any_moment

pub returns-clause-turns : goal.returns-clause-turns
returns-clause-turns g c = looks_then_turn _ _ _ c.look_around.ensures.looks.reads (later_by _ _ _ c.enter.ensures.any_moment) c.enter.ensures.turns

pub returns-clause-brought : goal.returns-clause-brought
returns-clause-brought g c =
    let d = c.args.entry.now in
    let from = c.args.route.now.from in
    let to = c.args.route.now.to in
    brought_behind c.args.rename c.args.seen.listed c.in_ok-sight.sight c.way_of-way.result.brings (g.H.Host.state c.args.host.now) (g.H.Host.state c.look_around.new.host) (g.H.Host.state c.enter.new.host) from to c.way_of-way.ensures.brings
    (λ h. c.in_ok-sight.ensures.looks.found (c.enter.ensures.silent.honest h)) c.look_around.ensures.looks.reads (λ is. c.in_ok-enter.ensures.brought is)
