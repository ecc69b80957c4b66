use Rattle.std.proofs.Common.{false, inl, refl, sym, subst, ◌∙◌}
use Rattle.host_core.proofs.Moments.{since_reads}
use Rattle.diversions.specs.Changes.{CanMove, doubled_if, moved_if, restored, restored_twice}
use Rattle.diversions.specs.Entries.{without}
use Rattle.diversions.proofs.Moving.{since_sight}
use Rattle.diversions.proofs.Passing.{brought_behind, can_move_back, doubled_back, moved_back}
use Rattle.diversions.proofs.Turning.{looks_turn, looks_then_turn, later_by}
use Rattle.diversions.proofs.changing.take_away.Goals as goal

pub returns-in_err-sight-clause-any_moment : goal.returns-in_err-sight-clause-any_moment
returns-in_err-sight-clause-any_moment g c = since_reads _ _ _ c.look_around.ensures.looks.reads (λ fs all. inl refl)

pub returns-in_err-sight-clause-turns : goal.returns-in_err-sight-clause-turns
returns-in_err-sight-clause-turns g c = looks_turn _ _ c.look_around.ensures.looks.reads

pub returns-in-Some-clause-any_moment : goal.returns-in-Some-clause-any_moment
returns-in-Some-clause-any_moment g c = since_reads _ _ _ c.look_around.ensures.looks.reads (λ fs all. inl refl)

pub returns-in-Some-clause-turns : goal.returns-in-Some-clause-turns
returns-in-Some-clause-turns g c = looks_turn _ _ c.look_around.ensures.looks.reads

pub strike-requires-clause-can : goal.strike-requires-clause-can
strike-requires-clause-can g c = λ h moves.
    let way = c.way_back-way.result in
    subst (CanMove way.brings c.args.route.now.from c.args.route.now.to) (sym c.look_around.ensures.looks.reads.world)
    (can_move_back way.moves way.brings c.args.rename c.in_ok-sight.sight _ c.args.route.now.from c.args.route.now.to c.way_back-way.ensures.moves c.way_back-way.ensures.brings (c.in_ok-sight.ensures.looks.found h) c.law.ensures
    (sym c.move_refusal.ensures ∙ c.in_default.is) moves)

pub returns-in_err-strike-clause-any_moment : goal.returns-in_err-strike-clause-any_moment
returns-in_err-strike-clause-any_moment g c =
    let way = c.way_back-way.result in
    let same = c.look_around.ensures.looks.reads.world in
    since_sight (doubled_if way.moves c.args.route.now.from c.args.route.now.to) (restored_twice c.args.route.now.to c.args.route.now.from c.args.rename) (moved_if way.moves c.args.route.now.from c.args.route.now.to) (restored c.args.route.now.to c.args.route.now.from c.args.rename)
    (without c.args.path.now c.args.table.now) _ _ _ c.look_around.ensures.looks.reads
    (λ h. doubled_back way.moves c.args.rename c.in_ok-sight.sight _ _ c.args.route.now.from c.args.route.now.to c.way_back-way.ensures.moves (c.in_ok-sight.ensures.looks.found (c.strike.ensures.silent.honest h)) same)
    (λ h. moved_back way.moves c.args.rename c.in_ok-sight.sight _ _ c.args.route.now.from c.args.route.now.to c.way_back-way.ensures.moves (c.in_ok-sight.ensures.looks.found (c.strike.ensures.silent.honest h)) same)
    c.strike.ensures.any_moment

pub returns-in_err-strike-clause-turns : goal.returns-in_err-strike-clause-turns
returns-in_err-strike-clause-turns g c = looks_then_turn _ _ _ c.look_around.ensures.looks.reads (later_by _ _ _ c.strike.ensures.any_moment) c.strike.ensures.turns

pub returns-clause-any_moment : goal.returns-clause-any_moment
returns-clause-any_moment g c =
    let way = c.way_back-way.result in
    let same = c.look_around.ensures.looks.reads.world in
    since_sight (doubled_if way.moves c.args.route.now.from c.args.route.now.to) (restored_twice c.args.route.now.to c.args.route.now.from c.args.rename) (moved_if way.moves c.args.route.now.from c.args.route.now.to) (restored c.args.route.now.to c.args.route.now.from c.args.rename)
    (without c.args.path.now c.args.table.now) _ _ _ c.look_around.ensures.looks.reads
    (λ h. doubled_back way.moves c.args.rename c.in_ok-sight.sight _ _ c.args.route.now.from c.args.route.now.to c.way_back-way.ensures.moves (c.in_ok-sight.ensures.looks.found (c.strike.ensures.silent.honest h)) same)
    (λ h. moved_back way.moves c.args.rename c.in_ok-sight.sight _ _ c.args.route.now.from c.args.route.now.to c.way_back-way.ensures.moves (c.in_ok-sight.ensures.looks.found (c.strike.ensures.silent.honest h)) same)
    c.strike.ensures.any_moment

pub returns-clause-turns : goal.returns-clause-turns
returns-clause-turns g c = looks_then_turn _ _ _ c.look_around.ensures.looks.reads (later_by _ _ _ c.strike.ensures.any_moment) c.strike.ensures.turns

pub returns-clause-brought : goal.returns-clause-brought
returns-clause-brought g c =
    brought_behind c.args.rename false c.in_ok-sight.sight c.way_back-way.result.brings (g.H.Host.state c.args.host.now) (g.H.Host.state c.look_around.new.host) (g.H.Host.state c.strike.new.host) c.args.route.now.from c.args.route.now.to c.way_back-way.ensures.brings
    (λ h. c.in_ok-sight.ensures.looks.found (c.strike.ensures.silent.honest h)) c.look_around.ensures.looks.reads (λ is. c.in_ok-strike.ensures.brought is)
