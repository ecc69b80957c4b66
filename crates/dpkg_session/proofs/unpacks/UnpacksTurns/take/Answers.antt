use Rattle.std.proofs.Common.{◌≡◌, ◌∷◌, ◌<◌, [], inl, inr, ap, arith, length, refl, subst, sym}
use Rattle.std.proofs.lemmas.Option.{MatchOption-at_none, MatchOption-at_some}
use Rattle.host_core.proofs.Moments.{since_start, since_weaker}
use Rattle.unit_runs.proofs.Barred.{not_taken}
use Rattle.dpkg_session.specs.Turns.{unread}
use Rattle.dpkg_session.specs.declared.report.Candidate.{Candidate}
use Rattle.unit_reports.specs.Held.{held_by}
use Rattle.dpkg_session.proofs.Told.{called_tells}
use Rattle.dpkg_session.proofs.unpacks.UnpacksTurns.take.Goals as goal

pub take_unit-requires-clause-indexed : goal.take_unit-requires-clause-indexed
take_unit-requires-clause-indexed g c = c.requires.between

pub returns-in-Ok-clause-taken : goal.returns-in-Ok-clause-taken
returns-in-Ok-clause-taken g c =
    let words = g.T.Trees.words in
    let old = c.args.self.now.trees.now in
    let new = c.next.new.self in
    let next = MatchOption-at_some ((words old ≡ []) × (new ≡ old)) (λ (x : Candidate). g.T.Trees.reads old x new × (words old ≡ x.label ∷ words new)) c.in-Some.candidate c.in-Some.is c.next.ensures in
    record { c = c.in-Some.candidate; read = record { read = next.0; word = next.1 }; labelled = c.in-Ok.ensures.labels; runs = c.in-Ok.ensures.ok }

pub returns-in-Err-clause-taken : goal.returns-in-Err-clause-taken
returns-in-Err-clause-taken g c =
    let words = g.T.Trees.words in
    let old = c.args.self.now.trees.now in
    let new = c.next.new.self in
    let next = MatchOption-at_some ((words old ≡ []) × (new ≡ old)) (λ (x : Candidate). g.T.Trees.reads old x new × (words old ≡ x.label ∷ words new)) c.in-Some.candidate c.in-Some.is c.next.ensures in
    let off = c.in-Err.ensures.broken_off in
    record {
      broken = off.broken;
      untouched = off.untouched;
      called = record { c = c.in-Some.candidate; read = record { read = next.0; word = next.1 }; broken = off; moments = c.take_unit.ensures.any_moment };
    }

pub returns-in-None-clause-taken : goal.returns-in-None-clause-taken
returns-in-None-clause-taken g c =
    let words = g.T.Trees.words in
    let old = c.args.self.now.trees.now in
    let new = c.next.new.self in
    let next = MatchOption-at_none ((words old ≡ []) × (new ≡ old)) (λ (x : Candidate). g.T.Trees.reads old x new × (words old ≡ x.label ∷ words new)) c.in-None.is c.next.ensures in
    record { ended = (next.0, ap (λ t. unread t c.args.self.now.labels.now c.args.self.now.diversions.now (c.args.self.now.trees.ghost_name, c.args.self.now.labels.ghost_name, c.args.self.now.diversions.ghost_name)) next.1); held = refl; here = refl }

pub returns-in-Ok-clause-any_moment : goal.returns-in-Ok-clause-any_moment
returns-in-Ok-clause-any_moment g c =
    let words = g.T.Trees.words in
    let old = c.args.self.now.trees.now in
    let new = c.next.new.self in
    let next = MatchOption-at_some ((words old ≡ []) × (new ≡ old)) (λ (x : Candidate). g.T.Trees.reads old x new × (words old ≡ x.label ∷ words new)) c.in-Some.candidate c.in-Some.is c.next.ensures in
    since_weaker _ _ _ _ (λ so_far w is. inr (c.in-Some.candidate, record { read = next.0; word = next.1 }, is)) c.take_unit.ensures.any_moment

pub returns-in-Err-clause-any_moment : goal.returns-in-Err-clause-any_moment
returns-in-Err-clause-any_moment g c =
    let words = g.T.Trees.words in
    let old = c.args.self.now.trees.now in
    let new = c.next.new.self in
    let next = MatchOption-at_some ((words old ≡ []) × (new ≡ old)) (λ (x : Candidate). g.T.Trees.reads old x new × (words old ≡ x.label ∷ words new)) c.in-Some.candidate c.in-Some.is c.next.ensures in
    since_weaker _ _ _ _ (λ so_far w is. inr (c.in-Some.candidate, record { read = next.0; word = next.1 }, is)) c.take_unit.ensures.any_moment

pub returns-in-None-clause-any_moment : goal.returns-in-None-clause-any_moment
returns-in-None-clause-any_moment g c = since_start _ (g.H.Host.state c.args.host.now) (inl (record { same = refl; quiet = refl }))

pub returns-in-Ok-clause-fewer : goal.returns-in-Ok-clause-fewer
returns-in-Ok-clause-fewer g c =
    let words = g.T.Trees.words in
    let old = c.args.self.now.trees.now in
    let new = c.next.new.self in
    let next = MatchOption-at_some ((words old ≡ []) × (new ≡ old)) (λ (x : Candidate). g.T.Trees.reads old x new × (words old ≡ x.label ∷ words new)) c.in-Some.candidate c.in-Some.is c.next.ensures in
    subst (λ ws. length (words new) < length ws) (sym next.1) (omega arith)

pub returns-in-Ok-clause-barred : goal.returns-in-Ok-clause-barred
returns-in-Ok-clause-barred g c = not_taken c.args.barred c.in-Ok.ensures.barred

pub returns-in-Err-clause-told : goal.returns-in-Err-clause-told
returns-in-Err-clause-told g c =
    called_tells c.args.self.now.allowed c.in-Some.candidate.tree (held_by c.args.administration.now c.args.self.now.diversions.now) c.in-Err.unit (g.H.Host.state c.args.host.now) (g.H.Host.state c.take_unit.new.host) c.in-Err.ensures.broken_off.called
