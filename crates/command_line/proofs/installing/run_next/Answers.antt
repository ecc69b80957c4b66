use Rattle.std.proofs.Common.{◌≡◌, ◌-◌, ◌∙◌, ◌∷◌, [], ℕ, List, ap, append-nil, arith, length, refl, sym}
use Rattle.std.specs.Vec.Iter.{into_iter_items}
use Rattle.std.specs.Prelude.{is_some}
use Rattle.std.proofs.lemmas.List.{nil_from_length}
use Rattle.command_line.specs.Reading.{words_before}
use Rattle.command_line.proofs.Rounds.{behind_then, earlier_before, earlier_then, last_alone, left_then, none_cases, none_of, one_broken, round_from, rounds_none}
use Rattle.command_line.proofs.installing.run_next.Goals as goal

pub returns-in_default-clause-over : goal.returns-in_default-clause-over
returns-in_default-clause-over g c = λ over.
    let empty = none_cases c.next.result _ _ c.in_default.not-Some c.next.ensures.cases in
    let short : length (into_iter_items c.args.rounds.now) ≡ 0 = omega (arith, empty.0) in
    let none : into_iter_items c.args.rounds.now ≡ [] = nil_from_length (into_iter_items c.args.rounds.now) short in
    ([], sym (append-nil c.args.reports.now.items), rounds_none _ _ _ _ _ _ _ _ none, c.requires.open, refl)

pub returns-then-broken-clause-over : goal.returns-then-broken-clause-over
returns-then-broken-clause-over g c = λ over.
    let came = c.install_round-came.result in
    let all = c.args.all.now in
    let left = c.args.left.now in
    let later = c.saturating_sub-later.result in
    let round = c.in-Some.round in
    let next = c.in-Some.ensures.cases.0 in
    let is_later : later ≡ left - length round.items = omega arith in
    let earlier = ap (λ (l : List (List ℕ)). words_before l (length round.items)) c.words_before-words.ensures
    ∙ earlier_before _ _ round _ next all left later c.requires.behind c.requires.left is_later in
    let broken : is_some _ ≡ _ = sym c.is_broken-broken.ensures ∙ c.if-broken.true in (
      came ∷ [],
      c.push_reserved.ensures.items,
      one_broken _ _ round _ next _ _ _ _ came _ _ _ _ (round_from _ _ _ _ _ _ _ _ _ _ _ earlier c.install_round-came.ensures.done) broken,
      c.install_round-came.ensures.closes ∙ sym (last_alone _),
      (c.install_round-came.new.watcher, c.install_round-came.ensures.watched, refl),
    )

pub returns-clause-next : goal.returns-clause-next
returns-clause-next g c = λ goes.
    let came = c.install_round-came.result in
    let all = c.args.all.now in
    let left = c.args.left.now in
    let later = c.saturating_sub-later.result in
    let round = c.in-Some.round in
    let next = c.in-Some.ensures.cases.0 in
    let is_later : later ≡ left - length round.items = omega arith in
    let earlier = ap (λ (l : List (List ℕ)). words_before l (length round.items)) c.words_before-words.ensures
    ∙ earlier_before _ _ round _ next all left later c.requires.behind c.requires.left is_later in
    let whole = none_of _ (sym c.is_broken-broken.ensures ∙ c.if-broken.false) in (
      came,
      c.push_reserved.ensures.items,
      (round, next, earlier_then _ _ round _ next all left later c.requires.behind c.requires.left is_later, round_from _ _ _ _ _ _ _ _ _ _ _ earlier c.install_round-came.ensures.done),
      whole,
      c.install_round-came.ensures.watched,
    )

pub returns-clause-open : goal.returns-clause-open
returns-clause-open g c = λ goes. c.install_round-came.ensures.closes ∙ (sym c.is_broken-broken.ensures ∙ c.if-broken.false)

pub returns-clause-behind : goal.returns-clause-behind
returns-clause-behind g c = λ goes.
    let is_later : c.saturating_sub-later.result ≡ c.args.left.now - length c.in-Some.round.items = omega arith in
    behind_then _ _ c.in-Some.round _ c.in-Some.ensures.cases.0 c.args.all.now c.args.left.now c.saturating_sub-later.result c.requires.behind c.requires.left is_later

pub returns-clause-left : goal.returns-clause-left
returns-clause-left g c = λ goes.
    let is_later : c.saturating_sub-later.result ≡ c.args.left.now - length c.in-Some.round.items = omega arith in
    left_then _ _ c.in-Some.round _ c.in-Some.ensures.cases.0 c.args.all.now c.args.left.now c.saturating_sub-later.result c.requires.behind c.requires.left is_later

pub returns-clause-room : goal.returns-clause-room
returns-clause-room g c = λ goes.
    omega (arith, c.requires.room, ap length c.in-Some.ensures.cases.0, c.push_reserved.ensures.len, c.push_reserved.ensures.capacity)

pub returns-clause-fewer : goal.returns-clause-fewer
returns-clause-fewer g c = λ goes. omega (arith, ap length c.in-Some.ensures.cases.0)
