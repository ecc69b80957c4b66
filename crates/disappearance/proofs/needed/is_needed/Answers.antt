use Rattle.std.proofs.Common.{ℕ, List, map, sym, ap, subst, ◌∙◌}
use Rattle.std.proofs.lemmas.Option.{MatchOption-at_none, MatchOption-at_some}
use Rattle.relation_index.specs.declared.package.Package.{Package}
use Rattle.disappearance.specs.Needed.{HasNumber, is_called, is_supplied}
use Rattle.disappearance.proofs.Numbers.{need_of}
use Rattle.disappearance.proofs.needed.is_needed.Goals as goal

pub unreachable-requires : goal.unreachable-requires
unreachable-requires c =
    let name = c.args.name.now in
    let list = c.as_slice-list.result.now in
    let n = c.requires.known in
    MatchOption-at_none ((x : ℕ) → HasNumber list name x → ⊥) (HasNumber list name) c.in-None.is c.number_of.ensures n.0
    (subst (λ (ps : List Package). HasNumber ps name n.0) (sym c.as_slice-list.ensures.list) n.1)

pub returns : goal.returns
returns c = λ records are.
    let name = c.args.name.now in
    let incoming = c.args.incoming.now in
    let packages = c.args.packages.now in
    let list = c.as_slice-list.result.now in
    need_of incoming records name packages c.as_slice-supply.result.now c.as_slice-mine.result.now c.in-Some.number c.in_ok-by-in-Some.by c.is_some.result are
    (c.as_slice-supply.ensures.value ∙ c.in_ok-installed.ensures ∙ ap (map (is_supplied incoming)) c.as_slice-list.ensures.list)
    (c.as_slice-mine.ensures.value ∙ c.in_ok-own.ensures ∙ ap (map (is_called name)) c.as_slice-list.ensures.list)
    (subst (λ (ps : List Package). HasNumber ps name c.in-Some.number) c.as_slice-list.ensures.list
    (MatchOption-at_some ((x : ℕ) → HasNumber list name x → ⊥) (HasNumber list name) c.in-Some.number c.in-Some.is c.number_of.ensures))
    c.in_ok-by-in-Some.ensures c.is_some.ensures
