use Rattle.std.proofs.Common.{◌≡◌, ◌∙◌, true, sym, ap, subst}
use Rattle.std.specs.Prelude.{IsSome}
use Rattle.std.specs.BTreeMap.{get_by_text}
use Rattle.host_core.specs.Paths.{Path, is_path}
use Rattle.host_overlay.specs.Standings.{changed}
use Rattle.host_overlay.specs.declared.standing.Standing.{Standing}
use Rattle.host_overlay.proofs.Maps.{updated, paths_changed, paths_same}
use Rattle.host_overlay.proofs.changes.Changes.put_out.Goals as goal

pub invariant_of-self : goal.invariant_of-self
invariant_of-self c =
    let m = c.args.self.now.map in
    let there = subst (λ (p : Path). IsSome (get_by_text m p)) (sym c.as_str.ensures) c.requires in
    let is = updated c.as_str.result.now m (c.get_mut.follows.lender c.new.result) c.new.result ((c.get_mut.follows.holds c.new.result).3 there) in
    let path = subst (λ (p : Path). is_path p ≡ true) (sym c.as_str.ensures) (c.args.self.now.paths c.args.path.now c.requires) in
    record { paths = paths_same _ _ is (paths_changed (get_by_text m) c.as_str.result.now c.new.result c.args.self.now.paths path) }

pub returns-in-Some : goal.returns-in-Some
returns-in-Some c =
    let m = c.args.self.now.map in
    let there = subst (λ (p : Path). IsSome (get_by_text m p)) (sym c.as_str.ensures) c.requires in
    updated c.as_str.result.now m (c.get_mut.follows.lender c.new.result) c.new.result ((c.get_mut.follows.holds c.new.result).3 there)
    ∙ ap (λ (p : Path). changed (get_by_text m) p c.new.result) c.as_str.ensures ∙ ap (λ (s : Standing). changed (get_by_text m) c.args.path.now s) c.new.ensures
