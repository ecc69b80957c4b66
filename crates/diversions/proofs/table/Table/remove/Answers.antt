use Rattle.std.proofs.Common.{◌≡◌, ◌∙◌, sym, ap, false, cond, List, ℕ}
use Rattle.std.specs.HashSet.{contains_text}
use Rattle.std.specs.Str.{bytes_eq}
use Rattle.std.specs.String.{string_bytes}
use Rattle.std.proofs.lemmas.Map.Text.{hash_set_updates_text}
use Rattle.diversions.specs.Entries.{without}
use Rattle.diversions.specs.Index.{entries_of}
use Rattle.diversions.proofs.Indexed.{taken_out, removed}
use Rattle.diversions.proofs.table.Table.remove.Goals as goal
use Rattle.diversions.proofs.table.Table.remove.Goals.{in-Package-1, in-Local-1}

pub invariant_of-self : goal.invariant_of-self
invariant_of-self c = (taken_out string_bytes c.self.inside.entries.entries c.shift_remove.new.self.entries c.args.path.now c.in-Some.entry (contains_text c.self.inside.targets) (contains_text c.swap_remove.new.self) c.self.invariant c.shift_remove.ensures.entries (sym c.in-Some.ensures.value)
    (λ q. hash_set_updates_text c.as_str.result.now c.self.inside.targets c.swap_remove.new.self false c.swap_remove.ensures.updates q ∙ ap (λ (bs : List ℕ). cond (bytes_eq bs q) false (contains_text c.self.inside.targets q)) c.as_str.ensures)).0

pub invariant_of-self-in-Some-2 : goal.invariant_of-self-in-Some-2
invariant_of-self-in-Some-2 c = (taken_out string_bytes c.self.inside.entries.entries c.shift_remove.new.self.entries c.args.path.now c.in-Some.entry (contains_text c.self.inside.targets) (contains_text c.swap_remove.new.self) c.self.invariant c.shift_remove.ensures.entries (sym c.in-Some.ensures.value)
    (λ q. hash_set_updates_text c.as_str.result.now c.self.inside.targets c.swap_remove.new.self false c.swap_remove.ensures.updates q ∙ ap (λ (bs : List ℕ). cond (bytes_eq bs q) false (contains_text c.self.inside.targets q)) c.as_str.ensures)).0

pub returns-in-Some : goal.returns-in-Some
returns-in-Some c =
    let left : entries_of c.shift_remove.new.self.entries ≡ without c.args.path.now c.args.self.now =
    ap entries_of c.shift_remove.ensures.entries ∙ removed string_bytes c.self.inside.entries.entries c.args.path.now c.self.invariant.keyed c.self.invariant.table ∙ ap (without c.args.path.now) c.self.view_is in
    elim c.match-entry.branch [ in-Package-1 w ↦ w.self-is ∙ left | in-Local-1 w ↦ w.self-is ∙ left ]

pub returns-in_default : goal.returns-in_default
returns-in_default c =
    ap entries_of c.shift_remove.ensures.entries ∙ removed string_bytes c.self.inside.entries.entries c.args.path.now c.self.invariant.keyed c.self.invariant.table ∙ ap (without c.args.path.now) c.self.view_is
