use Rattle.std.proofs.Common.{[], ◌∷◌, ◌++◌, codes, refl, ap, sym, ◌∙◌}
use Rattle.std.proofs.lemmas.List.{append-nil}
use Rattle.host_core.specs.Paths.{Path}
use Rattle.removal_engine.specs.Names.{ownerless, signed}
use Rattle.removal_engine.proofs.Chosen.{gathered, ownerless_law}
use Rattle.removal_engine.proofs.side_names.push_edited.Goals as goal

pub returns : goal.returns
returns c =
    let at = c.args.at.now in
    let base = c.args.names.now.items in
    let free = ownerless c.args.diversions.now.ways c.args.lists.now.lists c.args.name.now in
    let law = ownerless_law c.args.diversions.now.ways c.args.lists.now.lists c.args.name.now in
    let first = gathered free law [] at (at ++ []) base base _ (sym (append-nil base)) c.in_ok-push_ownerless.ensures (append-nil at) in
    let second = gathered free law (at ∷ []) (at ++ codes "~") _ base _ _ first c.in_ok-push_ownerless-2.ensures refl in
    let third = gathered free law (at ∷ (at ++ codes "~") ∷ []) (at ++ codes "%") _ base _ _ second c.in_ok-push_ownerless-3.ensures refl in
    gathered free law (at ∷ (at ++ codes "~") ∷ (at ++ codes "%") ∷ []) (signed at ++ codes "#") _ base _ _ third c.in_ok-push_ownerless-4.ensures
    (ap (λ (q : Path). q ++ codes "#") (c.as_str.ensures.value ∙ c.in_ok-signed.ensures))
