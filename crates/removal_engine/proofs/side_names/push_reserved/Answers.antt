use Rattle.std.proofs.Common.{[], ◌∷◌, ◌++◌, refl, sym}
use Rattle.std.proofs.lemmas.List.{append-nil}
use Rattle.host_core.specs.Suffixes.{suffix_text}
use Rattle.host_core.specs.declared.suffix.Suffix.{Suffix}
use Rattle.host_core.specs.declared.suffix.Suffix.TheVariants.{New, Old, Dist, Tmp, Inst}
use Rattle.removal_engine.specs.Names.{ownerless}
use Rattle.removal_engine.proofs.Chosen.{gathered, ownerless_law}
use Rattle.removal_engine.proofs.side_names.push_reserved.Goals as goal

pub returns : goal.returns
returns c =
    let base = c.args.names.now.items in
    let free = ownerless c.args.diversions.now.ways c.args.lists.now.lists c.args.name.now in
    let law = ownerless_law c.args.diversions.now.ways c.args.lists.now.lists c.args.name.now in
    let beside = λ (s : Suffix). c.args.at.now ++ suffix_text s in
    let first = gathered free law [] (beside New) _ base base _ (sym (append-nil base)) c.in_ok-push_suffixed.ensures refl in
    let second = gathered free law (beside New ∷ []) (beside Old) _ base _ _ first c.in_ok-push_suffixed-2.ensures refl in
    let third = gathered free law (beside New ∷ beside Old ∷ []) (beside Dist) _ base _ _ second c.in_ok-push_suffixed-3.ensures refl in
    let fourth = gathered free law (beside New ∷ beside Old ∷ beside Dist ∷ []) (beside Tmp) _ base _ _ third c.in_ok-push_suffixed-4.ensures refl in
    gathered free law (beside New ∷ beside Old ∷ beside Dist ∷ beside Tmp ∷ []) (beside Inst) _ base _ _ fourth c.in_ok-push_suffixed-5.ensures refl
