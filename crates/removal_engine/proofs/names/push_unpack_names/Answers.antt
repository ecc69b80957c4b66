use Rattle.std.proofs.Common.{◌≡◌, [], ◌∷◌, ◌++◌, ap, sym, ◌∙◌}
use Rattle.std.proofs.lemmas.List.{append-nil}
use Rattle.host_core.specs.Paths.{Path}
use Rattle.host_core.specs.Suffixes.{suffix_text}
use Rattle.host_core.specs.declared.suffix.Suffix.TheVariants.{Inst, Tmp}
use Rattle.list_changes.specs.Clearable.{clearable}
use Rattle.removal_engine.proofs.Chosen.{clearable_law, gathered}
use Rattle.removal_engine.proofs.names.push_unpack_names.Goals as goal

pub returns : goal.returns
returns c =
    let at = c.args.at.now in
    let base = c.args.names.now.items in
    let place = c.as_str-place.ensures in
    let name = λ (q t : Path) (e : q ≡ t). ap (λ (p : Path). p ++ q) place ∙ ap (λ (s : Path). at ++ s) e in
    gathered clearable clearable_law ((at ++ suffix_text Inst) ∷ []) (at ++ suffix_text Tmp) _ base _ _
    (gathered clearable clearable_law [] (at ++ suffix_text Inst) _ base base _ (sym (append-nil base)) c.in_ok-push_name.ensures (name _ _ c.text.ensures))
    c.in_ok-push_name-2.ensures (name _ _ c.text-2.ensures)
