use Rattle.std.proofs.Common.{[], ◌∷◌, ◌++◌, codes, map, cond, ap, sym, ◌∙◌, append_assoc, List}
use Rattle.host_core.specs.Paths.{Path, reserved_suffixes}
use Rattle.diversions.specs.Ways.{place}
use Rattle.file_lists.specs.Owners.{has_other_owner}
use Rattle.removal_engine.specs.Names.{ownerless, side_names, signed}
use Rattle.removal_engine.proofs.Chosen.{ownerless_law}
use Rattle.removal_engine.proofs.side_names.push_side_names.Goals as goal

pub returns : goal.returns
returns c =
    let ways = c.args.diversions.now.ways in
    let lists = c.args.lists.now.lists in
    let name = c.args.name.now in
    let base = c.args.names.now.items in
    let free = ownerless ways lists name in
    let at = place ways name c.args.path.now in
    let text = c.as_str-text.ensures ∙ c.in_ok-place.ensures in
    let owned = ap (has_other_owner ways lists name) (sym (c.in_ok-at.ensures ∙ c.in_ok-place.ensures)) ∙ sym c.in_ok-owned.ensures ∙ c.if-owned.false in
    let edited = λ (q : Path). q ∷ (q ++ codes "~") ∷ (q ++ codes "%") ∷ (signed q ++ codes "#") ∷ [] in
    let reserved = λ (q : Path). map (λ (suffix : Path). q ++ suffix) reserved_suffixes in
    c.in_ok-push_reserved.ensures
    ∙ ap (λ (l : List Path). l ++ free (reserved c.as_str-text.result.now)) c.in_ok-push_edited.ensures
    ∙ append_assoc base (free (edited c.as_str-text.result.now)) (free (reserved c.as_str-text.result.now))
    ∙ ap (λ (l : List Path). base ++ l)
    (sym (ownerless_law ways lists name (edited c.as_str-text.result.now) (reserved c.as_str-text.result.now))
    ∙ ap (λ (q : Path). free (side_names q)) text
    ∙ sym (ap (λ b. cond b [] (free (side_names at))) owned))
