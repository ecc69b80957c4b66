use Rattle.std.proofs.Common.{◌≡◌, ◌∙◌, List, ap, map, subst, sym}
use Rattle.std.specs.Prelude.{Contains}
use Rattle.std.specs.List.{IsDistinct}
use Rattle.std.specs.Str.{bytes_eq}
use Rattle.host_core.specs.Paths.{Path}
use Rattle.foretold_changes.specs.declared.looking.LookedPath.{LookedPath}
use Rattle.foretold_changes.proofs.Overlays.{contains_path, paths_of}
use Rattle.foretold_changes.proofs.looking.look_behind.Goals as goal

pub returns-clause-told : goal.returns-clause-told
returns-clause-told g c = λ h.
    let tells = c.in_ok-changed.ensures in
    let changed = c.in_ok-changed.changed.items in
    let are : map (λ (x : LookedPath). x.path) c.in_ok-looked.looked.items ≡ paths_of changed = c.in_ok-looked.ensures.paths ∙ ap paths_of c.as_slice.ensures.value in
    record {
      read = c.requires (c.look_at_each.ensures.reads.honest h);
      once = subst (λ (ps : List Path). IsDistinct bytes_eq ps) (sym are) tells.once;
      found = c.in_ok-looked.ensures.found h;
      whole = λ q none. tells.whole q (λ x inside at. none (subst (λ (ps : List Path). Contains ps q) (sym are) (subst (λ (p : Path). Contains (paths_of changed) p) at (contains_path changed x inside))));
    }
