use Rattle.std.proofs.Common.{◌∙◌, sym, ap, subst, not}
use Rattle.std.specs.List.{list_any}
use Rattle.std.specs.Str.{bytes_eq}
use Rattle.host_core.specs.Paths.{Path}
use Rattle.diversions.specs.Ways.{place}
use Rattle.file_lists.specs.Owners.{AreListPaths}
use Rattle.file_lists.specs.Writing.{left_paths}
use Rattle.file_lists.proofs.LeftPaths.{left_list_paths}
use Rattle.file_lists.proofs.taking.take_paths.Goals as goal

pub replace_list-requires-clause-paths : goal.replace_list-requires-clause-paths
replace_list-requires-clause-paths g c =
    let entries = c.args.diversions.now.ways in
    subst AreListPaths (sym (c.in_ok-left.ensures ∙ ap (left_paths entries c.args.places.now c.args.name.now) c.list_of.ensures))
    (left_list_paths c.args.table.now c.args.name.now (λ (path : Path). not (list_any (bytes_eq (place entries c.args.name.now path)) c.args.places.now)) c.law.ensures)
