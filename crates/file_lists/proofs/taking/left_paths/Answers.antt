use Rattle.std.proofs.Common.{◌∙◌, ◌++◌, ◌∷◌, [], ap, cond, not}
use Rattle.std.specs.List.{list_any}
use Rattle.std.specs.Str.{bytes_eq}
use Rattle.host_core.specs.Paths.{Path}
use Rattle.diversions.specs.Ways.{place}
use Rattle.file_lists.proofs.LeftPaths.{left_more}
use Rattle.file_lists.proofs.taking.left_paths.Goals as goal

pub loop-path-preserved : goal.loop-path-preserved
loop-path-preserved c =
    let path = c.path-item.result in
    let same = c.in_ok-taken.ensures (place c.args.diversions.now.ways c.args.name.now path) in
    left_more (λ (path : Path). not (list_any (bytes_eq (place c.args.diversions.now.ways c.args.name.now path)) c.args.places.now)) c.args.paths.now c.loop-path.path-index path c.loop-path.left c.keep_path.new.left c.loop-path-test.true c.path-item.is c.loop-path.invariant
    (c.in_ok-keep_path.ensures ∙ ap (λ b. c.loop-path.left ++ cond (not b) (path ∷ []) []) same)
