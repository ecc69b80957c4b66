use Rattle.std.proofs.Common.{◌≡◌, ◌++◌, ◌∙◌, [], cond, ap, List}
use Rattle.std.specs.BTreeSet.{contains_text}
use Rattle.std.specs.List.{flat_map, list_any}
use Rattle.std.specs.Str.{bytes_eq}
use Rattle.std.proofs.lemmas.List.{take_all}
use Rattle.host_core.specs.Paths.{Path}
use Rattle.diversions.specs.Ways.{place}
use Rattle.list_changes.specs.Clearable.{clearable}
use Rattle.removal_engine.specs.Names.{unpack_names}
use Rattle.removal_engine.proofs.Chosen.{flat_more}
use Rattle.removal_engine.proofs.names.push_all_stopped.Goals as goal

pub loop-path-preserved : goal.loop-path-preserved
loop-path-preserved c =
    flat_more (λ (path : Path). cond (contains_text c.in_ok-set.set path) [] (clearable (unpack_names (place c.args.diversions.now.ways c.args.name.now path)))) c.args.listed.now c.loop-path.path-index c.path-item.result c.args.names.now.items _ _
    c.loop-path-test.true c.path-item.is c.loop-path.invariant c.in_ok-push_stopped.ensures

pub returns : goal.returns
returns c =
    let base = c.args.names.now.items in
    let beside = λ (path : Path). clearable (unpack_names (place c.args.diversions.now.ways c.args.name.now path)) in
    let told : (λ (path : Path). cond (contains_text c.in_ok-set.set path) [] (beside path)) ≡ (λ path. cond (list_any (bytes_eq path) c.args.conffiles.now) [] (beside path)) = λ i path. cond (c.in_ok-set.ensures path i) [] (beside path) in
    c.loop-path.invariant
    ∙ ap (λ (l : List Path). base ++ flat_map (λ (path : Path). cond (contains_text c.in_ok-set.set path) [] (beside path)) l) (take_all c.loop-path.path-index c.args.listed.now c.loop-path-test.false)
    ∙ ap (λ (f : Path → List Path). base ++ flat_map f c.args.listed.now) told
