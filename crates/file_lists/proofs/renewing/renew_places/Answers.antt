use Rattle.std.proofs.Common.{rules, ◌≡◌, ◌+◌, ◌-◌, ◌∙◌, ◌++◌, List, ap, arith, drop, length, map, take}
use Rattle.host_core.specs.Paths.{Path}
use Rattle.diversions.specs.Ways.{place}
use Rattle.file_lists.specs.Beside.{lists_before, lists_behind, path_count}
use Rattle.file_lists.specs.declared.paths.PackageList.{PackageList}
use Rattle.file_lists.proofs.SameBeside.{renewed}
use Rattle.file_lists.proofs.renewing.renew_places.Goals as goal

pub returns-then-behind-all : goal.returns-then-behind-all
returns-then-behind-all c = λ had.
    let lists = c.args.table.now in
    let name = c.args.name.now in
    let before = c.in-Some.ensures.before ∙ ap (λ (ls : List PackageList). path_count (lists_before name ls)) c.as_slice.ensures in
    let behind : c.in-Some.behind ≡ path_count (lists_behind name lists) = c.in-Some.ensures.behind ∙ ap (λ (ls : List PackageList). path_count (lists_behind name ls)) c.as_slice.ensures in
    let long : c.len-all.result ≡ length c.args.places.now = search rules in
    let upto : (c.len-all.result - c.in-Some.behind) + path_count (lists_behind name lists) ≡ length c.args.places.now = omega (arith, behind, long, c.if-before-all.true, c.if-behind-all.true) in
    renewed c.args.diversions.now.ways name had.before lists c.in-Some.before (c.len-all.result - c.in-Some.behind) c.args.places.now c.put_places.new.places had.sound c.law.ensures had.same had.is before upto
    (c.in_ok-put_places.ensures ∙ ap (λ (paths : List Path). take c.in-Some.before c.args.places.now ++ map (place c.args.diversions.now.ways name) paths ++ drop (c.len-all.result - c.in-Some.behind) c.args.places.now) c.list_of-paths.ensures)
