use Rattle.std.proofs.Common.{◌≡◌, ◌++◌, ◌∙◌, Bool, List, not, map, sym, ap, subst}
use Rattle.std.specs.BTreeSet.{contains_text}
use Rattle.std.specs.List.{filter}
use Rattle.file_check.specs.Ships.{is_conffile}
use Rattle.std.proofs.lemmas.List.{take_all}
use Rattle.host_core.specs.Paths.{Path}
use Rattle.listed_files.specs.Concluding.{AreElsewhere}
use Rattle.unpack_plan.specs.Names.{waiting_name}
use Rattle.unpack_plan.proofs.Elsewhere.{elsewhere_more}
use Rattle.unpack_plan.proofs.Gathered.{chosen_more, passed_over}
use Rattle.unpack_plan.proofs.names.add_left.Goals as goal

pub loop-path-preserved-then-contains : goal.loop-path-preserved-then-contains
loop-path-preserved-then-contains c =
    let told = ap not (ap (contains_text c.args.conffiles.now) (sym c.as_str.ensures) ∙ sym c.contains.ensures ∙ c.if-contains.true) in
    record {
      names = passed_over (λ (q : Path). not (contains_text c.args.conffiles.now q)) (waiting_name c.args.diversions.now.ways c.args.name.now) c.args.paths.now c.loop-path.path-index c.path-item.result c.args.names.now.items c.loop-path.names.items c.loop-path-test.true c.path-item.is told c.loop-path.invariant.names;
      elsewhere = c.loop-path.invariant.elsewhere;
    }

pub loop-path-preserved : goal.loop-path-preserved
loop-path-preserved c =
    let told = ap not (ap (contains_text c.args.conffiles.now) (sym c.as_str.ensures) ∙ sym c.contains.ensures ∙ c.if-contains.false) in
    record {
      names = chosen_more (λ (q : Path). not (contains_text c.args.conffiles.now q)) (waiting_name c.args.diversions.now.ways c.args.name.now) c.args.paths.now c.loop-path.path-index c.path-item.result c.in_ok-waiting_name.field-0 c.args.names.now.items c.loop-path.names.items _ c.loop-path-test.true c.path-item.is told c.loop-path.invariant.names c.in_ok-waiting_name.ensures.name c.in_ok-push.ensures.items;
      elsewhere = subst AreElsewhere (sym c.in_ok-push.ensures.items) (elsewhere_more c.loop-path.names.items c.in_ok-waiting_name.field-0 c.loop-path.invariant.elsewhere c.in_ok-waiting_name.ensures.elsewhere);
    }

pub returns-clause-names : goal.returns-clause-names
returns-clause-names c = λ of told.
    let base = c.args.names.now.items in
    let at = waiting_name c.args.diversions.now.ways c.args.name.now in
    let kept : (λ (q : Path). not (contains_text c.args.conffiles.now q)) ≡ (λ q. not (is_conffile of q)) = λ i q. not (told q i) in
    c.loop-path.invariant.names ∙ ap (λ (l : List Path). base ++ map at (filter (λ q. not (contains_text c.args.conffiles.now q)) l)) (take_all c.loop-path.path-index c.args.paths.now c.loop-path-test.false)
    ∙ ap (λ (P : Path → Bool). base ++ map at (filter P c.args.paths.now)) kept
