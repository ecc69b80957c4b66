use Rattle.std.proofs.Common.{◌≡◌, ◌++◌, ◌∷◌, [], List, rules, subst, sym, ap, take, arith, length, ◌≤◌, ◌+◌, ◌∙◌}
use Rattle.std.specs.Prelude.{option_copied}
use Rattle.std.proofs.lemmas.List.{take_more, take_all}
use Rattle.relation_index.specs.declared.package.Package.{Package}
use Rattle.status_records.specs.declared.record.Record.{Record}
use Rattle.recorded_packages.specs.Packages.{ArePackagesIn}
use Rattle.recorded_packages.proofs.InNameOrder.{in_name_order, none_found, packages_more}
use Rattle.recorded_packages.proofs.packages.packages_of.Goals as goal

pub loop-entry-preserved : goal.loop-entry-preserved
loop-entry-preserved c =
    let rs = c.args.records.now in
    let i = c.loop-entry.entry-index in
    let r = c.entry-item.result in
    let p = c.in_ok-package_of.field-0 in
    let grown : c.push.new.self.items ≡ c.loop-entry.list.items ++ p ∷ [] = search rules in
    let more = take_more rs i r c.loop-entry-test.true ∙ ap (λ (x : Record). take i rs ++ x ∷ []) (sym c.entry-item.is) in
    subst (λ (l : List Package). ArePackagesIn (option_copied c.root_of-root.result) (take (i + 1) rs) l) (sym grown)
    (subst (λ (l : List Record). ArePackagesIn (option_copied c.root_of-root.result) l (c.loop-entry.list.items ++ p ∷ [])) (sym more) (packages_more (option_copied c.root_of-root.result) (take i rs) c.loop-entry.list.items r p c.loop-entry.invariant c.in_ok-package_of.ensures))

pub unreachable-requires : goal.unreachable-requires
unreachable-requires c =
    let rs = c.args.records.now in
    let end : length rs ≤ c.loop-entry.entry-index = omega (arith, c.loop-entry-test.false) in
    let all = take_all c.loop-entry.entry-index rs end in
    let are = subst (λ (l : List Record). ArePackagesIn (option_copied c.root_of-root.result) l c.loop-entry.list.items) all c.loop-entry.invariant in
    none_found c.in_ok-packages.field-0 _ _ c.in-None.is c.in_ok-packages.ensures (in_name_order (option_copied c.root_of-root.result) rs c.loop-entry.list.items c.requires are)
