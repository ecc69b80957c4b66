use Rattle.std.proofs.Common.{◌++◌, ◌∷◌, [], ◌∙◌, sym, ap, subst, take, List}
use Rattle.std.proofs.lemmas.List.{take_all}
use Rattle.administration.proofs.Within.{taken_more}
use Rattle.info_format.specs.Naming.{HasPairs}
use Rattle.info_format.specs.declared.naming.Qualified.{Qualified}
use Rattle.info_format.proofs.Two.{ArePairsOf, all_pairs, packages_more, packages_start}
use Rattle.info_format.proofs.pairs.pairs_of.Goals as goal

pub loop-owner-init : goal.loop-owner-init
loop-owner-init c = subst (ArePairsOf [] c.args.entries.now) (sym c.new-pairs.ensures.items) (packages_start c.args.entries.now)

pub loop-owner-preserved : goal.loop-owner-preserved
loop-owner-preserved c =
    let packages = c.args.packages.now in
    let i = c.loop-owner.owner-index in
    let q = c.owner-item.result in
    subst (λ (s : List Qualified). ArePairsOf s c.args.entries.now c.add_pairs.new.pairs.items) (sym (taken_more packages i q c.loop-owner-test.true c.owner-item.is))
    (packages_more (take i packages) q c.args.entries.now c.loop-owner.pairs.items c.add_pairs.new.pairs.items c.loop-owner.invariant c.in_ok-add_pairs.ensures)

pub returns : goal.returns
returns c = λ arches qualified. all_pairs arches c.args.packages.now c.args.entries.now c.loop-owner.pairs.items qualified
    (subst (λ (s : List Qualified). ArePairsOf s c.args.entries.now c.loop-owner.pairs.items) (take_all c.loop-owner.owner-index c.args.packages.now c.loop-owner-test.false) c.loop-owner.invariant)
