use Rattle.std.proofs.Common.{◌++◌, ◌∷◌, [], ◌∙◌, sym, ap, subst, take, List}
use Rattle.std.proofs.lemmas.List.{take_all}
use Rattle.administration.proofs.Within.{taken_more}
use Rattle.host_core.specs.Paths.{Path}
use Rattle.info_format.specs.Naming.{HasPairs, IsPairAt}
use Rattle.info_format.proofs.Packages.{not_found}
use Rattle.info_format.proofs.Two.{pairs_more, pairs_passed, pairs_start}
use Rattle.info_format.proofs.pairs.add_pairs.Goals as goal
use Rattle.info_format.proofs.pairs.add_pairs.Goals.{in-Some+in_ok-push, in_default}

pub loop-entry-init : goal.loop-entry-init
loop-entry-init c = pairs_start c.args.owner.now c.args.pairs.now.items

pub loop-entry-preserved : goal.loop-entry-preserved
loop-entry-preserved c =
    let q = c.args.owner.now in
    let old = c.args.pairs.now.items in
    let entries = c.args.entries.now in
    let i = c.loop-entry.entry-index in
    let entry = c.entry-item.result in
    let seen = sym (taken_more entries i entry c.loop-entry-test.true c.entry-item.is) in
    elim c.match-branch-2.branch [
      | in-Some+in_ok-push w ↦ subst (λ (s : List Path). HasPairs q s old c.match-branch-2.pairs.items) seen
          (subst (HasPairs q (take i entries ++ entry ∷ []) old) (sym (ap (λ v. v.items) w.pairs-is ∙ w.in_ok-push.ensures.items))
          (pairs_more q (take i entries) entry old c.loop-entry.pairs.items w.in-Some.pair c.loop-entry.invariant (subst (IsPairAt q entry) w.in-Some.is c.in_ok-pair.ensures)))
      | in_default w ↦ subst (λ (s : List Path). HasPairs q s old c.match-branch-2.pairs.items) seen
          (subst (HasPairs q (take i entries ++ entry ∷ []) old) (sym (ap (λ v. v.items) w.pairs-is))
          (pairs_passed q (take i entries) entry old c.loop-entry.pairs.items c.loop-entry.invariant (not_found (IsPairAt q entry) c.in_ok-pair.field-0 w.in_default.not-Some c.in_ok-pair.ensures)))
    ]

pub returns : goal.returns
returns c = subst (λ (s : List Path). HasPairs c.args.owner.now s c.args.pairs.now.items c.loop-entry.pairs.items) (take_all c.loop-entry.entry-index c.args.entries.now c.loop-entry-test.false) c.loop-entry.invariant
