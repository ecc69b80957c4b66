use Rattle.std.proofs.Common.{rules, ◌≡◌, Bool, subst, ◌∙◌}
use Rattle.std.specs.Prelude.{MatchOption, IfOk, IfNone}
use Rattle.std.specs.BTreeSet.{contains_text}
use Rattle.host_core.specs.Paths.{Path}
use Rattle.file_check.specs.Index.{is_made, is_twice, AllOutside}
use Rattle.file_check.specs.Sound.{AreSound, IsFirstOf}
use Rattle.file_check.proofs.Readiness.{made_seen, told_distinct}
use Rattle.file_check.proofs.whole.check_seen.Goals as goal

pub returns-clause-looks : goal.returns-clause-looks
returns-clause-looks g c = record {
  found = λ h.
      let works = c.args.works.now in
      let o = c.args.owning.now in
      let w = (g.H.Host.state c.args.host.now).world in
      let seen = c.requires.seen (c.check_each.ensures.looks.silent.honest h) in
      let made : contains_text c.in_ok-index.index.made ≡ is_made works w = λ i q. (c.in_ok-index.ensures.made q ∙ made_seen works w q seen) i in
      let twice : contains_text c.in_ok-index.index.twice ≡ is_twice works = λ i q. c.in_ok-index.ensures.twice q i in
      subst (λ (t : Path → Bool). IfOk c.check_each.result (λ found. MatchOption found (AreSound o (is_made works w) t w works) (IsFirstOf o (is_made works w) t w works))) twice
      (subst (λ (m : Path → Bool). IfOk c.check_each.result (λ found. MatchOption found (AreSound o m (contains_text c.in_ok-index.index.twice) w works) (IsFirstOf o m (contains_text c.in_ok-index.index.twice) w works))) made
      (c.check_each.ensures.looks.found h));
  reads = search rules;
  silent = search rules;
  counts = search rules;
}

pub returns-clause-distinct : goal.returns-clause-distinct
returns-clause-distinct g c =
    let works = c.args.works.now in
    let twice : contains_text c.in_ok-index.index.twice ≡ is_twice works = λ i q. c.in_ok-index.ensures.twice q i in
    told_distinct works c.check_each.result (subst (λ (t : Path → Bool). IfOk c.check_each.result (λ found. IfNone found (AllOutside t works))) twice c.check_each.ensures.apart)
