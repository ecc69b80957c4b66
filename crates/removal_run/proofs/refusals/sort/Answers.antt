use Rattle.std.proofs.Common.{rules, ◌≡◌, ◌++◌, ◌∷◌, [], List, ℕ, subst, sym, ◌∙◌, append_assoc, ap}
use Rattle.unit_reports.specs.declared.report.Unit.{Unit as AUnit}
use Rattle.removal_run.specs.Refusals.{AreRefused, refusals}
use Rattle.removal_run.proofs.Sorting.{accepted_one, refused_one, unaccepted, unrefused}
use Rattle.removal_run.proofs.refusals.sort.Goals as goal

pub loop-name-preserved-in-Continue-1 : goal.loop-name-preserved-in-Continue-1
loop-name-preserved-in-Continue-1 c =
    let inv = c.loop-name.invariant in
    let extents = c.args.extents in
    let records = c.args.database.now.records in
    let done = c.loop-name.yielded in
    let name = c.in-Some.name in
    let rest = c.next.new.self.rest.items in
    let rule = c.in-Some-rule_under.rule in
    let split : c.args.names.items ≡ done ++ name ∷ rest = search rules in
    let grown : c.push.new.self.items ≡ c.loop-name.units.items ++ c.refused.result ∷ [] = search rules in
    record {
      left = split ∙ sym (append_assoc done (name ∷ []) rest);
      refused = subst (λ (us : List AUnit). AreRefused (refusals extents records (done ++ name ∷ [])) us) (sym grown) (refused_one extents records done name rule c.loop-name.units.items c.refused.result (sym c.in-Some-rule_under.ensures) c.refused.ensures inv.refused);
      waiting = inv.waiting ∙ sym (unaccepted extents records done name rule (sym c.in-Some-rule_under.ensures));
    }

pub loop-name-preserved : goal.loop-name-preserved
loop-name-preserved c =
    let inv = c.loop-name.invariant in
    let extents = c.args.extents in
    let records = c.args.database.now.records in
    let done = c.loop-name.yielded in
    let name = c.in-Some.name in
    let rest = c.next.new.self.rest.items in
    let split : c.args.names.items ≡ done ++ name ∷ rest = search rules in
    let grown : c.push-in-None-rule_under.new.self.items ≡ c.loop-name.waiting.items ++ name ∷ [] = search rules in
    record {
      left = split ∙ sym (append_assoc done (name ∷ []) rest);
      refused = subst (λ rs. AreRefused rs c.loop-name.units.items) (sym (unrefused extents records done name (sym c.in-None-rule_under.ensures))) inv.refused;
      waiting = grown ∙ ap (λ (l : List (List ℕ)). l ++ name ∷ []) inv.waiting ∙ sym (accepted_one extents records done name (sym c.in-None-rule_under.ensures));
    }
