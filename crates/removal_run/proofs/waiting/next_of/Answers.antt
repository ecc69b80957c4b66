use Rattle.std.proofs.Common.{◌<◌, List, ap, length, subst, sym, ◌∙◌}
use Rattle.relation_index.specs.declared.package.Package.{Package}
use Rattle.removal_run.specs.Waiting.{name_at}
use Rattle.removal_run.proofs.Following.{nobody_at, waits_within, whose_at, whose_waits}
use Rattle.removal_run.proofs.waiting.next_of.Goals as goal

pub name_of-requires : goal.name_of-requires
name_of-requires c =
    let q = c.args.queue.now in
    let whose = whose_at c.args.ignore_depends q c.in_ok-number.field-0 c.in-Some.number c.in-Some.is c.in_ok-number.ensures in
    subst (λ (ps : List Package). c.in-Some.number < length ps) (sym c.packages.ensures) (waits_within q c.in-Some.number c.requires.even (whose_waits c.args.ignore_depends q c.in-Some.number whose))

pub returns-in_ok-name-in-Some : goal.returns-in_ok-name-in-Some
returns-in_ok-name-in-Some c = record {
  next = whose_at c.args.ignore_depends c.args.queue.now c.in_ok-number.field-0 c.in-Some.number c.in-Some.is c.in_ok-number.ensures;
  named = c.in_ok-name-in-Some.ensures ∙ ap (λ (ps : List Package). name_at ps c.in-Some.number) c.packages.ensures;
}

pub returns-in-None : goal.returns-in-None
returns-in-None c = nobody_at c.args.ignore_depends c.args.queue.now c.in_ok-number.field-0 c.in-None.is c.in_ok-number.ensures
