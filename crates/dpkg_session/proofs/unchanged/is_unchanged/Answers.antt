use Rattle.std.proofs.Common.{◌≡◌, false, sym, subst, Option}
use Rattle.std.specs.Prelude.{IfOk, IfSome, MatchBool}
use Rattle.status_records.specs.Words.{is_not_installed}
use Rattle.status_records.specs.declared.record.Record.{Record}
use Rattle.dpkg_session.proofs.Alike.{found_stands}
use Rattle.dpkg_session.proofs.unchanged.is_unchanged.Goals as goal

pub is_same-requires : goal.is_same-requires
is_same-requires c = subst (λ (o : Option Record). IfSome o (λ r. is_not_installed r.state ≡ false)) (sym c.get.ensures) (found_stands c.args.database.now.records c.args.copy.now.«package» c.law.ensures.standing)

pub returns : goal.returns
returns c =
    let entry = c.args.copy.now.entry in
    subst (λ (o : Option Record). IfOk c.is_same.result (λ same. MatchBool same ((o ≡ entry → ⊥) → ⊥) (o ≡ entry → ⊥))) c.get.ensures c.is_same.ensures
