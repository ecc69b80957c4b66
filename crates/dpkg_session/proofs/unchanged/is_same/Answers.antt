use Rattle.std.proofs.Common.{ap}
use Rattle.std.specs.Option.{option_copied}
use Rattle.dpkg_session.proofs.Alike.{same_found}
use Rattle.dpkg_session.proofs.unchanged.is_same.Goals as goal

pub returns-in_ok-is_same_record-in-Some-Some : goal.returns-in_ok-is_same_record-in-Some-Some
returns-in_ok-is_same_record-in-Some-Some c =
    same_found c.in-Some-Some.before c.in-Some-Some.now.now c.args.before.now (option_copied c.args.now) c.in_ok-is_same_record-in-Some-Some.field-0 c.in-Some-Some.is-0 (ap option_copied c.in-Some-Some.is-1) c.in_ok-is_same_record-in-Some-Some.ensures
