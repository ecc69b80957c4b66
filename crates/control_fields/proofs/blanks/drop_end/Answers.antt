use Rattle.std.proofs.Common.{◌≡◌, length, rules}
use Rattle.control_fields.proofs.Settled.{none_dropped}
use Rattle.control_fields.proofs.blanks.drop_end.Goals as goal

pub returns-then-kept-as_slice : goal.returns-then-kept-as_slice
returns-then-kept-as_slice c =
    let same : length c.trim_end-kept.result.now ≡ length c.args.line.now = search rules in
    none_dropped c.args.line.now c.trim_end-kept.result.now (search rules) same
