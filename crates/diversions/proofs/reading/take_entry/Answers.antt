use Rattle.std.proofs.lemmas.Bool.{MatchBool-at_false}
use Rattle.diversions.proofs.LinesOf.{no_entry, an_entry, refused_lines}
use Rattle.diversions.proofs.Tables.{table_last}
use Rattle.diversions.proofs.reading.take_entry.Goals as goal

pub returns-in_default : goal.returns-in_default
returns-in_default c = λ d same table. no_entry c.in_ok-entry.field-0 _ _ c.in_default.is c.in_ok-entry.ensures d (table_last c.args.table.now d table).is same

pub returns-then-not-may_follow : goal.returns-then-not-may_follow
returns-then-not-may_follow c =
    let is = an_entry c.in_ok-entry.field-0 c.in-Some.entry _ _ c.in-Some.is c.in_ok-entry.ensures in
    refused_lines c.args.table.now c.in-Some.entry _ _ _ is.0 is.1 (MatchBool-at_false _ _ c.if-not-may_follow.true c.may_follow.ensures)
