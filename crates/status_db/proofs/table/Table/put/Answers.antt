use Rattle.std.proofs.Common.{◌∙◌, sym, ap, subst}
use Rattle.status_records.specs.Records.{AreStanding, put_record}
use Rattle.status_db.proofs.Ordered.{put_is, put_standing}
use Rattle.status_db.proofs.table.Table.put.Goals as goal

pub invariant_of-self-2 : goal.invariant_of-self-2
invariant_of-self-2 c =
    let rs = c.self.inside.records in
    subst AreStanding (sym (c.in_ok-put.ensures.ok ∙ put_is c.args.entry rs)) (put_standing c.args.entry rs c.requires c.self.invariant)

pub returns-clause-ok : goal.returns-clause-ok
returns-clause-ok c = c.in_ok-put.ensures.ok ∙ put_is c.args.entry c.self.inside.records ∙ ap (put_record c.args.entry) c.self.view_is
