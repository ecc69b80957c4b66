use Rattle.inquiries.proofs.records.list.Goals as goal

pub returns-clause-told : goal.returns-clause-told
returns-clause-told g c = (c.in_ok-database.database.records, (λ h. (c.in_ok-database.ensures.table h).records), c.in_ok-told.ensures)
