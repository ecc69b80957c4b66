use Rattle.inquiries.proofs.places.list_diversions.Goals as goal

pub returns-clause-told : goal.returns-clause-told
returns-clause-told g c = (c.in_ok-diversions.diversions.ways.entries, c.in_ok-diversions.ensures.entries, c.in_ok-text.ensures)
