use Rattle.inquiries.proofs.places.truename.Goals as goal

pub returns-clause-told : goal.returns-clause-told
returns-clause-told g c = (c.in_ok-diversions.diversions.ways, c.in_ok-diversions.ensures.ways, c.in_ok-text.ensures)
