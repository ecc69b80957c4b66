use Rattle.command_line.proofs.reading.read_as.Goals as goal

pub returns-in-Ok-clause-read : goal.returns-in-Ok-clause-read
returns-in-Ok-clause-read g c = λ honest. (c.in-Ok.found, c.in-Ok.ensures.read honest, c.owned_as.ensures)
