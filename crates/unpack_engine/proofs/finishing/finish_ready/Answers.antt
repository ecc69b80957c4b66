use Rattle.unpack_engine.proofs.finishing.finish_ready.Goals as goal

pub returns-in-Ok-clause-apart : goal.returns-in-Ok-clause-apart
returns-in-Ok-clause-apart g c = c.in-Ok.ensures.apart
