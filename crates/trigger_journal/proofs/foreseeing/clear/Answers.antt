use Rattle.trigger_journal.proofs.Steps.{clear_from, disk_from, looked}
use Rattle.trigger_journal.proofs.foreseeing.clear.Goals as goal

pub returns-in_err-text-clause-any_moment : goal.returns-in_err-text-clause-any_moment
returns-in_err-text-clause-any_moment g c = looked _ _ _ c.read_text.ensures.looks.reads

pub returns-then-is_empty-clause-any_moment : goal.returns-then-is_empty-clause-any_moment
returns-then-is_empty-clause-any_moment g c = looked _ _ _ c.read_text.ensures.looks.reads

pub returns-clause-any_moment : goal.returns-clause-any_moment
returns-clause-any_moment g c = clear_from _ _ _ _ c.read_text.ensures.looks.reads c.new.ensures.items c.write_text.ensures.any_moment

pub returns-clause-on_disk : goal.returns-clause-on_disk
returns-clause-on_disk g c = disk_from c.write_text.result _ _ _ c.read_text.ensures.looks.reads c.write_text.ensures.on_disk
