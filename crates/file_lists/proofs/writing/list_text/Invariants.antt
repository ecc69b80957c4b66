use Rattle.std.proofs.Common.{◌≡◌, take}
use Rattle.file_lists.specs.Writing.{list_text}
use Rattle.file_lists.proofs.writing.list_text.Given as goal

abbrev pub invariant-loop-path : goal.invariant-loop-path
invariant-loop-path l = l.text.items ≡ list_text (take l.path-index l.paths)
