use Rattle.std.proofs.Common.{map, string_bytes, inl, inr, sym}
use Rattle.command_words.proofs.Asking.{rehearsed_none}
use Rattle.command_words.proofs.words.rehearsal_of.Goals as goal

pub returns-in-Err-Usage : goal.returns-in-Err-Usage
returns-in-Err-Usage c = elim c.in-Err-Usage.ensures.usage [
  | inl memory ↦ absurd (cc)
  | inr none ↦ sym (rehearsed_none (map string_bytes c.args.words.now) none)
]
