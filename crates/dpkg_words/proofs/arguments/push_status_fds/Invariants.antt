use Rattle.std.proofs.Common.{◌≡◌, ◌++◌, codes, map, take}
use Rattle.dpkg_words.proofs.arguments.push_status_fds.Given as goal

abbrev pub invariant-loop-number : goal.invariant-loop-number
invariant-loop-number l = l.words ≡ l.fn.words ++ map (λ number. codes "--status-fd=" ++ number) (take l.number-index l.numbers)
