use Rattle.std.proofs.Common.{◌≡◌, ℕ, List, take}
use Rattle.std.specs.BTreeSet.{contains_text}
use Rattle.file_check.specs.Index.{is_made_by, is_place, is_twice}
use Rattle.file_check.proofs.index.add_all.Given as goal

abbrev pub invariant-loop-one : goal.invariant-loop-one
invariant-loop-one l = record {
  made : (q : List ℕ) → contains_text l.made q ≡ is_made_by (take l.one-index l.works) q;
  once : (q : List ℕ) → contains_text l.once q ≡ is_place (take l.one-index l.works) q;
  twice : (q : List ℕ) → contains_text l.twice q ≡ is_twice (take l.one-index l.works) q;
}
