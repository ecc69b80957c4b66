-- Works in another order have the names that they had, whatever was seen of them.
use Rattle.std.proofs.Common.{List, [], ◌∷◌, map}
use Rattle.file_check.specs.Ready.{unseen}
use Rattle.file_check.proofs.WorkLists.{named_seen, named_unseen}
use Rattle.file_check.specs.Rearranged.{IsRearranged}
use Rattle.file_check.proofs.Permuting.{each_permuted}
use Rattle.package_files.specs.declared.work.Work.{Work}
use Rattle.package_files.specs.Files.{Each}
use Rattle.package_files.specs.Names.{IsNamed}

to_unseen : (xs : List Work) → Each IsNamed xs → Each IsNamed (map unseen xs)
to_unseen [] all = tt
to_unseen (x ∷ xs) all = (named_unseen x all.0, to_unseen xs all.1)

from_unseen : (xs : List Work) → Each IsNamed (map unseen xs) → Each IsNamed xs
from_unseen [] all = tt
from_unseen (x ∷ xs) all = (named_seen x all.0, from_unseen xs all.1)

pub named_rearranged : (xs ys : List Work) → IsRearranged xs ys → Each IsNamed xs → Each IsNamed ys
named_rearranged xs ys moved all = from_unseen ys (each_permuted IsNamed (map unseen xs) (map unseen ys) moved (to_unseen xs all))
