-- Trees whose paths are text, as each path in memory is.
use Rattle.std.specs.Prelude.{List, Result, Ok, Err}
use Rattle.std.specs.List.{AllByRecursion}
use Rattle.std.specs.Str.{IsUtf8}
use Rattle.dpkg_session.specs.declared.report.Candidate.{Candidate}
use Rattle.package_tree.specs.declared.fault.TreeFault.{TreeFault}
use Rattle.package_tree.specs.declared.package.Package.{Package}
use Rattle.package_tree.specs.declared.shipped.Shipped.{Shipped}

abbrev pub AreTextFiles : List Shipped → Type 0
AreTextFiles files = AllByRecursion (λ file. IsUtf8 file.path) files

-- the tree can't be read, or the paths that its package ships are text
abbrev pub IsTextTree : Result Package TreeFault → Type 0
IsTextTree (Ok p) = AreTextFiles p.files
IsTextTree (Err fault) = Unit {0}

abbrev pub AreTextTrees : List Candidate → Type 0
AreTextTrees cs = AllByRecursion (λ c. IsTextTree c.tree) cs
