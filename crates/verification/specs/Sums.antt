-- What `info/PKG.md5sums` says: the MD5 digests of a package's files as they were shipped, a line each.
use Rattle.std.specs.Prelude.{◌&&◌, ℕ, Bool, cond, List, [], ◌∷◌, ◌++◌, Option, Some, None, codes, take, drop}
use Rattle.std.specs.Str.{bytes_eq, is_utf8}
use Rattle.host_core.specs.Paths.{Path}
use Rattle.host_core.specs.declared.node.Node.{Node}
use Rattle.host_core.specs.declared.node.Node.TheVariants.{File, Dir, Link}
use Rattle.conffiles.specs.Digests.{is_digest_text}
use Rattle.control_members.specs.Stored.{stored_member_path}
use Rattle.diversions.specs.Lines.{lines_in}

-- where it lies
abbrev pub sums_path : List ℕ → Path
sums_path name = stored_member_path name (codes "md5sums")

-- its lines; none where there is no file
abbrev pub sums_at : Option Node → List (List ℕ)
sums_at None = []
sums_at (Some (File bytes access)) = lines_in bytes
sums_at (Some (Dir access)) = []
sums_at (Some (Link target)) = []

-- a line that gives a digest: 32 hexadecimal digits in lower case, two blanks, and a path as text
abbrev pub is_sum : List ℕ → Bool
is_sum line = is_digest_text (take 32 line) && (bytes_eq (take 2 (drop 32 line)) (codes "  ") && is_utf8 (drop 34 line))

-- its path, which lacks the first slash there
abbrev pub summed_path : List ℕ → Path
summed_path line = codes "/" ++ drop 34 line

-- the digest that these lines give for a path: that of the first one for it
abbrev pub sum_in : List (List ℕ) → Path → Option (List ℕ)
sum_in [] path = None
sum_in (line ∷ lines) path = cond (is_sum line && bytes_eq (summed_path line) path) (Some (take 32 line)) (sum_in lines path)
