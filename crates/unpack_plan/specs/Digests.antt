-- The digests of the conffiles that a package ships (Policy 10.7).
use Rattle.std.specs.Prelude.{ℕ, cond, List, [], ◌∷◌}
use Rattle.std.specs.List.{flat_map}
use Rattle.md5.specs.Md5.{md5}
use Rattle.host_core.specs.Paths.{Path}
use Rattle.host_core.specs.declared.node.Node.{Node}
use Rattle.host_core.specs.declared.node.Node.TheVariants.{File, Dir, Link}
use Rattle.file_check.specs.Ships.{is_conffile}
use Rattle.package_tree.specs.declared.shipped.Shipped.{Shipped}
use Rattle.status_records.specs.declared.entries.PendingDigest.{PendingDigest}

-- a path with a digest
abbrev pub PathDigest : Type 0
PathDigest = Path × List ℕ

-- a file's digest; nothing else has one
abbrev pub digest_at : Path → Node → List PathDigest
digest_at path (File bytes access) = (path, md5 bytes) ∷ []
digest_at path (Dir access) = []
digest_at path (Link target) = []

-- of what stands at a shipped path, if that is one of the conffiles
abbrev pub conffile_digest : List Path → Shipped → List PathDigest
conffile_digest conffiles file = cond (is_conffile conffiles file.path) (digest_at file.path file.node) []

-- each conffile that is shipped with the digest of its file, in path order
abbrev pub shipped_digests : List Path → List Shipped → List PathDigest
shipped_digests conffiles files = flat_map (conffile_digest conffiles) files

-- what a record tells of it, as long as the conffile isn't settled
abbrev pub told_digest : PendingDigest → PathDigest
told_digest pending = (pending.path, pending.digest)
