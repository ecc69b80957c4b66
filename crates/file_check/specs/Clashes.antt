-- With which package a shipped path clashes (Policy 7.6): another one that has a path of its place, or its own, which ships
-- the place twice.
use Rattle.std.specs.Prelude.{◌&&◌, not, ℕ, Bool, true, false, List, [], ◌∷◌, Option, Some, None, cond}
use Rattle.std.specs.List.{list_any}
use Rattle.std.specs.Str.{bytes_eq}
use Rattle.std.specs.Ordering.{is_lt, nat_cmp}
use Rattle.std.specs.Cmp.Lexicographic.{slice_cmp}
use Rattle.host_core.specs.Paths.{Path}
use Rattle.host_core.specs.World.{World, kind_of}
use Rattle.host_core.specs.declared.node.Kind.{Kind}
use Rattle.host_core.specs.declared.node.Kind.TheVariants as kind
use Rattle.host_core.specs.declared.node.Node.{Node}
use Rattle.host_core.specs.declared.node.Node.TheVariants.{File, Dir, Link}
use Rattle.diversions.specs.Ways.{Ways}
use Rattle.file_lists.specs.declared.paths.PackageList.{PackageList}
use Rattle.file_lists.specs.declared.paths.Listed.{Listed}
use Rattle.file_lists.specs.Owners.{owners_of}
use Rattle.package_files.specs.declared.work.Work.{Work}

-- who has which places: the diversions and the lists, the packages with which no path clashes, and the incoming one
pub record Owning : Type 0 where
  pub ways : Ways
  pub lists : List PackageList
  pub yields : List (List ℕ)
  pub incoming : List ℕ

abbrev pub owning : Ways → List PackageList → List (List ℕ) → List ℕ → Owning
owning ways lists yields incoming = record { ways = ways; lists = lists; yields = yields; incoming = incoming }

-- a package other than the incoming one that doesn't yield
abbrev pub is_rival : Owning → List ℕ → Bool
is_rival o name = not (bytes_eq name o.incoming) && not (list_any (bytes_eq name) o.yields)

-- the first of these that is one
abbrev pub first_rival : Owning → List Listed → Option (List ℕ)
first_rival o [] = None
first_rival o (x ∷ xs) = cond (is_rival o x.name) (Some x.name) (first_rival o xs)

-- the first one, in the order of names, that lists a path of a place
abbrev pub rival : Owning → Path → Option (List ℕ)
rival o place = first_rival o (owners_of o.ways o.lists place)

-- a shipped node is written where this stands, but as a directory where nothing stands
abbrev pub claims : Node → Option Kind → Bool
claims (Dir m) None = false
claims (Dir m) (Some kind.File) = true
claims (Dir m) (Some kind.Directory) = false
claims (Dir m) (Some kind.SymbolicLink) = false
claims (File b m) None = true
claims (File b m) (Some kind.File) = true
claims (File b m) (Some kind.Directory) = false
claims (File b m) (Some kind.SymbolicLink) = true
claims (Link t) None = true
claims (Link t) (Some kind.File) = true
claims (Link t) (Some kind.Directory) = false
claims (Link t) (Some kind.SymbolicLink) = true

abbrev pub some_if : Bool → Option (List ℕ) → Option (List ℕ)
some_if true name = name
some_if false name = None

-- the first of two in the order of names
abbrev pub first_clash : Option (List ℕ) → Option (List ℕ) → Option (List ℕ)
first_clash None itself = itself
first_clash (Some other) None = Some other
first_clash (Some other) (Some itself) = cond (is_lt (slice_cmp nat_cmp other itself)) (Some other) (Some itself)

-- the first package with which a path clashes: another that lists its place, where the path claims it, and the
-- incoming one where it ships the place twice
abbrev pub clash_by : Owning → (Path → Bool) → Work → Option Kind → Option (List ℕ)
clash_by o twice s place = first_clash (some_if (claims s.node place) (rival o s.place)) (some_if (twice s.place) (Some o.incoming))

abbrev pub clash_at : Owning → (Path → Bool) → World → Work → Option (List ℕ)
clash_at o twice w s = clash_by o twice s (kind_of (w s.place))
