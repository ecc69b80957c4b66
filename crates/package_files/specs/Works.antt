-- The names at which a shipped path is written.
use Rattle.std.specs.Prelude.{◌++◌, Bool, true, false, None}
use Rattle.host_core.specs.Paths.{Path}
use Rattle.host_core.specs.Suffixes.{suffix_text}
use Rattle.host_core.specs.declared.node.Node.{Node}
use Rattle.host_core.specs.declared.suffix.Suffix.TheVariants.{New, Tmp, Inst}
use Rattle.package_files.specs.declared.work.Work.{Work}

-- a file is written at its place, a conffile beside it, since it isn't settled yet (Policy 10.7)
abbrev pub target_of : Path → Bool → Path
target_of place false = place
target_of place true = place ++ suffix_text New

-- a shipped path with its place, before anything was looked at
abbrev pub work_of : (path place : Path) → Node → Bool → Work
work_of path place node is_conffile = record {
  path = path;
  place = place;
  target = target_of place is_conffile;
  backup = place ++ suffix_text Tmp;
  fresh = place ++ suffix_text Inst;
  node = node;
  had = None;
}
