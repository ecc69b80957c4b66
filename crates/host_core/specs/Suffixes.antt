-- The endings of names beside the path of a shipped file that the installer alone writes.
use Rattle.std.specs.Prelude.{codes}
use Rattle.host_core.specs.Paths.{Path}
use Rattle.host_core.specs.declared.suffix.Suffix.{Suffix}
use Rattle.host_core.specs.declared.suffix.Suffix.TheVariants.{New, Old, Dist, Tmp, Inst}

abbrev pub suffix_text : Suffix → Path
suffix_text New = codes ".dpkg-new"
suffix_text Old = codes ".dpkg-old"
suffix_text Dist = codes ".dpkg-dist"
suffix_text Tmp = codes ".dpkg-tmp"
suffix_text Inst = codes ".dpkg-inst"
