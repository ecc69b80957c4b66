-- By which names of the program its words are dpkg's: where the last component is `dpkg` or `coizkerra-dpkg`.
use Rattle.std.specs.Prelude.{Bool, codes, nat_eq, ◌||◌}
use Rattle.std.specs.List.{ends_with}
use Rattle.std.specs.Str.{bytes_eq}
use Rattle.dpkg_words.specs.Options.{Text}

abbrev pub is_or_ends : Text → Text → Text → Bool
is_or_ends name word below = bytes_eq name word || ends_with nat_eq name below

abbrev pub speaks_dpkg : Text → Bool
speaks_dpkg name = is_or_ends name (codes "dpkg") (codes "/dpkg") || is_or_ends name (codes "coizkerra-dpkg") (codes "/coizkerra-dpkg")
