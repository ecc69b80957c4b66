-- What is known of a listed path, and how what stands at its place differs from that.
use Rattle.std.specs.Prelude.{◌&&◌, ◌||◌, ℕ, Bool, not, List, [], ◌++◌, Option, Some, None, codes, find, option_map, if◌then◌else◌}
use Rattle.std.specs.Str.{bytes_eq}
use Rattle.hex.specs.Hex.{encode_lower}
use Rattle.md5.specs.Md5.{md5}
use Rattle.host_core.specs.Paths.{Path}
use Rattle.host_core.specs.declared.node.Node.{Node}
use Rattle.host_core.specs.declared.node.Node.TheVariants.{File, Dir, Link}
use Rattle.status_records.specs.declared.entries.ConffileEntry.{ConffileEntry}
use Rattle.shown_lines.specs.Lines.{line}
use Rattle.queries.specs.Paths.{path_text}
use Rattle.verification.specs.Sums.{sum_in}
use Rattle.verification.specs.declared.difference.Difference.{Difference}
use Rattle.verification.specs.declared.difference.Difference.TheVariants.{Missing, Kind, Target, Bytes, Access, Unread}

-- a conffile that the package's current version ships
abbrev pub is_current : ConffileEntry → Bool
is_current e = not (e.obsolete || e.remove_on_upgrade)

abbrev pub conffile_of : List ConffileEntry → Path → Option ConffileEntry
conffile_of entries path = find (λ e. is_current e && bytes_eq path e.path) entries

-- of a conffile the digest of the version last settled, which it may lack; of another path that which the package gave
abbrev pub known_of : Option ConffileEntry → Option (List ℕ) → Option (List ℕ)
known_of None sum = sum
known_of (Some e) sum = option_map encode_lower e.digest

-- the digest known of a path, by the package's conffiles and the lines of its sums
abbrev pub known_digest : List ConffileEntry → List (List ℕ) → Path → Option (List ℕ)
known_digest entries sums path = known_of (conffile_of entries path) (sum_in sums path)

-- how what stands at a place differs: nothing is there; bytes are known, and no file is there, or one with others
abbrev pub difference_at : Option Node → Option (List ℕ) → Option Difference
difference_at None known = Some Missing
difference_at (Some node) None = None
difference_at (Some (File bytes access)) (Some digest) = if bytes_eq (encode_lower (md5 bytes)) digest then None else Some Bytes
difference_at (Some (Dir access)) (Some digest) = Some Kind
difference_at (Some (Link target)) (Some digest) = Some Kind

abbrev pub difference_word : Difference → List ℕ
difference_word Missing = codes "missing"
difference_word Kind = codes "kind"
difference_word Target = codes "target"
difference_word Bytes = codes "bytes"
difference_word Access = codes "access"
difference_word Unread = codes "unread"

-- `WORD PATH PKG`
abbrev pub difference_line : Path → List ℕ → Difference → List ℕ
difference_line path name d = line (difference_word d ++ (codes " " ++ (path_text path ++ (codes " " ++ name))))

-- the line of a path, where something differs
abbrev pub difference_lines : Path → List ℕ → Option Difference → List ℕ
difference_lines path name None = []
difference_lines path name (Some d) = difference_line path name d
