-- Conffiles that another program unpacked with a package (Policy 10.7.3): dpkg leaves the shipped file of each beside its place, and records no
-- digest of it. They are taken up as our own unpack leaves them: each such digest is recorded, and its conffile isn't settled yet. What the record of a
-- package that another program configured still tells of conffiles that weren't settled, or of a removal, is taken away.
use Rattle.std.specs.Prelude.{◌≡◌, ◌&&◌, ◌||◌, not, Bool, true, false, cond, List, [], ◌∷◌, Option, Some, None, map}
use Rattle.std.specs.List.{AllByRecursion, flat_map}
use Rattle.md5.specs.Md5.{md5}
use Rattle.aliases.specs.Aliases.{resolved}
use Rattle.conffiles.specs.Settling.{shipped_name}
use Rattle.diversions.specs.Ways.{Ways}
use Rattle.host_core.specs.Paths.{Path}
use Rattle.host_core.specs.World.{World}
use Rattle.host_core.specs.declared.node.Node.{Node}
use Rattle.host_core.specs.declared.node.Node.TheVariants.{File, Dir, Link}
use Rattle.status_records.specs.ConffilePaths.{is_before}
use Rattle.status_records.specs.Standings.{with_conffiles}
use Rattle.status_records.specs.Words.{is_installed}
use Rattle.status_records.specs.declared.entries.ConffileEntry.{ConffileEntry}
use Rattle.status_records.specs.declared.entries.PendingDigest.{PendingDigest}
use Rattle.status_records.specs.declared.record.Record.{Record}
use Rattle.status_records.specs.declared.words.State.{State}
use Rattle.status_records.specs.declared.words.State.TheVariants as state
use Rattle.adopted_conffiles.specs.Digested.{md5_digest}

-- where the shipped file of a conffile stands that isn't settled yet: beside the place that its path leads to
abbrev pub beside : Ways → Path → Path
beside ways path = shipped_name (resolved ways.aliases path)

-- the digest of a file that stands there; nothing else is a shipped conffile
abbrev pub pending_at : ConffileEntry → Option Node → List PendingDigest
pending_at e None = []
pending_at e (Some (File bytes access)) = record { path = e.path; digest = md5 bytes; conffile = e.conffile; digested = ∣ md5_digest bytes ∣₁ } ∷ []
pending_at e (Some (Dir access)) = []
pending_at e (Some (Link target)) = []

-- each of these digests is of a path before this one
abbrev pub AreBefore : Path → List PendingDigest → Type 0
AreBefore path pending = AllByRecursion (λ p. is_before p.path path ≡ true) pending

-- the package's version doesn't ship it: its entry is obsolete, or it is to be removed
abbrev pub is_left : ConffileEntry → Bool
is_left e = e.obsolete || e.remove_on_upgrade

-- what isn't settled yet of an entry, by the file beside its place
abbrev pub pending_of : World → Ways → ConffileEntry → List PendingDigest
pending_of w ways e = cond (is_left e) [] (pending_at e (w (beside ways e.path)))

-- of each entry of a record
abbrev pub pending_beside : World → Ways → Record → List PendingDigest
pending_beside w ways r = flat_map (pending_of w ways) r.conffiles

abbrev pub is_waiting : State → Bool
is_waiting state.NotInstalled = false
is_waiting state.ConfigFiles = false
is_waiting state.HalfInstalled = false
is_waiting state.Unpacked = true
is_waiting state.HalfConfigured = true
is_waiting state.Installed = false

abbrev pub has_none : List PendingDigest → Bool
has_none [] = true
has_none (p ∷ ps) = false

-- the package waits to be configured, and its record tells of no conffile that isn't settled yet
abbrev pub awaits : Record → Bool
awaits r = is_waiting r.state && has_none r.pending

-- the record with these digests, where there is one
abbrev pub taken_with : Record → List PendingDigest → List Record
taken_with r [] = []
taken_with r (p ∷ ps) = with_conffiles r.conffiles (p ∷ ps) r ∷ []

-- of an installed package, pending triggers or not, the record still tells what held before it was configured: another program configures it
-- and keeps fields that it doesn't know
abbrev pub tells_more : Record → Bool
tells_more r = is_installed r.state && (not (has_none r.pending) || r.removed_since)

-- the record without that: all conffiles are settled, and no removal has reached the files since
abbrev pub settled : Record → Record
settled r = record (with_conffiles r.conffiles [] r) { removed_since = false }

-- the record as it is taken up, if there is anything to take up
abbrev pub taken : World → Ways → Record → List Record
taken w ways r = cond (tells_more r) (settled r ∷ []) (cond (awaits r) (taken_with r (pending_beside w ways r)) [])

abbrev pub first_or : List Record → Record → Record
first_or [] r = r
first_or (x ∷ xs) r = x

-- the record as it is taken up; any other stays
abbrev pub adopted : World → Ways → Record → Record
adopted w ways r = first_or (taken w ways r) r

-- those of a table that are taken up
abbrev pub all_taken : World → Ways → List Record → List Record
all_taken w ways table = flat_map (taken w ways) table

-- the table behind that
abbrev pub all_adopted : World → Ways → List Record → List Record
all_adopted w ways table = map (adopted w ways) table
