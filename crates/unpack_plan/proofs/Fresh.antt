-- The record of an unpacked package, put together from its parts.
use Rattle.std.proofs.Common.{◌≡◌, Bool, List, Option, map, sym, ap, refl, ◌∙◌}
use Rattle.host_core.specs.Paths.{Path}
use Rattle.package_tree.specs.declared.package.Package.{Package}
use Rattle.package_tree.specs.declared.shipped.Shipped.{Shipped}
use Rattle.status_records.specs.Conffiles.{committed_entries}
use Rattle.status_records.specs.Standings.{IsUnpackedOf}
use Rattle.status_records.specs.declared.entries.ConffileEntry.{ConffileEntry}
use Rattle.status_records.specs.declared.entries.PendingDigest.{PendingDigest}
use Rattle.status_records.specs.declared.record.Record.{Record}
use Rattle.unpack_plan.specs.Digests.{shipped_digests, told_digest}
use Rattle.unpack_plan.specs.Records.{entries_of, is_shipped, IsFresh}
use Rattle.unpack_plan.specs.Yielded.{Yielding, counted_entries}

pub same_entries : (found entries : List ConffileEntry) (digests : List PendingDigest) (l flagged : List Path) (f g : Path → Bool) → entries ≡ committed_entries found digests l f → l ≡ flagged → ((q : Path) → f q ≡ g q) → entries ≡ committed_entries found digests flagged g
same_entries found entries digests l flagged f g are same told =
    are ∙ ap (λ (x : List Path). committed_entries found digests x f) same ∙ ap (λ (h : Path → Bool). committed_entries found digests flagged h) (λ i q. told q i)

pub same_digests : (digests : List PendingDigest) (l conffiles : List Path) (fs files : List Shipped) → map told_digest digests ≡ shipped_digests l fs → l ≡ conffiles → fs ≡ files → map told_digest digests ≡ shipped_digests conffiles files
same_digests digests l conffiles fs files are same shipped = are ∙ ap (λ (x : List Path). shipped_digests x fs) same ∙ ap (shipped_digests conffiles) shipped

pub is_fresh : (y : Yielding) (p : Package) (found : Option Record) (r : Record) (entries : List ConffileEntry) (digests : List PendingDigest) → IsUnpackedOf p.name p.version p.control found entries digests r → map told_digest digests ≡ shipped_digests p.conffiles p.files
    → entries ≡ committed_entries (counted_entries y (entries_of found) digests) digests p.flagged (is_shipped p.files) → IsFresh y p found r
is_fresh y p found r entries digests u told are = record {
  pending = ap (map told_digest) u.pending_are ∙ told;
  is = record {
    name_is = u.name_is;
    want_is = u.want_is;
    flag_is = u.flag_is;
    state_is = u.state_is;
    version_is = u.version_is;
    config_is = u.config_is;
    removed_is = u.removed_is;
    conffiles_are = u.conffiles_are ∙ are ∙ ap (λ (ds : List PendingDigest). committed_entries (counted_entries y (entries_of found) ds) ds p.flagged (is_shipped p.files)) (sym u.pending_are);
    pending_are = refl;
    triggers_are = u.triggers_are;
    fields_are = u.fields_are;
  };
}
