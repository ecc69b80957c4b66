-- What was written is read again.
use Rattle.std.proofs.Common.{◌≡◌, ℕ, Bool, true, false, cond, not, ◌&&◌, ◌||◌, Option, None, Some, List, [], ◌∷◌, ◌++◌, map, refl, sym, ap, subst, ◌∙◌, append_assoc, codes, inr}
use Rattle.std.specs.Prelude.{is_some}
use Rattle.std.specs.Str.{bytes_eq}
use Rattle.std.specs.List.{list_any, AllByRecursion}
use Rattle.std.proofs.Math.Logic.{∥∥₁_elim, ∥∥₁_map, ∥∥₁_prop}
use Rattle.std.proofs.lemmas.Bool.{true≢false, or_from}
use Rattle.std.proofs.lemmas.List.{append-nil}
use Rattle.std.proofs.lemmas.List.Folds.{list_any-append}
use Rattle.control_fields.specs.Spelling.{IsParagraph, spell_all}
use Rattle.control_fields.proofs.Again.{all_again}
use Rattle.conffiles.specs.Digests.{IsDigest}
use Rattle.host_core.specs.Paths.{Path}
use Rattle.status_records.specs.declared.entries.ConffileEntry.{ConffileEntry}
use Rattle.status_records.specs.declared.entries.PendingDigest.{PendingDigest}
use Rattle.status_records.specs.declared.record.Record.{Record}
use Rattle.status_records.specs.Words.{is_not_installed, is_installed, status_text}
use Rattle.status_records.specs.Digests.{IsDigestOrNone}
use Rattle.status_records.specs.Writable.{IsWritable}
use Rattle.status_records.specs.Fields.{own_names, is_one_of}
use Rattle.control_fields.specs.declared.field.Field.{Field}
use Rattle.status_records.specs.Records.{IsWithout, AreApart, standing}
use Rattle.status_records.specs.ConffilePaths.{AreInOrder, in_path_order}
use Rattle.status_records.specs.ConffileFields.{ConffileWords, PendingWords, conffile_words, pending_words, conffile_paths, pending_paths, are_apart, words_of_conffile, words_of_pending, conffile_line, pending_line}
use Rattle.status_records.specs.Paragraphs.{line_field, record_word, paragraph_of, record_text, HasParts, field_in, line_of, is_configured_in, conffile_lines, pending_lines, AreConffilesOf, ArePendingOf, IsRecordOf, IsEntry, Enters}
use Rattle.status_records.specs.Status.{IsStatus}
use Rattle.status_records.proofs.EntryLines.{all_digested, all_pending_digested, words_by, pending_by, words_again, pending_again, all_more, all_pending_more, lines_read, pending_lines_read}
use Rattle.status_records.proofs.OwnFields.{ArePartsFit, whole_written, some_written, IsReadAgain, own_readable, others_kept, package_again, status_again as status_field_again, version_again, config_again, removed_again, conffiles_again, pending_field_again, triggers_pending_again, triggers_awaited_again}
use Rattle.status_records.proofs.PathOrder.{order_apart, in_order_kept}
use Rattle.status_records.proofs.Tables.{apart_filter}

-- one paragraph

-- what holds of a record's parts beside `HasParts`
pub record IsWhole (r : Record) : Type 0 where
  pub writable : IsWritable r.name r.fields
  pub conffiles : AllByRecursion (λ (e : ConffileEntry). IsDigestOrNone e.digest) r.conffiles
  pub pending : AllByRecursion (λ (p : PendingDigest). IsDigest p.digest) r.pending

pub whole_of : (r : Record) → ∥ IsWhole r ∥₁
whole_of r = ∥∥₁_elim r.writable ∥∥₁_prop (λ w. ∥∥₁_elim (all_digested r.conffiles) ∥∥₁_prop (λ es. ∥∥₁_map (all_pending_digested r.pending) (λ ps. record { writable = w; conffiles = es; pending = ps })))

parts_fit : (r : Record) → HasParts r → ArePartsFit r
parts_fit r parts = record { version = parts.version; config_version = parts.config_version; triggers_pending = parts.triggers_pending; triggers_awaited = parts.triggers_awaited }

pub paragraph_written : (r : Record) → IsWhole r → HasParts r → IsParagraph (paragraph_of r)
paragraph_written r whole parts = record {
  some = some_written r whole.writable.others;
  are = whole_written r whole.writable.named (parts_fit r parts) (all_more r.conffiles whole.conffiles) (all_pending_more r.pending whole.pending) whole.writable.others whole.writable.written;
}

-- the parts of a record as they are found again

config_kept : (b : Bool) (v found : Option (List ℕ)) → b && is_some v ≡ false → found ≡ v → v ≡ cond b None found
config_kept true None found current e = refl
config_kept true (Some v) found current e = absurd (true≢false current)
config_kept false v found current e = sym e

some_line : (o : Option Field) → is_some (line_of o) ≡ is_some o
some_line None = refl
some_line (Some f) = refl

current_again : (r : Record) → AllByRecursion (λ f. is_one_of own_names f ≡ false) r.fields → is_configured_in r.state (paragraph_of r) && is_some r.config_version ≡ false
current_again r others =
    let found = field_in (codes "triggers-awaited") (paragraph_of r) in
    let same : is_some found ≡ is_some r.triggers.awaited = sym (some_line found) ∙ ap is_some (triggers_awaited_again r others) in
    ap (λ b. (is_installed r.state && not b) && is_some r.config_version) same ∙ r.current

word_paths : (es : List ConffileEntry) → map (λ (w : ConffileWords). w.path) (map words_of_conffile es) ≡ map (λ (e : ConffileEntry). e.path) es
word_paths [] = refl
word_paths (e ∷ es) = ap (λ (l : List Path). e.path ∷ l) (word_paths es)

pending_word_paths : (ps : List PendingDigest) → map (λ (w : PendingWords). w.path) (map words_of_pending ps) ≡ map (λ (p : PendingDigest). p.path) ps
pending_word_paths [] = refl
pending_word_paths (p ∷ ps) = ap (λ (l : List Path). p.path ∷ l) (pending_word_paths ps)

line_paths : (es : List ConffileEntry) → AllByRecursion (λ (e : ConffileEntry). IsDigestOrNone e.digest) es → conffile_paths (map conffile_line es) ≡ map (λ (e : ConffileEntry). e.path) es
line_paths [] all = refl
line_paths (e ∷ es) all = λ i. (words_by e all.0 i).path ∷ line_paths es all.1 i

pending_line_paths : (ps : List PendingDigest) → AllByRecursion (λ (p : PendingDigest). IsDigest p.digest) ps → pending_paths (map pending_line ps) ≡ map (λ (p : PendingDigest). p.path) ps
pending_line_paths [] all = refl
pending_line_paths (p ∷ ps) all = λ i. (pending_by p all.0 i).path ∷ pending_line_paths ps all.1 i

conffiles_found : (r : Record) → IsWhole r → HasParts r → AreConffilesOf (conffile_lines (paragraph_of r)) r.conffiles
conffiles_found r whole parts =
    let words = map words_of_conffile r.conffiles in
    let again : map conffile_words (conffile_lines (paragraph_of r)) ≡ words = ap (map conffile_words) (conffiles_again r whole.writable.others) ∙ words_again r.conffiles whole.conffiles in
    sym (ap (in_path_order (λ (w : ConffileWords). w.path)) again ∙ in_order_kept (λ (w : ConffileWords). w.path) words (subst AreInOrder (sym (word_paths r.conffiles)) parts.conffiles))

pending_found : (r : Record) → IsWhole r → HasParts r → ArePendingOf (pending_lines (paragraph_of r)) r.pending
pending_found r whole parts =
    let words = map words_of_pending r.pending in
    let again : map pending_words (pending_lines (paragraph_of r)) ≡ words = ap (map pending_words) (pending_field_again r whole.writable.others) ∙ pending_again r.pending whole.pending in
    sym (ap (in_path_order (λ (w : PendingWords). w.path)) again ∙ in_order_kept (λ (w : PendingWords). w.path) words (subst AreInOrder (sym (pending_word_paths r.pending)) parts.pending))

record_again : (r : Record) → IsWhole r → HasParts r → is_not_installed r.state ≡ false → IsRecordOf (paragraph_of r) r
record_again r whole parts there = record {
  name = record { field = line_field (codes "Package") r.name; there = package_again r whole.writable.others; value_is = refl; one_line = refl };
  status = record { field = line_field (codes "Status") (status_text r.want r.flag (record_word r)); there = status_field_again r whole.writable.others; value_is = refl; one_line = refl };
  version = record { field = line_field (codes "Version") r.version; there = version_again r whole.writable.others; value_is = refl; one_line = refl };
  config_version = config_kept (is_configured_in r.state (paragraph_of r)) r.config_version (line_of (field_in (codes "config-version") (paragraph_of r))) (current_again r whole.writable.others) (config_again r whole.writable.others);
  removed_since = sym (removed_again r whole.writable.others);
  conffiles = conffiles_found r whole parts;
  pending = pending_found r whole parts;
  triggers_pending = sym (triggers_pending_again r whole.writable.others);
  triggers_awaited = sym (triggers_awaited_again r whole.writable.others);
  others = sym (others_kept r whole.writable.others);
  stands = there;
}

read_again : (r : Record) → IsWhole r → HasParts r → IsReadAgain (map conffile_line r.conffiles) (map pending_line r.pending)
read_again r whole parts = record {
  lines = lines_read r.conffiles whole.conffiles;
  apart = ap are_apart (line_paths r.conffiles whole.conffiles) ∙ order_apart (map (λ (e : ConffileEntry). e.path) r.conffiles) parts.conffiles;
  pending_lines = pending_lines_read r.pending whole.pending;
  pending_apart = ap are_apart (pending_line_paths r.pending whole.pending) ∙ order_apart (map (λ (p : PendingDigest). p.path) r.pending) parts.pending;
}

pub entry_again : (names : List (List ℕ)) (r : Record) → IsWhole r → HasParts r → is_not_installed r.state ≡ false → list_any (bytes_eq r.name) names ≡ false → IsEntry names (paragraph_of r) r.name (r ∷ [])
entry_again names r whole parts there new = record {
  says = record {
    named = (record { field = line_field (codes "Package") r.name; there = package_again r whole.writable.others; value_is = refl; one_line = refl }, whole.writable.named);
    stands_for = inr (r, record_again r whole parts there, refl);
  };
  new = new;
  readable = own_readable r whole.writable.named (parts_fit r parts) (read_again r whole parts) whole.writable.readable;
}

-- all of them

abbrev AreFresh : List (List ℕ) → List Record → Type 0
AreFresh names rs = AllByRecursion (λ r. list_any (bytes_eq r.name) names ≡ false) rs

fresh_more : (names : List (List ℕ)) (name : List ℕ) (rs : List Record) → AreFresh names rs → IsWithout name rs → AreFresh (names ++ name ∷ []) rs
fresh_more names name [] fresh without = tt
fresh_more names name (r ∷ rs) fresh without = (
  list_any-append (bytes_eq r.name) names (name ∷ []) ∙ or_from (list_any (bytes_eq r.name) names) (bytes_eq r.name name || false) fresh.0 (or_from (bytes_eq r.name name) false without.0 refl),
  fresh_more names name rs fresh.1 without.1,
)

fresh_first : (rs : List Record) → AreFresh [] rs
fresh_first [] = tt
fresh_first (r ∷ rs) = (refl, fresh_first rs)

abbrev AreWritable : List Record → Type 0
AreWritable rs = AllByRecursion IsWhole rs

abbrev HaveParts : List Record → Type 0
HaveParts rs = AllByRecursion HasParts rs

abbrev Stand : List Record → Type 0
Stand rs = AllByRecursion (λ r. is_not_installed r.state ≡ false) rs

enters_again : (names : List (List ℕ)) (before rs : List Record) → AreWritable rs → HaveParts rs → Stand rs → AreApart rs → AreFresh names rs → (names' : List (List ℕ)) × Enters names before (map paragraph_of rs) names' (before ++ rs)
enters_again names before [] writable parts there apart fresh = (names, (refl, append-nil before))
enters_again names before (r ∷ rs) writable parts there apart fresh =
    let rest = enters_again (names ++ r.name ∷ []) (before ++ r ∷ []) rs writable.1 parts.1 there.1 apart.1 (fresh_more names r.name rs fresh.1 apart.0) in (
      rest.0,
      (
        r.name,
        r ∷ [],
        entry_again names r writable.0 parts.0 there.0 fresh.0,
        subst (λ (l : List Record). Enters (names ++ r.name ∷ []) (before ++ r ∷ []) (map paragraph_of rs) rest.0 l) (append_assoc before (r ∷ []) rs) rest.1,
      ),
    )

all_written : (rs : List Record) → AreWritable rs → HaveParts rs → AllByRecursion IsParagraph (map paragraph_of rs)
all_written [] writable parts = tt
all_written (r ∷ rs) writable parts = (paragraph_written r writable.0 parts.0, all_written rs writable.1 parts.1)

stand_by : (b : Bool) (r : Record) (rs : List Record) → is_not_installed r.state ≡ b → Stand rs → Stand (cond (not b) (r ∷ rs) rs)
stand_by true r rs e rest = rest
stand_by false r rs e rest = (e, rest)

standing_stand : (rs : List Record) → Stand (standing rs)
standing_stand [] = tt
standing_stand (r ∷ rs) = stand_by (is_not_installed r.state) r (standing rs) refl (standing_stand rs)

are_writable : (rs : List Record) → ∥ AreWritable rs ∥₁
are_writable [] = ∣ tt ∣₁
are_writable (r ∷ rs) = ∥∥₁_elim (whole_of r) ∥∥₁_prop (λ w. ∥∥₁_map (are_writable rs) (λ ws. (w, ws)))

pub status_again : (bytes : List ℕ) (rs : List Record) → AreApart rs → HaveParts (standing rs) → bytes ≡ spell_all (map paragraph_of (standing rs)) → ∥ IsStatus bytes rs ∥₁
status_again bytes rs apart parts is = ∥∥₁_map (are_writable (standing rs)) (λ writable.
    let enters = enters_again [] [] (standing rs) writable parts (standing_stand rs) (apart_filter (λ r. not (is_not_installed r.state)) rs apart) (fresh_first (standing rs)) in
    let status : IsStatus (spell_all (map paragraph_of (standing rs))) rs = record {
      paragraphs = map paragraph_of (standing rs);
      names = enters.0;
      reads = all_again (map paragraph_of (standing rs)) (all_written (standing rs) writable parts);
      enters = enters.1;
    } in
    subst (λ b. IsStatus b rs) (sym is) status)

-- one record by itself
pub record_read : (text : List ℕ) (r : Record) → HasParts r → text ≡ record_text r → is_not_installed r.state ≡ false → ∥ IsStatus text (r ∷ []) ∥₁
record_read text r parts is there =
    let stands : standing (r ∷ []) ≡ r ∷ [] = ap (λ b. cond (not b) (r ∷ []) []) there in
    status_again text (r ∷ []) (tt, tt) (subst HaveParts (sym stands) (parts, tt)) (is ∙ ap (λ (rs : List Record). spell_all (map paragraph_of rs)) (sym stands))
