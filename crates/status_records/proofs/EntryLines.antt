-- The line of an entry is read as that entry.
use Rattle.std.proofs.Common.{◌≡◌, ◌≢◌, ℕ, suc, Bool, true, false, cond, ◌&&◌, ◌||◌, Option, None, Some, List, [], ◌∷◌, ◌++◌, length, map, take, drop, refl, sym, ap, subst, ◌∙◌, append_assoc, arith, codes}
use Rattle.std.specs.List.{list_any, list_all, AllByRecursion}
use Rattle.std.specs.Str.{bytes_eq, IsUtf8}
use Rattle.std.proofs.Math.Logic.{∥∥₁_elim, ∥∥₁_map, ∥∥₁_prop}
use Rattle.std.proofs.lemmas.Bool.{true≢false, false≢true, false_from_ne_true, and_parts, and_from, or_from, or_parts, or_right}
use Rattle.std.proofs.lemmas.Bool.Decides.{nat_tests}
use Rattle.std.proofs.lemmas.List.{append-nil}
use Rattle.std.proofs.lemmas.List.Folds.{list_any-append}
use Rattle.std.proofs.lemmas.Slice.Eq.{bytes_eq-Decides}
use Rattle.std.proofs.lemmas.Str.{IsUtf8-append}
use Rattle.hex.specs.Hex.{encode_lower}
use Rattle.hex.proofs.HexLemmas.{decode_sized-encode_lower}
use Rattle.control_fields.specs.Names.{Lacks, is_blank, keep_before, trim_end}
use Rattle.control_fields.proofs.Trims.{trimmed_after, lacks_append}
use Rattle.control_fields.proofs.Written.{IsTrimmedMore}
use Rattle.conffiles.specs.Digests.{IsDigest, is_lower_digit, is_digest_text}
use Rattle.conffiles.proofs.DigestTexts.{written_lower, read_long}
use Rattle.status_records.specs.Digests.{is_recorded_text, digest_word, IsDigestOrNone}
use Rattle.status_records.specs.declared.entries.ConffileEntry.{ConffileEntry}
use Rattle.status_records.specs.declared.entries.PendingDigest.{PendingDigest}
use Rattle.status_records.specs.ConffilePaths.{is_ship_path}
use Rattle.status_records.specs.ConffileFields.{word_start, last_word, words_before, without_word, ConffileWords, conffile_words, PendingWords, pending_words, is_conffile_line, is_pending_line, words_of_conffile, words_of_pending, flag_text, conffile_line, pending_line}
use Rattle.status_records.proofs.Lines.{is_printed, weaker, both_printed, line_utf8, line_lacks}
use Rattle.status_records.proofs.ShipLines.{line_path}

-- a word behind a blank

start_none : (w : List ℕ) → list_any is_blank w ≡ false → word_start w ≡ 0
start_none [] none = refl
start_none (b ∷ w) none = ap (λ t. cond t (suc (word_start w)) 0) none

blank_among : (a w : List ℕ) → list_any is_blank (a ++ 32 ∷ w) ≡ true
blank_among a w = list_any-append is_blank a (32 ∷ w) ∙ or_right (list_any is_blank a) true refl

start_behind : (a w : List ℕ) → list_any is_blank w ≡ false → word_start (a ++ 32 ∷ w) ≡ suc (length a)
start_behind [] w none = ap suc (start_none w none)
start_behind (b ∷ a) w none =
    ap (λ t. cond t (suc (word_start (a ++ 32 ∷ w))) 0) (ap (λ t. is_blank b || t) (blank_among a w) ∙ or_right (is_blank b) true refl) ∙ ap suc (start_behind a w none)

drop_behind : (a w : List ℕ) → drop (suc (length a)) (a ++ 32 ∷ w) ≡ w
drop_behind [] w = refl
drop_behind (b ∷ a) w = drop_behind a w

take_before : (a w : List ℕ) → take (suc (length a)) (a ++ 32 ∷ w) ≡ a ++ 32 ∷ []
take_before [] w = refl
take_before (b ∷ a) w = ap (λ l. b ∷ l) (take_before a w)

trim_blank : (a : List ℕ) → trim_end (a ++ 32 ∷ []) ≡ trim_end a
trim_blank [] = refl
trim_blank (b ∷ a) = ap (keep_before b) (trim_blank a)

pub last_behind : (a w : List ℕ) → list_any is_blank w ≡ false → last_word (a ++ 32 ∷ w) ≡ w
last_behind a w none = ap (λ n. drop n (a ++ 32 ∷ w)) (start_behind a w none) ∙ drop_behind a w

pub before_last : (a w : List ℕ) → list_any is_blank w ≡ false → words_before (a ++ 32 ∷ w) ≡ trim_end a
before_last a w none = ap (λ n. trim_end (take n (a ++ 32 ∷ w))) (start_behind a w none) ∙ ap trim_end (take_before a w) ∙ trim_blank a

with_word : (a w : List ℕ) → list_any is_blank w ≡ false → trim_end a ≡ a → without_word w (a ++ 32 ∷ w) ≡ a
with_word a w none trimmed =
    ap (λ t. cond t (words_before (a ++ 32 ∷ w)) (a ++ 32 ∷ w)) ((bytes_eq-Decides (last_word (a ++ 32 ∷ w)) w).1 (last_behind a w none)) ∙ before_last a w none ∙ trimmed

with_other : (a w other : List ℕ) → list_any is_blank w ≡ false → bytes_eq w other ≡ false → without_word other (a ++ 32 ∷ w) ≡ a ++ 32 ∷ w
with_other a w other none differ =
    ap (λ t. cond t (words_before (a ++ 32 ∷ w)) (a ++ 32 ∷ w)) (ap (λ l. bytes_eq l other) (last_behind a w none) ∙ differ)

-- digests

digit_no_blank : (b : ℕ) → is_lower_digit b ≡ true → is_blank b ≡ false
digit_no_blank b e = grind (arith, nat_tests)

digit_printed : (b : ℕ) → is_lower_digit b ≡ true → is_printed b ≡ true
digit_printed b e = grind (arith, nat_tests)

digits_no_blank : (l : List ℕ) → list_all is_lower_digit l ≡ true → list_any is_blank l ≡ false
digits_no_blank [] all = refl
digits_no_blank (b ∷ l) all =
    let parts = and_parts (is_lower_digit b) (list_all is_lower_digit l) all in
    or_from (is_blank b) (list_any is_blank l) (digit_no_blank b parts.0) (digits_no_blank l parts.1)

pub digest_written : (d : List ℕ) → IsDigest d → is_digest_text (encode_lower d) ≡ true
digest_written d is = read_long (encode_lower d) d (written_lower d is.bytes) (decode_sized-encode_lower d 16 is.long is.bytes)

-- a word that stands where a digest does
pub record IsDigestWord (w : List ℕ) : Type 0 where
  pub no_blank : list_any is_blank w ≡ false
  pub printed : list_all is_printed w ≡ true
  pub some : w ≢ []
  pub trimmed : trim_end w ≡ w
  pub not_removal : bytes_eq w (codes "remove-on-upgrade") ≡ false
  pub not_obsolete : bytes_eq w (codes "obsolete") ≡ false
  pub recorded : is_recorded_text w ≡ true

no_blank_trimmed : (w : List ℕ) → list_any is_blank w ≡ false → trim_end w ≡ w
no_blank_trimmed [] none = refl
no_blank_trimmed (b ∷ w) none =
    let parts = or_parts (is_blank b) (list_any is_blank w) none in
    ap (keep_before b) (no_blank_trimmed w parts.1) ∙ kept b w parts.0
  where
    kept : (b : ℕ) (w : List ℕ) → is_blank b ≡ false → keep_before b w ≡ b ∷ w
    kept b [] other = ap (λ t. cond t [] (b ∷ [])) other
    kept b (c ∷ w) other = refl

no_digits : (w other : List ℕ) → list_all is_lower_digit w ≡ true → list_all is_lower_digit other ≡ false → bytes_eq w other ≡ false
no_digits w other all bad = false_from_ne_true (bytes_eq w other) (λ t. true≢false (sym all ∙ ap (list_all is_lower_digit) ((bytes_eq-Decides w other).0 t) ∙ bad))

pub digest_is_word : (d : List ℕ) → IsDigest d → IsDigestWord (encode_lower d)
digest_is_word d is =
    let digits = written_lower d is.bytes in
    record {
      no_blank = digits_no_blank (encode_lower d) digits;
      printed = weaker is_lower_digit is_printed digit_printed (encode_lower d) digits;
      some = λ e. false≢true (sym (ap is_digest_text e) ∙ digest_written d is);
      trimmed = no_blank_trimmed (encode_lower d) (digits_no_blank (encode_lower d) digits);
      not_removal = no_digits (encode_lower d) (codes "remove-on-upgrade") digits refl;
      not_obsolete = no_digits (encode_lower d) (codes "obsolete") digits refl;
      recorded = or_right (bytes_eq (encode_lower d) (codes "newconffile")) (is_digest_text (encode_lower d)) (digest_written d is);
    }

pub recorded_is_word : (d : Option (List ℕ)) → IsDigestOrNone d → IsDigestWord (digest_word d)
recorded_is_word None is = record { no_blank = refl; printed = refl; some = λ e. cc e; trimmed = refl; not_removal = refl; not_obsolete = refl; recorded = refl }
recorded_is_word (Some d) is = digest_is_word d is

-- the words of a line

pub same_words : (a b : ConffileWords) → a.path ≡ b.path → a.digest ≡ b.digest → a.obsolete ≡ b.obsolete → a.remove_on_upgrade ≡ b.remove_on_upgrade → a ≡ b
same_words a b p d o r = λ i. record { path = p i; digest = d i; obsolete = o i; remove_on_upgrade = r i }

-- what is read of a line's text, by what stands before its flags
record IsTextOf (path word : List ℕ) (obsolete removal : Bool) (text : List ℕ) : Type 0 where
  before : without_word (codes "obsolete") (without_word (codes "remove-on-upgrade") text) ≡ path ++ 32 ∷ word
  obsolete_is : bytes_eq (last_word (without_word (codes "remove-on-upgrade") text)) (codes "obsolete") ≡ obsolete
  removal_is : bytes_eq (last_word text) (codes "remove-on-upgrade") ≡ removal

abbrev flags_text : List ℕ → List ℕ → Bool → Bool → List ℕ
flags_text path word obsolete removal = path ++ 32 ∷ (word ++ (flag_text obsolete (codes "obsolete") ++ flag_text removal (codes "remove-on-upgrade")))

core_trimmed : (path word : List ℕ) → IsDigestWord word → trim_end (path ++ 32 ∷ word) ≡ path ++ 32 ∷ word
core_trimmed path word w = trimmed_after path (32 ∷ word) (λ e. cc e) (trimmed_after (32 ∷ []) word w.some w.trimmed)

last_of : (core w : List ℕ) (other : List ℕ) (b : Bool) → list_any is_blank w ≡ false → bytes_eq w other ≡ b → bytes_eq (last_word (core ++ 32 ∷ w)) other ≡ b
last_of core w other b none e = ap (λ l. bytes_eq l other) (last_behind core w none) ∙ e

split : (path word rest : List ℕ) → path ++ 32 ∷ (word ++ rest) ≡ (path ++ 32 ∷ word) ++ rest
split path word rest = sym (append_assoc path (32 ∷ word) rest)

text_of : (path word : List ℕ) (obsolete removal : Bool) → IsDigestWord word → IsTextOf path word obsolete removal (flags_text path word obsolete removal)
text_of path word false false w =
    let plain : flags_text path word false false ≡ path ++ 32 ∷ word = ap (λ l. path ++ 32 ∷ l) (append-nil word) in
    let kept = with_other path word (codes "remove-on-upgrade") w.no_blank w.not_removal in
    subst (IsTextOf path word false false) (sym plain) record {
      before = ap (without_word (codes "obsolete")) kept ∙ with_other path word (codes "obsolete") w.no_blank w.not_obsolete;
      obsolete_is = ap (λ l. bytes_eq (last_word l) (codes "obsolete")) kept ∙ last_of path word (codes "obsolete") false w.no_blank w.not_obsolete;
      removal_is = last_of path word (codes "remove-on-upgrade") false w.no_blank w.not_removal;
    }
text_of path word true false w =
    let core = path ++ 32 ∷ word in
    let kept = with_other core (codes "obsolete") (codes "remove-on-upgrade") refl refl in
    subst (IsTextOf path word true false) (sym (split path word (32 ∷ codes "obsolete"))) record {
      before = ap (without_word (codes "obsolete")) kept ∙ with_word core (codes "obsolete") refl (core_trimmed path word w);
      obsolete_is = ap (λ l. bytes_eq (last_word l) (codes "obsolete")) kept ∙ last_of core (codes "obsolete") (codes "obsolete") true refl refl;
      removal_is = last_of core (codes "obsolete") (codes "remove-on-upgrade") false refl refl;
    }
text_of path word false true w =
    let core = path ++ 32 ∷ word in
    let cut = with_word core (codes "remove-on-upgrade") refl (core_trimmed path word w) in
    subst (IsTextOf path word false true) (sym (split path word (32 ∷ codes "remove-on-upgrade"))) record {
      before = ap (without_word (codes "obsolete")) cut ∙ with_other path word (codes "obsolete") w.no_blank w.not_obsolete;
      obsolete_is = ap (λ l. bytes_eq (last_word l) (codes "obsolete")) cut ∙ last_of path word (codes "obsolete") false w.no_blank w.not_obsolete;
      removal_is = last_of core (codes "remove-on-upgrade") (codes "remove-on-upgrade") true refl refl;
    }
text_of path word true true w =
    let core = path ++ 32 ∷ word in
    let flagged = core ++ 32 ∷ codes "obsolete" in
    let parted : flags_text path word true true ≡ flagged ++ 32 ∷ codes "remove-on-upgrade" =
    split path word (32 ∷ (codes "obsolete" ++ 32 ∷ codes "remove-on-upgrade")) ∙ sym (append_assoc core (32 ∷ codes "obsolete") (32 ∷ codes "remove-on-upgrade")) in
    let cut = with_word flagged (codes "remove-on-upgrade") refl (trimmed_after core (32 ∷ codes "obsolete") (λ e. cc e) refl) in
    subst (IsTextOf path word true true) (sym parted) record {
      before = ap (without_word (codes "obsolete")) cut ∙ with_word core (codes "obsolete") refl (core_trimmed path word w);
      obsolete_is = ap (λ l. bytes_eq (last_word l) (codes "obsolete")) cut ∙ last_of core (codes "obsolete") (codes "obsolete") true refl refl;
      removal_is = last_of flagged (codes "remove-on-upgrade") (codes "remove-on-upgrade") true refl refl;
    }

flags_trimmed : (word : List ℕ) (o r : Bool) → IsDigestWord word → trim_end (word ++ (flag_text o (codes "obsolete") ++ flag_text r (codes "remove-on-upgrade"))) ≡ word ++ (flag_text o (codes "obsolete") ++ flag_text r (codes "remove-on-upgrade"))
flags_trimmed word false false w = ap trim_end (append-nil word) ∙ w.trimmed ∙ sym (append-nil word)
flags_trimmed word true false w = trimmed_after word (32 ∷ codes "obsolete") (λ e. cc e) refl
flags_trimmed word false true w = trimmed_after word (32 ∷ codes "remove-on-upgrade") (λ e. cc e) refl
flags_trimmed word true true w = trimmed_after word (32 ∷ (codes "obsolete" ++ 32 ∷ codes "remove-on-upgrade")) (λ e. cc e) refl

some_word : (word rest : List ℕ) → word ≢ [] → word ++ rest ≢ []
some_word [] rest some = λ e. some refl
some_word (b ∷ word) rest some = λ e. cc e

tail_trimmed : (path tail : List ℕ) → tail ≢ [] → trim_end tail ≡ tail → trim_end (path ++ 32 ∷ tail) ≡ path ++ 32 ∷ tail
tail_trimmed path tail some trimmed = trimmed_after path (32 ∷ tail) (λ e. cc e) (trimmed_after (32 ∷ []) tail some trimmed)

text_trimmed : (path word : List ℕ) (o r : Bool) → IsDigestWord word → trim_end (flags_text path word o r) ≡ flags_text path word o r
text_trimmed path word o r w =
    let flags = flag_text o (codes "obsolete") ++ flag_text r (codes "remove-on-upgrade") in
    tail_trimmed path (word ++ flags) (some_word word flags w.some) (flags_trimmed word o r w)

pub words_by : (e : ConffileEntry) → IsDigestOrNone e.digest → conffile_words (conffile_line e) ≡ words_of_conffile e
words_by e is =
    let w = recorded_is_word e.digest is in
    let plain = sym (text_trimmed e.path (digest_word e.digest) e.obsolete e.remove_on_upgrade w) in
    let t = subst (IsTextOf e.path (digest_word e.digest) e.obsolete e.remove_on_upgrade) plain (text_of e.path (digest_word e.digest) e.obsolete e.remove_on_upgrade w) in
    same_words (conffile_words (conffile_line e)) (words_of_conffile e)
    (ap words_before t.before ∙ before_last e.path (digest_word e.digest) w.no_blank ∙ (line_path e.path e.conffile).trimmed)
    (ap last_word t.before ∙ last_behind e.path (digest_word e.digest) w.no_blank) t.obsolete_is t.removal_is

pub same_pending : (a b : PendingWords) → a.path ≡ b.path → a.digest ≡ b.digest → a ≡ b
same_pending a b p d = λ i. record { path = p i; digest = d i }

pub pending_by : (p : PendingDigest) → IsDigest p.digest → pending_words (pending_line p) ≡ words_of_pending p
pending_by p is =
    let w = digest_is_word p.digest is in
    let plain = core_trimmed p.path (encode_lower p.digest) w in
    same_pending (pending_words (pending_line p)) (words_of_pending p) (ap words_before plain ∙ before_last p.path (encode_lower p.digest) w.no_blank ∙ (line_path p.path p.conffile).trimmed)
    (ap last_word plain ∙ last_behind p.path (encode_lower p.digest) w.no_blank)

-- such lines can be read, and stand in a paragraph

flag_printed : (b : Bool) (word : List ℕ) → list_all is_printed word ≡ true → list_all is_printed (flag_text b word) ≡ true
flag_printed false word all = refl
flag_printed true word all = all

line_more : (path word rest : List ℕ) → IsUtf8 path → Lacks path 10 → list_all is_printed (word ++ rest) ≡ true → trim_end (32 ∷ (path ++ 32 ∷ (word ++ rest))) ≡ 32 ∷ (path ++ 32 ∷ (word ++ rest)) → IsTrimmedMore (32 ∷ (path ++ 32 ∷ (word ++ rest)))
line_more path word rest utf8 lacks printed trimmed = record {
  utf8 = IsUtf8-append (32 ∷ []) (path ++ 32 ∷ (word ++ rest)) (line_utf8 (32 ∷ []) refl) (IsUtf8-append path (32 ∷ (word ++ rest)) utf8 (line_utf8 (32 ∷ (word ++ rest)) printed));
  one_line = lacks_append (32 ∷ []) (path ++ 32 ∷ (word ++ rest)) 10 (line_lacks (32 ∷ []) refl) (lacks_append path (32 ∷ (word ++ rest)) 10 lacks (line_lacks (32 ∷ (word ++ rest)) printed));
  trimmed = trimmed;
  blank = refl;
}

line_trimmed : (path tail : List ℕ) → tail ≢ [] → trim_end tail ≡ tail → trim_end (32 ∷ (path ++ 32 ∷ tail)) ≡ 32 ∷ (path ++ 32 ∷ tail)
line_trimmed path tail some trimmed = tail_trimmed (32 ∷ path) tail some trimmed

more_by : (e : ConffileEntry) → IsDigestOrNone e.digest → IsTrimmedMore (conffile_line e)
more_by e is =
    let w = recorded_is_word e.digest is in
    let flags = flag_text e.obsolete (codes "obsolete") ++ flag_text e.remove_on_upgrade (codes "remove-on-upgrade") in
    let path = line_path e.path e.conffile in
    line_more e.path (digest_word e.digest) flags path.utf8 path.one_line
    (both_printed (digest_word e.digest) flags w.printed (both_printed (flag_text e.obsolete (codes "obsolete")) (flag_text e.remove_on_upgrade (codes "remove-on-upgrade")) (flag_printed e.obsolete (codes "obsolete") refl)
    (flag_printed e.remove_on_upgrade (codes "remove-on-upgrade") refl)))
    (line_trimmed e.path (digest_word e.digest ++ flags) (some_word (digest_word e.digest) flags w.some) (flags_trimmed (digest_word e.digest) e.obsolete e.remove_on_upgrade w))

more_pending_by : (p : PendingDigest) → IsDigest p.digest → IsTrimmedMore (pending_line p)
more_pending_by p is =
    let w = digest_is_word p.digest is in
    let path = line_path p.path p.conffile in
    let plain : pending_line p ≡ 32 ∷ (p.path ++ 32 ∷ (encode_lower p.digest ++ [])) = ap (λ l. 32 ∷ (p.path ++ 32 ∷ l)) (sym (append-nil (encode_lower p.digest))) in
    subst IsTrimmedMore (sym plain)
    (line_more p.path (encode_lower p.digest) [] path.utf8 path.one_line (both_printed (encode_lower p.digest) [] w.printed refl)
    (line_trimmed p.path (encode_lower p.digest ++ []) (some_word (encode_lower p.digest) [] w.some) (ap trim_end (append-nil (encode_lower p.digest)) ∙ w.trimmed ∙ sym (append-nil (encode_lower p.digest)))))

-- of all entries

pub all_digested : (es : List ConffileEntry) → ∥ AllByRecursion (λ (e : ConffileEntry). IsDigestOrNone e.digest) es ∥₁
all_digested [] = ∣ tt ∣₁
all_digested (e ∷ es) = ∥∥₁_elim e.digested ∥∥₁_prop (λ d. ∥∥₁_map (all_digested es) (λ ds. (d, ds)))

pub all_pending_digested : (ps : List PendingDigest) → ∥ AllByRecursion (λ (p : PendingDigest). IsDigest p.digest) ps ∥₁
all_pending_digested [] = ∣ tt ∣₁
all_pending_digested (p ∷ ps) = ∥∥₁_elim p.digested ∥∥₁_prop (λ d. ∥∥₁_map (all_pending_digested ps) (λ ds. (d, ds)))

pub words_again : (es : List ConffileEntry) → AllByRecursion (λ (e : ConffileEntry). IsDigestOrNone e.digest) es → map conffile_words (map conffile_line es) ≡ map words_of_conffile es
words_again [] all = refl
words_again (e ∷ es) all = λ i. words_by e all.0 i ∷ words_again es all.1 i

pub pending_again : (ps : List PendingDigest) → AllByRecursion (λ (p : PendingDigest). IsDigest p.digest) ps → map pending_words (map pending_line ps) ≡ map words_of_pending ps
pending_again [] all = refl
pending_again (p ∷ ps) all = λ i. pending_by p all.0 i ∷ pending_again ps all.1 i

pub all_more : (es : List ConffileEntry) → AllByRecursion (λ (e : ConffileEntry). IsDigestOrNone e.digest) es → AllByRecursion IsTrimmedMore (map conffile_line es)
all_more [] all = tt
all_more (e ∷ es) all = (more_by e all.0, all_more es all.1)

pub all_pending_more : (ps : List PendingDigest) → AllByRecursion (λ (p : PendingDigest). IsDigest p.digest) ps → AllByRecursion IsTrimmedMore (map pending_line ps)
all_pending_more [] all = tt
all_pending_more (p ∷ ps) all = (more_pending_by p all.0, all_pending_more ps all.1)

line_read : (e : ConffileEntry) → IsDigestOrNone e.digest → is_conffile_line (conffile_line e) ≡ true
line_read e is =
    ap (λ (w : ConffileWords). is_recorded_text w.digest && is_ship_path w.path) (words_by e is)
    ∙ and_from (is_recorded_text (digest_word e.digest)) (is_ship_path e.path) (recorded_is_word e.digest is).recorded (line_path e.path e.conffile).ship

pending_line_read : (p : PendingDigest) → IsDigest p.digest → is_pending_line (pending_line p) ≡ true
pending_line_read p is =
    ap (λ (w : PendingWords). is_digest_text w.digest && is_ship_path w.path) (pending_by p is)
    ∙ and_from (is_digest_text (encode_lower p.digest)) (is_ship_path p.path) (digest_written p.digest is) (line_path p.path p.conffile).ship

pub lines_read : (es : List ConffileEntry) → AllByRecursion (λ (e : ConffileEntry). IsDigestOrNone e.digest) es → list_all is_conffile_line (map conffile_line es) ≡ true
lines_read [] all = refl
lines_read (e ∷ es) all = and_from (is_conffile_line (conffile_line e)) (list_all is_conffile_line (map conffile_line es)) (line_read e all.0) (lines_read es all.1)

pub pending_lines_read : (ps : List PendingDigest) → AllByRecursion (λ (p : PendingDigest). IsDigest p.digest) ps → list_all is_pending_line (map pending_line ps) ≡ true
pending_lines_read [] all = refl
pending_lines_read (p ∷ ps) all = and_from (is_pending_line (pending_line p)) (list_all is_pending_line (map pending_line ps)) (pending_line_read p all.0) (pending_lines_read ps all.1)
