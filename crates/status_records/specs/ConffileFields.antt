-- The lines of the fields `Conffiles` and `New-Conffiles`.
use Rattle.std.specs.Prelude.{◌≡◌, ◌&&◌, not, ℕ, suc, Bool, true, false, cond, List, [], ◌∷◌, ◌++◌, map, take, drop, codes}
use Rattle.std.specs.List.{list_any, list_all}
use Rattle.std.specs.Str.{bytes_eq}
use Rattle.hex.specs.Hex.{encode_lower}
use Rattle.control_fields.specs.Names.{is_blank, trim_end}
use Rattle.control_fields.specs.declared.field.Field.{Field}
use Rattle.conffiles.specs.Digests.{is_digest_text}
use Rattle.status_records.specs.ConffilePaths.{is_ship_path}
use Rattle.status_records.specs.Digests.{is_recorded_text, digest_word}
use Rattle.status_records.specs.declared.entries.ConffileEntry.{ConffileEntry}
use Rattle.status_records.specs.declared.entries.PendingDigest.{PendingDigest}

-- how much of a text stands before its last word: what ends with the last blank
abbrev pub word_start : List ℕ → ℕ
word_start [] = 0
word_start (b ∷ bs) = cond (list_any is_blank (b ∷ bs)) (suc (word_start bs)) 0

-- what stands behind the last blank
abbrev pub last_word : List ℕ → List ℕ
last_word text = drop (word_start text) text

-- what stands before the last word, without the blanks between the two
abbrev pub words_before : List ℕ → List ℕ
words_before text = trim_end (take (word_start text) text)

-- without the last word, if it is this one
abbrev pub without_word : List ℕ → List ℕ → List ℕ
without_word word text = cond (bytes_eq (last_word text) word) (words_before text) text

-- a line without the blank that it begins with, and without those at its end
abbrev pub line_text : List ℕ → List ℕ
line_text line = trim_end (drop 1 line)

-- `remove-on-upgrade` stands last on a line, `obsolete` last or before it
abbrev pub text_before_removal : List ℕ → List ℕ
text_before_removal line = without_word (codes "remove-on-upgrade") (line_text line)

-- path and digest, without the flags
abbrev pub text_before_flags : List ℕ → List ℕ
text_before_flags line = without_word (codes "obsolete") (text_before_removal line)

-- what a line of `Conffiles` says of a conffile, each part as its bytes
pub record ConffileWords : Type 0 where
  pub path : List ℕ
  pub digest : List ℕ
  pub obsolete : Bool
  pub remove_on_upgrade : Bool

-- ` PATH DIGEST`, then ` obsolete` where the current version doesn't ship it, then ` remove-on-upgrade`
abbrev pub conffile_words : List ℕ → ConffileWords
conffile_words line = record {
  path = words_before (text_before_flags line);
  digest = last_word (text_before_flags line);
  obsolete = bytes_eq (last_word (text_before_removal line)) (codes "obsolete");
  remove_on_upgrade = bytes_eq (last_word (line_text line)) (codes "remove-on-upgrade");
}

-- what a line of `New-Conffiles` says
pub record PendingWords : Type 0 where
  pub path : List ℕ
  pub digest : List ℕ

-- ` PATH DIGEST`
abbrev pub pending_words : List ℕ → PendingWords
pending_words line = record { path = words_before (line_text line); digest = last_word (line_text line) }

-- a line of `Conffiles` that can be read
abbrev pub is_conffile_line : List ℕ → Bool
is_conffile_line line = is_recorded_text (conffile_words line).digest && is_ship_path (conffile_words line).path

-- a line of `New-Conffiles` that can be read
abbrev pub is_pending_line : List ℕ → Bool
is_pending_line line = is_digest_text (pending_words line).digest && is_ship_path (pending_words line).path

-- no text stands twice
abbrev pub are_apart : List (List ℕ) → Bool
are_apart [] = true
are_apart (text ∷ texts) = not (list_any (bytes_eq text) texts) && are_apart texts

-- the paths of lines of `Conffiles`, and of `New-Conffiles`
abbrev pub conffile_paths : List (List ℕ) → List (List ℕ)
conffile_paths lines = map (λ line. (conffile_words line).path) lines

abbrev pub pending_paths : List (List ℕ) → List (List ℕ)
pending_paths lines = map (λ line. (pending_words line).path) lines

-- A line for each conffile, and nothing on the field's own line.
pub record IsConffileField (f : Field) : Type 0 where
  pub nothing_first : f.first ≡ []
  pub lines : list_all is_conffile_line f.more ≡ true
  pub apart : are_apart (conffile_paths f.more) ≡ true

-- the same of the digests that aren't settled yet
pub record IsPendingField (f : Field) : Type 0 where
  pub nothing_first : f.first ≡ []
  pub lines : list_all is_pending_line f.more ≡ true
  pub apart : are_apart (pending_paths f.more) ≡ true

-- an entry as the words of its line
abbrev pub words_of_conffile : ConffileEntry → ConffileWords
words_of_conffile e = record { path = e.path; digest = digest_word e.digest; obsolete = e.obsolete; remove_on_upgrade = e.remove_on_upgrade }

abbrev pub words_of_pending : PendingDigest → PendingWords
words_of_pending p = record { path = p.path; digest = encode_lower p.digest }

-- a blank and the word, where it holds
abbrev pub flag_text : Bool → List ℕ → List ℕ
flag_text false word = []
flag_text true word = 32 ∷ word

-- the line of an entry: ` PATH DIGEST`, and the flags behind them
abbrev pub conffile_line : ConffileEntry → List ℕ
conffile_line e =
    32 ∷ (e.path ++ 32 ∷ (digest_word e.digest ++ (flag_text e.obsolete (codes "obsolete") ++ flag_text e.remove_on_upgrade (codes "remove-on-upgrade"))))

-- ` PATH DIGEST`
abbrev pub pending_line : PendingDigest → List ℕ
pending_line p = 32 ∷ (p.path ++ 32 ∷ encode_lower p.digest)
