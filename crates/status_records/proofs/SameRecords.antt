-- Records that are alike in each part are one, and a paragraph says one record.
use Rattle.std.proofs.Common.{◌≡◌, ℕ, Bool, IsTrue, not, true, false, cond, ◌&&◌, Option, None, Some, List, [], ◌∷◌, ◌++◌, map, nat_eq, get_or, refl, sym, ap, ◌∙◌, codes}
use Rattle.std.specs.Prelude.{◌↔◌, is_some, Ok}
use Rattle.std.proofs.Props.{props}
use Rattle.std.proofs.Math.Logic.{∥∥₁_elim}
use Rattle.std.proofs.lemmas.Bool.{true≢false, and_parts}
use Rattle.std.proofs.lemmas.Slice.Eq.{bytes_eq-Decides}
use mathlib.Core.HLevel.{is_prop→PathP}
use Rattle.control_fields.specs.declared.field.Field.{Field}
use Rattle.control_fields.proofs.Parts.{one_cut}
use Rattle.conffiles.specs.Digests.{IsDigest, is_digest_text}
use Rattle.conffiles.proofs.DigestTexts.{read_written}
use Rattle.hex.specs.Hex.{encode_lower}
use Rattle.status_records.specs.Digests.{digest_word, IsDigestOrNone}
use Rattle.status_records.specs.ConffilePaths.{is_conffile_path}
use Rattle.status_records.specs.ConffileFields.{ConffileWords, PendingWords, words_of_conffile, words_of_pending}
use Rattle.status_records.specs.declared.triggers.Triggers.{Triggers}
use Rattle.status_records.specs.declared.words.StateWord.{StateWord}
use Rattle.status_records.specs.declared.words.StateWord.TheVariants as word
use Rattle.status_records.specs.Triggers.{is_configured, may_stand, no_triggers, triggers_beside}
use Rattle.status_records.specs.Words.{want_word, flag_word, state_word, word_of, state_of, agrees, status_text, disagrees}
use Rattle.status_records.specs.Writable.{IsWritable}
use Rattle.status_records.specs.Paragraphs.{record_word, earlier_version, field_in, Says, IsRecordOf}
use Rattle.status_records.specs.Damage.{AreAmiss}
use Rattle.status_records.specs.declared.entries.ConffileEntry.{ConffileEntry}
use Rattle.status_records.specs.declared.entries.PendingDigest.{PendingDigest}
use Rattle.status_records.specs.declared.record.Record.{Record}
use Rattle.status_records.specs.declared.words.Want.{Want}
use Rattle.status_records.specs.declared.words.Want.TheVariants as want
use Rattle.status_records.specs.declared.words.Flag.{Flag}
use Rattle.status_records.specs.declared.words.Flag.TheVariants as flag
use Rattle.status_records.specs.declared.words.State.{State}
use Rattle.status_records.specs.declared.words.State.TheVariants as state
use Rattle.status_records.proofs.EntryLines.{digest_written}
use Rattle.status_records.proofs.Parsing.{want_lacks, flag_lacks, behind_want, behind_flag}
use Rattle.status_records.proofs.Sayings.{says_same}

-- part by part

pub same_entry : (a b : ConffileEntry) → a.path ≡ b.path → a.digest ≡ b.digest → a.obsolete ≡ b.obsolete → a.remove_on_upgrade ≡ b.remove_on_upgrade → a ≡ b
same_entry a b p d o r = λ i. record {
  path = p i;
  digest = d i;
  obsolete = o i;
  remove_on_upgrade = r i;
  conffile = is_prop→PathP (λ j. is_conffile_path (p j) ≡ true) (λ j. hlevel props) a.conffile b.conffile i;
  digested = is_prop→PathP (λ j. ∥ IsDigestOrNone (d j) ∥₁) (λ j. hlevel props) a.digested b.digested i;
}

pub same_pending : (a b : PendingDigest) → a.path ≡ b.path → a.digest ≡ b.digest → a ≡ b
same_pending a b p d = λ i. record {
  path = p i;
  digest = d i;
  conffile = is_prop→PathP (λ j. is_conffile_path (p j) ≡ true) (λ j. hlevel props) a.conffile b.conffile i;
  digested = is_prop→PathP (λ j. ∥ IsDigest (d j) ∥₁) (λ j. hlevel props) a.digested b.digested i;
}

pub same_triggers : (a b : Triggers) → a.pending ≡ b.pending → a.awaited ≡ b.awaited → a ≡ b
same_triggers a b p w = λ i. record { pending = p i; awaited = w i }

none_pending : (o : Option (List ℕ)) → not (is_some o) ≡ true → None ≡ o
none_pending None e = refl
none_pending (Some names) e = absurd (cc e)

only_awaited : (t : Triggers) → not (is_some t.pending) ≡ true → (record { pending = None; awaited = t.awaited }) ≡ t
only_awaited t e = same_triggers (record { pending = None; awaited = t.awaited }) t (none_pending t.pending e) refl

neither : (t : Triggers) → not (is_some t.pending) && not (is_some t.awaited) ≡ true → no_triggers ≡ t
neither t e =
    let parts = and_parts (not (is_some t.pending)) (not (is_some t.awaited)) e in
    same_triggers no_triggers t (none_pending t.pending parts.0) (none_pending t.awaited parts.1)

-- triggers that may stand beside a state are all left in it
pub stays_beside : (s : State) (t : Triggers) → may_stand s t ≡ true → triggers_beside s t ≡ t
stays_beside state.NotInstalled t e = neither t e
stays_beside state.ConfigFiles t e = neither t e
stays_beside state.HalfInstalled t e = only_awaited t e
stays_beside state.Unpacked t e = only_awaited t e
stays_beside state.HalfConfigured t e = only_awaited t e
stays_beside state.Installed t e = refl

pub record IsSame (a b : Record) : Type 0 where
  pub name : a.name ≡ b.name
  pub wanted : a.want ≡ b.want
  pub flagged : a.flag ≡ b.flag
  pub standing : a.state ≡ b.state
  pub version : a.version ≡ b.version
  pub config_version : a.config_version ≡ b.config_version
  pub removed_since : a.removed_since ≡ b.removed_since
  pub conffiles : a.conffiles ≡ b.conffiles
  pub pending : a.pending ≡ b.pending
  pub triggers : a.triggers ≡ b.triggers
  pub fields : a.fields ≡ b.fields

pub same_record : (a b : Record) → IsSame a b → a ≡ b
same_record a b s = λ i. record {
  name = s.name i;
  want = s.wanted i;
  flag = s.flagged i;
  state = s.standing i;
  version = s.version i;
  config_version = s.config_version i;
  removed_since = s.removed_since i;
  conffiles = s.conffiles i;
  pending = s.pending i;
  triggers = s.triggers i;
  fields = s.fields i;
  writable = is_prop→PathP (λ j. ∥ IsWritable (s.name j) (s.fields j) ∥₁) (λ j. hlevel props) a.writable b.writable i;
  current = is_prop→PathP (λ j. is_configured (s.standing j) (s.triggers j) && is_some (s.config_version j) ≡ false) (λ j. hlevel props) a.current b.current i;
  beside = is_prop→PathP (λ j. may_stand (s.standing j) (s.triggers j) ≡ true) (λ j. hlevel props) a.beside b.beside i;
}

-- the words of a Status are those of one want and flag, and one word of a state

abbrev want_at : ℕ → Want
want_at b = cond (nat_eq b 117) want.Unknown (cond (nat_eq b 105) want.Install (cond (nat_eq b 104) want.Hold (cond (nat_eq b 100) want.Deinstall want.Purge)))

want_back : (w : Want) → want_at (get_or (want_word w) 0 0) ≡ w
want_back want.Unknown = refl
want_back want.Install = refl
want_back want.Hold = refl
want_back want.Deinstall = refl
want_back want.Purge = refl

abbrev flag_at : ℕ → Flag
flag_at b = cond (nat_eq b 111) flag.Ok flag.Reinstreq

flag_back : (g : Flag) → flag_at (get_or (flag_word g) 0 0) ≡ g
flag_back flag.Ok = refl
flag_back flag.Reinstreq = refl

abbrev word_at : ℕ → ℕ → ℕ → StateWord
word_at b c d =
    cond (nat_eq b 110) word.NotInstalled (cond (nat_eq b 99) word.ConfigFiles (cond (nat_eq b 117) word.Unpacked (cond (nat_eq b 105) word.Installed
    (cond (nat_eq b 116) (cond (nat_eq d 97) word.TriggersAwaited word.TriggersPending) (cond (nat_eq c 105) word.HalfInstalled word.HalfConfigured)))))

word_back : (s : StateWord) → word_at (get_or (state_word s) 0 0) (get_or (state_word s) 5 0) (get_or (state_word s) 9 0) ≡ s
word_back word.NotInstalled = refl
word_back word.ConfigFiles = refl
word_back word.HalfInstalled = refl
word_back word.Unpacked = refl
word_back word.HalfConfigured = refl
word_back word.TriggersAwaited = refl
word_back word.TriggersPending = refl
word_back word.Installed = refl

installed_again : (pending awaited : Bool) → state_of (word_of state.Installed pending awaited) ≡ state.Installed
installed_again true true = refl
installed_again true false = refl
installed_again false true = refl
installed_again false false = refl

state_again : (s : State) (pending awaited : Bool) → state_of (word_of s pending awaited) ≡ s
state_again state.NotInstalled pending awaited = refl
state_again state.ConfigFiles pending awaited = refl
state_again state.HalfInstalled pending awaited = refl
state_again state.Unpacked pending awaited = refl
state_again state.HalfConfigured pending awaited = refl
state_again state.Installed pending awaited = installed_again pending awaited

pub state_from_word : (r : Record) → state_of (record_word r) ≡ r.state
state_from_word r = state_again r.state (is_some r.triggers.pending) (is_some r.triggers.awaited)

want_once : (w v : Want) (x y : List ℕ) → want_word w ++ 32 ∷ x ≡ want_word v ++ 32 ∷ y → w ≡ v
want_once w v x y e = sym (want_back w) ∙ ap (λ (l : List ℕ). want_at (get_or l 0 0)) (one_cut 32 (want_word w) (want_word v) x y e (want_lacks w) (want_lacks v)) ∙ want_back v

flag_once : (g h : Flag) (x y : List ℕ) → flag_word g ++ 32 ∷ x ≡ flag_word h ++ 32 ∷ y → g ≡ h
flag_once g h x y e = sym (flag_back g) ∙ ap (λ (l : List ℕ). flag_at (get_or l 0 0)) (one_cut 32 (flag_word g) (flag_word h) x y e (flag_lacks g) (flag_lacks h)) ∙ flag_back h

word_once : (s t : StateWord) → state_word s ≡ state_word t → s ≡ t
word_once s t e = sym (word_back s) ∙ ap (λ (l : List ℕ). word_at (get_or l 0 0) (get_or l 5 0) (get_or l 9 0)) e ∙ word_back t

pub status_once : (w v : Want) (g h : Flag) (s t : StateWord) → status_text w g s ≡ status_text v h t → (w ≡ v) × (g ≡ h) × (s ≡ t)
status_once w v g h s t e =
    let rest = behind_want w v (flag_word g ++ 32 ∷ state_word s) (flag_word h ++ 32 ∷ state_word t) e in (
      want_once w v (flag_word g ++ 32 ∷ state_word s) (flag_word h ++ 32 ∷ state_word t) e,
      flag_once g h (state_word s) (state_word t) rest,
      word_once s t (behind_flag g h (state_word s) (state_word t) rest),
    )

-- whether a word disagrees with what stands beside it

pub agree_by : (b : Bool) → (b ≡ false → ⊥) → b ≡ true
agree_by true off = refl
agree_by false off = absurd (off refl)

pub both_off : (b c : Bool) → b ≡ false → c ≡ false → not b && not c ≡ true
both_off false false first second = refl
both_off true c first second = absurd (cc first)
both_off false true first second = absurd (cc second)

pub off_by : (b c : Bool) → c ≡ true → not b && not c ≡ false
off_by true c e = refl
off_by false true e = refl
off_by false false e = absurd (cc e)

pub amiss_by : (fs : List Field) (w : Want) (g : Flag) (s : StateWord) (b : Bool) → Says (codes "status") fs (status_text w g s) → b ≡ disagrees s (is_some (field_in (codes "triggers-pending") fs)) (is_some (field_in (codes "triggers-awaited") fs)) → IsTrue b ↔ AreAmiss fs
amiss_by fs w g s b says e =
    let pending = is_some (field_in (codes "triggers-pending") fs) in
    let awaited = is_some (field_in (codes "triggers-awaited") fs) in (
      λ t. (w, g, s, says, sym e ∙ t),
      λ is. e ∙ ap (λ (q : StateWord). disagrees q pending awaited) (status_once w is.0 g is.1 s is.2 (says_same (codes "status") fs _ _ says is.3)).2 ∙ is.4,
    )

-- the words of a line are those of one entry

digest_once : (a b : List ℕ) → IsDigest a → IsDigest b → encode_lower a ≡ encode_lower b → a ≡ b
digest_once a b first second e =
    let both : Ok a ≡ Ok b = sym (read_written (encode_lower a) a first refl) ∙ read_written (encode_lower a) b second e in
    cc both

word_apart : (d : List ℕ) → IsDigest d → codes "newconffile" ≡ encode_lower d → ⊥
word_apart d is e = not_digest (sym e)
  where
    not_digest : encode_lower d ≡ codes "newconffile" → ⊥
    not_digest f = true≢false (sym (digest_written d is) ∙ ap is_digest_text f)

recorded_once : (a b : Option (List ℕ)) → ∥ IsDigestOrNone a ∥₁ → ∥ IsDigestOrNone b ∥₁ → digest_word a ≡ digest_word b → a ≡ b
recorded_once None None first second e = refl
recorded_once None (Some b) first second e = absurd (∥∥₁_elim second (hlevel props) (λ is. word_apart b is e))
recorded_once (Some a) None first second e = absurd (∥∥₁_elim first (hlevel props) (λ is. word_apart a is (sym e)))
recorded_once (Some a) (Some b) first second e =
    ap (λ (d : List ℕ). Some d) ((bytes_eq-Decides a b).0 (∥∥₁_elim first (hlevel props) (λ is. ∥∥₁_elim second (hlevel props) (λ also. (bytes_eq-Decides a b).1 (digest_once a b is also e)))))

entries_once : (xs ys : List ConffileEntry) → map words_of_conffile xs ≡ map words_of_conffile ys → xs ≡ ys
entries_once [] [] e = refl
entries_once [] (b ∷ ys) e = absurd (cc e)
entries_once (a ∷ xs) [] e = absurd (cc e)
entries_once (a ∷ xs) (b ∷ ys) e =
    let head : words_of_conffile a ≡ words_of_conffile b = cc e in
    let rest : map words_of_conffile xs ≡ map words_of_conffile ys = cc e in
    let same = same_entry a b (ap (λ (w : ConffileWords). w.path) head) (recorded_once a.digest b.digest a.digested b.digested (ap (λ (w : ConffileWords). w.digest) head)) (ap (λ (w : ConffileWords). w.obsolete) head)
    (ap (λ (w : ConffileWords). w.remove_on_upgrade) head) in
    λ i. same i ∷ entries_once xs ys rest i

pending_once : (xs ys : List PendingDigest) → map words_of_pending xs ≡ map words_of_pending ys → xs ≡ ys
pending_once [] [] e = refl
pending_once [] (b ∷ ys) e = absurd (cc e)
pending_once (a ∷ xs) [] e = absurd (cc e)
pending_once (a ∷ xs) (b ∷ ys) e =
    let head : words_of_pending a ≡ words_of_pending b = cc e in
    let rest : map words_of_pending xs ≡ map words_of_pending ys = cc e in
    let digest = (bytes_eq-Decides a.digest b.digest).0 (∥∥₁_elim a.digested (hlevel props) (λ is. ∥∥₁_elim b.digested (hlevel props) (λ also.
    (bytes_eq-Decides a.digest b.digest).1 (digest_once a.digest b.digest is also (ap (λ (w : PendingWords). w.digest) head))))) in
    let same = same_pending a b (ap (λ (w : PendingWords). w.path) head) digest in
    λ i. same i ∷ pending_once xs ys rest i

-- a paragraph says one record

pub record_once : (fs : List Field) (r s : Record) → IsRecordOf fs r → IsRecordOf fs s → r ≡ s
record_once fs r s first second =
    let status = status_once r.want s.want r.flag s.flag (record_word r) (record_word s) (says_same (codes "status") fs _ _ first.status second.status) in
    let state = sym (state_from_word r) ∙ ap state_of status.2 ∙ state_from_word s in
    same_record r s record {
      name = says_same (codes "package") fs r.name s.name first.name second.name;
      wanted = status.0;
      flagged = status.1;
      standing = state;
      version = says_same (codes "version") fs r.version s.version first.version second.version;
      config_version = first.config_version ∙ ap (λ (q : State). earlier_version q fs) state ∙ sym second.config_version;
      removed_since = first.removed_since ∙ sym second.removed_since;
      conffiles = entries_once r.conffiles s.conffiles (first.conffiles ∙ sym second.conffiles);
      pending = pending_once r.pending s.pending (first.pending ∙ sym second.pending);
      triggers = same_triggers r.triggers s.triggers (first.triggers_pending ∙ sym second.triggers_pending) (first.triggers_awaited ∙ sym second.triggers_awaited);
      fields = first.others ∙ sym second.others;
    }
