-- What is missing where a paragraph isn't read, and what it says where it is.
use Rattle.std.proofs.Common.{◌≡◌, inl, inr, ℕ, Bool, true, false, not, ◌&&◌, cond, Option, None, Some, List, [], ◌∷◌, refl, sym, ap, subst, ◌∙◌, codes}
use Rattle.std.specs.Prelude.{is_some}
use Rattle.std.specs.List.{AllByRecursion}
use Rattle.std.specs.Str.{bytes_eq}
use Rattle.std.proofs.lemmas.Bool.{false≢true}
use Rattle.std.proofs.lemmas.Slice.Eq.{bytes_eq-Decides}
use Rattle.control_fields.specs.Names.{lower}
use Rattle.control_fields.specs.declared.field.Field.{Field}
use Rattle.version_order.specs.Versions.{IsVersion}
use Rattle.status_records.specs.declared.record.Record.{Record}
use Rattle.status_records.specs.declared.words.Want.{Want}
use Rattle.status_records.specs.declared.words.Flag.{Flag}
use Rattle.status_records.specs.declared.words.State.{State}
use Rattle.status_records.specs.declared.words.StateWord.{StateWord}
use Rattle.status_records.specs.declared.words.StateWord.TheVariants as word
use Rattle.status_records.specs.Words.{is_installed, is_not_installed, status_text, word_of, state_of, agrees}
use Rattle.status_records.specs.Fields.{recorded_fields}
use Rattle.status_records.specs.Values.{kind_of, IsReadableAs, IsReadable}
use Rattle.status_records.specs.Paragraphs.{field_in, line_of, record_word, Says, IsNamed, is_configured_in, earlier_version, conffile_lines, pending_lines, AreConffilesOf, ArePendingOf, SaysEntry}
use Rattle.status_records.specs.Damage.{IsMissing}
use Rattle.status_records.specs.Triggers.{is_configured, may_stand}
use Rattle.status_records.specs.declared.triggers.Triggers.{Triggers}
use Rattle.status_records.proofs.Parsing.{gone_state, is_gone_state}
use Rattle.status_records.proofs.Sayings.{says_same}

abbrev AreReadable : List Field → Type 0
AreReadable fs = AllByRecursion IsReadable fs

found_by : (text : List ℕ) (g : Field) (rest : Option Field) (f : Field) (b : Bool) → bytes_eq (lower g.name) text ≡ b → cond b (Some g) rest ≡ Some f → IsReadable g → (rest ≡ Some f → (lower f.name ≡ text) × IsReadable f) → (lower f.name ≡ text) × IsReadable f
found_by text g rest f true e is good later =
    let same : g ≡ f = cc is in
    (ap (λ (h : Field). lower h.name) (sym same) ∙ (bytes_eq-Decides (lower g.name) text).0 e, subst IsReadable same good)
found_by text g rest f false e is good later = later is

found_readable : (text : List ℕ) (fs : List Field) (f : Field) → AreReadable fs → field_in text fs ≡ Some f → (lower f.name ≡ text) × IsReadable f
found_readable text [] f all is = absurd (cc is)
found_readable text (g ∷ fs) f all is = found_by text g (field_in text fs) f (bytes_eq (lower g.name) text) refl is all.0 (λ later. found_readable text fs f all.1 later)

missing_by : (o : Option Field) → ((f : Field) → o ≡ Some f → ⊥) → o ≡ None
missing_by None none = refl
missing_by (Some f) none = absurd (none f refl)

missing_from : (text : List ℕ) (fs : List Field) → AreReadable fs → ((f : Field) → field_in text fs ≡ Some f → lower f.name ≡ text → IsReadable f → ⊥) → field_in text fs ≡ None
missing_from text fs all none = missing_by (field_in text fs) (λ f is. let k = found_readable text fs f all is in none f is k.0 k.1)

value_is : (f : Field) (text : List ℕ) → lower f.name ≡ text → IsReadable f → IsReadableAs (kind_of text) f
value_is f text named good = subst (λ n. IsReadableAs (kind_of n) f) named good

pub missing_name : (fs : List Field) → ((name : List ℕ) → IsNamed fs name → ⊥) → AreReadable fs → IsMissing fs
missing_name fs none all =
    inl (missing_from (codes "package") fs all (λ f is named good.
    let value = value_is f (codes "package") named good in
    none f.first (record { field = f; there = is; value_is = refl; one_line = value.0 }, value.1)))

pub missing_status : (fs : List Field) → ((w : Want) (g : Flag) (s : StateWord) → Says (codes "status") fs (status_text w g s) → ⊥) → AreReadable fs → IsMissing fs
missing_status fs none all =
    inr (inl (missing_from (codes "status") fs all (λ f is named good.
    let value = value_is f (codes "status") named good in
    none value.1.0 value.1.1 value.1.2 (record { field = f; there = is; value_is = value.1.3; one_line = value.0 }))))

pub missing_version : (fs : List Field) (w : Want) (g : Flag) (s : StateWord) → Says (codes "status") fs (status_text w g s) → is_not_installed (state_of s) ≡ false → ((v : List ℕ) → Says (codes "version") fs v × IsVersion v → ⊥) → AreReadable fs → IsMissing fs
missing_version fs w g s says there none all =
    inr (inr (
      missing_from (codes "version") fs all (λ f is named good.
          let value = value_is f (codes "version") named good in
          none f.first (record { field = f; there = is; value_is = refl; one_line = value.0 }, value.1)),
      λ gone. false≢true (sym there ∙ gone_state w gone.0 g gone.1 s (says_same (codes "status") fs (status_text w g s) (status_text gone.0 gone.1 word.NotInstalled) says gone.2)),
    ))

-- what is read

-- what is read of a paragraph's record, part by part
pub record IsReadOf (fs : List Field) (r : Record) (name v : List ℕ) (w : Want) (g : Flag) (s : StateWord) : Type 0 where
  pub name_is : r.name ≡ name
  pub want_is : r.want ≡ w
  pub flag_is : r.flag ≡ g
  pub state_is : r.state ≡ state_of s
  pub version_is : r.version ≡ v
  pub config_is : r.config_version ≡ earlier_version (state_of s) fs
  pub removed_is : r.removed_since ≡ is_some (field_in (codes "removed-since") fs)
  pub conffiles_are : AreConffilesOf (conffile_lines fs) r.conffiles
  pub pending_are : ArePendingOf (pending_lines fs) r.pending
  pub triggers_pending : r.triggers.pending ≡ line_of (field_in (codes "triggers-pending") fs)
  pub triggers_awaited : r.triggers.awaited ≡ line_of (field_in (codes "triggers-awaited") fs)
  pub fields_are : r.fields ≡ recorded_fields fs

-- the word of a state beside what agrees with it
pub word_again : (s : StateWord) (pending awaited : Bool) → agrees s pending awaited ≡ true → word_of (state_of s) pending awaited ≡ s
word_again word.NotInstalled pending awaited e = refl
word_again word.ConfigFiles pending awaited e = refl
word_again word.HalfInstalled pending awaited e = refl
word_again word.Unpacked pending awaited e = refl
word_again word.HalfConfigured pending awaited e = refl
word_again word.TriggersAwaited pending true e = refl
word_again word.TriggersAwaited pending false e = absurd (cc e)
word_again word.TriggersPending true false e = refl
word_again word.TriggersPending true true e = absurd (cc e)
word_again word.TriggersPending false awaited e = absurd (cc e)
word_again word.Installed false false e = refl
word_again word.Installed false true e = absurd (cc e)
word_again word.Installed true awaited e = absurd (cc e)

pub some_line : (o : Option Field) → is_some (line_of o) ≡ is_some o
some_line None = refl
some_line (Some f) = refl

pub stands_beside : (s : StateWord) (state : State) (t : Triggers) (fs : List Field) → state ≡ state_of s → t.pending ≡ line_of (field_in (codes "triggers-pending") fs) → t.awaited ≡ line_of (field_in (codes "triggers-awaited") fs)
    → agrees s (is_some (field_in (codes "triggers-pending") fs)) (is_some (field_in (codes "triggers-awaited") fs)) ≡ true → may_stand state t ≡ true
stands_beside s state t fs is pending awaited agree =
    let found = is_some (field_in (codes "triggers-pending") fs) in
    let also = is_some (field_in (codes "triggers-awaited") fs) in
    let p : is_some t.pending ≡ found = ap is_some pending ∙ some_line (field_in (codes "triggers-pending") fs) in
    let a : is_some t.awaited ≡ also = ap is_some awaited ∙ some_line (field_in (codes "triggers-awaited") fs) in
    (λ i. agrees (word_of (is i) (p i) (a i)) (p i) (a i)) ∙ ap (λ (q : StateWord). agrees q found also) (word_again s found also agree) ∙ agree

none_where : (b : Bool) (o : Option (List ℕ)) → b && is_some (cond b None o) ≡ false
none_where true o = refl
none_where false o = refl

pub current_in : (state : State) (t : Triggers) (config : Option (List ℕ)) (fs : List Field) → config ≡ earlier_version state fs → t.awaited ≡ line_of (field_in (codes "triggers-awaited") fs) → is_configured state t && is_some config ≡ false
current_in state t config fs is awaited =
    let a : is_some t.awaited ≡ is_some (field_in (codes "triggers-awaited") fs) = ap is_some awaited ∙ some_line (field_in (codes "triggers-awaited") fs) in
    (λ i. (is_installed state && not (a i)) && is_some (is i)) ∙ none_where (is_configured_in state fs) (line_of (field_in (codes "config-version") fs))

pub said_gone : (fs : List Field) (package_name name : List ℕ) (w : Want) (g : Flag) (s : StateWord) → IsNamed fs name → Says (codes "status") fs (status_text w g s) → is_not_installed (state_of s) ≡ true → package_name ≡ name → SaysEntry fs package_name []
said_gone fs package_name name w g s named says gone same = record {
  named = subst (IsNamed fs) (sym same) named;
  stands_for = inl ((w, g, subst (λ (q : StateWord). Says (codes "status") fs (status_text w g q)) (is_gone_state s gone) says), refl);
}

word_read : (r : Record) (s : StateWord) (fs : List Field) → r.state ≡ state_of s → r.triggers.pending ≡ line_of (field_in (codes "triggers-pending") fs) → r.triggers.awaited ≡ line_of (field_in (codes "triggers-awaited") fs)
    → agrees s (is_some (field_in (codes "triggers-pending") fs)) (is_some (field_in (codes "triggers-awaited") fs)) ≡ true → record_word r ≡ s
word_read r s fs state pending awaited agree =
    let p = ap is_some pending ∙ some_line (field_in (codes "triggers-pending") fs) in
    let a = ap is_some awaited ∙ some_line (field_in (codes "triggers-awaited") fs) in
    (λ i. word_of (state i) (p i) (a i)) ∙ word_again s (is_some (field_in (codes "triggers-pending") fs)) (is_some (field_in (codes "triggers-awaited") fs)) agree

pub said_record : (fs : List Field) (r : Record) (package_name name v : List ℕ) (w : Want) (g : Flag) (s : StateWord) → IsNamed fs name → Says (codes "status") fs (status_text w g s) → Says (codes "version") fs v → is_not_installed (state_of s) ≡ false → package_name ≡ name
    → agrees s (is_some (field_in (codes "triggers-pending") fs)) (is_some (field_in (codes "triggers-awaited") fs)) ≡ true → IsReadOf fs r name v w g s → SaysEntry fs package_name (r ∷ [])
said_record fs r package_name name v w g s named status version there same agree is = record {
  named = subst (IsNamed fs) (sym same) named;
  stands_for = inr (
    r,
    record {
      name = subst (Says (codes "package") fs) (sym is.name_is) named.0;
      status = subst (Says (codes "status") fs) (λ i. status_text (sym is.want_is i) (sym is.flag_is i) (sym (word_read r s fs is.state_is is.triggers_pending is.triggers_awaited agree) i)) status;
      version = subst (Says (codes "version") fs) (sym is.version_is) version;
      config_version = is.config_is ∙ ap (λ (q : State). earlier_version q fs) (sym is.state_is);
      removed_since = is.removed_is;
      conffiles = is.conffiles_are;
      pending = is.pending_are;
      triggers_pending = is.triggers_pending;
      triggers_awaited = is.triggers_awaited;
      others = is.fields_are;
      stands = ap is_not_installed is.state_is ∙ there;
    },
    refl,
  );
}
