-- A Status is read in one way.
use Rattle.std.proofs.Common.{◌≡◌, ◌≢◌, ℕ, true, Option, None, Some, Bor, List, ◌∷◌, ◌++◌, get_or, refl, sym, ap, ◌∙◌, arith}
use Rattle.std.specs.Prelude.{IfSome, IfNone, MatchOption}
use Rattle.std.proofs.lemmas.List.{append_cancel_left}
use Rattle.control_fields.specs.Names.{Lacks}
use Rattle.control_fields.proofs.Parts.{one_cut}
use Rattle.status_records.specs.declared.words.Want.{Want}
use Rattle.status_records.specs.declared.words.Want.TheVariants as want
use Rattle.status_records.specs.declared.words.Flag.{Flag}
use Rattle.status_records.specs.declared.words.Flag.TheVariants as flag
use Rattle.status_records.specs.declared.words.StateWord.{StateWord}
use Rattle.status_records.specs.declared.words.StateWord.TheVariants as word
use Rattle.status_records.specs.Words.{want_word, flag_word, state_word, state_of, is_not_installed, status_text, IsStatusText}
use Rattle.status_records.proofs.Lines.{lacks_blank}

pub behind : (a b x y : List ℕ) → Lacks a 32 → Lacks b 32 → a ++ 32 ∷ x ≡ b ++ 32 ∷ y → x ≡ y
behind a b x y p q e =
    let same = one_cut 32 a b x y e p q in
    let both : 32 ∷ x ≡ 32 ∷ y = append_cancel_left a (32 ∷ x) (32 ∷ y) (e ∙ ap (λ (l : List ℕ). l ++ 32 ∷ y) (sym same)) in
    cc both

pub want_lacks : (w : Want) → Lacks (want_word w) 32
want_lacks want.Unknown = lacks_blank (want_word want.Unknown) refl
want_lacks want.Install = lacks_blank (want_word want.Install) refl
want_lacks want.Hold = lacks_blank (want_word want.Hold) refl
want_lacks want.Deinstall = lacks_blank (want_word want.Deinstall) refl
want_lacks want.Purge = lacks_blank (want_word want.Purge) refl

pub flag_lacks : (g : Flag) → Lacks (flag_word g) 32
flag_lacks flag.Ok = lacks_blank (flag_word flag.Ok) refl
flag_lacks flag.Reinstreq = lacks_blank (flag_word flag.Reinstreq) refl

pub behind_want : (w v : Want) (x y : List ℕ) → want_word w ++ 32 ∷ x ≡ want_word v ++ 32 ∷ y → x ≡ y
behind_want w v x y e = behind (want_word w) (want_word v) x y (want_lacks w) (want_lacks v) e

pub behind_flag : (g h : Flag) (x y : List ℕ) → flag_word g ++ 32 ∷ x ≡ flag_word h ++ 32 ∷ y → x ≡ y
behind_flag g h x y e = behind (flag_word g) (flag_word h) x y (flag_lacks g) (flag_lacks h) e

-- where a word can't be read, no Status is

pub no_want : (bytes : List ℕ) → ((w : Want) (rest : List ℕ) → bytes ≢ want_word w ++ 32 ∷ rest) → IsStatusText bytes → ⊥
no_want bytes none is = none is.0 (flag_word is.1 ++ 32 ∷ state_word is.2) is.3

pub no_flag : (bytes rest : List ℕ) (w : Want) → bytes ≡ want_word w ++ 32 ∷ rest → ((g : Flag) (behind : List ℕ) → rest ≢ flag_word g ++ 32 ∷ behind) → IsStatusText bytes → ⊥
no_flag bytes rest w e none is = none is.1 (state_word is.2) (behind_want w is.0 rest (flag_word is.1 ++ 32 ∷ state_word is.2) (sym e ∙ is.3))

pub no_state : (bytes rest last : List ℕ) (w : Want) (g : Flag) → bytes ≡ want_word w ++ 32 ∷ rest → rest ≡ flag_word g ++ 32 ∷ last → ((s : StateWord) → last ≢ state_word s) → IsStatusText bytes → ⊥
no_state bytes rest last w g e f none is =
    none is.2 (behind_flag g is.1 last (state_word is.2) (sym f ∙ behind_want w is.0 rest (flag_word is.1 ++ 32 ∷ state_word is.2) (sym e ∙ is.3)))

begins_n : (s : StateWord) → get_or (state_word s) 0 0 ≡ 110 → is_not_installed (state_of s) ≡ true
begins_n word.NotInstalled e = refl
begins_n word.ConfigFiles e = absurd (omega (arith, e))
begins_n word.HalfInstalled e = absurd (omega (arith, e))
begins_n word.Unpacked e = absurd (omega (arith, e))
begins_n word.HalfConfigured e = absurd (omega (arith, e))
begins_n word.TriggersAwaited e = absurd (omega (arith, e))
begins_n word.TriggersPending e = absurd (omega (arith, e))
begins_n word.Installed e = absurd (omega (arith, e))

-- a Status with the word not-installed has that state
pub gone_state : (w v : Want) (g h : Flag) (s : StateWord) → status_text w g s ≡ status_text v h word.NotInstalled → is_not_installed (state_of s) ≡ true
gone_state w v g h s e =
    begins_n s (ap (λ (l : List ℕ). get_or l 0 0) (behind_flag g h (state_word s) (state_word word.NotInstalled) (behind_want w v (flag_word g ++ 32 ∷ state_word s) (flag_word h ++ 32 ∷ state_word word.NotInstalled) e)))

pub is_gone_state : (s : StateWord) → is_not_installed (state_of s) ≡ true → s ≡ word.NotInstalled
is_gone_state word.NotInstalled e = refl
is_gone_state word.ConfigFiles e = absurd (cc e)
is_gone_state word.HalfInstalled e = absurd (cc e)
is_gone_state word.Unpacked e = absurd (cc e)
is_gone_state word.HalfConfigured e = absurd (cc e)
is_gone_state word.TriggersAwaited e = absurd (cc e)
is_gone_state word.TriggersPending e = absurd (cc e)
is_gone_state word.Installed e = absurd (cc e)

-- what stands behind a text and a blank

pub prefix_some : (r : Option (Bor (List ℕ))) (bytes t u : List ℕ) → t ≡ u → MatchOption r ((rest : List ℕ) → bytes ≢ t ++ rest) (λ x. bytes ≡ t ++ x.now) → IfSome r (λ x. bytes ≡ u ++ x.now)
prefix_some None bytes t u e is = tt
prefix_some (Some x) bytes t u e is = is ∙ ap (λ (l : List ℕ). l ++ x.now) e

pub prefix_none : (r : Option (Bor (List ℕ))) (bytes t u : List ℕ) → t ≡ u → MatchOption r ((rest : List ℕ) → bytes ≢ t ++ rest) (λ x. bytes ≡ t ++ x.now) → IfNone r ((rest : List ℕ) → bytes ≢ u ++ rest)
prefix_none None bytes t u e is = λ rest same. is rest (same ∙ ap (λ (l : List ℕ). l ++ rest) (sym e))
prefix_none (Some x) bytes t u e is = tt

pub blank_none : (r : Option (Bor (List ℕ))) (bytes word front : List ℕ) → bytes ≡ word ++ front → IfNone r ((rest : List ℕ) → front ≢ 32 ∷ rest) → IfNone r ((rest : List ℕ) → bytes ≢ word ++ 32 ∷ rest)
blank_none None bytes word front is none = λ rest e. none rest (append_cancel_left word front (32 ∷ rest) (sym is ∙ e))
blank_none (Some x) bytes word front is none = tt
