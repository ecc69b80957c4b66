-- The words of the field `Status`: want, flag and state. An installed package with triggers has a word of its own for its
-- state (deb-triggers).
use Rattle.std.specs.Prelude.{◌≡◌, ◌∷◌, ◌++◌, ◌&&◌, ℕ, Bool, true, false, not, cond, List, codes}
use Rattle.status_records.specs.declared.words.Want.{Want}
use Rattle.status_records.specs.declared.words.Want.TheVariants as want
use Rattle.status_records.specs.declared.words.Flag.{Flag}
use Rattle.status_records.specs.declared.words.Flag.TheVariants as flag
use Rattle.status_records.specs.declared.words.State.{State}
use Rattle.status_records.specs.declared.words.State.TheVariants as state
use Rattle.status_records.specs.declared.words.StateWord.{StateWord}
use Rattle.status_records.specs.declared.words.StateWord.TheVariants as word

abbrev pub want_word : Want → List ℕ
want_word want.Unknown = codes "unknown"
want_word want.Install = codes "install"
want_word want.Hold = codes "hold"
want_word want.Deinstall = codes "deinstall"
want_word want.Purge = codes "purge"

abbrev pub flag_word : Flag → List ℕ
flag_word flag.Ok = codes "ok"
flag_word flag.Reinstreq = codes "reinstreq"

abbrev pub state_word : StateWord → List ℕ
state_word word.NotInstalled = codes "not-installed"
state_word word.ConfigFiles = codes "config-files"
state_word word.HalfInstalled = codes "half-installed"
state_word word.Unpacked = codes "unpacked"
state_word word.HalfConfigured = codes "half-configured"
state_word word.TriggersAwaited = codes "triggers-awaited"
state_word word.TriggersPending = codes "triggers-pending"
state_word word.Installed = codes "installed"

-- the word of a state, by whether triggers are pending and awaited
abbrev pub word_of : State → Bool → Bool → StateWord
word_of state.NotInstalled pending awaited = word.NotInstalled
word_of state.ConfigFiles pending awaited = word.ConfigFiles
word_of state.HalfInstalled pending awaited = word.HalfInstalled
word_of state.Unpacked pending awaited = word.Unpacked
word_of state.HalfConfigured pending awaited = word.HalfConfigured
word_of state.Installed pending awaited = cond awaited word.TriggersAwaited (cond pending word.TriggersPending word.Installed)

-- the state that a word tells
abbrev pub state_of : StateWord → State
state_of word.NotInstalled = state.NotInstalled
state_of word.ConfigFiles = state.ConfigFiles
state_of word.HalfInstalled = state.HalfInstalled
state_of word.Unpacked = state.Unpacked
state_of word.HalfConfigured = state.HalfConfigured
state_of word.TriggersAwaited = state.Installed
state_of word.TriggersPending = state.Installed
state_of word.Installed = state.Installed

-- The words beside which triggers may be pending, and be awaited: `triggers-pending` stands exactly where some are pending
-- and none is awaited, `triggers-awaited` exactly where an installed package awaits some. A package whose work was cut off, or
-- that isn't configured yet, may await some too.
abbrev pub agrees : StateWord → Bool → Bool → Bool
agrees word.NotInstalled pending awaited = not pending && not awaited
agrees word.ConfigFiles pending awaited = not pending && not awaited
agrees word.HalfInstalled pending awaited = not pending
agrees word.Unpacked pending awaited = not pending
agrees word.HalfConfigured pending awaited = not pending
agrees word.TriggersAwaited pending awaited = awaited
agrees word.TriggersPending pending awaited = pending && not awaited
agrees word.Installed pending awaited = not pending && not awaited

abbrev pub is_not_installed : State → Bool
is_not_installed state.NotInstalled = true
is_not_installed state.ConfigFiles = false
is_not_installed state.HalfInstalled = false
is_not_installed state.Unpacked = false
is_not_installed state.HalfConfigured = false
is_not_installed state.Installed = false

-- They don't agree; of a package that is gone nothing but its name is looked at.
abbrev pub disagrees : StateWord → Bool → Bool → Bool
disagrees word pending awaited = not (is_not_installed (state_of word)) && not (agrees word pending awaited)

abbrev pub is_installed : State → Bool
is_installed state.NotInstalled = false
is_installed state.ConfigFiles = false
is_installed state.HalfInstalled = false
is_installed state.Unpacked = false
is_installed state.HalfConfigured = false
is_installed state.Installed = true

-- the value of the field: three words with one blank between two
abbrev pub status_text : Want → Flag → StateWord → List ℕ
status_text want flag word = want_word want ++ 32 ∷ (flag_word flag ++ 32 ∷ state_word word)

abbrev pub IsStatusText : List ℕ → Type 0
IsStatusText text = (want : Want) × (flag : Flag) × (word : StateWord) × (text ≡ status_text want flag word)
