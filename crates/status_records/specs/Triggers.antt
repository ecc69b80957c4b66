-- Triggers that a package is to process, or that others are to process for it (deb-triggers).
use Rattle.std.specs.Prelude.{◌≡◌, ◌&&◌, not, ◌||◌, Bool, true, false, None, is_some}
use Rattle.std.proofs.Common.{refl}
use Rattle.status_records.specs.declared.triggers.Triggers.{Triggers}
use Rattle.status_records.specs.declared.words.State.{State}
use Rattle.status_records.specs.declared.words.State.TheVariants.{NotInstalled, ConfigFiles, HalfInstalled, Unpacked, HalfConfigured, Installed}
use Rattle.status_records.specs.Words.{word_of, agrees, is_installed}

abbrev pub no_triggers : Triggers
no_triggers = record { pending = None; awaited = None }

-- some are pending or awaited
abbrev pub has_triggers : Triggers → Bool
has_triggers t = is_some t.pending || is_some t.awaited

-- Installed, and awaiting none: it meets what others need, and its version is the one last configured. Of one that awaits some
-- dpkg keeps the version that was configured before.
abbrev pub is_configured : State → Triggers → Bool
is_configured state t = is_installed state && not (is_some t.awaited)

-- What is left of them in a state: a package that isn't installed has none to process, since configuring it does what they
-- would; what it awaits goes with its files.
abbrev pub triggers_beside : State → Triggers → Triggers
triggers_beside NotInstalled t = no_triggers
triggers_beside ConfigFiles t = no_triggers
triggers_beside HalfInstalled t = record { pending = None; awaited = t.awaited }
triggers_beside Unpacked t = record { pending = None; awaited = t.awaited }
triggers_beside HalfConfigured t = record { pending = None; awaited = t.awaited }
triggers_beside Installed t = t

-- they may stand beside the state
abbrev pub may_stand : State → Triggers → Bool
may_stand state t = agrees (word_of state (is_some t.pending) (is_some t.awaited)) (is_some t.pending) (is_some t.awaited)

any_word_agrees : (pending awaited : Bool) → agrees (word_of Installed pending awaited) pending awaited ≡ true
any_word_agrees true true = refl
any_word_agrees true false = refl
any_word_agrees false true = refl
any_word_agrees false false = refl

pub left_may_stand : (state : State) (t : Triggers) → may_stand state (triggers_beside state t) ≡ true
left_may_stand NotInstalled t = refl
left_may_stand ConfigFiles t = refl
left_may_stand HalfInstalled t = refl
left_may_stand Unpacked t = refl
left_may_stand HalfConfigured t = refl
left_may_stand Installed t = any_word_agrees (is_some t.pending) (is_some t.awaited)

pub none_may_stand : (state : State) → may_stand state no_triggers ≡ true
none_may_stand NotInstalled = refl
none_may_stand ConfigFiles = refl
none_may_stand HalfInstalled = refl
none_may_stand Unpacked = refl
none_may_stand HalfConfigured = refl
none_may_stand Installed = refl
