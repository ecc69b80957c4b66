-- What the report on an unpack has to do with the words for the root and the trees.
use Rattle.std.specs.Prelude.{◌≡◌, ◌++◌, ℕ, List, [], ◌∷◌, true, MatchOption, Option, Some, None}
use Rattle.host_core.specs.Host.{State}
use Rattle.diversions.specs.Ways.{Ways}
use Rattle.file_lists.specs.declared.paths.PackageList.{PackageList}
use Rattle.status_records.specs.declared.record.Record.{Record}
use Rattle.configure_run.specs.declared.options.ConfigureOptions.{ConfigureOptions}
use Rattle.unit_reports.specs.Held.{Held}
use Rattle.unit_reports.specs.Units.{CountsLast, TellsCalls}
use Rattle.unit_reports.specs.declared.report.Report.{Report}
use Rattle.unit_reports.specs.declared.report.Unit.{Unit as AUnit}
use Rattle.dpkg_session.specs.Installs.{HasInstalledThrough, TellsBoth, last_of}
use Rattle.dpkg_session.specs.Run.{HasRunThrough}
use Rattle.dpkg_session.specs.declared.installing.Installed.{Installed}
use Rattle.dpkg_session.specs.declared.report.Candidate.{Candidate}
use Rattle.unpack_relations.specs.declared.options.UnpackOptions.{UnpackOptions}
use Rattle.command_words.specs.declared.unpacking.Unpacking.{Unpacking}
use Rattle.command_line.specs.Endings.{HasEnded}
use Rattle.command_line.specs.Order.{AreRoundsOf}
use Rattle.command_line.specs.Printing.{IsDoneTold, last_in, last_of_round, units_of}
use Rattle.command_line.specs.Reading.{AreReadFor}
use Rattle.command_line.specs.Roots.{Around, IsOpenedOn, held_anew}
use Rattle.command_line.specs.Triggering.{AreTriggersTold, HasTriggeredBehind, IsAround, last_behind, touched_of}
use Rattle.command_line.specs.declared.ending.Ended.{Ended}
use Rattle.command_line.specs.declared.triggering.Known.{Known}
use Rattle.command_line.specs.declared.triggering.Triggering.{Triggering}
use Rattle.command_line.specs.declared.unpacking.Done.{Done}
use Rattle.command_line.specs.declared.unpacking.Done.TheVariants as done

-- what unpacks are allowed to do to other packages, and whether relations are ignored
abbrev pub allowed_of : Unpacking → UnpackOptions
allowed_of u = record { auto_deconfigure = u.auto_deconfigure; ignore_depends = u.forced.depends }

-- The units are a run of the candidates, over trees of which the others are left, from what was held before. The calls that are
-- told are the host's own list.
pub record HasRunAll (allowed : UnpackOptions) (done : Report) (candidates : List Candidate) (left : List (List ℕ)) (before after : Held) (s end : State) : Type 0 where
  pub run : HasRunThrough allowed candidates left done before after s end
  pub counts : CountsLast s end done.last
  pub told : TellsCalls s end done

-- the same of the units of an install: those of the unpacks, and then those of what is configured
pub record HasInstalledAll (allowed : UnpackOptions) (options : ConfigureOptions) (done : Installed) (candidates : List Candidate) (left : List (List ℕ)) (before after : Held) (s end : State) : Type 0 where
  pub install : HasInstalledThrough allowed candidates left options done.unpacked done.configured before after s end
  pub counts : CountsLast s end (last_of done.unpacked.last done.configured.last)
  pub told : TellsBoth s end done.unpacked done.configured

-- the trees of an unpack: this came of some candidates, which are what was read, one after another, for the first of the words of the
-- trees, from what was held before to what is held then; their paths have the owners that the words ask for, and packages were
-- deconfigured in their favour only where the words have the flag for it
pub record HasUnpackedTrees (a : Around) (u : Unpacking) (done : Report) (before after : Held) (s end : State) : Type 0 where
  pub candidates : List Candidate
  pub left : List (List ℕ)
  pub read : AreReadFor a u.owners [] u.trees candidates left
  pub all : HasRunAll (allowed_of u) done candidates left before after s end

-- the same of the trees of one round of an install, behind the words of earlier rounds
pub record HasInstalledRound (a : Around) (u : Unpacking) (options : ConfigureOptions) (earlier words : List (List ℕ)) (done : Installed) (before after : Held) (s end : State) : Type 0 where
  pub candidates : List Candidate
  pub left : List (List ℕ)
  pub read : AreReadFor a u.owners earlier words candidates left
  pub all : HasInstalledAll (allowed_of u) options done candidates left before after s end

-- Round after round, each from what the one before it left; none is begun behind one of which a unit was broken off.
abbrev pub HasInstalledRounds : Around → Unpacking → ConfigureOptions → List (List ℕ) → List (List (List ℕ)) → List Installed → Held → Held → State → State → Type 0
HasInstalledRounds a u options earlier [] [] before after s end = (end ≡ s) × (after ≡ before)
HasInstalledRounds a u options earlier [] (came ∷ more) before after s end = ⊥
HasInstalledRounds a u options earlier (words ∷ rounds) [] before after s end = ⊥
HasInstalledRounds a u options earlier (words ∷ rounds) (came ∷ more) before after s end =
    (mid : Held) × (m : State) × HasInstalledRound a u options earlier words came before mid s m
    × MatchOption (last_of_round came) (HasInstalledRounds a u options (earlier ++ words) rounds more mid after m end) (λ broken. (more ≡ []) × (end ≡ m) × (after ≡ mid))

-- the trees of an install, in the rounds in which they are taken
pub record HasInstalledTrees (a : Around) (u : Unpacking) (options : ConfigureOptions) (done : List Installed) (before after : Held) (s end : State) : Type 0 where
  pub rounds : List (List (List ℕ))
  pub order : AreRoundsOf a u before.records.records rounds
  pub runs : HasInstalledRounds a u options [] rounds done before after s end

-- what came of trees, whose packages are configured too where it is told how
abbrev pub HasRunTrees : Around → Option ConfigureOptions → Unpacking → Done → Held → Held → State → State → Type 0
HasRunTrees a None u (done.Unpacked report) before after s end = HasUnpackedTrees a u report before after s end
HasRunTrees a None u (done.Installed rounds) before after s end = ⊥
HasRunTrees a (Some options) u (done.Unpacked report) before after s end = ⊥
HasRunTrees a (Some options) u (done.Installed rounds) before after s end = HasInstalledTrees a u options rounds.items before after s end

-- what is done of triggers around trees: files count
abbrev pub triggering_for : Unpacking → Triggering
triggering_for u = record { by_files = true; process = u.triggers }

-- the units with that around them, and the end of the command behind all units
pub record HasRunToEnd (a : Around) (options : Option ConfigureOptions) (u : Unpacking) (ended : Ended Done) (before : Held) (s end : State) : Type 0 where
  pub after : Held
  pub mid : State
  pub ran : IsAround (triggering_for u) (units_of ended.done) (last_in ended.done) (HasRunTrees a options u ended.done before) ended.triggered before after s mid
  pub ending : HasEnded (last_behind (last_in ended.done) ended.triggered) after.records ended.left mid end

-- the same of a part of it, behind what is done of triggers before the units
pub record HasRunSince (a : Around) (known : Known) (options : Option ConfigureOptions) (u : Unpacking) (ended : Ended Done) (before : Held) (s end : State) : Type 0 where
  pub mid : Held
  pub done : State
  pub ran : HasRunTrees a options u ended.done before mid s done
  pub after : Held
  pub behind : State
  pub triggered : HasTriggeredBehind (triggering_for u) known (last_in ended.done) (touched_of (units_of ended.done)) ended.triggered mid after done behind
  pub ending : HasEnded (last_behind (last_in ended.done) ended.triggered) after.records ended.left behind end

-- the units of trees were told, and behind them those of what was noted and processed
abbrev pub IsAllTold : {W : Type 0} → (W → AUnit → State → W → Type 0) → W → Ended Done → W → Type 0
IsAllTold {W} tells old ended new = (mid : W) × IsDoneTold tells old ended.done mid × AreTriggersTold tells mid ended.triggered new

-- the same, from what the administration that was opened on a host holds, to the state in which this host was given back
pub record IsUnpackedOn (a : Around) (begun : State) (options : Option ConfigureOptions) (u : Unpacking) (ended : Ended Done) : Type 0 where
  pub table : List Record
  pub lists : List PackageList
  pub ways : Ways
  pub state : State
  pub opened : IsOpenedOn begun state table lists ways
  pub end : State
  pub given : a.left end
  pub ran : HasRunToEnd a options u ended (held_anew table lists ways) state end

-- the same, on a host behind the root's word
abbrev pub HasUnpacked : Around → Option ConfigureOptions → Unpacking → Ended Done → Type 0
HasUnpacked a options u ended = (begun : State) × a.root u.root begun × IsUnpackedOn a begun options u ended
