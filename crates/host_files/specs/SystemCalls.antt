-- The system's calls, as the trace has them.
use Rattle.std.specs.Prelude.{◌≡◌, ℕ, List, [], ◌∷◌, Option, option_map, map, string_bytes}
use Rattle.std.specs.Fs.{metadata_mode}
use Rattle.std.specs.Process.{command_program, command_args, command_dir, exit_code}
use Rattle.std.specs.declared.alloc.Global.{Global}
use Rattle.std.specs.declared.fs.Metadata.{Metadata}
use Rattle.std.specs.declared.process.Command.{Command}
use Rattle.host_files.specs.declared.trace.SystemCall.{SystemCall}
use Rattle.host_files.specs.declared.trace.SystemCall.TheVariants.{Look, Create, Append, MakeDirectory, OpenMade, SeenMade, SetOwnerMade, SetModeMade, SetTimeMade, SetModeSeen, Rename, Link, MakeLink, Unlink, RemoveDirectory, Gone, SyncFile, SyncMade, SyncDirectory, Names, Apart, SyncDevice, SyncSystem, Start, End, UnlinkAt, RemoveDirectoryAt}
use Rattle.host_files.specs.declared.trace.Request.{Request}
use Rattle.host_files.specs.declared.trace.Request.TheVariants as request

-- a look at a place that told this
abbrev pub look_call : List ℕ → Option Metadata → SystemCall
look_call place found = Look place (option_map metadata_mode found)

-- the start of a command
abbrev pub start_call : Command Global → SystemCall
start_call c = Start (command_program c) (command_args c) (command_dir c)

-- a call, out of what was lent for it
abbrev pub requested : Request → SystemCall
requested (request.Look p found) = look_call p.now found.now
requested (request.Create p) = Create p.now
requested (request.Append bytes) = Append bytes.now
requested (request.MakeDirectory p mode) = MakeDirectory p.now mode
requested (request.OpenMade p) = OpenMade p.now
requested (request.SeenMade access) = SeenMade access
requested (request.SetOwnerMade user group) = SetOwnerMade user group
requested (request.SetModeMade mode) = SetModeMade mode
requested (request.SetTimeMade time) = SetTimeMade time
requested (request.SetModeSeen p mode) = SetModeSeen p.now mode
requested (request.Rename from to) = Rename from.now to.now
requested (request.Link from to) = Link from.now to.now
requested (request.MakeLink target p) = MakeLink target.now p.now
requested (request.Unlink p) = Unlink p.now
requested (request.RemoveDirectory p) = RemoveDirectory p.now
requested (request.UnlinkAt opened name) = UnlinkAt (string_bytes opened.now.place) name.now
requested (request.RemoveDirectoryAt opened name) = RemoveDirectoryAt (string_bytes opened.now.place) name.now
requested request.Gone = Gone
requested (request.SyncFile p) = SyncFile p.now
requested request.SyncMade = SyncMade
requested (request.SyncDirectory p) = SyncDirectory p.now
requested (request.Names p names) = Names p.now (map string_bytes names.now)
requested (request.Apart p) = Apart p.now
requested (request.SyncDevice device p) = SyncDevice device p.now
requested request.SyncSystem = SyncSystem
requested (request.Start command) = start_call command.now
requested (request.End status) = End (exit_code status.now)

-- those that change what stands under a root, open what is changed with what that told, or run a program, and that what was to be
-- taken away is gone
abbrev pub changes_in : List SystemCall → List SystemCall
changes_in [] = []
changes_in (Look p found ∷ made) = changes_in made
changes_in (Create p ∷ made) = Create p ∷ changes_in made
changes_in (Append bytes ∷ made) = Append bytes ∷ changes_in made
changes_in (MakeDirectory p mode ∷ made) = MakeDirectory p mode ∷ changes_in made
changes_in (OpenMade p ∷ made) = OpenMade p ∷ changes_in made
changes_in (SeenMade access ∷ made) = SeenMade access ∷ changes_in made
changes_in (SetOwnerMade user group ∷ made) = SetOwnerMade user group ∷ changes_in made
changes_in (SetModeMade mode ∷ made) = SetModeMade mode ∷ changes_in made
changes_in (SetTimeMade time ∷ made) = SetTimeMade time ∷ changes_in made
changes_in (SetModeSeen p mode ∷ made) = SetModeSeen p mode ∷ changes_in made
changes_in (Rename from to ∷ made) = Rename from to ∷ changes_in made
changes_in (Link from to ∷ made) = Link from to ∷ changes_in made
changes_in (MakeLink target p ∷ made) = MakeLink target p ∷ changes_in made
changes_in (Unlink p ∷ made) = Unlink p ∷ changes_in made
changes_in (RemoveDirectory p ∷ made) = RemoveDirectory p ∷ changes_in made
changes_in (UnlinkAt directory name ∷ made) = UnlinkAt directory name ∷ changes_in made
changes_in (RemoveDirectoryAt directory name ∷ made) = RemoveDirectoryAt directory name ∷ changes_in made
changes_in (Gone ∷ made) = Gone ∷ changes_in made
changes_in (SyncFile p ∷ made) = changes_in made
changes_in (SyncMade ∷ made) = changes_in made
changes_in (SyncDirectory p ∷ made) = changes_in made
changes_in (Names p names ∷ made) = changes_in made
changes_in (Apart p ∷ made) = changes_in made
changes_in (SyncDevice device p ∷ made) = changes_in made
changes_in (SyncSystem ∷ made) = changes_in made
changes_in (Start program args directory ∷ made) = Start program args directory ∷ changes_in made
changes_in (End code ∷ made) = End code ∷ changes_in made

-- a look at a place told this
abbrev pub Looks : List ℕ → Option Metadata → List SystemCall → List SystemCall → Type 0
Looks place found old new = new ≡ look_call place found ∷ old
