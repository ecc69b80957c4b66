-- dpkg's words, read one after another: options, up to the first word that is none or stands behind `--`, and words.
use Rattle.std.specs.Prelude.{ℕ, ◌==◌, ◌&&◌, ◌||◌, Bool, true, false, List, [], ◌∷◌, ◌++◌, Option, Some, None, codes, fold, if◌then◌else◌, is_some, not}
use Rattle.std.specs.Str.{bytes_eq}
use Rattle.name_patterns.specs.Patterns.{is_readable}
use Rattle.dpkg_words.specs.Cutting.{behind, cut_at}
use Rattle.dpkg_words.specs.Forces.{nothing, thing_of, things_in, with_forced, with_idle}
use Rattle.dpkg_words.specs.Options.{Text, letter_sense, long_sense}
use Rattle.dpkg_words.specs.Picking.{all_taken}
use Rattle.dpkg_words.specs.Numbers.{is_number}
use Rattle.dpkg_words.specs.declared.forces.Thing.{Thing}
use Rattle.dpkg_words.specs.declared.forces.Thing.TheVariants.{Downgrade, Idle}
use Rattle.dpkg_words.specs.declared.options.Action.{Action}
use Rattle.dpkg_words.specs.declared.options.Flag.{Flag}
use Rattle.dpkg_words.specs.declared.options.Flag.TheVariants as flag
use Rattle.dpkg_words.specs.declared.options.Valued.{Valued}
use Rattle.dpkg_words.specs.declared.options.Valued.TheVariants as valued
use Rattle.dpkg_words.specs.declared.options.Sense.{Sense}
use Rattle.dpkg_words.specs.declared.options.Sense.TheVariants as sense
use Rattle.dpkg_words.specs.declared.reading.Options.{Options}
use Rattle.dpkg_words.specs.declared.reading.Outcome.{Outcome}
use Rattle.dpkg_words.specs.declared.reading.Outcome.TheVariants as outcome
use Rattle.dpkg_words.specs.declared.reading.Reading.{Reading}
use Rattle.dpkg_words.specs.declared.refusals.Why.{Why}
use Rattle.dpkg_words.specs.declared.refusals.Why.TheVariants as why

-- before the first word; as many as these may fail where no number is given
abbrev pub start : Reading
start = record {
  options = record {
    action = None;
    instdir = [];
    admindir = codes "/var/lib/dpkg";
    no_act = false;
    auto_deconfigure = false;
    pending = false;
    robot = false;
    recursive = false;
    triggers = true;
    status_fds = [];
    log = None;
    filters = [];
    unread = None;
    limit = codes "50";
    picking = all_taken;
    forced = nothing;
    idle = [];
  };
  wants = None;
  ended = false;
  words = [];
  outcome = None;
}

-- the first fault stays
abbrev pub faulty : Why → Text → Reading → Reading
faulty why word r = record r { outcome = Some (outcome.Fault why word) }

-- there is one action
abbrev pub with_action : Text → Action → Reading → Reading
with_action word action r =
    if is_some r.options.action then faulty why.Conflict word r
    else record r { options = record r.options { action = Some action } }

-- of two that contradict each other the later one holds
abbrev pub with_flag : Flag → Options → Options
with_flag flag.NoAct o = record o { no_act = true }
with_flag flag.AutoDeconfigure o = record o { auto_deconfigure = true }
with_flag flag.Pending o = record o { pending = true }
with_flag flag.Robot o = record o { robot = true }
with_flag flag.Recursive o = record o { recursive = true }
with_flag flag.Triggers o = record o { triggers = true }
with_flag flag.NoTriggers o = record o { triggers = false }
with_flag flag.SkipSame o = record o { picking = record o.picking { skip_same = true } }
with_flag flag.RefuseDowngrade o = record o { picking = record o.picking { refuse_downgrade = true } }
with_flag flag.SelectedOnly o = record o { picking = record o.picking { selected_only = true } }
with_flag flag.Idle o = o

-- an option without a value, or one whose value the next word is
abbrev pub by_sense : Text → Option Sense → Reading → Reading
by_sense word (Some (sense.Does action)) r = with_action word action r
by_sense word (Some (sense.Sets flag)) r = record r { options = with_flag flag r.options }
by_sense word (Some (sense.Takes valued)) r = record r { wants = Some valued }
by_sense word (Some sense.Help) r = record r { outcome = Some outcome.Help }
by_sense word (Some sense.Version) r = record r { outcome = Some outcome.Version }
by_sense word None r = faulty why.Unknown word r

-- a root in front of a path: nothing for `/`
abbrev pub front_of : Text → Text
front_of root = if bytes_eq root (codes "/") then [] else root

abbrev pub administration_of : Text → Text
administration_of front = front ++ codes "/var/lib/dpkg"

-- a root has its administration below it
abbrev pub with_root : Text → Options → Options
with_root root o = record o { instdir = front_of root; admindir = administration_of (front_of root) }

abbrev pub with_instdir : Text → Options → Options
with_instdir root o = record o { instdir = front_of root }

abbrev pub with_admindir : Text → Options → Options
with_admindir admindir o = record o { admindir = admindir }

-- a pattern for paths: no set is, nor a text in the quotes that dpkg takes from a value in its files (34 or 39)
abbrev pub is_quote : ℕ → Bool
is_quote byte = byte == 34 || byte == 39

abbrev pub is_filter : Text → Bool
is_filter [] = true
is_filter (c ∷ cs) = is_readable (c ∷ cs) && not (is_quote c)

-- the first that is none is told where it would matter
abbrev pub with_unread : Text → Options → Options
with_unread pattern o = if is_some o.unread then o else record o { unread = Some pattern }

-- a filter, as one of the program's own words
abbrev pub with_filter : Text → Text → Options → Options
with_filter front pattern o =
    if is_filter pattern then record o { filters = o.filters ++ (front ++ pattern) ∷ [] }
    else with_unread pattern o

-- each descriptor is told, and of several logs the last one is written; filters stay in their order
abbrev pub given : Valued → Text → Options → Options
given valued.Root value o = with_root value o
given valued.Instdir value o = with_instdir value o
given valued.Admindir value o = with_admindir value o
given valued.StatusFd value o = record o { status_fds = o.status_fds ++ value ∷ [] }
given valued.Log value o = record o { log = Some value }
given valued.PathExclude value o = with_filter (codes "--path-exclude=") value o
given valued.PathInclude value o = with_filter (codes "--path-include=") value o
given valued.AbortAfter value o = record o { limit = value }
given valued.Idle value o = o

-- a descriptor is a number, and so is what tells how many may fail
abbrev pub is_taken : Valued → Text → Bool
is_taken valued.StatusFd value = is_number value
is_taken valued.AbortAfter value = is_number value
is_taken _ value = true

abbrev pub number_fault : Valued → Why
number_fault valued.AbortAfter = why.Limit
number_fault _ = why.Number

abbrev pub with_value : Valued → Text → Reading → Reading
with_value valued value r =
    if is_taken valued value then record r { options = given valued value r.options; wants = None }
    else faulty (number_fault valued) value r

-- that an older version takes the place of a newer one is forced, unless it is refused
abbrev pub with_downgrade : Bool → Options → Options
with_downgrade on o = record o { picking = record o.picking { refuse_downgrade = not on } }

-- a thing that changes nothing is forced, or refused, which takes none back
abbrev pub by_idle : Bool → Text → Options → Options
by_idle true name o = record o { idle = with_idle name o.idle }
by_idle false name o = o

-- a thing is forced or refused, by its name
abbrev pub by_thing : Text → Bool → Text → Option Thing → Reading → Reading
by_thing word on name (Some Downgrade) r = record r { options = with_downgrade on r.options }
by_thing word on name (Some Idle) r = record r { options = by_idle on name r.options }
by_thing word on name (Some thing) r = record r { options = record r.options { forced = with_forced thing on r.options.forced } }
by_thing word on name None r = faulty why.Thing word r

abbrev pub with_thing : Text → Bool → Reading → Text → Reading
with_thing word on r thing = if is_some r.outcome then r else by_thing word on thing (thing_of thing) r

abbrev pub with_things : Text → Bool → Text → Reading → Reading
with_things word on things r = fold (with_thing word on) r (things_in things)

-- `--NAME=VALUE`
abbrev pub attached : Text → Option Sense → Text → Reading → Reading
attached word (Some (sense.Takes valued)) value r = with_value valued value r
attached word (Some other) value r = faulty why.ValueTaken word r
attached word None value r = faulty why.Unknown word r

abbrev pub with_cut : Text → Option (Text × Text) → Reading → Reading
with_cut word (Some parts) r = attached word (long_sense parts.0) parts.1 r
with_cut word None r = faulty why.Unknown word r

-- `--force-THINGS`, `--no-force-THINGS` or `--refuse-THINGS`
abbrev pub with_parts : Text → Text → Option Text → Option Text → Option Text → Reading → Reading
with_parts word name (Some things) no_force refuse r = with_things word true things r
with_parts word name None (Some things) refuse r = with_things word false things r
with_parts word name None None (Some things) r = with_things word false things r
with_parts word name None None None r = with_cut word (cut_at 61 name) r

abbrev pub with_other : Text → Text → Reading → Reading
with_other word name r = with_parts word name (behind (codes "force-") name) (behind (codes "no-force-") name) (behind (codes "refuse-") name) r

-- `--NAME`
abbrev pub with_long : Text → Text → Option Sense → Reading → Reading
with_long word name (Some meant) r = by_sense word (Some meant) r
with_long word name None r = with_other word name r

abbrev pub with_letter : Text → Reading → ℕ → Reading
with_letter word r letter = if is_some r.outcome then r else by_sense word (letter_sense letter) r

-- the first word that is no option: with it they are over
abbrev pub with_word : Text → Reading → Reading
with_word word r = record r { words = r.words ++ word ∷ []; ended = true }

-- `-D` has a value, which changes nothing: what follows in its word, or the next word
abbrev pub with_debug : Text → Reading → Reading
with_debug [] r = record r { wants = Some valued.Idle }
with_debug (c ∷ cs) r = r

abbrev pub by_debug : Text → Text → Option Text → Reading → Reading
by_debug word letters (Some value) r = with_debug value r
by_debug word letters None r = fold (with_letter word) r letters

-- `-ABC`: each letter is an option without a value; `-` alone is no option
abbrev pub with_short : Text → Text → Reading → Reading
with_short word [] r = with_word word r
with_short word (c ∷ cs) r = by_debug word (c ∷ cs) (behind (codes "D") (c ∷ cs)) r

abbrev pub with_dashes : Text → Option Text → Option Text → Reading → Reading
with_dashes word (Some name) letters r = with_long word name (long_sense name) r
with_dashes word None (Some letters) r = with_short word letters r
with_dashes word None None r = with_word word r

-- a word in a place where an option may stand
abbrev pub with_option : Text → Reading → Reading
with_option word r =
    if bytes_eq word (codes "--") then record r { ended = true }
    else with_dashes word (behind (codes "--") word) (behind (codes "-") word) r

-- a word that is no value
abbrev pub in_place : Reading → Text → Reading
in_place r word = if r.ended then with_word word r else with_option word r

abbrev pub read_at : Option Outcome → Option Valued → Reading → Text → Reading
read_at (Some outcome) wants r word = r
read_at None (Some valued) r word = with_value valued word r
read_at None None r word = in_place r word

-- one word more: behind what ends the reading no word is read
abbrev pub read_word : Reading → Text → Reading
read_word r word = read_at r.outcome r.wants r word

abbrev pub read_all : List Text → Reading
read_all words = fold read_word start words
