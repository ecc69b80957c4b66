-- A node that lends no rights any more is of the kind that it was; what is taken away lends none.
use Rattle.std.proofs.Common.{◌≡◌, ◌⊎◌, inl, inr, Bool, true, false, cond, List, [], ◌∷◌, ◌++◌, Option, Some, None, refl, sym, ap, subst, ◌∙◌, IsTrue, Result, Ok, Err}
use Rattle.std.specs.Prelude.{IsSome}
use Rattle.std.proofs.lemmas.Bool.{true≢false}
use Rattle.std.proofs.lemmas.List.{append-nil}
use Rattle.host_core.specs.Paths.{Path}
use Rattle.host_core.specs.World.{World, Step, Take, Lower, IsPart, undo_of, place_of, IsDirectory, IsLoose, lends, lowered, lowered_access}
use Rattle.host_core.specs.Events.{Event, Did, Finished, Cut, Failed, Denied, follow, follow_all}
use Rattle.host_core.specs.Host.{State, AllFailed, Reads, Does, Stops, Declines}
use Rattle.host_core.specs.declared.node.Access.{Access}
use Rattle.host_core.specs.declared.node.Node.{Node}
use Rattle.host_core.specs.declared.node.Node.TheVariants.{File, Dir, Link}
use Rattle.host_core.specs.declared.fault.HostFault.{HostFault}
use Rattle.host_core.specs.declared.fault.HostFault.TheVariants.{Device, NoMemory, Declined}
use Rattle.host_core.proofs.Nodes.{directory_is, directory_stands, none_stands}
use Rattle.host_core.proofs.Moments.{follow_all-append, grown}
use Rattle.file_removal.specs.Clearing.{cleared}
use Rattle.file_removal.specs.Lowering.{TakesLowered, AllTakeLowered, TookLowered}

pub lowered_some : (o : Option Node) → IsSome o → IsSome (lowered o)
lowered_some None is = is
lowered_some (Some (File b a)) is = refl
lowered_some (Some (Dir a)) is = refl
lowered_some (Some (Link t)) is = refl

pub some_lowered : (o : Option Node) → IsSome (lowered o) → IsSome o
some_lowered None is = is
some_lowered (Some (File b a)) is = refl
some_lowered (Some (Dir a)) is = refl
some_lowered (Some (Link t)) is = refl

pub lowered_directory : (o : Option Node) → IsDirectory o → lowered o ≡ o
lowered_directory None is = refl
lowered_directory (Some (File b a)) is = absurd (true≢false (sym (directory_is _ is)))
lowered_directory (Some (Dir a)) is = refl
lowered_directory (Some (Link t)) is = refl

pub directory_lowered : (o : Option Node) → IsDirectory (lowered o) → IsDirectory o
directory_lowered None is = is
directory_lowered (Some (File b a)) is = absurd (true≢false (sym (directory_is _ is)))
directory_lowered (Some (Dir a)) is = is
directory_lowered (Some (Link t)) is = is

pub lowered_loose : (o : Option Node) → IsLoose o → IsLoose (lowered o)
lowered_loose o loose = (lowered_some o loose.0, λ directory. loose.1 (directory_lowered o directory))

pub loose_lowered : (o : Option Node) → IsLoose (lowered o) → IsLoose o
loose_lowered o loose = (some_lowered o loose.0, λ directory. loose.1 (subst IsDirectory (sym (lowered_directory o directory)) directory))

pub lowered_cleared : (o : Option Node) → lowered (cleared o) ≡ cleared o
lowered_cleared None = refl
lowered_cleared (Some (File b a)) = refl
lowered_cleared (Some (Dir a)) = refl
lowered_cleared (Some (Link t)) = refl

pub cleared_lowered : (o : Option Node) → cleared (lowered o) ≡ cleared o
cleared_lowered None = refl
cleared_lowered (Some (File b a)) = refl
cleared_lowered (Some (Dir a)) = refl
cleared_lowered (Some (Link t)) = refl

access_twice : (a : Access) (b : Bool) → lends a.mode ≡ b → lowered_access (lowered_access a) ≡ lowered_access a
access_twice a true is = ap lowered_access at ∙ sym at
  where
    at : lowered_access a ≡ record { mode = 0o600; user = a.user; group = a.group }
    at = ap (λ t. cond t (record { mode = 0o600; user = a.user; group = a.group }) a) is
access_twice a false is = ap lowered_access (ap (λ t. cond t (record { mode = 0o600; user = a.user; group = a.group }) a) is)

pub lowered_twice : (o : Option Node) → lowered (lowered o) ≡ lowered o
lowered_twice None = refl
lowered_twice (Some (File b a)) = ap (λ x. Some (File b x)) (access_twice a (lends a.mode) refl)
lowered_twice (Some (Dir a)) = refl
lowered_twice (Some (Link t)) = refl

-- what was taken lent no rights: events one after another

all_take-append : (a b : List Event) (w : World) → AllTakeLowered w a → AllTakeLowered (follow_all a w) b → AllTakeLowered w (a ++ b)
all_take-append [] b w first second = second
all_take-append (Did s ∷ a) b w first second = (first.0, all_take-append a b (follow (Did s) w) first.1 second)
all_take-append (Finished ran ∷ a) b w first second = all_take-append a b (follow (Finished ran) w) first second
all_take-append (Cut call change ∷ a) b w first second = all_take-append a b (follow (Cut call change) w) first second
all_take-append (Failed ∷ a) b w first second = all_take-append a b w first second
all_take-append (Denied path ∷ a) b w first second = all_take-append a b w first second

failed_take : (w : World) (es : List Event) → AllFailed es → AllTakeLowered w es
failed_take w [] all = tt
failed_take w (Did s ∷ es) all = absurd all
failed_take w (Finished ran ∷ es) all = absurd all
failed_take w (Cut call change ∷ es) all = absurd all
failed_take w (Failed ∷ es) all = failed_take w es all
failed_take w (Denied path ∷ es) all = absurd all

failed_world : (w : World) (es : List Event) → AllFailed es → follow_all es w ≡ w
failed_world w [] all = refl
failed_world w (Did s ∷ es) all = absurd all
failed_world w (Finished ran ∷ es) all = absurd all
failed_world w (Cut call change ∷ es) all = absurd all
failed_world w (Failed ∷ es) all = failed_world w es all
failed_world w (Denied path ∷ es) all = absurd all

pub took_start : (a : State) → TookLowered a a
took_start a = record { added = []; events = sym (append-nil a.events); honest = λ h. h; world = refl; lowered = λ h. tt }

pub took_reads : (a b : State) → Reads a b → TookLowered a b
took_reads a b reads = record {
  added = reads.added;
  events = reads.events;
  honest = reads.honest;
  world = reads.world ∙ sym (failed_world a.world reads.added reads.failed);
  lowered = λ h. failed_take a.world reads.added reads.failed;
}

pub took_then : (a b c : State) → TookLowered a b → TookLowered b c → TookLowered a c
took_then a b c first second = record {
  added = first.added ++ second.added;
  events = grown a.events b.events c.events first.added second.added first.events second.events;
  honest = λ h. first.honest (second.honest h);
  world = second.world ∙ ap (follow_all second.added) first.world ∙ sym (follow_all-append first.added second.added a.world);
  lowered = λ h. all_take-append first.added second.added a.world (first.lowered (second.honest h)) (subst (λ w. AllTakeLowered w second.added) first.world (second.lowered h));
}

-- one step, which has no part
module _ (s : Step) (whole : (t : Step) → IsPart s t → ⊥) (a b : State) (takes : IsTrue b.honest → TakesLowered a.world s) where
  pub took_does : {T : Type 0} (result : Result T HostFault) → Does s a b result → TookLowered a b
  took_does (Ok x) does = record { added = Did s ∷ []; events = does.events; honest = does.honest; world = does.world; lowered = λ h. (takes h, tt) }
  took_does (Err Device) (Stops.nothing goes) = record { added = Failed ∷ []; events = goes.events; honest = goes.honest; world = goes.world; lowered = λ h. tt }
  took_does (Err Device) (Stops.some t is goes) = record {
    added = Did t ∷ Failed ∷ [];
    events = goes.events;
    honest = goes.honest;
    world = goes.world;
    lowered = λ h. (elim (is h) [ inl same ↦ subst (TakesLowered a.world) (sym same) (takes h) | inr part ↦ absurd (whole t part) ], tt);
  }
  took_does (Err NoMemory) does = record { added = []; events = does.events ∙ sym (append-nil a.events); honest = does.honest; world = does.world; lowered = λ h. tt }
  took_does (Err Declined) (Declines.nothing goes) = record { added = Denied (place_of s) ∷ []; events = goes.events; honest = goes.honest; world = goes.world; lowered = λ h. tt }
  took_does (Err Declined) (Declines.undone t is goes) = record {
    added = Did t ∷ Did (undo_of s) ∷ Denied (place_of s) ∷ [];
    events = goes.events;
    honest = goes.honest;
    world = goes.world;
    lowered = λ h. absurd (whole t (is h).0);
  }
