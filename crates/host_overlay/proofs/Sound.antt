-- What an overlay keeps of the host below, and what its calls leave of that.
use Rattle.std.proofs.Common.{◌≡◌, ◌∙◌, ◌+◌, ◌-◌, ℕ, zero, suc, List, [], ◌∷◌, ◌++◌, Result, Ok, Err, refl, sym, ap, subst, arith}
use Rattle.std.specs.Prelude.{IsTrue, IfOk, replicate}
use Rattle.std.proofs.lemmas.List.{append-nil}
use Rattle.host_core.specs.Events.{Event, Did, Finished, Cut, Failed, Denied, follow_all, scripts_of, faults_of, denials_of}
use Rattle.host_core.specs.Host.{State, Silent, HasDeclined, Counts, Same, AllFailed, Reads, Falls, faults}
use Rattle.host_core.specs.Looks.{Looks}
use Rattle.host_core.specs.Unsynced.{IsSettled, KeepsSettled}
use Rattle.host_core.specs.World.{World, Step, after}
use Rattle.host_core.specs.Tree.{IsTree}
use Rattle.host_core.specs.declared.fault.HostFault.{HostFault}
use Rattle.host_core.specs.declared.fault.HostFault.TheVariants.{Device, NoMemory, Declined}
use Rattle.host_core.proofs.Counted.{faults_of-append, denials_of-append, no_fault_same, silent_same}
use Rattle.host_core.proofs.Losses.{settled_by}
use Rattle.host_core.proofs.Moments.{follow_all-append, scripts_of-append, faults_then, grown}
use Rattle.host_overlay.specs.Able.{CanDo}
use Rattle.host_overlay.specs.Layers.{failures_of}
use Rattle.host_overlay.specs.Looked.{looked_at}
use Rattle.host_overlay.specs.Standings.{Changed, overlaid, AreThere, Becomes, Stays}
use Rattle.host_overlay.specs.Trees.{IsTreeByTest}
use Rattle.host_overlay.specs.TreeLaws.{IsTree-from_test}
use Rattle.host_overlay.proofs.Steps.{test_from-IsTree, tree_step}
use Rattle.host_overlay.proofs.Telling.{Makes, failures_failed, told_world, told_settled}

-- failures alone

all_failed : (es : List Event) → AllFailed es → es ≡ replicate (faults_of es) Failed
all_failed [] all = refl
all_failed (Did s ∷ es) all = absurd all
all_failed (Finished ran ∷ es) all = absurd all
all_failed (Cut call change ∷ es) all = absurd all
all_failed (Failed ∷ es) all =
    let one : faults_of es + 1 ≡ suc (faults_of es) = omega arith in
    ap (λ (l : List Event). Failed ∷ l) (all_failed es all) ∙ ap (λ (n : ℕ). replicate n Failed) (sym one)
all_failed (Denied path ∷ es) all = absurd all

pub failed_all : (n : ℕ) → AllFailed (replicate n Failed)
failed_all zero = tt
failed_all (suc n) = failed_all n

no_denials : (es : List Event) → AllFailed es → denials_of es ≡ 0
no_denials [] all = refl
no_denials (Did s ∷ es) all = absurd all
no_denials (Finished ran ∷ es) all = absurd all
no_denials (Cut call change ∷ es) all = absurd all
no_denials (Failed ∷ es) all = no_denials es all
no_denials (Denied path ∷ es) all = absurd all

scripts_none : (es : List Event) → AllFailed es → scripts_of es ≡ []
scripts_none [] all = refl
scripts_none (Did s ∷ es) all = absurd all
scripts_none (Finished ran ∷ es) all = absurd all
scripts_none (Cut call change ∷ es) all = absurd all
scripts_none (Failed ∷ es) all = scripts_none es all
scripts_none (Denied path ∷ es) all = absurd all

looked_by : (begun now : State) (fs : List Event) → AllFailed fs → now.events ≡ begun.events ++ fs → now.events ≡ looked_at begun now
looked_by begun now fs all is =
    let count : faults now - faults begun ≡ faults_of fs = omega (arith, ap faults_of is, faults_of-append begun.events fs) in
    is ∙ ap (λ (l : List Event). begun.events ++ l) (all_failed fs all ∙ ap (λ (n : ℕ). replicate n Failed) (sym count))

-- nothing was declined where it was only looked at
reads_undeclined : (a b : State) → Reads a b → HasDeclined a b → ⊥
reads_undeclined a b reads declined = omega (arith, declined.denials, ap denials_of reads.events, denials_of-append a.events reads.added, no_denials reads.added reads.failed)

-- what an overlay keeps: the host below was only looked at, and its world with the changes is a tree
pub record Sound (begun below : State) (m : Changed) (es : List Event) : Type 0 where
  pub world : below.world ≡ begun.world
  pub failures : below.events ≡ looked_at begun below
  pub honest : Falls begun below
  pub tree : IsTrue below.honest → IsTreeByTest (follow_all es begun.world)
  pub settled : IsTrue below.honest → IsSettled es
  pub there : IsTrue below.honest → AreThere m begun.world

module _ (begun below : State) (world : below.world ≡ begun.world) (failures : below.events ≡ looked_at begun below) (honest : Falls begun below) where
  pub was_looked_at : Reads begun below
  was_looked_at = record { honest = honest; world = world; added = replicate (faults below - faults begun) Failed; failed = failed_all (faults below - faults begun); events = failures }

  pub was_silent : Silent begun below
  was_silent = record {
    honest = honest;
    scripts = ap scripts_of failures ∙ scripts_of-append begun.events (replicate (faults below - faults begun) Failed)
        ∙ ap (λ (l : List Event). scripts_of begun.events ++ l) (scripts_none (replicate (faults below - faults begun) Failed) (failed_all (faults below - faults begun))) ∙ append-nil (scripts_of begun.events);
  }

-- a host over which nothing was done that changes its world
pub sound_new : (s : State) (m : Changed) (es : List Event) → ((w : World) → follow_all es w ≡ w) → (IsTrue s.honest → IsTree s.world) → AreThere m s.world → IsSettled es → Sound s s m es
sound_new s m es idle tree there settled = record {
  world = refl;
  failures = looked_by s s [] tt (sym (append-nil s.events));
  honest = λ h. h;
  tree = λ h. subst IsTreeByTest (sym (idle s.world)) (test_from-IsTree s.world (tree h));
  settled = λ h. settled;
  there = λ h. there;
}

module _ (begun below : State) (m n : Changed) (es new : List Event) (sound : Sound begun below m es) where
  pub sound_same : n ≡ m → new ≡ es → Sound begun below n new
  sound_same changes events = subst (λ (x : Changed). Sound begun below x new) (sym changes) (subst (λ (l : List Event). Sound begun below m l) (sym events) sound)

  -- what stays
  pub sound_stays : (s : Step) → Makes m es → (IsTrue below.honest → CanDo s (follow_all es begun.world)) → Stays s m n → new ≡ es → Sound begun below n new
  sound_stays s makes can stays events = record {
    world = sound.world;
    failures = sound.failures;
    honest = sound.honest;
    tree = λ h. subst (λ (l : List Event). IsTreeByTest (follow_all l begun.world)) (sym events) (sound.tree h);
    settled = λ h. subst IsSettled (sym events) (sound.settled h);
    there = λ h. stays.there begun.world (subst (λ (w : World). CanDo s w) (sym (makes begun.world)) (can h)) (sound.there h);
  }

  -- a step
  pub sound_step : (s : Step) → Makes m es → (IsTrue below.honest → CanDo s (follow_all es begun.world)) → (IsTrue below.honest → KeepsSettled es s) → Becomes s m n → new ≡ es ++ Did s ∷ [] → Sound begun below n new
  sound_step s makes can keeps becomes events = record {
    world = sound.world;
    failures = sound.failures;
    honest = sound.honest;
    tree = λ h. subst (λ (w : World). IsTreeByTest w) (sym (follow_all-append es (Did s ∷ []) begun.world) ∙ ap (λ (l : List Event). follow_all l begun.world) (sym events))
        (test_from-IsTree (after s (follow_all es begun.world)) (tree_step s (follow_all es begun.world) (IsTree-from_test (follow_all es begun.world) (sound.tree h)) (can h)));
    settled = λ h. settled_by es new s (keeps h) (sound.settled h) events;
    there = λ h. becomes.there begun.world (subst (λ (w : World). CanDo s w) (sym (makes begun.world)) (can h)) (sound.there h);
  }

  -- a call that changes nothing
  pub sound_call : n ≡ m → (e : Event) → ((w : World) → follow_all (e ∷ []) w ≡ w) → (IsSettled es → IsSettled (es ++ e ∷ [])) → new ≡ es ++ e ∷ [] → Sound begun below n new
  sound_call changes e idle settled events = record {
    world = sound.world;
    failures = sound.failures;
    honest = sound.honest;
    tree = λ h. subst (λ (w : World). IsTreeByTest w) (sym (idle (follow_all es begun.world)) ∙ sym (follow_all-append es (e ∷ []) begun.world) ∙ ap (λ (l : List Event). follow_all l begun.world) (sym events)) (sound.tree h);
    settled = λ h. subst IsSettled (sym events) (settled (sound.settled h));
    there = λ h. subst (λ (x : Changed). AreThere x begun.world) (sym changes) (sound.there h);
  }

-- it was looked at the host below

module _ (begun a b : State) (m n : Changed) (es new : List Event) (sound : Sound begun a m es) (reads : Reads a b) {T : Type 0} (r : Result T HostFault) (changes : n ≡ m) (events : new ≡ es ++ failures_of r) where
  pub sound_looked : Sound begun b n new
  sound_looked = record {
    world = reads.world ∙ sound.world;
    failures = looked_by begun b (replicate (faults a - faults begun) Failed ++ reads.added) (faults_then (replicate (faults a - faults begun) Failed) reads.added (failed_all (faults a - faults begun)) reads.failed)
        (grown begun.events a.events b.events (replicate (faults a - faults begun) Failed) reads.added sound.failures reads.events);
    honest = λ h. sound.honest (reads.honest h);
    tree = λ h. subst (λ (w : World). IsTreeByTest w) (sym (told_world r es new events begun.world)) (sound.tree (reads.honest h));
    settled = λ h. told_settled r es new events (sound.settled (reads.honest h));
    there = λ h. subst (λ (x : Changed). AreThere x begun.world) (sym changes) (sound.there (reads.honest h));
  }

-- what an overlay tells, as a state
abbrev pub over : State → State → List Event → State
over begun below es = record { honest = below.honest; world = follow_all es begun.world; events = es }

counts_told : {T : Type 0} (r : Result T HostFault) (a b old new : State) → Reads a b → Counts a b r → (new.events ≡ old.events ++ failures_of r) → Counts old new r
counts_told (Ok x) a b old new reads counts is = no_fault_same old new (is ∙ append-nil old.events)
counts_told (Err Device) a b old new reads counts is = record { once = omega (arith, ap faults_of is, faults_of-append old.events (Failed ∷ [])); last = (old.events, is) }
counts_told (Err NoMemory) a b old new reads counts is = no_fault_same old new (is ∙ append-nil old.events)
counts_told (Err Declined) a b old new reads counts is = absurd (reads_undeclined a b reads counts)

module _ (begun a b : State) (m : Changed) (es new : List Event) (sound : Sound begun a m es) (makes : Makes m es) {T : Type 0} (r : Result T HostFault) (events : new ≡ es ++ failures_of r) where
  -- the world over the host below, as it is now
  pub over_world : overlaid m a.world ≡ follow_all es begun.world
  over_world = ap (overlaid m) sound.world ∙ makes begun.world

  looked_reads : Reads a b → Reads (over begun a es) (over begun b new)
  looked_reads reads = record { honest = reads.honest; world = told_world r es new events begun.world; added = failures_of r; failed = failures_failed r; events = events }

  looked_silent : Reads a b → Silent (over begun a es) (over begun b new)
  looked_silent reads = record {
    honest = reads.honest;
    scripts = ap scripts_of events ∙ scripts_of-append es (failures_of r) ∙ ap (λ (l : List Event). scripts_of es ++ l) (scripts_none (failures_of r) (failures_failed r)) ∙ append-nil (scripts_of es);
  }

  pub looked_over : (P Q : T → World → Type 0) → ((x : T) → IsTrue a.honest → P x a.world → Q x (follow_all es begun.world)) → Looks r P a b → Looks r Q (over begun a es) (over begun b new)
  looked_over P Q so looks = record {
    found = λ h. found_by r (looks.reads.honest h) (looks.found h);
    reads = looked_reads looks.reads;
    silent = looked_silent looks.reads;
    counts = counts_told r a b (over begun a es) (over begun b new) looks.reads looks.counts events;
  }
    where
      found_by : (x : Result T HostFault) → IsTrue a.honest → IfOk x (λ y. P y a.world) → IfOk x (λ y. Q y (follow_all es begun.world))
      found_by (Ok y) h p = so y h p
      found_by (Err e) h p = tt

-- nothing was done for want of memory
pub looks_wanting : {T : Type 0} (P : T → World → Type 0) (old new : State) → Same old new → Looks (Err NoMemory) P old new
looks_wanting P old new same = record {
  found = λ h. tt;
  reads = record { honest = same.honest; world = same.world; added = []; failed = tt; events = same.events ∙ sym (append-nil old.events) };
  silent = silent_same old new same;
  counts = no_fault_same old new same.events;
}
