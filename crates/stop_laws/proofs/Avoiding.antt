-- What the script calls of a run leave alone.
use Rattle.std.proofs.Common.{◌≡◌, ◌||◌, ℕ, Bool, true, List, [], ◌∷◌, ◌++◌, sym, ap, subst, ◌∙◌, append_assoc}
use Rattle.std.specs.List.{list_any}
use Rattle.std.proofs.lemmas.Bool.{false_from_ne_true, true≢false}
use Rattle.host_core.specs.Paths.{Path, is_named_by, is_own}
use Rattle.host_core.specs.World.{World, Avoids, Change, is_kept}
use Rattle.host_core.specs.Events.{Event, changes_of}
use Rattle.host_core.specs.Host.{OnlyScripts}
use Rattle.host_core.proofs.Scripts.{Avoids-append, changes_of-append, no_change}
use Rattle.diversions.specs.Ways.{Ways}
use Rattle.file_lists.specs.Owners.{places_in}
use Rattle.file_lists.specs.Writing.{with_list}
use Rattle.file_lists.specs.declared.paths.PackageList.{PackageList}
use Rattle.unit_stages.specs.Parts.{part_lists, parts_lists}
use Rattle.unit_stages.specs.declared.part.Part.{Part}
use Rattle.unit_stages.specs.declared.part.Part.TheVariants.{Note, Forget, Settle, Remove, RemoveDirectories, Clear, List as Listing, DropList, DropMembers}
use Rattle.status_records.specs.declared.record.Record.{Record}
use Rattle.unit_stages.specs.Holding.{Holding, after_parts, after_stages}
use Rattle.unit_stages.specs.Runs.{kept_by}
use Rattle.unit_stages.specs.Running.{ArePast, AreRunning, IsCalling, IsInNext, IsInStage}
use Rattle.unit_stages.specs.declared.stage.Stage.{Stage}

-- calls that leave more alone
pub avoids_less : (kept more : Path → Bool) → ((q : Path) → kept q ≡ true → more q ≡ true) → (c : Change) → Avoids more c → Avoids kept c
avoids_less kept more all [] avoids = tt
avoids_less kept more all (e ∷ c) avoids = (false_from_ne_true (kept e.0) (λ is. true≢false (sym (all e.0 is) ∙ avoids.0)), avoids_less kept more all c avoids.1)

module _ (name : List ℕ) (ways : Ways) (kept : Path → Bool) (G : List PackageList → Type 0) (keeps : (ls : List PackageList) → G ls → (q : Path) → kept q ≡ true → is_kept (places_in ways ls) q ≡ true)
    (stays : (paths : List Path) (ls : List PackageList) → G ls → G (with_list name paths ls)) where
  one_stays : (part : Part) (ls : List PackageList) → G ls → G (part_lists name part ls)
  one_stays (Note r) ls is = is
  one_stays Forget ls is = is
  one_stays (Settle conffiles) ls is = is
  one_stays (Remove leaving) ls is = is
  one_stays (RemoveDirectories leaving) ls is = is
  one_stays (Clear names) ls is = is
  one_stays (Listing paths) ls is = stays paths ls is
  one_stays DropList ls is = is
  one_stays (DropMembers keep_postrm) ls is = is

  all_stay : (parts : List Part) (ls : List PackageList) → G ls → G (parts_lists name parts ls)
  all_stay [] ls is = is
  all_stay (part ∷ parts) ls is = all_stay parts (part_lists name part ls) (one_stays part ls is)

  calls_avoid : (h : Holding) (old now : World) (so_far : List Event) → G h.lists → OnlyScripts (kept_by ways h) old so_far now → Avoids kept (changes_of so_far)
  calls_avoid h old now so_far is scripts = avoids_less kept (kept_by ways h) (keeps h.lists is) (changes_of so_far) scripts.avoids

  nothing_avoids : (so_far : List Event) → changes_of so_far ≡ [] → Avoids kept (changes_of so_far)
  nothing_avoids so_far none = subst (Avoids kept) (sym none) tt

  then_avoid : (so_far before since : List Event) → so_far ≡ before ++ since → Avoids kept (changes_of before) → Avoids kept (changes_of since) → Avoids kept (changes_of so_far)
  then_avoid so_far before since are first second =
      subst (Avoids kept) (sym (ap changes_of are ∙ changes_of-append before since)) (Avoids-append kept (changes_of before) (changes_of since) first second)

  calling_avoids : (restore : List Part) (h : Holding) (old : World) (so_far : List Event) (now : World) (table : List Record) → G h.lists → IsCalling name ways restore h old so_far now table → Avoids kept (changes_of so_far)
  calling_avoids restore h old so_far now table is (IsCalling.calling scripts same) = calls_avoid h old now so_far is scripts
  calling_avoids restore h old so_far now table is (IsCalling.restoring calls after called are scripts quiet doing noted) =
      then_avoid so_far calls after are (calls_avoid h old called calls is scripts) (nothing_avoids after (no_change after quiet))

  stage_avoids : (stage : Stage) (h : Holding) (old : World) (so_far : List Event) (now : World) (table : List Record) → G h.lists → IsInStage name ways stage h old so_far now table → Avoids kept (changes_of so_far)
  stage_avoids stage h old so_far now table is (IsInStage.doing quiet doing noted) = nothing_avoids so_far (no_change so_far quiet)
  stage_avoids stage h old so_far now table is (IsInStage.behind before since ready are quiet done called) =
      then_avoid so_far before since are (nothing_avoids before (no_change before quiet))
      (calling_avoids stage.restore.items (after_parts name stage.parts.items h) ready since now table (all_stay stage.parts.items h.lists is) called)

  next_avoids : (back : List Stage) (h : Holding) (old : World) (so_far : List Event) (now : World) (table : List Record) → G h.lists → IsInNext name ways back h old so_far now table → Avoids kept (changes_of so_far)
  next_avoids back h old so_far now table is (IsInNext.between none same at) = nothing_avoids so_far (ap changes_of none)
  next_avoids back h old so_far now table is (IsInNext.inside stage rest at amid) = stage_avoids stage h old so_far now table is amid

  run_avoids : (front back : List Stage) (h : Holding) (old : World) (before since : List Event) (reached now : World) (table : List Record) → G h.lists → ArePast name ways front h old before reached
      → IsInNext name ways back (after_stages name front h) reached since now table → Avoids kept (changes_of (before ++ since))
  run_avoids [] back h old before since reached now table is past next =
      then_avoid (before ++ since) before since (λ i. before ++ since) (nothing_avoids before (ap changes_of past.0)) (next_avoids back h reached since now table is next)
  run_avoids (s ∷ front) back h old before since reached now table is past next =
      let one = past.past in
      let then_is = all_stay s.parts.items h.lists is in
      let rest = run_avoids front back (after_parts name s.parts.items h) past.mid past.more since reached now table then_is past.further next in
      let own = then_avoid past.own one.before one.calls one.events (nothing_avoids one.before (no_change one.before one.quiet)) (calls_avoid (after_parts name s.parts.items h) one.ready past.mid one.calls then_is one.scripts) in
      then_avoid (before ++ since) past.own (past.more ++ since) (ap (λ (l : List Event). l ++ since) past.events ∙ append_assoc past.own past.more since) own rest

  -- at each moment of a run
  pub stages_avoid : (stages : List Stage) (h : Holding) (old : World) (so_far : List Event) (now : World) → G h.lists → AreRunning name ways stages h old so_far now → Avoids kept (changes_of so_far)
  stages_avoid stages h old so_far now is running =
      subst (λ (l : List Event). Avoids kept (changes_of l)) (sym running.events)
      (run_avoids running.front running.back h old running.before running.since running.reached now running.table is running.past running.next)

-- the program's own places

pub own_kept : (ways : Ways) (ls : List PackageList) (q : Path) → is_own q ≡ true → is_kept (places_in ways ls) q ≡ true
own_kept ways ls q own = ap (λ b. b || list_any (is_named_by q) (places_in ways ls)) own

pub own_avoided : (name : List ℕ) (ways : Ways) (stages : List Stage) (h : Holding) (old : World) (so_far : List Event) (now : World) → AreRunning name ways stages h old so_far now → Avoids is_own (changes_of so_far)
own_avoided name ways stages h old so_far now running =
    stages_avoid name ways is_own (λ (ls : List PackageList). Unit {0}) (λ ls is q own. own_kept ways ls q own) (λ paths ls is. tt) stages h old so_far now tt running
