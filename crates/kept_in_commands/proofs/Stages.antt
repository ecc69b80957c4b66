-- What stands at a place of another package stays while stages are run: script calls leave it alone, and no part takes it away.
use Rattle.std.proofs.Common.{◌≡◌, ◌≢◌, ◌⊎◌, ◌&&◌, ◌||◌, inl, inr, ℕ, Bool, true, false, cond, List, [], ◌∷◌, Option, Some, None, IsTrue, map, refl, sym, ap, subst, ◌∙◌}
use Rattle.std.specs.Str.{bytes_eq}
use Rattle.std.proofs.lemmas.Bool.{true≢false}
use Rattle.std.proofs.lemmas.Slice.Eq.{bytes_eq-Decides}
use Rattle.host_core.specs.Paths.{Path}
use Rattle.host_core.specs.World.{World, is_kept}
use Rattle.host_core.specs.Events.{Ran, changes_of}
use Rattle.host_core.specs.Host.{Calls, Falls, State, WasDenied, finished}
use Rattle.host_core.specs.declared.call.Call.{Call}
use Rattle.host_core.proofs.Scripts.{changed_kept}
use Rattle.administration.specs.Places.{home_path, is_within}
use Rattle.undo_rows.specs.declared.rows.Called.{Called}
use Rattle.undo_rows.specs.declared.rows.Owner.{Owner}
use Rattle.undo_rows.specs.declared.rows.Row.{Row}
use Rattle.undo_rows.specs.Transcript.{Makes}
use Rattle.diversions.specs.Ways.{Ways}
use Rattle.file_lists.specs.Owners.{places_in}
use Rattle.file_lists.specs.declared.paths.Listed.{Listed}
use Rattle.file_lists.specs.declared.paths.PackageList.{PackageList}
use Rattle.file_removal.specs.Clearing.{cleared, is_among}
use Rattle.file_removal.specs.Removal.{GoesBy, RemovedUnless, Staying}
use Rattle.file_removal.specs.declared.leaving.Leaving.{Leaving}
use Rattle.listed_files.specs.Areas.{is_leaving_place}
use Rattle.removal_engine.specs.Stages.{Deed, deed, planned}
use Rattle.status_records.specs.declared.record.Record.{Record}
use Rattle.stop_laws.proofs.Moments.{All, AllIn}
use Rattle.stop_laws.proofs.Others.{owner_kept}
use Rattle.unit_stages.specs.Holding.{Holding, after_parts}
use Rattle.unit_stages.specs.Parts.{HasDone, HaveDone, part_lists, part_records, parts_lists}
use Rattle.unit_stages.specs.Runs.{DoesParts, HasFailed, HasFallen, HasPassed, HasRestored, HasUndone, HaveRun, kept_by}
use Rattle.unit_stages.specs.declared.part.Part.{Part}
use Rattle.unit_stages.specs.declared.part.Part.TheVariants.{Note, Forget, Settle, Remove, RemoveDirectories, Clear, List as Listing, DropList, DropMembers}
use Rattle.unit_stages.specs.declared.stage.Stage.{Stage}
use Rattle.unpack_steps.specs.Follows.{follow_finished}
use Rattle.unpack_laws.proofs.Passing.{outside_list, outside_member, outside_records}
use Rattle.kept_files.proofs.Aside.{other_owner}
use Rattle.kept_in_commands.proofs.Owners.{Owns, owns_with}
use Rattle.kept_files.specs.Kept.{IsOthersPlace}

neither : (a b : Bool) → a || b ≡ false → (a ≡ false) × (b ≡ false)
neither true b is = absurd (true≢false is)
neither false b is = (refl, is)

not_going : (s : Staying) (directories : Bool) (xs : List Leaving) (old : World) (q : Path) → is_leaving_place xs q ≡ false → GoesBy s directories old xs q → ⊥
not_going s directories [] old q out goes = goes
not_going s directories (x ∷ xs) old q out (inl later) = not_going s directories xs old q (neither (x.goes && bytes_eq q x.place) (is_leaving_place xs q) out).1 later
not_going s directories (x ∷ xs) old q out (inr here) =
    let at : bytes_eq q x.place ≡ true = (bytes_eq-Decides q x.place).1 (sym here.0) in
    true≢false (sym (ap (λ b. b && bytes_eq q x.place) here.1 ∙ at) ∙ (neither (x.goes && bytes_eq q x.place) (is_leaving_place xs q) out).0)

removed_leaves : (declined : Path → Type 0) (directories : Bool) (xs : List Leaving) (old new : World) (q : Path) → is_leaving_place xs q ≡ false → RemovedUnless declined directories xs old new → new q ≡ old q
removed_leaves declined directories xs old new q out removed = elim (removed.2.each q) [
  | inl gone ↦ absurd (not_going removed.0 directories xs old q out gone.0)
  | inr kept ↦ kept.1
]

-- a run from one state to another, which leaves what stands at the path, and lists that have it
module _ (q : Path) (ways : Ways) (x : Listed) where
  pub record Passes (h : Holding) (s t : State) : Type 0 where
    pub honest : Falls s t
    pub leaves : IsTrue t.honest → t.world q ≡ s.world q
    pub owns : Owns ways q x h.lists

  pub passes_then : (h g : Holding) (s m t : State) → Passes h s m → Passes g m t → Passes g s t
  passes_then h g s m t first second = record {
    honest = λ is. first.honest (second.honest is);
    leaves = λ is. second.leaves is ∙ first.leaves (second.honest is);
    owns = second.owns;
  }

  pub passes_still : (h : Holding) (s : State) → Owns ways q x h.lists → Passes h s s
  passes_still h s owns = record { honest = λ is. is; leaves = λ is. refl; owns = owns }

  pub passes_same : (h g : Holding) (s t : State) → g ≡ h → t ≡ s → Owns ways q x h.lists → Passes g s t
  passes_same h g s t held here owns = subst (λ (k : Holding). Passes k s t) (sym held) (subst (λ (u : State). Passes h s u) (sym here) (passes_still h s owns))

module _ (q : Path) (out : is_within home_path q ≡ false) where
  -- a deed that takes nothing away there
  abbrev pub Leaves : Deed → Type 0
  Leaves (Deed.Notes r) = Unit {0}
  Leaves Deed.Forgets = Unit {0}
  Leaves (Deed.Settles conffiles) = ⊥
  Leaves (Deed.Removes leaving) = is_leaving_place leaving q ≡ false
  Leaves (Deed.RemovesDirectories leaving) = is_leaving_place leaving q ≡ false
  Leaves (Deed.Clears names) = is_among names q ≡ false
  Leaves (Deed.Lists paths) = Unit {0}
  Leaves Deed.DropsList = Unit {0}
  Leaves (Deed.DropsMembers keep_postrm) = Unit {0}

  module _ (name : List ℕ) where
    part_leaves : (declined : Path → Type 0) (part : Part) (rs : List Record) (v w : World) → Leaves (deed part) → HasDone name declined part rs v w → w q ≡ v q
    part_leaves declined (Note r) rs v w leaves has = has.rest q (outside_records q out)
    part_leaves declined Forget rs v w leaves has = has.rest q (outside_records q out)
    part_leaves declined (Settle conffiles) rs v w leaves has = absurd leaves
    part_leaves declined (Remove leaving) rs v w leaves has = removed_leaves declined false leaving.items v w q leaves has
    part_leaves declined (RemoveDirectories leaving) rs v w leaves has = removed_leaves declined true leaving.items v w q leaves has
    part_leaves declined (Clear names) rs v w leaves has = has.each q ∙ ap (λ b. cond b (cleared (v q)) (v q)) leaves
    part_leaves declined (Listing paths) rs v w leaves has = has.rest q (outside_list q out name).0 (outside_list q out name).1
    part_leaves declined DropList rs v w leaves has = has.rest q (outside_list q out name).0
    part_leaves declined (DropMembers keep_postrm) rs v w leaves has = has.taken.rest q (λ member is. (outside_member q out name member).0)

    parts_leave : (declined : Path → Type 0) (parts : List Part) (rs : List Record) (v w : World) → All Leaves (map deed parts) → HaveDone name declined parts rs v w → w q ≡ v q
    parts_leave declined [] rs v w leaves same = ap (λ (u : World). u q) same
    parts_leave declined (part ∷ parts) rs v w leaves done =
        parts_leave declined parts (part_records name part rs) done.0 w leaves.1 done.2 ∙ part_leaves declined part rs v done.0 leaves.0 done.1

    module _ (ways : Ways) (x : Listed) (other : x.name ≢ name) where
      part_owns : (part : Part) (lists : List PackageList) → Owns ways q x lists → Owns ways q x (part_lists name part lists)
      part_owns (Note r) lists owns = owns
      part_owns Forget lists owns = owns
      part_owns (Settle conffiles) lists owns = owns
      part_owns (Remove leaving) lists owns = owns
      part_owns (RemoveDirectories leaving) lists owns = owns
      part_owns (Clear names) lists owns = owns
      part_owns (Listing paths) lists owns = owns_with ways q x name other paths lists owns
      part_owns DropList lists owns = owns
      part_owns (DropMembers keep_postrm) lists owns = owns

      pub parts_own : (parts : List Part) (lists : List PackageList) → Owns ways q x lists → Owns ways q x (parts_lists name parts lists)
      parts_own [] lists owns = owns
      parts_own (part ∷ parts) lists owns = parts_own parts (part_lists name part lists) (part_owns part lists owns)

      -- script calls

      kept_at : (h : Holding) → Owns ways q x h.lists → kept_by ways h q ≡ true
      kept_at h owns = owner_kept ways name q h.lists (other_owner ways h.lists name q (record { owner = x; lies = owns; other = other }))

      calls_leave : (h : Holding) (P : List Ran → Type 0) (s t : State) (told now : List Called) → Owns ways q x h.lists → Makes (kept_by ways h) P s t told now → IsTrue t.honest → t.world q ≡ s.world q
      calls_leave h P s t told now owns makes honest =
          let calls = makes.1 in
          ap (λ (w : World). w q) (calls.goes.world ∙ follow_finished makes.0 s.world)
          ∙ changed_kept (kept_by ways h) (changes_of (finished makes.0)) s.world (calls.avoids honest) q (kept_at h owns)

      does_pass : (parts : List Part) (h : Holding) (s t : State) → All Leaves (map deed parts) → Owns ways q x h.lists → DoesParts name parts h s t → Passes q ways x (after_parts name parts h) s t
      does_pass parts h s t leaves owns does = record {
        honest = does.silent.honest;
        leaves = λ is. parts_leave (WasDenied s t) parts h.records s.world t.world leaves (does.done is);
        owns = parts_own parts h.lists owns;
      }

      calls_pass : (h : Holding) (P : List Ran → Type 0) (s t : State) (told now : List Called) → Owns ways q x h.lists → Makes (kept_by ways h) P s t told now → Passes q ways x h s t
      calls_pass h P s t told now owns makes = record { honest = makes.1.goes.honest; leaves = λ is. calls_leave h P s t told now owns makes is; owns = owns }

      restored_pass : (owners : List Owner) (restore : List Part) (before after : Holding) (s t : State) → All Leaves (map deed restore) → Owns ways q x before.lists → HasRestored name ways owners restore before after s t → Passes q ways x after s t
      restored_pass owners restore before after s t leaves owns (HasRestored.restored none does is) = subst (λ (h : Holding). Passes q ways x h s t) (sym is) (does_pass restore before s t leaves owns does)
      restored_pass owners restore before after s t leaves owns (HasRestored.left some same is) =
          passes_same q ways x before after s t is same owns

      fallen_pass : (row : Row) (restore : List Part) (failed : Option Call) (before after : Holding) (s t : State) (told now : List Called) → All Leaves (map deed restore) → Owns ways q x before.lists
          → HasFallen name ways row restore failed before after s t told now → Passes q ways x after s t
      fallen_pass row restore failed before after s t told now leaves owns fell =
          passes_then q ways x before after s fell.tried t (calls_pass before _ s fell.tried told fell.so_far owns fell.calls)
          (passes_then q ways x before after fell.tried fell.undo.undone t (calls_pass before _ fell.tried fell.undo.undone fell.so_far now owns fell.undo.undo)
          (restored_pass fell.undo.owners restore before after fell.undo.undone t leaves owns fell.undo.restored))

      passed_pass : (stage : Stage) (h : Holding) (s t : State) (told now : List Called) → All Leaves (map deed stage.parts.items) → Owns ways q x h.lists → HasPassed name ways stage h s t told now → Passes q ways x (after_parts name stage.parts.items h) s t
      passed_pass stage h s t told now leaves owns passed =
          let first = does_pass stage.parts.items h s passed.ready leaves owns passed.parts in
          passes_then q ways x (after_parts name stage.parts.items h) (after_parts name stage.parts.items h) s passed.ready t first
          (calls_pass (after_parts name stage.parts.items h) _ passed.ready t told now first.owns passed.calls)

      failed_pass : (stage : Stage) (failed : Option Call) (before after : Holding) (s t : State) (told now : List Called) → All Leaves (map deed stage.parts.items) → All Leaves (map deed stage.restore.items) → Owns ways q x before.lists
          → HasFailed name ways stage failed before after s t told now → Passes q ways x after s t
      failed_pass stage failed before after s t told now leaves restores owns has =
          let first = does_pass stage.parts.items before s has.ready leaves owns has.parts in
          passes_then q ways x (after_parts name stage.parts.items before) after s has.ready t first
          (fallen_pass stage.row stage.restore.items failed (after_parts name stage.parts.items before) after has.ready t told now restores first.owns has.fell)

      pub run_passes : (stages : List Stage) (failed : Option Call) (before after : Holding) (s t : State) (told now : List Called) → AllIn Leaves (map planned stages) → Owns ways q x before.lists
          → HaveRun name ways stages failed before after s t told now → Passes q ways x after s t
      run_passes [] failed before after s t told now leaves owns run =
          passes_same q ways x before after s t run.1 run.2 owns
      run_passes (stage ∷ stages) failed before after s t told now leaves owns (inl passed) =
          let first = passed_pass stage before s passed.mid told passed.more leaves.0.0 owns passed.passed in
          passes_then q ways x (after_parts name stage.parts.items before) after s passed.mid t first
          (run_passes stages failed (after_parts name stage.parts.items before) after passed.mid t passed.more now leaves.1 first.owns passed.further)
      run_passes (stage ∷ stages) failed before after s t told now leaves owns (inr fell) =
          failed_pass stage failed before after s t told now leaves.0.0 leaves.0.1 owns fell
