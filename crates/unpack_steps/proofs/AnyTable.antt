-- Rows before that of the files go by any table of diversions.
use Rattle.std.proofs.Common.{◌≡◌, ◌≢◌, ◌||◌, ℕ, ◌<◌, zero, suc, Bool, true, false, cond, not, List, [], ◌∷◌, ◌++◌, Option, Some, None, IsTrue, length, take, get_or, refl, sym, ap, subst, ◌∙◌, append_assoc, arith}
use Rattle.std.proofs.lemmas.Bool.{true≢false}
use Rattle.std.proofs.lemmas.List.{append-nil}
use Rattle.host_core.specs.World.{Change}
use Rattle.host_core.specs.Events.{Event, Did, Finished, Cut, Failed, Denied, Ran, changes_of, scripts_of}
use Rattle.host_core.specs.Host.{State, AllFailed, Reads, finished}
use Rattle.host_core.proofs.Moments.{scripts_of-append}
use Rattle.host_core.proofs.Scripts.{changes_of-append}
use Rattle.diversions.specs.Ways.{Ways}
use Rattle.file_check.specs.Ready.{IsFitting}
use Rattle.package_files.specs.Files.{Each}
use Rattle.package_files.specs.Names.{IsNamed}
use Rattle.package_files.specs.declared.work.Work.{Work}
use Rattle.undo_rows.specs.declared.fall.Fall.{Fall}
use Rattle.undo_rows.specs.declared.fall.StepFault.{StepFault}
use Rattle.undo_rows.specs.declared.rows.Owner.{Owner}
use Rattle.undo_rows.specs.declared.rows.Owner.TheVariants.{Files as OfFiles}
use Rattle.undo_rows.specs.declared.rows.Row.{Row}
use Rattle.undo_rows.specs.Place.{Fit, Forward}
use Rattle.undo_rows.specs.Transcript.{Goes, Succeed}
use Rattle.unpack_rows.specs.ForwardRows.{Fits}
use Rattle.unpack_rows.specs.Kinds.{owner_of}
use Rattle.unpack_rows.specs.Stages.{Stage, Unwritten, Wrote, has_files, is_files, stage_of}
use Rattle.unpack_rows.specs.declared.kinds.RowKind.{RowKind}
use Rattle.unpack_rows.specs.declared.kinds.RowKind.TheVariants.{Prerm, Other, Preinst, Files, Postrm}
use Rattle.unpack_steps.specs.At.{AreWorksAt, At, Holding, IsThere}
use Rattle.unpack_steps.specs.Task.{IsSound, Task, based_on, kinds, lists_at, places_at}
use Rattle.unpack_steps.specs.Trail.{HasCome}
use Rattle.unpack_steps.specs.Underway.{holding_works, with_places}

-- where it was only looked

looked_scripts : (es : List Event) → AllFailed es → scripts_of es ≡ []
looked_scripts [] all = refl
looked_scripts (Did s ∷ es) all = absurd all
looked_scripts (Finished ran ∷ es) all = absurd all
looked_scripts (Cut call change ∷ es) all = absurd all
looked_scripts (Failed ∷ es) all = looked_scripts es all
looked_scripts (Denied path ∷ es) all = absurd all

looked_changes : (es : List Event) → AllFailed es → changes_of es ≡ []
looked_changes [] all = refl
looked_changes (Did s ∷ es) all = absurd all
looked_changes (Finished ran ∷ es) all = absurd all
looked_changes (Cut call change ∷ es) all = absurd all
looked_changes (Failed ∷ es) all = looked_changes es all
looked_changes (Denied path ∷ es) all = absurd all

module _ (t : Task) (ways : Ways) (works : List Work) (g : Holding) (s u : State) (k : ℕ) (none : has_files (take k (kinds t)) ≡ false) where
  abbrev other : Task
  other = with_places ways works t

  unwritten : stage_of (kinds t) (Forward k) ≡ Unwritten
  unwritten = ap (λ b. cond b Wrote Unwritten) none

  other_sound : Each IsNamed works → Each IsFitting works → IsSound t → IsSound other
  other_sound named fitting sound = record {
    named = sound.named;
    concerned = sound.concerned;
    standing = sound.standing;
    union = sound.union;
    listed = sound.listed;
    works = named;
    fitting = fitting;
  }

  pub at_by_any : Each IsNamed works → Each IsFitting works → Reads s u → At t g s (Forward k) → At other (holding_works works g) u (Forward k)
  at_by_any named fitting reads at =
      let changes : changes_of (at.since ++ reads.added) ≡ changes_of at.since
      = changes_of-append at.since reads.added ∙ ap (λ (c : Change). changes_of at.since ++ c) (looked_changes reads.added reads.failed) ∙ append-nil (changes_of at.since) in
      record {
        sound = other_sound named fitting at.sound;
        falls = λ h. at.falls (reads.honest h);
        within = at.within;
        records = at.records;
        opened = at.opened;
        lists = at.lists ∙ ap (lists_at t) unwritten ∙ sym (ap (lists_at other) unwritten);
        lists_open = at.lists_open;
        places = at.places ∙ ap (places_at t) unwritten ∙ sym (ap (places_at other) unwritten);
        works = subst (λ (x : Stage). AreWorksAt other (Forward k) x works) (sym unwritten) refl;
        since = at.since ++ reads.added;
        events = reads.events ∙ ap (λ (l : List Event). l ++ reads.added) at.events ∙ append_assoc t.start.events at.since reads.added;
        ran = at.ran;
        ended = scripts_of-append at.since reads.added ∙ ap (λ (l : List Event). scripts_of at.since ++ l) (looked_scripts reads.added reads.failed) ∙ append-nil (scripts_of at.since) ∙ at.ended;
        base = at.base;
        cleared = λ h. at.cleared (reads.honest h);
        members = λ h. at.members (reads.honest h);
        world = λ h.
            let there = at.world (reads.honest h) in
            subst (λ w. IsThere (based_on other at.base) (holding_works works g) (Forward k) (changes_of (at.since ++ reads.added)) w) (sym reads.world)
            (subst (λ c. IsThere (based_on other at.base) (holding_works works g) (Forward k) c s.world) (sym changes)
            (record {
              kept = there.kept;
              ready = there.ready;
              came = subst (λ (x : Stage). HasCome (based_on other at.base) x works (changes_of at.since) s.world) (sym unwritten)
                  (subst (λ (x : Stage). HasCome (based_on t at.base) x g.works (changes_of at.since) s.world) unwritten there.came);
            }));
      }

-- which rows these are

or_left : (a b : Bool) → a || b ≡ false → a ≡ false
or_left true b is = is
or_left false b is = refl

or_right : (a b : Bool) → a || b ≡ false → b ≡ false
or_right true b is = absurd (true≢false is)
or_right false b is = is

no_files_owner : (name : List ℕ) (k : RowKind) → is_files k ≡ false → owner_of name k ≡ OfFiles → ⊥
no_files_owner name Prerm none is = cc
no_files_owner name (Other r) none is = cc
no_files_owner name Preinst none is = cc
no_files_owner name Files none is = absurd (true≢false none)
no_files_owner name Postrm none is = cc

module _ (F G : List Ran → Option StepFault → Type 0) where
  -- a row of calls has no step fault
  called_by_any : (past : List Ran) (row : Row) (ts : List Ran) (fall : Option Fall) → row.owner ≢ OfFiles → Goes F past row ts fall → Goes G past row ts fall
  called_by_any past row ts fall calls (Goes.wrote files gives) = absurd (calls files)
  called_by_any past row ts fall calls (Goes.clashed fault f files gives is) = absurd (calls files)
  called_by_any past row ts fall calls (Goes.succeeded own kept tries) = Goes.succeeded ts calls tries
  called_by_any past row ts fall calls (Goes.failed own f kept tries is) = Goes.failed ts f calls tries is

  pub succeed_by_any : (name : List ℕ) (kinds : List RowKind) (rows : List Row) → Fit (Fits name kinds) rows → has_files (take (length rows) kinds) ≡ false → (past ts : List Ran) → Succeed F past rows ts → Succeed G past rows ts
  succeed_by_any name kinds [] fit none past ts all = all
  succeed_by_any name [] (row ∷ rows) fit none past ts all = absurd (omega (arith, (fit 0 row (omega arith) refl).0))
  succeed_by_any name (kind ∷ kinds) (row ∷ rows) fit none past ts all =
      let calls : row.owner ≢ OfFiles = λ files. no_files_owner name kind (or_left (is_files kind) (has_files (take (length rows) kinds)) none) (sym ((fit 0 row (omega arith) refl).1 kind refl) ∙ files) in (
        all.0,
        all.1,
        all.2,
        called_by_any past row all.0 None calls all.3,
        succeed_by_any name kinds rows
            (λ i r within at. let here = fit (suc i) r (omega (arith, within)) at in (omega (arith, here.0), λ k is. here.1 k is))
            (or_right (is_files kind) (has_files (take (length rows) kinds)) none) (past ++ all.0) all.1 all.4,
      )
