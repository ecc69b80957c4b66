-- How script calls and notes come after one another, and what they leave alone.
use Rattle.std.specs.Prelude.{◌≡◌, ◌||◌, ℕ, Bool, true, false, List, [], ◌∷◌, ◌++◌, codes, nat_eq}
use Rattle.std.specs.List.{list_any, starts_with}
use Rattle.std.specs.Str.{bytes_eq}
use Rattle.std.proofs.Common.{refl, sym, ◌∙◌, ap, subst, append_assoc}
use Rattle.std.proofs.lemmas.Bool.{true≢false}
use Rattle.std.proofs.lemmas.List.{append-nil}
use Rattle.std.proofs.lemmas.Slice.Eq.{bytes_eq-Decides}
use Rattle.host_core.specs.Paths.{Path, is_named_by, is_own, is_owned_by, own_places}
use Rattle.host_core.specs.World.{World, Change, changed, Avoids, IsDirectory, KeepsBut, SameOn, is_kept}
use Rattle.host_core.specs.Events.{Event, Finished, Ran, changes_of, follow_all, scripts_of}
use Rattle.host_core.specs.Host.{finished}
use Rattle.host_core.proofs.Scripts.{Avoids-append, changed-append, changed_at}
use Rattle.administration.specs.Files.{NoDirectory}
use Rattle.administration.specs.Places.{home_path, info_path, list_path, status_path, temporary, updates_path}
use Rattle.file_lists.specs.Writing.{IsListReady}
use Rattle.package_files.specs.declared.work.Work.{Work}
use Rattle.status_db.specs.Held.{AreKept, is_record_place}
use Rattle.status_records.specs.declared.record.Record.{Record}
use Rattle.status_db.proofs.NotedWorlds.{kept_on}
use Rattle.unpack_rows.specs.Stages.{Stage, Unwritten, Wrote, Restored}
use Rattle.unpack_steps.specs.Task.{Task, all_places, places_at}
use Rattle.unpack_steps.specs.Trail.{Follows, HasCome, HasFiles, HasGoneBack}

-- nothing was done
pub follows_none : (places : List Path) (w : World) → Follows places [] w w
follows_none places w = record { avoids = tt; rest = λ q out. refl }

-- a note alone
pub follows_note : (places : List Path) (v w : World) → KeepsBut is_record_place v w → Follows places [] v w
follows_note places v w keeps = record { avoids = tt; rest = keeps }

-- script calls alone
pub follows_scripts : (places : List Path) (c : Change) (v w : World) → w ≡ changed c v → Avoids (is_kept places) c → Follows places c v w
follows_scripts places c v w is avoids = record { avoids = avoids; rest = λ q out. ap (λ (x : World). x q) is }

pub follows_then : (places : List Path) (c d : Change) (u v w : World) → Follows places c u v → Follows places d v w → Follows places (c ++ d) u w
follows_then places c d u v w first second = record {
  avoids = Avoids-append (is_kept places) c d first.avoids second.avoids;
  rest = λ q out. second.rest q out ∙ changed_at d v (changed c u) q (first.rest q out) ∙ ap (λ (x : World). x q) (sym (changed-append c d u));
}

-- calls and notes after the moves of the file row
module _ (t : Task) (works : List Work) (c d : Change) (v w : World) where
  pub files_then : HasFiles t works c v → Follows (all_places t) d v w → HasFiles t works (c ++ d) w
  files_then has next = record {
    early = has.early;
    late = has.late ++ d;
    changes = ap (λ (l : Change). l ++ d) has.changes ∙ append_assoc has.early has.late d;
    found = has.found;
    written = has.written;
    before = has.before;
    home = has.home;
    listed = has.listed;
    from = has.from;
    since = follows_then (all_places t) has.late d has.written v w has.since next;
  }

  pub gone_back_then : HasGoneBack t works c v → Follows t.places d v w → HasGoneBack t works (c ++ d) w
  gone_back_then has next = record {
    early = has.early;
    late = has.late ++ d;
    changes = ap (λ (l : Change). l ++ d) has.changes ∙ append_assoc has.early has.late d;
    back = has.back;
    put = has.put;
    since = follows_then t.places has.late d has.back v w has.since next;
  }

  pub come_then : (stage : Stage) → HasCome t stage works c v → Follows (places_at t stage) d v w → HasCome t stage works (c ++ d) w
  come_then Unwritten has next = follows_then t.places c d t.start.world v w has next
  come_then Wrote has next = files_then has next
  come_then Restored has next = gone_back_then has next

-- a note after them
pub come_noted : (t : Task) (works : List Work) (c : Change) (v w : World) (stage : Stage) → KeepsBut is_record_place v w → HasCome t stage works c v → HasCome t stage works c w
come_noted t works c v w stage keeps has =
    subst (λ d. HasCome t stage works d w) (append-nil c) (come_then t works c [] v w stage has (follows_note (places_at t stage) v w keeps))

-- the names of the administration are kept

true_or : (a b : Bool) → b ≡ true → a || b ≡ true
true_or true b is = refl
true_or false b is = is

or_cases : (a b c : Bool) → (a ≡ true → c ≡ true) → (b ≡ true → c ≡ true) → a || b ≡ true → c ≡ true
or_cases true b c first second is = first refl
or_cases false b c first second is = second is

own_is : (p q : Path) → is_own p ≡ true → bytes_eq q p ≡ true → is_own q ≡ true
own_is p q own same = subst (λ x. is_own x ≡ true) (sym ((bytes_eq-Decides q p).0 same)) own

own_note : (q : Path) → starts_with nat_eq q (updates_path ++ codes "/") ≡ true → is_own q ≡ true
own_note q below = true_or (bytes_eq q (codes "/var/lib/dpkg")) (list_any (is_owned_by q) own_places)
    (true_or (is_owned_by q status_path) _ (or_first _ _ (true_or _ (starts_with nat_eq q (updates_path ++ codes "/")) below)))
  where
    or_first : (a b : Bool) → a ≡ true → a || b ≡ true
    or_first true b is = refl
    or_first false b is = absurd (true≢false (sym is))

pub own_record : (q : Path) → is_record_place q ≡ true → is_own q ≡ true
own_record q = or_cases (bytes_eq q status_path) _ (is_own q) (own_is status_path q refl)
    (or_cases (bytes_eq q (temporary status_path)) _ (is_own q) (own_is (temporary status_path) q refl) (own_note q))

kept_own : (places : List Path) (q : Path) → is_own q ≡ true → is_kept places q ≡ true
kept_own places q own = ap (λ b. b || list_any (is_named_by q) places) own

no_directory : (v w : World) (q : Path) → w q ≡ v q → NoDirectory (v q) → NoDirectory (w q)
no_directory v w q same none is = none (subst IsDirectory same is)

pub ready_same : (name : Path) (v w : World) → w info_path ≡ v info_path → w (list_path name) ≡ v (list_path name) → w (temporary (list_path name)) ≡ v (temporary (list_path name)) → IsListReady name v → IsListReady name w
ready_same name v w info target spare ready = record {
  info = subst IsDirectory (sym info) ready.info;
  target = no_directory v w (list_path name) target ready.target;
  spare = no_directory v w (temporary (list_path name)) spare ready.spare;
}

-- what is kept stays: the records, and that a list can be written
module _ (places : List Path) (v w : World) (same : SameOn (is_kept places) v w) where
  pub records_kept : (rs : List Record) (notes : ℕ) → AreKept rs notes v → AreKept rs notes w
  records_kept rs notes kept = kept_on v w rs notes (λ q is. same q (kept_own places q (own_record q is)))
      (subst IsDirectory (sym (same home_path refl)) kept.unblocked.home) (subst IsDirectory (sym (same updates_path refl)) kept.unblocked.updates) kept

  pub ready_kept : (name : Path) → IsListReady name v → IsListReady name w
  ready_kept name ready = ready_same name v w (same info_path refl) (same (list_path name) refl) (same (temporary (list_path name)) refl) ready

-- a note leaves the list's places
pub ready_noted : (name : Path) (v w : World) → KeepsBut is_record_place v w → IsListReady name v → IsListReady name w
ready_noted name v w keeps ready = ready_same name v w (keeps info_path refl) (keeps (list_path name) refl) (keeps (temporary (list_path name)) refl) ready

-- script calls as events

pub scripts_of-finished : (ts : List Ran) → scripts_of (finished ts) ≡ finished ts
scripts_of-finished [] = refl
scripts_of-finished (t ∷ ts) = ap (λ (l : List Event). Finished t ∷ l) (scripts_of-finished ts)

pub follow_finished : (ts : List Ran) (w : World) → follow_all (finished ts) w ≡ changed (changes_of (finished ts)) w
follow_finished [] w = refl
follow_finished (t ∷ ts) w = follow_finished ts (changed t.change w) ∙ sym (changed-append t.change (changes_of (finished ts)) w)
