-- The paths that a plan touches, by what is given: those at which the unit does nothing, and the lists of packages that keep
-- their places.
use Rattle.std.proofs.Common.{◌≡◌, ◌≢◌, ◌||◌, inl, inr, ℕ, zero, suc, Bool, true, false, cond, not, List, [], ◌∷◌, ◌++◌, Option, Some, Contains, map, filter, refl, sym, ap, subst, ◌∙◌, arith}
use Rattle.std.specs.List.{list_any}
use Rattle.std.specs.Str.{bytes_eq}
use Rattle.std.proofs.lemmas.Bool.{cond-false, false_from_ne_true, or_from, true≢false}
use Rattle.std.proofs.lemmas.List.Elements.{Contains-append_right}
use Rattle.std.proofs.lemmas.List.Folds.{list_any-append}
use Rattle.std.proofs.lemmas.Slice.Eq.{bytes_eq-Decides}
use Rattle.host_core.specs.Paths.{Path}
use Rattle.host_core.specs.Host.{State}
use Rattle.host_core.specs.World.{is_directory}
use Rattle.host_core.specs.declared.node.Kind.{Kind}
use Rattle.host_core.specs.declared.node.Node.{Node}
use Rattle.host_core.specs.declared.node.Node.TheVariants.{File, Dir, Link}
use Rattle.administration.specs.Places.{home_path, list_path, temporary, tmp_path, is_within}
use Rattle.administration.proofs.Within.{within_is}
use Rattle.control_members.specs.Stored.{stored_member_path}
use Rattle.diversions.specs.Ways.{place}
use Rattle.file_lists.specs.Owners.{paths_of}
use Rattle.file_lists.specs.Writing.{with_list}
use Rattle.file_lists.specs.declared.paths.PackageList.{PackageList}
use Rattle.file_lists.proofs.TakingAll.{paths_with}
use Rattle.file_removal.specs.Clearing.{is_among}
use Rattle.file_check.specs.Rearranged.{IsRearranged}
use Rattle.package_files.specs.declared.work.Work.{Work}
use Rattle.package_files.specs.Files.{Each, Misses}
use Rattle.package_files.proofs.WorkLists.{each_of}
use Rattle.status_db.specs.Held.{is_record_place}
use Rattle.unpack_commit.specs.Takeover.{is_at, is_taken, taken_places}
use Rattle.unpack_commit.proofs.Left.{list_within, member_within}
use Rattle.listed_files.specs.Areas.{is_leaving_place}
use Rattle.listed_files.proofs.Closings.{below_within}
use Rattle.unpack_plan.specs.Lists.{old_leaving}
use Rattle.unpack_plan.specs.Names.{backups, cut_names, known_conffiles, left_names}
use Rattle.unpack_plan.specs.Planned.{IsPlanned, Planned}
use Rattle.unpack_plan.specs.Records.{IsFresh}
use Rattle.unpack_rows.specs.Stages.{Stage, Unwritten, Wrote, Restored}
use Rattle.unpack_rows.specs.declared.rows.Present.{Present}
use Rattle.unpack_steps.specs.FileMoves.{places_of}
use Rattle.unpack_steps.specs.Task.{lists_at}
use Rattle.unpack_steps.proofs.Rearranged.{each_rearranged}
use Rattle.unpack_steps.proofs.Standing.{record_below}
use Rattle.unpack_engine.specs.Others.{is_other_package, yields_beside}
use Rattle.unpack_engine.specs.Units.{Given, Ground, ground_of, job_of, package_name, task_from, unit_losers}
use Rattle.unpack_engine.proofs.Losing.{among_kept, kept_passes}
use Rattle.unpack_laws.specs.InHand.{IsNoCut, IsNoLeaving, IsPassedBy, KeepsPlaces, LosesPlaces, file_places, unit_file_places, unit_found, unit_listed, unit_name, unit_works, unit_yielding, unit_yields}
use Rattle.unpack_laws.proofs.Alone.{IsAlone}

-- what is outside the administration's directory

outside_is : (q p : Path) → is_within home_path q ≡ false → is_within home_path p ≡ true → q ≢ p
outside_is q p out within e = true≢false (sym within ∙ ap (is_within home_path) (sym e) ∙ out)

tmp_within : (q : Path) → is_within tmp_path q ≡ true → is_within home_path q ≡ true
tmp_within q within = elim (within_is tmp_path q within) [
  | inl is ↦ ap (is_within home_path) is
  | inr more ↦ ap (is_within home_path) more.1
]

pub outside_tmp : (q : Path) → is_within home_path q ≡ false → is_within tmp_path q ≡ false
outside_tmp q out = false_from_ne_true (is_within tmp_path q) (λ is. true≢false (sym (tmp_within q is) ∙ out))

pub outside_records : (q : Path) → is_within home_path q ≡ false → is_record_place q ≡ false
outside_records q out = false_from_ne_true (is_record_place q) (λ is. true≢false (sym (below_within q (record_below q is)) ∙ out))

pub outside_list : (q : Path) → is_within home_path q ≡ false → (name : List ℕ) → (q ≢ list_path name) × (q ≢ temporary (list_path name))
outside_list q out name = (outside_is q (list_path name) out (list_within name), outside_is q (temporary (list_path name)) out refl)

pub outside_member : (q : Path) → is_within home_path q ≡ false → (owner name : Path) → (q ≢ stored_member_path owner name) × (q ≢ temporary (stored_member_path owner name))
outside_member q out owner name = (outside_is q (stored_member_path owner name) out (member_within owner name), outside_is q (temporary (stored_member_path owner name)) out refl)

-- the names of works

pub no_backup : (works : List Work) (q : Path) → Each (λ x. Misses x q) works → is_among (backups works) q ≡ false
no_backup [] q miss = refl
no_backup (x ∷ works) q miss =
    or_from (bytes_eq q x.backup) (is_among (backups works) q) (false_from_ne_true (bytes_eq q x.backup) (λ e. miss.0.backup ((bytes_eq-Decides q x.backup).0 e))) (no_backup works q miss.1)

-- some path of a list that passes a test
pub any_of : (test : Path → Bool) (paths : List Path) → list_any test paths ≡ true → (path : Path) × Contains paths path × (test path ≡ true)
any_of test [] any = absurd (true≢false (sym any))
any_of test (p ∷ ps) any = by (test p) refl any (any_of test ps)
  where
    by : (b : Bool) → test p ≡ b → b || list_any test ps ≡ true → (list_any test ps ≡ true → (path : Path) × Contains ps path × (test path ≡ true)) → (path : Path) × Contains (p ∷ ps) path × (test path ≡ true)
    by true is all later = (p, (zero, omega arith, refl), is)
    by false is all later = let more = later all in (more.0, Contains-append_right (p ∷ []) ps more.0 more.1, more.2)

among_has : (places : List Path) (q : Path) → list_any (bytes_eq q) places ≡ true → Contains places q
among_has places q any = let one = any_of (bytes_eq q) places any in subst (λ (p : Path). Contains places p) (sym ((bytes_eq-Decides q one.0).0 one.2)) one.1

-- a work that has its place among these, where it is of a file or a link
abbrev pub IsFileAmong : List Path → Work → Type 0
IsFileAmong places x = not (is_directory (Some x.node)) ≡ true → Contains places x.place

module _ (x : Work) (xs : List Work) where
  abbrev places_with : Bool → List Path
  places_with b = places_of (cond b (x ∷ filter (λ y. not (is_directory (Some y.node))) xs) (filter (λ y. not (is_directory (Some y.node))) xs))

  first_file : (b : Bool) → b ≡ true → Contains (places_with b) x.place
  first_file b is = subst (λ c. Contains (places_with c) x.place) (sym is) (zero, omega arith, refl)

  later_file : (b : Bool) (q : Path) → Contains (file_places xs) q → Contains (places_with b) q
  later_file true q has = Contains-append_right (x.place ∷ []) (file_places xs) q has
  later_file false q has = has

files_have : (xs : List Work) → Each (IsFileAmong (file_places xs)) xs
files_have [] = tt
files_have (x ∷ xs) =
    let file = not (is_directory (Some x.node)) in (
      first_file x xs file,
      each_of (IsFileAmong (file_places xs)) (IsFileAmong (file_places (x ∷ xs))) (λ y has is. later_file x xs file y.place (has is)) xs (files_have xs),
    )

files_listed : (xs ys : List Work) → IsRearranged xs ys → Each (IsFileAmong (file_places xs)) ys
files_listed xs ys moved = each_rearranged (IsFileAmong (file_places xs)) (λ y has. has) (λ y has. has) xs ys moved (files_have xs)

-- the places that are taken are those of files and links
taken_file : (node : Node) (had : Option Kind) → is_taken node had ≡ true → not (is_directory (Some node)) ≡ true
taken_file (File bytes access) had is = refl
taken_file (Dir access) had is = absurd (true≢false (sym is))
taken_file (Link target) had is = refl

taken_among : (places : List Path) (works : List Work) (q : Path) → Each (IsFileAmong places) works → Contains (taken_places works) q → Contains places q
taken_among places [] q all has = absurd (omega (arith, has.1))
taken_among places (x ∷ works) q all has = by (is_taken x.node x.had) refl (taken_among places works q all.1) has
  where
    by : (b : Bool) → is_taken x.node x.had ≡ b → (Contains (taken_places works) q → Contains places q)
        → Contains (map (λ (y : Work). y.place) (cond b (x ∷ filter (λ y. is_taken y.node y.had) works) (filter (λ y. is_taken y.node y.had) works))) q → Contains places q
    by true is rest (zero, lt, same) = subst (λ (at : Path). Contains places at) same (all.0 (taken_file x.node x.had is))
    by true is rest (suc k, lt, same) = rest (k, omega (arith, lt), same)
    by false is rest there = rest there

-- what passes a filter is kept
kept_among : {X : Type 0} (keep : X → Bool) (xs : List X) (y : X) → Contains xs y → keep y ≡ true → Contains (filter keep xs) y
kept_among keep [] y has is = absurd (omega (arith, has.1))
kept_among keep (x ∷ xs) y has is = by (keep x) refl (λ later. kept_among keep xs y later is) has
  where
    by : (b : Bool) → keep x ≡ b → (Contains xs y → Contains (filter keep xs) y) → Contains (x ∷ xs) y → Contains (cond b (x ∷ filter keep xs) (filter keep xs)) y
    by true e rest (zero, lt, same) = (zero, omega arith, same)
    by true e rest (suc k, lt, same) = Contains-append_right (x ∷ []) (filter keep xs) y (rest (k, omega (arith, lt), same))
    by false e rest (zero, lt, same) = absurd (true≢false (sym is ∙ ap keep (sym same) ∙ e))
    by false e rest (suc k, lt, same) = rest (k, omega (arith, lt), same)

-- what another package lists stays while the rows run
module _ (own q : List ℕ) (other : q ≢ own) (lists : List PackageList) where
  pub with_other : (paths : List Path) → paths_of (with_list own paths lists) q ≡ paths_of lists q
  with_other paths = paths_with lists own q paths ∙ cond-false (bytes_eq q own) paths (paths_of lists q) (false_from_ne_true (bytes_eq q own) (λ e. other ((bytes_eq-Decides q own).0 e)))

-- a package that keeps its places loses none
pub keeps_or_loses : (g : Given) (q : List ℕ) (taken : List Path) → KeepsPlaces g q → LosesPlaces g q taken → ⊥
keeps_or_loses g q taken (inl stays) is = stays (among_kept _ (unit_yields g) q is.loses)
keeps_or_loses g q taken (inr apart) is =
    let one = any_of (is_at g.ways taken q) (paths_of g.lists q) (kept_passes (λ n. list_any (is_at g.ways taken n) (paths_of g.lists n)) (unit_yields g) q is.loses) in
    apart one.0 one.1 (is.shipped (place g.ways q one.0) (among_has taken (place g.ways q one.0) one.2))

module _ (g : Given) (stored : Present) (p : Planned) (plan : IsPlanned (job_of g stored) p) (places : List Path) where
  abbrev here : Ground
  here = ground_of g places

  pub own_is : package_name here p ≡ unit_name g
  own_is = plan.records_are.own

  pub works_are : p.works ≡ unit_works g
  works_are = plan.works_are.works_are

  -- what is taken is at the place of a shipped file or link
  pub taken_shipped : (works : List Work) (q : Path) → IsRearranged p.works works → Contains (taken_places works) q → Contains (unit_file_places g) q
  taken_shipped works q moved taken = subst (λ (l : List Work). Contains (file_places l) q) works_are (taken_among (file_places p.works) works q (files_listed p.works works moved) taken)

  module _ (q : List ℕ) (other : q ≢ unit_name g) where
    pub unnamed : q ≢ package_name here p
    unnamed e = other (e ∙ own_is)

    pub listed_then : (begun : State) (stage : Stage) → paths_of (lists_at (task_from here p begun) stage) q ≡ paths_of g.lists q
    listed_then begun Unwritten = refl
    listed_then begun Wrote = with_other (package_name here p) q unnamed g.lists p.union
    listed_then begun Restored = with_other (package_name here p) q unnamed (with_list (package_name here p) p.union g.lists) p.listed ∙ with_other (package_name here p) q unnamed g.lists p.union

    -- a package that loses places yields, and lists a path at one of them
    pub loses_places : (works : List Work) (begun : State) (stage : Stage) → IsRearranged p.works works → Contains (unit_losers here p works (lists_at (task_from here p begun) stage)) q → LosesPlaces g q (taken_places works)
    loses_places works begun stage moved has =
        let had = lists_at (task_from here p begun) stage in
        let other_yields = yields_beside (package_name here p) here.yields in
        let lists_one : List PackageList → List ℕ → Bool = λ l n. list_any (is_at g.ways (taken_places works) n) (paths_of l n) in
        record {
          shipped = λ at taken. taken_shipped works at moved taken;
          loses = kept_among (lists_one g.lists) here.yields q (among_kept (is_other_package (package_name here p)) here.yields q (among_kept _ other_yields q has))
              (ap (λ (l : List Path). list_any (is_at g.ways (taken_places works) q) l) (sym (listed_then begun stage)) ∙ kept_passes (lists_one had) other_yields q has);
        }

    -- so one that keeps its places is none of them
    pub no_loser : KeepsPlaces g q → (works : List Work) (begun : State) (stage : Stage) → IsRearranged p.works works → Contains (unit_losers here p works (lists_at (task_from here p begun) stage)) q → ⊥
    no_loser keeps works begun stage moved has = keeps_or_loses g q (taken_places works) keeps (loses_places works begun stage moved has)

  -- the old paths that go, and the names that are cleared

  leaving_told : p.leaving ≡ old_leaving g.ways g.lists (unit_name g) (unit_found g) p.new_list (unit_listed g)
  leaving_told =
      plan.lists_are.leaving_is
      ∙ ap (λ f. old_leaving g.ways g.lists (unit_name g) f p.new_list p.listed) plan.records_are.found_is
      ∙ ap (λ (l : List Path). old_leaving g.ways g.lists (unit_name g) (unit_found g) p.new_list l) plan.lists_are.listed_is

  fresh_told : IsFresh (unit_yielding g) g.«package» (unit_found g) p.fresh
  fresh_told = subst (λ f. IsFresh (unit_yielding g) g.«package» f p.fresh) plan.records_are.found_is plan.records_are.fresh_is

  pub no_leaving : (q : Path) → IsNoLeaving g q → is_leaving_place p.leaving q ≡ false
  no_leaving q stays = ap (λ xs. is_leaving_place xs q) leaving_told ∙ stays p.fresh p.new_list fresh_told plan.lists_are.new_is

  no_cut_name : (q : Path) → IsNoCut g q → is_among (cut_names p.found p.leaving) q ≡ false
  no_cut_name q uncut =
      ap (λ xs. is_among (cut_names p.found xs) q) leaving_told
      ∙ ap (λ f. is_among (cut_names f (old_leaving g.ways g.lists (unit_name g) (unit_found g) p.new_list (unit_listed g))) q) plan.records_are.found_is
      ∙ uncut p.fresh p.new_list fresh_told plan.lists_are.new_is

  pub no_cleared : (q : Path) → is_among (backups p.works) q ≡ false → is_among (left_names g.ways (unit_name g) g.«package».conffiles (known_conffiles (unit_found g))) q ≡ false → IsNoCut g q → is_among p.names q ≡ false
  no_cleared q kept left uncut =
      let waiting = left_names g.ways (unit_name g) g.«package».conffiles (known_conffiles p.found) in
      ap (λ l. is_among l q) plan.names_are.names_are
      ∙ list_any-append (bytes_eq q) (backups p.works ++ waiting) (cut_names p.found p.leaving)
      ∙ or_from (is_among (backups p.works ++ waiting) q) _
      (list_any-append (bytes_eq q) (backups p.works) waiting
      ∙ or_from (is_among (backups p.works) q) _ kept (ap (λ f. is_among (left_names g.ways (unit_name g) g.«package».conffiles (known_conffiles f)) q) plan.records_are.found_is ∙ left))
      (no_cut_name q uncut)

  -- a path at which the unit does nothing
  pub passed_alone : (q : Path) → IsPassedBy g q → IsAlone here p q
  passed_alone q passed =
      let missed : Each (λ x. Misses x q) p.works = subst (Each (λ x. Misses x q)) (sym works_are) passed.unshipped in
      record {
        aside = record {
          unnoted = outside_records q passed.outside;
          tmp = outside_tmp q passed.outside;
          list = outside_list q passed.outside (package_name here p);
          no_member = λ name is. outside_member q passed.outside (package_name here p) name;
          stays = no_leaving q passed.stays;
          uncleared = no_cleared q (no_backup p.works q missed) passed.uncleared passed.uncut;
          unlost = λ works begun stage moved n has. outside_list q passed.outside n;
        };
        missed = missed;
      }
