-- What a commit leaves.
use Rattle.std.proofs.Common.{◌≡◌, ◌≢◌, ◌<◌, ◌≤◌, ◌||◌, Bool, true, false, not, cond, List, [], ◌∷◌, ◌++◌, codes, filter, length, Some, inl, inr, refl, sym, ap, subst, ◌∙◌, arith, Contains}
use Rattle.std.specs.List.{list_any}
use Rattle.std.proofs.lemmas.Bool.{or_cases, or_from, true≢false}
use Rattle.std.proofs.lemmas.List.{append_cancel_left, append_cancel_right}
use Rattle.std.proofs.lemmas.List.Elements.{Contains-append_right}
use Rattle.host_core.specs.Paths.{Path}
use Rattle.host_core.specs.World.{World}
use Rattle.administration.specs.Places.{home_path, is_within, list_name, list_path}
use Rattle.administration.proofs.Within.{below_within}
use Rattle.control_members.specs.Stored.{AreStored, stored_member_path}
use Rattle.control_members.proofs.Apart.{no_list_temporary}
use Rattle.diversions.specs.Ways.{Ways}
use Rattle.file_lists.specs.declared.paths.PackageList.{PackageList}
use Rattle.file_lists.specs.Taking.{IsNoList, left_file}
use Rattle.file_lists.specs.Writing.{list_file}
use Rattle.file_removal.specs.Clearing.{cleared}
use Rattle.status_records.specs.declared.record.Record.{Record}
use Rattle.listed_files.specs.Areas.{is_leaving_place, is_list_place, is_renewed_place}
use Rattle.listed_files.specs.Closing.{SparesAdministration}
use Rattle.listed_files.specs.Concluding.{AreElsewhere}
use Rattle.listed_files.proofs.Areas.{released_keeps, releasing_keeps, renewed_keeps, renewing_keeps}
use Rattle.unpack_commit.specs.Areas.{IsUntouched}
use Rattle.unpack_commit.specs.Commit.{Changes, HasCommitted, MayCommit, renewed_lists}
use Rattle.unpack_commit.specs.Takeover.{is_at, loses_conffile, without_conffiles}
use Rattle.unpack_commit.proofs.Ready.{list_is_no_member, member_is_no_list, renewed_same}
use Rattle.unpack_commit.proofs.Stays.{no_list_place}

-- a list gets shorter where something is left out

not_more : {X : Type 0} (test : X → Bool) (xs : List X) → length (filter test xs) ≤ length xs
not_more test [] = omega arith
not_more test (x ∷ xs) = by (test x) (not_more test xs)
  where
    by : (b : Bool) → length (filter test xs) ≤ length xs → length (cond b (x ∷ filter test xs) (filter test xs)) ≤ length (x ∷ xs)
    by true less = omega (arith, less)
    by false less = omega (arith, less)

fewer : {X : Type 0} (test : X → Bool) (xs : List X) → list_any test xs ≡ true → length (filter (λ x. not (test x)) xs) < length xs
fewer test [] any = absurd (true≢false (sym any))
fewer test (x ∷ xs) any = by (test x) refl any (fewer test xs) (not_more (λ y. not (test y)) xs)
  where
    by : (b : Bool) → test x ≡ b → b || list_any test xs ≡ true → (list_any test xs ≡ true → length (filter (λ y. not (test y)) xs) < length xs) → length (filter (λ y. not (test y)) xs) ≤ length xs
        → length (cond (not b) (x ∷ filter (λ y. not (test y)) xs) (filter (λ y. not (test y)) xs)) < length (x ∷ xs)
    by true e all later less = omega (arith, less)
    by false e all later less = let l = later all in omega (arith, l)

pub losing_differs : (ways : Ways) (places : List Path) (r : Record) → loses_conffile ways places r ≡ true → without_conffiles ways places r ≢ r
losing_differs ways places r loses e = elim (or_cases (list_any (λ x. is_at ways places r.name x.path) r.conffiles) (list_any (λ p. is_at ways places r.name p.path) r.pending) loses) [
  | inl some ↦
      let less = fewer (λ x. is_at ways places r.name x.path) r.conffiles some in
      let same : length (filter (λ x. not (is_at ways places r.name x.path)) r.conffiles) ≡ length r.conffiles = ap (λ (x : Record). length x.conffiles) e in
      absurd (omega (arith, less, same))
  | inr some ↦
      let less = fewer (λ p. is_at ways places r.name p.path) r.pending some in
      let same : length (filter (λ p. not (is_at ways places r.name p.path)) r.pending) ≡ length r.pending = ap (λ (x : Record). length x.pending) e in
      absurd (omega (arith, less, same))
]

-- names of lists

pub same_list : (name other : Path) → list_path name ≡ list_path other → name ≡ other
same_list name other e = append_cancel_right name other (codes ".list") (append_cancel_left (codes "/var/lib/dpkg/info/") (list_name name) (list_name other) e)

pub no_other : (names : List Path) (name : Path) → (Contains names name → ⊥) → IsNoList names (list_path name)
no_other names name none other has = (λ e. none (subst (λ (n : Path). Contains names n) (sym (same_list name other e)) has), λ e. no_list_temporary name (list_path other) e)

pub list_within : (name : Path) → is_within home_path (list_path name) ≡ true
list_within name = below_within home_path (codes "info/" ++ list_name name)

pub member_within : (owner name : Path) → is_within home_path (stored_member_path owner name) ≡ true
member_within owner name = below_within home_path (codes "info/" ++ (owner ++ 46 ∷ name))

first_of_names : (x : Path) (xs : List Path) → Contains (x ∷ xs) x
first_of_names x xs = (0, omega arith, refl)

module _ (c : Changes) (ways : Ways) (lists : List PackageList) (old : World) where
  -- all of it is as before, but what it may change

  unrenewed : (q : Path) → IsUntouched c q → is_renewed_place c.leaving (list_path c.name) q ≡ false
  unrenewed q un =
      let own = un.unlisted c.name (first_of_names c.name c.losers) in
      or_from (is_leaving_place c.leaving q) (is_list_place (list_path c.name) q) un.stays (no_list_place (list_path c.name) q own.0 own.1)

  no_loser : (q : Path) → IsUntouched c q → IsNoList c.losers q
  no_loser q un name has = un.unlisted name (Contains-append_right (c.name ∷ []) c.losers name has)

  pub committed_keeps : (after : List Record) (new : World) (q : Path) → HasCommitted c ways lists after old new → IsUntouched c q → new q ≡ old q
  committed_keeps after new q has un =
      has.noted.rest q un.unnoted
      ∙ released_keeps ways c.places c.losers (renewed_lists c ways lists) c.names has.stored has.released q has.release (no_loser q un) un.uncleared
      ∙ has.replaced.rest q un.no_member
      ∙ renewed_keeps c.leaving (list_path c.name) (list_file c.listed) old has.renewed has.renewal q (unrenewed q un)

  pub committing_keeps : (records before : List Record) (now : World) (q : Path) → MayCommit c ways lists records before old now → IsUntouched c q → now q ≡ old q
  committing_keeps records before now q (MayCommit.renewing may has opens) un = renewing_keeps c.leaving (list_path c.name) (list_file c.listed) old now may q (unrenewed q un)
  committing_keeps records before now q (MayCommit.replacing renewed stale first is has opens) un =
      is.rest q un.no_member ∙ renewed_keeps c.leaving (list_path c.name) (list_file c.listed) old renewed first q (unrenewed q un)
  committing_keeps records before now q (MayCommit.releasing renewed stored stale first second whole may has opens) un =
      releasing_keeps ways c.places c.losers (renewed_lists c ways lists) c.names stored now q may (no_loser q un) un.uncleared
      ∙ second.rest q un.no_member
      ∙ renewed_keeps c.leaving (list_path c.name) (list_file c.listed) old renewed first q (unrenewed q un)
  committing_keeps records before now q (MayCommit.noting renewed stored released stale first second whole third is) un =
      is.rest q un.unnoted
      ∙ released_keeps ways c.places c.losers (renewed_lists c ways lists) c.names stored released q third (no_loser q un) un.uncleared
      ∙ second.rest q un.no_member
      ∙ renewed_keeps c.leaving (list_path c.name) (list_file c.listed) old renewed first q (unrenewed q un)

  -- lists and control files

  module _ (after : List Record) (new : World) (elsewhere : AreElsewhere c.names) (has : HasCommitted c ways lists after old new) where
    unreleased : (name : Path) → (Contains c.losers name → ⊥) → new (list_path name) ≡ has.stored (list_path name)
    unreleased name none =
        has.noted.rest (list_path name) refl
        ∙ released_keeps ways c.places c.losers (renewed_lists c ways lists) c.names has.stored has.released (list_path name) has.release (no_other c.losers name none) (elsewhere (list_path name) (list_within name))

    pub own_list : (Contains c.losers c.name → ⊥) → new (list_path c.name) ≡ Some (list_file c.listed)
    own_list none = unreleased c.name none ∙ has.replaced.rest (list_path c.name) (list_is_no_member c.name c.name) ∙ has.renewal.replaced.target

    pub loser_list : (name : Path) → Contains c.losers name → new (list_path name) ≡ Some (left_file ways c.places (renewed_lists c ways lists) name)
    loser_list name there =
        has.noted.rest (list_path name) refl
        ∙ has.release.cleared.each (list_path name)
        ∙ ap (λ b. cond b (cleared (has.release.mid (list_path name))) (has.release.mid (list_path name))) (elsewhere (list_path name) (list_within name))
        ∙ has.release.taken.lists name there

    pub other_list : (name : Path) → SparesAdministration c.leaving → name ≢ c.name → (Contains c.losers name → ⊥) → new (list_path name) ≡ old (list_path name)
    other_list name spares other none =
        unreleased name none
        ∙ has.replaced.rest (list_path name) (list_is_no_member c.name name)
        ∙ renewed_same c.leaving c.name (list_file c.listed) old has.renewed spares has.renewal (list_path name) (list_within name) (λ e. other (same_list name c.name e)) (λ e. no_list_temporary name (list_path c.name) e)

    pub members_stored : AreStored c.name c.members new
    members_stored name member =
        has.noted.rest (stored_member_path c.name name) refl
        ∙ released_keeps ways c.places c.losers (renewed_lists c ways lists) c.names has.stored has.released (stored_member_path c.name name) has.release
        (λ loser there. member_is_no_list c.name name loser member) (elsewhere (stored_member_path c.name name) (member_within c.name name))
        ∙ has.whole name member
