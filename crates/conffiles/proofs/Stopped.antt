-- A conffile that was stopped while it was settled, and is settled again.
use Rattle.std.proofs.Common.{◌≡◌, inl, inr, ℕ, Bool, true, false, List, Option, Some, None, is_some, refl, sym, ap, subst, ◌∙◌}
use Rattle.std.specs.Prelude.{IsSome}
use Rattle.host_core.specs.declared.node.Access.{Access}
use Rattle.host_core.specs.declared.node.Node.{Node}
use Rattle.host_core.specs.declared.node.Node.TheVariants.{File, Dir, Link}
use Rattle.conffiles.specs.declared.decisions.Changed.{Changed}
use Rattle.conffiles.specs.declared.decisions.Changed.TheVariants.{Keep, Install}
use Rattle.conffiles.specs.declared.decisions.ConfPolicy.{ConfPolicy}
use Rattle.conffiles.specs.declared.decisions.Decision.{Decision}
use Rattle.conffiles.specs.declared.decisions.Decision.TheVariants.{TakeNew, DropNew, NewToDist, BackupOld, Nothing, Delete, Rename}
use Rattle.conffiles.specs.Decisions.{Row, Unrecorded, UnrecordedUpToDate, UnrecordedOther, Deleted, DeletedAndShippedAnew, UpToDate, ShippedAnew, Edited, EditedAndShippedAnew, FlaggedMissing, FlaggedUntouched, FlaggedEdited, IsRow, answer_of, is_wanted_anew, restored_if, decision_of}
use Rattle.conffiles.specs.Settling.{ConffileFiles, access_at, with_access, renewed, first_of, kept_beside, settled_files, IsBetween, digest_at, IsDecided, IsShippedAs}
use Rattle.conffiles.proofs.Rows.{same_row}
use Rattle.conffiles.proofs.Settlings.{taken_none_files, backed_none}

-- the same digests give the same decision
same_decision : (r s : Option (List ℕ)) (p : ConfPolicy) (f g : ConffileFiles) (d e : Decision) → digest_at g.home ≡ digest_at f.home → IsDecided r s p f d → IsDecided r s p g e → e ≡ d
same_decision r s p f g d e same first second =
    let there = subst (λ n. IsRow second.0 r n s) same second.1 in
    second.2 ∙ ap (λ row. decision_of row p) (same_row second.0 first.0 r (digest_at f.home) s there first.1) ∙ sym first.2

-- a copy is kept twice
first_twice : (a b : Option Node) → first_of a (first_of a b) ≡ first_of a b
first_twice None b = refl
first_twice (Some n) b = refl

kept_twice : (s a b : Option Node) → kept_beside s a (kept_beside s a b) ≡ kept_beside s a b
kept_twice None a b = refl
kept_twice (Some n) a b = first_twice a b

copied_before : (d : Decision) (f : ConffileFiles) → settled_files d (record f { backup = (settled_files d f).backup }) ≡ settled_files d f
copied_before TakeNew f = refl
copied_before DropNew f = refl
copied_before NewToDist f = refl
copied_before BackupOld f = λ i. record f { home = renewed f.home f.shipped; shipped = None; backup = kept_twice f.shipped f.home f.backup i }
copied_before Nothing f = refl
copied_before Delete f = refl
copied_before Rename f = λ i. record f { home = None; backup = first_twice f.home f.backup i }

-- the home is settled, and maybe all

abbrev home_settled : Decision → ConffileFiles → ConffileFiles
home_settled d f = record f { backup = (settled_files d f).backup; home = (settled_files d f).home }

record Ends (d : Decision) (r s : Option (List ℕ)) (p : ConfPolicy) (f : ConffileFiles) : Type 0 where
  home : (again : Decision) → IsDecided r s p (home_settled d f) again → settled_files again (home_settled d f) ≡ settled_files d f
  all : (again : Decision) → IsDecided r s p (settled_files d f) again → settled_files again (settled_files d f) ≡ settled_files d f

-- the file has the digest that it had
ends_same : (d : Decision) (r s : Option (List ℕ)) (p : ConfPolicy) (f : ConffileFiles) → IsDecided r s p f d → digest_at (settled_files d f).home ≡ digest_at f.home → settled_files d (home_settled d f) ≡ settled_files d f → settled_files d (settled_files d f) ≡ settled_files d f → Ends d r s p f
ends_same d r s p f first same half whole = record {
  home = λ again is. ap (λ e. settled_files e (home_settled d f)) (same_decision r s p f (home_settled d f) d again same first is) ∙ half;
  all = λ again is. ap (λ e. settled_files e (settled_files d f)) (same_decision r s p f (settled_files d f) d again same first is) ∙ whole;
}

-- another decision is made, by the digest that the file has now
ends_other : (d e : Decision) (r s : Option (List ℕ)) (p : ConfPolicy) (f : ConffileFiles) → ((g : ConffileFiles) (again : Decision) → digest_at g.home ≡ digest_at (settled_files d f).home → IsDecided r s p g again → again ≡ e) → settled_files e (home_settled d f) ≡ settled_files d f → settled_files e (settled_files d f) ≡ settled_files d f → Ends d r s p f
ends_other d e r s p f decided half whole = record {
  home = λ again is. ap (λ x. settled_files x (home_settled d f)) (decided (home_settled d f) again refl is) ∙ half;
  all = λ again is. ap (λ x. settled_files x (settled_files d f)) (decided (settled_files d f) again refl is) ∙ whole;
}

-- a file that is as shipped: the shipped file goes
up_to_date : (r s n : Option (List ℕ)) (p : ConfPolicy) (row : Row) → IsSome s → n ≡ s → IsRow row r n s → decision_of row p ≡ DropNew
up_to_date None s n p row some same is = ap (λ x. decision_of x p) (same_row row UnrecordedUpToDate None n s is (refl, ap is_some same ∙ some, same))
up_to_date (Some r) s n p row some same is = ap (λ x. decision_of x p) (same_row row UpToDate (Some r) n s is (refl, ap is_some same ∙ some, same))

digest_kept : (n : Node) (o : Option Access) → digest_at (Some (with_access n o)) ≡ digest_at (Some n)
digest_kept n None = refl
digest_kept (File bytes own) (Some access) = refl
digest_kept (Dir own) (Some access) = refl
digest_kept (Link target) (Some access) = refl

renewed_digest : (home : Option Node) (n : Option Node) (s : Option (List ℕ)) → IsSome n → digest_at n ≡ s → digest_at (renewed home n) ≡ s
renewed_digest home None s some is = absurd cc
renewed_digest home (Some n) s some is = digest_kept n (access_at home) ∙ is

-- the shipped file takes its place
ends_taken : (d : Decision) (r s : Option (List ℕ)) (p : ConfPolicy) (f : ConffileFiles) → IsDecided r s p f d → IsSome s → IsShippedAs s f → (settled_files d f).home ≡ renewed f.home f.shipped → (f.shipped ≡ None → f ≡ settled_files d f) → settled_files DropNew (home_settled d f) ≡ settled_files d f → settled_files DropNew (settled_files d f) ≡ settled_files d f → Ends d r s p f
ends_taken d r s p f first some (inl gone) home none half whole =
    let same : settled_files d f ≡ f = sym (none gone) in
    ends_same d r s p f first (ap (λ (g : ConffileFiles). digest_at g.home) same)
    (ap (settled_files d) (λ i. record f { backup = (same i).backup; home = (same i).home })) (ap (settled_files d) same)
ends_taken d r s p f first some (inr is) home none half whole =
    ends_other d DropNew r s p f
    (λ g again as_settled decided. decided.2 ∙ up_to_date r s (digest_at g.home) p decided.0 some (as_settled ∙ ap digest_at home ∙ renewed_digest f.home f.shipped s (there f.shipped (ap is_some is ∙ some)) is) decided.1)
    half whole
  where
    there : (n : Option Node) → IsSome (digest_at n) → IsSome n
    there None has = has
    there (Some n) has = refl

-- nothing is there any more, and nothing is shipped
nothing_left : (r s n : Option (List ℕ)) (p : ConfPolicy) (row : Row) → s ≡ None → n ≡ None → IsRow row r n s → decision_of row p ≡ Nothing
nothing_left r s n p row no_shipped none is = ap (λ x. decision_of x p) (same_row row FlaggedMissing r n s is (none, no_shipped))

ends_gone : (d : Decision) (r s : Option (List ℕ)) (p : ConfPolicy) (f : ConffileFiles) → s ≡ None → digest_at (settled_files d f).home ≡ None → home_settled d f ≡ settled_files d f → Ends d r s p f
ends_gone d r s p f no_shipped none half = ends_other d Nothing r s p f (λ g again as_settled decided. decided.2 ∙ nothing_left r s (digest_at g.home) p decided.0 no_shipped (as_settled ∙ none) decided.1) half refl

-- each row

ends_take : (r s : Option (List ℕ)) (p : ConfPolicy) (f : ConffileFiles) → IsDecided r s p f TakeNew → IsSome s → IsShippedAs s f → Ends TakeNew r s p f
ends_take r s p f first some shipped = ends_taken TakeNew r s p f first some shipped refl (taken_none_files f) refl refl

ends_drop : (r s : Option (List ℕ)) (p : ConfPolicy) (f : ConffileFiles) → IsDecided r s p f DropNew → Ends DropNew r s p f
ends_drop r s p f first = ends_same DropNew r s p f first refl refl refl

ends_answer : (c : Changed) (r s : Option (List ℕ)) (p : ConfPolicy) (f : ConffileFiles) → IsDecided r s p f (answer_of c) → IsSome s → IsShippedAs s f → Ends (answer_of c) r s p f
ends_answer Keep r s p f first some shipped = ends_same NewToDist r s p f first refl refl refl
ends_answer Install r s p f first some shipped = ends_taken BackupOld r s p f first some shipped refl (backed_none f) refl refl

ends_restored : (b : Bool) (r s : Option (List ℕ)) (p : ConfPolicy) (f : ConffileFiles) → IsDecided r s p f (restored_if b) → IsSome s → IsShippedAs s f → Ends (restored_if b) r s p f
ends_restored true r s p f first some shipped = ends_take r s p f first some shipped
ends_restored false r s p f first some shipped = ends_drop r s p f first

ends_row : (row : Row) (r s : Option (List ℕ)) (p : ConfPolicy) (f : ConffileFiles) → IsRow row r (digest_at f.home) s → IsShippedAs s f → Ends (decision_of row p) r s p f
ends_row Unrecorded r s p f is shipped = ends_take r s p f (Unrecorded, is, refl) is.2 shipped
ends_row UnrecordedUpToDate r s p f is shipped = ends_drop r s p f (UnrecordedUpToDate, is, refl)
ends_row UnrecordedOther r s p f is shipped = ends_answer p.changed r s p f (UnrecordedOther, is, refl) is.2 shipped
ends_row Deleted r s p f is shipped = ends_restored p.missing r s p f (Deleted, is, refl) (ap is_some is.2 ∙ is.0) shipped
ends_row DeletedAndShippedAnew r s p f is shipped = ends_restored (is_wanted_anew p) r s p f (DeletedAndShippedAnew, is, refl) is.2 shipped
ends_row UpToDate r s p f is shipped = ends_drop r s p f (UpToDate, is, refl)
ends_row ShippedAnew r s p f is shipped = ends_take r s p f (ShippedAnew, is, refl) is.2 shipped
ends_row Edited r s p f is shipped = ends_drop r s p f (Edited, is, refl)
ends_row EditedAndShippedAnew r s p f is shipped = ends_answer p.changed r s p f (EditedAndShippedAnew, is, refl) is.2 shipped
ends_row FlaggedMissing r s p f is shipped = ends_same Nothing r s p f (FlaggedMissing, is, refl) refl refl refl
ends_row FlaggedUntouched r s p f is shipped = ends_gone Delete r s p f is.2 refl refl
ends_row FlaggedEdited r s p f is shipped = ends_gone Rename r s p f is.2 refl refl

pub ends_alike : (recorded shipped : Option (List ℕ)) (policy : ConfPolicy) (before now : ConffileFiles) (first again : Decision) → IsShippedAs shipped before → IsDecided recorded shipped policy before first → IsBetween before (settled_files first before) now → IsDecided recorded shipped policy now again → settled_files again now ≡ settled_files first before
ends_alike r s p f g d e ships first between again =
    let ends : Ends d r s p f = subst (λ x. Ends x r s p f) (sym first.2) (ends_row first.0 r s p f first.1 ships) in
    elim between [
      | inl same ↦ ap (λ x. settled_files x g) (same_decision r s p f g d e (ap (λ (h : ConffileFiles). digest_at h.home) same) first again) ∙ ap (settled_files d) same
      | inr later ↦ elim later [
        | inl copied ↦
            ap (λ x. settled_files x g) (same_decision r s p f g d e (ap (λ (h : ConffileFiles). digest_at h.home) copied) first again) ∙ ap (settled_files d) copied ∙ copied_before d f
        | inr last ↦ elim last [
          | inl home ↦ ap (settled_files e) home ∙ ends.home e (subst (λ h. IsDecided r s p h e) home again)
          | inr all ↦ ap (settled_files e) all ∙ ends.all e (subst (λ h. IsDecided r s p h e) all again)
        ]
      ]
    ]
