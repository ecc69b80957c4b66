-- What being written means of nodes: what stays, what is whole.
use Rattle.std.proofs.Common.{◌≡◌, ℕ, Bool, true, false, List, [], ◌∷◌, Option, Some, None, IsTrue, refl, sym, ap, subst, ◌∙◌, arith}
use Rattle.std.specs.Prelude.{IsSome}
use Rattle.std.proofs.lemmas.Bool.{true≢false}
use Rattle.host_core.specs.World.{World, IsDirectory, IsLoose, is_directory, kind_of}
use Rattle.host_core.specs.declared.node.Access.{Access}
use Rattle.host_core.specs.declared.node.Kind.{Kind}
use Rattle.host_core.specs.declared.node.Kind.TheVariants as kind
use Rattle.host_core.specs.declared.node.Node.{Node}
use Rattle.host_core.specs.declared.node.Node.TheVariants.{File, Dir, Link}
use Rattle.package_files.specs.declared.work.Work.{Work}
use Rattle.package_files.specs.Files.{is_written, cleared, shown, saved, Each, HasWritten, Written, IsShown, IsWhole, before, between, behind, IsAmid}
use Rattle.package_files.specs.Free.{IsFree}
use Rattle.package_files.proofs.WorkLists.{Agree}

-- nodes

pub no_directory : (n : Option Node) → is_directory n ≡ false → IsDirectory n → ⊥
no_directory n plain dir = true≢false (sym (ap is_directory dir.1) ∙ plain)

pub plain_directory : (n : Option Node) → (IsDirectory n → ⊥) → is_directory n ≡ false
plain_directory None none = refl
plain_directory (Some (File b m)) none = refl
plain_directory (Some (Dir m)) none = absurd (none (m, refl))
plain_directory (Some (Link t)) none = refl

pub loose_at : (n : Option Node) (o : Node) → n ≡ Some o → is_directory (Some o) ≡ false → IsLoose n
loose_at n o is plain = (subst IsSome (sym is) refl, no_directory n (ap is_directory is ∙ plain))

-- what kind it is tells that it is loose, or nothing
kind_number : Option Kind → ℕ
kind_number None = 0
kind_number (Some kind.File) = 1
kind_number (Some kind.Directory) = 2
kind_number (Some kind.SymbolicLink) = 3

pub kind_none : (n : Option Node) → None ≡ kind_of n → n ≡ None
unfolding kind_number
kind_none None e = refl
kind_none (Some (File b m)) e = absurd (omega (arith, ap kind_number e))
kind_none (Some (Dir m)) e = absurd (omega (arith, ap kind_number e))
kind_none (Some (Link t)) e = absurd (omega (arith, ap kind_number e))

pub kind_file : (n : Option Node) → Some kind.File ≡ kind_of n → IsLoose n
unfolding kind_number
kind_file None e = absurd (omega (arith, ap kind_number e))
kind_file (Some (File b m)) e = loose_at (Some (File b m)) (File b m) refl refl
kind_file (Some (Dir m)) e = absurd (omega (arith, ap kind_number e))
kind_file (Some (Link t)) e = absurd (omega (arith, ap kind_number e))

pub kind_link : (n : Option Node) → Some kind.SymbolicLink ≡ kind_of n → IsLoose n
unfolding kind_number
kind_link None e = absurd (omega (arith, ap kind_number e))
kind_link (Some (File b m)) e = absurd (omega (arith, ap kind_number e))
kind_link (Some (Dir m)) e = absurd (omega (arith, ap kind_number e))
kind_link (Some (Link t)) e = loose_at (Some (Link t)) (Link t) refl refl

pub kind_directory : (n : Option Node) → Some kind.Directory ≡ kind_of n → IsDirectory n
unfolding kind_number
kind_directory None e = absurd (omega (arith, ap kind_number e))
kind_directory (Some (File b m)) e = absurd (omega (arith, ap kind_number e))
kind_directory (Some (Dir m)) e = (m, refl)
kind_directory (Some (Link t)) e = absurd (omega (arith, ap kind_number e))

-- what stands where something does that is no directory
pub kind_loose : (n : Option Node) (k : Kind) → Some k ≡ kind_of n → is_directory n ≡ false → IsLoose n
unfolding kind_number
kind_loose None k e plain = absurd (omega (arith, ap is_none e)) where
  is_none : Option Kind → ℕ
  is_none None = 0
  is_none (Some j) = 1
kind_loose (Some (File b m)) k e plain = loose_at (Some (File b m)) (File b m) refl refl
kind_loose (Some (Dir m)) k e plain = absurd (true≢false plain)
kind_loose (Some (Link t)) k e plain = loose_at (Some (Link t)) (Link t) refl refl

-- clearing

pub cleared_again : (n : Option Node) → cleared (cleared n) ≡ cleared n
cleared_again None = refl
cleared_again (Some (File b m)) = refl
cleared_again (Some (Dir m)) = refl
cleared_again (Some (Link t)) = refl

pub cleared_loose : (n : Node) → is_directory (Some n) ≡ false → cleared (Some n) ≡ None
cleared_loose (File b m) plain = refl
cleared_loose (Dir m) plain = absurd (true≢false plain)
cleared_loose (Link t) plain = refl

-- a file or link that is saved can be cleared
pub cleared_saved : (t b : Option Node) → is_directory t ≡ false → cleared b ≡ None → cleared (saved true t b) ≡ None
cleared_saved None b plain none = cleared_again b ∙ none
cleared_saved (Some n) b plain none = cleared_loose n plain

pub saved_cleared : (a : Bool) (had b : Option Node) → saved a had (cleared b) ≡ saved a had b
saved_cleared true (Some n) b = refl
saved_cleared true None b = cleared_again b
saved_cleared false had b = cleared_again b

pub free_cleared : (n : Node) (t b f : Option Node) → IsFree n t b f → IsFree n t (cleared b) (cleared f)
free_cleared (Dir m) None b f free = tt
free_cleared (Dir m) (Some (File c k)) b f free = cleared_again b ∙ free
free_cleared (Dir m) (Some (Dir k)) b f free = tt
free_cleared (Dir m) (Some (Link l)) b f free = tt
free_cleared (File c m) None b f free = (cleared_again b ∙ free.0, cleared_again f ∙ free.1)
free_cleared (File c m) (Some (File d k)) b f free = (cleared_again b ∙ free.0, cleared_again f ∙ free.1)
free_cleared (File c m) (Some (Dir k)) b f free = absurd free
free_cleared (File c m) (Some (Link l)) b f free = (cleared_again b ∙ free.0, cleared_again f ∙ free.1)
free_cleared (Link t) None b f free = (cleared_again b ∙ free.0, cleared_again f ∙ free.1)
free_cleared (Link t) (Some (File d k)) b f free = (cleared_again b ∙ free.0, cleared_again f ∙ free.1)
free_cleared (Link t) (Some (Dir k)) b f free = tt
free_cleared (Link t) (Some (Link l)) b f free = (cleared_again b ∙ free.0, cleared_again f ∙ free.1)

-- which are written

pub writes_loose : (n : Node) (o : Option Node) → is_directory (Some n) ≡ false → is_directory o ≡ false → is_written n o ≡ true
writes_loose (Dir m) o loose over = absurd (true≢false loose)
writes_loose (File b m) None loose over = refl
writes_loose (File b m) (Some (File c k)) loose over = refl
writes_loose (File b m) (Some (Dir k)) loose over = absurd (true≢false over)
writes_loose (File b m) (Some (Link l)) loose over = refl
writes_loose (Link t) None loose over = refl
writes_loose (Link t) (Some (File c k)) loose over = refl
writes_loose (Link t) (Some (Dir k)) loose over = absurd (true≢false over)
writes_loose (Link t) (Some (Link l)) loose over = refl

pub free_loose : (n : Node) (t b f : Option Node) → is_directory (Some n) ≡ false → is_directory t ≡ false → IsFree n t b f → (cleared b ≡ None) × (cleared f ≡ None)
free_loose (Dir m) t b f loose over free = absurd (true≢false loose)
free_loose (File c m) None b f loose over free = free
free_loose (File c m) (Some (File d k)) b f loose over free = free
free_loose (File c m) (Some (Dir k)) b f loose over free = absurd free
free_loose (File c m) (Some (Link l)) b f loose over free = free
free_loose (Link t) None b f loose over free = free
free_loose (Link t) (Some (File d k)) b f loose over free = free
free_loose (Link t) (Some (Dir k)) b f loose over free = absurd (true≢false over)
free_loose (Link t) (Some (Link l)) b f loose over free = free

-- a link or directory is left where a directory stands
pub keeps_directory : (n : Node) (o : Option Node) → IsDirectory o → is_written n o ≡ false
keeps_directory n o dir = ap (is_written n) dir.1 ∙ at n dir.0
  where
    at : (n : Node) (m : Access) → is_written n (Some (Dir m)) ≡ false
    at (Dir k) m = refl
    at (File b k) m = refl
    at (Link l) m = refl

-- a directory is left where a link stands
pub keeps_link : (m : Access) (o : Option Node) → Some kind.SymbolicLink ≡ kind_of o → is_written (Dir m) o ≡ false
unfolding kind_number
keeps_link m None e = absurd (omega (arith, ap kind_number e))
keeps_link m (Some (File b k)) e = absurd (omega (arith, ap kind_number e))
keeps_link m (Some (Dir k)) e = absurd (omega (arith, ap kind_number e))
keeps_link m (Some (Link t)) e = refl

-- a directory is made where nothing or a file stands
pub makes_at_none : (m : Access) (o : Option Node) → o ≡ None → is_written (Dir m) o ≡ true
makes_at_none m o e = ap (is_written (Dir m)) e

pub makes_over_file : (m : Access) (o : Option Node) → Some kind.File ≡ kind_of o → is_written (Dir m) o ≡ true
unfolding kind_number
makes_over_file m None e = absurd (omega (arith, ap kind_number e))
makes_over_file m (Some (File b k)) e = refl
makes_over_file m (Some (Dir k)) e = absurd (omega (arith, ap kind_number e))
makes_over_file m (Some (Link t)) e = absurd (omega (arith, ap kind_number e))

pub free_over_file : (m : Access) (o b f : Option Node) → Some kind.File ≡ kind_of o → IsFree (Dir m) o b f → cleared b ≡ None
unfolding kind_number
free_over_file m None b f e free = absurd (omega (arith, ap kind_number e))
free_over_file m (Some (File c k)) b f e free = free
free_over_file m (Some (Dir k)) b f e free = absurd (omega (arith, ap kind_number e))
free_over_file m (Some (Link t)) b f e free = absurd (omega (arith, ap kind_number e))

-- what is saved of something is itself
pub saved_some : (o b : Option Node) → IsSome o → saved true o b ≡ o
saved_some (Some n) b some = refl
saved_some None b some = absurd (true≢false (sym some))

-- the shipped node is shown where it stands
pub is_shown : (n : Node) → IsShown n (Some n)
is_shown (File b m) = refl
is_shown (Dir m) = (m, refl)
is_shown (Link t) = refl

pub shown_at : (n : Node) (o : Option Node) → o ≡ Some n → IsShown n o
shown_at n o is = subst (IsShown n) (sym is) (is_shown n)

pub shown_directory : (n : Node) (m : Access) (o : Option Node) → n ≡ Dir m → IsDirectory o → IsShown n o
shown_directory n m o is dir = subst (λ k. IsShown k o) (sym is) dir

-- what is written is whole

pub written_whole : (old now : World) (x : Work) → HasWritten old now x → IsWhole old now x
written_whole old now x has = by (is_written x.node (old x.target)) refl has.target has.backup where
  by : (a : Bool) → is_written x.node (old x.target) ≡ a → now x.target ≡ shown a x.node (old x.target) → now x.backup ≡ saved a (old x.target) (old x.backup) → IsWhole old now x
  by true wrote is spot = behind wrote (shown_at x.node (now x.target) is) spot
  by false left is spot = before is

pub written_amid : (works : List Work) (old now : World) → Written works old now → IsAmid works old old now
written_amid works old now written = record { each = all works written.each; rest = written.rest } where
  all : (xs : List Work) → Each (HasWritten old now) xs → Each (IsWhole old now) xs
  all [] has = tt
  all (x ∷ xs) has = (written_whole old now x has.0, all xs has.1)

-- the same of a world that agrees with the old one, and of one that agrees with the new
pub whole_from : (v w now : World) (x : Work) → v x.target ≡ w x.target → saved true (v x.target) (v x.backup) ≡ saved true (w x.target) (w x.backup) → IsWhole v now x → IsWhole w now x
whole_from v w now x same spare (before is) = before (is ∙ same)
whole_from v w now x same spare (between access node wrote gap spot) = between access node (subst (λ o. IsTrue (is_written x.node o)) same wrote) gap (spot ∙ same)
whole_from v w now x same spare (behind wrote is spot) = behind (subst (λ o. IsTrue (is_written x.node o)) same wrote) is (spot ∙ spare)

pub whole_agree : (v w now : World) (x : Work) → Agree v w x → IsWhole v now x → IsWhole w now x
whole_agree v w now x same whole = whole_from v w now x same.target (λ i. saved true (same.target i) (same.backup i)) whole

pub whole_new : (old v c : World) (y : Work) → Agree c v y → IsWhole old v y → IsWhole old c y
whole_new old v c y same (before is) = before (same.target ∙ is)
whole_new old v c y same (between access node wrote gap spot) = between access node wrote (same.target ∙ gap) (same.backup ∙ spot)
whole_new old v c y same (behind wrote is spot) = behind wrote (subst (IsShown y.node) (sym same.target) is) (same.backup ∙ spot)
