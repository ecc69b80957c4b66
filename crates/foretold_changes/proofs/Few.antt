-- No more is told as unread than looks failed.
use Rattle.std.proofs.Common.{◌≡◌, ◌+◌, ◌<◌, ◌≤◌, ◌++◌, ◌∷◌, ℕ, Bool, cond, List, [], Option, Some, None, ap, arith, refl}
use Rattle.std.specs.List.{count_by}
use Rattle.std.specs.Prelude.{fold}
use Rattle.host_core.specs.Events.{faults_of}
use Rattle.host_core.specs.Host.{Reads, State, faults}
use Rattle.host_core.proofs.Counted.{faults_of-append}
use Rattle.foretold_changes.specs.Changes.{is_unread, unread_paths}
use Rattle.foretold_changes.specs.Staying.{is_unread_stay, unread_stays}
use Rattle.foretold_changes.specs.declared.change.Change.{Change}
use Rattle.foretold_changes.specs.declared.change.Change.TheVariants as change
use Rattle.foretold_changes.specs.declared.looking.LookedPath.{LookedPath}
use Rattle.foretold_changes.specs.declared.staying.LookedConffile.{LookedConffile}
use Rattle.foretold_changes.specs.declared.staying.Stay.{Stay}
use Rattle.foretold_changes.specs.declared.staying.Stay.TheVariants as stay

-- a look forgets no fault
pub more_faults : (s t : State) → Reads s t → faults s ≤ faults t
more_faults s t reads = omega (arith, ap faults_of reads.events, faults_of-append s.events reads.added)

fold_push : {A X : Type 0} (f : A → X → A) (a : A) (xs : List X) (x : X) → fold f a (xs ++ x ∷ []) ≡ f (fold f a xs) x
fold_push f a [] x = refl
fold_push f a (y ∷ xs) x = fold_push f (f a y) xs x

count_push : {X : Type 0} (p : X → Bool) (xs : List X) (x : X) → count_by p (xs ++ x ∷ []) ≡ count_by p xs + cond (p x) 1 0
count_push p xs x = fold_push (λ n y. n + cond (p y) 1 0) 0 xs x

-- one look more
path_one : (found : Option Change) (mid last : ℕ) → (found ≡ Some change.Unread → mid < last) → mid ≤ last → cond (is_unread found) 1 0 + mid ≤ last
path_one None mid last cause more = omega (arith, more)
path_one (Some change.Write) mid last cause more = omega (arith, more)
path_one (Some change.Replace) mid last cause more = omega (arith, more)
path_one (Some change.Remove) mid last cause more = omega (arith, more)
path_one (Some change.Unread) mid last cause more = (let less = cause refl in omega (arith, less))

stay_one : (found : Option Stay) (mid last : ℕ) → (found ≡ Some stay.Unread → mid < last) → mid ≤ last → cond (is_unread_stay found) 1 0 + mid ≤ last
stay_one None mid last cause more = omega (arith, more)
stay_one (Some stay.Edited) mid last cause more = omega (arith, more)
stay_one (Some stay.Unread) mid last cause more = (let less = cause refl in omega (arith, less))

pub paths_push : (xs : List LookedPath) (x : LookedPath) (first mid last : ℕ) → unread_paths xs + first ≤ mid → (x.found ≡ Some change.Unread → mid < last) → mid ≤ last
    → unread_paths (xs ++ x ∷ []) + first ≤ last
paths_push xs x first mid last few cause more = (let push = count_push (λ (l : LookedPath). is_unread l.found) xs x in let one = path_one x.found mid last cause more in omega (arith, push, one, few))

pub stays_push : (xs : List LookedConffile) (x : LookedConffile) (first mid last : ℕ) → unread_stays xs + first ≤ mid → (x.stay ≡ Some stay.Unread → mid < last) → mid ≤ last
    → unread_stays (xs ++ x ∷ []) + first ≤ last
stays_push xs x first mid last few cause more = (let push = count_push (λ (l : LookedConffile). is_unread_stay l.stay) xs x in let one = stay_one x.stay mid last cause more in omega (arith, push, one, few))
