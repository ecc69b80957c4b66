-- What the calls of the system that were made so far say of a step's answer.
use Rattle.std.proofs.Common.{◌≡◌, ◌≢◌, ◌⊎◌, ℕ, Bool, inl, inr, Option, Some, None, List, [], ◌∷◌, ◌++◌, Result, Ok, Err, IfErr, refl, sym, ap, subst, ◌∙◌, append_assoc}
use Rattle.std.proofs.lemmas.Bool.{false≢true}
use Rattle.std.proofs.lemmas.List.{append-nil}
use Rattle.std.specs.Fs.{metadata_mode}
use Rattle.std.specs.Option.{IsSome}
use Rattle.std.specs.Result.{IsErr}
use Rattle.std.specs.declared.fs.Metadata.{Metadata}
use Rattle.host_core.specs.declared.fault.HostFault.{HostFault}
use Rattle.host_core.specs.declared.fault.HostFault.TheVariants.{Device, NoMemory, Declined}
use Rattle.host_files.specs.Faults.{IsOfStep, IsUndeclined}
use Rattle.host_files.specs.SystemCalls.{changes_in, look_call}
use Rattle.host_files.specs.Shown.{Adds, AddsFirst, IsAnsweredBy, IsAsked, IsBegun, IsMakingBy, IsStepBy, IsTakenAway, HasRenamed, IsRenamedBy, IsRenaming, directory_calls, first_call, write_calls, IsTakenFrom, IsTaking}
use Rattle.host_files.specs.declared.trace.SystemCall.{SystemCall}
use Rattle.host_files.specs.declared.trace.SystemCall.TheVariants.{Create, Gone, RemoveDirectory, Unlink}
use Rattle.host_core.specs.Paths.{Path}
use Rattle.host_core.specs.declared.content.Modified.{Modified}
use Rattle.host_core.specs.declared.node.Access.{Access}
use Rattle.host_core.specs.declared.node.Node.TheVariants.{File}
use Rattle.host_files.specs.Places.{IsEntry, place_of}
use Rattle.host_files.specs.declared.record.Asked.TheVariants as asked

-- nothing was changed, so that all the changes are to come
begun_none : (changing : List SystemCall → Type 0) (later made : List SystemCall) → changing later → changes_in made ≡ [] → IsBegun changing made
begun_none changing later made changes none = (later, subst changing (sym (ap (λ (l : List SystemCall). later ++ l) none ∙ append-nil later)) changes)

-- a step that failed before it changed anything
pub not_begun : {T : Type 0} (done changing declined : List SystemCall → Type 0) (later made : List SystemCall) (result : Result T HostFault) → IsErr result → IfErr result IsUndeclined → changing later → changes_in made ≡ []
    → IsAnsweredBy done (IsBegun changing) declined made result
not_begun done changing declined later made (Ok x) failed look changes none = absurd (false≢true failed)
not_begun done changing declined later made (Err Device) failed look changes none = begun_none changing later made changes none
not_begun done changing declined later made (Err NoMemory) failed look changes none = none
not_begun done changing declined later made (Err Declined) failed look changes none = absurd look

-- it was refused before it changed anything
pub refused : (T : Type 0) (done changing declined : List SystemCall → Type 0) (later made : List SystemCall) (fault : HostFault) → fault ≡ Device → changing later → changes_in made ≡ []
    → IsAnsweredBy {T = T} done (IsBegun changing) declined made (Err fault)
refused T done changing declined later made Device is changes none = begun_none changing later made changes none
refused T done changing declined later made NoMemory is changes none = none
refused T done changing declined later made Declined is changes none = absurd (let e : Declined ≡ Device = is in cc)

-- the same of something that is made
pub not_made : {T : Type 0} (first undo : SystemCall) (changes made : List SystemCall) (result : Result T HostFault) → IsErr result → IfErr result IsUndeclined → changes_in made ≡ [] → IsMakingBy first undo changes made result
not_made first undo changes made (Ok x) failed look none = absurd (false≢true failed)
not_made first undo changes made (Err Device) failed look none = inl (begun_none (λ all. all ≡ changes) changes made refl none)
not_made first undo changes made (Err NoMemory) failed look none = none
not_made first undo changes made (Err Declined) failed look none = absurd look

-- one that asked for all that it changes, whose last call ended so
pub all_asked : {T : Type 0} (done changing : List SystemCall → Type 0) (made : List SystemCall) (result : Result T HostFault) → IfErr result IsOfStep → done made → changing (changes_in made)
    → IsAnsweredBy done (IsBegun changing) (IsAsked changing) made result
all_asked done changing made (Ok x) step is changes = is
all_asked done changing made (Err Device) step is changes = ([], changes)
all_asked done changing made (Err NoMemory) step is changes = absurd step
all_asked done changing made (Err Declined) step is changes = changes

-- what takes something away failed or was declined before it was asked for
pub not_taken : {T : Type 0} (done taking : List SystemCall → Type 0) (made : List SystemCall) (result : Result T HostFault) → IsErr result → changes_in made ≡ []
    → IsAnsweredBy done (λ m. (changes_in m ≡ []) ⊎ taking m) (λ m. (changes_in m ≡ []) ⊎ taking m) made result
not_taken done taking made (Ok x) failed none = absurd (false≢true failed)
not_taken done taking made (Err Device) failed none = inl none
not_taken done taking made (Err NoMemory) failed none = none
not_taken done taking made (Err Declined) failed none = inl none

-- it was asked for, and ended so
pub taken : {T : Type 0} (taking : List SystemCall → Type 0) (made : List SystemCall) (result : Result T HostFault) → IfErr result IsOfStep → taking made
    → IsAnsweredBy taking (λ m. (changes_in m ≡ []) ⊎ taking m) (λ m. (changes_in m ≡ []) ⊎ taking m) made result
taken taking made (Ok x) step is = is
taken taking made (Err Device) step is = inr is
taken taking made (Err NoMemory) step is = absurd step
taken taking made (Err Declined) step is = inr is

-- from the directory that holds it, which was open
pub taken_from : {T : Type 0} (taking : List ℕ → List ℕ → SystemCall) → ((directory name : List ℕ) (calls : List SystemCall) → changes_in (taking directory name ∷ calls) ≡ taking directory name ∷ changes_in calls)
    → (place there directory name : List ℕ) (old made : List SystemCall) (result : Result T HostFault) → IfErr result IsOfStep → there ≡ place → IsEntry there directory name → old ≡ [] → made ≡ taking directory name ∷ old
    → IsAnsweredBy (λ m. IsTakenFrom taking place (changes_in m)) (λ m. IsTaking taking place (changes_in m)) (λ m. IsTaking taking place (changes_in m)) made result
taken_from taking change place there directory name old made result step same entry begun is =
    taken (λ m. IsTakenFrom taking place (changes_in m)) made result step
    (directory, name, subst (λ p. IsEntry p directory name) same entry, ap changes_in is ∙ change directory name old ∙ ap (λ (l : List SystemCall). taking directory name ∷ changes_in l) begun)

-- what makes it was asked for, and ended so
pub first_asked : {T : Type 0} (first undo : SystemCall) (rest made : List SystemCall) (result : Result T HostFault) → IsErr result → IfErr result IsOfStep → changes_in made ≡ first ∷ []
    → IsMakingBy first undo (rest ++ first ∷ []) made result
first_asked first undo rest made (Ok x) failed step is = absurd (false≢true failed)
first_asked first undo rest made (Err Device) failed step is = inl (rest, ap (λ (l : List SystemCall). rest ++ l) is)
first_asked first undo rest made (Err NoMemory) failed step is = absurd step
first_asked first undo rest made (Err Declined) failed step is = inl is

-- some of the changes were made, and then one failed or was declined
pub adds_some : {T : Type 0} (later more changes old new : List SystemCall) (result : Result T HostFault) → IsErr result → IfErr result IsOfStep → changes ≡ later ++ more → changes_in new ≡ more ++ changes_in old → Adds changes old new result
adds_some later more changes old new (Ok x) failed step all some = absurd (false≢true failed)
adds_some later more changes old new (Err Device) failed step all some = (later, more, all, some)
adds_some later more changes old new (Err NoMemory) failed step all some = absurd step
adds_some later more changes old new (Err Declined) failed step all some = (later, more, all, some)

-- Something was made, and then this was added.

more_made : (first : SystemCall) (rest later more : List SystemCall) → rest ≡ later ++ more → rest ++ first ∷ [] ≡ later ++ (more ++ first ∷ [])
more_made first rest later more is = ap (λ (l : List SystemCall). l ++ first ∷ []) is ∙ append_assoc later more (first ∷ [])

first_after : (before rest older old new : List SystemCall) → changes_in old ≡ before ++ changes_in older → AddsFirst rest old new → AddsFirst (rest ++ before) older new
first_after before rest older old new is adds =
    (adds.0, adds.1 ++ before, ap (λ (l : List SystemCall). l ++ before) adds.2 ∙ append_assoc adds.0 adds.1 before, adds.3 ∙ ap (λ (l : List SystemCall). adds.1 ++ l) is ∙ sym (append_assoc adds.1 before (changes_in older)))

-- what was added behind others was added with them
pub adds_after : {T : Type 0} (before rest older old new : List SystemCall) (result : Result T HostFault) → changes_in old ≡ before ++ changes_in older → IfErr result IsOfStep → Adds rest old new result → Adds (rest ++ before) older new result
adds_after before rest older old new (Ok x) is step adds = adds ∙ ap (λ (l : List SystemCall). rest ++ l) is ∙ sym (append_assoc rest before (changes_in older))
adds_after before rest older old new (Err Device) is step adds = first_after before rest older old new is adds
adds_after before rest older old new (Err NoMemory) is step adds = absurd step
adds_after before rest older old new (Err Declined) is step adds = first_after before rest older old new is adds

-- the first of them were made
begun : {T : Type 0} (changes old new : List SystemCall) (result : Result T HostFault) → IsErr result → IfErr result IsOfStep → AddsFirst changes old new → Adds changes old new result
begun changes old new (Ok x) failed step first = absurd (false≢true failed)
begun changes old new (Err Device) failed step first = first
begun changes old new (Err NoMemory) failed step first = absurd step
begun changes old new (Err Declined) failed step first = first

-- the first of them were made where one failed or was declined
pub adds_first : (T : Type 0) (rest old new : List SystemCall) (fault : HostFault) → IsOfStep fault → Adds {T = T} rest old new (Err fault) → AddsFirst rest old new
adds_first T rest old new Device step adds = adds
adds_first T rest old new NoMemory step adds = absurd step
adds_first T rest old new Declined step adds = adds

-- one of them failed or was declined behind these
pub behind_begun : {T : Type 0} (U : Type 0) (before rest older old new : List SystemCall) (fault : HostFault) (result : Result T HostFault) → IsErr result → IfErr result IsOfStep → IsOfStep fault
    → changes_in old ≡ before ++ changes_in older → Adds {T = U} rest old new (Err fault) → Adds (rest ++ before) older new result
behind_begun U before rest older old new fault result failed step of is adds =
    begun (rest ++ before) older new result failed step (first_after before rest older old new is (adds_first U rest old new fault of adds))

-- one of them failed or was declined, so that those that were to come weren't made either
pub before_begun : {T : Type 0} (U : Type 0) (later rest old new : List SystemCall) (fault : HostFault) (result : Result T HostFault) → IsErr result → IfErr result IsOfStep → IsOfStep fault
    → Adds {T = U} rest old new (Err fault) → Adds (later ++ rest) old new result
before_begun U later rest old new fault result failed step of adds =
    let first = adds_first U rest old new fault of adds in
    begun (later ++ rest) old new result failed step (later ++ first.0, first.1, ap (λ (l : List SystemCall). later ++ l) first.2 ∙ sym (append_assoc later first.0 first.1), first.3)

-- it was taken away
pub taken_away : (first : SystemCall) (undone rest old new made : List SystemCall) → changes_in old ≡ first ∷ [] → AddsFirst rest old new → changes_in made ≡ undone ++ changes_in new → IsTakenAway first undone (rest ++ first ∷ []) made
taken_away first undone rest old new made is adds taken =
    (adds.0, adds.1, ap (λ (l : List SystemCall). l ++ first ∷ []) adds.2, taken ∙ ap (λ (l : List SystemCall). undone ++ l) (adds.3 ∙ ap (λ (l : List SystemCall). adds.1 ++ l) is))

-- and the last call of that ended so
pub unmade : (T : Type 0) (first undo : SystemCall) (rest old new made : List SystemCall) (fault : HostFault) → IsOfStep fault → changes_in old ≡ first ∷ [] → AddsFirst rest old new
    → (fault ≡ Device → made ≡ undo ∷ new) → (fault ≡ Declined → made ≡ Gone ∷ undo ∷ new) → changes_in (undo ∷ new) ≡ undo ∷ changes_in new → IsMakingBy first undo (rest ++ first ∷ []) {T = T} made (Err fault)
unmade T first undo rest old new made Device step is adds left gone change = inr (taken_away first (undo ∷ []) rest old new made is adds (ap changes_in (left refl) ∙ change))
unmade T first undo rest old new made NoMemory step is adds left gone change = absurd step
unmade T first undo rest old new made Declined step is adds left gone change =
    inr (taken_away first (Gone ∷ undo ∷ []) rest old new made is adds (ap changes_in (gone refl) ∙ ap (λ (l : List SystemCall). Gone ∷ l) change))

-- a file that was made so was written, whichever time it was given
pub written_by : {T : Type 0} (front : List ℕ) (owners : Bool) (p : Path) (bytes : List ℕ) (access : Access) (modified : Option Modified) (made : List SystemCall) (result : Result T HostFault)
    → IsMakingBy (Create (place_of front p)) (Unlink (place_of front p)) (write_calls owners (place_of front p) bytes access modified) made result → IsStepBy front owners (asked.Write p (File bytes access)) made result
written_by front owners p bytes access modified made (Ok x) is = (modified, is)
written_by front owners p bytes access modified made (Err Device) is = (modified, is)
written_by front owners p bytes access modified made (Err NoMemory) is = is
written_by front owners p bytes access modified made (Err Declined) is = (modified, is)

-- a directory that was made so, whichever access it was seen with
pub directory_by : {T : Type 0} (front : List ℕ) (owners : Bool) (p : Path) (access seen : Access) (made : List SystemCall) (result : Result T HostFault)
    → IsMakingBy (first_call owners (place_of front p) access) (RemoveDirectory (place_of front p)) (directory_calls owners (place_of front p) access seen) made result → IsStepBy front owners (asked.MakeDir p access) made result
directory_by front owners p access seen made (Ok x) is = (seen, is)
directory_by front owners p access seen made (Err Device) is = (seen, is)
directory_by front owners p access seen made (Err NoMemory) is = is
directory_by front owners p access seen made (Err Declined) is = (seen, is)

-- the former of two names of one file was removed
pub former_removed : {T : Type 0} (from to : List ℕ) (over : Option Metadata) (before made : List SystemCall) (result : Result T HostFault) → from ≢ to → IsSome over → changes_in before ≡ []
    → made ≡ Unlink from ∷ look_call to over ∷ before → IfErr result IsOfStep → IsRenamedBy from to made result
former_removed from to (Some found) before made result apart there none is step = all_asked (HasRenamed from to) (IsRenaming from to) made result step
    (inr (apart, (metadata_mode found, (before, none, is)))) (inr (ap changes_in is ∙ ap (λ (l : List SystemCall). Unlink from ∷ l) none, apart))
former_removed from to None before made result apart there none is step = absurd (false≢true there)
