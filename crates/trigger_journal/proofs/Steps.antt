-- The steps of writing the journal.
use Rattle.std.proofs.Common.{◌≡◌, ◌≢◌, ◌⊎◌, ◌+◌, inl, inr, arith, ℕ, Bool, true, false, List, [], ◌∷◌, ◌++◌, Option, Some, None, codes, refl, sym, ap, subst, ◌∙◌, Contains, IsTrue}
use Rattle.std.specs.Prelude.{MatchBool, IfOk, Result, Ok, Err}
use Rattle.host_core.specs.Host.{AtEachMoment, Counts, NoFault, Silent}
use Rattle.host_core.specs.Looks.{Looks}
use Rattle.host_core.specs.Loss.{IsAnswered}
use Rattle.host_core.specs.declared.fault.HostFault.TheVariants.{Device, NoMemory, Declined}
use Rattle.host_core.proofs.Counted.{declined_then, no_fault_then}
use Rattle.host_core.proofs.Moments.{reads_then, silent_then}
use Rattle.status_records.specs.declared.record.Record.{Record}
use Rattle.trigger_journal.specs.Ahead.{missing, names_ahead, own_lines, text_ahead}
use Rattle.std.specs.Str.{bytes_eq}
use Rattle.std.proofs.lemmas.Bool.{true≢false}
use Rattle.std.proofs.lemmas.Slice.Eq.{bytes_eq-Decides}
use Rattle.host_core.specs.Paths.{Path}
use Rattle.host_core.specs.World.{World, HasParent, IsDirectory, IsLoose}
use Rattle.host_core.specs.declared.node.Node.{Node}
use Rattle.host_core.specs.declared.fault.HostFault.{HostFault}
use Rattle.host_core.specs.World.{Barrier}
use Rattle.host_core.specs.Host.{Does, Falls, HasFailed, Reads, Since, State}
use Rattle.host_core.proofs.Barriers.{barrier_world, since_to_disk}
use Rattle.host_core.proofs.Moments.{since_now, since_reads, since_then, since_weaker, since_weaker_if}
use Rattle.administration.specs.Directories.{IsMade, IsMaking}
use Rattle.administration.specs.Files.{IsReplaced, IsReplacing, NoDirectory}
use Rattle.administration.specs.Places.{home_path, temporary}
use Rattle.administration.proofs.WholeFiles.{no_slash}
use Rattle.trigger_journal.specs.Places.{journal_path, triggers_directory}
use Rattle.trigger_journal.specs.Requests.{requests_in, text_at}
use Rattle.trigger_journal.specs.Writing.{HasText, IsBlocked, IsClearing, IsUnwritten, IsWriting, IsWritingAhead, KeepsBesideJournal, journal_file}

other : (p q : Path) → bytes_eq p q ≡ false → p ≢ q
other p q differ e = true≢false (sym ((bytes_eq-Decides p q).1 e) ∙ differ)

pub journal_other : journal_path ≢ triggers_directory
journal_other = other journal_path triggers_directory refl

pub spare_other : temporary journal_path ≢ triggers_directory
spare_other = other (temporary journal_path) triggers_directory refl

directory_other : triggers_directory ≢ journal_path
directory_other = other triggers_directory journal_path refl

directory_spare : triggers_directory ≢ temporary journal_path
directory_spare = other triggers_directory (temporary journal_path) refl

pub writing_start : (text : List ℕ) (w : World) → IsWriting text w w
writing_start text w = record { journal = inl refl; directory = inl refl; rest = λ q nd nj nt. refl }

pub writing_same : (text : List ℕ) (old now : World) → now ≡ old → IsWriting text old now
writing_same text old now same = subst (IsWriting text old) (sym same) (writing_start text old)

pub making_writing : (text : List ℕ) (old now : World) → IsMaking triggers_directory old now → IsWriting text old now
making_writing text old now making = record { journal = inl (making.rest journal_path journal_other); directory = making.target; rest = λ q nd nj nt. making.rest q nd }

then_file : (now mid old : Option Node) (file : Node) → (now ≡ mid) ⊎ (now ≡ Some file) → (mid ≡ old) ⊎ (mid ≡ Some file) → (now ≡ old) ⊎ (now ≡ Some file)
then_file now mid old file (inr e) before = inr e
then_file now mid old file (inl e) (inl f) = inl (e ∙ f)
then_file now mid old file (inl e) (inr f) = inr (e ∙ f)

then_directory : (now mid old : Option Node) → now ≡ mid → (mid ≡ old) ⊎ ((old ≡ None) × IsDirectory mid) → (now ≡ old) ⊎ ((old ≡ None) × IsDirectory now)
then_directory now mid old e (inl f) = inl (e ∙ f)
then_directory now mid old e (inr made) = inr (made.0, subst IsDirectory (sym e) made.1)

pub replacing_writing : (text : List ℕ) (old mid now : World) → IsWriting text old mid → IsReplacing journal_path (journal_file text) mid now → IsWriting text old now
replacing_writing text old mid now writing replacing = record {
  journal = then_file (now journal_path) (mid journal_path) (old journal_path) (journal_file text) replacing.target writing.journal;
  directory = then_directory (now triggers_directory) (mid triggers_directory) (old triggers_directory) (replacing.rest triggers_directory directory_other directory_spare) writing.directory;
  rest = λ q nd nj nt. replacing.rest q nj nt ∙ writing.rest q nd nj nt;
}

pub text_written : (text : List ℕ) (old mid now : World) → KeepsBesideJournal old mid → IsReplaced journal_path (journal_file text) mid now → HasText text old now
text_written text old mid now keeps replaced = record { stands = ap text_at replaced.target; rest = λ q nd nj nt. replaced.rest q nj nt ∙ keeps q nd nj nt }

pub unmade : (old now : World) → IsLoose (old triggers_directory) → IsMaking triggers_directory old now → IsUnwritten old now
unmade old now loose making = record { blocked = inl loose; journal = making.rest journal_path journal_other; rest = λ q nd nj nt. making.rest q nd }

pub taken : (old mid now : World) → IsMaking triggers_directory old mid → now ≡ mid → IsDirectory (mid journal_path) ⊎ IsDirectory (mid (temporary journal_path)) → IsUnwritten old now
taken old mid now making same is = record {
  blocked = inr (elim is [
    | inl d ↦ inl (subst IsDirectory (making.rest journal_path journal_other) d)
    | inr d ↦ inr (subst IsDirectory (making.rest (temporary journal_path) spare_other) d)
  ]);
  journal = ap (λ w. w journal_path) same ∙ making.rest journal_path journal_other;
  rest = λ q nd nj nt. ap (λ w. w q) same ∙ making.rest q nd;
}

pub directory_parent : (w : World) → IsDirectory (w home_path) → HasParent w triggers_directory
directory_parent w there = (home_path, codes "triggers", refl, no_slash (codes "triggers") refl, there)

pub journal_parent : (w : World) → IsDirectory (w triggers_directory) → HasParent w journal_path
journal_parent w there = (triggers_directory, codes "Unincorp", refl, no_slash (codes "Unincorp") refl, there)

-- a directory stands at one of two paths
pub either : {E : Type 0} (A B C D : Type 0) (r : Result Bool E) → C → IfOk r (λ is. MatchBool is B D) → IfOk r (λ is. MatchBool is (A ⊎ B) (C × D))
either A B C D (Ok true) c b = inr b
either A B C D (Ok false) c d = (c, d)
either A B C D (Err e) c x = tt

-- moment after moment

abbrev pub IsWritten : List ℕ → State → State → Type 0
IsWritten text a b = Since (λ so_far. IsWriting text a.world) a b

pub made_since : (text : List ℕ) (a b : State) (directory : Path) → directory ≡ triggers_directory → Since (λ so_far. IsMaking directory a.world) a b → IsWritten text a b
made_since text a b directory is since =
    since_weaker (λ so_far. IsMaking triggers_directory a.world) (λ so_far. IsWriting text a.world) a b (λ so_far w making. making_writing text a.world w making)
    (subst (λ (d : Path). Since (λ so_far. IsMaking d a.world) a b) is since)

pub looked_since : (text : List ℕ) (a b c : State) → IsWritten text a b → Reads b c → IsWritten text a c
looked_since text a b c first reads =
    since_then (λ so_far. IsWriting text a.world) a b c first
    (since_weaker_if (λ so_far w. w ≡ b.world) (λ so_far. IsWriting text a.world) b c
    (λ h so_far w same. subst (IsWriting text a.world) (sym same) (since_now (λ so_far. IsWriting text a.world) a b first (reads.honest h)))
    (since_reads (λ so_far w. w ≡ b.world) b c reads (λ fs all. refl)))

pub replaced_since : (text : List ℕ) (a b c : State) (path : Path) (node : Node) → path ≡ journal_path → node ≡ journal_file text → Falls b c → IsWritten text a b → Since (λ so_far. IsReplacing path node b.world) b c → IsWritten text a c
replaced_since text a b c path node at is falls first second =
    since_then (λ so_far. IsWriting text a.world) a b c first
    (since_weaker_if (λ so_far. IsReplacing journal_path (journal_file text) b.world) (λ so_far. IsWriting text a.world) b c
    (λ h so_far w replacing. replacing_writing text a.world b.world w (since_now (λ so_far. IsWriting text a.world) a b first (falls h)) replacing)
    (subst (λ (n : Node). Since (λ so_far. IsReplacing journal_path n b.world) b c) is (subst (λ (p : Path). Since (λ so_far. IsReplacing p node b.world) b c) at second)))

pub disk_since : {T : Type 0} (text : List ℕ) (result : Result T HostFault) (a b c : State) → IsWritten text a b → Does Barrier b c result → IsWritten text a c
disk_since text result a b c first does = since_to_disk (λ so_far. IsWriting text a.world) result a b c (λ x quiet w none is. is) first does

pub unmade_by : (a b : State) (directory : Path) (there : Bool) → directory ≡ triggers_directory → there ≡ false → MatchBool there (IsMade directory a.world b.world) (IsLoose (a.world directory))
    → Since (λ so_far. IsMaking directory a.world) a b → IsTrue b.honest → IsUnwritten a.world b.world
unmade_by a b directory there is isnt made since h =
    unmade a.world b.world
    (subst (λ (d : Path). IsLoose (a.world d)) is (subst (λ (t : Bool). MatchBool t (IsMade directory a.world b.world) (IsLoose (a.world directory))) isnt made))
    (subst (λ (d : Path). IsMaking d a.world b.world) is (since_now (λ so_far. IsMaking directory a.world) a b since h))

pub taken_by : (a b c : State) (directory path spare : Path) (is : Bool) → directory ≡ triggers_directory → path ≡ journal_path → spare ≡ temporary journal_path → is ≡ true
    → MatchBool is (IsDirectory (b.world path) ⊎ IsDirectory (b.world spare)) (NoDirectory (b.world path) × NoDirectory (b.world spare))
    → Since (λ so_far. IsMaking directory a.world) a b → Reads b c → IsTrue c.honest → IsUnwritten a.world c.world
taken_by a b c directory path spare is at here aside stands found since reads h =
    taken a.world b.world c.world (subst (λ (d : Path). IsMaking d a.world b.world) at (since_now (λ so_far. IsMaking directory a.world) a b since (reads.honest h))) reads.world
    (subst (λ (s : Path). IsDirectory (b.world journal_path) ⊎ IsDirectory (b.world s)) aside
    (subst (λ (p : Path). IsDirectory (b.world p) ⊎ IsDirectory (b.world spare)) here
    (subst (λ (t : Bool). MatchBool t (IsDirectory (b.world path) ⊎ IsDirectory (b.world spare)) (NoDirectory (b.world path) × NoDirectory (b.world spare))) stands found)))

pub made_there : (a b : State) (directory : Path) (there : Bool) → directory ≡ triggers_directory → there ≡ true → MatchBool there (IsMade directory a.world b.world) (IsLoose (a.world directory)) → IsDirectory (b.world triggers_directory)
made_there a b directory there is stands made =
    (subst (λ (d : Path). IsMade d a.world b.world) is (subst (λ (t : Bool). MatchBool t (IsMade directory a.world b.world) (IsLoose (a.world directory))) stands made)).target

pub all_written : {T : Type 0} (text : List ℕ) (a b c d : State) (path : Path) (node : Node) (result : Result T HostFault) → path ≡ journal_path → node ≡ journal_file text → IsWritten text a b → Falls b c → Falls c d
    → (IsTrue c.honest → IsReplaced path node b.world c.world) → Does Barrier c d result → IsTrue d.honest → HasText text a.world d.world
all_written text a b c d path node result at is first falls later replaced does h =
    let honest = later h in
    let there = subst (λ (n : Node). IsReplaced journal_path n b.world c.world) is (subst (λ (p : Path). IsReplaced p node b.world c.world) at (replaced honest)) in
    subst (HasText text a.world) (sym (barrier_world result c d does h))
    (text_written text a.world b.world c.world (since_now (λ so_far. IsWriting text a.world) a b first (falls honest)).rest there)

-- looks before a step

pub looked : (text : List ℕ) (s t : State) → Reads s t → IsWritten text s t
looked text s t reads = since_reads (λ so_far. IsWriting text s.world) s t reads (λ fs all. writing_start text s.world)

pub ahead_looked : (records : List Record) (s t : State) → Reads s t → AtEachMoment (IsWritingAhead records) s t
ahead_looked records s t reads = looked (text_ahead (names_ahead s.world records) (text_at (s.world journal_path))) s t reads

written_from : (text other : List ℕ) (s m t : State) → Reads s m → (IsTrue t.honest → other ≡ text) → IsWritten other m t → IsWritten text s t
written_from text other s m t reads same since =
    since_then (λ so_far. IsWriting text s.world) s m t (looked text s m reads)
    (since_weaker_if (λ so_far. IsWriting other m.world) (λ so_far. IsWriting text s.world) m t
    (λ h so_far w is. subst (λ (x : List ℕ). IsWriting x s.world w) (same h) (subst (λ (v : World). IsWriting other v w) reads.world is)) since)

pub ahead_from : (records : List Record) (text : List ℕ) (s m t : State) → Reads s m → (IsTrue t.honest → text ≡ text_ahead (names_ahead s.world records) (text_at (s.world journal_path))) → IsWritten text m t
    → AtEachMoment (IsWritingAhead records) s t
ahead_from records text s m t reads same since = written_from (text_ahead (names_ahead s.world records) (text_at (s.world journal_path))) text s m t reads same since

pub clear_from : (text : List ℕ) (s m t : State) → Reads s m → text ≡ [] → IsWritten text m t → AtEachMoment IsClearing s t
clear_from text s m t reads none since = written_from [] text s m t reads (λ h. none) since

answered_from : (s m t : State) → Reads s m → IsAnswered m t → IsAnswered s t
answered_from s m t reads (inl disk) = inl disk
answered_from s m t reads (inr more) = inr (reads_then s m t reads more)

pub disk_from : {E : Type 0} (result : Result Bool E) (s m t : State) → Reads s m → IfOk result (λ written. MatchBool written (IsAnswered m t) (Unit {0})) → IfOk result (λ written. MatchBool written (IsAnswered s t) (Unit {0}))
disk_from (Ok true) s m t reads answered = answered_from s m t reads answered
disk_from (Ok false) s m t reads answered = tt
disk_from (Err e) s m t reads answered = tt

pub text_by : (field second fourth text old : List ℕ) (first third left names ahead : List (List ℕ)) → field ≡ own_lines third ++ fourth → third ≡ left → left ≡ missing (requests_in second) first → first ≡ names → second ≡ text → fourth ≡ text
    → names ≡ ahead → text ≡ old → field ≡ text_ahead ahead old
text_by field second fourth text old first third left names ahead e lefts is a b d n t =
    e ∙ ap (λ (l : List (List ℕ)). own_lines l ++ fourth) (lefts ∙ is ∙ ap (λ (x : List ℕ). missing (requests_in x) first) (b ∙ t) ∙ ap (missing (requests_in old)) (a ∙ n))
    ∙ ap (λ (x : List ℕ). own_lines (missing (requests_in old) ahead) ++ x) (d ∙ t)

-- one look behind another

failed_then : (s m t : State) → NoFault s m → HasFailed m t → HasFailed s t
failed_then s m t first later = record { once = let same = first.faults in let once = later.once in omega (arith, same, once); last = later.last }

counts_then : {T : Type 0} (s m t : State) (result : Result T HostFault) → NoFault s m → Counts m t result → Counts s t result
counts_then s m t (Ok x) first later = no_fault_then s m t first later
counts_then s m t (Err Device) first later = failed_then s m t first later
counts_then s m t (Err NoMemory) first later = no_fault_then s m t first later
counts_then s m t (Err Declined) first later = declined_then s m t first later

if_ok : {T E : Type 0} (result : Result T E) (Q P : T → Type 0) → ((x : T) → Q x → P x) → IfOk result Q → IfOk result P
if_ok (Ok x) Q P so q = so x q
if_ok (Err e) Q P so q = tt

pub looks_then : {T : Type 0} (result : Result T HostFault) (Q P : T → World → Type 0) (s m t : State) → Reads s m → Silent s m → NoFault s m → Looks result Q m t → (IsTrue m.honest → (x : T) → Q x m.world → P x s.world) → Looks result P s t
looks_then result Q P s m t reads silent none later so = record {
  found = λ h. if_ok result (λ x. Q x m.world) (λ x. P x s.world) (so (later.reads.honest h)) (later.found h);
  reads = reads_then s m t reads later.reads;
  silent = silent_then s m t silent later.silent;
  counts = counts_then s m t result none later.counts;
}
