-- How the opening of one part goes on to the next.
use Rattle.std.proofs.Common.{◌≡◌, ◌≢◌, ◌⊎◌, ◌||◌, codes, inl, inr, zero, suc, arith, Contains, ℕ, Bool, true, false, List, [], ◌∷◌, ◌++◌, Option, Some, None, IsSome, nat_eq, Result, Ok, Err, IfOk, IfErr, IsErrAnd, refl, sym, ap, subst, ◌∙◌}
use Rattle.std.specs.List.{AllByRecursion, list_any}
use Rattle.std.specs.Str.{bytes_eq}
use Rattle.std.proofs.lemmas.Slice.Eq.{bytes_eq-Decides}
use Rattle.std.proofs.lemmas.Bool.{true≢false}
use Rattle.std.proofs.lemmas.Cmp.{nat_eq_equiv}
use Rattle.std.proofs.lemmas.Map.Views.{Contains-from_any, list_any-from_Contains}
use Rattle.host_core.proofs.Nodes.{none_stands}
use Rattle.host_core.specs.Paths.{Path, is_path}
use Rattle.host_core.specs.World.{World, HasParent, IsDirectory, IsLoose, SameOn}
use Rattle.host_core.specs.Host.{State, Reads, Since}
use Rattle.host_core.proofs.Moments.{since_reads, since_then, since_weaker, since_weaker_if, since_now}
use Rattle.host_core.specs.declared.fault.HostFault.{HostFault}
use Rattle.host_core.specs.declared.fault.HostFault.TheVariants as host
use Rattle.host_core.specs.Nodes.{own_access}
use Rattle.administration.specs.Places.{home_path, info_path, status_path, diversions_path, updates_path, tmp_path, list_path, temporary, is_within}
use Rattle.administration.specs.Directories.{new_directory, HasBadName, IsMade, IsMaking, IsRemoved, IsTaking}
use Rattle.administration.specs.Fault.{fault_of}
use Rattle.administration.specs.Files.{NoDirectory, KeepsBeside}
use Rattle.administration.specs.Least.{IsLeastIn}
use Rattle.administration.specs.declared.fault.AdministrationFault.{AdministrationFault}
use Rattle.administration.specs.declared.fault.AdministrationFault.TheVariants.{Damaged, Device, NoMemory, Declined}
use Rattle.administration.proofs.WholeFiles.{no_directory_none, no_directory_at}
use Rattle.administration.proofs.Emptying.{less_then}
use Rattle.file_lists.specs.Info.{AreSound, IsInfoDamage, IsSound}
use Rattle.diversions.specs.declared.entry.Diversion.{Diversion}
use Rattle.diversions.specs.Diverted.{Diverted}
use Rattle.diversions.specs.Lines.{HasDiversions, HasEntries, IsDiversionsDamage}
use Rattle.file_lists.specs.Filed.{Filed}
use Rattle.file_lists.specs.Lists.{HasLists}
use Rattle.file_lists.specs.declared.paths.PackageList.{PackageList}
use Rattle.opening.proofs.Finding.{damage_before, finds_behind, host_damage, memory_damage}
use Rattle.opening.proofs.KeptLists.{has_lists_kept}
use Rattle.opening.specs.declared.open.Opened.{Opened as AnOpened}
use Rattle.status_records.specs.declared.record.Record.{Record}
use Rattle.status_db.specs.Held.{IsFree}
use Rattle.status_db.specs.NoteDamage.{AreNotesFine, IsRecordsDamage}
use Rattle.status_db.specs.Notes.{IsNoteAt, note_path}
use Rattle.status_db.specs.Recorded.{Recorded}
use Rattle.status_db.proofs.NotedWorlds.{records_same}
use Rattle.host_core.specs.declared.node.Node.{Node}
use Rattle.opening.specs.Opened.{IsFound, IsListed}
use Rattle.opening.specs.Leaving.{IsOpening, HasMadeWays, IsNewWay, is_way, root_path, ways}
use Rattle.opening.specs.Parts.{Part, Root, Way, is_leftovers, IsDamaged, IsTable, SparesLeftovers, Records, Spare, Info, Diversions, Leftovers, IsFine, IsFirstFault, IsDamage, IsLeftoversFault, Finds, Opens, fault_in, names_of, parts}

pub opening_start : (w : World) → IsOpening w w
opening_start w = record { rest = λ q out. inl refl; left = λ q within. inl refl }

after_new : (q : Path) (u v w : World) → IsNewWay q u v → (w q ≡ v q) ⊎ IsNewWay q v w → (w q ≡ u q) ⊎ IsNewWay q u w
after_new q u v w new (inl same) = inr (record { way = new.way; missing = new.missing; made = subst IsDirectory (sym same) new.made })
after_new q u v w new (inr again) = absurd (no_directory_none (subst IsDirectory again.missing new.made))

after_same : (q : Path) (u v w : World) → v q ≡ u q → (w q ≡ v q) ⊎ IsNewWay q v w → (w q ≡ u q) ⊎ IsNewWay q u w
after_same q u v w same (inl more) = inl (more ∙ same)
after_same q u v w same (inr new) = inr (record { way = new.way; missing = sym same ∙ new.missing; made = new.made })

after_either : (q : Path) (u v w : World) → (v q ≡ u q) ⊎ IsNewWay q u v → (w q ≡ v q) ⊎ IsNewWay q v w → (w q ≡ u q) ⊎ IsNewWay q u w
after_either q u v w (inl same) second = after_same q u v w same second
after_either q u v w (inr new) second = after_new q u v w new second

pub opening_then : (u v w : World) → IsOpening u v → IsOpening v w → IsOpening u w
opening_then u v w first second = record {
  rest = λ q out. after_either q u v w (first.rest q out) (second.rest q out);
  left = λ q within. less_then (w q) (v q) (u q) (first.left q within) (second.left q within);
}

pub opening_same : (u v : World) → v ≡ u → IsOpening u v
opening_same u v same = subst (IsOpening u) (sym same) (opening_start u)

pub moments_then : (a b c : State) → Since (λ so_far. IsOpening a.world) a b → Since (λ so_far. IsOpening b.world) b c → Since (λ so_far. IsOpening a.world) a c
moments_then a b c first second = since_then (λ so_far. IsOpening a.world) a b c first
    (since_weaker_if (λ so_far. IsOpening b.world) (λ so_far. IsOpening a.world) b c (λ h so_far w later. opening_then a.world b.world w (since_now (λ so_far. IsOpening a.world) a b first (second.honest h)) later) second)

pub moments_read : (a b : State) → Reads a b → Since (λ so_far. IsOpening a.world) a b
moments_read a b reads = since_reads (λ so_far. IsOpening a.world) a b reads (λ fs all. opening_start a.world)

apart_from : (p q : Path) → bytes_eq p q ≡ false → q ≢ p
apart_from p q e same = absurd (true≢false (sym ((bytes_eq-Decides p q).1 (sym same)) ∙ e))

making_at : (p q : Path) (b : Bool) → bytes_eq p q ≡ b → (old now : World) → is_way p ≡ true → IsMaking p old now → (now q ≡ old q) ⊎ IsNewWay q old now
making_at p q false e old now way making = inl (making.rest q (apart_from p q e))
making_at p q true e old now way making = subst (λ r. (now r ≡ old r) ⊎ IsNewWay r old now) ((bytes_eq-Decides p q).0 e) (here making.target)
  where
    here : (now p ≡ old p) ⊎ ((old p ≡ None) × IsDirectory (now p)) → (now p ≡ old p) ⊎ IsNewWay p old now
    here (inl same) = inl same
    here (inr new) = inr (record { way = way; missing = new.0; made = new.1 })

-- each of the directories is a path, and none of them lies within `tmp.ci`

among_ways : (P : Path → Type 0) → P (codes "/var") → P (codes "/var/lib") → P home_path → P updates_path → P info_path → (p : Path) → Contains ways p → P p
among_ways P var lib home updates info p (zero, lt, e) = subst P e var
among_ways P var lib home updates info p (suc zero, lt, e) = subst P e lib
among_ways P var lib home updates info p (suc (suc zero), lt, e) = subst P e home
among_ways P var lib home updates info p (suc (suc (suc zero)), lt, e) = subst P e updates
among_ways P var lib home updates info p (suc (suc (suc (suc zero))), lt, e) = subst P e info
among_ways P var lib home updates info p (suc (suc (suc (suc (suc k)))), lt, e) = absurd (omega (arith, lt))

is_among : (p : Path) → is_way p ≡ true → Contains ways p
is_among p way = Contains-from_any (λ x y e. (bytes_eq-Decides x y).0 e) p ways way

way_outside : (p : Path) → is_way p ≡ true → is_within tmp_path p ≡ false
way_outside p way = among_ways (λ q. is_within tmp_path q ≡ false) refl refl refl refl refl p (is_among p way)

pub way_is_path : (p : Path) → is_way p ≡ true → is_path p ≡ true
way_is_path p way = among_ways (λ q. is_path q ≡ true) refl refl refl refl refl p (is_among p way)

pub making_spares : (p : Path) (old now : World) → is_way p ≡ true → IsMaking p old now → SameOn (is_within tmp_path) old now
making_spares p old now way making q within = making.rest q (λ same. true≢false (sym within ∙ ap (is_within tmp_path) same ∙ way_outside p way))

pub opening_making : (p : Path) (old now : World) → is_way p ≡ true → IsMaking p old now → IsOpening old now
opening_making p old now way making = record {
  rest = λ q out. making_at p q (bytes_eq p q) refl old now way making;
  left = λ q within. inl (making_spares p old now way making q within);
}

pub moments_making : (p : Path) (a b : State) → is_way p ≡ true → Since (λ so_far. IsMaking p a.world) a b → Since (λ so_far. IsOpening a.world) a b
moments_making p a b way since = since_weaker _ (λ so_far. IsOpening a.world) a b (λ so_far w making. opening_making p a.world w way making) since

opening_clearing : (old now : World) → IsTaking tmp_path old now → IsOpening old now
opening_clearing old now is = record { rest = λ q out. inl (is.rest q out); left = λ q within. is.less q }

-- reading, then removing `tmp.ci`
pub moments_clearing : (p : Path) (a b c : State) → p ≡ tmp_path → Reads a b → Since (λ so_far. IsTaking p b.world) b c → Since (λ so_far. IsOpening a.world) a c
moments_clearing p a b c e reads since = moments_then a b c (moments_read a b reads)
    (since_weaker _ (λ so_far. IsOpening b.world) b c (λ so_far w is. opening_clearing b.world w is) (subst (λ q. Since (λ so_far. IsTaking q b.world) b c) e since))

-- the directories that were made

made_same : (u v : World) → v ≡ u → HasMadeWays u v
made_same u v same q way = inl (ap (λ w. w q) same)

made_then : (u v w : World) → HasMadeWays u v → HasMadeWays v w → HasMadeWays u w
made_then u v w first second q way = elim (first q way) [
  | inl same ↦ elim (second q way) [ inl more ↦ inl (more ∙ same) | inr new ↦ inr (sym same ∙ new.0, new.1) ]
  | inr new ↦ elim (second q way) [ inl more ↦ inr (new.0, more ∙ new.1) | inr again ↦ absurd (no_directory_none (own_access 0o755, sym again.0 ∙ new.1)) ]
]

made_at : (p : Path) (u v : World) → KeepsBeside p u v → (v p ≡ u p) ⊎ ((u p ≡ None) × (v p ≡ new_directory)) → HasMadeWays u v
made_at p u v rest here q way = at (bytes_eq p q) refl
  where
    at : (b : Bool) → bytes_eq p q ≡ b → (v q ≡ u q) ⊎ ((u q ≡ None) × (v q ≡ new_directory))
    at false e = inl (rest q (apart_from p q e))
    at true e = subst (λ r. (v r ≡ u r) ⊎ ((u r ≡ None) × (v r ≡ new_directory))) ((bytes_eq-Decides p q).0 e) here

made_clearing : (u v : World) → IsTaking tmp_path u v → HasMadeWays u v
made_clearing u v is q way = inl (is.rest q (way_outside q way))

-- what is fine stays so while later parts are opened

directory_kept : (q : Path) (u v : World) → (v q ≡ u q) ⊎ IsNewWay q u v → IsDirectory (u q) → IsDirectory (v q)
directory_kept q u v (inl same) is = subst IsDirectory (sym same) is
directory_kept q u v (inr new) is = new.made

pub plain_kept : (q : Path) (u v : World) → is_way q ≡ false → (v q ≡ u q) ⊎ IsNewWay q u v → v q ≡ u q
plain_kept q u v plain (inl same) = same
plain_kept q u v plain (inr new) = absurd (true≢false (sym new.way ∙ plain))

-- a part that later steps leave fine
abbrev pub IsEarly : Part → Type 0
IsEarly Root = Unit {0}
IsEarly (Way path) = is_within tmp_path path ≡ false
IsEarly Records = Unit {0}
IsEarly (Spare path) = (is_within tmp_path path ≡ false) × (is_way path ≡ false)
IsEarly Info = Unit {0}
IsEarly Diversions = Unit {0}
IsEarly Leftovers = ⊥

-- what records are read of stays as it was

pub status_kept : (u v : World) → IsOpening u v → v status_path ≡ u status_path
status_kept u v opening = plain_kept status_path u v refl (opening.rest status_path refl)

pub note_kept : (n : ℕ) (u v : World) → IsOpening u v → v (note_path n) ≡ u (note_path n)
note_kept n u v opening = plain_kept (note_path n) u v refl (opening.rest (note_path n) refl)

pub note_spare_kept : (n : ℕ) (u v : World) → IsOpening u v → v (temporary (note_path n)) ≡ u (temporary (note_path n))
note_spare_kept n u v opening = plain_kept (temporary (note_path n)) u v refl (opening.rest (temporary (note_path n)) refl)

table_kept : (table : List Record) (u v : World) → IsOpening u v → IsTable u table → IsTable v table
table_kept table u v opening is = record { records = records_same u v table (status_kept u v opening) (λ n lt. note_kept n u v opening) is.records; standing = is.standing }

notes_kept : (u v : World) → IsOpening u v → AreNotesFine u → AreNotesFine v
notes_kept u v opening fine = record {
  text = λ bad. fine.text (bad.0, bad.1, bad.2, subst IsSome (plain_kept (updates_path ++ 47 ∷ bad.0) u v refl (opening.rest (updates_path ++ 47 ∷ bad.0) refl)) bad.3);
  each = λ n lt. record {
    note = (fine.each n lt).note;
    is = subst (λ (found : Option Node). IsNoteAt found (fine.each n lt).note) (sym (note_kept n u v opening)) (fine.each n lt).is;
    spare = no_directory_at (v (temporary (note_path n))) (u (temporary (note_path n))) (note_spare_kept n u v opening) (fine.each n lt).spare;
  };
}

pub free_kept : {among : List Part} {fault : Option AdministrationFault} (notes : ℕ) (u v : World) → Opens among fault u v → IsFree notes u → IsFree notes v
free_kept notes u v opens free n le lt = note_kept n u v opens.changes ∙ free n le lt

diverted_kept : (entries : List Diversion) (u v : World) → v diversions_path ≡ u diversions_path → HasDiversions u entries → HasDiversions v entries
diverted_kept entries u v e has = subst (λ n. HasEntries n entries) (sym e) has

pub fine_kept : (part : Part) (u v : World) → IsEarly part → IsOpening u v → IsFine u part → IsFine v part
fine_kept Root u v early opening fine = directory_kept root_path u v (opening.rest root_path refl) fine
fine_kept (Way path) u v early opening fine = directory_kept path u v (opening.rest path early) fine
fine_kept Records u v early opening fine = (notes_kept u v opening fine.0, (fine.1.0, table_kept fine.1.0 u v opening fine.1.1))
fine_kept (Spare path) u v early opening fine = no_directory_at (v path) (u path) (plain_kept path u v early.1 (opening.rest path early.0)) fine
fine_kept Info u v early opening fine = record {
  table = fine.table;
  is_table = table_kept fine.table u v opening fine.is_table;
  text = λ bad. fine.text (bad.0, bad.1, bad.2, subst IsSome (plain_kept (info_path ++ 47 ∷ bad.0) u v refl (opening.rest (info_path ++ 47 ∷ bad.0) refl)) bad.3);
  sound = λ entry plain. subst (IsSound (names_of fine.table) entry) (sym (plain_kept (info_path ++ 47 ∷ entry) u v refl (opening.rest (info_path ++ 47 ∷ entry) refl))) (fine.sound entry plain);
}
fine_kept Diversions u v early opening fine = (fine.0, diverted_kept fine.0 u v (plain_kept diversions_path u v refl (opening.rest diversions_path refl)) fine.1)
fine_kept Leftovers u v early opening fine = absurd early

all_kept : (among : List Part) (u v : World) → AllByRecursion IsEarly among → IsOpening u v → AllByRecursion (IsFine u) among → AllByRecursion (IsFine v) among
all_kept [] u v early opening fine = tt
all_kept (part ∷ among) u v early opening fine = (fine_kept part u v early.0 opening fine.0, all_kept among u v early.1 opening fine.1)

either_false : (x y : Bool) → (x || y) ≡ false → (x ≡ false) × (y ≡ false)
either_false true y e = absurd (true≢false e)
either_false false y e = (refl, e)

early_spares : (among : List Part) → AllByRecursion IsEarly among → list_any is_leftovers among ≡ false
early_spares [] early = refl
early_spares (part ∷ among) early = ap (λ t. t || list_any is_leftovers among) (at part early.0) ∙ early_spares among early.1
  where
    at : (part : Part) → IsEarly part → is_leftovers part ≡ false
    at Root is = refl
    at (Way path) is = refl
    at Records is = refl
    at (Spare path) is = refl
    at Info is = refl
    at Diversions is = refl
    at Leftovers is = absurd is

none_of_both : (a b : List Part) → list_any is_leftovers (a ++ b) ≡ false → (list_any is_leftovers a ≡ false) × (list_any is_leftovers b ≡ false)
none_of_both [] b e = (refl, e)
none_of_both (part ∷ a) b e =
    let parts = either_false (is_leftovers part) (list_any is_leftovers (a ++ b)) e in
    let rest = none_of_both a b parts.1 in
    (ap (λ t. t || list_any is_leftovers a) parts.0 ∙ rest.0, rest.1)

spared_before : (a b : List Part) (fault : Option AdministrationFault) → SparesLeftovers (a ++ b) fault → SparesLeftovers a fault
spared_before a b fault (inl none) = inl (none_of_both a b none).0
spared_before a b fault (inr damaged) = inr damaged

spared_behind : (a b : List Part) (fault : Option AdministrationFault) → SparesLeftovers (a ++ b) fault → SparesLeftovers b fault
spared_behind a b fault (inl none) = inl (none_of_both a b none).1
spared_behind a b fault (inr damaged) = inr damaged

-- the parts after fine ones
pub opens_then : (a b : List Part) (fault : Option AdministrationFault) (u v w : World) → AllByRecursion IsEarly a → Opens a None u v → Opens b fault v w → Opens (a ++ b) fault u w
opens_then a b fault u v w early first second = record {
  changes = opening_then u v w first.changes second.changes;
  finds = finds_behind a b w fault (all_kept a v w early second.changes first.finds) second.finds;
  made = λ told. made_then u v w (first.made (λ e. cc e)) (second.made told);
  left = λ spared q within. second.left (spared_behind a b fault spared) q within ∙ first.left (inl (early_spares a early)) q within;
}

-- a fault ends the opening
pub opens_stop : (a b : List Part) (fault : AdministrationFault) (u v : World) → Opens a (Some fault) u v → Opens (a ++ b) (Some fault) u v
opens_stop a b fault u v first = record {
  changes = first.changes;
  finds = damage_before a b v fault first.finds;
  made = first.made;
  left = λ spared. first.left (spared_before a b (Some fault) spared);
}

-- what reading alone found
pub opens_read : (among : List Part) (fault : Option AdministrationFault) (u v : World) → v ≡ u → Finds among u fault → Opens among fault u v
opens_read among fault u v same finds = record {
  changes = opening_same u v same;
  finds = subst (λ w. Finds among w fault) (sym same) finds;
  made = λ told. made_same u v same;
  left = λ spared q within. ap (λ w. w q) same;
}

-- the same parts, after looking alone
pub opens_after : (among : List Part) (fault : Option AdministrationFault) (u v w : World) → v ≡ u → Opens among fault v w → Opens among fault u w
opens_after among fault u v w same later = subst (λ x. Opens among fault x w) same later

host_spared : (h : HostFault) (fault : AdministrationFault) → fault ≡ fault_of h → IsDamaged (Some fault) → ⊥
host_spared host.Device fault is damaged = subst (λ f. IsDamaged (Some f)) is damaged
host_spared host.NoMemory fault is damaged = subst (λ f. IsDamaged (Some f)) is damaged
host_spared host.Declined fault is damaged = subst (λ f. IsDamaged (Some f)) is damaged

-- the answer after a `?`

pub stopped_read : {T : Type 0} (among : List Part) (h : HostFault) (result : Result T AdministrationFault) (u v : World) → IsErrAnd result (λ e. e ≡ fault_of h) → v ≡ u → Opens among (fault_in result) u v
stopped_read among h (Ok x) u v told same = absurd told
stopped_read among h (Err fault) u v is same = opens_read among (Some fault) u v same (host_damage among u h fault is)

pub stopped_memory : {T : Type 0} (among : List Part) (result : Result T AdministrationFault) (u : World) → IsErrAnd result (λ e. e ≡ NoMemory) → Opens among (fault_in result) u u
stopped_memory among (Ok x) u told = absurd told
stopped_memory among (Err fault) u is = opens_read among (Some fault) u u refl (memory_damage among u fault is)

pub stopped_before : {T : Type 0} (a b : List Part) (given : AdministrationFault) (result : Result T AdministrationFault) (u v : World) → IsErrAnd result (λ e. e ≡ given) → Opens a (Some given) u v → Opens (a ++ b) (fault_in result) u v
stopped_before a b given (Ok x) u v told first = absurd told
stopped_before a b given (Err fault) u v is first = subst (λ f. Opens (a ++ b) (Some f) u v) (sym is) (opens_stop a b given u v first)

-- a directory that was made, or can't be

pub way_made : (p q : Path) (u v : World) → p ≡ q → is_way q ≡ true → IsMaking p u v → IsMade p u v → Opens (Way q ∷ []) None u v
way_made p q u v e way making made = subst (λ r. Opens (Way r ∷ []) None u v) e record {
  changes = opening_making p u v (ap is_way e ∙ way) making;
  finds = (made.target, tt);
  made = λ told. made_at p u v made.rest made.before;
  left = λ spared. making_spares p u v (ap is_way e ∙ way) making;
}

left_loose : (p : Path) (old now : World) → IsMaking p old now → IsLoose (old p) → now p ≡ old p
left_loose p old now making loose = elim making.target [ inl same ↦ same | inr new ↦ absurd (none_stands (old p) new.0 loose.0) ]

pub way_loose : (p q : Path) (fault : AdministrationFault) (u v : World) → p ≡ q → is_way q ≡ true → fault ≡ Damaged p 0 → IsMaking p u v → IsLoose (u p) → Opens (Way q ∷ []) (Some fault) u v
way_loose p q fault u v e way is making loose = subst (λ r. Opens (Way r ∷ []) (Some fault) u v) e record {
  changes = opening_making p u v (ap is_way e ∙ way) making;
  finds = subst (IsDamage (Way p ∷ []) v) (sym is) (inl (refl, refl, subst IsLoose (sym (left_loose p u v making loose)) loose));
  made = λ told. made_at p u v making.rest (inl (left_loose p u v making loose));
  left = λ spared. making_spares p u v (ap is_way e ∙ way) making;
}

made_unless : (h : HostFault) (fault : AdministrationFault) (u v : World) → fault ≡ fault_of h → ((h ≡ host.Device → ⊥) → v ≡ u) → (Some fault ≡ Some Device → ⊥) → HasMadeWays u v
made_unless host.Device fault u v is unmade told = absurd (told (ap (λ f. Some f) is))
made_unless host.NoMemory fault u v is unmade told = made_same u v (unmade (λ same. cc))
made_unless host.Declined fault u v is unmade told = made_same u v (unmade (λ same. cc))

-- the device failed while a directory was made, or that was declined, or memory was refused
pub way_stopped : {T : Type 0} (p q : Path) (h : HostFault) (result : Result T AdministrationFault) (u v : World) → p ≡ q → is_way q ≡ true → IsErrAnd result (λ e. e ≡ fault_of h) → IsMaking p u v → ((h ≡ host.Device → ⊥) → v ≡ u) → Opens (Way q ∷ []) (fault_in result) u v
way_stopped p q h (Ok x) u v e way told making unmade = absurd told
way_stopped p q h (Err fault) u v e way is making unmade = record {
  changes = opening_making p u v (ap is_way e ∙ way) making;
  finds = host_damage (Way q ∷ []) v h fault is;
  made = made_unless h fault u v is unmade;
  left = λ spared. making_spares p u v (ap is_way e ∙ way) making;
}

-- the root

pub root_found : (p : Path) (u v : World) → p ≡ root_path → v ≡ u → IsDirectory (u p) → Opens (Root ∷ []) None u v
root_found p u v e same there = opens_read (Root ∷ []) None u v same (subst IsDirectory (ap u e) there, tt)

pub root_lacking : (p : Path) (fault : AdministrationFault) (u v : World) → p ≡ root_path → fault ≡ Damaged p 0 → v ≡ u → NoDirectory (u p) → Opens (Root ∷ []) (Some fault) u v
root_lacking p fault u v e is same lacks = opens_read (Root ∷ []) (Some fault) u v same
    (subst (IsDamage (Root ∷ []) u) (sym is) (inl (e, refl, no_directory_at (u root_path) (u p) (ap u (sym e)) lacks)))

-- nothing stands at the temporary name, or a file
pub spare_fine : (p place : Path) (u v : World) → p ≡ place → v ≡ u → NoDirectory (u p) → Opens (Spare place ∷ []) None u v
spare_fine p place u v e same loose = opens_read (Spare place ∷ []) None u v same (no_directory_at (u place) (u p) (ap u (sym e)) loose, tt)

pub spare_taken : (p place : Path) (fault : AdministrationFault) (u v : World) → p ≡ place → fault ≡ Damaged p 0 → v ≡ u → IsDirectory (u p) → Opens (Spare place ∷ []) (Some fault) u v
spare_taken p place fault u v e is same there = opens_read (Spare place ∷ []) (Some fault) u v same (subst (IsDamage (Spare place ∷ []) u) (sym is) (inl (e, refl, subst (λ q. IsDirectory (u q)) e there)))

-- `tmp.ci`

leftovers_told : (fault : AdministrationFault) (file : Path) (u v : World) → fault ≡ Damaged file 0 → v ≡ u → IsLeftoversFault u file → Opens (Leftovers ∷ []) (Some fault) u v
leftovers_told fault file u v is same faulty = opens_read (Leftovers ∷ []) (Some fault) u v same (subst (IsDamage (Leftovers ∷ []) u) (sym is) (inl (refl, faulty)))

pub leftovers_bad : (fault : AdministrationFault) (p : Path) (u v : World) → p ≡ tmp_path → fault ≡ Damaged p 0 → v ≡ u → HasBadName u p → Opens (Leftovers ∷ []) (Some fault) u v
leftovers_bad fault p u v e is same bad = leftovers_told fault tmp_path u v (is ∙ ap (λ q. Damaged q 0) e) same (inl (refl, inr (subst (HasBadName u) e bad)))

pub leftovers_loose : (p : Path) (fault : AdministrationFault) (u v : World) → p ≡ tmp_path → fault ≡ Damaged p 0 → v ≡ u → IsLoose (u p) → Opens (Leftovers ∷ []) (Some fault) u v
leftovers_loose p fault u v e is same loose = leftovers_told fault tmp_path u v (is ∙ ap (λ q. Damaged q 0) e) same (inl (refl, inl (subst (λ q. IsLoose (u q)) e loose)))

pub leftovers_none : (p : Path) (u v : World) → p ≡ tmp_path → v ≡ u → u p ≡ None → Opens (Leftovers ∷ []) None u v
leftovers_none p u v e same none = opens_read (Leftovers ∷ []) None u v same (ap u (sym e) ∙ none, tt)

pub leftovers_held : (p file name : Path) (fault : AdministrationFault) (u v : World) → p ≡ tmp_path → fault ≡ Damaged file 0 → v ≡ u → (HasBadName u p → ⊥) → file ≡ p ++ 47 ∷ name → IsLeastIn IsDirectory u p name → Opens (Leftovers ∷ []) (Some fault) u v
leftovers_held p file name fault u v e is same good at least =
    leftovers_told fault file u v is same (inr (subst (λ q. HasBadName u q → ⊥) e good, (name, at ∙ ap (λ q. q ++ 47 ∷ name) e, subst (λ q. IsLeastIn IsDirectory u q name) e least)))

pub leftovers_removed : (p : Path) (u v w : World) → p ≡ tmp_path → v ≡ u → IsTaking p v w → IsRemoved p v w → Opens (Leftovers ∷ []) None u w
leftovers_removed p u v w e same taking removed =
    let there = subst (λ q. IsTaking q v w) e taking in
    opens_after (Leftovers ∷ []) None u v w same record {
      changes = opening_clearing v w there;
      finds = ((subst (λ q. IsRemoved q v w) e removed).inside tmp_path refl, tt);
      made = λ told. made_clearing v w there;
      left = λ spared. elim spared [ inl none ↦ absurd (true≢false none) | inr damaged ↦ absurd damaged ];
    }

pub leftovers_stopped : {T : Type 0} (p : Path) (h : HostFault) (result : Result T AdministrationFault) (u v w : World) → p ≡ tmp_path → IsErrAnd result (λ e. e ≡ fault_of h) → v ≡ u → IsTaking p v w → Opens (Leftovers ∷ []) (fault_in result) u w
leftovers_stopped p h (Ok x) u v w e told same taking = absurd told
leftovers_stopped p h (Err fault) u v w e is same taking =
    let there = subst (λ q. IsTaking q v w) e taking in
    opens_after (Leftovers ∷ []) (Some fault) u v w same record {
      changes = opening_clearing v w there;
      finds = host_damage (Leftovers ∷ []) w h fault is;
      made = λ told. made_clearing v w there;
      left = λ spared. elim spared [ inl none ↦ absurd (true≢false none) | inr damaged ↦ absurd (host_spared h fault is damaged) ];
    }

-- the diversions

pub diversions_read : (entries : List Diversion) (u v : World) → v ≡ u → HasDiversions u entries → Opens (Diversions ∷ []) None u v
diversions_read entries u v same has = opens_read (Diversions ∷ []) None u v same ((entries, has), tt)

diversions_fault : (w : World) (fault : AdministrationFault) → IsDiversionsDamage w fault → IsDamage (Diversions ∷ []) w fault
diversions_fault w (Damaged file line) damage = inl damage
diversions_fault w Device damage = tt
diversions_fault w NoMemory damage = tt
diversions_fault w Declined damage = tt

pub diversions_damaged : (fault : AdministrationFault) (u v : World) → v ≡ u → IsDiversionsDamage u fault → Opens (Diversions ∷ []) (Some fault) u v
diversions_damaged fault u v same damage = opens_read (Diversions ∷ []) (Some fault) u v same (diversions_fault u fault damage)

-- a directory's entry has it as its parent
pub child_parent : (w : World) (front name : Path) → list_any (nat_eq 47) name ≡ false → IsDirectory (w front) → HasParent w (front ++ 47 ∷ name)
child_parent w front name free is = (front, name, refl, (λ has. true≢false (sym (list_any-from_Contains nat_eq_equiv 47 name has) ∙ free)), is)

-- what is known before later parts are opened stays

pub home_kept : {among : List Part} {fault : Option AdministrationFault} (u v : World) → Opens among fault u v → IsDirectory (u home_path) → IsDirectory (v home_path)
home_kept u v opens is = directory_kept home_path u v (opens.changes.rest home_path refl) is

pub table_opens : {among : List Part} {fault : Option AdministrationFault} (table : List Record) (u v : World) → Opens among fault u v → IsTable u table → IsTable v table
table_opens table u v opens is = table_kept table u v opens.changes is

pub listed_kept : {among : List Part} {fault : Option AdministrationFault} (names : List (List ℕ)) (lists : List PackageList) (u v : World) → Opens among fault u v → IsListed u names lists → IsListed v names lists
listed_kept names lists u v opens has = record {
  sound = λ entry plain. subst (IsSound names entry) (sym (plain_kept (info_path ++ 47 ∷ entry) u v refl (opens.changes.rest (info_path ++ 47 ∷ entry) refl))) (has.sound entry plain);
  lists = has_lists_kept u v names lists (λ name known. plain_kept (list_path name) u v refl (opens.changes.rest (list_path name) refl)) has.lists;
}

-- reading alone

found_info : {T : Type 0} (table : List Record) (w : World) (result : Result T AdministrationFault) → IsTable w table → IfOk result (λ k. HasBadName w info_path → ⊥) → IfOk result (λ k. AreSound w (names_of table)) → IfErr result (IsInfoDamage w (names_of table))
    → Finds (Info ∷ []) w (fault_in result)
found_info table w (Ok k) is text sound damage = (record { table = table; is_table = is; text = text; sound = sound }, tt)
found_info table w (Err (Damaged file line)) is text sound damage = inl (table, is, damage)
found_info table w (Err Device) is text sound damage = tt
found_info table w (Err NoMemory) is text sound damage = tt
found_info table w (Err Declined) is text sound damage = tt

pub info_read : {T : Type 0} (result : Result T AdministrationFault) (table : List Record) (u v w : World) → Opens (Way info_path ∷ []) None u v → IsTable v table → w ≡ v → IfOk result (λ k. HasBadName v info_path → ⊥) → IfOk result (λ k. AreSound v (names_of table)) → IfErr result (IsInfoDamage v (names_of table))
    → Opens (Way info_path ∷ Info ∷ []) (fault_in result) u w
info_read result table u v w first is same text sound damage =
    opens_then (Way info_path ∷ []) (Info ∷ []) (fault_in result) u v w (refl, tt) first (opens_read (Info ∷ []) (fault_in result) v w same (found_info table v result is text sound damage))

pub listed_read : (result : Result Filed AdministrationFault) (table : List Record) (v w : World) → w ≡ v → IfOk result (λ k. AreSound v (names_of table)) → IfOk result (λ f. HasLists v (names_of table) f.lists) → IfOk result (λ f. IsListed w (names_of table) f.lists)
listed_read (Ok f) table v w same sound has = subst (λ x. IsListed x (names_of table) f.lists) (sym same) (record { sound = sound; lists = has })
listed_read (Err fault) table v w same sound has = tt

records_fault : (w : World) (fault : AdministrationFault) → IsRecordsDamage w fault → IsDamage (Records ∷ []) w fault
records_fault w (Damaged file line) damage = inl damage
records_fault w Device damage = tt
records_fault w NoMemory damage = tt
records_fault w Declined damage = tt

pub records_damaged : (fault : AdministrationFault) (u v : World) → v ≡ u → IsRecordsDamage u fault → Opens (Records ∷ []) (Some fault) u v
records_damaged fault u v same damage = opens_read (Records ∷ []) (Some fault) u v same (records_fault u fault damage)

pub records_read : (table : List Record) (u v : World) → v ≡ u → AreNotesFine u → IsTable u table → Opens (Records ∷ []) None u v
records_read table u v same fine is = opens_read (Records ∷ []) None u v same ((fine, (table, is)), tt)

found_of : (table : List Record) (notes : ℕ) (lists : List PackageList) (entries : List Diversion) (u v : World) → Opens parts None u v → IsTable v table → IsFree notes v → IsListed v (names_of table) lists → HasDiversions v entries → IsFound table notes lists entries v
found_of table notes lists entries u v opens is free listed diverted = record {
  home = opens.finds.1.1.1.0;
  info = opens.finds.1.1.1.1.1.1.1.0;
  updates = opens.finds.1.1.1.1.1.1.0;
  text = opens.finds.1.1.1.1.1.1.1.1.0.text;
  diversions = diverted;
  diversions_spare = opens.finds.1.1.1.1.1.1.1.1.1.1.0;
  tmp = opens.finds.1.1.1.1.1.1.1.1.1.1.1.0;
  records = record {
    unblocked = record {
      home = opens.finds.1.1.1.0;
      updates = opens.finds.1.1.1.1.1.1.0;
      text = opens.finds.1.1.1.1.0.0.text;
      status_spare = opens.finds.1.1.1.1.1.0;
      spares = λ n lt. (opens.finds.1.1.1.1.0.0.each n lt).spare;
    };
    holds = is.records;
    free = free;
  };
  standing = is.standing;
  listed = listed;
}

-- what was read goes through

pub diverted_here : (d : Diverted) (u v : World) → v ≡ u → HasDiversions u d.ways.entries → HasDiversions v d.ways.entries
diverted_here d u v same has = subst (λ w. HasDiversions w d.ways.entries) (sym same) has

pub diverted_through : {among : List Part} {fault : Option AdministrationFault} (result : Result Diverted AdministrationFault) (d : Diverted) (u v : World) → Opens among fault u v → IfOk result (λ kept. kept ≡ d) → HasDiversions u d.ways.entries → IfOk result (λ kept. HasDiversions v kept.ways.entries)
diverted_through (Ok kept) d u v opens is has = subst (λ (x : Diverted). HasDiversions v x.ways.entries) (sym is) (diverted_kept d.ways.entries u v (plain_kept diversions_path u v refl (opens.changes.rest diversions_path refl)) has)
diverted_through (Err fault) d u v opens is has = tt

pub listed_through : {among : List Part} {fault : Option AdministrationFault} (result : Result (Filed × Diverted) AdministrationFault) (names : List (List ℕ)) (f : Filed) (u v : World) → Opens among fault u v → IfOk result (λ read. read.0 ≡ f) → IsListed u names f.lists
    → IfOk result (λ read. IsListed v names read.0.lists)
listed_through (Ok read) names f u v opens is has = subst (λ (x : Filed). IsListed v names x.lists) (sym is) (listed_kept names f.lists u v opens has)
listed_through (Err fault) names f u v opens is has = tt

pub found_ok : (result : Result AnOpened AdministrationFault) (d : Recorded) (u v : World) → Opens parts (fault_in result) u v → IfOk result (λ o. o.database ≡ d) → IsTable v d.records → IsFree d.notes v → IfOk result (λ o. IsListed v (names_of o.database.records) o.lists.lists) → IfOk result (λ o. HasDiversions v o.diversions.ways.entries)
    → IfOk result (λ o. IsFound o.database.records o.database.notes o.lists.lists o.diversions.ways.entries v)
found_ok (Ok o) d u v opens is table free listed diverted =
    found_of o.database.records o.database.notes o.lists.lists o.diversions.ways.entries u v opens (subst (λ (x : Recorded). IsTable v x.records) (sym is) table) (subst (λ (x : Recorded). IsFree x.notes v) (sym is) free) listed diverted
found_ok (Err fault) d u v opens is table free listed diverted = tt

pub found_open : (result : Result AnOpened AdministrationFault) (d : Recorded) → IfOk result (λ o. o.database ≡ d) → d.closed ≡ false → IfOk result (λ o. o.database.closed ≡ false)
found_open (Ok o) d is opened = ap (λ (x : Recorded). x.closed) is ∙ opened
found_open (Err fault) d is opened = tt
