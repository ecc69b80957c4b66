-- What was read, part by part, of a world that stays as it is.
use Rattle.std.proofs.Common.{◌≡◌, inr, inl, ℕ, List, [], ◌∷◌, ◌++◌, Option, Some, None, IsSome, Result, Ok, Err, IfOk, IfErr, IsErrAnd, true, false, Bor, refl, sym, ap, subst}
use Rattle.std.specs.Prelude.{is_some, option_copied, option_map}
use Rattle.std.proofs.lemmas.Bool.{true≢false}
use Rattle.std.specs.List.{AllByRecursion}
use Rattle.host_core.specs.Host.{Needs, State, Tells}
use Rattle.host_core.specs.World.{World}
use Rattle.administration.specs.declared.fault.AdministrationFault.{AdministrationFault}
use Rattle.administration.specs.declared.fault.AdministrationFault.TheVariants.{Damaged, Device, NoMemory, Declined}
use Rattle.diversions.specs.Diverted.{Diverted}
use Rattle.diversions.specs.Lines.{HasDiversions, IsDiversionsDamage}
use Rattle.file_lists.specs.Owners.{paths_of}
use Rattle.opening.proofs.Finding.{finds_before, finds_behind}
use Rattle.opening.specs.Parts.{Part, Root, Records, Diversions, Finds, IsDamage, IsFine, IsTable, Opens, fault_in, names_of}
use Rattle.status_db.specs.NoteDamage.{AreNotesFine, IsRecordsDamage}
use Rattle.queries.specs.Files.{files_text, listing_text}
use Rattle.status_records.specs.Records.{record_in}
use Rattle.status_records.specs.declared.record.Record.{Record}
use Rattle.inquiries.specs.Read.{AreListsDamaged, AreListsFine, FindsAll, FindsLists, FindsRest, IsFilesDamage, records_parts}

-- what was told of the world before is so behind it
pub needs_told : {T E : Type 0} (result : Result T E) (P : T → World → Type 0) (old new : State) → new.world ≡ old.world → Tells result P old new → IfOk result (λ x. Needs new (P x))
needs_told (Ok x) P old new same told = λ h. subst (P x) (sym same) (told h)
needs_told (Err e) P old new same told = tt

pub root_fine : (u v : World) → v ≡ u → Opens (Root ∷ []) None u v → AllByRecursion (IsFine u) (Root ∷ [])
root_fine u v same opens = subst (λ w. AllByRecursion (IsFine w) (Root ∷ [])) same opens.finds

pub root_stop : {T : Type 0} (rest : List Part) (given : AdministrationFault) (result : Result T AdministrationFault) (u v : World) → IsErrAnd result (λ e. e ≡ given) → v ≡ u → Opens (Root ∷ []) (Some given) u v → Finds (Root ∷ rest) u (fault_in result)
root_stop rest given result u v is same opens = finds_before (Root ∷ []) rest given result u is (subst (λ w. Finds (Root ∷ []) w (Some given)) same opens.finds)

-- a fault of these parts, behind a `?`
pub passed : {T : Type 0} (among : List Part) (given : AdministrationFault) (result : Result T AdministrationFault) (w : World) → IsErrAnd result (λ e. e ≡ given) → IsDamage among w given → Finds among w (fault_in result)
passed among given (Ok x) w told damage = absurd told
passed among given (Err fault) w is damage = subst (IsDamage among w) (sym is) damage

records_faulty : (w : World) (fault : AdministrationFault) → IsRecordsDamage w fault → IsDamage (Records ∷ []) w fault
records_faulty w (Damaged file line) damage = inl damage
records_faulty w Device damage = tt
records_faulty w NoMemory damage = tt
records_faulty w Declined damage = tt

pub records_stop : {T : Type 0} (given : AdministrationFault) (result : Result T AdministrationFault) (u v : World) → IsErrAnd result (λ e. e ≡ given) → v ≡ u → Opens (Root ∷ []) None u v → IsRecordsDamage v given → Finds records_parts u (fault_in result)
records_stop given result u v is same opens damage =
    passed records_parts given result u is (finds_behind (Root ∷ []) (Records ∷ []) u (Some given) (root_fine u v same opens) (records_faulty u given (subst (λ w. IsRecordsDamage w given) same damage)))

pub records_fine : (table : List Record) (u v : World) → v ≡ u → Opens (Root ∷ []) None u v → AreNotesFine v → IsTable v table → AllByRecursion (IsFine u) records_parts
records_fine table u v same opens notes is = ((root_fine u v same opens).0, ((subst AreNotesFine same notes, (table, subst (λ w. IsTable w table) same is)), tt))

pub diversions_faulty : (w : World) (fault : AdministrationFault) → IsDiversionsDamage w fault → IsDamage (Diversions ∷ []) w fault
diversions_faulty w (Damaged file line) damage = inl damage
diversions_faulty w Device damage = tt
diversions_faulty w NoMemory damage = tt
diversions_faulty w Declined damage = tt

-- the diversions behind parts that are fine
pub diversions_finds : (among : List Part) (result : Result Diverted AdministrationFault) (u v : World) → v ≡ u → AllByRecursion (IsFine u) among → IfOk result (λ d. HasDiversions v d.ways.entries) → IfErr result (IsDiversionsDamage v) → Finds (among ++ Diversions ∷ []) u (fault_in result)
diversions_finds among (Ok d) u v same fine has damage = finds_behind among (Diversions ∷ []) u None fine ((d.ways.entries, subst (λ w. HasDiversions w d.ways.entries) same has), tt)
diversions_finds among (Err fault) u v same fine has damage = finds_behind among (Diversions ∷ []) u (Some fault) fine (diversions_faulty u fault (subst (λ w. IsDiversionsDamage w fault) same damage))

pub diversions_stop : {T : Type 0} (among : List Part) (given : AdministrationFault) (result : Result T AdministrationFault) (u v : World) → IsErrAnd result (λ e. e ≡ given) → v ≡ u → AllByRecursion (IsFine u) among → IsDiversionsDamage v given → Finds (among ++ Diversions ∷ []) u (fault_in result)
diversions_stop among given result u v is same fine damage =
    passed (among ++ Diversions ∷ []) given result u is (diversions_finds among (Err given) u v same fine tt damage)

-- the diversions behind lists that are fine
pub rest_found : {T : Type 0} (result : Result T AdministrationFault) (names : List (List ℕ)) (u v : World) → v ≡ u → AreListsFine u names → Finds (Diversions ∷ []) v (fault_in result) → FindsRest names u (fault_in result)
rest_found (Ok x) names u v same fine found = (fine, subst (λ w. AllByRecursion (IsFine w) (Diversions ∷ [])) same found)
rest_found (Err fault) names u v same fine found = inr (fine, subst (λ w. IsDamage (Diversions ∷ []) w fault) same found)

-- and both behind the records
pub behind_found : {T : Type 0} (result : Result T AdministrationFault) (table : List Record) (u v : World) → v ≡ u → AllByRecursion (IsFine u) records_parts → IsTable v table → FindsRest (names_of table) v (fault_in result) → FindsAll u (fault_in result)
behind_found (Ok x) table u v same fine is found = record { fine = fine; table = table; is_table = subst (λ w. IsTable w table) same is; rest = subst (λ w. FindsRest (names_of table) w None) same found }
behind_found (Err fault) table u v same fine is found = inr record { fine = fine; table = table; is_table = subst (λ w. IsTable w table) same is; rest = subst (λ w. FindsRest (names_of table) w (Some fault)) same found }

-- want of memory is none of them
pub lists_memory : {T : Type 0} (result : Result T AdministrationFault) (names : List (List ℕ)) (w : World) → IsErrAnd result (λ e. e ≡ NoMemory) → FindsLists names w (fault_in result)
lists_memory (Ok x) names w told = absurd told
lists_memory (Err fault) names w is = subst (AreListsDamaged w names) (sym is) (inl tt)

pub all_memory : {T : Type 0} (result : Result T AdministrationFault) (w : World) → IsErrAnd result (λ e. e ≡ NoMemory) → FindsAll w (fault_in result)
all_memory (Ok x) w told = absurd told
all_memory (Err fault) w is = inl (subst (IsDamage records_parts w) (sym is) tt)

-- why lists can't be read
pub lists_damaged : {T : Type 0} (result : Result T AdministrationFault) (names : List (List ℕ)) (w : World) → FindsLists names w (fault_in result) → IfErr result (AreListsDamaged w names)
lists_damaged (Ok x) names w found = tt
lists_damaged (Err fault) names w found = found

-- a package with a record, and one without
pub some_recorded : (found : Option (Bor Record)) (asked : Option Record) → option_copied found ≡ asked → is_some found ≡ true → IsSome asked
some_recorded None asked same some = absurd (true≢false (sym some))
some_recorded (Some x) asked same some = subst IsSome same refl

pub none_recorded : (found : Option (Bor Record)) (asked : Option Record) → option_copied found ≡ asked → is_some found ≡ false → asked ≡ None
none_recorded None asked same none = sym same
none_recorded (Some x) asked same none = absurd (true≢false none)

pub no_files : (table : List Record) (name : List ℕ) → record_in table name ≡ None → None ≡ files_text table [] name
no_files table name none = sym (ap (option_map (λ r. listing_text (paths_of [] name))) none)

-- the one list that a package has
pub list_stop : {T : Type 0} (name : List ℕ) (given : AdministrationFault) (result : Result T AdministrationFault) (table : List Record) (u v : World) → IsErrAnd result (λ e. e ≡ given) → v ≡ u
    → AllByRecursion (IsFine u) records_parts → IsTable v table → IsSome (record_in table name) → AreListsDamaged v (name ∷ []) given → IfErr result (IsFilesDamage name u)
list_stop name given (Ok x) table u v told same fine is some damage = absurd told
list_stop name given (Err fault) table u v told same fine is some damage = inr record {
  fine = fine;
  table = table;
  is_table = subst (λ w. IsTable w table) same is;
  recorded = some;
  lists = subst (AreListsDamaged u (name ∷ [])) (sym told) (subst (λ w. AreListsDamaged w (name ∷ []) given) same damage);
}
