-- What was opened is kept where its packages are of one architecture.
use Rattle.std.proofs.Common.{◌≡◌, List, Option, Some, None, Result, Ok, Err, inl, inr, sym, subst}
use Rattle.std.specs.Prelude.{IfErr, IfOk, OnOk}
use Rattle.administration.specs.declared.fault.AdministrationFault.{AdministrationFault}
use Rattle.host_core.specs.World.{World}
use Rattle.status_db.specs.Held.{HasRecords}
use Rattle.status_records.specs.declared.record.Record.{Record}
use Rattle.opening.specs.Architectures.{AreOfTwo, IsToldAt, second_in}
use Rattle.opening.specs.Parts.{OpensAndMerges}
use Rattle.opening.specs.TakenUp.{IsShut}

pub always : {T E P : Type 0} (result : Result T E) → P → IfOk result (λ x. P)
always (Ok x) p = p
always (Err e) p = tt

pub kept_so : {T E : Type 0} (result : Result T E) (x : T) (P : T → Type 0) → IfOk result (λ kept. kept ≡ x) → P x → IfOk result P
kept_so (Ok y) x P same p = subst P (sym same) p
kept_so (Err e) x P same p = tt

pub kept_and : {T E : Type 0} (result : Result T E) (x : T) (P : T → Type 0) → IfOk result (λ kept. kept ≡ x) → OnOk result (P x) → IfOk result P
kept_and (Ok y) x P same p = subst P (sym same) p
kept_and (Err e) x P same p = tt

pub shut_by_two : {T : Type 0} (result : Result T AdministrationFault) (table : List Record) (u v w : World) → OpensAndMerges None u v → HasRecords v table → w ≡ v → IfErr result (AreOfTwo v table) → IfErr result (λ fault. IsShut fault u w)
shut_by_two (Ok x) table u v w opens records same told = tt
shut_by_two (Err fault) table u v w opens records same told = inr (v, opens, record { still = same; table = table; records = records; told = told })

pub told_of_two : {T : Type 0} (result : Result T AdministrationFault) (table : List Record) (r : Record) (w : World) → second_in table ≡ Some r → IfErr result (IsToldAt w r.name) → IfErr result (AreOfTwo w table)
told_of_two (Ok x) table r w is told = tt
told_of_two (Err fault) table r w is told = record { second = r; is = is; told = told }
