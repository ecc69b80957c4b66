-- Whether an entry may stand behind those of a table.
use Rattle.std.proofs.Common.{◌≡◌, Bool, true, false, List, [], ◌∷◌, ◌++◌, sym, subst, MatchBool}
use Rattle.std.proofs.lemmas.Bool.{MatchBool-at_true}
use Rattle.host_core.specs.Paths.{Path}
use Rattle.diversions.specs.declared.entry.Diversion.{Diversion}
use Rattle.diversions.specs.Entries.{IsEntry, IsFree, IsTable}
use Rattle.diversions.proofs.Tables.{table_more, table_last}

-- the path is free: the target tells
pub joins : (entries : List Diversion) (d : Diversion) (a b : Bool) (p t : Path) → p ≡ d.path → t ≡ d.target → IsTable entries → IsEntry d → a ≡ true → MatchBool a (IsFree entries p) (IsFree entries p → ⊥) → MatchBool b (IsFree entries t) (IsFree entries t → ⊥)
    → MatchBool b (IsTable (entries ++ d ∷ [])) (IsTable (entries ++ d ∷ []) → ⊥)
joins entries d a true p t same_path same_target table is known path target =
    table_more entries d table is (subst (IsFree entries) same_path (MatchBool-at_true (IsFree entries p) (IsFree entries p → ⊥) known path)) (subst (IsFree entries) same_target target)
joins entries d a false p t same_path same_target table is known path target = λ all. target (subst (IsFree entries) (sym same_target) (table_last entries d all).target)

-- it isn't
pub joins_not : (entries : List Diversion) (d : Diversion) (a : Bool) (p : Path) → p ≡ d.path → a ≡ false → MatchBool a (IsFree entries p) (IsFree entries p → ⊥) → MatchBool a (IsTable (entries ++ d ∷ [])) (IsTable (entries ++ d ∷ []) → ⊥)
joins_not entries d true p same known path = absurd (let e : true ≡ false = known in cc)
joins_not entries d false p same known path = λ all. path (subst (IsFree entries) (sym same) (table_last entries d all).path)
