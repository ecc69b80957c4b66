-- A file of diversions that has entries has no faulty line.
use Rattle.std.proofs.Common.{◌≡◌, ℕ, List, [], ◌∷◌, ◌++◌, Option, Some, None, refl, sym, subst, ◌∙◌, append_assoc}
use Rattle.std.specs.Str.{bytes_eq}
use Rattle.std.proofs.lemmas.Bool.{or_parts}
use Rattle.std.proofs.lemmas.List.Folds.{list_any-append}
use Rattle.host_core.specs.Paths.{Path}
use Rattle.host_core.specs.declared.node.Node.{Node}
use Rattle.host_core.specs.declared.node.Node.TheVariants.{File, Dir, Link}
use Rattle.diversions.specs.declared.entry.Diversion.{Diversion}
use Rattle.diversions.specs.Entries.{is_diverted, is_target, IsFree, IsTable}
use Rattle.diversions.specs.Lines.{owner_line, entry_lines, lines_of, ReadsAs, IsFirstFaulty, HasEntries, IsDamageAt}
use Rattle.diversions.proofs.LinesOf.{same_entry}

-- the first entries of a table are one

free_front : (a b : List Diversion) (p : Path) → IsFree (a ++ b) p → IsFree a p
free_front a b p free = record {
  not_diverted = (or_parts (is_diverted a p) (is_diverted b p) (sym (list_any-append (λ (d : Diversion). bytes_eq p d.path) a b) ∙ free.not_diverted)).0;
  no_target = (or_parts (is_target a p) (is_target b p) (sym (list_any-append (λ (d : Diversion). bytes_eq p d.target) a b) ∙ free.no_target)).0;
}

table_front : (a b : List Diversion) → IsTable (a ++ b) → IsTable a
table_front [] b table = tt
table_front (d ∷ a) b table = (table.0, free_front a b d.path table.1, free_front a b d.target table.2, table_front a b table.3)

-- lines behind those of some entries are those of a further one

split : (before entries : List Diversion) (x : List ℕ) (more : List (List ℕ)) → IsTable before → IsTable entries → lines_of entries ≡ lines_of before ++ x ∷ more → (d : Diversion) × (rest : List Diversion) × (entries ≡ before ++ d ∷ rest) × (x ∷ more ≡ entry_lines d ++ lines_of rest)
split [] [] x more table whole e = absurd (cc e)
split [] (d ∷ entries) x more table whole e = (d, entries, refl, sym e)
split (b ∷ before) [] x more table whole e = absurd (cc e)
split (b ∷ before) (d ∷ entries) x more table whole e =
    let path : d.path ≡ b.path = cc e in
    let target : d.target ≡ b.target = cc e in
    let owner : owner_line d.owner ≡ owner_line b.owner = cc e in
    let behind : lines_of entries ≡ lines_of before ++ x ∷ more = cc e in
    let same = same_entry d b whole.0.owner table.0.owner (λ i. path i ∷ target i ∷ owner i ∷ []) in
    let rest = split before entries x more table.3 whole.3 behind in
    (rest.0, rest.1, (λ i. same i ∷ rest.2 i), rest.3)

whole_text : (text : List ℕ) (entries : List Diversion) (line : ℕ) → ReadsAs text entries → IsFirstFaulty text line → ⊥
whole_text text entries line reads fault =
    let next = split fault.before entries fault.line_there fault.more fault.table reads.table (sym reads.lines ∙ fault.lines) in
    let front = sym (append_assoc fault.before (next.0 ∷ []) next.1) in
    fault.faulty next.0 (lines_of next.1) next.3 (table_front (fault.before ++ next.0 ∷ []) next.1 (subst IsTable (next.2 ∙ front) reads.table))

-- the same of what stands at the file's place
pub not_faulty : (node : Option Node) (entries : List Diversion) (line : ℕ) → HasEntries node entries → IsDamageAt node line → ⊥
not_faulty None entries line has damage = damage
not_faulty (Some (File bytes access)) entries line has damage = whole_text bytes entries line has damage
not_faulty (Some (Dir access)) entries line has damage = has
not_faulty (Some (Link target)) entries line has damage = has
