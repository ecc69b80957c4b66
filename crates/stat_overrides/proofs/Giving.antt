-- File after file of what is shipped.
use Rattle.std.proofs.Common.{◌≡◌, ℕ, ◌+◌, ◌<◌, ◌∙◌, List, ◌++◌, refl, ap, subst, length, take, drop, get_or, arith}
use Rattle.std.proofs.Math.ListN.{set}
use Rattle.std.proofs.lemmas.List.{get_or_default}
use Rattle.std.proofs.lemmas.List.Edits.{map_over_more}
use Rattle.package_tree.specs.declared.shipped.Shipped.{Shipped}
use Rattle.stat_overrides.specs.Fitting.{overridden_file, overridden_files}
use Rattle.stat_overrides.specs.declared.table.Overrides.{Overrides}

-- one file more of a list has its access
pub given_more : (o : Overrides) (old now files : List Shipped) (i : ℕ) (file given d : Shipped) → now ≡ old → i < length now → files ≡ overridden_files o (take i old) ++ drop i old → length files ≡ length now → file ≡ get_or files i d → given ≡ overridden_file o file
    → set files i given ≡ overridden_files o (take (i + 1) old) ++ drop (i + 1) old
given_more o old now files i file given d same lt e len is made =
    ap (set files i) made ∙ map_over_more (overridden_file o) old files i file (subst (λ (l : List Shipped). i < length l) same lt) e (is ∙ get_or_default files i d file (omega (arith, lt, len)))
