-- The order in which dpkg writes the fields of a record: the names of its table `fieldinfos`, then all others.
use Rattle.std.specs.Prelude.{ℕ, cond, List, [], ◌∷◌, codes, fold, nat_lt}
use Rattle.std.specs.List.{position_or_len}
use Rattle.std.specs.Str.{bytes_eq}
use Rattle.control_fields.specs.Names.{lower}
use Rattle.control_fields.specs.declared.field.Field.{Field}

-- dpkg's names, in lower case
abbrev pub dpkgs_names : List (List ℕ)
dpkgs_names =
    codes "package" ∷ codes "essential" ∷ codes "protected" ∷ codes "status" ∷ codes "priority" ∷ codes "section" ∷ codes "installed-size" ∷ codes "origin"
    ∷ codes "maintainer" ∷ codes "bugs" ∷ codes "architecture" ∷ codes "multi-arch" ∷ codes "source" ∷ codes "version" ∷ codes "revision" ∷ codes "config-version"
    ∷ codes "replaces" ∷ codes "provides" ∷ codes "depends" ∷ codes "pre-depends" ∷ codes "recommends" ∷ codes "suggests" ∷ codes "breaks" ∷ codes "conflicts"
    ∷ codes "enhances" ∷ codes "conffiles" ∷ codes "filename" ∷ codes "size" ∷ codes "md5sum" ∷ codes "msdos-filename" ∷ codes "description"
    ∷ codes "triggers-pending" ∷ codes "triggers-awaited" ∷ []

-- the place of a field's name among them, in any case; that behind all where it is none of them
abbrev pub rank : Field → ℕ
rank f = position_or_len (bytes_eq (lower f.name)) dpkgs_names

-- a field before the first of others that stands behind it in dpkg's order, and what `rest` makes of those from there on
abbrev pub before_first : Field → (List Field → List Field) → List Field → List Field
before_first f rest [] = f ∷ rest []
before_first f rest (g ∷ gs) = cond (nat_lt (rank f) (rank g)) (f ∷ rest (g ∷ gs)) (g ∷ before_first f rest gs)

-- fields among others, each before the first other one that stands behind it in dpkg's order
abbrev pub merged : List Field → List Field → List Field
merged [] gs = gs
merged (f ∷ fs) gs = before_first f (merged fs) gs

-- In dpkg's order: each is put among those that stood before it. Fields that dpkg doesn't name keep their order.
abbrev pub in_dpkgs_order : List Field → List Field
in_dpkgs_order fs = fold (λ gs f. merged (f ∷ []) gs) [] fs
