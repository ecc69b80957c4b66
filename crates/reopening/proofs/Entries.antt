-- What stands in `info` at a moment of a command that leaves the rest alone: no opening refuses it.
use Rattle.std.proofs.Common.{◌≡◌, inl, inr, ℕ, zero, suc, List, ◌∷◌, ◌++◌, Option, None, Contains, sym, ap, subst, ◌∙◌, arith}
use Rattle.std.specs.Prelude.{IsSome}
use Rattle.host_core.specs.Paths.{Path}
use Rattle.host_core.specs.World.{World, IsDirectory}
use Rattle.host_core.specs.declared.call.Script.{Script}
use Rattle.host_core.specs.declared.node.Node.{Node}
use Rattle.administration.specs.Directories.{HasBadName}
use Rattle.administration.specs.Files.{NoDirectory}
use Rattle.administration.specs.Places.{diversions_path, info_path, list_path, script_path, temporary}
use Rattle.administration.proofs.WholeFiles.{no_directory_at}
use Rattle.diversions.specs.Ways.{Ways}
use Rattle.diversions.specs.Lines.{HasDiversions, HasEntries}
use Rattle.file_lists.specs.Info.{AreLoose, AreSound, IsLink, IsListOf, IsScriptOf, IsSound, entry_path}
use Rattle.file_lists.specs.Lists.{IsReadable}
use Rattle.info_format.specs.Names.{long_front}
use Rattle.info_format.specs.Stage.{HaveShortNames}
use Rattle.info_format.proofs.Doubles.{LongStood, names_by}
use Rattle.info_format.proofs.Two.{long_is_long}
use Rattle.reopening.proofs.Inside.{IsQuiet}
use Rattle.reopening.proofs.Names.{diversions_unnamed, info_unnamed, spare_unnamed, strange_unnamed}

-- what stands beside the records: the directory, names that are text, entries without a fault for packages of these names, which are read
-- by names without an architecture, and the diversions
pub record IsSafe (names : List (List ℕ)) (ways : Ways) (w : World) : Type 0 where
  pub info : IsDirectory (w info_path)
  pub text : HasBadName w info_path → ⊥
  pub sound : AreSound w names
  pub short : HaveShortNames w
  pub diversions : HasDiversions w ways.entries
  pub spare : NoDirectory (w (temporary diversions_path))

-- for fewer packages it is likewise
pub safe_fewer : (names less : List (List ℕ)) (ways : Ways) (w : World) → ((q : List ℕ) → Contains less q → Contains names q) → IsSafe names ways w → IsSafe less ways w
safe_fewer names less ways w fewer safe = record {
  info = safe.info;
  text = safe.text;
  diversions = safe.diversions;
  spare = safe.spare;
  short = safe.short;
  sound = λ entry plain. (let is = safe.sound entry plain in record {
    loose = is.loose;
    list = λ of. is.list (of.0, fewer of.0 of.1, of.2);
    script = λ of. is.script (of.0, of.1, fewer of.1 of.2, of.3);
  });
}

-- for one more, of which nothing stands there
pub safe_more : (names : List (List ℕ)) (own : List ℕ) (ways : Ways) (w : World) → w (list_path own) ≡ None → ((script : Script) → w (script_path own script) ≡ None) → IsSafe names ways w → IsSafe (own ∷ names) ways w
safe_more names own ways w no_list no_script safe = record {
  info = safe.info;
  text = safe.text;
  diversions = safe.diversions;
  spare = safe.spare;
  short = safe.short;
  sound = λ entry plain. (let is = safe.sound entry plain in record {
    loose = is.loose;
    list = λ of. at_list entry is of;
    script = λ of link. at_script entry is of link;
  });
}
  where
    none_readable : (stood : Option Node) → stood ≡ None → IsReadable stood
    none_readable stood none = subst IsReadable (sym none) tt

    none_link : (stood : Option Node) → stood ≡ None → IsLink stood → ⊥
    none_link stood none link = (let e : None ≡ _ = sym none ∙ link.1 in cc)

    at_list : (entry : Path) → IsSound names entry (w (entry_path entry)) → IsListOf (own ∷ names) entry → IsReadable (w (entry_path entry))
    at_list entry is (q, (zero, lt, same), e) = none_readable (w (entry_path entry)) (ap (λ (x : Path). w (entry_path x)) e ∙ ap (λ (n : List ℕ). w (list_path n)) (sym same) ∙ no_list)
    at_list entry is (q, (suc k, lt, same), e) = is.list (q, (k, omega (arith, lt), same), e)

    at_script : (entry : Path) → IsSound names entry (w (entry_path entry)) → IsScriptOf (own ∷ names) entry → IsLink (w (entry_path entry)) → ⊥
    at_script entry is (script, q, (zero, lt, same), e) link =
        none_link (w (entry_path entry)) (ap (λ (x : Path). w (entry_path x)) e ∙ ap (λ (n : List ℕ). w (script_path n script)) (sym same) ∙ no_script script) link
    at_script entry is (script, q, (suc k, lt, same), e) link = is.script (script, q, (k, omega (arith, lt), same), e) link

-- at a moment
module _ (names : List (List ℕ)) (ways : Ways) (old now : World) (quiet : IsQuiet old now) (safe : IsSafe names ways old) where
  text_still : HasBadName now info_path → ⊥
  text_still bad = safe.text (bad.0, bad.1, bad.2, subst IsSome (quiet.stays (entry_path bad.0) (strange_unnamed bad.0 (inl bad.2))) bad.3)

  long_still : LongStood old now
  long_still arches long short two some =
      let entry = long_front two.name two.architecture ++ 46 ∷ two.ending in
      ap now two.long_is ∙ quiet.stays (entry_path entry) (strange_unnamed entry (inr (long_is_long arches long short two))) ∙ sym (ap old two.long_is)

  list_still : (entry : Path) → IsSound names entry (old (entry_path entry)) → (of : IsListOf names entry) → IsReadable (now (entry_path entry))
  list_still entry is of = subst (λ (x : Path). IsReadable (now (entry_path x))) (sym of.2) (quiet.lists of.0 (subst (λ (x : Path). IsReadable (old (entry_path x))) of.2 (is.list of)))

  script_still : (entry : Path) → IsSound names entry (old (entry_path entry)) → (of : IsScriptOf names entry) → IsLink (now (entry_path entry)) → ⊥
  script_still entry is of link =
      is.script of (subst (λ (x : Path). IsLink (old (entry_path x))) (sym of.3) (quiet.links of.1 of.0 (subst (λ (x : Path). IsLink (now (entry_path x))) of.3 link)))

  pub safe_quiet : AreLoose now → IsSafe names ways now
  safe_quiet loose = record {
    info = subst IsDirectory (sym (quiet.stays info_path info_unnamed)) safe.info;
    text = text_still;
    sound = λ entry plain. record {
      loose = loose entry plain;
      list = λ of. list_still entry (safe.sound entry plain) of;
      script = λ of link. script_still entry (safe.sound entry plain) of link;
    };
    short = names_by old now long_still safe.short;
    diversions = subst (λ (n : Option Node). HasEntries n ways.entries) (sym (quiet.stays diversions_path diversions_unnamed)) safe.diversions;
    spare = no_directory_at (now (temporary diversions_path)) (old (temporary diversions_path)) (quiet.stays (temporary diversions_path) spare_unnamed) safe.spare;
  }
