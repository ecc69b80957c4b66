-- What parts leave as it was in the administration.
use Rattle.std.proofs.Common.{◌≡◌, inl, inr, ℕ, Bool, true, false, List, [], ◌∷◌, ◌++◌, codes, ap, subst, ◌∙◌}
use Rattle.host_core.specs.Paths.{Path, is_below_administration}
use Rattle.host_core.specs.World.{World}
use Rattle.administration.specs.Places.{home_path, is_within}
use Rattle.administration.proofs.Within.{below_within, rest_of}
use Rattle.file_lists.specs.declared.paths.PackageList.{PackageList}
use Rattle.status_records.specs.declared.record.Record.{Record}
use Rattle.unit_stages.specs.Aside.{IsAside}
use Rattle.unit_stages.specs.Doing.{AreDoing, IsFirstDoing, MayDo, MayDrop}
use Rattle.unit_stages.specs.PartFitting.{AreFit, IsFit}
use Rattle.unit_stages.specs.Parts.{HasDone, HaveDone, part_lists, part_records, parts_lists, parts_records}
use Rattle.unit_stages.specs.declared.part.Part.{Part}
use Rattle.unit_stages.specs.declared.part.Part.TheVariants.{Note, Forget, Settle, Remove, RemoveDirectories, Clear, List as Listing, DropList, DropMembers}
use Rattle.unit_stages.proofs.ConffileNames.{below_none}
use Rattle.unit_stages.proofs.Outside.{cleared_outside, clearing_outside, removed_outside, removing_outside}

below_is_within : (q : Path) → is_below_administration q ≡ true → is_within home_path q ≡ true
below_is_within q below = (let rest = rest_of q (codes "/var/lib/dpkg/") below in ap (is_within home_path) rest.1 ∙ below_within home_path rest.0)

module _ (name : List ℕ) (q : Path) (aside : IsAside name q) where
  within : is_within home_path q ≡ true
  within = below_is_within q aside.below

  part_keeps : (declined : Path → Type 0) (part : Part) (rs : List Record) (ls : List PackageList) (old new : World) → IsFit name part rs ls → HasDone name declined part rs old new → new q ≡ old q
  part_keeps declined (Note r) rs ls old new fit done = done.rest q aside.unnoted
  part_keeps declined Forget rs ls old new fit done = done.rest q aside.unnoted
  part_keeps declined (Settle settled) rs ls old new fit done = done.rest q (below_none settled.items q aside.below)
  part_keeps declined (Remove leaving) rs ls old new fit done = removed_outside false leaving.items old new fit declined done q within
  part_keeps declined (RemoveDirectories leaving) rs ls old new fit done = removed_outside true leaving.items old new fit declined done q within
  part_keeps declined (Clear names) rs ls old new fit done = cleared_outside names.items old new fit done q within
  part_keeps declined (Listing paths) rs ls old new fit done = done.rest q aside.unlisted.0 aside.unlisted.1
  part_keeps declined DropList rs ls old new fit done = done.rest q aside.unlisted.0
  part_keeps declined (DropMembers keep) rs ls old new fit done = done.taken.rest q aside.no_member

  dropping_keeps : (keep : Bool) (old now : World) → MayDrop name keep old now → now q ≡ old q
  dropping_keeps keep old now (inl same) = ap (λ w. w q) same
  dropping_keeps keep old now (inr taking) = taking.2.rest q aside.no_member

  part_keeps_amid : (part : Part) (rs : List Record) (ls : List PackageList) (old now : World) → IsFit name part rs ls → MayDo name part rs old now → now q ≡ old q
  part_keeps_amid (Note r) rs ls old now fit may = may.rest q aside.unnoted
  part_keeps_amid Forget rs ls old now fit may = may.rest q aside.unnoted
  part_keeps_amid (Settle settled) rs ls old now fit may = may.rest q (below_none settled.items q aside.below)
  part_keeps_amid (Remove leaving) rs ls old now fit may = removing_outside false leaving.items old now fit may q within
  part_keeps_amid (RemoveDirectories leaving) rs ls old now fit may = removing_outside true leaving.items old now fit may q within
  part_keeps_amid (Clear names) rs ls old now fit may = clearing_outside names.items old now fit may q within
  part_keeps_amid (Listing paths) rs ls old now fit may = may.rest q aside.unlisted.0 aside.unlisted.1
  part_keeps_amid DropList rs ls old now fit may = may.rest q aside.unlisted.0
  part_keeps_amid (DropMembers keep) rs ls old now fit may = dropping_keeps keep old now may

  pub parts_keep : (declined : Path → Type 0) (parts : List Part) (rs : List Record) (ls : List PackageList) (old new : World) → AreFit name parts rs ls → HaveDone name declined parts rs old new → new q ≡ old q
  parts_keep declined [] rs ls old new fit same = ap (λ w. w q) same
  parts_keep declined (part ∷ parts) rs ls old new fit done =
      parts_keep declined parts (part_records name part rs) (part_lists name part ls) done.0 new fit.1 done.2 ∙ part_keeps declined part rs ls old done.0 fit.0 done.1

  fit_first : (front back : List Part) (rs : List Record) (ls : List PackageList) → AreFit name (front ++ back) rs ls → AreFit name front rs ls × AreFit name back (parts_records name front rs) (parts_lists name front ls)
  fit_first [] back rs ls fit = (tt, fit)
  fit_first (part ∷ front) back rs ls fit = (let rest = fit_first front back (part_records name part rs) (part_lists name part ls) fit.1 in ((fit.0, rest.0), rest.1))

  first_keeps : (parts : List Part) (rs : List Record) (ls : List PackageList) (old now : World) → AreFit name parts rs ls → IsFirstDoing name parts rs old now → now q ≡ old q
  first_keeps [] rs ls old now fit over = ap (λ w. w q) over.same
  first_keeps (part ∷ parts) rs ls old now fit doing = part_keeps_amid part rs ls old now fit.0 doing.may

  pub parts_keep_amid : (declined : Path → Type 0) (parts : List Part) (rs : List Record) (ls : List PackageList) (old now : World) → AreFit name parts rs ls → AreDoing name declined parts rs old now → now q ≡ old q
  parts_keep_amid declined parts rs ls old now fit doing =
      let fits = fit_first doing.front doing.back rs ls (subst (λ ps. AreFit name ps rs ls) doing.are fit) in
      first_keeps doing.back (parts_records name doing.front rs) (parts_lists name doing.front ls) doing.mid now fits.1 doing.next
      ∙ parts_keep declined doing.front rs ls old doing.mid fits.0 doing.done
