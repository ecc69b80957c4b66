-- Neither the list and the files of a package nor what is left under its name stand at places of records: these change apart from them.
use Rattle.std.specs.Prelude.{Result, IsTrue}
use Rattle.std.proofs.Common.{◌≡◌, inl, inr, Bool, true, false, List, sym, ap, ◌∙◌}
use Rattle.std.proofs.lemmas.Bool.{true≢false}
use Rattle.host_core.specs.Paths.{Path}
use Rattle.host_core.specs.World.{World, SameOn}
use Rattle.host_core.specs.Host.{AtEachMoment, State}
use Rattle.host_core.specs.declared.node.Node.{Node}
use Rattle.administration.specs.Files.{KeepsBesideFile}
use Rattle.administration.specs.Places.{list_path}
use Rattle.package_files.specs.declared.work.Work.{Work}
use Rattle.package_files.specs.Files.{Each, Misses}
use Rattle.package_files.specs.Names.{IsNamed}
use Rattle.package_files.specs.Back.{CanGoBack}
use Rattle.listed_files.specs.Listing.{MayList, MayTurnBack, MayUnlist}
use Rattle.listed_files.proofs.Listings.{all_miss}
use Rattle.scattered_losses.specs.Apart.{WorksApart}
use Rattle.scattered_losses.proofs.GoingApart.{HasGone, beside_apart, beside_goes, gone_by}
use Rattle.status_db.specs.Held.{is_record_place}
use Rattle.unpack_steps.specs.Clearing.{MayClear}
use Rattle.unpack_steps.specs.FileMoves.{MayWriteRow}
use Rattle.unpack_steps.proofs.Clears.{record_beside}
use Rattle.unpack_steps.proofs.Rearranged.{named_rearranged}
use Rattle.unpack_steps.proofs.Standing.{record_below}

same_then : (u v w : World) → SameOn is_record_place u v → SameOn is_record_place v w → SameOn is_record_place u w
same_then u v w first second q there = second q there ∙ first q there

pub list_same : (owner : Path) (v now : World) → KeepsBesideFile (list_path owner) v now → SameOn is_record_place v now
list_same owner v now rest q there = rest q (λ e. true≢false (sym there ∙ ap is_record_place e)) (λ e. true≢false (sym there ∙ ap is_record_place e))

module _ (works : List Work) (named : Each IsNamed works) where
  files_same : (v now : World) → ((q : Path) → Each (λ x. Misses x q) works → now q ≡ v q) → SameOn is_record_place v now
  files_same v now rest q there = rest q (all_miss works q named (record_below q there))

  listing_same : (owner : Path) (node : Node) (v now : World) → MayList (list_path owner) node works v now → SameOn is_record_place v now
  listing_same owner node v now (inl is) = list_same owner v now is.rest
  listing_same owner node v now (inr m) = same_then v m.0 now (list_same owner v m.0 m.1.rest) (files_same m.0 now m.2.rest)

  turning_same : (owner : Path) (union listed : Node) (v now : World) → MayTurnBack (list_path owner) union listed works v now → SameOn is_record_place v now
  turning_same owner union listed v now (inl may) = listing_same owner union v now may
  turning_same owner union listed v now (inr m) =
      same_then v m.1 now (same_then v m.0 m.1 (list_same owner v m.0 m.2.rest) (files_same m.0 m.1 m.3.rest)) (list_same owner m.1 now m.4.rest)

  unlisting_same : (owner : Path) (node : Node) (v now : World) → CanGoBack works v → MayUnlist (list_path owner) node works v now → SameOn is_record_place v now
  unlisting_same owner node v now can (inl is) = files_same v now (is can.0 can.1).rest
  unlisting_same owner node v now can (inr m) = same_then v m.0 now (files_same v m.0 (m.1 can.0 can.1).rest) (list_same owner m.0 now m.2.rest)

writing_same : (owner : Path) (union listed : Node) (works : List Work) → Each IsNamed works → (v now : World) → MayWriteRow (list_path owner) union listed works v now → SameOn is_record_place v now
writing_same owner union listed works named v now (inl same) q there = ap (λ w. w q) same
writing_same owner union listed works named v now (inr may) q there = turning_same may.0 (named_rearranged works may.0 may.1 named) owner union listed v now may.2 q there

clear_same : (goes : Bool) (owner : Path) (v now : World) → MayClear false goes owner v now → SameOn is_record_place v now
clear_same true owner v now may q there = may.rest q (record_beside owner q there)
clear_same false owner v now same q there = ap (λ w. w q) same

-- what is done beside script calls and notes

pub clear_gone : (goes : Bool) (owner : Path) (a b : State) → AtEachMoment (MayClear false goes owner) a b → HasGone is_record_place a b
clear_gone goes owner a b since = gone_by is_record_place _ a b since (beside_goes is_record_place (MayClear false goes owner) a b (λ h now may. clear_same goes owner a.world now may) since)

pub row_apart : {T E : Type 0} (result : Result T E) (owner : Path) (union listed : Node) (works : List Work) → Each IsNamed works → (a b : State)
    → AtEachMoment (MayWriteRow (list_path owner) union listed works) a b → WorksApart result is_record_place a b
row_apart result owner union listed works named a b since =
    beside_apart is_record_place (MayWriteRow (list_path owner) union listed works) a b (λ h now may. writing_same owner union listed works named a.world now may) since result

pub back_apart : {T E : Type 0} (result : Result T E) (owner : Path) (node : Node) (works : List Work) → Each IsNamed works → (a b : State) → (IsTrue b.honest → CanGoBack works a.world)
    → AtEachMoment (MayUnlist (list_path owner) node works) a b → WorksApart result is_record_place a b
back_apart result owner node works named a b can since =
    beside_apart is_record_place (MayUnlist (list_path owner) node works) a b (λ h now may. unlisting_same works named owner node a.world now (can h) may) since result
