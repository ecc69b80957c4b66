-- What holds of works in one order holds in another.
use Rattle.std.proofs.Common.{◌≡◌, inl, inr, ℕ, List, [], ◌∷◌, ◌++◌, map, take, drop, length, Option, None, Contains, IsTrue, refl, sym, ap, subst, ◌∙◌, arith}
use Rattle.std.specs.Prelude.{IfNone}
use Rattle.std.specs.List.{AllByRecursion}
use Rattle.std.proofs.Math.Seq.{take-append_seam}
use Rattle.std.proofs.lemmas.List.{length-map}
use Rattle.undo_rows.specs.declared.fall.StepFault.{StepFault}
use Rattle.file_check.specs.Ready.{unseen, IsSameBut}
use Rattle.file_check.specs.Rearranged.{IsRearranged}
use Rattle.std.specs.List.Sorted.{IsPermutation}
use Rattle.std.proofs.lemmas.List.Elements.{All-from_recursion, recursion_from_All, All-contains, All-contains_itself, Contains-append_right}
use Rattle.std.proofs.lemmas.List.Sorted.{All-permutation, IsPermutation-sym, IsPermutation-map}
use Rattle.host_core.specs.Paths.{Path}
use Rattle.host_core.specs.World.{World}
use Rattle.host_core.specs.declared.node.Node.TheVariants.{Dir}
use Rattle.package_files.specs.declared.work.Work.{Work}
use Rattle.host_core.specs.declared.node.Access.{Access}
use Rattle.package_files.specs.Files.{Each, is_written, Written, IsWhole, before, IsAmid}
use Rattle.package_files.specs.Free.{IsFreeIn, IsSeen, IsWrittenFrom}
use Rattle.package_files.specs.Names.{HasMaker, IsHomed}
use Rattle.file_check.proofs.WorkLists.{each_of}

to_recursion : (P : Work → Type 0) (xs : List Work) → Each P xs → AllByRecursion P xs
to_recursion P [] all = tt
to_recursion P (x ∷ xs) all = (all.0, to_recursion P xs all.1)

of_recursion : (P : Work → Type 0) (xs : List Work) → AllByRecursion P xs → Each P xs
of_recursion P [] all = tt
of_recursion P (x ∷ xs) all = (all.0, of_recursion P xs all.1)

pub each_permuted : (P : Work → Type 0) (xs ys : List Work) → IsPermutation xs ys → Each P xs → Each P ys
each_permuted P xs ys moved all = of_recursion P ys (recursion_from_All P ys (All-permutation P xs ys moved (All-from_recursion P xs (to_recursion P xs all))))

abbrev Makes : World → Path → Work → Type 0
Makes w front y = (y.target ≡ front) × ((access : Access) × (y.node ≡ Dir access)) × IsTrue (is_written y.node (w y.target))

-- a maker is a member
maker_in : (xs : List Work) (w : World) (front : Path) → HasMaker xs w front → (y : Work) × Contains xs y × Makes w front y
maker_in [] w front m = absurd m
maker_in (x ∷ xs) w front (inl m) = (x, (0, omega arith, refl), m)
maker_in (x ∷ xs) w front (inr m) = let more = maker_in xs w front m in (more.0, Contains-append_right (x ∷ []) xs more.0 more.1, more.2)

maker_by : (xs : List Work) (w : World) (front : Path) → Each (λ y. Makes w front y → HasMaker xs w front) xs
maker_by [] w front = tt
maker_by (x ∷ xs) w front = (λ m. inl m, each_of (λ y. Makes w front y → HasMaker xs w front) (λ y. Makes w front y → HasMaker (x ∷ xs) w front) (λ y so m. inr (so m)) xs (maker_by xs w front))

maker_of_member : (xs : List Work) (w : World) (front : Path) (y : Work) → Contains xs y → Makes w front y → HasMaker xs w front
maker_of_member xs w front y has = All-contains (λ z. Makes w front z → HasMaker xs w front) xs y (All-from_recursion _ xs (to_recursion _ xs (maker_by xs w front))) has

member_permuted : (xs ys : List Work) (y : Work) → IsPermutation xs ys → Contains xs y → Contains ys y
member_permuted xs ys y moved has = All-contains (Contains ys) xs y (All-permutation (Contains ys) ys xs (IsPermutation-sym xs ys moved) (All-contains_itself ys)) has

maker_permuted : (xs ys : List Work) (w : World) (front : Path) → IsPermutation xs ys → HasMaker xs w front → HasMaker ys w front
maker_permuted xs ys w front moved m = let is = maker_in xs w front m in maker_of_member ys w front is.0 (member_permuted xs ys is.0 moved is.1) is.2

pub homed_permuted : (xs ys : List Work) (w : World) → IsPermutation xs ys → Each (IsHomed xs w) xs → Each (IsHomed ys w) ys
homed_permuted xs ys w moved all = each_permuted (IsHomed ys w) xs ys moved (each_of (IsHomed xs w) (IsHomed ys w) (λ z homed. (homed.0, homed.1, homed.2, homed.3, elim homed.4 [ inl dir ↦ inl dir | inr m ↦ inr (maker_permuted xs ys w homed.0 moved m) ])) xs all)

-- nothing was done yet
pub whole_here : (xs : List Work) (w : World) → Each (IsWhole w w) xs
whole_here [] w = tt
whole_here (x ∷ xs) w = (before refl, whole_here xs w)

pub amid_here : (xs : List Work) (w : World) → IsAmid xs w w w
amid_here xs w = record { each = whole_here xs w; rest = λ q misses. refl }

-- what was lent as a slice is the list again
pub written_back : (n : ℕ) (xs ys : List Work) → n ≡ length xs → IsSameBut xs ys → take n (ys ++ drop (length ys) xs) ≡ ys
written_back n xs ys long same =
    let as_long : n ≡ length ys = long ∙ sym (length-map xs unseen) ∙ sym (ap length same) ∙ length-map ys unseen in
    ap (λ k. take k (ys ++ drop (length ys) xs)) as_long ∙ take-append_seam ys (drop (length ys) xs)

-- the works in another order, whatever was seen of them
pub rearranged : (old seen new : List Work) → IsSameBut old seen → IsPermutation seen new → IsRearranged old new
rearranged old seen new same moved = subst (λ (l : List Work). IsPermutation l (map unseen new)) same (IsPermutation-map unseen seen new moved)

pub written_from : (seen new : List Work) (was mid : World) → IsPermutation seen new → Each (IsFreeIn was) seen → Each (IsSeen was) seen → Written new was mid → IsWrittenFrom new was mid
written_from seen new was mid moved free sight written = record {
  free = each_permuted (IsFreeIn was) seen new moved free;
  seen = each_permuted (IsSeen was) seen new moved sight;
  has = written.each;
}

pub none_told : (found : Option StepFault) (P : Type 0) → found ≡ None → IfNone found P → P
none_told found P none told = subst (λ (f : Option StepFault). IfNone f P) none told
