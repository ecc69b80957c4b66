-- What the calls that settle a conffile leave of its files.
use Rattle.std.proofs.Common.{◌≡◌, ◌⊎◌, inl, inr, Bool, true, Option, Some, None, is_some, Result, Ok, Err, OnOk, IsTrue, refl, sym, ap, subst, ◌∙◌}
use Rattle.std.specs.Prelude.{IsSome, IfSome}
use Rattle.host_core.proofs.Nodes.{none_stands}
use Rattle.host_core.specs.Paths.{Path}
use Rattle.host_core.specs.World.{World, put, moved, kind_of, IsFile, HasParent, KeepsBut, Step, Move, Take, after}
use Rattle.host_core.specs.Host.{State, Does, Reads, Since}
use Rattle.host_core.proofs.Moments.{since_does, since_reads, since_then, since_weaker_if}
use Rattle.host_core.specs.declared.fault.HostFault.{HostFault}
use Rattle.host_core.specs.declared.node.Kind.{Kind}
use Rattle.host_core.specs.declared.node.Node.{Node}
use Rattle.administration.specs.Files.{NoDirectory, IsReplaced, IsReplacing, IsDropped, IsDropping, IsAside, IsBeside}
use Rattle.administration.proofs.WholeFiles.{no_directory_file, no_directory_none, no_directory_at}
use Rattle.conffiles.specs.declared.decisions.Decision.TheVariants.{TakeNew, DropNew, NewToDist, BackupOld, Delete, Rename}
use Rattle.conffiles.specs.Settling.{ConffileFiles, files_at, shipped_name, backup_name, dist_name, spare_name, is_conffile_name, renewed, first_of, kept_beside, settled_files, backed_up, IsFileOrNone, IsBetween, HasChanged, IsChanging, IsMovedIfThere, CanSettle}
use Rattle.conffiles.proofs.ConffileWorlds.{IsWith, with_start, with_home, with_shipped, with_spare, shipped_to_dist, shipped_to_home, home_to_backup, spare_to_backup, dropped_world, dropping_world, aside_world, beside_world, replacing_world, replaced_world, changed_by, changing_by, changing_start}

-- a step without parts

pub since_move : {T : Type 0} (P : World → Type 0) (result : Result T HostFault) (p q : Path) (a b : State) → Does (Move p q) a b result → (IsTrue b.honest → P a.world) → (IsTrue b.honest → P (moved a.world p q)) → Since (λ so_far. P) a b
since_move P result p q a b does before behind = since_does P result (Move p q) a b does (λ h. record { before = before h; inside = λ t part. absurd part; behind = behind h })

pub since_take : {T : Type 0} (P : World → Type 0) (result : Result T HostFault) (p : Path) (a b : State) → Does (Take p) a b result → (IsTrue b.honest → P a.world) → (IsTrue b.honest → P (put a.world p None)) → Since (λ so_far. P) a b
since_take P result p a b does before behind = since_does P result (Take p) a b does (λ h. record { before = before h; inside = λ t part. absurd part; behind = behind h })

pub left_by : {T : Type 0} (P : World → Type 0) (result : Result T HostFault) (s : Step) (a b : State) → Does s a b result → P (after s a.world) → OnOk result (P b.world)
left_by P (Ok x) s a b does there = subst P (sym does.world) there
left_by P (Err e) s a b does there = tt

pub on_ok : {T E : Type 0} {P Q : Type 0} (result : Result T E) → (P → Q) → OnOk result P → OnOk result Q
on_ok (Ok x) so there = so there
on_ok (Err e) so there = tt

-- what is said of a name that is computed

pub parent_at : (w : World) (p q : Path) → p ≡ q → HasParent w q → HasParent w p
parent_at w p q same there = subst (HasParent w) (sym same) there

pub some_at : (w : World) (p q : Path) → p ≡ q → IsSome (w p) → IsSome (w q)
some_at w p q same some = subst (λ r. IsSome (w r)) same some

pub kind_some : (n : Option Node) → IsSome (kind_of n) → IsSome n
kind_some None some = some
kind_some (Some node) some = refl

pub shipped_some : (w : World) (x p : Path) (kind : Option Kind) → p ≡ shipped_name x → kind ≡ kind_of (w p) → is_some kind ≡ true → IsSome (w (shipped_name x))
shipped_some w x p kind same found there = some_at w p (shipped_name x) same (kind_some (w p) (subst IsSome found there))

-- a name that is empty

pub dropped_new : (x p : Path) (old new : World) → p ≡ shipped_name x → IsDropped p old new → HasChanged (settled_files DropNew) x old new
dropped_new x p old new is dropped =
    let here = subst (λ q. IsDropped q old new) is dropped in
    subst (HasChanged (settled_files DropNew) x old) (sym (dropped_world (shipped_name x) old new here))
    (changed_by (settled_files DropNew) x old (put old (shipped_name x) None) _ _ (with_shipped x old old _ _ None (with_start x old)) refl (inl refl))

pub dropping_new : (x p : Path) (old now : World) → p ≡ shipped_name x → CanSettle x old → IsDropping p old now → IsChanging (settled_files DropNew) x old now
dropping_new x p old now is can dropping = elim (dropping_world (shipped_name x) old now (subst (λ q. IsDropping q old now) is dropping)) [
  | inl same ↦ subst (IsChanging (settled_files DropNew) x old) (sym same) (changing_start (settled_files DropNew) x old can)
  | inr gone ↦ subst (IsChanging (settled_files DropNew) x old) (sym gone)
      (changing_by (settled_files DropNew) x old (put old (shipped_name x) None) _ _ (with_shipped x old old _ _ None (with_start x old)) (inr (inr (inr refl))) can.spare)
]

pub deleted : (x p : Path) (old new : World) → p ≡ x → IsDropped p old new → HasChanged (settled_files Delete) x old new
deleted x p old new is dropped =
    let here = subst (λ q. IsDropped q old new) is dropped in
    subst (HasChanged (settled_files Delete) x old) (sym (dropped_world x old new here))
    (changed_by (settled_files Delete) x old (put old x None) _ _ (with_home x old old _ _ None (with_start x old)) refl (inl refl))

pub deleting : (x p : Path) (old now : World) → p ≡ x → CanSettle x old → IsDropping p old now → IsChanging (settled_files Delete) x old now
deleting x p old now is can dropping = elim (dropping_world x old now (subst (λ q. IsDropping q old now) is dropping)) [
  | inl same ↦ subst (IsChanging (settled_files Delete) x old) (sym same) (changing_start (settled_files Delete) x old can)
  | inr gone ↦ subst (IsChanging (settled_files Delete) x old) (sym gone)
      (changing_by (settled_files Delete) x old (put old x None) _ _ (with_home x old old _ _ None (with_start x old)) (inr (inr (inr refl))) can.spare)
]

-- a file that was moved where it was there

first_none : (a b : Option Node) → a ≡ None → b ≡ first_of a b
first_none a b none = sym (ap (λ n. first_of n b) none)

first_some : (a b : Option Node) → IsSome a → a ≡ first_of a b
first_some None b some = absurd (none_stands None refl some)
first_some (Some n) b some = refl

to_dist_none : (f : ConffileFiles) → f.shipped ≡ None → f ≡ settled_files NewToDist f
to_dist_none f none = λ i. record { home = f.home; shipped = none i; backup = f.backup; dist = first_none f.shipped f.dist none i }

to_dist_some : (f : ConffileFiles) → IsSome f.shipped → record f { shipped = None; dist = f.shipped } ≡ settled_files NewToDist f
to_dist_some f some = λ i. record { home = f.home; shipped = None; backup = f.backup; dist = first_some f.shipped f.dist some i }

rename_none : (f : ConffileFiles) → f.home ≡ None → f ≡ settled_files Rename f
rename_none f none = λ i. record { home = none i; shipped = f.shipped; backup = first_none f.home f.backup none i; dist = f.dist }

rename_some : (f : ConffileFiles) → IsSome f.home → record f { home = None; backup = f.home } ≡ settled_files Rename f
rename_some f some = λ i. record { home = None; shipped = f.shipped; backup = first_some f.home f.backup some i; dist = f.dist }

pub record IsWhole (change : ConffileFiles → ConffileFiles) (x : Path) (old now : World) : Type 0 where
  pub done : HasChanged change x old now
  pub on_way : IsChanging change x old now

-- all is done
whole_by : (change : ConffileFiles → ConffileFiles) (x : Path) (old now : World) (f : ConffileFiles) → CanSettle x old → IsWith x old now f (old (spare_name x)) → f ≡ change (files_at old x) → IsWhole change x old now
whole_by change x old now f can is fits = record {
  done = changed_by change x old now f (old (spare_name x)) is fits (inl refl);
  on_way = changing_by change x old now f (old (spare_name x)) is (inr (inr (inr fits))) can.spare;
}

to_dist_whole : (x p q : Path) (old new : World) → p ≡ shipped_name x → q ≡ dist_name x → CanSettle x old → IsMovedIfThere p q old new → IsWhole (settled_files NewToDist) x old new
to_dist_whole x p q old new is_p is_q can (inl (none, same)) =
    subst (IsWhole (settled_files NewToDist) x old) (sym same)
    (whole_by (settled_files NewToDist) x old old (files_at old x) can (with_start x old) (to_dist_none (files_at old x) (ap old (sym is_p) ∙ none)))
to_dist_whole x p q old new is_p is_q can (inr (some, goes)) =
    subst (IsWhole (settled_files NewToDist) x old) (sym (goes ∙ ap (λ r. moved old r q) is_p ∙ ap (moved old (shipped_name x)) is_q))
    (whole_by (settled_files NewToDist) x old (moved old (shipped_name x) (dist_name x)) _ can (shipped_to_dist x old old _ _ (with_start x old))
    (to_dist_some (files_at old x) (subst (λ r. IsSome (old r)) is_p some)))

pub to_dist_done : (x p q : Path) (old new : World) → p ≡ shipped_name x → q ≡ dist_name x → CanSettle x old → IsMovedIfThere p q old new → HasChanged (settled_files NewToDist) x old new
to_dist_done x p q old new is_p is_q can goes = (to_dist_whole x p q old new is_p is_q can goes).done

pub to_dist_changing : (x p q : Path) (old now : World) → p ≡ shipped_name x → q ≡ dist_name x → CanSettle x old → (now ≡ old) ⊎ IsMovedIfThere p q old now → IsChanging (settled_files NewToDist) x old now
to_dist_changing x p q old now is_p is_q can (inl same) = subst (IsChanging (settled_files NewToDist) x old) (sym same) (changing_start (settled_files NewToDist) x old can)
to_dist_changing x p q old now is_p is_q can (inr goes) = (to_dist_whole x p q old now is_p is_q can goes).on_way

rename_whole : (x p q : Path) (old new : World) → p ≡ x → q ≡ backup_name x → CanSettle x old → IsMovedIfThere p q old new → IsWhole (settled_files Rename) x old new
rename_whole x p q old new is_p is_q can (inl (none, same)) =
    subst (IsWhole (settled_files Rename) x old) (sym same)
    (whole_by (settled_files Rename) x old old (files_at old x) can (with_start x old) (rename_none (files_at old x) (ap old (sym is_p) ∙ none)))
rename_whole x p q old new is_p is_q can (inr (some, goes)) =
    subst (IsWhole (settled_files Rename) x old) (sym (goes ∙ ap (λ r. moved old r q) is_p ∙ ap (moved old x) is_q))
    (whole_by (settled_files Rename) x old (moved old x (backup_name x)) _ can (home_to_backup x old old _ _ (with_start x old))
    (rename_some (files_at old x) (subst (λ r. IsSome (old r)) is_p some)))

pub rename_done : (x p q : Path) (old new : World) → p ≡ x → q ≡ backup_name x → CanSettle x old → IsMovedIfThere p q old new → HasChanged (settled_files Rename) x old new
rename_done x p q old new is_p is_q can goes = (rename_whole x p q old new is_p is_q can goes).done

pub rename_changing : (x p q : Path) (old now : World) → p ≡ x → q ≡ backup_name x → CanSettle x old → (now ≡ old) ⊎ IsMovedIfThere p q old now → IsChanging (settled_files Rename) x old now
rename_changing x p q old now is_p is_q can (inl same) = subst (IsChanging (settled_files Rename) x old) (sym same) (changing_start (settled_files Rename) x old can)
rename_changing x p q old now is_p is_q can (inr goes) = (rename_whole x p q old now is_p is_q can goes).on_way

-- looking first

since_still : (old new : State) → Reads old new → Since (λ so_far w. w ≡ old.world) old new
since_still old new reads = since_reads (λ so_far w. w ≡ old.world) old new reads (λ fs all. refl)

pub reads_changing : (change : ConffileFiles → ConffileFiles) (x : Path) (old new : State) → Reads old new → (IsTrue old.honest → CanSettle x old.world) → Since (λ so_far. IsChanging change x old.world) old new
reads_changing change x old new reads can =
    since_weaker_if (λ so_far w. w ≡ old.world) (λ so_far. IsChanging change x old.world) old new
    (λ h so_far w same. subst (IsChanging change x old.world) (sym same) (changing_start change x old.world (can (reads.honest h))))
    (since_still old new reads)

pub reads_then_changing : (change : ConffileFiles → ConffileFiles) (x : Path) (a b c : State) → Reads a b → (IsTrue a.honest → CanSettle x a.world) → Since (λ so_far. IsChanging change x b.world) b c → Since (λ so_far. IsChanging change x a.world) a c
reads_then_changing change x a b c reads can second =
    since_then (λ so_far. IsChanging change x a.world) a b c (reads_changing change x a b reads can)
    (subst (λ w. Since (λ so_far. IsChanging change x w) b c) reads.world second)

pub file_some : (o : Option Node) (n : Node) → o ≡ Some n → IfSome o IsFile → IsFile n
file_some o n is file = subst (λ m. IfSome m IsFile) is file

-- the shipped file is renamed to its place

pub taken_there : (x p q : Path) (old : World) → p ≡ shipped_name x → q ≡ x → renewed (old x) (old (shipped_name x)) ≡ old (shipped_name x) → CanSettle x old → IsWhole (settled_files TakeNew) x old (moved old p q)
taken_there x p q old is_p is_q same can =
    let f = files_at old x in
    subst (IsWhole (settled_files TakeNew) x old) (sym (ap (λ r. moved old r q) is_p ∙ ap (moved old (shipped_name x)) is_q))
    (whole_by (settled_files TakeNew) x old (moved old (shipped_name x) x) (record f { home = f.shipped; shipped = None }) can
    (shipped_to_home x old old f (old (spare_name x)) (with_start x old)) (λ i. record f { home = sym same i; shipped = None }))

-- a file with the access of the one that is there is put in its place

pub renewing : (x p : Path) (node : Node) (old now : World) → p ≡ x → renewed (old x) (old (shipped_name x)) ≡ Some node → IsReplacing p node old now → IsChanging (settled_files TakeNew) x old now
renewing x p node old now is fits replacing =
    let here = subst (λ q. IsReplacing q node old now) is replacing in
    let f = files_at old x in
    let g : ConffileFiles = record f { home = now x } in
    let there : IsWith x old (put (put old (spare_name x) (now (spare_name x))) x (now x)) g (now (spare_name x)) =
    with_home x old (put old (spare_name x) (now (spare_name x))) f (now (spare_name x)) (now x) (with_spare x old old f (old (spare_name x)) (now (spare_name x)) (with_start x old)) in
    changing_by (settled_files TakeNew) x old now g (now (spare_name x))
    (subst (λ w. IsWith x old w g (now (spare_name x))) (sym (replacing_world x old now node here)) there)
    (elim here.target [
      | inl same ↦ inl (λ i. record f { home = same i })
      | inr new ↦ inr (inr (inl (λ i. record f { home = (new ∙ sym fits) i })))
    ])
    here.spare

renewed_with : (x p : Path) (node : Node) (old mid : World) → p ≡ x → IsReplaced p node old mid → IsWith x old mid (record (files_at old x) { home = Some node }) None
renewed_with x p node old mid is replaced =
    let here = subst (λ q. IsReplaced q node old mid) is replaced in
    let f = files_at old x in
    let there : IsWith x old (put (put old (spare_name x) (mid (spare_name x))) x (mid x)) (record f { home = mid x }) (mid (spare_name x)) =
    with_home x old (put old (spare_name x) (mid (spare_name x))) f (mid (spare_name x)) (mid x) (with_spare x old old f (old (spare_name x)) (mid (spare_name x)) (with_start x old)) in
    let at_mid = subst (λ w. IsWith x old w (record f { home = mid x }) (mid (spare_name x))) (sym (replaced_world x old mid node here)) there in
    subst (λ s. IsWith x old mid (record f { home = Some node }) s) here.spare (subst (λ n. IsWith x old mid (record f { home = n }) (mid (spare_name x))) here.target at_mid)

pub renewed_home : (x p : Path) (node : Node) (old mid : World) → p ≡ x → renewed (old x) (old (shipped_name x)) ≡ Some node → IsReplaced p node old mid → IsChanging (settled_files TakeNew) x old mid
renewed_home x p node old mid is fits replaced =
    let f = files_at old x in
    changing_by (settled_files TakeNew) x old mid (record f { home = Some node }) None (renewed_with x p node old mid is replaced) (inr (inr (inl (λ i. record f { home = sym fits i })))) no_directory_none

pub renewed_there : (x p q : Path) (node : Node) (old mid : World) → p ≡ x → q ≡ shipped_name x → renewed (old x) (old (shipped_name x)) ≡ Some node → IsReplaced p node old mid → IsWhole (settled_files TakeNew) x old (put mid q None)
renewed_there x p q node old mid is is_q fits replaced =
    let f = files_at old x in
    let gone = with_shipped x old mid (record f { home = Some node }) None None (renewed_with x p node old mid is replaced) in
    let done : record f { home = Some node; shipped = None } ≡ settled_files TakeNew f = λ i. record f { home = sym fits i; shipped = None } in
    subst (λ r. IsWhole (settled_files TakeNew) x old (put mid r None)) (sym is_q) record {
      done = changed_by (settled_files TakeNew) x old (put mid (shipped_name x) None) (record f { home = Some node; shipped = None }) None gone done (inr refl);
      on_way = changing_by (settled_files TakeNew) x old (put mid (shipped_name x) None) (record f { home = Some node; shipped = None }) None gone (inr (inr (inr done))) no_directory_none;
    }

pub shipped_stays : (x p q : Path) (node : Node) (old mid : World) → p ≡ x → q ≡ shipped_name x → IsReplaced p node old mid → mid q ≡ old q
shipped_stays x p q node old mid is is_q replaced =
    ap mid is_q ∙ ap (λ (f : ConffileFiles). f.shipped) (renewed_with x p node old mid is replaced).files_are ∙ ap old (sym is_q)

-- a copy is kept

pub copying : (x p : Path) (old now : World) → p ≡ spare_name x → CanSettle x old → IsBeside p old now → IsChanging backed_up x old now
copying x p old now is can beside =
    let here = subst (λ q. IsBeside q old now) is beside in
    changing_by backed_up x old now (files_at old x) (now (spare_name x))
    (subst (λ w. IsWith x old w (files_at old x) (now (spare_name x))) (sym (beside_world (spare_name x) old now here))
    (with_spare x old old (files_at old x) (old (spare_name x)) (now (spare_name x)) (with_start x old)))
    (inl refl) here.target

aside_with : (x p : Path) (had : Node) (old mid : World) → p ≡ spare_name x → IsAside p had old mid → IsWith x old mid (files_at old x) (Some had)
aside_with x p had old mid is aside =
    subst (λ w. IsWith x old w (files_at old x) (Some had)) (sym (aside_world (spare_name x) old mid had (subst (λ q. IsAside q had old mid) is aside)))
    (with_spare x old old (files_at old x) (old (spare_name x)) (Some had) (with_start x old))

pub aside_home : (x p : Path) (had : Node) (old mid : World) → p ≡ spare_name x → IsAside p had old mid → mid x ≡ old x
aside_home x p had old mid is aside = ap (λ (f : ConffileFiles). f.home) (aside_with x p had old mid is aside).files_are

pub copy_aside : (x p : Path) (had : Node) (old mid : World) → p ≡ spare_name x → IsFile had → IsAside p had old mid → IsChanging backed_up x old mid
copy_aside x p had old mid is file aside = changing_by backed_up x old mid (files_at old x) (Some had) (aside_with x p had old mid is aside) (inl refl) (no_directory_file had file)

pub copied_there : (x p q : Path) (had : Node) (old mid : World) → p ≡ spare_name x → q ≡ backup_name x → old x ≡ Some had → IsAside p had old mid → IsWhole backed_up x old (moved mid p q)
copied_there x p q had old mid is_p is_q home aside =
    let f = files_at old x in
    let there = spare_to_backup x old mid f (Some had) (aside_with x p had old mid is_p aside) in
    let done : record f { backup = Some had } ≡ backed_up f = λ i. record f { backup = first_of (sym home i) f.backup } in
    subst (IsWhole backed_up x old) (sym (ap (λ r. moved mid r q) is_p ∙ ap (moved mid (spare_name x)) is_q)) record {
      done = changed_by backed_up x old (moved mid (spare_name x) (backup_name x)) (record f { backup = Some had }) None there done (inr refl);
      on_way = changing_by backed_up x old (moved mid (spare_name x) (backup_name x)) (record f { backup = Some had }) None there (inr (inr (inr done))) no_directory_none;
    }

-- a copy is kept, and then the shipped file is taken

kept_some : (s home backup : Option Node) → IsSome s → first_of home backup ≡ kept_beside s home backup
kept_some None home backup some = absurd (none_stands None refl some)
kept_some (Some n) home backup some = refl

pub copy_on_way : (x : Path) (old now : World) → IsSome (old (shipped_name x)) → IsChanging backed_up x old now → IsChanging (settled_files BackupOld) x old now
copy_on_way x old now some is =
    let f = files_at old x in
    let kept : backed_up f ≡ record f { backup = kept_beside f.shipped f.home f.backup } = λ i. record f { backup = kept_some f.shipped f.home f.backup some i } in
    record {
      files = elim is.files [
        | inl same ↦ inl same
        | inr later ↦ elim later [
          | inl copied ↦ inr (inl (copied ∙ kept))
          | inr last ↦ elim last [ inl copied ↦ inr (inl (copied ∙ kept)) | inr copied ↦ inr (inl (copied ∙ kept)) ]
        ]
      ];
      spare = is.spare;
      rest = is.rest;
    }

keeps_then : (area : Path → Bool) (u v w : World) → KeepsBut area u v → KeepsBut area v w → KeepsBut area u w
keeps_then area u v w first second q out = second q out ∙ first q out

pub take_on_way : (x : Path) (old mid now : World) → IsSome (old (shipped_name x)) → HasChanged backed_up x old mid → IsChanging (settled_files TakeNew) x mid now → IsChanging (settled_files BackupOld) x old now
take_on_way x old mid now some copied is =
    let f = files_at old x in
    let g = files_at now x in
    let kept : (i : ConffileFiles) × (backed_up f ≡ i) = (record f { backup = kept_beside f.shipped f.home f.backup }, λ i. record f { backup = kept_some f.shipped f.home f.backup some i }) in
    let between : IsBetween (backed_up f) (settled_files TakeNew (backed_up f)) g = subst (λ m. IsBetween m (settled_files TakeNew m) g) copied.files is.files in
    record {
      files = elim between [
        | inl same ↦ inr (inl (same ∙ kept.1))
        | inr later ↦ elim later [
          | inl same ↦ inr (inl (same ∙ kept.1))
          | inr last ↦ elim last [
            | inl home ↦ inr (inr (inl (home ∙ (λ i. record f { backup = kept_some f.shipped f.home f.backup some i; home = renewed f.home f.shipped }))))
            | inr all ↦ inr (inr (inr (all ∙ (λ i. record f { home = renewed f.home f.shipped; shipped = None; backup = kept_some f.shipped f.home f.backup some i }))))
          ]
        ]
      ];
      spare = is.spare;
      rest = keeps_then (is_conffile_name x) old mid now copied.rest is.rest;
    }

spare_then : (a b c : Option Node) → (b ≡ a) ⊎ (b ≡ None) → (c ≡ b) ⊎ (c ≡ None) → (c ≡ a) ⊎ (c ≡ None)
spare_then a b c (inl first) (inl second) = inl (second ∙ first)
spare_then a b c (inr first) (inl second) = inr (second ∙ first)
spare_then a b c first (inr second) = inr second

pub take_done : (x : Path) (old mid new : World) → IsSome (old (shipped_name x)) → HasChanged backed_up x old mid → HasChanged (settled_files TakeNew) x mid new → HasChanged (settled_files BackupOld) x old new
take_done x old mid new some copied is =
    let f = files_at old x in
    record {
      files = is.files ∙ ap (settled_files TakeNew) copied.files ∙ (λ i. record f { home = renewed f.home f.shipped; shipped = None; backup = kept_some f.shipped f.home f.backup some i });
      spare = spare_then (old (spare_name x)) (mid (spare_name x)) (new (spare_name x)) copied.spare is.spare;
      rest = keeps_then (is_conffile_name x) old mid new copied.rest is.rest;
    }

first_loose : (a b : Option Node) → IsFileOrNone a → NoDirectory b → NoDirectory (first_of a b)
first_loose None b file none = none
first_loose (Some n) b file none = no_directory_file n file

spare_loose : (a b : Option Node) → (b ≡ a) ⊎ (b ≡ None) → NoDirectory a → NoDirectory b
spare_loose a b (inl same) none = no_directory_at b a same none
spare_loose a b (inr gone) none = no_directory_at b None gone no_directory_none

pub can_after : (x : Path) (old mid : World) → CanSettle x old → HasChanged backed_up x old mid → CanSettle x mid
can_after x old mid can copied = record {
  home = subst IsFileOrNone (sym (ap (λ (f : ConffileFiles). f.home) copied.files)) can.home;
  shipped = subst IsFileOrNone (sym (ap (λ (f : ConffileFiles). f.shipped) copied.files)) can.shipped;
  backup = subst NoDirectory (sym (ap (λ (f : ConffileFiles). f.backup) copied.files)) (first_loose (old x) (old (backup_name x)) can.home can.backup);
  dist = subst NoDirectory (sym (ap (λ (f : ConffileFiles). f.dist) copied.files)) can.dist;
  spare = spare_loose (old (spare_name x)) (mid (spare_name x)) copied.spare can.spare;
}

pub backed_none : (f : ConffileFiles) → f.shipped ≡ None → f ≡ settled_files BackupOld f
backed_none f none = λ i. record {
  home = sym (ap (renewed f.home) none) i;
  shipped = none i;
  backup = sym (ap (λ s. kept_beside s f.home f.backup) none) i;
  dist = f.dist;
}

-- where nothing is shipped or there, nothing is done

unchanged : (change : ConffileFiles → ConffileFiles) (x : Path) (old new : World) → new ≡ old → files_at old x ≡ change (files_at old x) → HasChanged change x old new
unchanged change x old new same fits = subst (HasChanged change x old) (sym same) record { files = fits; spare = inl refl; rest = λ q out. refl }

pub backed_up_none : (x : Path) (old new : World) → new ≡ old → old (shipped_name x) ≡ None → HasChanged (settled_files BackupOld) x old new
backed_up_none x old new same none = unchanged (settled_files BackupOld) x old new same (backed_none (files_at old x) none)

pub taken_none_files : (f : ConffileFiles) → f.shipped ≡ None → f ≡ settled_files TakeNew f
taken_none_files f none = λ i. record f { home = sym (ap (renewed f.home) none) i; shipped = none i }

pub taken_none : (x : Path) (old new : World) → new ≡ old → old (shipped_name x) ≡ None → HasChanged (settled_files TakeNew) x old new
taken_none x old new same none = unchanged (settled_files TakeNew) x old new same (taken_none_files (files_at old x) none)

pub copied_none : (x : Path) (old new : World) → new ≡ old → old x ≡ None → HasChanged backed_up x old new
copied_none x old new same none = unchanged backed_up x old new same (λ i. record (files_at old x) { backup = first_none (old x) (old (backup_name x)) none i })
