-- Notes that are taken away one by one, once the status file has them.
use Rattle.std.proofs.Common.{◌≡◌, ◌≢◌, inl, inr, ℕ, ◌+◌, ◌<◌, ◌≤◌, None, Result, Ok, Err, OnOk, IsTrue, refl, sym, ap, ◌∙◌, arith}
use Rattle.std.proofs.lemmas.Bool.{cases_eq}
use Rattle.host_core.specs.World.{World}
use Rattle.host_core.specs.Host.{State, AtEachMoment}
use Rattle.host_core.proofs.Moments.{since_weaker_if}
use Rattle.host_core.specs.declared.node.Node.{Node}
use Rattle.administration.specs.Places.{status_path, temporary}
use Rattle.administration.specs.Files.{NoDirectory, IsReplaced, IsReplacing, IsDropped, IsDropping}
use Rattle.administration.proofs.WholeFiles.{no_directory_none, no_directory_at}
use Rattle.status_db.specs.Notes.{limit, note_path}
use Rattle.status_db.specs.Taking.{HasReplacedNotes, HasTaken, IsReplacingNotes, IsTaken, IsTakingNotes}
use Rattle.status_db.proofs.NotePaths.{note_path_once, status_is_no_note, spare_status_is_no_note}

pub taken_none : (w : World) → IsTaken 0 w w
taken_none w = record { taken = record { gone = λ n lt. absurd (omega (arith, lt)); stays = λ n le. refl }; rest = λ q ne. refl }

other_note : (k : ℕ) (mid new : World) → IsDropped (note_path k) mid new → (n : ℕ) → n ≢ k → new (note_path n) ≡ mid (note_path n)
other_note k mid new drop n ne = drop.rest (note_path n) (λ e. ne (note_path_once n k e))

pub took_one : (k : ℕ) (old mid new : World) → k < limit → IsTaken k old mid → IsDropped (note_path k) mid new → IsTaken (k + 1) old new
took_one k old mid new within before drop = record {
  taken = record {
    gone = λ n lt. elim (cases_eq n k) [
      | inl same ↦ ap (λ (m : ℕ). new (note_path m)) same ∙ drop.target
      | inr ne ↦ other_note k mid new drop n ne ∙ before.taken.gone n (omega (arith, lt, ne))
    ];
    stays = λ n le. other_note k mid new drop n (λ e. absurd (omega (arith, le, e))) ∙ before.taken.stays n (omega (arith, le));
  };
  rest = λ q ne. drop.rest q (ne k within) ∙ before.rest q ne;
}

pub taking_one : (k : ℕ) (old mid now : World) → k < limit → IsTaken k old mid → IsDropping (note_path k) mid now → IsTakingNotes old now
taking_one k old mid now within before drop = elim drop.target [
  | inl stays ↦ (
    k,
    record {
      taken = record {
        gone = λ n lt. drop.rest (note_path n) (λ e. absurd (omega (arith, lt, note_path_once n k e))) ∙ before.taken.gone n lt;
        stays = λ n le. elim (cases_eq n k) [
          | inl same ↦ ap (λ (m : ℕ). now (note_path m)) same ∙ stays ∙ ap (λ (m : ℕ). mid (note_path m)) (sym same) ∙ before.taken.stays n le
          | inr ne ↦ drop.rest (note_path n) (λ e. ne (note_path_once n k e)) ∙ before.taken.stays n le
        ];
      };
      rest = λ q ne. drop.rest q (ne k within) ∙ before.rest q ne;
    },
  )
  | inr gone ↦ (k + 1, took_one k old mid now within before record { target = gone; rest = drop.rest })
]

pub since_taking : (k : ℕ) (old : World) (a b : State) → k < limit → (IsTrue b.honest → IsTaken k old a.world) → AtEachMoment (IsDropping (note_path k)) a b → AtEachMoment (λ w. IsTakingNotes old) a b
since_taking k old a b within before since = since_weaker_if (λ so_far. IsDropping (note_path k) a.world) (λ so_far. IsTakingNotes old) a b (λ h so_far w is. taking_one k old a.world w within (before h) is) since

pub still_no_directory : (k n : ℕ) (old mid : World) → IsTaken k old mid → k ≤ n → NoDirectory (old (note_path n)) → NoDirectory (mid (note_path n))
still_no_directory k n old mid before le none = no_directory_at (mid (note_path n)) (old (note_path n)) (before.taken.stays n le) none

-- with the status file

pub replacing_file : (status : Node) (old now : World) → IsReplacing status_path status old now → IsReplacingNotes status old now
replacing_file status old now is = record {
  number = 0;
  taken = record { gone = λ n lt. absurd (omega (arith, lt)); stays = λ n le. is.rest (note_path n) (λ e. absurd (status_is_no_note n (sym e))) (λ e. absurd (spare_status_is_no_note n (sym e))) };
  file = elim is.target [ inl before ↦ inl (before, refl) | inr there ↦ inr there ];
  spare = is.spare;
  rest = λ q ne_s ne_t ne_n. is.rest q ne_s ne_t;
}

notes_after : (status : Node) (old mid : World) → IsReplaced status_path status old mid → (n : ℕ) → mid (note_path n) ≡ old (note_path n)
notes_after status old mid is n = is.rest (note_path n) (λ e. absurd (status_is_no_note n (sym e))) (λ e. absurd (spare_status_is_no_note n (sym e)))

pub files_after : (status : Node) (old mid : World) → IsReplaced status_path status old mid → (n : ℕ) → NoDirectory (old (note_path n)) → NoDirectory (mid (note_path n))
files_after status old mid is n none = no_directory_at (mid (note_path n)) (old (note_path n)) (notes_after status old mid is n) none

taken_after : (status : Node) (number : ℕ) (old mid now : World) → IsReplaced status_path status old mid → IsTaken number mid now → HasTaken number old now
taken_after status number old mid now is taken = record { gone = taken.taken.gone; stays = λ n le. taken.taken.stays n le ∙ notes_after status old mid is n }

spare_after : (status : Node) (number : ℕ) (old mid now : World) → IsReplaced status_path status old mid → IsTaken number mid now → NoDirectory (now (temporary status_path))
spare_after status number old mid now is taken = no_directory_at (now (temporary status_path)) None (taken.rest (temporary status_path) (λ n lt. spare_status_is_no_note n) ∙ is.spare) no_directory_none

pub replacing_notes : (status : Node) (old mid now : World) → IsReplaced status_path status old mid → IsTakingNotes mid now → IsReplacingNotes status old now
replacing_notes status old mid now is (number, taken) = record {
  number = number;
  taken = taken_after status number old mid now is taken;
  file = inr (taken.rest status_path (λ n lt. status_is_no_note n) ∙ is.target);
  spare = spare_after status number old mid now is taken;
  rest = λ q ne_s ne_t ne_n. taken.rest q ne_n ∙ is.rest q ne_s ne_t;
}

replaced_notes : (status : Node) (count : ℕ) (old mid new : World) → IsReplaced status_path status old mid → IsTaken count mid new → HasReplacedNotes status count old new
replaced_notes status count old mid new is taken = record {
  file = taken.rest status_path (λ n lt. status_is_no_note n) ∙ is.target;
  taken = taken_after status count old mid new is taken;
  spare = spare_after status count old mid new is taken;
  rest = λ q ne_s ne_t ne_n. taken.rest q ne_n ∙ is.rest q ne_s ne_t;
}

pub replaced_by : {T F : Type 0} (result : Result T F) (status : Node) (count : ℕ) (old mid new : World) → IsReplaced status_path status old mid → OnOk result (IsTaken count mid new) → OnOk result (HasReplacedNotes status count old new)
replaced_by (Ok x) status count old mid new is taken = replaced_notes status count old mid new is taken
replaced_by (Err e) status count old mid new is taken = tt
