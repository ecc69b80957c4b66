-- What is held after writes.
use Rattle.std.proofs.Common.{◌≡◌, ℕ, suc, eqb, arith, Bool, true, false, List, [], ◌∷◌, ◌++◌, length, Option, Some, None, refl, sym, ap, subst, ◌∙◌, append-nil, append_assoc}
use Rattle.std.specs.Prelude.{MatchBool, ◌==◌}
use Rattle.std.proofs.lemmas.Bool.{true≢false}
use Rattle.std.proofs.lemmas.Bool.Decides.{nat_tests}
use Rattle.std.specs.Io.KnownBytes.{Appends, Keeps}
use Rattle.command_line.specs.Printing.{AppendsPart}

pub appends_nothing : (held : Option (List ℕ)) → Appends held held []
appends_nothing None = tt
appends_nothing (Some xs) = sym (append-nil xs)

pub keeps_held : (held : Option (List ℕ)) → Keeps held held
keeps_held None = tt
keeps_held (Some xs) = refl

pub appends_then : (a b c : Option (List ℕ)) (xs ys : List ℕ) → Appends a b xs → Appends b c ys → Appends a c (xs ++ ys)
appends_then None b c xs ys h k = tt
appends_then (Some held) None c xs ys h k = absurd h
appends_then (Some held) (Some mid) None xs ys h k = k
appends_then (Some held) (Some mid) (Some new) xs ys h k = k ∙ ap (λ (l : List ℕ). l ++ ys) h ∙ append_assoc held xs ys

pub appends_kept : (a b c : Option (List ℕ)) (xs : List ℕ) → Appends a b xs → Keeps b c → Appends a c xs
appends_kept None b c xs h k = tt
appends_kept (Some held) None c xs h k = absurd h
appends_kept (Some held) (Some mid) None xs h k = k
appends_kept (Some held) (Some mid) (Some new) xs h k = k ∙ h

-- a text as far as it was written
pub record HasWritten (text left : List ℕ) (old new : Option (List ℕ)) : Type 0 where
  pub front : List ℕ
  pub is : text ≡ front ++ left
  pub held : Appends old new front

pub written_start : (text : List ℕ) (held : Option (List ℕ)) → HasWritten text text held held
written_start text held = record { front = []; is = refl; held = appends_nothing held }

pub written_more : (text left front rest : List ℕ) (old mid new : Option (List ℕ)) → HasWritten text left old mid → left ≡ front ++ rest → Appends mid new front → HasWritten text rest old new
written_more text left front rest old mid new so_far split next = record {
  front = so_far.front ++ front;
  is = so_far.is ∙ ap (λ (l : List ℕ). so_far.front ++ l) split ∙ sym (append_assoc so_far.front front rest);
  held = appends_then old mid new so_far.front front so_far.held next;
}

none_left : (left : List ℕ) (b : Bool) → b ≡ (length left == 0) → b ≡ true → left ≡ []
none_left [] b is t = refl
none_left (x ∷ left) b is t = let h : eqb (suc (length left)) 0 ≡ true = sym is ∙ t in absurd (grind (arith, nat_tests))

pub some_left : (left : List ℕ) (b : Bool) → b ≡ (length left == 0) → b ≡ false → left ≡ [] → ⊥
some_left left b is f e = true≢false (sym (is ∙ ap (λ (l : List ℕ). length l == 0) e) ∙ f)

pub written_all : (text left : List ℕ) (old new : Option (List ℕ)) (b : Bool) → HasWritten text left old new → b ≡ (length left == 0) → b ≡ true → Appends old new text
written_all text left old new b so_far is t = subst (Appends old new) (sym (so_far.is ∙ ap (λ (l : List ℕ). so_far.front ++ l) (none_left left b is t) ∙ append-nil so_far.front)) so_far.held

pub written_part : (text left : List ℕ) (old mid new : Option (List ℕ)) (b : Bool) → HasWritten text left old mid → b ≡ (length left == 0) → b ≡ false → Keeps mid new → AppendsPart old new text
written_part text left old mid new b so_far is f kept = (so_far.front, left, so_far.is, some_left left b is f, appends_kept old mid new so_far.front so_far.held kept)

pub written_till : (text left : List ℕ) (old new : Option (List ℕ)) (b : Bool) → HasWritten text left old new → b ≡ (length left == 0) → MatchBool b (Appends old new text) (AppendsPart old new text)
written_till text left old new true so_far is = written_all text left old new true so_far is refl
written_till text left old new false so_far is = written_part text left old new new false so_far is refl (keeps_held new)

nothing_left : (front left : List ℕ) → front ++ left ≡ [] → left ≡ []
nothing_left [] left e = e
nothing_left (x ∷ front) left e = cc

-- of an empty text nothing is left
pub left_of_nothing : (text left : List ℕ) (old new : Option (List ℕ)) → HasWritten text left old new → text ≡ [] → left ≡ []
left_of_nothing text left old new so_far e = nothing_left so_far.front left (sym so_far.is ∙ e)
