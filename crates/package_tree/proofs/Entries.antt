-- The lines of `conffiles`, one after another.
use Rattle.std.proofs.Common.{◌≡◌, ◌∙◌, ◌<◌, ◌+◌, sym, ap, List, ℕ, ◌++◌, ◌∷◌, [], length, get_or, take, drop, suc, arith, append_assoc, map}
use Rattle.std.proofs.Math.Seq.{split_at}
use Rattle.std.proofs.lemmas.List.{length-take-le}
use Rattle.control_fields.specs.Names.{Lacks}
use Rattle.control_fields.proofs.LinesOf.{lines_cut, lines_last}
use Rattle.package_tree.specs.Conffiles.{entry_of, entries_of, HasNoEntry, IsFirstEntry}
use Rattle.package_tree.specs.declared.conffile_lines.Entry.{Entry}

pub entries_cut : (text rest line after : List ℕ) (front next : List Entry) (entry : Entry) → entries_of text ≡ front ++ entries_of rest → rest ≡ line ++ 10 ∷ after → Lacks line 10 → entry ≡ entry_of line → next ≡ front ++ entry ∷ []
    → entries_of text ≡ next ++ entries_of after
entries_cut text rest line after front next entry read cut lacks is pushed =
    read ∙ ap (λ (ls : List (List ℕ)). front ++ map entry_of ls) (lines_cut rest line after cut lacks) ∙ ap (λ (e : Entry). front ++ e ∷ entries_of after) (sym is)
    ∙ sym (append_assoc front (entry ∷ []) (entries_of after)) ∙ ap (λ (l : List Entry). l ++ entries_of after) (sym pushed)

pub entries_last : (text rest : List ℕ) (front next : List Entry) (entry : Entry) → entries_of text ≡ front ++ entries_of rest → Lacks rest 10 → entry ≡ entry_of rest → next ≡ front ++ entry ∷ [] → next ≡ entries_of text
entries_last text rest front next entry read lacks is pushed =
    pushed ∙ ap (λ (e : Entry). front ++ e ∷ []) is ∙ ap (λ (ls : List (List ℕ)). front ++ map entry_of ls) (sym (lines_last rest lacks)) ∙ sym read

-- the first is at this index
pub first_at : (P : Entry → Type 0) (entries : List Entry) (i : ℕ) (entry : Entry) → i < length entries → entry ≡ get_or entries i entry → HasNoEntry P (take i entries) → P entry → IsFirstEntry P entries (i + 1) entry
first_at P entries i entry lt is none holds = record {
  front = take i entries;
  rest = drop (suc i) entries;
  is = split_at entries i entry lt ∙ ap (λ (e : Entry). take i entries ++ e ∷ drop (suc i) entries) (sym is);
  count = ap (λ n. n + 1) (sym (length-take-le i entries (omega (arith, lt))));
  holds = holds;
  first = none;
}
