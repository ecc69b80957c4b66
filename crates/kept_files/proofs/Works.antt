-- Works that leave what stands at a path alone: they do nothing there, or don't write what they ship.
use Rattle.std.proofs.Common.{◌≡◌, ◌⊎◌, inl, inr, zero, suc, Bool, true, false, List, [], ◌∷◌, Option, Contains, refl, sym, ap, ◌∙◌, arith}
use Rattle.std.proofs.lemmas.Bool.{true≢false}
use Rattle.std.proofs.lemmas.List.Elements.{Contains-append_right}
use Rattle.host_core.specs.Paths.{Path}
use Rattle.host_core.specs.World.{World}
use Rattle.host_core.specs.declared.node.Node.{Node}
use Rattle.file_check.specs.Ready.{unseen}
use Rattle.file_check.specs.Rearranged.{IsRearranged}
use Rattle.package_files.specs.declared.work.Work.{Work}
use Rattle.package_files.specs.Files.{Each, HasPutBack, HasUndone, HasWritten, IsAmid, IsBack, IsUnwritten, IsWhole, Misses, PutBack, Stays, Undone, Written, is_written, shown}
use Rattle.unpack_steps.proofs.Rearranged.{each_rearranged}
use Rattle.unpack_laws.proofs.Marks.{each_at}

module _ (q : Path) (node : Option Node) where
  -- the work does nothing at the path, or this stands there and stays
  pub data Spares (x : Work) : Type 0 where
    misses : Misses x q → Spares x
    stays : q ≡ x.target → is_written x.node node ≡ false → Spares x

  to_unseen : (x : Work) → Spares x → Spares (unseen x)
  to_unseen x (Spares.misses m) = Spares.misses (record { target = m.target; backup = m.backup; fresh = m.fresh })
  to_unseen x (Spares.stays is un) = Spares.stays is un

  from_unseen : (x : Work) → Spares (unseen x) → Spares x
  from_unseen x (Spares.misses m) = Spares.misses (record { target = m.target; backup = m.backup; fresh = m.fresh })
  from_unseen x (Spares.stays is un) = Spares.stays is un

  pub spares_rearranged : (xs ys : List Work) → IsRearranged xs ys → Each Spares xs → Each Spares ys
  spares_rearranged xs ys moved all = each_rearranged Spares to_unseen from_unseen xs ys moved all

  -- the work that comes there and isn't written
  pub record Comes (works : List Work) : Type 0 where
    pub work : Work
    pub there : Contains works work
    pub at : q ≡ work.target
    pub unwritten : is_written work.node node ≡ false

  later : (x : Work) (xs : List Work) → Comes xs → Comes (x ∷ xs)
  later x xs c = record { work = c.work; there = Contains-append_right (x ∷ []) xs c.work c.there; at = c.at; unwritten = c.unwritten }

  first_or : (x : Work) (xs : List Work) → Spares x → Each (λ y. Misses y q) xs ⊎ Comes xs → Each (λ y. Misses y q) (x ∷ xs) ⊎ Comes (x ∷ xs)
  first_or x xs (Spares.stays is un) rest = inr (record { work = x; there = (zero, omega arith, refl); at = is; unwritten = un })
  first_or x xs (Spares.misses m) (inl all) = inl (m, all)
  first_or x xs (Spares.misses m) (inr c) = inr (later x xs c)

  -- none comes there, or such a one
  pub all_or : (works : List Work) → Each Spares works → Each (λ x. Misses x q) works ⊎ Comes works
  all_or [] all = inl tt
  all_or (x ∷ xs) all = first_or x xs all.0 (all_or xs all.1)

  module _ (works : List Work) (spares : Each Spares works) where
    same_target : (v w : World) (x : Work) → q ≡ x.target → w x.target ≡ v x.target → v q ≡ node → w q ≡ node
    same_target v w x at same is = ap w at ∙ same ∙ ap v (sym at) ∙ is

    -- it can't have been written
    not_written : (c : Comes works) (v : World) → v q ≡ node → is_written c.work.node (v c.work.target) ≡ true → ⊥
    not_written c v is written = true≢false (sym written ∙ ap (is_written c.work.node) (ap v (sym c.at) ∙ is) ∙ c.unwritten)

    pub written_leaves : (v w : World) → v q ≡ node → Written works v w → w q ≡ node
    written_leaves v w is has = elim (all_or works spares) [
      | inl miss ↦ has.rest q miss ∙ is
      | inr c ↦
          let x = c.work in
          let own : HasWritten v w x = each_at (HasWritten v w) works x has.each c.there in
          let there = ap v (sym c.at) ∙ is in
          ap w c.at ∙ own.target ∙ ap (λ n. shown (is_written x.node n) x.node n) there ∙ ap (λ b. shown b x.node node) c.unwritten
    ]

    put_back : (c : Comes works) (was w : World) → was q ≡ node → IsBack was w c.work ⊎ Stays was w c.work → w q ≡ node
    put_back c was w is (inl back) = same_target was w c.work c.at back.target is
    put_back c was w is (inr made) = absurd (not_written c was is made.was)

    pub put_leaves : (was v w : World) → was q ≡ node → v q ≡ node → PutBack works was v w → w q ≡ node
    put_leaves was v w was_is is has = elim (all_or works spares) [
      | inl miss ↦ has.rest q miss ∙ is
      | inr c ↦ let own : HasPutBack was w c.work = each_at (HasPutBack was w) works c.work has.each c.there in put_back c was w was_is own.is
    ]

    undone_here : (c : Comes works) (v w : World) → v q ≡ node → IsUnwritten v w c.work ⊎ Stays v w c.work → w q ≡ node
    undone_here c v w is (inl un) = same_target v w c.work c.at un.target is
    undone_here c v w is (inr made) = absurd (not_written c v is made.was)

    pub undone_leaves : (v w : World) → v q ≡ node → Undone works v w → w q ≡ node
    undone_leaves v w is has = elim (all_or works spares) [
      | inl miss ↦ has.rest q miss ∙ is
      | inr c ↦ let own : HasUndone v w c.work = each_at (HasUndone v w) works c.work has.each c.there in undone_here c v w is own.is
    ]

    whole_here : (c : Comes works) (was w : World) → was q ≡ node → IsWhole was w c.work → w q ≡ node
    whole_here c was w is (IsWhole.before same) = same_target was w c.work c.at same is
    whole_here c was w is (IsWhole.between access made written none kept) = absurd (not_written c was is written)
    whole_here c was w is (IsWhole.behind written there kept) = absurd (not_written c was is written)

    pub amid_leaves : (was v w : World) → was q ≡ node → v q ≡ node → IsAmid works was v w → w q ≡ node
    amid_leaves was v w was_is is has = elim (all_or works spares) [
      | inl miss ↦ has.rest q miss ∙ is
      | inr c ↦ whole_here c was w was_is (each_at (IsWhole was w) works c.work has.each c.there)
    ]
