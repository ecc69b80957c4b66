-- What changes over a host below make of its world.
use Rattle.std.proofs.Common.{◌≡◌, ◌≢◌, ◌∙◌, Bool, true, false, Option, Some, None, Result, Ok, Err, refl, sym, ap, subst}
use Rattle.std.specs.Prelude.{IsSome, OnOk, OnErr, cond}
use Rattle.std.specs.Str.{bytes_eq}
use Rattle.host_core.specs.Paths.{Path}
use Rattle.host_core.specs.World.{World, Step, Write, Move, Take, MakeDir, RemoveDir, HardLink, MakeLink, Sync, Barrier, SyncAll, SyncRoot, Lower, put, lends, lowered, lowered_access, kind_of}
use Rattle.host_core.specs.declared.node.Access.{Access}
use Rattle.host_core.specs.declared.node.Node.{Node}
use Rattle.host_core.specs.declared.node.Node.TheVariants.{File, Dir, Link}
use Rattle.host_core.proofs.WorldLaws.{put_again, put_swap, put_here}
use Rattle.std.proofs.lemmas.Slice.Eq.{bytes_eq-Decides}
use Rattle.host_overlay.specs.Doings.{step_of}
use Rattle.host_overlay.specs.declared.done.DeviceStep.{DeviceStep}
use Rattle.host_overlay.specs.Standings.{Changed, changed, comes, stands, shown, overlaid, gone, made, lowered_standing, held_of, held_at, comes_there, is_there, AreThere, Becomes, Stays}
use Rattle.host_overlay.specs.declared.standing.Standing.{Standing}

lowered_once : (b : Bool) (a : Access) → lends a.mode ≡ b → lowered_access (cond b (record { mode = 0o600; user = a.user; group = a.group }) a) ≡ cond b (record { mode = 0o600; user = a.user; group = a.group }) a
lowered_once true a is = refl
lowered_once false a is = ap (λ (b : Bool). cond b (record { mode = 0o600; user = a.user; group = a.group }) a) is

lowered_again : (o : Option Node) → lowered (lowered o) ≡ lowered o
lowered_again None = refl
lowered_again (Some (File bytes access)) = ap (λ (a : Access). Some (File bytes a)) (lowered_once (lends access.mode) access refl)
lowered_again (Some (Dir access)) = refl
lowered_again (Some (Link target)) = refl

-- to lower rights leaves what kind of node it is
pub lowered_kind : (o : Option Node) → kind_of (lowered o) ≡ kind_of o
lowered_kind None = refl
lowered_kind (Some (File bytes access)) = refl
lowered_kind (Some (Dir access)) = refl
lowered_kind (Some (Link target)) = refl

kind_by : (b : Bool) (o : Option Node) → kind_of (cond b (lowered o) o) ≡ kind_of o
kind_by true o = lowered_kind o
kind_by false o = refl

pub stands_kind : (s : Standing) (w : World) → kind_of (stands s w) ≡ kind_of (comes s.origin w)
stands_kind s w = kind_by s.is_lowered (comes s.origin w)

lowers_by : (b : Bool) (o : Option Node) → lowered o ≡ lowered (cond b (lowered o) o)
lowers_by true o = sym (lowered_again o)
lowers_by false o = refl

pub lowered_stands : (s : Standing) (w : World) → stands (lowered_standing s) w ≡ lowered (stands s w)
lowered_stands s w = lowers_by s.is_lowered (comes s.origin w)

-- one more change

one_more : (b : Bool) (s : Standing) (o : Option Standing) (w : World) (q : Path) → shown (cond b (Some s) o) w q ≡ cond b (stands s w) (shown o w q)
one_more true s o w q = refl
one_more false s o w q = refl

pub changed_world : (m : Changed) (p : Path) (s : Standing) (w : World) → overlaid (changed m p s) w ≡ put (overlaid m w) p (stands s w)
changed_world m p s w = λ i q. one_more (bytes_eq p q) s (m q) w q i

there_by : (b : Bool) (s : Standing) (o : Option Standing) (w : World) → comes_there s.origin w ≡ true → is_there o w ≡ true → is_there (cond b (Some s) o) w ≡ true
there_by true s o w here all = here
there_by false s o w here all = all

pub there_changed : (m : Changed) (p : Path) (s : Standing) (w : World) → AreThere m w → comes_there s.origin w ≡ true → AreThere (changed m p s) w
there_changed m p s w all here q = there_by (bytes_eq p q) s (m q) w here (all q)

-- what stands at a path, said as a change

held_by : (o : Option Standing) (p : Path) (w : World) → stands (held_of o p) w ≡ shown o w p
held_by None p w = refl
held_by (Some s) p w = refl

pub held_stands : (m : Changed) (p : Path) (w : World) → stands (held_at m p) w ≡ overlaid m w p
held_stands m p w = held_by (m p) p w

held_there_by : (o : Option Standing) (p : Path) (w : World) → is_there o w ≡ true → IsSome (shown o w p) → comes_there (held_of o p).origin w ≡ true
held_there_by None p w all some = some
held_there_by (Some s) p w all some = all

pub held_there : (m : Changed) (p : Path) (w : World) → AreThere m w → IsSome (overlaid m w p) → comes_there (held_at m p).origin w ≡ true
held_there m p w all some = held_there_by (m p) p w (all p) some

-- each step

pub becomes_write : (m : Changed) (p : Path) (n : Node) → Becomes (Write p n) m (changed m p (made n))
becomes_write m p n = record { world = changed_world m p (made n); there = λ w can all. there_changed m p (made n) w all refl }

pub becomes_make_dir : (m : Changed) (p : Path) (a : Access) → Becomes (MakeDir p a) m (changed m p (made (Dir a)))
becomes_make_dir m p a = record { world = changed_world m p (made (Dir a)); there = λ w can all. there_changed m p (made (Dir a)) w all refl }

pub becomes_make_link : (m : Changed) (p t : Path) → Becomes (MakeLink p t) m (changed m p (made (Link t)))
becomes_make_link m p t = record { world = changed_world m p (made (Link t)); there = λ w can all. there_changed m p (made (Link t)) w all refl }

pub becomes_take : (m : Changed) (p : Path) → Becomes (Take p) m (changed m p gone)
becomes_take m p = record { world = changed_world m p gone; there = λ w can all. there_changed m p gone w all refl }

pub becomes_remove_dir : (m : Changed) (p : Path) → Becomes (RemoveDir p) m (changed m p gone)
becomes_remove_dir m p = record { world = changed_world m p gone; there = λ w can all. there_changed m p gone w all refl }

pub becomes_link : (m : Changed) (a b : Path) → Becomes (HardLink a b) m (changed m b (held_at m a))
becomes_link m a b = record {
  world = λ w. changed_world m b (held_at m a) w ∙ ap (put (overlaid m w) b) (held_stands m a w);
  there = λ w can all. there_changed m b (held_at m a) w all (held_there m a w all can.0.0);
}

pub becomes_lower : (m : Changed) (p : Path) → Becomes (Lower p) m (changed m p (lowered_standing (held_at m p)))
becomes_lower m p = record {
  world = λ w. changed_world m p (lowered_standing (held_at m p)) w ∙ ap (put (overlaid m w) p) (lowered_stands (held_at m p) w ∙ ap lowered (held_stands m p w));
  there = λ w can all. there_changed m p (lowered_standing (held_at m p)) w all (held_there m p w all can.0);
}

pub becomes_sync : (m : Changed) (p : Path) → Becomes (Sync p) m m
becomes_sync m p = record { world = λ w. refl; there = λ w can all. all }

pub becomes_barrier : (m : Changed) → Becomes Barrier m m
becomes_barrier m = record { world = λ w. refl; there = λ w can all. all }

pub becomes_sync_all : (m : Changed) → Becomes SyncAll m m
becomes_sync_all m = record { world = λ w. refl; there = λ w can all. all }

pub becomes_sync_root : (m : Changed) → Becomes SyncRoot m m
becomes_sync_root m = record { world = λ w. refl; there = λ w can all. all }

-- a move

-- what stands there was said as a change
pub held_here : (m : Changed) (a : Path) (w : World) → overlaid (changed m a (held_at m a)) w ≡ overlaid m w
held_here m a w = changed_world m a (held_at m a) w ∙ ap (put (overlaid m w) a) (held_stands m a w) ∙ put_here (overlaid m w) a (overlaid m w a) refl

twice_world : (m : Changed) (a b : Path) (w : World) → overlaid (changed (changed m a (held_at m a)) b (held_at m a)) w ≡ put (overlaid m w) b (overlaid m w a)
twice_world m a b w = changed_world (changed m a (held_at m a)) b (held_at m a) w ∙ ap (λ (v : World). put v b (stands (held_at m a) w)) (held_here m a w) ∙ ap (put (overlaid m w) b) (held_stands m a w)

pub stays_held : (m : Changed) (a b : Path) → Stays (Move a b) m (changed m a (held_at m a))
stays_held m a b = record { world = held_here m a; there = λ w can all. there_changed m a (held_at m a) w all (held_there m a w all can.0.0) }

pub becomes_move : (m : Changed) (a b : Path) → a ≢ b → Becomes (Move a b) m (changed (changed (changed m a (held_at m a)) b (held_at m a)) a gone)
becomes_move m a b ne = record {
  world = λ w. changed_world (changed (changed m a (held_at m a)) b (held_at m a)) a gone w ∙ ap (λ (v : World). put v a None) (twice_world m a b w) ∙ put_swap (overlaid m w) b a (overlaid m w a) None (λ e. ne (sym e));
  there = λ w can all. (let here = held_there m a w all can.0.0 in
      there_changed (changed (changed m a (held_at m a)) b (held_at m a)) a gone w (there_changed (changed m a (held_at m a)) b (held_at m a) w (there_changed m a (held_at m a) w all here) here) refl);
}

pub becomes_move_nowhere : (m : Changed) (a b : Path) → a ≡ b → Becomes (Move a b) m (changed (changed m a (held_at m a)) b (held_at m a))
becomes_move_nowhere m a b same = record {
  world = λ w. twice_world m a b w ∙ ap (λ (p : Path). put (overlaid m w) p (overlaid m w a)) (sym same) ∙ sym (put_again (overlaid m w) a None (overlaid m w a)) ∙ ap (λ (p : Path). put (put (overlaid m w) a None) p (overlaid m w a)) same;
  there = λ w can all. (let here = held_there m a w all can.0.0 in there_changed (changed m a (held_at m a)) b (held_at m a) w (there_changed m a (held_at m a) w all here) here);
}

-- along equations

pub stays_same : (s : Step) (m n : Changed) → n ≡ m → Stays s m n
stays_same s m n is = subst (λ (x : Changed). Stays s m x) (sym is) record { world = λ w. refl; there = λ w can all. all }

pub becomes_by : (s : Step) (m n x : Changed) → x ≡ n → Becomes s m n → Becomes s m x
becomes_by s m n x is becomes = subst (λ (y : Changed). Becomes s m y) (sym is) becomes

pub stays_by : (s : Step) (m n x : Changed) → x ≡ n → Stays s m n → Stays s m x
stays_by s m n x is stays = subst (λ (y : Changed). Stays s m y) (sym is) stays

-- what an answer tells

pub ok_so : {A B : Type 0} (r : Result A B) (P Q : Type 0) → (P → Q) → OnOk r P → OnOk r Q
ok_so (Ok x) P Q so p = so p
ok_so (Err e) P Q so p = tt

pub err_so : {A B : Type 0} (r : Result A B) (P Q : Type 0) → (P → Q) → OnErr r P → OnErr r Q
err_so (Ok x) P Q so p = tt
err_so (Err e) P Q so p = so p

pub on_err : {A B : Type 0} (r : Result A B) (P : Type 0) → P → OnErr r P
on_err (Ok x) P p = tt
on_err (Err e) P p = p

pub stays_err : {A B : Type 0} (r : Result A B) (s : Step) (m x : Changed) → OnErr r (x ≡ m) → OnErr r (Stays s m x)
stays_err r s m x err = err_so r (x ≡ m) (Stays s m x) (stays_same s m x) err

pub becomes_ok : {A B : Type 0} (r : Result A B) (d e : DeviceStep) (m n x : Changed) → e ≡ d → OnOk r (x ≡ n) → Becomes (step_of d) m n → OnOk r (Becomes (step_of e) m x)
becomes_ok r d e m n x is ok becomes = subst (λ (t : DeviceStep). OnOk r (Becomes (step_of t) m x)) (sym is) (ok_so r (x ≡ n) (Becomes (step_of d) m x) (λ same. becomes_by (step_of d) m n x same becomes) ok)

-- what stands at a path that was said as a change is one, whatever is changed then
still_by : (b c : Bool) (s t : Standing) (o : Option Standing) → c ≡ true → IsSome (cond b (Some t) (cond c (Some s) o))
still_by true c s t o is = refl
still_by false c s t o is = subst (λ (d : Bool). IsSome (cond d (Some s) o)) (sym is) refl

pub still_changed : (m : Changed) (a b : Path) (s t : Standing) → IsSome (changed (changed m a s) b t a)
still_changed m a b s t = still_by (bytes_eq b a) (bytes_eq a a) s t (m a) ((bytes_eq-Decides a a).1 refl)
