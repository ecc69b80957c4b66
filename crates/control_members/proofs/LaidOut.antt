-- What laying out the control files of the incoming tree leaves.
use Rattle.std.proofs.Common.{◌≡◌, ◌⊎◌, inl, inr, Bool, true, false, List, [], ◌∷◌, ◌++◌, IsTrue, Some, None, refl, sym, ap, subst, ◌∙◌, codes, is_some, drop}
use Rattle.std.specs.Prelude.{IsSome, MatchBool}
use Rattle.std.proofs.lemmas.Bool.{true≢false}
use Rattle.host_core.proofs.Nodes.{none_stands, some_or_none}
use Rattle.host_core.proofs.Paths.{decide}
use Rattle.host_core.specs.Paths.{Path}
use Rattle.host_core.specs.World.{World, IsDirectory, IsLoose, IsBare, KeepsBut, HasParent}
use Rattle.host_core.specs.Tree.{IsTree}
use Rattle.host_core.specs.Host.{State, Since}
use Rattle.host_core.proofs.Moments.{since_then, since_weaker_if, since_now}
use Rattle.administration.specs.Places.{tmp_path, home_path, temporary, is_within}
use Rattle.administration.specs.Files.{NoDirectory, IsReplaced, IsReplacing}
use Rattle.administration.specs.Directories.{IsMade, IsMaking, IsTaking, IsFlat}
use Rattle.administration.proofs.WholeFiles.{no_directory_none, no_directory_at}
use Rattle.administration.proofs.Within.{below_within, directory_within, outside_differs, directory_differs}
use Rattle.control_members.specs.Names.{is_member_name}
use Rattle.control_members.specs.Members.{names_of, member_of, node_of, member_node}
use Rattle.control_members.specs.LaidOut.{laid_path, AreLaidOut, IsIncoming, IsLaying}
use Rattle.control_members.specs.declared.member.Member.{Member}
use Rattle.control_members.proofs.MemberNames.{member_plain, laid_is_path, plain-append}
use Rattle.control_members.proofs.Apart.{same_laid, spare_is_no_name}
use Rattle.control_members.proofs.Lookup.{pushed_here, pushed_other, found_named, found_listed, listed_named, none_unnamed, member_loose, loose_at}
use Rattle.control_members.proofs.Starting.{since_here, no_slash}

keeps_then : (area : Path → Bool) (u v w : World) → KeepsBut area u v → KeepsBut area v w → KeepsBut area u w
keeps_then area u v w first second q out = second q out ∙ first q out

making_within : (w now : World) → IsMaking tmp_path w now → KeepsBut (is_within tmp_path) w now
making_within w now is q out = is.rest q (outside_differs tmp_path tmp_path q (directory_within tmp_path) out)

pub made_absent : (p q : Path) (w now : World) (there : Bool) → p ≡ q → w q ≡ None → MatchBool there (IsMade p w now) (IsLoose (w p)) → IsMade q w now
made_absent p q w now true e none is = subst (λ x. IsMade x w now) e is
made_absent p q w now false e none is = absurd (true≢false (sym is.0 ∙ ap is_some (ap w e ∙ none)))

laid_within : (name : Path) → is_within tmp_path (laid_path name) ≡ true
laid_within name = below_within tmp_path name

spare_within : (name : Path) → is_within tmp_path (temporary (laid_path name)) ≡ true
spare_within name = below_within tmp_path (name ++ codes ".dpkg-inst")

pub laid_parent : (w : World) (name : Path) → is_member_name name ≡ true → IsDirectory (w tmp_path) → HasParent w (laid_path name)
laid_parent w name member there = (tmp_path, name, refl, no_slash name (member_plain name member), there)

pub home_parent : (w : World) → IsDirectory (w home_path) → HasParent w tmp_path
home_parent w there = (home_path, codes "tmp.ci", refl, no_slash (codes "tmp.ci") refl, there)

-- one more

pub laid_start : (w : World) → IsDirectory (w tmp_path) → IsBare w tmp_path → AreLaidOut [] w
laid_start w there bare = record { there = there; files = λ name plain. bare name }

pub laid_more : (ms : List Member) (m : Member) (w v : World) → member_of ms m.name ≡ None → AreLaidOut ms w → IsReplaced (laid_path m.name) m.node w v → AreLaidOut (ms ++ m ∷ []) v
laid_more ms m w v none laid replaced = record {
  there = subst IsDirectory (sym (replaced.rest tmp_path (directory_differs tmp_path m.name) (directory_differs tmp_path (m.name ++ codes ".dpkg-inst")))) laid.there;
  files = λ name plain. elim (decide m.name name) [
    | inl e ↦ subst (λ n. v (laid_path n) ≡ member_node (ms ++ m ∷ []) n) e (replaced.target ∙ sym (ap node_of (pushed_here ms m none)))
    | inr ne ↦ elim (decide (laid_path name) (temporary (laid_path m.name))) [
      | inl e ↦ ap v e ∙ replaced.spare ∙ sym (none_unnamed (ms ++ m ∷ []) name (λ member. spare_is_no_name m.name (subst (λ n. is_member_name n ≡ true) (ap (drop 21) e) member)))
      | inr apart ↦ replaced.rest (laid_path name) (λ e. ne (sym (same_laid name m.name e))) apart ∙ laid.files name plain ∙ sym (ap node_of (pushed_other ms m name ne))
    ]
  ];
}

absent_bare : (w : World) → IsTree w → w tmp_path ≡ None → IsBare w tmp_path
absent_bare w tree none rest = elim (some_or_none (w (tmp_path ++ 47 ∷ rest))) [ inl e ↦ e | inr some ↦ absurd (no_directory_none (subst IsDirectory none (tree tmp_path rest some))) ]

pub made_bare : (w v : World) → IsTree w → w tmp_path ≡ None → IsMade tmp_path w v → IsBare v tmp_path
made_bare w v tree none made rest = made.rest (tmp_path ++ 47 ∷ rest) (λ e. directory_differs tmp_path rest (sym e)) ∙ absent_bare w tree none rest

-- nothing but these names stands there
pub laid_flat : (ms : List Member) (w : World) → AreLaidOut ms w → IsFlat w tmp_path (names_of ms)
laid_flat ms w laid = record {
  plain = λ name has. member_plain name (listed_named ms name has);
  fits = λ name has. laid_is_path name (listed_named ms name has);
  loose = λ name has. no_directory_at (w (laid_path name)) (member_node ms name) (laid.files name (member_plain name (listed_named ms name has))) (loose_at ms name);
  whole = λ name plain there. found_listed ms name (subst IsSome (laid.files name plain) there);
}

-- at each moment nothing is in the way of the next opening

incoming_less : (w v : World) → ((q : Path) → (v q ≡ w q) ⊎ (v q ≡ None)) → IsIncoming w → IsIncoming v
incoming_less w v less is = record {
  place = λ loose. elim (less tmp_path) [ inl e ↦ is.place (subst IsLoose e loose) | inr e ↦ none_stands (v tmp_path) e loose.0 ];
  named = λ name plain there. elim (less (tmp_path ++ 47 ∷ name)) [ inl e ↦ is.named name plain (subst IsSome e there) | inr e ↦ absurd (none_stands (v (tmp_path ++ 47 ∷ name)) e there) ];
  loose = λ name plain. elim (less (tmp_path ++ 47 ∷ name)) [
    | inl e ↦ no_directory_at (v (tmp_path ++ 47 ∷ name)) (w (tmp_path ++ 47 ∷ name)) e (is.loose name plain)
    | inr e ↦ no_directory_at (v (tmp_path ++ 47 ∷ name)) None e no_directory_none
  ];
}

pub incoming_bare : (w : World) → (IsLoose (w tmp_path) → ⊥) → IsBare w tmp_path → IsIncoming w
incoming_bare w place bare = record {
  place = place;
  named = λ name plain there. absurd (none_stands (w (tmp_path ++ 47 ∷ name)) (bare name) there);
  loose = λ name plain. no_directory_at (w (tmp_path ++ 47 ∷ name)) None (bare name) no_directory_none;
}

pub incoming_absent : (w : World) → IsTree w → w tmp_path ≡ None → IsIncoming w
incoming_absent w tree none = incoming_bare w (λ loose. none_stands (w tmp_path) none loose.0) (absent_bare w tree none)

pub laid_incoming : (ms : List Member) (w : World) → AreLaidOut ms w → IsIncoming w
laid_incoming ms w laid = record {
  place = λ loose. loose.1 laid.there;
  named = λ name plain there. (name, found_named ms name (subst IsSome (laid.files name plain) there), inl refl);
  loose = λ name plain. no_directory_at (w (laid_path name)) (member_node ms name) (laid.files name plain) (loose_at ms name);
}

laying_start : (w : World) → IsIncoming w → IsLaying w w
laying_start w is = record { incoming = is; rest = λ q out. refl }

-- nothing has been done
pub laying_same : (a : State) → (IsTrue a.honest → IsIncoming a.world) → Since (λ so_far. IsLaying a.world) a a
laying_same a is = since_here (λ so_far. IsLaying a.world) a (λ h. laying_start a.world (is h))

pub laying_making : (w now : World) → IsTree w → w tmp_path ≡ None → IsMaking tmp_path w now → IsLaying w now
laying_making w now tree none is = record {
  incoming = incoming_bare now (λ loose. elim is.target [ inl e ↦ none_stands (now tmp_path) (e ∙ none) loose.0 | inr made ↦ loose.1 made.1 ])
      (λ rest. is.rest (tmp_path ++ 47 ∷ rest) (λ e. directory_differs tmp_path rest (sym e)) ∙ absent_bare w tree none rest);
  rest = making_within w now is;
}

pub laying_replacing : (m : Member) (w now : World) → IsIncoming w → IsReplacing (laid_path m.name) m.node w now → IsLaying w now
laying_replacing m w now is replacing = record {
  incoming = record {
    place = λ loose. is.place (subst IsLoose (replacing.rest tmp_path (directory_differs tmp_path m.name) (directory_differs tmp_path (m.name ++ codes ".dpkg-inst"))) loose);
    named = λ name plain there. elim (decide (laid_path name) (laid_path m.name)) [
      | inl e ↦ (m.name, m.named, inl (same_laid name m.name e))
      | inr ne ↦ elim (decide (laid_path name) (temporary (laid_path m.name))) [
        | inl e ↦ (m.name, m.named, inr (ap (drop 21) e))
        | inr apart ↦ is.named name plain (subst IsSome (replacing.rest (laid_path name) ne apart) there)
      ]
    ];
    loose = λ name plain. elim (decide (laid_path name) (laid_path m.name)) [
      | inl e ↦ elim replacing.target [
        | inl same ↦ no_directory_at (now (laid_path name)) (w (laid_path name)) (ap now e ∙ same ∙ ap w (sym e)) (is.loose name plain)
        | inr whole ↦ no_directory_at (now (laid_path name)) (Some m.node) (ap now e ∙ whole) (member_loose m)
      ]
      | inr ne ↦ elim (decide (laid_path name) (temporary (laid_path m.name))) [
        | inl e ↦ no_directory_at (now (laid_path name)) (now (temporary (laid_path m.name))) (ap now e) replacing.spare
        | inr apart ↦ no_directory_at (now (laid_path name)) (w (laid_path name)) (replacing.rest (laid_path name) ne apart) (is.loose name plain)
      ]
    ];
  };
  rest = λ q out. replacing.rest q (outside_differs tmp_path (laid_path m.name) q (laid_within m.name) out) (outside_differs tmp_path (temporary (laid_path m.name)) q (spare_within m.name) out);
}

pub laying_taking : (w now : World) → IsIncoming w → IsTaking tmp_path w now → IsLaying w now
laying_taking w now incoming is = record { incoming = incoming_less w now is.less incoming; rest = is.rest }

pub since_laying : (s a b : State) → Since (λ so_far. IsLaying s.world) s a → Since (λ so_far. IsLaying a.world) a b → Since (λ so_far. IsLaying s.world) s b
since_laying s a b first second = since_then _ s a b first
    (since_weaker_if _ _ a b (λ h so_far w is. record { incoming = is.incoming; rest = keeps_then (is_within tmp_path) s.world a.world w (since_now _ s a first (second.honest h)).rest is.rest }) second)

-- `tmp.ci` stands through the writing of one, and no directory is in the way of the next

pub incoming_flat : (w : World) (name : Path) → is_member_name name ≡ true → IsIncoming w → NoDirectory (w (laid_path name)) × NoDirectory (w (temporary (laid_path name)))
incoming_flat w name member is = (is.loose name (member_plain name member), is.loose (name ++ codes ".dpkg-inst") (plain-append name (codes ".dpkg-inst") (member_plain name member) refl))

-- what is done elsewhere leaves it so

pub laid_elsewhere : (ms : List Member) (w v : World) → ((q : Path) → is_within tmp_path q ≡ true → v q ≡ w q) → AreLaidOut ms w → AreLaidOut ms v
laid_elsewhere ms w v keeps laid = record {
  there = subst IsDirectory (sym (keeps tmp_path (directory_within tmp_path))) laid.there;
  files = λ name plain. keeps (laid_path name) (laid_within name) ∙ laid.files name plain;
}

pub incoming_elsewhere : (w v : World) → ((q : Path) → is_within tmp_path q ≡ true → v q ≡ w q) → IsIncoming w → IsIncoming v
incoming_elsewhere w v keeps is = record {
  place = λ loose. is.place (subst IsLoose (keeps tmp_path (directory_within tmp_path)) loose);
  named = λ name plain there. is.named name plain (subst IsSome (keeps (laid_path name) (laid_within name)) there);
  loose = λ name plain. no_directory_at (v (laid_path name)) (w (laid_path name)) (keeps (laid_path name) (laid_within name)) (is.loose name plain);
}
