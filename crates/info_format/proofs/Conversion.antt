-- What the steps leave of what dpkg reads.
use Rattle.std.proofs.Common.{◌≡◌, ◌≢◌, ◌⊎◌, inl, inr, IsTrue, Bool, true, false, arith, cond, length, nat_eq, ◌==◌, ◌||◌, ℕ, List, [], ◌∷◌, ◌++◌, Option, Some, None, Result, Ok, Err, refl, sym, ap, subst, ◌∙◌, Contains}
use Rattle.std.specs.Prelude.{IsSome, MatchBool, OnOk}
use Rattle.std.specs.List.{list_any}
use Rattle.std.proofs.lemmas.Cmp.{nat_eq_equiv}
use Rattle.std.proofs.lemmas.Map.Views.{list_any-from_Contains}
use Rattle.std.proofs.lemmas.Bool.{eq-eqb, eqb-true, false≢true, true≢false}
use Rattle.host_core.proofs.Nodes.{none_stands}
use Rattle.host_core.proofs.Paths.{decide}
use Rattle.host_core.proofs.WorldLaws.{put_other, put_same}
use Rattle.host_core.specs.Paths.{Path}
use Rattle.host_core.specs.Unsynced.{is_temporary}
use Rattle.host_core.specs.World.{World, IsDirectory, IsLoose, put}
use Rattle.host_core.specs.declared.node.Node.{Node}
use Rattle.host_core.specs.declared.node.Node.TheVariants.{File, Dir, Link}
use Rattle.host_core.specs.Tree.{IsListing, has_slash}
use Rattle.administration.specs.Directories.{HasBadName}
use Rattle.administration.specs.Files.{NoDirectory}
use Rattle.administration.specs.Places.{info_path}
use Rattle.administration.specs.declared.fault.AdministrationFault.{AdministrationFault}
use Rattle.administration.specs.declared.fault.AdministrationFault.TheVariants.{Damaged, Device, NoMemory, Declined}
use Rattle.info_format.specs.Converting.{IsConverted, IsConverting, IsInWriting, IsLeft, IsNamed, IsNamesDamage, IsUntold, NoMoreAside}
use Rattle.info_format.specs.Format.{AreAlike, AreDoubles, IsClash, IsConvertible, IsFit, IsOther, format_path, is_one, reads, says_one}
use Rattle.file_lists.specs.Info.{entry_path}
use Rattle.info_format.specs.Names.{Architectures, AreTwo, long_front}
use Rattle.info_format.specs.Naming.{ArePairs}
use Rattle.info_format.specs.Steps.{AreAllPairs, AreApart, AreFit, AreGiven, AreGiving, AreTaken, AreTaking, HasFirst, HaveParents, IsAsideAt, IsBringing, IsBrought, IsGivenAt, IsTakenAt, IsUnfitAmong, NoFirst}
use Rattle.info_format.specs.declared.pairs.Pair.{Pair}
use Rattle.administration.proofs.WholeFiles.{no_directory_at}
use Rattle.info_format.proofs.Fits.{alike_is, alike_itself, fit_is, unalike_not, unalike_stand, unfit_not, unfit_stands}
use Rattle.info_format.proofs.Copies.{aside_start, aside_then, no_spare}
use Rattle.info_format.proofs.Two.{long_plain, short_plain, two_apart, two_aside, two_once, two_proper, two_whole}

-- the pairs of one table are apart
pub all_apart : (arches : Architectures) (pairs : List Pair) → ((p : Pair) → Contains pairs p → AreTwo arches p.long p.short) → AreApart pairs
all_apart arches pairs sound = record {
  apart = λ p r has there. two_apart arches p.long p.short r.long r.short (sound p has) (sound r there);
  once = λ p r has there. two_once arches p.long p.short r.long r.short (sound p has) (sound r there);
  proper = λ p has. (two_proper arches p.long p.short (sound p has), two_whole arches p.long p.short (sound p has));
  aside = λ p has. two_aside arches p.long p.short (sound p has);
}

read_one : (w : World) (long short : Path) → is_one w ≡ true → reads w long short ≡ w long
read_one w long short is = ap (λ b. cond b (w long) (w short)) is

read_none : (w : World) (long short : Path) → is_one w ≡ false → reads w long short ≡ w short
read_none w long short is = ap (λ b. cond b (w long) (w short)) is

stands_or_not : (node : Option Node) → (node ≡ None) ⊎ IsSome node
stands_or_not None = inl refl
stands_or_not (Some n) = inr refl

module _ (arches : Architectures) (pairs : List Pair) (old : World) (all : AreAllPairs arches pairs old) where
  -- none of a pair's names is that of another control file

  long_given : (now : World) → AreGiving pairs old now → (long short : Path) → AreTwo arches long short → now long ≡ old long
  long_given now giving long short two = elim (giving long) [
    | inl same ↦ same
    | inr (inl given) ↦ absurd (two_apart arches long short given.0.long given.0.short two (all.sound given.0 given.1) given.2)
    | inr (inr aside) ↦ absurd (no_spare long aside.0.short (two_proper arches long short two) aside.2)
  ]

  format_given : (now : World) → AreGiving pairs old now → now format_path ≡ old format_path
  format_given now giving = elim (giving format_path) [
    | inl same ↦ same
    | inr (inl given) ↦ absurd ((two_aside arches given.0.long given.0.short (all.sound given.0 given.1)).1 (sym given.2))
    | inr (inr aside) ↦ absurd (no_spare format_path aside.0.short refl aside.2)
  ]

  fit_given : (now : World) (long short : Path) → AreGiving pairs old now → AreTwo arches long short → IsFit (old long) (old short) → IsFit (now long) (now short)
  fit_given now long short giving two fit =
      let kept = long_given now giving long short two in
      record {
        loose = subst NoDirectory (sym kept) fit.loose;
        same = λ some. elim (giving short) [
          | inl stays ↦ elim (fit.same (subst IsSome kept some)) [ inl none ↦ inl (stays ∙ none) | inr is ↦ inr (stays ∙ is ∙ sym kept) ]
          | inr (inl given) ↦ inr (given.5 ∙ ap old (sym (two_once arches long short given.0.long given.0.short two (all.sound given.0 given.1) given.2)) ∙ sym kept)
          | inr (inr aside) ↦ absurd (no_spare short aside.0.short (two_whole arches long short two) aside.2)
        ];
      }

  given_named : (now : World) (q : Path) → is_one old ≡ true → IsGivenAt pairs q old now → IsNamed arches q old now
  given_named now q one (p, has, is, loose, none, gives) = (one, (p.long, subst (AreTwo arches p.long) (sym is) (all.sound p has), loose, none, gives))

  aside_written : (now : World) (q : Path) → is_one old ≡ true → IsAsideAt pairs q old now → IsInWriting arches q old now
  aside_written now q one (p, has, is, loose, none, room, spare) = (one, (p.long, p.short, all.sound p has, is, loose, none, room, spare))

  pub giving_converting : (now : World) → is_one old ≡ true → AreGiving pairs old now → IsConverting arches old now
  giving_converting now one giving =
      let format = format_given now giving in
      let still : is_one now ≡ true = ap says_one format ∙ one in
      record {
        same = λ long short two some. read_one now long short still ∙ long_given now giving long short two ∙ sym (read_one old long short one);
        each = λ q. elim (giving q) [
          | inl same ↦ inl same
          | inr (inl given) ↦ inr (inr (inr (inl (given_named now q one given))))
          | inr (inr aside) ↦ inr (inr (inr (inr (aside_written now q one aside))))
        ];
        ready = λ was. record {
          known = λ stands some. still;
          fit = λ is long short two. fit_given now long short giving two (was.fit one long short two);
          alike = λ none. absurd (false≢true (sym (ap says_one none) ∙ still));
        };
      }

  -- in the end each has its second name

  given_at : (mid : World) (long short : Path) → AreFit true pairs old → AreGiven pairs old mid → AreTwo arches long short → IsSome (old long) → mid short ≡ old long
  given_at mid long short fit given two some = elim (given.giving short) [
    | inl stays ↦ by_fit (all.whole long short two (inl some)) stays
    | inr (inl is) ↦ is.5 ∙ ap old (sym (two_once arches long short is.0.long is.0.short two (all.sound is.0 is.1) is.2))
    | inr (inr aside) ↦ absurd (no_spare short aside.0.short (two_whole arches long short two) aside.2)
  ]
    where
      by_fit : Contains pairs (record { long = long; short = short }) → mid short ≡ old short → mid short ≡ old long
      by_fit has stays =
          let is = fit_is (old long) (old short) (fit (record { long = long; short = short }) has) in
          elim (is.same some) [
            | inl empty ↦ absurd (none_stands (mid short) (stays ∙ empty) (given.all (record { long = long; short = short }) has (some, is.loose)))
            | inr same ↦ stays ∙ same
          ]

  short_taken : (v now : World) (long short : Path) → AreTaking pairs v now → AreTwo arches long short → now short ≡ v short
  short_taken v now long short taking two = elim (taking short) [ inl same ↦ same | inr taken ↦ absurd (two_apart arches taken.0.long taken.0.short long short (all.sound taken.0 taken.1) two (sym taken.2)) ]

  format_taken : (v now : World) → AreTaking pairs v now → now format_path ≡ v format_path
  format_taken v now taking = elim (taking format_path) [ inl same ↦ same | inr taken ↦ absurd ((two_aside arches taken.0.long taken.0.short (all.sound taken.0 taken.1)).0 (sym taken.2)) ]

  aside_taken : (v now : World) → AreTaking pairs v now → NoMoreAside v now
  aside_taken v now taking q t = elim (taking q) [ inl same ↦ inl same | inr taken ↦ inr taken.5 ]

  aside_left : (v : World) → NoMoreAside v (put v format_path None)
  aside_left v q t = inl (put_other v format_path q None (λ e. true≢false (sym t ∙ ap is_temporary e)))

  -- what stands at both names is alike: so it is behind the steps
  abbrev AreBeside : World → Type 0
  AreBeside v = (long short : Path) → AreTwo arches long short → IsSome (v long) → IsSome (v short) → (v long ≡ old long) × AreAlike (old long) (v short)

  still_beside : (v now : World) → AreTaking pairs v now → AreBeside v → AreDoubles arches now
  still_beside v now taking beside long short two some there =
      let second = short_taken v now long short taking two in
      elim (taking long) [
        | inl same ↦
            let both = beside long short two (subst IsSome same some) (subst IsSome second there) in
            subst (λ (n : Option Node). AreAlike n (now short)) (sym (same ∙ both.0)) (subst (AreAlike (old long)) (sym second) both.1)
        | inr taken ↦ absurd (none_stands (now long) taken.5 some)
      ]

  plain_ready : (now : World) → now format_path ≡ None → AreDoubles arches now → IsConvertible arches now
  plain_ready now none beside = record {
    known = λ stands some. absurd (none_stands (now format_path) none some);
    fit = λ is. absurd (false≢true (sym (ap says_one none) ∙ is));
    alike = λ told. beside;
  }

  -- in format 0 by the look at them
  short_beside : AreFit false pairs old → AreBeside old
  short_beside fit long short two some there = (refl, alike_is (old long) (old short) (fit (record { long = long; short = short }) (all.whole long short two (inl some))) some there)

  -- from format 1 as each has its second name
  long_beside : (mid : World) → AreFit true pairs old → AreGiven pairs old mid → AreBeside (put mid format_path None)
  long_beside mid fit given long short two some there =
      let apart = two_aside arches long short two in
      let kept : put mid format_path None long ≡ old long = put_other mid format_path long None apart.0 ∙ long_given mid given.giving long short two in
      let stood : IsSome (old long) = subst IsSome kept some in
      let loose = (fit_is (old long) (old short) (fit (record { long = long; short = short }) (all.whole long short two (inl stood)))).loose in
      (kept, subst (AreAlike (old long)) (sym (put_other mid format_path short None apart.1 ∙ given_at mid long short fit given two stood)) (alike_itself (old long) (stood, loose)))

  -- a first name that went
  taken_left : (v now : World) (q : Path) → AreTaking pairs v now → AreBeside v → IsTakenAt pairs q v now → IsLeft arches q old now
  taken_left v now q taking beside (p, has, is, second, first, none) =
      let two = all.sound p has in
      let both = beside p.long p.short two first.0 second.0 in (
        p.short,
        subst (λ (x : Path). AreTwo arches x p.short) (sym is) two,
        subst (λ (x : Path). AreAlike (old x) (now p.short)) (sym is) (subst (AreAlike (old p.long)) (sym (short_taken v now p.long p.short taking two)) both.1),
        none,
      )

  taken_each : (mid now : World) (q : Path) → is_one old ≡ true → AreFit true pairs old → AreGiven pairs old mid → AreTaking pairs (put mid format_path None) now → (now q ≡ old q) ⊎ (IsUntold q old now ⊎ (IsLeft arches q old now ⊎ (IsNamed arches q old now ⊎ IsInWriting arches q old now)))
  taken_each mid now q one fit given taking = elim (taking q) [
    | inl same ↦ elim (decide q format_path) [
      | inl is ↦ inr (inl (is, one, same ∙ put_same mid format_path q None is))
      | inr other ↦ given_each (same ∙ put_other mid format_path q None other) (given.giving q)
    ]
    | inr taken ↦ inr (inr (inl (taken_left (put mid format_path None) now q taking (long_beside mid fit given) taken)))
  ]
    where
      given_each : now q ≡ mid q → (mid q ≡ old q) ⊎ (IsGivenAt pairs q old mid ⊎ IsAsideAt pairs q old mid) → (now q ≡ old q) ⊎ (IsUntold q old now ⊎ (IsLeft arches q old now ⊎ (IsNamed arches q old now ⊎ IsInWriting arches q old now)))
      given_each kept (inl stays) = inl (kept ∙ stays)
      given_each kept (inr (inl (p, has, is, loose, none, gives))) = inr (inr (inr (inl (given_named now q one (p, has, is, loose, none, kept ∙ gives)))))
      given_each kept (inr (inr (p, has, is, loose, none, room, spare))) = inr (inr (inr (inr (aside_written now q one (p, has, is, loose, none, room, no_directory_at (now q) (mid q) kept spare)))))

  pub taking_converting : (mid now : World) → is_one old ≡ true → AreFit true pairs old → AreGiven pairs old mid → AreTaking pairs (put mid format_path None) now → IsConverting arches old now
  taking_converting mid now one fit given taking =
      let v = put mid format_path None in
      let none : now format_path ≡ None = format_taken v now taking ∙ put_same mid format_path format_path None refl in
      record {
        same = λ long short two some.
            read_none now long short (ap says_one none) ∙ short_taken v now long short taking two ∙ put_other mid format_path short None (two_aside arches long short two).1
            ∙ given_at mid long short fit given two (subst IsSome (read_one old long short one) some) ∙ sym (read_one old long short one);
        each = λ q. taken_each mid now q one fit given taking;
        ready = λ was. plain_ready now none (still_beside v now taking (long_beside mid fit given));
      }

  pub bringing_converting : (now : World) → is_one old ≡ true → AreFit true pairs old → IsBringing pairs old now → IsConverting arches old now
  bringing_converting now one fit (IsBringing.giving giving) = giving_converting now one giving
  bringing_converting now one fit (IsBringing.taking mid given taking) = taking_converting mid now one fit given taking

  pub clearing_converting : (now : World) → old format_path ≡ None → AreFit false pairs old → AreTaking pairs old now → IsConverting arches old now
  clearing_converting now none fit taking =
      let gone : now format_path ≡ None = format_taken old now taking ∙ none in
      record {
        same = λ long short two some. read_none now long short (ap says_one gone) ∙ short_taken old now long short taking two ∙ sym (read_none old long short (ap says_one none));
        each = λ q. elim (taking q) [ inl same ↦ inl same | inr taken ↦ inr (inr (inl (taken_left old now q taking (short_beside fit) taken))) ];
        ready = λ was. plain_ready now gone (still_beside old now taking (short_beside fit));
      }

  -- the end

  pub cleared : (new : World) → old format_path ≡ None → AreFit false pairs old → AreTaken pairs old new → IsConverted arches old new
  cleared new none fit taken = record {
    converting = clearing_converting new none fit taken.taking;
    aside = aside_taken old new taken.taking;
    plain = ap says_one (format_taken old new taken.taking ∙ none);
    known = λ told stands. none_stands (new format_path) (format_taken old new taken.taking ∙ none) told;
    gone = λ long short two there stands.
        let second : IsLoose (old short) = subst IsLoose (short_taken old new long short taken.taking two) there in
        taken.all (record { long = long; short = short }) (all.whole long short two (inr second.0)) second stands;
  }

  long_before : (mid new : World) (long short : Path) → AreGiving pairs old mid → AreTaking pairs (put mid format_path None) new → AreTwo arches long short → IsSome (new long) → IsSome (old long)
  long_before mid new long short giving taking two some = elim (taking long) [
    | inl same ↦ subst IsSome (same ∙ put_other mid format_path long None (two_aside arches long short two).0 ∙ long_given mid giving long short two) some
    | inr taken ↦ absurd (none_stands (new long) taken.5 some)
  ]

  pub brought : (new : World) → is_one old ≡ true → AreFit true pairs old → IsBrought pairs old new → IsConverted arches old new
  brought new one fit (mid, given, taken) = record {
    converting = taking_converting mid new one fit given taken.taking;
    aside = aside_then old mid new given.aside (aside_then mid (put mid format_path None) new (aside_left mid) (aside_taken (put mid format_path None) new taken.taking));
    plain = ap says_one (format_taken (put mid format_path None) new taken.taking ∙ put_same mid format_path format_path None refl);
    known = λ told stands. none_stands (new format_path) (format_taken (put mid format_path None) new taken.taking ∙ put_same mid format_path format_path None refl) told;
    gone = λ long short two there stands. taken.all (record { long = long; short = short }) (all.whole long short two (inl (long_before mid new long short given.giving taken.taking two stands.0)))
        (subst IsLoose (short_taken (put mid format_path None) new long short taken.taking two) there) stands;
  }

  pub clash : (fault : AdministrationFault) → is_one old ≡ true → IsUnfitAmong true old pairs fault → IsNamesDamage arches old fault
  clash (Damaged file line) one (p, has, (zero, unfit, is)) =
      let names : IsClash arches old file = (
        one,
        (
          p.short,
          subst (λ (x : Path). AreTwo arches x p.short) (sym is) (all.sound p has),
          subst (λ (x : Path). IsSome (old x)) (sym is) (unfit_stands (old p.long) (old p.short) unfit),
          subst (λ (x : Path). IsFit (old x) (old p.short) → ⊥) (sym is) (unfit_not (old p.long) (old p.short) unfit),
        ),
      ) in
      (zero, inr (inl names))
  clash Device one is = tt
  clash NoMemory one is = tt
  clash Declined one is = tt

  pub other_beside : (fault : AdministrationFault) → old format_path ≡ None → IsUnfitAmong false old pairs fault → IsNamesDamage arches old fault
  other_beside (Damaged file line) none (p, has, (zero, unlike, is)) =
      let both = unalike_stand (old p.long) (old p.short) unlike in
      let names : IsOther arches old file = (
        none,
        (
          p.short,
          subst (λ (x : Path). AreTwo arches x p.short) (sym is) (all.sound p has),
          subst (λ (x : Path). IsSome (old x)) (sym is) both.0,
          both.1,
          subst (λ (x : Path). AreAlike (old x) (old p.short) → ⊥) (sym is) (unalike_not (old p.long) (old p.short) unlike),
        ),
      ) in
      (zero, inr (inr names))
  other_beside Device none is = tt
  other_beside NoMemory none is = tt
  other_beside Declined none is = tt

-- where nothing was done

pub converting_start : (arches : Architectures) (w : World) → IsConverting arches w w
converting_start arches w = record { same = λ long short two some. refl; each = λ q. inl refl; ready = λ is. is }

pub one_loose : (w : World) → is_one w ≡ true → IsLoose (w format_path)
one_loose w is = loose_file (w format_path) is
  where
    loose_file : (node : Option Node) → says_one node ≡ true → IsLoose node
    loose_file None one = absurd (false≢true one)
    loose_file (Some (File bytes access)) one = (refl, λ d. absurd (let e : Some (File bytes access) ≡ Some (Dir d.0) = d.1 in cc))
    loose_file (Some (Dir access)) one = absurd (false≢true one)
    loose_file (Some (Link target)) one = absurd (false≢true one)

-- where no name has the architecture

no_long : (arches : Architectures) (pairs : List Pair) (w : World) → AreAllPairs arches pairs w → NoFirst pairs w → (long short : Path) → AreTwo arches long short → IsSome (w long) → ⊥
no_long arches pairs w all none long short two some = none_stands (w long) (none (record { long = long; short = short }) (all.whole long short two (inl some))) some

nothing_done : (arches : Architectures) (pairs : List Pair) (w : World) → AreAllPairs arches pairs w → NoFirst pairs w → is_one w ≡ false → IsConverted arches w w
nothing_done arches pairs w all none plain = record {
  converting = converting_start arches w;
  aside = aside_start w;
  plain = plain;
  known = λ told stands. no_long arches pairs w all none stands.0 stands.1 stands.2 stands.3;
  gone = λ long short two there stands. no_long arches pairs w all none long short two stands.0;
}

pub none_to_clear : (arches : Architectures) (pairs : List Pair) (any : Bool) (w : World) → any ≡ false → MatchBool any (HasFirst pairs w) (NoFirst pairs w) → AreAllPairs arches pairs w → is_one w ≡ false → IsConverted arches w w
none_to_clear arches pairs true w is told all plain = absurd (true≢false is)
none_to_clear arches pairs false w is none all plain = nothing_done arches pairs w all none plain

pub odd_damage : (arches : Architectures) (pairs : List Pair) (any : Bool) (w : World) (file : Path) → any ≡ true → MatchBool any (HasFirst pairs w) (NoFirst pairs w) → AreAllPairs arches pairs w → file ≡ format_path → IsSome (w format_path) → is_one w ≡ false → IsNamesDamage arches w (Damaged file 0)
odd_damage arches pairs true w file is (p, has, some) all at told odd = (refl, inl (at, told, odd, (p.long, p.short, all.sound p has, some)))
odd_damage arches pairs false w file is none all at told odd = absurd (false≢true is)

-- of an answer

pub on_ok_by : {T E : Type 0} (result : Result T E) (P Q : Type 0) → (P → Q) → OnOk result P → OnOk result Q
on_ok_by (Ok x) P Q so is = so is
on_ok_by (Err e) P Q so is = tt

-- the pairs of the entries that a listing has

pub entry_there : (w : World) (names : List Path) (bad : Bool) → bad ≡ false → IsListing w info_path names bad → (entry : Path) → has_slash entry ≡ false → IsSome (w (entry_path entry)) → Contains names entry
entry_there w names bad good listing entry plain some = elim (listing.whole entry plain some) [ inl has ↦ has | inr odd ↦ absurd (true≢false (sym odd.1 ∙ good)) ]

pub pairs_all : (arches : Architectures) (w : World) (names : List Path) (bad : Bool) (pairs : List Pair) → bad ≡ false → IsListing w info_path names bad → ArePairs arches names pairs → AreAllPairs arches pairs w
pairs_all arches w names bad pairs good listing are = record {
  sound = are.sound;
  whole = λ long short two stands. elim stands [
    | inl some ↦
        let entry = long_front two.name two.architecture ++ 46 ∷ two.ending in
        are.whole long short two entry (entry_there w names bad good listing entry (long_plain arches long short two) (subst (λ (q : Path). IsSome (w q)) two.long_is some)) (inl (sym two.long_is))
    | inr some ↦
        let entry = two.name ++ 46 ∷ two.ending in
        are.whole long short two entry (entry_there w names bad good listing entry (short_plain arches long short two) (subst (λ (q : Path). IsSome (w q)) two.short_is some)) (inr (sym two.short_is))
  ];
}

pub pairs_parents : (arches : Architectures) (w : World) (pairs : List Pair) → ((p : Pair) → Contains pairs p → AreTwo arches p.long p.short) → IsDirectory (w info_path) → HaveParents pairs w
pairs_parents arches w pairs sound there p has =
    let two = sound p has in
    (info_path, two.name ++ 46 ∷ two.ending, two.short_is, (λ slash. true≢false (sym (list_any-from_Contains nat_eq_equiv 47 (two.name ++ 46 ∷ two.ending) slash) ∙ any_flip 47 (two.name ++ 46 ∷ two.ending) ∙ short_plain arches p.long p.short two)), there)
  where
    flip_at : (b s : ℕ) (x y : Bool) → nat_eq s b ≡ x → nat_eq b s ≡ y → x ≡ y
    flip_at b s true true e f = refl
    flip_at b s false false e f = refl
    flip_at b s true false e f = absurd (true≢false (sym (eq-eqb b s (sym (eqb-true s b e))) ∙ f))
    flip_at b s false true e f = absurd (false≢true (sym e ∙ eq-eqb s b (sym (eqb-true b s f))))

    any_flip : (s : ℕ) (l : Path) → list_any (nat_eq s) l ≡ list_any (λ b. nat_eq b s) l
    any_flip s [] = refl
    any_flip s (b ∷ bs) = ap (λ t. t || list_any (nat_eq s) bs) (flip_at b s (nat_eq s b) (nat_eq b s) refl refl) ∙ ap (λ t. nat_eq b s || t) (any_flip s bs)

pub odd_at : (w v : World) (file : Path) → file ≡ format_path → v ≡ w → IsSome (w file) → says_one (w file) ≡ false → IsSome (v format_path) × (is_one v ≡ false)
odd_at w v file at same some odd = (subst (λ (u : World). IsSome (u format_path)) (sym same) (subst (λ (p : Path). IsSome (w p)) at some), ap is_one same ∙ ap (λ (p : Path). says_one (w p)) (sym at) ∙ odd)

pub bad_at : (w : World) (names : List Path) (bad : Bool) → bad ≡ true → IsListing w info_path names bad → HasBadName w info_path
bad_at w names bad is listing = (let faulty = listing.faulty is in (faulty.0, faulty.1, faulty.2, faulty.3))

-- what is convertible is refused for no name
pub no_names_damage : (arches : Architectures) (w : World) (file : Path) (line : ℕ) → IsConvertible arches w → IsNamesDamage arches w (Damaged file line) → ⊥
no_names_damage arches w file line can (zero, inl (at, told, odd, stands)) = true≢false (sym (can.known stands told) ∙ odd)
no_names_damage arches w file line can (zero, inr (inl (one, (short, two, some, unfit)))) = unfit (can.fit one file short two)
no_names_damage arches w file line can (zero, inr (inr (none, (short, two, some, there, unlike)))) = unlike (can.alike none file short two some there)
