-- Trees that are read one after another.
use Rattle.std.specs.Prelude.{◌≡◌, List, [], ◌∷◌}
use Rattle.dpkg_session.specs.declared.report.Candidate.{Candidate}

-- these were read, one after another
abbrev pub AreRead : {T : Type 0} → (T → Candidate → T → Type 0) → T → List Candidate → T → Type 0
AreRead reads old [] new = new ≡ old
AreRead {T} reads old (c ∷ cs) new = (mid : T) × reads old c mid × AreRead reads mid cs new
