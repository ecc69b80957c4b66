-- Where names stand as before they are read as before.
use Rattle.std.proofs.Common.{◌≡◌, inl, inr, None, sym, subst, Option}
use Rattle.std.specs.Prelude.{IsSome}
use Rattle.host_core.specs.Paths.{Path}
use Rattle.host_core.specs.World.{World}
use Rattle.host_core.specs.declared.node.Node.{Node}
use Rattle.info_format.specs.Format.{AreAlike, AreDoubles, format_path}
use Rattle.info_format.specs.Names.{Architectures, AreTwo}
use Rattle.info_format.specs.Stage.{AreReadShort, HaveShortNames}

-- what stands at a name with the architecture stood there before, or at one without
abbrev pub LongStood : World → World → Type 0
LongStood u v = (arches : Architectures) (long short : Path) → AreTwo arches long short → IsSome (v long) → v long ≡ u long

abbrev pub ShortStood : World → World → Type 0
ShortStood u v = (arches : Architectures) (long short : Path) → AreTwo arches long short → IsSome (v short) → v short ≡ u short

pub doubles_by : (u v : World) → LongStood u v → ShortStood u v → (arches : Architectures) → AreDoubles arches u → AreDoubles arches v
doubles_by u v first second arches doubles long short two some there =
    let a = first arches long short two some in
    let b = second arches long short two there in
    subst (λ (n : Option Node). AreAlike n (v short)) (sym a) (subst (AreAlike (u long)) (sym b) (doubles long short two (subst IsSome a some) (subst IsSome b there)))

pub names_by : (u v : World) → LongStood u v → HaveShortNames u → HaveShortNames v
names_by u v first short arches (long, other, two, some) = short arches (long, other, two, subst IsSome (first arches long other two some) some)

pub read_by : (u v : World) → LongStood u v → ShortStood u v → (u format_path ≡ None → v format_path ≡ None) → AreReadShort u → AreReadShort v
read_by u v first second format (inl short) = inl (names_by u v first short)
read_by u v first second format (inr (none, doubles)) = inr (format none, λ arches. doubles_by u v first second arches (doubles arches))
