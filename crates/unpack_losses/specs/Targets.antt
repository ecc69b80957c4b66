-- What a loss of power leaves at the target of a shipped path: never a part (Policy 6.6).
use Rattle.std.specs.Prelude.{◌≡◌, None}
use Rattle.host_core.specs.World.{World}
use Rattle.host_core.specs.declared.node.Access.{Access}
use Rattle.host_core.specs.declared.node.Node.TheVariants.{Dir}
use Rattle.package_files.specs.Files.{IsShown}
use Rattle.package_files.specs.declared.work.Work.{Work}

-- what stood there when the unpack began, or the shipped node; nothing stands there only while a directory takes the place of what
-- is then at the backup
pub data IsTargetLeft (x : Work) (old left : World) : Type 0 where
  stood : left x.target ≡ old x.target → IsTargetLeft x old left
  shown : IsShown x.node (left x.target) → IsTargetLeft x old left
  between : (access : Access) → x.node ≡ Dir access → left x.target ≡ None → left x.backup ≡ old x.target → IsTargetLeft x old left
