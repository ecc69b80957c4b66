-- What of the shipped is a conffile is a file.
use Rattle.std.proofs.Common.{◌≡◌, true, false, List, [], ◌∷◌, sym, ap, ◌∙◌}
use Rattle.std.specs.Prelude.{Contains}
use Rattle.std.proofs.Props.{props}
use Rattle.std.proofs.Math.Logic.{∥∥₁_elim}
use Rattle.std.proofs.lemmas.Bool.{false≢true, false_from_ne_true}
use Rattle.host_core.specs.Paths.{Path}
use Rattle.host_core.specs.World.{IsFile, is_file}
use Rattle.host_core.specs.declared.node.Node.{Node}
use Rattle.file_check.specs.Ships.{is_conffile, FitsConffiles}
use Rattle.file_lists.proofs.Entries.{any_contains}
use Rattle.package_tree.specs.Package.{AreFitting}
use Rattle.package_tree.specs.ShipMap.{paths_of}
use Rattle.package_tree.specs.Shipped.{AreInOrder}
use Rattle.package_tree.specs.declared.shipped.Shipped.{Shipped}
use Rattle.package_tree.proofs.Ordered.{in_first, in_later}
use Rattle.unpack_plan.specs.Planned.{pairs_of}
use Rattle.unpack_plan.proofs.Ordered.{one_at}

file_test : (n : Node) → IsFile n → is_file n ≡ true
file_test n is = ap is_file is.2

module _ (files : List Shipped) (conffiles flagged : List Path) (order : AreInOrder (paths_of files)) (fits : ∥ AreFitting files conffiles flagged ∥₁) where
  no_conffile : (f : Shipped) → Contains files f → is_file f.node ≡ false → is_conffile conffiles f.path ≡ false
  no_conffile f has no_file = false_from_ne_true (is_conffile conffiles f.path) (λ is. ∥∥₁_elim fits (hlevel props) (λ fit.
      let at = fit.shipped f.path (any_contains conffiles f.path is) in
      false≢true (sym no_file ∙ ap (λ (x : Shipped). is_file x.node) (one_at files f at.0 order has at.1 (sym at.2)) ∙ file_test at.0.node at.3)))

  each_fits : (fs : List Shipped) → ((f : Shipped) → Contains fs f → Contains files f) → FitsConffiles conffiles (pairs_of fs)
  each_fits [] among = tt
  each_fits (f ∷ fs) among = (no_conffile f (among f (in_first f fs)), each_fits fs (λ g has. among g (in_later f fs g has)))

  pub conffiles_fit : FitsConffiles conffiles (pairs_of files)
  conffiles_fit = each_fits files (λ f has. has)
