use Rattle.std.proofs.Common.{◌≡◌, refl, sym, subst, [], ◌∷◌}
use Rattle.std.specs.Prelude.{Option}
use Rattle.host_core.specs.declared.node.Node.{Node}
use Rattle.host_core.specs.declared.call.Script.TheVariants.{Preinst, Postinst, Postrm}
use Rattle.package_tree.specs.ControlLimit.{IsOver}
use Rattle.package_tree.specs.Debian.{script_path, conffiles_path}
use Rattle.package_tree.proofs.reading.first_over_member.Goals as goal

-- what was told of a node is so of what stands there
told : {found there : Option Node} → found ≡ there → IsOver found → IsOver there
told same over = subst IsOver same over

untold : {found there : Option Node} → found ≡ there → (IsOver found → ⊥) → IsOver there → ⊥
untold same none over = none (subst IsOver (sym same) over)

pub returns-then-is_over-clause-found : goal.returns-then-is_over-clause-found
returns-then-is_over-clause-found c = λ w are. record { before = []; after = _; is = refl; over = told are.conffiles c.if-is_over.ensures; first = tt }

pub returns-then-is_over-2-clause-found : goal.returns-then-is_over-2-clause-found
returns-then-is_over-2-clause-found c = λ w are. record {
  before = conffiles_path ∷ [];
  after = _;
  is = refl;
  over = told are.postinst c.if-is_over-2.ensures;
  first = (untold are.conffiles c.if-is_over.ensures, tt);
}

pub returns-then-is_over-3-clause-found : goal.returns-then-is_over-3-clause-found
returns-then-is_over-3-clause-found c = λ w are. record {
  before = conffiles_path ∷ script_path Postinst ∷ [];
  after = _;
  is = refl;
  over = told are.postrm c.if-is_over-3.ensures;
  first = (untold are.conffiles c.if-is_over.ensures, (untold are.postinst c.if-is_over-2.ensures, tt));
}

pub returns-then-is_over-4-clause-found : goal.returns-then-is_over-4-clause-found
returns-then-is_over-4-clause-found c = λ w are. record {
  before = conffiles_path ∷ script_path Postinst ∷ script_path Postrm ∷ [];
  after = _;
  is = refl;
  over = told are.preinst c.if-is_over-4.ensures;
  first = (untold are.conffiles c.if-is_over.ensures, (untold are.postinst c.if-is_over-2.ensures, (untold are.postrm c.if-is_over-3.ensures, tt)));
}

pub returns-then-is_over-5-clause-found : goal.returns-then-is_over-5-clause-found
returns-then-is_over-5-clause-found c = λ w are. record {
  before = conffiles_path ∷ script_path Postinst ∷ script_path Postrm ∷ script_path Preinst ∷ [];
  after = _;
  is = refl;
  over = told are.prerm c.if-is_over-5.ensures;
  first = (untold are.conffiles c.if-is_over.ensures, (untold are.postinst c.if-is_over-2.ensures, (untold are.postrm c.if-is_over-3.ensures, (untold are.preinst c.if-is_over-4.ensures, tt))));
}
