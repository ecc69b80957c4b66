use Rattle.std.proofs.Common.{◌≡◌, Bool, refl, sym, ◌∙◌, ap, [], ◌∷◌}
use Rattle.std.specs.Prelude.{Option}
use Rattle.host_core.specs.declared.node.Node.{Node}
use Rattle.host_core.specs.declared.call.Script.TheVariants.{Preinst, Postinst, Postrm}
use Rattle.package_tree.specs.Debian.{is_wrong, script_path, conffiles_path}
use Rattle.package_tree.proofs.reading.first_wrong.Goals as goal

-- what was told of a node is so of what stands there
told : {found there : Option Node} {b : Bool} → found ≡ there → b ≡ is_wrong found → is_wrong there ≡ b
told same is = ap is_wrong (sym same) ∙ sym is

pub returns-then-is_wrong-clause-found : goal.returns-then-is_wrong-clause-found
returns-then-is_wrong-clause-found c = λ w are. record { before = []; after = _; is = refl; wrong = told are.conffiles c.if-is_wrong.ensures; first = tt }

pub returns-then-is_wrong-2-clause-found : goal.returns-then-is_wrong-2-clause-found
returns-then-is_wrong-2-clause-found c = λ w are. record {
  before = conffiles_path ∷ [];
  after = _;
  is = refl;
  wrong = told are.postinst c.if-is_wrong-2.ensures;
  first = (told are.conffiles c.if-is_wrong.ensures, tt);
}

pub returns-then-is_wrong-3-clause-found : goal.returns-then-is_wrong-3-clause-found
returns-then-is_wrong-3-clause-found c = λ w are. record {
  before = conffiles_path ∷ script_path Postinst ∷ [];
  after = _;
  is = refl;
  wrong = told are.postrm c.if-is_wrong-3.ensures;
  first = (told are.conffiles c.if-is_wrong.ensures, (told are.postinst c.if-is_wrong-2.ensures, tt));
}

pub returns-then-is_wrong-4-clause-found : goal.returns-then-is_wrong-4-clause-found
returns-then-is_wrong-4-clause-found c = λ w are. record {
  before = conffiles_path ∷ script_path Postinst ∷ script_path Postrm ∷ [];
  after = _;
  is = refl;
  wrong = told are.preinst c.if-is_wrong-4.ensures;
  first = (told are.conffiles c.if-is_wrong.ensures, (told are.postinst c.if-is_wrong-2.ensures, (told are.postrm c.if-is_wrong-3.ensures, tt)));
}

pub returns-then-is_wrong-5-clause-found : goal.returns-then-is_wrong-5-clause-found
returns-then-is_wrong-5-clause-found c = λ w are. record {
  before = conffiles_path ∷ script_path Postinst ∷ script_path Postrm ∷ script_path Preinst ∷ [];
  after = _;
  is = refl;
  wrong = told are.prerm c.if-is_wrong-5.ensures;
  first = (told are.conffiles c.if-is_wrong.ensures, (told are.postinst c.if-is_wrong-2.ensures, (told are.postrm c.if-is_wrong-3.ensures, (told are.preinst c.if-is_wrong-4.ensures, tt))));
}
