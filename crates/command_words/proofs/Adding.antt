-- Subcommands and arguments that are added in turn.
use Rattle.std.proofs.Common.{◌≡◌, ◌∙◌, ap, [], ◌∷◌}
use Rattle.clap.specs.Words.{App, Rule, Shape, with_rule, with_subcommand}
use Rattle.command_words.specs.CommandLine.{with_all}

added : (f : App → Shape → App) (old one two new : App) (a b c x y z : Shape) → one ≡ f old a → a ≡ x → two ≡ f one b → b ≡ y → new ≡ f two c → c ≡ z
    → new ≡ f (f (f old x) y) z
added f old one two new a b c x y z e is_x e2 is_y e3 is_z = cc

top : (a b : App) → a ≡ b → a.top ≡ b.top
top a b e = ap (λ (app : App). app.top) e

-- three subcommands more
pub three_added : (old one two new a b c x y z : App)
    → one ≡ with_subcommand old a.top → a ≡ x → two ≡ with_subcommand one b.top → b ≡ y → new ≡ with_subcommand two c.top → c ≡ z
    → new ≡ with_all old (x ∷ y ∷ z ∷ [])
three_added old one two new a b c x y z e is_x e2 is_y e3 is_z =
    added with_subcommand old one two new a.top b.top c.top x.top y.top z.top e (top a x is_x) e2 (top b y is_y) e3 (top c z is_z)

-- four subcommands more
pub four_added : (old one two three new a b c d x y z w : App)
    → one ≡ with_subcommand old a.top → a ≡ x → two ≡ with_subcommand one b.top → b ≡ y → three ≡ with_subcommand two c.top → c ≡ z
    → new ≡ with_subcommand three d.top → d ≡ w → new ≡ with_all old (x ∷ y ∷ z ∷ w ∷ [])
four_added old one two three new a b c d x y z w e is_x e2 is_y e3 is_z e4 is_w =
    added with_subcommand one two three new b.top c.top d.top y.top z.top w.top e2 (top b y is_y) e3 (top c z is_z) e4 (top d w is_w)
    ∙ ap (λ (s : App). with_all s (y ∷ z ∷ w ∷ [])) (e ∙ ap (with_subcommand old) (top a x is_x))

ruled : (f : App → Rule → App) (old one two new : App) (a b c x y z : Rule) → one ≡ f old a → a ≡ x → two ≡ f one b → b ≡ y → new ≡ f two c → c ≡ z
    → new ≡ f (f (f old x) y) z
ruled f old one two new a b c x y z e is_x e2 is_y e3 is_z = cc

-- three arguments more
pub three_ruled : (old one two new : App) (a b c x y z : Rule) → one ≡ with_rule old a → a ≡ x → two ≡ with_rule one b → b ≡ y → new ≡ with_rule two c → c ≡ z
    → new ≡ with_rule (with_rule (with_rule old x) y) z
three_ruled old one two new a b c x y z e is_x e2 is_y e3 is_z = ruled with_rule old one two new a b c x y z e is_x e2 is_y e3 is_z

ruled_twice : (f : App → Rule → App) (old one new : App) (a b x y : Rule) → one ≡ f old a → a ≡ x → new ≡ f one b → b ≡ y → new ≡ f (f old x) y
ruled_twice f old one new a b x y e is_x e2 is_y = cc

-- two arguments more
pub two_ruled : (old one new : App) (a b x y : Rule) → one ≡ with_rule old a → a ≡ x → new ≡ with_rule one b → b ≡ y → new ≡ with_rule (with_rule old x) y
two_ruled old one new a b x y e is_x e2 is_y = ruled_twice with_rule old one new a b x y e is_x e2 is_y
