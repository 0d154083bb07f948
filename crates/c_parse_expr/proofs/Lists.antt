-- Arguments in front of others.
use Rattle.std.proofs.Common.{◌≡◌, List, [], ◌∷◌, ◌++◌, Option, Some, None, refl, ap}
use Rattle.c_token.specs.declared.token.Token.{Token}
use Rattle.c_tree.specs.declared.expr.Expr.{Expr}
use Rattle.c_tree.specs.Tree.{Tree, Trees, none, more, view, views_of}
use Rattle.c_parse_expr.specs.inner.Many.{◌>>=◌}

abbrev pub joined : Trees → Trees → Trees
joined none bs = bs
joined (more a rest) bs = more a (joined rest bs)

abbrev pub with_front : Trees → Option (Trees × List Token) → Option (Trees × List Token)
with_front front None = None
with_front front (Some x) = Some (joined front x.0, x.1)

pub joined_none : (aa : Trees) → joined aa none ≡ aa
joined_none none = refl
joined_none (more a rest) = ap (more a) (joined_none rest)

joined_more : (aa : Trees) (b : Tree) (cs : Trees) → joined (joined aa (more b none)) cs ≡ joined aa (more b cs)
joined_more none b cs = refl
joined_more (more a rest) b cs = ap (more a) (joined_more rest b cs)

pub front_more : (aa : Trees) (b : Tree) (o : Option (Trees × List Token)) → with_front (joined aa (more b none)) o ≡ with_front aa (o >>= λ x. Some (more b x.0, x.1))
front_more aa b None = refl
front_more aa b (Some x) = ap (λ (t : Trees). Some (t, x.1)) (joined_more aa b x.0)

pub views_push : (es : List Expr) (e : Expr) → views_of (es ++ e ∷ []) ≡ joined (views_of es) (more (view e) none)
views_push [] e = refl
views_push (x ∷ es) e = ap (more (view x)) (views_push es e)
