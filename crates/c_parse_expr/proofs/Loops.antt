-- The turns of the two loops.
use Rattle.std.proofs.Common.{◌≡◌, ◌≤◌, ◌<◌, ◌+◌, max, ℕ, zero, suc, List, [], ◌∷◌, ◌++◌, length, Bool, cond, Option, Some, None, refl, ap, sym, subst, ◌∙◌, arith}
use Rattle.c_token.specs.declared.token.Token.{Token}
use Rattle.c_token.specs.declared.token.Mark.TheVariants as marks
use Rattle.c_tree.specs.Tree.{Tree, Trees, none, more, depth, depth_of}
use Rattle.c_tree.specs.Tables.{level_of}
use Rattle.c_parse_expr.specs.declared.table.Suffix.{Suffix}
use Rattle.c_parse_expr.specs.inner.Many.{◌>>=◌}
use Rattle.c_parse_expr.specs.inner.Reading.{Read, Reader, behind, closed, next_at, rest_at, arguments_at, prefix_at, suffixed, turn, climb, from_operand, reader, declared_at}
use Rattle.std.proofs.lemmas.Bool.{lt-ltb, le-ltb, le-leb, lt-leb}
use Rattle.c_tree.specs.Names.{Scope}
use Rattle.c_tree.specs.declared.expr.Expr.{Expr}
use Rattle.c_tree.specs.Tree.{view, views_of}
use Rattle.c_parse_expr.specs.declared.fault.Refused.{Refused}
use Rattle.c_parse_expr.specs.declared.fault.Refused.TheVariants as refusals
use Rattle.c_parse_expr.specs.Reading.{Fails}
use Rattle.c_parse_expr.proofs.Lists.{with_front, joined_none, front_more, views_push}

pub fails_on : {Y Z : Type 0} (e : Refused) (o : Option Y) (p : Option Z) → (o ≡ None → p ≡ None) → Fails e o → Fails e p
fails_on refusals.Memory o p f g = tt
fails_on refusals.Syntax o p f g = f g

-- arguments
pub first_closes : (sub : Reader) (ts rest : List Token) (es : List Expr) → es ≡ [] → Some rest ≡ behind marks.RightParenthesis ts → arguments_at sub ts ≡ Some (views_of es, rest)
unfolding arguments_at
first_closes sub ts rest es e f =
    ap (λ (o : Option (List Token)). closed o (sub 2 ts >>= λ a. rest_at (length ts + 1) sub a.1 >>= λ b. Some (more a.0 b.0, b.1))) (sym f)
    ∙ ap (λ (xs : List Expr). Some (views_of xs, rest)) (sym e)

first_opens : (sub : Reader) (ts : List Token) → None ≡ behind marks.RightParenthesis ts → arguments_at sub ts ≡ (sub 2 ts >>= λ a. rest_at (length ts + 1) sub a.1 >>= λ b. Some (more a.0 b.0, b.1))
unfolding arguments_at
first_opens sub ts f = ap (λ (o : Option (List Token)). closed o (sub 2 ts >>= λ a. rest_at (length ts + 1) sub a.1 >>= λ b. Some (more a.0 b.0, b.1))) (sym f)

pub first_fails : (sub : Reader) (ts : List Token) → None ≡ behind marks.RightParenthesis ts → sub 2 ts ≡ None → arguments_at sub ts ≡ None
first_fails sub ts f e = first_opens sub ts f ∙ ap (λ (o : Read). o >>= λ a. rest_at (length ts + 1) sub a.1 >>= λ b. Some (more a.0 b.0, b.1)) e

pub first_goes : (sub : Reader) (ts rest : List Token) (e : Expr) (es : List Expr) → None ≡ behind marks.RightParenthesis ts → sub 2 ts ≡ Some (view e, rest) → es ≡ e ∷ [] → with_front (views_of es) (rest_at (length ts + 1) sub rest) ≡ arguments_at sub ts
first_goes sub ts rest e es f g h =
    ap (λ (xs : List Expr). with_front (views_of xs) (rest_at (length ts + 1) sub rest)) h
    ∙ front_more none (view e) (rest_at (length ts + 1) sub rest)
    ∙ alone (rest_at (length ts + 1) sub rest >>= λ b. Some (more (view e) b.0, b.1))
    ∙ sym (first_opens sub ts f ∙ ap (λ (o : Read). o >>= λ a. rest_at (length ts + 1) sub a.1 >>= λ b. Some (more a.0 b.0, b.1)) g)
  where
    alone : (o : Option (Trees × List Token)) → with_front none o ≡ o
    alone None = refl
    alone (Some x) = refl

-- what a turn of the arguments' loop reads
abbrev pub Left : ℕ → Reader → Trees → List Token → Option (Trees × List Token) → Type 0
Left m sub front rest all = with_front front (rest_at m sub rest) ≡ all

pub closes : (m : ℕ) (sub : Reader) (front : Trees) (ts rest : List Token) (all : Option (Trees × List Token)) → length ts < m → Some rest ≡ behind marks.RightParenthesis ts → Left m sub front ts all → all ≡ Some (front, rest)
unfolding rest_at
closes zero sub front ts rest all h f e = absurd (omega arith)
closes (suc m) sub front ts rest all h f e =
    sym e ∙ ap (λ (o : Option (List Token)). with_front front (closed o (behind marks.Comma ts >>= λ r. sub 2 r >>= λ a. rest_at m sub a.1 >>= λ b. Some (more a.0 b.0, b.1)))) (sym f)
    ∙ ap (λ (t : Trees). Some (t, rest)) (joined_none front)

opens : (m : ℕ) (sub : Reader) (front : Trees) (ts : List Token) (all : Option (Trees × List Token)) → None ≡ behind marks.RightParenthesis ts → Left (suc m) sub front ts all → all ≡ with_front front (behind marks.Comma ts >>= λ r. sub 2 r >>= λ a. rest_at m sub a.1 >>= λ b. Some (more a.0 b.0, b.1))
unfolding rest_at
opens m sub front ts all f e =
    sym e ∙ ap (λ (o : Option (List Token)). with_front front (closed o (behind marks.Comma ts >>= λ r. sub 2 r >>= λ a. rest_at m sub a.1 >>= λ b. Some (more a.0 b.0, b.1)))) (sym f)

pub neither : (m : ℕ) (sub : Reader) (front : Trees) (ts : List Token) (all : Option (Trees × List Token)) → length ts < m → None ≡ behind marks.RightParenthesis ts → None ≡ behind marks.Comma ts → Left m sub front ts all → all ≡ None
neither zero sub front ts all h f g e = absurd (omega arith)
neither (suc m) sub front ts all h f g e =
    opens m sub front ts all f e ∙ ap (λ (o : Option (List Token)). with_front front (o >>= λ r. sub 2 r >>= λ a. rest_at m sub a.1 >>= λ b. Some (more a.0 b.0, b.1))) (sym g)

pub next_fails : (m : ℕ) (sub : Reader) (front : Trees) (ts mid : List Token) (all : Option (Trees × List Token)) → length ts < m → None ≡ behind marks.RightParenthesis ts → Some mid ≡ behind marks.Comma ts → Left m sub front ts all → sub 2 mid ≡ None → all ≡ None
next_fails zero sub front ts mid all h f g e i = absurd (omega arith)
next_fails (suc m) sub front ts mid all h f g e i =
    opens m sub front ts all f e
    ∙ ap (λ (o : Option (List Token)). with_front front (o >>= λ r. sub 2 r >>= λ a. rest_at m sub a.1 >>= λ b. Some (more a.0 b.0, b.1))) (sym g)
    ∙ ap (λ (o : Read). with_front front (o >>= λ a. rest_at m sub a.1 >>= λ b. Some (more a.0 b.0, b.1))) i

pub one_more : (m : ℕ) (sub : Reader) (es fs : List Expr) (x : Expr) (ts mid rest : List Token) (all : Option (Trees × List Token)) → length ts < m → length rest < length ts → None ≡ behind marks.RightParenthesis ts → Some mid ≡ behind marks.Comma ts → Left m sub (views_of es) ts all → sub 2 mid ≡ Some (view x, rest) → fs ≡ es ++ x ∷ [] → (m : ℕ) × (length rest < m) × Left m sub (views_of fs) rest all
one_more zero sub es fs x ts mid rest all h l f g e i j = absurd (omega arith)
one_more (suc m) sub es fs x ts mid rest all h l f g e i j = (
  m,
  omega arith,
  ap (λ (xs : List Expr). with_front (views_of xs) (rest_at m sub rest)) j
      ∙ ap (λ (t : Trees). with_front t (rest_at m sub rest)) (views_push es x)
      ∙ front_more (views_of es) (view x) (rest_at m sub rest)
      ∙ sym (opens m sub (views_of es) ts all f e
      ∙ ap (λ (o : Option (List Token)). with_front (views_of es) (o >>= λ r. sub 2 r >>= λ a. rest_at m sub a.1 >>= λ b. Some (more a.0 b.0, b.1))) (sym g)
      ∙ ap (λ (o : Read). with_front (views_of es) (o >>= λ a. rest_at m sub a.1 >>= λ b. Some (more a.0 b.0, b.1))) i),
)

pub depth_push : (es : List Expr) (e : Expr) → depth_of (views_of (es ++ e ∷ [])) ≡ max (depth_of (views_of es)) (depth (view e))
depth_push [] e = omega arith
depth_push (x ∷ es) e = let above = depth_push es e in omega arith

-- suffixes
pub reader_begins : (bytes : List ℕ) (names : Scope) (n levels k l : ℕ) (ts rest : List Token) (t : Tree) → suc n ≡ levels → l ≡ level_of t → k ≤ l → prefix_at bytes names (reader bytes names n) (declared_at bytes names n) ts ≡ Some (t, rest) → climb bytes levels (reader bytes names n) levels k t rest ≡ reader bytes names levels k ts
unfolding reader
reader_begins bytes names n levels k l ts rest t e same low f =
    subst (λ (x : ℕ). climb bytes x (reader bytes names n) x k t rest ≡ reader bytes names x k ts) e
    (sym (ap (λ (o : Read). o >>= from_operand bytes (suc n) (reader bytes names n) k) f
    ∙ ap (λ (b : Bool). cond {A = Read} b (climb bytes (suc n) (reader bytes names n) (suc n) k t rest) None) (le-leb k (level_of t) (omega arith))))

pub reader_low : (bytes : List ℕ) (names : Scope) (n levels k l : ℕ) (ts rest : List Token) (t : Tree) → suc n ≡ levels → l ≡ level_of t → l < k → prefix_at bytes names (reader bytes names n) (declared_at bytes names n) ts ≡ Some (t, rest) → reader bytes names levels k ts ≡ None
unfolding reader
reader_low bytes names n levels k l ts rest t e same high f =
    subst (λ (x : ℕ). reader bytes names x k ts ≡ None) e
    (ap (λ (o : Read). o >>= from_operand bytes (suc n) (reader bytes names n) k) f
    ∙ ap (λ (b : Bool). cond {A = Read} b (climb bytes (suc n) (reader bytes names n) (suc n) k t rest) None) (lt-leb k (level_of t) (omega arith)))

takes_turn : (bytes : List ℕ) (m n k l : ℕ) (sub : Reader) (t : Tree) (ts : List Token) (o : Option (Suffix × ℕ × List Token)) → l ≡ level_of t → o ≡ next_at k l ts → climb bytes (suc m) sub n k t ts ≡ turn bytes sub n (climb bytes m sub n k) t ts o
unfolding climb
takes_turn bytes m n k l sub t ts o e f =
    ap (λ (p : Option (Suffix × ℕ × List Token)). turn bytes sub n (climb bytes m sub n k) t ts p) (ap (λ (x : ℕ). next_at k x ts) (sym e) ∙ sym f)

pub stops : (bytes : List ℕ) (m n k l h : ℕ) (sub : Reader) (t : Tree) (ts : List Token) (all : Read) → n < m + h → h ≤ n → l ≡ level_of t → None ≡ next_at k l ts → climb bytes m sub n k t ts ≡ all → all ≡ Some (t, ts)
stops bytes zero n k l h sub t ts all f g e i j = absurd (omega arith)
stops bytes (suc m) n k l h sub t ts all f g e i j = sym j ∙ takes_turn bytes m n k l sub t ts None e i

pub too_deep : (bytes : List ℕ) (m n k l h : ℕ) (sub : Reader) (t : Tree) (ts : List Token) (s : Suffix × ℕ × List Token) (all : Read) → n < m + h → h ≤ n → h ≡ depth t → n ≤ h → l ≡ level_of t → Some s ≡ next_at k l ts → climb bytes m sub n k t ts ≡ all → all ≡ None
too_deep bytes zero n k l h sub t ts s all f g d p e i j = absurd (omega arith)
too_deep bytes (suc m) n k l h sub t ts s all f g d p e i j =
    sym j ∙ takes_turn bytes m n k l sub t ts (Some s) e i
    ∙ ap (λ (b : Bool). cond {A = Read} b (suffixed bytes sub s.0 s.1 t s.2 >>= λ x. climb bytes m sub n k x.0 x.1) None) (le-ltb (depth t) n (omega arith))

climbs : (bytes : List ℕ) (m n k l h : ℕ) (sub : Reader) (t : Tree) (ts : List Token) (s : Suffix × ℕ × List Token) (all : Read) → h ≡ depth t → h < n → l ≡ level_of t → Some s ≡ next_at k l ts → climb bytes (suc m) sub n k t ts ≡ all → all ≡ (suffixed bytes sub s.0 s.1 t s.2 >>= λ x. climb bytes m sub n k x.0 x.1)
climbs bytes m n k l h sub t ts s all d p e i j =
    sym j ∙ takes_turn bytes m n k l sub t ts (Some s) e i
    ∙ ap (λ (b : Bool). cond {A = Read} b (suffixed bytes sub s.0 s.1 t s.2 >>= λ x. climb bytes m sub n k x.0 x.1) None) (lt-ltb (depth t) n (omega arith))

pub suffix_fails : (bytes : List ℕ) (m n k l h : ℕ) (sub : Reader) (t : Tree) (ts : List Token) (s : Suffix × ℕ × List Token) (all : Read) → n < m + h → h ≡ depth t → h < n → l ≡ level_of t → Some s ≡ next_at k l ts → climb bytes m sub n k t ts ≡ all → suffixed bytes sub s.0 s.1 t s.2 ≡ None → all ≡ None
suffix_fails bytes zero n k l h sub t ts s all f d p e i j q = absurd (omega arith)
suffix_fails bytes (suc m) n k l h sub t ts s all f d p e i j q =
    climbs bytes m n k l h sub t ts s all d p e i j ∙ ap (λ (o : Read). o >>= λ x. climb bytes m sub n k x.0 x.1) q

pub goes_up : (bytes : List ℕ) (m n k l h g : ℕ) (sub : Reader) (t u : Tree) (ts rest : List Token) (s : Suffix × ℕ × List Token) (all : Read) → n < m + h → h ≡ depth t → h < n → h < g → l ≡ level_of t → Some s ≡ next_at k l ts → climb bytes m sub n k t ts ≡ all → suffixed bytes sub s.0 s.1 t s.2 ≡ Some (u, rest) → (m : ℕ) × (n < m + g) × (climb bytes m sub n k u rest ≡ all)
goes_up bytes zero n k l h g sub t u ts rest s all f d p w e i j q = absurd (omega arith)
goes_up bytes (suc m) n k l h g sub t u ts rest s all f d p w e i j q =
    (m, omega arith, sym (climbs bytes m n k l h sub t ts s all d p e i j ∙ ap (λ (o : Read). o >>= λ x. climb bytes m sub n k x.0 x.1) q))

-- a call
pub fails_none : {Y : Type 0} (e : Refused) (o : Option Y) → e ≡ refusals.Syntax → Fails e o → o ≡ None
fails_none e o is f = subst (λ (x : Refused). Fails x o) is f
