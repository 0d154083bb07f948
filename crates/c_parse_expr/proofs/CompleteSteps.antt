-- From the tokens of a tree reading comes to the tree: the steps, and what an expression begins with.
use Rattle.std.proofs.Common.{◌≡◌, ◌≤◌, ◌<◌, ◌+◌, ℕ, zero, suc, List, [], ◌∷◌, ◌++◌, Bool, true, false, cond, Option, Some, None, refl, ap, sym, subst, ◌∙◌, arith}
use Rattle.std.specs.Prelude.{IfSome}
use Rattle.std.proofs.lemmas.Bool.{lt-ltb, le-leb}
use Rattle.std.proofs.lemmas.List.{append_assoc}
use Rattle.c_token.specs.declared.token.Token.{Token}
use Rattle.c_token.specs.declared.token.Kind.{Kind}
use Rattle.c_token.specs.declared.token.Kind.TheVariants as kinds
use Rattle.c_token.specs.declared.token.Keyword.TheVariants as keywords
use Rattle.c_token.specs.declared.token.Mark.{Mark}
use Rattle.c_token.specs.declared.token.Mark.TheVariants as marks
use Rattle.c_token.specs.Spelling.{text_of}
use Rattle.c_tree.specs.declared.expr.UnaryOp.{UnaryOp}
use Rattle.c_tree.specs.declared.expr.UnaryOp.TheVariants as unaries
use Rattle.c_tree.specs.Tree.{Tree, constant, character, strings, name, parens, unary, address, dereference, cast, sizeof_expr, sizeof_type, step, member, arrow, subscript, binary, choice, assign, comma, call, depth}
use Rattle.c_tree.specs.Names.{Scope, is_type}
use Rattle.c_tree.specs.Tables.{level_of, unary_mark}
use Rattle.c_tree.specs.Spelling.{Spells, IsWell}
use Rattle.c_parse_expr.specs.declared.table.Lead.{Lead}
use Rattle.c_parse_expr.specs.declared.table.Lead.TheVariants as leads
use Rattle.c_parse_expr.specs.declared.table.Suffix.{Suffix}
use Rattle.c_parse_expr.specs.Tables.{lead_of, suffix_of, strength_behind, least_left}
use Rattle.c_parse_expr.specs.inner.Many.{◌>>=◌}
use Rattle.c_parse_expr.specs.Reading.{is_mark, goes_on}
use Rattle.c_parse_expr.specs.inner.Reading.{Read, Reader, behind, start_by, start_of, is_some, begins_type, type_behind, prefixed, prefix_at, suffixed, turn, climb, from_operand, reader, declared_at}
use Rattle.c_parse_expr.specs.Standing.{goes_on_inside, Inside, Ends}
use Rattle.c_parse_expr.proofs.Marks.{Leads, leads_so}
use Rattle.c_parse_expr.proofs.Steps.{behind_gives, next_ends, next_goes, goes_so}
use Rattle.c_parse_expr.proofs.Within.{low, quiet, has_depth, at_most_thirteen}

-- From a tree's tokens reading comes to the tree, and goes on from it.
abbrev pub Complete : List ℕ → Scope → Tree → Type 0
Complete bytes names t = (n k : ℕ) (own rest : List Token) → Spells bytes t own → IsWell names t → depth t ≤ n + 1 → k ≤ level_of t → Inside t rest → (m : ℕ) × (n + 1 < m + depth t) × (reader bytes names (suc n) k (own ++ rest) ≡ climb bytes m (reader bytes names n) (suc n) k t rest)

pub seam : (own left right rest : List Token) → own ≡ left ++ right → own ++ rest ≡ left ++ (right ++ rest)
seam own left right rest e = ap (λ (xs : List Token). xs ++ rest) e ∙ append_assoc left right rest

-- from a token on
pub from_token : (right rest own : List Token) (t : Token) → right ≡ t ∷ own → right ++ rest ≡ t ∷ (own ++ rest)
from_token right rest own t e = ap (λ (xs : List Token). xs ++ rest) e

pub climb_step : (bytes : List ℕ) (m n k line : ℕ) (sub : Reader) (left u : Tree) (t : Token) (ts rest : List Token) (s : Suffix) → suffix_of t.kind ≡ Some s → t.line ≡ line → goes_on k (level_of left) s ≡ true → depth left < n → suffixed bytes sub s line left ts ≡ Some (u, rest) → climb bytes (suc m) sub n k left (t ∷ ts) ≡ climb bytes m sub n k u rest
unfolding climb
climb_step bytes m n k line sub left u t ts rest s is at goes deep e =
    ap (λ (o : Option (Suffix × ℕ × List Token)). turn bytes sub n (climb bytes m sub n k) left (t ∷ ts) o) (next_goes k (level_of left) t ts s is goes)
    ∙ ap (λ (b : Bool). cond {A = Read} b (suffixed bytes sub s t.line left ts >>= λ x. climb bytes m sub n k x.0 x.1) None) (lt-ltb (depth left) n deep)
    ∙ ap (λ (o : Read). o >>= λ x. climb bytes m sub n k x.0 x.1) (ap (λ (l : ℕ). suffixed bytes sub s l left ts) at ∙ e)

pub climb_ends : (bytes : List ℕ) (m n k : ℕ) (sub : Reader) (t : Tree) (rest : List Token) → Ends k t rest → climb bytes (suc m) sub n k t rest ≡ Some (t, rest)
unfolding climb
climb_ends bytes m n k sub t rest e = ap (λ (o : Option (Suffix × ℕ × List Token)). turn bytes sub n (climb bytes m sub n k) t rest o) (next_ends k (level_of t) rest e)

pub finish_at : (n k : ℕ) (bytes : List ℕ) (names : Scope) (t : Tree) (own rest : List Token) (m : ℕ) → depth t ≤ n + 1 → n + 1 < m + depth t → reader bytes names (suc n) k (own ++ rest) ≡ climb bytes m (reader bytes names n) (suc n) k t rest → Ends k t rest → reader bytes names (suc n) k (own ++ rest) ≡ Some (t, rest)
finish_at n k bytes names t own rest zero h g e f = absurd (omega arith)
finish_at n k bytes names t own rest (suc m) h g e f = e ∙ climb_ends bytes m (suc n) k (reader bytes names n) t rest f

pub finish : (bytes : List ℕ) (names : Scope) (t : Tree) → Complete bytes names t → (n k : ℕ) (own rest : List Token) → Spells bytes t own → IsWell names t → depth t ≤ n → k ≤ level_of t → Inside t rest → Ends k t rest → reader bytes names n k (own ++ rest) ≡ Some (t, rest)
finish bytes names t again zero k own rest s w d l i f = absurd (let h = has_depth t in omega arith)
finish bytes names t again (suc n) k own rest s w d l i f =
    let a = again n k own rest s w (omega arith) l i in
    finish_at n k bytes names t own rest a.0 (omega arith) a.1 a.2 f

-- a node that a token begins
pub begins_again : (bytes : List ℕ) (names : Scope) (n k : ℕ) (lead : Lead) (t : Token) (ts rest : List Token) (u : Tree) → Leads lead t.kind → k ≤ level_of u → prefixed bytes names (reader bytes names n) (declared_at bytes names n) lead t ts ≡ Some (u, rest) → reader bytes names (suc n) k (t ∷ ts) ≡ climb bytes (suc n) (reader bytes names n) (suc n) k u rest
unfolding reader prefix_at
begins_again bytes names n k lead t ts rest u is l e =
    ap (λ (o : Option Lead). (o >>= λ lead. prefixed bytes names (reader bytes names n) (declared_at bytes names n) lead t ts) >>= from_operand bytes (suc n) (reader bytes names n) k) (leads_so t.kind lead is)
    ∙ ap (λ (o : Read). o >>= from_operand bytes (suc n) (reader bytes names n) k) e
    ∙ ap (λ (b : Bool). cond {A = Read} b (climb bytes (suc n) (reader bytes names n) (suc n) k u rest) None) (le-leb k (level_of u) l)

pub mark_is : (mark : Mark) (k : Kind) (b : Bool) (of : Mark) → k ≡ kinds.Mark of → is_mark mark (kinds.Mark of) ≡ b → is_mark mark k ≡ b
mark_is mark k b of e f = ap (is_mark mark) e ∙ f

pub inside_none : (t : Tree) (k : ℕ) (tok : Token) (ts : List Token) → suffix_of tok.kind ≡ None → Inside t (tok ∷ ts) × Ends k t (tok ∷ ts)
inside_none t k tok ts e = (
  subst (λ (o : Option Suffix). IfSome o (λ s. goes_on_inside t s ≡ false)) (sym e) tt,
  subst (λ (o : Option Suffix). IfSome o (λ s. goes_on k (level_of t) s ≡ false)) (sym e) tt,
)

pub inside_some : (t : Tree) (tok : Token) (ts : List Token) (s : Suffix) → suffix_of tok.kind ≡ Some s → goes_on_inside t s ≡ false → Inside t (tok ∷ ts)
inside_some t tok ts s e f = subst (λ (o : Option Suffix). IfSome o (λ s. goes_on_inside t s ≡ false)) (sym e) f

pub ends_some : (k : ℕ) (t : Tree) (tok : Token) (ts : List Token) (s : Suffix) → suffix_of tok.kind ≡ Some s → goes_on k (level_of t) s ≡ false → Ends k t (tok ∷ ts)
ends_some k t tok ts s e f = subst (λ (o : Option Suffix). IfSome o (λ s. goes_on k (level_of t) s ≡ false)) (sym e) f

-- a tree in front of a closing mark or of a colon
pub before : (bytes : List ℕ) (names : Scope) (e : Tree) → Complete bytes names e → (n k : ℕ) (own rest : List Token) (tok : Token) → Spells bytes e own → IsWell names e → depth e ≤ n → k ≤ level_of e → suffix_of tok.kind ≡ None → reader bytes names n k (own ++ (tok ∷ rest)) ≡ Some (e, tok ∷ rest)
before bytes names e again n k own rest tok s w d l is =
    let f = inside_none e k tok rest is in
    finish bytes names e again n k own (tok ∷ rest) s w d l f.0 f.1

-- a node behind its left operand
pub goes_again : (bytes : List ℕ) (names : Scope) (a u : Tree) → Complete bytes names a → (s : Suffix) (n k line : ℕ) (own left right ts rest : List Token) (tok : Token) → Spells bytes a left → IsWell names a → own ≡ left ++ right → right ≡ tok ∷ ts → suffix_of tok.kind ≡ Some s → tok.line ≡ line → k ≤ strength_behind s → least_left s ≤ level_of a → k ≤ level_of a → depth a < n + 1 → depth a < depth u → suffixed bytes (reader bytes names n) s line a (ts ++ rest) ≡ Some (u, rest) → (m : ℕ) × (n + 1 < m + depth u) × (reader bytes names (suc n) k (own ++ rest) ≡ climb bytes m (reader bytes names n) (suc n) k u rest)
goes_again bytes names a u again s n k line own left right ts rest tok sp w e f is at low least lev deep more_deep made =
    let one = again n k left (tok ∷ (ts ++ rest)) sp w (omega arith) lev (inside_some a tok (ts ++ rest) s is (quiet names a s least w)) in
    after bytes names a u s n k line own left ts rest tok is at (goes_so k (level_of a) s low least) deep more_deep made one.0 one.1
    (seam own left right rest e ∙ ap (λ (xs : List Token). left ++ xs) (from_token right rest ts tok f)) one.2
  where
    after : (bytes : List ℕ) (names : Scope) (a u : Tree) (s : Suffix) (n k line : ℕ) (own left ts rest : List Token) (tok : Token) → suffix_of tok.kind ≡ Some s → tok.line ≡ line → goes_on k (level_of a) s ≡ true → depth a < n + 1 → depth a < depth u → suffixed bytes (reader bytes names n) s line a (ts ++ rest) ≡ Some (u, rest) → (m : ℕ) → n + 1 < m + depth a → own ++ rest ≡ left ++ (tok ∷ (ts ++ rest)) → reader bytes names (suc n) k (left ++ (tok ∷ (ts ++ rest))) ≡ climb bytes m (reader bytes names n) (suc n) k a (tok ∷ (ts ++ rest)) → (m : ℕ) × (n + 1 < m + depth u) × (reader bytes names (suc n) k (own ++ rest) ≡ climb bytes m (reader bytes names n) (suc n) k u rest)
    after bytes names a u s n k line own left ts rest tok is at goes deep more_deep made zero g e one = absurd (omega arith)
    after bytes names a u s n k line own left ts rest tok is at goes deep more_deep made (suc m) g e one =
        (m, omega arith, ap (reader bytes names (suc n) k) e ∙ one ∙ climb_step bytes m (suc n) k line (reader bytes names n) a u tok (ts ++ rest) rest s is at goes (omega arith) made)

-- the first token of an expression, which begins one and no type name
pub record First (bytes : List ℕ) (names : Scope) (own : List Token) : Type 0 where
  pub token : Token
  pub others : List Token
  pub lead : Lead
  pub is : lead_of token.kind ≡ Some lead
  pub no_type : start_of bytes names false token ≡ None
  pub whole : own ≡ token ∷ others

pub first_of : (bytes : List ℕ) (names : Scope) (own left right : List Token) → own ≡ left ++ right → First bytes names left → First bytes names own
first_of bytes names own left right e f = record { token = f.token; others = f.others ++ right; lead = f.lead; is = f.is; no_type = f.no_type; whole = e ∙ ap (λ (xs : List Token). xs ++ right) f.whole }

no_start : (bytes : List ℕ) (names : Scope) (t : Token) (lead : Lead) (k : Kind) → t.kind ≡ k → ((b : Bool) → start_by b k ≡ None) → start_of bytes names false t ≡ None
no_start bytes names t lead k e f = ap (start_by (is_type names (text_of bytes t))) e ∙ f (is_type names (text_of bytes t))

value_name : (bytes : List ℕ) (names : Scope) (t : Token) (n : List ℕ) → t.kind ≡ kinds.Identifier → text_of bytes t ≡ n → is_type names n ≡ false → start_of bytes names false t ≡ None
value_name bytes names t n e f w =
    ap (start_by (is_type names (text_of bytes t))) e ∙ ap (λ (b : Bool). start_by b kinds.Identifier) (ap (is_type names) f ∙ w)

pub first_token : (bytes : List ℕ) (names : Scope) (t : Tree) (own : List Token) → Spells bytes t own → IsWell names t → First bytes names own
first_token bytes names (constant line c) own s w = record { token = s.token; others = []; lead = leads.Constant c; is = leads_so s.token.kind (leads.Constant c) s.is.kind; no_type = no_start bytes names s.token (leads.Constant c) (kinds.Constant c) s.is.kind (λ b. refl); whole = s.whole }
first_token bytes names (character line c) own s w = record { token = s.token; others = []; lead = leads.Character c; is = leads_so s.token.kind (leads.Character c) s.is.kind; no_type = no_start bytes names s.token (leads.Character c) (kinds.Character c) s.is.kind (λ b. refl); whole = s.whole }
first_token bytes names (strings line []) own s w = absurd s
first_token bytes names (strings line (part ∷ parts)) own s w = record { token = s.token; others = s.rest; lead = leads.Strings; is = leads_so s.token.kind leads.Strings s.is.kind; no_type = no_start bytes names s.token leads.Strings kinds.String s.is.kind (λ b. refl); whole = s.whole }
first_token bytes names (name line n) own s w = record { token = s.token; others = []; lead = leads.Name; is = leads_so s.token.kind leads.Name s.is.kind; no_type = value_name bytes names s.token n s.is.kind s.is.text w; whole = s.whole }
first_token bytes names (parens line e) own s w = record { token = s.token; others = s.rest; lead = leads.Group; is = leads_so s.token.kind leads.Group s.is.kind; no_type = no_start bytes names s.token leads.Group (kinds.Mark marks.LeftParenthesis) s.is.kind (λ b. refl); whole = s.whole }
first_token bytes names (unary line op e) own s w = record { token = s.token; others = s.rest; lead = leads.Unary op; is = leads_so s.token.kind (leads.Unary op) s.is.kind; no_type = no_start bytes names s.token (leads.Unary op) (kinds.Mark (unary_mark op)) s.is.kind (λ b. refl); whole = s.whole }
first_token bytes names (address line e) own s w = absurd w
first_token bytes names (dereference line e) own s w = absurd w
first_token bytes names (cast line parts d e) own s w = record { token = s.token; others = s.rest; lead = leads.Group; is = leads_so s.token.kind leads.Group s.is.kind; no_type = no_start bytes names s.token leads.Group (kinds.Mark marks.LeftParenthesis) s.is.kind (λ b. refl); whole = s.whole }
first_token bytes names (sizeof_expr line e) own s w = record { token = s.token; others = s.rest; lead = leads.Sizeof; is = leads_so s.token.kind leads.Sizeof s.is.kind; no_type = no_start bytes names s.token leads.Sizeof (kinds.Keyword keywords.Sizeof) s.is.kind (λ b. refl); whole = s.whole }
first_token bytes names (sizeof_type line parts d) own s w = record { token = s.token; others = s.rest; lead = leads.Sizeof; is = leads_so s.token.kind leads.Sizeof s.is.kind; no_type = no_start bytes names s.token leads.Sizeof (kinds.Keyword keywords.Sizeof) s.is.kind (λ b. refl); whole = s.whole }
first_token bytes names (step line op e) own s w = first_of bytes names own s.left s.right s.whole (first_token bytes names e s.left s.first w.1)
first_token bytes names (member line e n) own s w = first_of bytes names own s.left s.right s.whole (first_token bytes names e s.left s.first w.1)
first_token bytes names (arrow line e n) own s w = absurd w
first_token bytes names (subscript line a b) own s w = absurd w
first_token bytes names (binary line op a b) own s w = first_of bytes names own s.left s.right s.whole (first_token bytes names a s.left s.first w.2)
first_token bytes names (choice line a b c) own s w = first_of bytes names own s.left s.right s.whole (first_token bytes names a s.left s.first w.3)
first_token bytes names (assign line op a b) own s w = first_of bytes names own s.left s.right s.whole (first_token bytes names a s.left s.first w.2)
first_token bytes names (comma line a b) own s w = first_of bytes names own s.left s.right s.whole (first_token bytes names a s.left s.first w.2)
first_token bytes names (call f args) own s w = first_of bytes names own s.left s.right s.whole (first_token bytes names f s.left s.first w.1)

pub no_type_at : (bytes : List ℕ) (names : Scope) (own rest : List Token) → First bytes names own → begins_type bytes names (own ++ rest) ≡ false
no_type_at bytes names own rest f =
    ap (begins_type bytes names) (from_token own rest f.others f.token f.whole) ∙ ap is_some f.no_type

-- no type name begins with an expression
pub no_type_first : (bytes : List ℕ) (names : Scope) (t : Tree) (own rest : List Token) → Spells bytes t own → IsWell names t → begins_type bytes names (own ++ rest) ≡ false
no_type_first bytes names t own rest s w = no_type_at bytes names own rest (first_token bytes names t own s w)

other_mark : (k : Kind) (m : Mark) (l : Lead) (b : Bool) → ((k : Kind) → is_mark m k ≡ true → k ≡ kinds.Mark m) → lead_of (kinds.Mark m) ≡ None → is_mark m k ≡ b → lead_of k ≡ Some l → is_mark m k ≡ false
other_mark k m l true law no_lead e f = let g = ap lead_of (law k e) in absurd cc
other_mark k m l false law no_lead e f = e

-- an expression begins with no mark that begins none
pub not_first : (bytes : List ℕ) (names : Scope) (m : Mark) → ((k : Kind) → is_mark m k ≡ true → k ≡ kinds.Mark m) → lead_of (kinds.Mark m) ≡ None → (own rest : List Token) → First bytes names own → behind m (own ++ rest) ≡ None
not_first bytes names m law no_lead own rest f =
    ap (λ (xs : List Token). behind m xs) (from_token own rest f.others f.token f.whole)
    ∙ behind_gives m f.token (f.others ++ rest) false (other_mark f.token.kind m f.lead (is_mark m f.token.kind) law no_lead refl f.is)

at_mark : (bytes : List ℕ) (names : Scope) (own rest others : List Token) (t : Token) → own ≡ t ∷ others → is_mark marks.LeftParenthesis t.kind ≡ false → type_behind bytes names (behind marks.LeftParenthesis (own ++ rest)) ≡ None
at_mark bytes names own rest others t e f =
    ap (λ (xs : List Token). type_behind bytes names (behind marks.LeftParenthesis xs)) (from_token own rest others t e)
    ∙ ap (λ (o : Option (List Token)). type_behind bytes names o) (behind_gives marks.LeftParenthesis t (others ++ rest) false f)

along : (bytes : List ℕ) (names : Scope) (own left right rest : List Token) → own ≡ left ++ right → type_behind bytes names (behind marks.LeftParenthesis (left ++ (right ++ rest))) ≡ None → type_behind bytes names (behind marks.LeftParenthesis (own ++ rest)) ≡ None
along bytes names own left right rest e f = ap (λ (xs : List Token). type_behind bytes names (behind marks.LeftParenthesis xs)) (seam own left right rest e) ∙ f

unary_opens : (op : UnaryOp) (k : Kind) → k ≡ kinds.Mark (unary_mark op) → is_mark marks.LeftParenthesis k ≡ false
unary_opens unaries.Increment k e = ap (is_mark marks.LeftParenthesis) e
unary_opens unaries.Decrement k e = ap (is_mark marks.LeftParenthesis) e
unary_opens unaries.Plus k e = ap (is_mark marks.LeftParenthesis) e
unary_opens unaries.Minus k e = ap (is_mark marks.LeftParenthesis) e
unary_opens unaries.Complement k e = ap (is_mark marks.LeftParenthesis) e
unary_opens unaries.Not k e = ap (is_mark marks.LeftParenthesis) e

-- no type name in parentheses begins with an operand of `sizeof`
pub no_type_behind : (bytes : List ℕ) (names : Scope) (t : Tree) (own rest : List Token) → Spells bytes t own → IsWell names t → 15 ≤ level_of t → type_behind bytes names (behind marks.LeftParenthesis (own ++ rest)) ≡ None
no_type_behind bytes names (constant line c) own rest s w l = at_mark bytes names own rest [] s.token s.whole (ap (is_mark marks.LeftParenthesis) s.is.kind)
no_type_behind bytes names (character line c) own rest s w l = at_mark bytes names own rest [] s.token s.whole (ap (is_mark marks.LeftParenthesis) s.is.kind)
no_type_behind bytes names (strings line []) own rest s w l = absurd s
no_type_behind bytes names (strings line (part ∷ parts)) own rest s w l = at_mark bytes names own rest s.rest s.token s.whole (ap (is_mark marks.LeftParenthesis) s.is.kind)
no_type_behind bytes names (name line n) own rest s w l = at_mark bytes names own rest [] s.token s.whole (ap (is_mark marks.LeftParenthesis) s.is.kind)
no_type_behind bytes names (parens line e) own rest s w l =
    ap (λ (xs : List Token). type_behind bytes names (behind marks.LeftParenthesis xs)) (from_token own rest s.rest s.token s.whole)
    ∙ ap (λ (o : Option (List Token)). type_behind bytes names o) (behind_gives marks.LeftParenthesis s.token (s.rest ++ rest) true (ap (is_mark marks.LeftParenthesis) s.is.kind))
    ∙ ap (λ (b : Bool). cond {A = Option (List Token)} b (Some (s.rest ++ rest)) None)
    (no_type_at bytes names s.rest rest (first_of bytes names s.rest s.behind.left s.behind.right s.behind.whole (first_token bytes names e s.behind.left s.behind.first w.1)))
no_type_behind bytes names (unary line op e) own rest s w l = at_mark bytes names own rest s.rest s.token s.whole (unary_opens op s.token.kind s.is.kind)
no_type_behind bytes names (address line e) own rest s w l = absurd w
no_type_behind bytes names (dereference line e) own rest s w l = absurd w
no_type_behind bytes names (cast line parts d e) own rest s w l = absurd (omega arith)
no_type_behind bytes names (sizeof_expr line e) own rest s w l = at_mark bytes names own rest s.rest s.token s.whole (ap (is_mark marks.LeftParenthesis) s.is.kind)
no_type_behind bytes names (sizeof_type line parts d) own rest s w l = at_mark bytes names own rest s.rest s.token s.whole (ap (is_mark marks.LeftParenthesis) s.is.kind)
no_type_behind bytes names (step line op e) own rest s w l = along bytes names own s.left s.right rest s.whole (no_type_behind bytes names e s.left (s.right ++ rest) s.first w.1 (omega (arith, w.0)))
no_type_behind bytes names (member line e n) own rest s w l = along bytes names own s.left s.right rest s.whole (no_type_behind bytes names e s.left (s.right ++ rest) s.first w.1 (omega (arith, w.0)))
no_type_behind bytes names (arrow line e n) own rest s w l = absurd w
no_type_behind bytes names (subscript line a b) own rest s w l = absurd w
no_type_behind bytes names (binary line op a b) own rest s w l = absurd (let h = at_most_thirteen op in omega arith)
no_type_behind bytes names (choice line a b c) own rest s w l = absurd (omega arith)
no_type_behind bytes names (assign line op a b) own rest s w l = absurd (omega arith)
no_type_behind bytes names (comma line a b) own rest s w l = absurd (omega arith)
no_type_behind bytes names (call f args) own rest s w l = along bytes names own s.left s.right rest s.whole (no_type_behind bytes names f s.left (s.right ++ rest) s.first w.1 (omega (arith, w.0)))
