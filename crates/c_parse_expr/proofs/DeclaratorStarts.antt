-- What a declarator begins with, in both directions.
use Rattle.std.proofs.Common.{◌≡◌, List, [], ◌∷◌, Bool, true, false, cond, Option, Some, None, refl, ap, ◌∙◌}
use Rattle.c_token.specs.declared.token.Token.{Token}
use Rattle.c_token.specs.declared.token.Kind.TheVariants as kinds
use Rattle.c_token.specs.declared.token.Mark.TheVariants as marks
use Rattle.c_parse_expr.specs.declared.declarator_start.DeclaratorStart.{DeclaratorStart}
use Rattle.c_parse_expr.specs.declared.declarator_start.DeclaratorStart.TheVariants as declarator_starts
use Rattle.c_parse_expr.specs.Reading.{is_mark}
use Rattle.c_parse_expr.specs.inner.Reading.{is_identifier, declarator_start_at}
use Rattle.c_parse_expr.specs.Standing.{opens}
use Rattle.c_parse_expr.proofs.Marks.{identifier_is}

-- an identifier at the front
abbrev pub HasName : List Token → Type 0
HasName [] = ⊥
HasName (t ∷ ts) = t.kind ≡ kinds.Identifier

-- what is known of the tokens where a declarator begins so
abbrev pub Begins : DeclaratorStart → Bool → List Token → Type 0
Begins declarator_starts.Name with_name ts = (with_name ≡ true) × HasName ts
Begins declarator_starts.Inside with_name ts = opens marks.LeftParenthesis ts ≡ true
Begins declarator_starts.Suffixes with_name ts = (with_name ≡ false) × (opens marks.LeftBracket ts ≡ true)
Begins declarator_starts.Nothing with_name ts = (with_name ≡ false) × (opens marks.LeftBracket ts ≡ false) × (opens marks.LeftParenthesis ts ≡ false)

by_flags : (t : Token) (ts : List Token) (parenthesis with_name name bracket : Bool) → is_mark marks.LeftParenthesis t.kind ≡ parenthesis → is_identifier t.kind ≡ name → is_mark marks.LeftBracket t.kind ≡ bracket
    → (h : DeclaratorStart) → cond parenthesis (Some declarator_starts.Inside) (cond with_name (cond name (Some declarator_starts.Name) None) (cond bracket (Some declarator_starts.Suffixes) (Some declarator_starts.Nothing))) ≡ Some h → Begins h with_name (t ∷ ts)
by_flags t ts true with_name name bracket p i b declarator_starts.Inside e = p
by_flags t ts true with_name name bracket p i b declarator_starts.Name e = absurd cc
by_flags t ts true with_name name bracket p i b declarator_starts.Suffixes e = absurd cc
by_flags t ts true with_name name bracket p i b declarator_starts.Nothing e = absurd cc
by_flags t ts false true true bracket p i b declarator_starts.Name e = (refl, identifier_is t.kind i)
by_flags t ts false true true bracket p i b declarator_starts.Inside e = absurd cc
by_flags t ts false true true bracket p i b declarator_starts.Suffixes e = absurd cc
by_flags t ts false true true bracket p i b declarator_starts.Nothing e = absurd cc
by_flags t ts false true false bracket p i b h e = absurd cc
by_flags t ts false false name true p i b declarator_starts.Suffixes e = (refl, b)
by_flags t ts false false name true p i b declarator_starts.Name e = absurd cc
by_flags t ts false false name true p i b declarator_starts.Inside e = absurd cc
by_flags t ts false false name true p i b declarator_starts.Nothing e = absurd cc
by_flags t ts false false name false p i b declarator_starts.Nothing e = (refl, b, p)
by_flags t ts false false name false p i b declarator_starts.Suffixes e = absurd cc
by_flags t ts false false name false p i b declarator_starts.Name e = absurd cc
by_flags t ts false false name false p i b declarator_starts.Inside e = absurd cc

bare_tokens : (with_name : Bool) (h : DeclaratorStart) → cond with_name None (Some declarator_starts.Nothing) ≡ Some h → Begins h with_name []
bare_tokens true h e = absurd cc
bare_tokens false declarator_starts.Nothing e = (refl, refl, refl)
bare_tokens false declarator_starts.Name e = absurd cc
bare_tokens false declarator_starts.Inside e = absurd cc
bare_tokens false declarator_starts.Suffixes e = absurd cc

pub declarator_start_begins : (with_name : Bool) (ts : List Token) (h : DeclaratorStart) → declarator_start_at with_name ts ≡ Some h → Begins h with_name ts
declarator_start_begins with_name [] h e = bare_tokens with_name h e
declarator_start_begins with_name (t ∷ ts) h e =
    by_flags t ts (is_mark marks.LeftParenthesis t.kind) with_name (is_identifier t.kind) (is_mark marks.LeftBracket t.kind) refl refl refl h e

-- nothing begins where no mark opens a declarator
pub nothing_begins : (ts : List Token) → opens marks.LeftBracket ts ≡ false → opens marks.LeftParenthesis ts ≡ false → declarator_start_at false ts ≡ Some declarator_starts.Nothing
nothing_begins [] e f = refl
nothing_begins (t ∷ ts) e f =
    ap (λ (p : Bool). cond {A = Option DeclaratorStart} p (Some declarator_starts.Inside) (cond (is_mark marks.LeftBracket t.kind) (Some declarator_starts.Suffixes) (Some declarator_starts.Nothing))) f
    ∙ ap (λ (b : Bool). cond {A = Option DeclaratorStart} b (Some declarator_starts.Suffixes) (Some declarator_starts.Nothing)) e
