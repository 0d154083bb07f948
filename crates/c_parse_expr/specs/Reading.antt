-- What reading gives, and what a token is to a tree before it.
use Rattle.std.specs.Prelude.{◌≡◌, ℕ, Bool, false, ◌&&◌, nat_le, Option, Some, None, Result, Ok, Err}
use Rattle.std.specs.Str.{bytes_eq}
use Rattle.c_token.specs.declared.token.Kind.{Kind}
use Rattle.c_token.specs.declared.token.Kind.TheVariants as kinds
use Rattle.c_token.specs.declared.token.Mark.{Mark}
use Rattle.c_token.specs.Spelling.{mark_text}
use Rattle.c_parse_expr.specs.declared.table.Suffix.{Suffix}
use Rattle.c_parse_expr.specs.declared.fault.Refused.{Refused}
use Rattle.c_parse_expr.specs.declared.fault.Refused.TheVariants as refusals
use Rattle.c_parse_expr.specs.Tables.{strength_behind, least_left}

-- What a function returned, seen by view, is what reading gives, unless memory ran out.
abbrev pub Fails : {Y : Type 0} → Refused → Option Y → Type 0
Fails refusals.Memory read = Unit {0}
Fails refusals.Syntax read = read ≡ None

abbrev pub Gives : {X Y : Type 0} → (X → Y) → Result X Refused → Option Y → Type 0
Gives view (Ok x) read = read ≡ Some (view x)
Gives view (Err e) read = Fails e read

abbrev pub is_mark : Mark → Kind → Bool
is_mark mark kinds.Identifier = false
is_mark mark (kinds.Keyword k) = false
is_mark mark (kinds.Constant c) = false
is_mark mark (kinds.Character c) = false
is_mark mark kinds.String = false
is_mark mark (kinds.Mark m) = bytes_eq (mark_text m) (mark_text mark)

-- a suffix goes on with a left operand of level l, where a tree of level k or more is read
abbrev pub goes_on : ℕ → ℕ → Suffix → Bool
goes_on k l s = nat_le k (strength_behind s) && nat_le (least_left s) l
