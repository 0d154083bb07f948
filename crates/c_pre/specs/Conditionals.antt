-- Conditionals that are open at a place of a file (C11 6.10.1).
use Rattle.std.specs.Prelude.{ℕ, ◌+◌, ◌-◌, List, [], ◌∷◌, Bool, true, false, not, nat_lt}
use Rattle.c_token.specs.declared.token.Token.{Token}
use Rattle.c_pre.specs.declared.conditional.Taking.{Taking}
use Rattle.c_pre.specs.declared.conditional.Taking.TheVariants as takings
use Rattle.c_pre.specs.declared.conditional.Part.{Part}
use Rattle.c_pre.specs.declared.directive.Directive.{Directive}
use Rattle.c_pre.specs.declared.directive.Directive.TheVariants as directives
use Rattle.c_pre.specs.Lines.{directive_of}

-- how many `#endif` remain, for each line before them
abbrev pub ends_with : Directive → ℕ → ℕ
ends_with directives.Text n = n
ends_with directives.Nothing n = n
ends_with directives.Define n = n
ends_with directives.Undefine n = n
ends_with directives.Ifdef n = n - 1
ends_with directives.Ifndef n = n - 1
ends_with directives.Else n = n
ends_with directives.Endif n = n + 1
ends_with directives.Include n = n
ends_with directives.Other n = n

-- how many `#endif` of these lines end a conditional that begins before them
abbrev pub ends : List ℕ → List (List Token) → ℕ
ends bytes [] = 0
ends bytes (line ∷ lines) = ends_with (directive_of bytes line) (ends bytes lines)

-- a conditional that begins directly before these lines ends
abbrev pub has_end : List ℕ → List (List Token) → Bool
has_end bytes lines = nat_lt 0 (ends bytes lines)

abbrev pub is_read : Taking → Bool
is_read takings.Read = true
is_read takings.Passed = false
is_read takings.Hidden = false

abbrev pub is_hidden : Taking → Bool
is_hidden takings.Read = false
is_hidden takings.Passed = false
is_hidden takings.Hidden = true

-- the part behind `#else`
abbrev pub other : Taking → Taking
other takings.Read = takings.Passed
other takings.Passed = takings.Read
other takings.Hidden = takings.Hidden

-- the lines here are skipped; the innermost part is the first
abbrev pub skips : List Part → Bool
skips [] = false
skips (part ∷ parts) = not (is_read part.taking)
