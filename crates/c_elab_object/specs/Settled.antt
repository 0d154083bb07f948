-- Objects of which one more declarator says nothing new.
use Rattle.std.specs.Prelude.{Bool, true, not, ◌&&◌, ◌||◌, Option, Some, None}
use Rattle.c_scope.specs.Scopes.{ObjectEntry}

-- its length is known, and it is defined already or not by this declarator; or there is no object
abbrev pub is_settled : Option ObjectEntry → Bool → Bool
is_settled None defines = true
is_settled (Some o) defines = not o.unknown_length && (o.defined || not defines)
