use Rattle.std.specs.Prelude.{ℕ, List, Contains}
use Rattle.outside.specs.Count.{one_more}
use Rattle.outside.specs.declared.calls.Calls.{Calls}

-- How many calls were made, up to 2^64 - 1, and the numbers of those that are to fail. The first call is number 1.
abbrev pub calls_made : Calls → ℕ
calls_made calls = calls.made

abbrev pub calls_to_fail : Calls → List ℕ
calls_to_fail calls = calls.failing.items

-- The call that is made next is to fail.
abbrev pub FailsNext : Calls → Type 0
FailsNext calls = Contains (calls_to_fail calls) (one_more (calls_made calls))
