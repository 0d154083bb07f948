-- What a step over the cases of a switch says.
use Rattle.std.specs.Prelude.{◌≡◌, ℕ, Bool, true, false, Option, Some, None, Result, Ok, Err}
use Rattle.c_scope.specs.declared.fault.TypingError.{TypingError}
use Rattle.c_types.specs.declared.integers.IntegerType.{IntegerType}
use Rattle.c_scope.specs.Scopes.{Cases, Scoped}
use Rattle.c_scope.specs.Faults.{Fault, Fails}
use Rattle.c_elab_flow.specs.Nodes.{with_cases}

-- a case among those of a switch, and in the scope
abbrev pub CaseAmong : Result (IntegerType × ℕ) ℕ → Cases → Result ((IntegerType × ℕ) × Cases) ℕ → Type 0
CaseAmong (Ok c) now node = node ≡ Ok (c, now)
CaseAmong (Err rule) now node = node ≡ Err rule

-- a case of a switch, if there is one, and the cases behind it
abbrev pub CaseOf : Result (IntegerType × ℕ) ℕ → Option Cases → Result ((IntegerType × ℕ) × Cases) ℕ → Type 0
CaseOf (Ok c) None node = ⊥
CaseOf (Ok c) (Some now) node = node ≡ Ok (c, now)
CaseOf (Err rule) now node = node ≡ Err rule

abbrev pub DefaultOf : Bool → Option Cases → Result Cases ℕ → Type 0
DefaultOf true None node = ⊥
DefaultOf true (Some now) node = node ≡ Ok now
DefaultOf false now node = node ≡ Err 14

abbrev pub CaseStep : Result (IntegerType × ℕ) TypingError → Scoped → Scoped → Result ((IntegerType × ℕ) × Cases) Fault → Type 0
CaseStep (Ok c) before now node = (cases : Cases) × (node ≡ Ok (c, cases)) × (now ≡ with_cases before cases)
CaseStep (Err e) before now node = Fails e node

abbrev pub DefaultStep : Result (Unit {0}) TypingError → Scoped → Scoped → Result Cases Fault → Type 0
DefaultStep (Ok u) before now node = (cases : Cases) × (node ≡ Ok cases) × (now ≡ with_cases before cases)
DefaultStep (Err e) before now node = Fails e node
