-- A case and a default of the innermost switch.
use Rattle.std.proofs.Common.{◌≡◌, ℕ, Bool, true, false, Option, Some, None, Ok, Err, ap, sym, ◌∙◌}
use Rattle.c_types.specs.declared.integers.IntegerType.{IntegerType}
use Rattle.c_values.specs.Numbers.{TypedNumber}
use Rattle.c_scope.specs.Scopes.{Cases, Scoped}
use Rattle.c_scope.specs.Faults.{◌>>=◌, required, fault, on_line}
use Rattle.c_operands.specs.Operands.{Operand, constant_in}
use Rattle.c_elab_flow.specs.Nodes.{case_of_switch, case_node, default_node}
use Rattle.c_elab_flow.specs.Steps.{CaseOf, CaseStep, DefaultOf, DefaultStep}

case_is : (switch : Option Cases) (x : Operand) (n : TypedNumber) → constant_in x ≡ Some n → case_node switch x ≡ case_of_switch switch n
case_is switch x n e = ap (λ (o : Option TypedNumber). required 13 o >>= λ m. case_of_switch switch m) e

pub case_stands : (line : ℕ) (before taken now : Scoped) (x : Operand) (n : TypedNumber) (c : IntegerType × ℕ) (switch behind : Option Cases) → constant_in x ≡ Some n → switch ≡ before.flow.switch
    → CaseOf (Ok c) behind (case_of_switch switch n) → taken ≡ record before { flow = record before.flow { switch = None } } → now ≡ record taken { flow = record taken.flow { switch = behind } }
    → CaseStep (Ok c) before now (on_line line (case_node before.flow.switch x))
case_stands line before taken now x n c switch None e is h left put = absurd h
case_stands line before taken now x n c switch (Some cases) e is h left put = (
  cases,
  ap (on_line line) (case_is before.flow.switch x n e ∙ ap (λ (o : Option Cases). case_of_switch o n) (sym is) ∙ h),
  put ∙ ap (λ (t : Scoped). record t { flow = record t.flow { switch = Some cases } }) left,
)

pub case_fails : (line rule : ℕ) (before : Scoped) (x : Operand) (n : TypedNumber) (switch behind : Option Cases) → constant_in x ≡ Some n → switch ≡ before.flow.switch
    → CaseOf (Err rule) behind (case_of_switch switch n) → on_line line (case_node before.flow.switch x) ≡ Err (fault line rule)
case_fails line rule before x n switch behind e is h = ap (on_line line) (case_is before.flow.switch x n e ∙ ap (λ (o : Option Cases). case_of_switch o n) (sym is) ∙ h)

pub default_stands : (line : ℕ) (before taken now : Scoped) (switch behind : Option Cases) (first : Bool) → first ≡ true → switch ≡ before.flow.switch → DefaultOf first behind (default_node switch)
    → taken ≡ record before { flow = record before.flow { switch = None } } → now ≡ record taken { flow = record taken.flow { switch = behind } }
    → DefaultStep (Ok tt) before now (on_line line (default_node before.flow.switch))
default_stands line before taken now switch behind false f is h left put = let none : ⊥ = cc in absurd none
default_stands line before taken now switch None true f is h left put = absurd h
default_stands line before taken now switch (Some cases) true f is h left put =
    (cases, ap (on_line line) (ap default_node (sym is) ∙ h), put ∙ ap (λ (t : Scoped). record t { flow = record t.flow { switch = Some cases } }) left)

pub default_fails : (line : ℕ) (before : Scoped) (switch behind : Option Cases) (first : Bool) → first ≡ false → switch ≡ before.flow.switch → DefaultOf first behind (default_node switch)
    → on_line line (default_node before.flow.switch) ≡ Err (fault line 14)
default_fails line before switch behind true f is h = let none : ⊥ = cc in absurd none
default_fails line before switch behind false f is h = ap (on_line line) (ap default_node (sym is) ∙ h)
