-- The names and variables of parameters end with them.
use Rattle.std.proofs.Common.{◌≡◌, ◌≤◌, ◌-◌, ℕ, Bool, true, List, [], ◌∷◌, length, take, drop, Result, Ok, Err, ap, ap₂, sym, ◌∙◌, arith}
use Rattle.c_tree.specs.Declarations.{Parameters, full_end, full_parameters}
use Rattle.c_scope.specs.Faults.{◌>>=◌, Fault, Gives}
use Rattle.std.specs.Prelude.{OnOk, Vec}
use Rattle.std.specs.Global.{Global}
use Rattle.c_scope.specs.declared.fault.TypingError.{TypingError}
use Rattle.c_elab_base.specs.declared.derivations.Parameter.{Parameter as CodeParameter}
use Rattle.c_elab_base.specs.Derivations.{Parameter, called, view_parameters}
use Rattle.c_scope.specs.Scopes.{Environment, Named, Scoped, are_there, are_known}
use Rattle.c_scope.proofs.Variables.{are_there_wider}
use Rattle.c_elab_base.specs.Specifiers.{Passed, are_several, inner_region, ended, called_in_front}
use Rattle.c_elab_type.specs.Specifiers.{typed_suffixes, typed_parameters}
use Rattle.c_elab_base.proofs.Growing.{take_front, kept, inner_length}
use Rattle.c_elab_type.proofs.Settling.{PassedDone, parameters_done}

module _ (s : Scoped) (several : Bool) (ps : Parameters) (p : Passed) (made : typed_parameters (inner_region s) several (record { parameters = []; scope = s }) ps ≡ Ok p) where
  passed_done : PassedDone (record { parameters = []; scope = s }) p
  passed_done = parameters_done (inner_region s) several (record { parameters = []; scope = s }) ps p made

  pub names_within : length s.bindings ≤ length p.scope.bindings
  names_within = inner_length s.bindings p.scope.bindings passed_done.follows.names

  pub variables_within : length s.variables ≤ length p.scope.variables
  variables_within = passed_done.follows.variables

  pub names_end : drop (length p.scope.bindings - length s.bindings) p.scope.bindings ≡ s.bindings
  names_end = kept s.bindings p.scope.bindings passed_done.follows.names

  pub variables_end : take (length s.variables) p.scope.variables ≡ s.variables
  variables_end = ap (take (length s.variables)) passed_done.more.1 ∙ take_front s.variables passed_done.more.0

  -- no name before them is one of theirs
  pub names_there : are_known s ≡ true
      → are_there (length s.variables) (length p.scope.objects) (length p.scope.types) (length p.scope.records.declared) (drop (length p.scope.bindings - length s.bindings) p.scope.bindings) ≡ true
  names_there known =
      ap (are_there (length s.variables) (length p.scope.objects) (length p.scope.types) (length p.scope.records.declared)) names_end
      ∙ are_there_wider (length s.variables) (length s.variables) (length s.objects) (length p.scope.objects) (length s.types) (length p.scope.types) (length s.records.declared) (length p.scope.records.declared) s.bindings
      (omega arith) passed_done.follows.objects passed_done.follows.types passed_done.follows.records known

  pub scope_ends : record p.scope { bindings = drop (length p.scope.bindings - length s.bindings) p.scope.bindings; variables = take (length s.variables) p.scope.variables } ≡ ended s p.scope
  scope_ends = ap₂ (λ (env : Environment) (vs : List Named). record p.scope { bindings = env; variables = vs }) names_end variables_end

-- ---- as code ends them

module _ (s t now : Scoped) (line outer variables : ℕ) (ps : Parameters) (variadic : Bool) (made : List Parameter) (at : outer ≡ length s.bindings) (few : variables ≡ length s.variables)
    (typed : typed_parameters (inner_region s) (are_several ps) (record { parameters = []; scope = s }) ps ≡ Ok (record { parameters = made; scope = t }))
    (ends : now ≡ record t { bindings = drop (length t.bindings - outer) t.bindings; variables = take variables t.variables }) where
  scope_now : now ≡ ended s t
  scope_now =
      ends ∙ ap₂ (λ (n m : ℕ). record t { bindings = drop (length t.bindings - n) t.bindings; variables = take m t.variables }) at few
      ∙ scope_ends s (are_several ps) ps (record { parameters = made; scope = t }) typed

  pub suffix_ends : typed_suffixes s (full_parameters line ps variadic full_end) ≡ Ok (called made variadic ∷ [], now)
  suffix_ends =
      ap (λ (r : Result Passed Fault). r >>= λ p. called_in_front p.parameters variadic (typed_suffixes (ended s p.scope) full_end)) typed
      ∙ ap (λ (x : Scoped). Ok (called made variadic ∷ [], x)) (sym scope_now)

  pub names_now : now.bindings ≡ s.bindings
  names_now = ap (λ (x : Scoped). x.bindings) scope_now

  pub variables_now : now.variables ≡ s.variables
  variables_now = ap (λ (x : Scoped). x.variables) scope_now

-- ---- as code gives them

pub names_given : (r : Result (Vec CodeParameter Global) TypingError) (s t : Scoped) (ps : Parameters)
    → Gives (λ (v : Vec CodeParameter Global). record { parameters = view_parameters v.items; scope = t }) r (typed_parameters (inner_region s) (are_several ps) (record { parameters = []; scope = s }) ps)
    → OnOk r (length s.bindings ≤ length t.bindings)
names_given (Ok v) s t ps h = names_within s (are_several ps) ps (record { parameters = view_parameters v.items; scope = t }) h
names_given (Err e) s t ps h = tt
