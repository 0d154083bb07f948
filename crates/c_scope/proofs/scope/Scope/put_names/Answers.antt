use Rattle.std.proofs.Common.{◌≡◌, ◌++◌, ◌∷◌, [], List, ℕ, true, length, map, sym, ap, ◌∙◌}
use Rattle.std.proofs.lemmas.List.{map-append, append_assoc}
use Rattle.std.proofs.lemmas.List.Folds.{list_all-append}
use Rattle.std.specs.Prelude.{Vec}
use Rattle.std.specs.Global.{Global}
use Rattle.c_scope.specs.declared.meaning.Meaning.{Meaning}
use Rattle.c_scope.specs.Scopes.{Binding, Environment, Scoped, binding, is_there, are_there}
use Rattle.c_scope.proofs.Variables.{both}
use Rattle.c_scope.proofs.scope.Scope.put_names.Goals as goal

abbrev Names : Type 0
Names = List (Vec ℕ Global × Meaning)

abbrev bound : Names → Environment
bound names = map (λ b. binding b.0.items b.1) names

bound_last : (rest : Names) (b : Vec ℕ Global × Meaning) → bound (rest ++ b ∷ []) ≡ bound rest ++ binding b.0.items b.1 ∷ []
bound_last rest b = map-append (λ (x : Vec ℕ Global × Meaning). binding x.0.items x.1) rest (b ∷ [])

-- what names mean is there, and what the last means
parts_there : (s : Scoped) (rest : Names) (b : Vec ℕ Global × Meaning) (all : Names) → all ≡ rest ++ b ∷ []
    → are_there (length s.variables) (length s.objects) (length s.types) (length s.records.declared) (bound all) ≡ true
    → (are_there (length s.variables) (length s.objects) (length s.types) (length s.records.declared) (bound rest) ≡ true) × (is_there (length s.variables) (length s.objects) (length s.types) (length s.records.declared) b.1 ≡ true)
parts_there s rest b all is h =
    let there = λ (env : Environment). are_there (length s.variables) (length s.objects) (length s.types) (length s.records.declared) env in
    let one = λ (x : Binding). is_there (length s.variables) (length s.objects) (length s.types) (length s.records.declared) x.meaning in
    let split = sym (list_all-append one (bound rest) (binding b.0.items b.1 ∷ [])) ∙ sym (ap there (ap bound is ∙ bound_last rest b)) ∙ h in
    let parts = both (there (bound rest)) (there (binding b.0.items b.1 ∷ [])) split in
    (parts.0, (both (one (binding b.0.items b.1)) true parts.1).0)

pub left-preserved : goal.left-preserved
left-preserved c =
    let now = c.left.self in
    let next = c.declare.new.self in
    let rest = c.pop.new.self.items in
    let b : Vec ℕ Global × Meaning = (c.in-Some.name, c.in-Some.meaning) in
    let parts = parts_there now rest b c.left.left.items c.in-Some.ensures.items c.left.invariant.there in
    let more : next ≡ record now { bindings = binding c.in-Some.name.items c.in-Some.meaning ∷ now.bindings } =
    c.in_ok-declare.ensures.declared ∙ ap (λ (n : List ℕ). record now { bindings = binding n c.in-Some.meaning ∷ now.bindings }) c.deref.ensures.value in
    record {
      there = ap (λ (s : Scoped). are_there (length s.variables) (length s.objects) (length s.types) (length s.records.declared) (bound rest)) more ∙ parts.0;
      put = ap (λ (s : Scoped). record s { bindings = bound rest ++ s.bindings }) more
          ∙ sym (ap (λ (env : Environment). record now { bindings = env }) (append_assoc (bound rest) (binding c.in-Some.name.items c.in-Some.meaning ∷ []) now.bindings))
          ∙ sym (ap (λ (ns : Names). record now { bindings = bound ns ++ now.bindings }) c.in-Some.ensures.items ∙ ap (λ (env : Environment). record now { bindings = env ++ now.bindings }) (bound_last rest b))
          ∙ c.left.invariant.put;
    }
