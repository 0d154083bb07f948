-- The threads of plain code with its checks do what those of strict code do.
use Rattle.std.proofs.Common.{◌≡◌, ℕ, zero, suc, ◌+◌, ◌*◌, Bool, true, false, List, [], ◌∷◌, map, length, Option, Some, None, refl, sym, ap, ◌∙◌}
use Rattle.std.proofs.lemmas.List.{length-map}
use Rattle.std.specs.Prelude.{◌==◌, slice_get, slice_index, replicate, option_map, if◌then◌else◌}
use Rattle.std.proofs.lemmas.Option.{slice_get-map}
use Rattle.words.specs.declared.check.Class.TheVariants.{Recursion}
use Rattle.core_tree.specs.Ranges.{Limits}
use Rattle.actions.specs.Behaviour.{Behaviour}
use Rattle.goto_prog.specs.Meaning.{Memory, Given, at}
use Rattle.goto_prog.specs.Threads.{Calls, acting}
use Rattle.goto_prog.specs.Nodes.{Routine, view_procedures}
use Rattle.goto_prog.specs.Structured.{Bounded, name_of, passed, entry_memory, nodes_before, enters, opened, activation, first_fuel, first_left, leaves, runs_at, can_start}
use Rattle.goto_prog.specs.GotoThreads.{GotoFile, plain_thread, strict_thread}
use Rattle.goto_prog.specs.Same.{DoSame}
use Rattle.goto_checks.specs.Inserted.{inserted, with_inserted}
use Rattle.goto_checks.proofs.SameCode.{Same, same_nodes}

module _ (functions : List Routine) (limits : Limits) where
  abbrev strict : Bounded
  strict = record { strict = true; functions = functions; limits = limits }

  abbrev checked : Bounded
  checked = record { strict = false; functions = map with_inserted functions; limits = limits }

  same_name : (p : Option Routine) → name_of (option_map with_inserted p) ≡ name_of p
  same_name None = refl
  same_name (Some p) = refl

  named : (f : ℕ) → name_of (slice_get (map with_inserted functions) f) ≡ name_of (slice_get functions f)
  named f = ap name_of (slice_get-map with_inserted functions f) ∙ same_name (slice_get functions f)

  last_place : (calls : Calls) (follows : Given → Behaviour) → Same functions (map with_inserted functions) limits named (acting calls follows) ((λ last. follows None) ∷ []) (1 ∷ []) ((λ last. follows None) ∷ [])
  last_place calls follows zero m = refl
  last_place calls follows (suc zero) m = refl
  last_place calls follows (suc (suc n)) m = refl

  same_enters : (p : Option Routine) (calls : Calls) (arguments : List (List ℕ)) (follows : Given → Behaviour) → enters checked (option_map with_inserted p) calls arguments follows ≡ enters strict p calls arguments follows
  same_enters None calls arguments follows = refl
  same_enters (Some p) calls arguments follows =
      same_nodes functions (map with_inserted functions) limits named (acting calls follows) p.nodes ((λ last. follows None) ∷ []) (1 ∷ []) ((λ last. follows None) ∷ []) (last_place calls follows) 0 (entry_memory p arguments)

  chosen : (t : Bool) (x y z : Behaviour) → y ≡ z → (if t then x else y) ≡ (if t then x else z)
  chosen t x y z same = λ k. if t then x else same k

  same_activation : (fuel : ℕ) (left : List ℕ) → activation checked fuel left ≡ activation strict fuel left
  same_activation zero left = refl
  same_activation (suc fuel) left =
      λ k caller f line arguments follows.
      chosen (slice_index left f == 0) (passed limits.assertions Recursion line caller) _ _
      (ap (λ calls. enters checked (slice_get (map with_inserted functions) f) calls arguments follows) (same_activation fuel (opened left f))
      ∙ ap (λ p. enters checked p (activation strict fuel (opened left f)) arguments follows) (slice_get-map with_inserted functions f)
      ∙ same_enters (slice_get functions f) (activation strict fuel (opened left f)) arguments follows) k

  same_call : activation checked (first_fuel checked) (first_left checked) ≡ activation strict (first_fuel strict) (first_left strict)
  same_call =
      ap (λ n. activation checked (n * limits.unwind + 1) (replicate n limits.unwind)) (length-map functions with_inserted)
      ∙ same_activation (first_fuel strict) (first_left strict)

  same_runs : (first : Bool) (number : ℕ) (p : Option Routine) → runs_at checked first number (option_map with_inserted p) ≡ runs_at strict first number p
  same_runs first number None = refl
  same_runs first number (Some p) = ap (λ (calls : Calls). calls number number p.line [] (leaves first number p.line)) same_call

  pub same_behaviour : (first : Bool) (number : ℕ) → runs_at checked first number (slice_get (map with_inserted functions) number) ≡ runs_at strict first number (slice_get functions number)
  same_behaviour first number = ap (runs_at checked first number) (slice_get-map with_inserted functions number) ∙ same_runs first number (slice_get functions number)

  same_start : (p : Option Routine) → can_start (option_map with_inserted p) ≡ can_start p
  same_start None = refl
  same_start (Some p) = refl

  pub startable : (f : ℕ) → can_start (slice_get (map with_inserted functions) f) ≡ can_start (slice_get functions f)
  startable f = ap can_start (slice_get-map with_inserted functions f) ∙ same_start (slice_get functions f)

pub do_same : (g h : GotoFile) (limits : Limits) → view_procedures h.functions ≡ map with_inserted (view_procedures g.functions) → h.main ≡ g.main → DoSame (plain_thread h limits) (strict_thread g limits)
do_same g h limits functions main =
    let fs = view_procedures g.functions in
    let at = λ (rs : List Routine) (first : Bool) (number : ℕ). runs_at (record { strict = false; functions = rs; limits = limits }) first number (slice_get rs number) in
    record {
      behaves = (λ k. at (functions k) true (main k)) ∙ same_behaviour fs limits true g.main;
      startable = λ f. ap (λ rs. can_start (slice_get rs f)) functions ∙ startable fs limits f;
      others = λ f v can fits. ap (λ rs. at rs false f) functions ∙ same_behaviour fs limits false f;
    }
