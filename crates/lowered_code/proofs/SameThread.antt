-- The code of a file does under the bounds of a command what the file means.
use Rattle.std.proofs.Common.{◌≡◌, ℕ, zero, suc, ◌+◌, ◌*◌, ◌<◌, ◌≤◌, Bool, true, false, List, [], ◌∷◌, length, map, Option, Some, None, refl, sym, ap, subst, ◌∙◌, arith, true≢false, suc-mul, zero-mul}
use Rattle.std.specs.Prelude.{◌==◌, ◌&&◌, nat_lt, is_some, is_none, replicate, slice_get, if◌then◌else◌}
use Rattle.std.specs.List.{list_all}
use Rattle.std.specs.Str.{bytes_eq}
use Rattle.std.proofs.lemmas.Option.{slice_get_within}
use Rattle.std.proofs.lemmas.Bool.Decides.{nat_tests}
use Rattle.c_types.specs.declared.integers.IntegerType.TheVariants.{Int}
use Rattle.core_tree.specs.declared.functions.PassedType.{PassedType}
use Rattle.core_tree.specs.declared.functions.PassedType.TheVariants as passed_types
use Rattle.core_tree.specs.Ranges.{Limits, LoopLimit}
use Rattle.core_tree.specs.Trees.{Statement, Procedure, TypedFile}
use Rattle.core_tree.specs.Typed.{signature, same_given, are_static, is_typed_function, are_typed, have_small}
use Rattle.actions.specs.Behaviour.{word_64, shape_of, has_shape}
use Rattle.actions.specs.declared.action.Action.TheVariants.{Exit}
use Rattle.actions.specs.declared.action.Answer.{Answer}
use Rattle.actions.specs.declared.action.Next.TheVariants.{Ended, Blocked}
use Rattle.c_profile.specs.Rules.{breach, earlier, is_main, is_int_without_parameters, definition_breach, main_breach, functions_breach, objects_breach, first_breach}
use Rattle.c_meaning.specs.Meaning as source
use Rattle.c_meaning.specs.Source as source_threads
use Rattle.c_meaning.specs.Source.{code_of, main_number, source_thread}
use Rattle.goto_prog.specs.Meaning.{Given}
use Rattle.goto_prog.specs.Same.{DoSame}
use Rattle.goto_prog.specs.Structured as flat
use Rattle.goto_prog.specs.Structured.{Bounded, can_start}
use Rattle.goto_prog.specs.Nodes.{Routine}
use Rattle.c_temporaries.specs.Temporaries.{heap_bytes}
use Rattle.lowered_code.specs.Lowered.{first_literal, code_by, function_code, function_codes}
use Rattle.lowered_code.proofs.RegisterTypes.{left_of, right_of}
use Rattle.lowered_code.proofs.Placing.{same_final}
use Rattle.lowered_code.proofs.ExpressionCode.{Callable, handed, AreArguments, same_passing}
use Rattle.lowered_code.proofs.Defined.{first_none, second_none, callable, callable_is}
use Rattle.lowered_code.proofs.FunctionCode.{codes_at, calls_agree}

-- ---- the codes of functions

pub codes_length : (literals number : ℕ) (functions : List Procedure) → length (function_codes literals number functions) ≡ length functions
codes_length literals number [] = refl
codes_length literals number (f ∷ functions) = ap suc (codes_length literals (number + 1) functions)

code_name : (literals number : ℕ) (f : Procedure) (body : Option Statement) → (code_by literals number f body).name ≡ f.name
code_name literals number f None = refl
code_name literals number f (Some s) = refl

code_line : (literals number : ℕ) (f : Procedure) (body : Option Statement) → (code_by literals number f body).line ≡ f.line
code_line literals number f None = refl
code_line literals number f (Some s) = refl

code_starts : (literals number : ℕ) (f : Procedure) (body : Option Statement) → (code_by literals number f body).startable ≡ false
code_starts literals number f None = refl
code_starts literals number f (Some s) = refl

names_same : (literals number : ℕ) (functions : List Procedure) (k : ℕ) → flat.name_of (slice_get (function_codes literals number functions) k) ≡ source_threads.name_of (slice_get functions k)
names_same literals number [] k = refl
names_same literals number (f ∷ functions) zero = code_name literals number f f.body
names_same literals number (f ∷ functions) (suc k) = names_same literals (number + 1) functions k

never_startable : (literals number : ℕ) (functions : List Procedure) (k : ℕ) → can_start (slice_get (function_codes literals number functions) k) ≡ false
never_startable literals number [] k = refl
never_startable literals number (f ∷ functions) zero = code_starts literals number f f.body
never_startable literals number (f ∷ functions) (suc k) = never_startable literals (number + 1) functions k

never_less : (k : ℕ) → nat_lt k 0 ≡ false
never_less k = grind (arith, nat_tests)

signature_at : (functions : List Procedure) (k : ℕ) (p : Procedure) → slice_get functions k ≡ Some p → slice_get (map callable functions) k ≡ Some (callable p)
signature_at [] k p found = absurd (cc)
signature_at (f ∷ functions) zero p found = let same : f ≡ p = cc in ap (λ q. Some (callable q)) same
signature_at (f ∷ functions) (suc k) p found = signature_at functions k p found

-- ---- bounds

bounds_same : (set : List LoopLimit) (others : ℕ) (name : List ℕ) (loop : ℕ) → flat.tests_in set others name loop ≡ source_threads.tests_in set others name loop
bounds_same [] others name loop = refl
bounds_same (b ∷ set) others name loop = ap (λ (n : ℕ). if bytes_eq b.function name && b.number == loop then b.unwind else n) (bounds_same set others name loop)

total_is : (n k : ℕ) → source.total (replicate n k) ≡ n * k
total_is zero k = sym (zero-mul k)
total_is (suc n) k = ap (λ rest. k + rest) (total_is n k) ∙ sum
  where
    sum : k + n * k ≡ suc n * k
    sum = let m : ℕ = n * k in omega (arith, suc-mul n k)

-- ---- the function named main

pub record IsMain (p : Procedure) : Type 0 where
  pub body : is_some p.body ≡ true
  pub gives : p.gives ≡ Some (passed_types.Integer Int)
  pub parameters : p.parameters ≡ []

pub record Main (functions : List Procedure) : Type 0 where
  pub procedure : Procedure
  pub there : slice_get functions (main_number functions) ≡ Some procedure
  pub defined : IsMain procedure

no_parameters : (ps : List PassedType) → (length ps == 0) ≡ true → ps ≡ []
no_parameters [] h = refl
no_parameters (p ∷ ps) h = absurd (omega (arith, none (length (p ∷ ps)) h))
  where
    none : (n : ℕ) → (n == 0) ≡ true → n ≡ 0
    none n h = grind (arith, nat_tests)

is_defined_main : (f : Procedure) → definition_breach f ≡ None → IsMain f
is_defined_main f h = by_body (is_some f.body) (is_int_without_parameters f) refl refl h
  where
    by_body : (z w : Bool) → z ≡ is_some f.body → w ≡ is_int_without_parameters f → (if z then (if w then None else Some (breach f.line 1)) else Some (breach 1 1)) ≡ None → IsMain f
    by_body true true has same h =
        let both = left_of (same_given f.gives (Some (passed_types.Integer Int)) && (length f.parameters == 0)) (is_none f.ellipsis) (sym same) in
        record {
          body = sym has;
          gives = same_passing f.gives (Some (passed_types.Integer Int)) (left_of (same_given f.gives (Some (passed_types.Integer Int))) (length f.parameters == 0) both);
          parameters = no_parameters f.parameters (right_of (same_given f.gives (Some (passed_types.Integer Int))) (length f.parameters == 0) both);
        }
    by_body true false has same h = absurd (cc)
    by_body false w has same h = absurd (cc)

by_name : (f : Procedure) (functions : List Procedure) (z : Bool) → (if z then definition_breach f else main_breach functions) ≡ None
    → (main_breach functions ≡ None → Main functions) → (p : Procedure) × (slice_get (f ∷ functions) (if z then 0 else main_number functions + 1) ≡ Some p) × IsMain p
by_name f functions true h later = (f, refl, is_defined_main f h)
by_name f functions false h later =
    let found = later h in
    let next : main_number functions + 1 ≡ suc (main_number functions) = omega arith in
    (found.procedure, ap (λ n. slice_get (f ∷ functions) n) next ∙ found.there, found.defined)

pub main_is : (functions : List Procedure) → main_breach functions ≡ None → Main functions
main_is [] h = absurd (cc)
main_is (f ∷ functions) h = let found = by_name f functions (is_main f) h (main_is functions) in record { procedure = found.0; there = found.1; defined = found.2 }

-- ---- threads

module _ (file : TypedFile) (limits : Limits) (typed : are_typed file ≡ true) (clean : functions_breach file.functions file.functions ≡ None) (small : have_small file.functions ≡ true) (few : limits.malloc_limit ≤ heap_bytes) where
  abbrev functions : List Procedure
  functions = file.functions

  abbrev literals : ℕ
  literals = first_literal file

  abbrev codes : List Routine
  codes = function_codes literals 0 functions

  abbrev bounded : Bounded
  bounded = record { strict = true; functions = codes; limits = limits }

  abbrev tests_of : ℕ → ℕ → ℕ
  tests_of f n = source_threads.tests_in limits.set limits.unwind (source_threads.name_of (slice_get functions f)) n

  tests_same : (f l : ℕ) → flat.tests bounded f l ≡ tests_of f l
  tests_same f l = (λ i. flat.tests_in limits.set limits.unwind (names_same literals 0 functions f i) l) ∙ bounds_same limits.set limits.unwind (source_threads.name_of (slice_get functions f)) l

  all_typed : list_all (is_typed_function file) functions ≡ true
  all_typed = right_of (are_static file) (list_all (is_typed_function file) functions) typed

  leaves_same : (number line : ℕ) (given : Given) (meant : source.Given) → flat.leaves true number line given ≡ source_threads.leaves true number line meant
  leaves_same number line given meant = λ i answers. by_answers answers i
    where
      by_answers : (answers : List Answer) → flat.leaves true number line given answers ≡ source_threads.leaves true number line meant answers
      by_answers [] = refl
      by_answers (a ∷ answers) = λ i. if has_shape (shape_of Exit) a then same_final (Ended (word_64 0)) i answers else Blocked

  fuel_is : flat.first_fuel bounded ≡ suc (source.total (source_threads.first_left functions limits))
  fuel_is =
      let n = length codes * limits.unwind in
      let many : n ≡ length functions * limits.unwind = ap (λ k. k * limits.unwind) (codes_length literals 0 functions) in
      omega (arith, many, total_is (length functions) limits.unwind)

  main_does : (number : ℕ) (p : Procedure) → slice_get functions number ≡ Some p → IsMain p → flat.function_behaviour bounded true number ≡ source_threads.function_behaviour file limits true number
  main_does number p found is_it =
      let here : 0 + number ≡ number = omega arith in
      let got : slice_get codes number ≡ Some (function_code literals number p) = codes_at literals 0 functions number p found ∙ ap (λ n. Some (function_code literals n p)) here in
      let signed : slice_get (map callable functions) number ≡ Some (signature p) = signature_at functions number p found ∙ ap Some (callable_is p.body p is_it.body) in
      let can : Callable p.gives = subst Callable (sym is_it.gives) tt in
      let are : AreArguments p.parameters [] [] = subst (λ (ps : List PassedType). AreArguments ps [] []) (sym is_it.parameters) tt in
      (λ i. flat.runs_at bounded true number (got i))
      ∙ (λ i. flat.activation bounded (fuel_is i) (replicate (codes_length literals 0 functions i) limits.unwind) number number (code_line literals number p p.body i) [] (flat.leaves true number (code_line literals number p p.body i)))
      ∙ calls_agree file limits all_typed clean small few tests_of tests_same (suc (source.total (source_threads.first_left functions limits))) (source_threads.first_left functions limits) number number p.line (signature p) [] []
      (flat.leaves true number p.line) (source_threads.leaves true number p.line) signed can are (λ given is. leaves_same number p.line (handed p.gives given) given)
      ∙ (λ i. source_threads.runs_at file limits true number (sym found i))

-- neither `main` nor a function breaks a rule
main_clean : (file : TypedFile) → first_breach file ≡ None → main_breach file.functions ≡ None
main_clean file admitted = first_none (main_breach file.functions) (earlier (functions_breach file.functions file.functions) (objects_breach file.objects)) admitted

functions_clean : (file : TypedFile) → first_breach file ≡ None → functions_breach file.functions file.functions ≡ None
functions_clean file admitted =
    first_none (functions_breach file.functions file.functions) (objects_breach file.objects) (second_none (main_breach file.functions) (earlier (functions_breach file.functions file.functions) (objects_breach file.objects)) admitted)

pub same_thread : (file : TypedFile) → first_breach file ≡ None → are_typed file ≡ true → have_small file.functions ≡ true → (limits : Limits) → limits.malloc_limit ≤ heap_bytes
    → DoSame (flat.function_thread (record { strict = true; functions = function_codes (first_literal file) 0 file.functions; limits = limits }) true (main_number file.functions)) (source_thread file limits)
same_thread file admitted typed small limits few =
    let main = main_is file.functions (main_clean file admitted) in
    record {
      behaves = main_does file limits typed (functions_clean file admitted) small few (main_number file.functions) main.procedure main.there main.defined;
      startable = λ k. never_startable (first_literal file) 0 file.functions k ∙ sym (never_less k);
      others = λ k v can started. absurd (true≢false (sym can ∙ never_startable (first_literal file) 0 file.functions k));
    }

pub main_below : (file : TypedFile) → first_breach file ≡ None → main_number file.functions < length file.functions
main_below file admitted =
    let main = main_is file.functions (main_clean file admitted) in
    slice_get_within file.functions (main_number file.functions) main.procedure main.there
