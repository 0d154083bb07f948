-- The code of functions does what they mean, however they call one another.
use Rattle.std.proofs.Common.{◌≡◌, ℕ, zero, suc, ◌+◌, ◌-◌, ◌^◌, ◌<◌, ◌≤◌, Bool, true, false, take, drop, List, [], ◌∷◌, ◌++◌, length, map, Option, Some, None, refl, sym, ap, ◌∙◌, subst, arith, append_assoc, append-nil, length-append}
use Rattle.std.specs.Prelude.{◌==◌, ◌&&◌, ◌||◌, not, is_some, nat_lt, nat_le, slice_get, slice_index, if◌then◌else◌}
use Rattle.std.proofs.lemmas.Bool.{false≢true}
use Rattle.std.proofs.lemmas.List.{length-replicate, length-map}
use Rattle.std.proofs.Math.Seq.{get_or-append_seam, take-append_seam}
use Rattle.c_types.specs.declared.integers.IntegerType.{IntegerType}
use Rattle.words.specs.declared.check.Class.{Class}
use Rattle.words.specs.declared.check.Class.TheVariants.{Recursion}
use Rattle.core_tree.specs.declared.functions.PassedType.{PassedType}
use Rattle.core_tree.specs.Ranges.{Limits}
use Rattle.std.specs.List.{list_all}
use Rattle.core_tree.specs.declared.functions.Variable.{Variable}
use Rattle.core_tree.specs.Typed.{is_within, is_typed_function, is_home, Signature, Sizes, sizes_in, sizes_of_variables, homes_of, are_small, have_small, sizes_of_objects, passed_size, have_parameters, is_typed_body, is_typed_statement}
use Rattle.core_tree.specs.Trees.{Statement, Procedure, TypedFile}
use Rattle.c_values.specs.Variables.{Variables, block_of, put_at, zeros, first_variables}
use Rattle.actions.specs.Behaviour.{Behaviour}
use Rattle.actions.specs.declared.action.Next.TheVariants.{Broken, Blocked}
use Rattle.c_meaning.specs.Meaning as source
use Rattle.c_profile.specs.Rules.{functions_breach, body_breach}
use Rattle.actions.specs.Pointer.{offset_of}
use Rattle.c_meaning.specs.Meaning.{Running, Code, in_function, exec}
use Rattle.goto_prog.specs.Meaning.{Memory, Given, at}
use Rattle.goto_prog.specs.Threads.{Calls, acting}
use Rattle.goto_prog.specs.Nodes.{Routine}
use Rattle.goto_prog.specs.Structured as flat
use Rattle.goto_prog.specs.Structured.{Bounded, with_arguments, entry_memory}
use Rattle.lowered_code.specs.Lowering.{death_registers, statement_registers, parameters_registers, body_code}
use Rattle.lowered_code.specs.Registers.{death_types, statement_types, parameters_types}
use Rattle.c_temporaries.specs.Accesses.{home_in}
use Rattle.c_temporaries.specs.Temporaries.{Temporaries, heap_bytes, statement_temporaries}
use Rattle.lowered_code.specs.Lowered.{given_size, first_frame, first_literal, defined_code, code_by, function_code, function_codes}
use Rattle.lowered_code.proofs.RegisterTypes.{both, left_of, right_of}
use Rattle.lowered_code.proofs.BlockBytes.{small_offset}
use Rattle.lowered_code.proofs.Defined.{first_none, second_none, callable_by, callable, defined_only, statement_defined}
use Rattle.lowered_code.proofs.RegisterCounts.{death_length, parameters_length, statement_length}
use Rattle.lowered_code.proofs.HeapBytes.{few_statement}
use Rattle.lowered_code.proofs.Housing.{heap_is, housed_body}
use Rattle.lowered_code.proofs.Placing.{Places, same_final}
use Rattle.lowered_code.proofs.ExpressionCode.{SourceCalls, Callable, Sound, IsGiven, handed, AreArguments, Placed, frame, test_less, test_most, test_equal}
use Rattle.lowered_code.proofs.StatementCode.{Ready, body_means}

-- ---- the blocks of a function at its start

zeros_append : (vs ws : List ℕ) → first_variables (vs ++ ws) ≡ first_variables vs ++ first_variables ws
zeros_append [] ws = refl
zeros_append (v ∷ vs) ws = ap (λ (bs : Variables). zeros v ∷ bs) (zeros_append vs ws)

no_arguments : (ws : List ℕ) → with_arguments ws [] ≡ first_variables ws
no_arguments [] = refl
no_arguments (w ∷ ws) = refl

-- the arguments are for the first blocks
arguments_front : (vs ws : List ℕ) (args : List (List ℕ)) → length args ≤ length vs → with_arguments (vs ++ ws) args ≡ with_arguments vs args ++ first_variables ws
arguments_front [] ws [] few = no_arguments ws
arguments_front [] ws (a ∷ args) few = absurd (omega (arith, few))
arguments_front (v ∷ vs) ws [] few = zeros_append (v ∷ vs) ws
arguments_front (v ∷ vs) ws (a ∷ args) few = ap (λ (bs : Variables). put_at 0 (take v a) (zeros v) ∷ bs) (arguments_front vs ws args (omega (arith, few)))

short : (v : ℕ) (a : List ℕ) → length (take v a) ≤ v
short zero a = omega arith
short (suc v) [] = omega arith
short (suc v) (x ∷ a) = omega (arith, short v a)

put_size : (v : ℕ) (new : List ℕ) → length new ≤ v → length (put_at 0 new (zeros v)) ≡ v
put_size v new fits =
    let rest : length (drop (0 + length new) (zeros v)) ≡ length (zeros v) - (0 + length new) = length_drop (0 + length new) (zeros v) in
    omega (arith, fits, length-replicate {A = ℕ} v 0, length-append new (drop (0 + length new) (zeros v)), rest)
  where
    length_drop : (n : ℕ) (xs : List ℕ) → length (drop n xs) ≡ length xs - n
    length_drop zero xs = omega arith
    length_drop (suc n) [] = omega arith
    length_drop (suc n) (x ∷ xs) = omega (arith, length_drop n xs)

argument_sizes_are : (vs : List ℕ) (args : List (List ℕ)) → map length (with_arguments vs args) ≡ vs
argument_sizes_are [] args = refl
argument_sizes_are (v ∷ vs) [] = zero_sizes (v ∷ vs)
  where
    zero_sizes : (xs : List ℕ) → map length (first_variables xs) ≡ xs
    zero_sizes [] = refl
    zero_sizes (x ∷ xs) = λ i. length-replicate {A = ℕ} x 0 i ∷ zero_sizes xs i
argument_sizes_are (v ∷ vs) (a ∷ args) = λ i. put_size v (take v a) (short v a) i ∷ argument_sizes_are vs args i

-- the variables are the arguments and bytes that are 0
arguments_are : (vs : List ℕ) (ps : List PassedType) (blocks values : List (List ℕ)) → have_parameters vs ps ≡ true → AreArguments ps blocks values
    → with_arguments vs blocks ≡ values ++ first_variables (drop (length values) vs)
arguments_are vs [] [] [] fits are = no_arguments vs
arguments_are vs [] [] (v ∷ values) fits are = absurd are
arguments_are vs [] (b ∷ blocks) values fits are = absurd are
arguments_are [] (p ∷ ps) blocks values fits are = absurd (false≢true fits)
arguments_are (v ∷ vs) (p ∷ ps) [] values fits are = absurd are
arguments_are (v ∷ vs) (p ∷ ps) (b ∷ blocks) [] fits are = absurd are
arguments_are (v ∷ vs) (p ∷ ps) (b ∷ blocks) (x ∷ values) fits are =
    let size : v ≡ passed_size p = test_equal v (passed_size p) (left_of _ _ fits) in
    let whole : put_at 0 (take v b) (zeros v) ≡ x =
    (λ i. put_at 0 (take (size i) b) (zeros v)) ∙ (λ i. put_at 0 (are.0 i) (zeros v)) ∙ put_all x v (omega (arith, are.1, size)) in
    let more : length (x ∷ values) ≡ suc (length values) = omega arith in
    (λ i. whole i ∷ arguments_are vs ps blocks values (right_of _ _ fits) are.2 i)
    ∙ (λ i. x ∷ (values ++ first_variables (drop (sym more i) (v ∷ vs))))
  where
    put_all : (new : List ℕ) (n : ℕ) → length new ≡ n → put_at 0 new (zeros n) ≡ new
    put_all new n same = ap (λ xs. new ++ xs) (none (0 + length new) (zeros n) (omega (arith, same, length-replicate {A = ℕ} n 0))) ∙ append-nil new
      where
        none : (k : ℕ) (xs : List ℕ) → length xs ≤ k → drop k xs ≡ []
        none zero [] few = refl
        none zero (y ∷ xs) few = absurd (omega (arith, few))
        none (suc k) [] few = refl
        none (suc k) (y ∷ xs) few = none k xs (omega (arith, few))

argument_count_is : (ps : List PassedType) (vs : List ℕ) (blocks values : List (List ℕ)) → have_parameters vs ps ≡ true → AreArguments ps blocks values → length blocks ≤ length vs
argument_count_is [] vs [] [] fits are = omega arith
argument_count_is [] vs [] (v ∷ values) fits are = absurd are
argument_count_is [] vs (b ∷ blocks) values fits are = absurd are
argument_count_is (p ∷ ps) [] blocks values fits are = absurd (false≢true fits)
argument_count_is (p ∷ ps) (v ∷ vs) [] values fits are = absurd are
argument_count_is (p ∷ ps) (v ∷ vs) (b ∷ blocks) [] fits are = absurd are
argument_count_is (p ∷ ps) (v ∷ vs) (b ∷ blocks) (x ∷ values) fits are = omega (arith, argument_count_is ps vs blocks values (right_of _ _ fits) are.2)

-- ---- lists of functions

found_in : {A B : Type 0} (f : A → B) (xs : List A) (k : ℕ) (y : B) → slice_get (map f xs) k ≡ Some y → (x : A) × (slice_get xs k ≡ Some x) × (f x ≡ y)
found_in f [] k y h = absurd (cc)
found_in f (x ∷ xs) zero y h = let same : f x ≡ y = cc in (x, refl, same)
found_in f (x ∷ xs) (suc k) y h = found_in f xs k y h

pub codes_at : (literals number : ℕ) (procedures : List Procedure) (k : ℕ) (p : Procedure) → slice_get procedures k ≡ Some p → slice_get (function_codes literals number procedures) k ≡ Some (function_code literals (number + k) p)
codes_at literals number [] k p h = absurd (cc)
codes_at literals number (q ∷ procedures) zero p h =
    let same : q ≡ p = cc in
    let here : number ≡ number + 0 = omega arith in
    λ i. Some (function_code literals (here i) (same i))
codes_at literals number (q ∷ procedures) (suc k) p h =
    let there : number + 1 + k ≡ number + suc k = omega arith in
    codes_at literals (number + 1) procedures k p h ∙ ap (λ n. Some (function_code literals n p)) there

-- what holds of each holds of one
all_at : {A : Type 0} (test : A → Bool) (xs : List A) (k : ℕ) (x : A) → list_all test xs ≡ true → slice_get xs k ≡ Some x → test x ≡ true
all_at test [] k x h found = absurd (cc)
all_at test (y ∷ xs) zero x h found = let same : y ≡ x = cc in ap test (sym same) ∙ left_of (test y) (list_all test xs) h
all_at test (y ∷ xs) (suc k) x h found = all_at test xs k x (right_of (test y) (list_all test xs) h) found

-- no function breaks a rule where none does
clean_at : (functions procedures : List Procedure) (k : ℕ) (p : Procedure) → functions_breach functions procedures ≡ None → slice_get procedures k ≡ Some p → body_breach functions p.body ≡ None
clean_at functions [] k p h found = absurd (cc)
clean_at functions (q ∷ procedures) zero p h found = let same : q ≡ p = cc in subst (λ (r : Procedure). body_breach functions r.body ≡ None) same (second_none _ _ (first_none _ _ h))
clean_at functions (q ∷ procedures) (suc k) p h found = clean_at functions procedures k p (second_none _ _ h) found

-- a variable that holds an address has 8 bytes
home_at : (sizes : Sizes) (vs : List Variable) (v h : ℕ) → list_all (is_home sizes) (homes_of vs) ≡ true → home_in vs v ≡ Some h → is_home sizes (Some h) ≡ true
home_at sizes [] v h homes found = absurd (cc)
home_at sizes (x ∷ vs) zero h homes found = (λ i. is_home sizes (sym found i)) ∙ left_of (is_home sizes x.home) (list_all (is_home sizes) (homes_of vs)) homes
home_at sizes (x ∷ vs) (suc v) h homes found = home_at sizes vs v h (right_of (is_home sizes x.home) (list_all (is_home sizes) (homes_of vs)) homes) found

home_within : (sizes : Sizes) (h : ℕ) → is_home sizes (Some h) ≡ true → is_within sizes.variables h 0 8 ≡ true
home_within sizes h home =
    let eight : slice_index sizes.variables h ≡ 8 = test_equal (slice_index sizes.variables h) 8 (right_of (sizes.pointers && nat_lt h (length sizes.variables)) (slice_index sizes.variables h == 8) home) in
    both (nat_lt h (length sizes.variables)) (nat_le 8 (slice_index sizes.variables h))
    (right_of sizes.pointers (nat_lt h (length sizes.variables)) (left_of (sizes.pointers && nat_lt h (length sizes.variables)) (slice_index sizes.variables h == 8) home)) (ap (λ n. nat_le 8 n) eight)

small_at : (vs : List Variable) (v : ℕ) → are_small vs ≡ true → v < length (sizes_of_variables vs) → slice_index (sizes_of_variables vs) v < 2 ^ 31
small_at [] v h lt = absurd (omega (arith, lt))
small_at (x ∷ vs) zero h lt = test_less x.size (2 ^ 31) (left_of (nat_lt x.size (2 ^ 31)) (are_small vs) h)
small_at (x ∷ vs) (suc v) h lt = small_at vs v (right_of (nat_lt x.size (2 ^ 31)) (are_small vs) h) (omega (arith, lt))

zero_register : (ts : List IntegerType) → slice_index (map (λ t. 0) ts) 0 ≡ 0
zero_register [] = refl
zero_register (t ∷ ts) = refl

passed_same : (b : Bool) (class : Class) (line function : ℕ) → flat.passed b class line function ≡ source.passed b class line function
passed_same true class line function = same_final (Broken class line function)
passed_same false class line function = same_final Blocked

parameters_or : (a b : Bool) → (a || not b) ≡ true → b ≡ true → a ≡ true
parameters_or true b h k = refl
parameters_or false true h k = absurd (false≢true h)
parameters_or false false h k = absurd (false≢true k)

-- as many arguments as parameters
values_count : (ps : List PassedType) (blocks values : List (List ℕ)) → AreArguments ps blocks values → length values ≡ length ps
values_count [] [] [] are = refl
values_count [] [] (v ∷ values) are = absurd are
values_count [] (b ∷ blocks) values are = absurd are
values_count (p ∷ ps) [] values are = absurd are
values_count (p ∷ ps) (b ∷ blocks) [] are = absurd are
values_count (p ∷ ps) (b ∷ blocks) (v ∷ values) are = ap suc (values_count ps blocks values are.2)

parameters_count : (vs : List ℕ) (ps : List PassedType) → have_parameters vs ps ≡ true → length ps ≤ length vs
parameters_count vs [] fits = omega arith
parameters_count [] (p ∷ ps) fits = absurd (false≢true fits)
parameters_count (v ∷ vs) (p ∷ ps) fits = omega (arith, parameters_count vs ps (right_of _ _ fits))

-- ---- functions

-- over a file that is typed and breaks no rule, the bounds, and how many times tests may be evaluated
module _ (file : TypedFile) (limits : Limits) (all_typed : list_all (is_typed_function file) file.functions ≡ true)
    (all_clean : functions_breach file.functions file.functions ≡ None) (all_small : have_small file.functions ≡ true) (few : limits.malloc_limit ≤ heap_bytes)
    (tests_of : (function loop : ℕ) → ℕ) (tests_same : (f l : ℕ) → flat.tests (record { strict = true; functions = function_codes (first_literal file) 0 file.functions; limits = limits }) f l ≡ tests_of f l) where
  abbrev literals : ℕ
  literals = first_literal file

  abbrev codes : List Routine
  codes = function_codes literals 0 file.functions

  abbrev pub bounded : Bounded
  bounded = record { strict = true; functions = codes; limits = limits }

  abbrev pub meaning : Code
  meaning = record {
    functions = file.functions;
    tests = tests_of;
    assertions = limits.assertions;
    literals = literals;
    malloc_limit = limits.malloc_limit;
    malloc_may_fail = limits.malloc_may_fail;
  }

  abbrev signatures : List Signature
  signatures = map callable file.functions

  -- calls agree where so much fuel is left
  abbrev CallsAgree : ℕ → Type 0
  CallsAgree fuel =
      (left : List ℕ) (caller f line : ℕ) (g : Signature) (blocks values : List (List ℕ)) (x : Given → Behaviour) (y : source.Given → Behaviour)
      → slice_get signatures f ≡ Some g → Callable g.gives → AreArguments g.parameters blocks values
      → ((given : source.Given) → IsGiven g.gives given → x (handed g.gives given) ≡ y given)
      → flat.activation bounded fuel left caller f line blocks x ≡ source.activation meaning fuel left caller f line values y

  abbrev typed_body : Procedure → Statement → Type 0
  typed_body p s = is_typed_statement (defined_only file.functions (sizes_of_variables p.variables) (homes_of p.variables) (sizes_of_objects file.objects) (length file.literals) p.gives file.pointers) s ≡ true

  -- a function that is defined
  module _ (fuel : ℕ) (agrees : CallsAgree fuel) (left : List ℕ) (f : ℕ) (p : Procedure) (s : Statement) (blocks values : List (List ℕ)) (x : Given → Behaviour) (y : source.Given → Behaviour)
      (fits : have_parameters (sizes_of_variables p.variables) p.parameters ≡ true) (homes : list_all (is_home (sizes_in file p)) (homes_of p.variables) ≡ true) (small : are_small p.variables ≡ true)
      (typed : typed_body p s) (are : AreArguments p.parameters blocks values)
      (follows : (given : source.Given) → IsGiven p.gives given → x (handed p.gives given) ≡ y given) where
    abbrev running : Running
    running = record {
      function = f;
      line = p.line;
      variables = p.variables;
      tests = tests_of f;
      assertions = limits.assertions;
      literals = literals;
      malloc_limit = limits.malloc_limit;
      malloc_may_fail = limits.malloc_may_fail;
    }

    -- the sizes of the variables
    abbrev own : List ℕ
    own = sizes_of_variables p.variables

    abbrev needed : Temporaries
    needed = statement_temporaries p.variables s

    abbrev others : List ℕ
    others = needed.zeros ∷ given_size p.gives ∷ (needed.sizes ++ needed.heap ∷ [])

    abbrev calls : Calls
    calls = flat.activation bounded fuel left

    abbrev meant : SourceCalls
    meant = source.activation meaning fuel left f

    abbrev routine : Routine
    routine = defined_code literals f p s

    -- the first free block, and the one in which objects are made
    abbrev depth : ℕ
    depth = length own + 2

    abbrev heap : ℕ
    heap = length own + 2 + length needed.sizes

    abbrev total : ℕ
    total = length routine.registers

    abbrev start : Memory
    start = entry_memory routine blocks

    abbrev later : Places
    later = (λ last. x None) ∷ []

    blocks_are : start.blocks ≡ with_arguments own blocks ++ first_variables others
    blocks_are = arguments_front own others blocks (argument_count_is p.parameters own blocks values fits are)

    front_length : length (with_arguments own blocks) ≡ length own
    front_length = sym (length-map (with_arguments own blocks) length) ∙ ap length (argument_sizes_are own blocks)

    long : length (own ++ others) ≡ heap + 1
    long = omega (arith, length-append own others, length-append needed.sizes (needed.heap ∷ []))

    placed : Placed running others heap limits calls x meant depth start
    placed = record {
      deep = omega arith;
      within = omega (arith, long);
      last = long;
      most = omega (arith, heap_is own (given_size p.gives) needed, few_statement p.variables s);
      sized = argument_sizes_are (own ++ others) blocks;
      clean = (λ i. block_of (blocks_are i) (sym front_length i)) ∙ get_or-append_seam (with_arguments own blocks) (zeros needed.zeros) (first_variables (given_size p.gives ∷ (needed.sizes ++ needed.heap ∷ []))) []
          ∙ sym (ap zeros (get_or-append_seam own needed.zeros (given_size p.gives ∷ (needed.sizes ++ needed.heap ∷ [])) 0));
    }

    signature_agrees : (g : ℕ) (line : ℕ) (k : Signature) (bs vs : List (List ℕ)) (u : Given → Behaviour) (v : source.Given → Behaviour)
        → slice_get signatures g ≡ Some k → Callable k.gives → AreArguments k.parameters bs vs → ((given : source.Given) → IsGiven k.gives given → u (handed k.gives given) ≡ v given)
        → calls f g line bs u ≡ meant g line vs v
    signature_agrees g line k bs vs u v found can fit same = agrees left f g line k bs vs u v found can fit same

    small_within : (v offset count : ℕ) → is_within own v offset count ≡ true → offset_of offset ≡ offset
    small_within v offset count within =
        let there = test_less v (length own) (left_of (nat_lt v (length own)) (nat_le (offset + count) (slice_index own v)) within) in
        let most = test_most (offset + count) (slice_index own v) (right_of (nat_lt v (length own)) (nat_le (offset + count) (slice_index own v)) within) in
        let small_size : slice_index own v < 2 ^ 31 = small_at p.variables v small there in
        small_offset offset (omega (arith, most, small_size))

    sound : Sound running others heap limits calls x meant signatures
    sound = record {
      agree = signature_agrees;
      homed = λ v h found. home_within (sizes_in file p) h (home_at (sizes_in file p) p.variables v h homes found);
      limited = few;
      bounded = refl;
      failing = refl;
      small = small_within;
    }

    registers_there : 1 + (death_registers p.variables + (statement_registers p.variables s + parameters_registers p.variables (length p.parameters) 0)) ≤ total
    registers_there =
        let body = statement_types p.variables s in
        let behind = parameters_types p.variables (length p.parameters) in
        omega (
          arith,
          length-append (death_types p.variables) (body ++ behind),
          length-append body behind,
          death_length p.variables,
          statement_length p.variables s,
          parameters_length p.variables (length p.parameters),
        )

    ready : Ready running others (sizes_of_objects file.objects) heap (length file.literals) signatures p.gives file.pointers limits calls x meant sound codes depth total start
    ready = record { placed = placed; zero_there = zero_register routine.registers; room = length-map {B = ℕ} routine.registers (λ t. 0) }

    result_size : slice_index (own ++ others) (length own + 1) ≡ given_size p.gives
    result_size =
        let front = own ++ needed.zeros ∷ [] in
        let rest = needed.sizes ++ needed.heap ∷ [] in
        let at_end : length front ≡ length own + 1 = length-append own (needed.zeros ∷ []) in
        (λ i. slice_index (sym (append_assoc own (needed.zeros ∷ []) (given_size p.gives ∷ rest)) i) (sym at_end i))
        ∙ get_or-append_seam front (given_size p.gives) rest 0

    shown_start : take (length own) start.blocks ≡ source.frame running values
    shown_start =
        let front = with_arguments own blocks in
        (λ i. take (length own) (blocks_are i))
        ∙ (λ i. take (sym front_length i) (front ++ first_variables others))
        ∙ take-append_seam front (first_variables others)
        ∙ arguments_are own p.parameters blocks values fits are

    -- the frame counts the sizes of the variables, which are as many as these
    same_frame : first_frame literals f p.variables (length needed.sizes) ≡ frame running others heap limits calls x meant depth
    same_frame =
        let many : length p.variables ≡ length own = sym (length-map p.variables (λ (v : Variable). v.size)) in
        λ i. record {
          function = f;
          variables = p.variables;
          zeros = many i;
          result = many i + 1;
          free = many i + 2;
          heap = many i + 2 + length needed.sizes;
          literals = literals;
        }

    defined_means : at (acting calls x) (flat.nodes_before bounded (acting calls x) routine.nodes later) 0 start ≡ source.exec_body running meant s values y
    defined_means =
        let one : 1 ≡ length later = omega arith in
        let count = length p.parameters in
        let body : (count : ℕ) → Variables → Behaviour = λ count vs.
        source.enter_parameters running count 0 vs (λ after.
        exec running meant s (source.leaving (source.leave_parameters running count 0) (in_function p.line f y)) after (λ last. source.leave_parameters running count 0 last (y source.nothing))) in
        (λ i. at (acting calls x) (flat.nodes_before bounded (acting calls x) (body_code (same_frame i) p.line count s) later) 0 start)
        ∙ body_means running others (sizes_of_objects file.objects) heap (length file.literals) signatures p.gives file.pointers limits calls x meant sound codes depth total (tests_same f) refl result_size
        count s y later one (parameters_count own p.parameters fits) typed (housed_body own (given_size p.gives) needed) registers_there follows start ready
        ∙ (λ i. body (sym (values_count p.parameters blocks values are) i) (shown_start i))

  choose_same : (b : Bool) (u v u' v' : Behaviour) → u ≡ u' → v ≡ v' → (if b then u else v) ≡ (if b then u' else v')
  choose_same true u v u' v' first second = first
  choose_same false u v u' v' first second = second

  -- a function's code and its body
  enters_same : (fuel : ℕ) → CallsAgree fuel → (left : List ℕ) (caller line f : ℕ) (p : Procedure) (body : Option Statement) (blocks values : List (List ℕ)) (x : Given → Behaviour) (y : source.Given → Behaviour)
      → slice_get file.functions f ≡ Some p
      → ((have_parameters (sizes_of_variables p.variables) p.parameters || not (is_some body)) && list_all (is_home (sizes_in file p)) (homes_of p.variables) && is_typed_body (sizes_in file p) body) ≡ true
      → body_breach file.functions body ≡ None → are_small p.variables ≡ true
      → Callable (callable_by body p).gives → AreArguments (callable_by body p).parameters blocks values
      → ((given : source.Given) → IsGiven (callable_by body p).gives given → x (handed (callable_by body p).gives given) ≡ y given)
      → flat.enters bounded (Some (code_by literals f p body)) (flat.activation bounded fuel left) blocks x ≡ source.enters meaning caller line f body (source.activation meaning fuel left f) values y
  enters_same fuel agrees left caller line f p None blocks values x y found typed clean small can are follows = absurd (omega (arith, can))
  enters_same fuel agrees left caller line f p (Some s) blocks values x y found typed clean small can are follows =
      let parameters = left_of (have_parameters (sizes_of_variables p.variables) p.parameters || not true) (list_all (is_home (sizes_in file p)) (homes_of p.variables)) (left_of _ (is_typed_statement (sizes_in file p) s) typed) in
      let homes = right_of (have_parameters (sizes_of_variables p.variables) p.parameters || not true) (list_all (is_home (sizes_in file p)) (homes_of p.variables)) (left_of _ (is_typed_statement (sizes_in file p) s) typed) in
      let calls_typed : typed_body p s =
      statement_defined file.functions (sizes_of_variables p.variables) (homes_of p.variables) (sizes_of_objects file.objects) (length file.literals) p.gives file.pointers s [] (right_of _ (is_typed_statement (sizes_in file p) s) typed) clean in
      defined_means fuel agrees left f p s blocks values x y (parameters_or (have_parameters (sizes_of_variables p.variables) p.parameters) true parameters refl) homes small calls_typed are follows
      ∙ sym (λ i. source.exec_body (record {
        function = f;
        line = source.line_of (found i);
        variables = source.variables_of (found i);
        tests = tests_of f;
        assertions = limits.assertions;
        literals = literals;
        malloc_limit = limits.malloc_limit;
        malloc_may_fail = limits.malloc_may_fail;
      }) (source.activation meaning fuel left f) s values y)

  -- calls of code do what calls mean
  pub calls_agree : (fuel : ℕ) → CallsAgree fuel
  calls_agree zero left caller f line g blocks values x y found can fit same = passed_same limits.assertions Recursion line caller
  calls_agree (suc fuel) left caller f line g blocks values x y found can fit same =
      let there = found_in callable file.functions f g found in
      let p = there.0 in
      let here : 0 + f ≡ f = omega arith in
      let got : slice_get codes f ≡ Some (function_code literals f p) = codes_at literals 0 file.functions f p there.1 ∙ ap (λ n. Some (function_code literals n p)) here in
      let can_be : Callable (callable p).gives = subst (λ (k : Signature). Callable k.gives) (sym there.2) can in
      let are : AreArguments (callable p).parameters blocks values = subst (λ (k : Signature). AreArguments k.parameters blocks values) (sym there.2) fit in
      let follows : (given : source.Given) → IsGiven (callable p).gives given → x (handed (callable p).gives given) ≡ y given =
      subst (λ (k : Signature). (given : source.Given) → IsGiven k.gives given → x (handed k.gives given) ≡ y given) (sym there.2) same in
      choose_same (slice_index left f == 0) _ _ _ _ (passed_same limits.assertions Recursion line caller)
      ((λ i. flat.enters bounded (got i) (flat.activation bounded fuel (flat.opened left f)) blocks x)
      ∙ enters_same fuel (calls_agree fuel) (flat.opened left f) caller line f p p.body blocks values x y there.1 (all_at (is_typed_function file) file.functions f p all_typed there.1) (clean_at file.functions file.functions f p all_clean there.1)
      (all_at (λ (q : Procedure). are_small q.variables) file.functions f p all_small there.1) can_be are follows
      ∙ sym (λ i. source.enters meaning caller line f (source.body_of (there.1 i)) (source.activation meaning fuel (source.opened left f) f) values y))
