-- Unrolled code as a thread does what the code of functions does under the bounds.
use Rattle.std.proofs.Common.{◌≡◌, ℕ, zero, suc, ◌+◌, ◌-◌, ◌*◌, ◌<◌, ◌≤◌, Bool, true, false, List, [], ◌∷◌, ◌++◌, length, Option, Some, None, refl, sym, ap, ◌∙◌, arith, length-append}
use Rattle.std.specs.Prelude.{not, ◌==◌, replicate, slice_index, slice_get, if◌then◌else◌}
use Rattle.std.proofs.lemmas.Bool.{false≢true}
use Rattle.std.proofs.lemmas.Bool.Decides.{nat_tests}
use Rattle.core_tree.specs.Ranges.{Limits}
use Rattle.c_values.specs.Variables.{block_of, zeros, first_variables}
use Rattle.actions.specs.Behaviour.{Behaviour}
use Rattle.goto_prog.specs.declared.code.Operation.{Operation}
use Rattle.goto_prog.specs.declared.code.Operation.TheVariants as operations
use Rattle.goto_prog.specs.declared.code.Instruction.{Instruction}
use Rattle.goto_prog.specs.Meaning.{Memory, Given, register, given_by, operates}
use Rattle.goto_prog.specs.Meaning as flat_meaning
use Rattle.goto_prog.specs.Threads.{Calls, behaving}
use Rattle.goto_prog.specs.CodeThread.{first_memory}
use Rattle.goto_prog.specs.Flat as flat
use Rattle.goto_prog.specs.GotoThreads.{GotoFile, bounded_file}
use Rattle.goto_prog.specs.GotoThreads as structured
use Rattle.goto_prog.specs.Nodes.{Routine, routines_fit, view_procedures}
use Rattle.goto_prog.specs.Same.{DoSame}
use Rattle.words.specs.declared.check.Class.TheVariants.{Recursion}
use Rattle.goto_prog.specs.Structured.{Bounded, passed, enters, opened, activation, first_left, first_fuel, leaves, runs_at, entry_memory, can_start}
use Rattle.goto_prog.proofs.Stepping.{free}
use Rattle.goto_unwind.specs.Unrolled.{Space, first_space, with_frame, Site, Piece, at, inline_at, nodes_code}
use Rattle.goto_unwind.specs.Program.{first_site, first_piece, listing_of, first_listing, unrolled, starts_none}
use Rattle.goto_unwind.proofs.Frames.{left_of, right_of, Below, Good, on, begin, from_end_begin, from_end_front, itself}
use Rattle.goto_unwind.proofs.Growth.{Extends, same_space, register_room, block_room, Within, inline_grows, nodes_grow}
use Rattle.goto_unwind.proofs.CodeMeaning.{LeadAll, goes, Hands, Inlines, places_count, nodes_lead}
use Rattle.goto_unwind.proofs.CallMeaning.{zeros_at, none_given, entry_extents, zero_register, as_many_registers, front_sizes, fits_at, calls_agree}

-- ---- places don't matter

no_place : (n line f : ℕ) (op : Operation) (ps : List (Memory → Behaviour)) → operates behaving false n line f op ps ≡ operates behaving false 0 line f op ps
no_place n line f op ps = λ k m. free false n line f op ps m k

places_are : (n : ℕ) (code : List Instruction) → flat_meaning.places behaving false n code ≡ on code
places_are n [] = refl
places_are n (i ∷ code) =
    (λ k. operates behaving false n i.line i.function i.operation (places_are (suc n) code k) ∷ places_are (suc n) code k)
    ∙ (λ k. no_place n i.line i.function i.operation (on code) k ∷ on code)

-- ---- the first activation

module _ (functions : List Routine) (limits : Limits) (fit : routines_fit functions ≡ true) (number : ℕ) (p : Routine) (found : slice_get functions number ≡ Some p) where
  abbrev b : Bounded
  b = record { strict = false; functions = functions; limits = limits }

  abbrev site : Site
  site = first_site p

  abbrev rest : List Instruction
  rest = at p.line number operations.Exit ∷ []

  abbrev begun : Space
  begun = with_frame first_space p

  abbrev Anything : Memory → Type 0
  Anything m = Unit {0}

  kept : (m m' : Memory) → Below site.register site.block m m' → Anything m → Anything m'
  kept m m' below holds = tt

  some : 1 ≤ site.register
  some = omega arith

  abbrev follows : Given → Behaviour
  follows = leaves true number p.line

  module _ (fuel : ℕ) (left : List ℕ) where
    abbrev calls : Calls
    calls = activation b fuel left

    abbrev whole : Piece
    whole = nodes_code b (inline_at b fuel left) site p.nodes (length rest ∷ []) rest begun

    abbrev all : List ℕ
    all = whole.space.blocks

    inside : Within all whole.space
    inside = record { others = []; are = sym (nothing_behind all) }
      where
        nothing_behind : (xs : List ℕ) → xs ++ [] ≡ xs
        nothing_behind [] = refl
        nothing_behind (x ∷ xs) = ap (λ ys. x ∷ ys) (nothing_behind xs)

    handing : Hands all site Anything kept some calls follows (inline_at b fuel left) functions limits rest begun
    handing line f v code front fits m sm good =
        from_end_front code rest 1 m front (omega arith) ∙ from_end_begin rest m

    calling : Inlines all site Anything kept some calls follows (inline_at b fuel left) functions limits begun
    calling line f g first count into r code s sm next there into_in r_in extends within_all behind m good =
        calls_agree all functions limits fit fuel left site Anything kept some line f g first count into r code s sm next there into_in r_in
        (omega (arith, register_room begun s extends, length-append first_space.registers p.registers))
        (omega (arith, block_room begun s extends, length-append first_space.blocks p.blocks)) behind within_all m good

    extends : Extends begun whole.space
    extends = (nodes_grow b (inline_at b fuel left) (inline_grows b fuel left) site p.nodes (length rest ∷ []) rest begun).extends

    first_good : Good all p.registers p.blocks site.register site.block Anything whole.space (first_memory (listing_of whole)) (entry_memory p [])
    first_good =
        let registers = register_room begun whole.space extends in
        let blocks = block_room begun whole.space extends in
        let all_are : all ≡ p.blocks ++ extends.blocks = extends.blocks_are in
        record {
          shows = record {
            registers = λ r less. zero_register whole.space.registers (1 + r) ∙ sym (zero_register p.registers r);
            count = as_many_registers p.registers;
            room = omega (arith, registers, as_many_registers whole.space.registers, length-append first_space.registers p.registers);
            blocks = λ v less.
                (let same : site.block + v ≡ v = omega arith in λ i. block_of (first_variables all) (same i))
                ∙ zeros_at all v (omega (arith, less, blocks, length-append first_space.blocks p.blocks))
                ∙ (λ i. zeros (slice_index (all_are i) v)) ∙ ap zeros (front_sizes p.blocks extends.blocks v less)
                ∙ sym (zeros_at p.blocks v less) ∙ (λ i. block_of (sym (none_given p.blocks) i) v);
            extents = entry_extents p.blocks [];
            blocks_room = omega (arith, blocks, length-append first_space.blocks p.blocks, as_many_blocks all);
          };
          holds = tt;
          clean = record { registers = λ r from less. zero_register whole.space.registers r; blocks = λ v from less. zeros_at all v less };
          zero_there = zero_register whole.space.registers 0;
          room = omega (arith, as_many_registers whole.space.registers);
          blocks_room = omega (arith, as_many_blocks all);
        }
      where
        as_many_blocks : (xs : List ℕ) → length (first_variables xs) ≡ length xs
        as_many_blocks [] = refl
        as_many_blocks (x ∷ xs) = omega (arith, as_many_blocks xs)

    main_does : begin whole.code (first_memory (listing_of whole)) ≡ enters b (Some p) calls [] follows
    main_does =
        let last : LeadAll all site Anything kept some calls follows (inline_at b fuel left) functions limits rest begun (length rest ∷ []) ((λ m. follows None) ∷ []) =
        ((omega arith, λ m sm good. from_end_begin rest m), tt) in
        let led =
        nodes_lead all site Anything kept some calls follows (inline_at b fuel left) functions limits rest begun handing calling (inline_grows b fuel left) p.nodes (length rest ∷ []) rest begun ((λ m. follows None) ∷ []) 0
        (fits_at functions number p fit found) (omega arith) last refl (itself rest) (same_space begun) inside in
        goes all site Anything kept some calls follows (inline_at b fuel left) functions limits whole.code whole.space whole.marks _ (first_memory (listing_of whole)) (entry_memory p []) led.0 led.1
        (omega (arith, places_count all site Anything kept some calls follows (inline_at b fuel left) functions limits rest begun handing calling p.nodes ((λ m. follows None) ∷ []))) first_good

-- ---- the program

pub equal_none : (k : ℕ) → 1 ≤ k → (k == 0) ≡ false
equal_none k positive = grind (arith, nat_tests)

pub at_replicate : (n k x : ℕ) → k < n → slice_index (replicate n x) k ≡ x
at_replicate zero k x less = absurd (omega (arith, less))
at_replicate (suc n) zero x less = refl
at_replicate (suc n) (suc k) x less = at_replicate n k x (omega (arith, less))

pub found_less : (functions : List Routine) (k : ℕ) → k < length functions → (p : Routine) × (slice_get functions k ≡ Some p)
found_less [] k less = absurd (omega (arith, less))
found_less (p ∷ functions) zero less = (p, refl)
found_less (p ∷ functions) (suc k) less = found_less functions k (omega (arith, less))

first_does : (functions : List Routine) (limits : Limits) → routines_fit functions ≡ true → 1 ≤ limits.unwind → (number : ℕ) (p : Routine) → slice_get functions number ≡ Some p → number < length functions
    → let b : Bounded = record { strict = false; functions = functions; limits = limits } in
    begin (first_piece b number p).code (first_memory (listing_of (first_piece b number p))) ≡ runs_at b true number (Some p)
first_does functions limits fit some number p found less =
    let b : Bounded = record { strict = false; functions = functions; limits = limits } in
    let n : ℕ = length functions * limits.unwind in
    let fuel : first_fuel b - 1 ≡ n = omega arith in
    let more : first_fuel b ≡ suc n = omega arith in
    let left : slice_index (first_left b) number ≡ limits.unwind = at_replicate (length functions) number limits.unwind less in
    let goes_on : (slice_index (first_left b) number == 0) ≡ false = (λ i. left i == 0) ∙ equal_none limits.unwind some in
    (λ i. begin (main_piece b number p (fuel i)).code (first_memory (listing_of (main_piece b number p (fuel i)))))
    ∙ main_does functions limits fit number p found n (opened (first_left b) number)
    ∙ (λ i. enters b (sym found i) (activation b n (opened (first_left b) number)) [] (leaves true number p.line))
    ∙ (λ i. if sym goes_on i then passed_there b number p else enters b (slice_get functions number) (activation b n (opened (first_left b) number)) [] (leaves true number p.line))
    ∙ (λ i. activation b (sym more i) (first_left b) number number p.line [] (leaves true number p.line))
  where
    main_piece : Bounded → ℕ → Routine → ℕ → Piece
    main_piece b number p fuel =
        nodes_code b (inline_at b fuel (opened (first_left b) number)) (first_site p) p.nodes (length (at p.line number operations.Exit ∷ []) ∷ []) (at p.line number operations.Exit ∷ []) (with_frame first_space p)

    passed_there : Bounded → ℕ → Routine → Behaviour
    passed_there b number p = passed b.limits.assertions Recursion p.line number

not_startable : (functions : List Routine) (f : ℕ) → starts_none functions ≡ true → can_start (slice_get functions f) ≡ false
not_startable [] f none = refl
not_startable (p ∷ functions) zero none = inverse p.startable (left_of (not p.startable) _ none)
  where
    inverse : (z : Bool) → not z ≡ true → z ≡ false
    inverse true h = absurd (false≢true h)
    inverse false h = refl
not_startable (p ∷ functions) (suc f) none = not_startable functions f (right_of (not p.startable) _ none)

pub main_there : (g : GotoFile) → g.main < length g.functions → g.main < length (view_procedures g.functions)
main_there g less = omega (arith, less, as_many g.functions)
  where
    as_many : (xs : List _) → length (view_procedures xs) ≡ length xs
    as_many [] = refl
    as_many (x ∷ xs) = omega (arith, as_many xs)

-- no thread is started in unrolled code
pub flat_none : (g : GotoFile) (limits : Limits) (f : ℕ) → (flat.plain_thread (unrolled g limits)).program.can_start f ≡ false
flat_none g limits zero = listing_none (slice_get (view_procedures g.functions) g.main)
  where
    listing_none : (x : Option Routine) → (first_listing (bounded_file false g limits) g.main x).startable ≡ false
    listing_none None = refl
    listing_none (Some p) = refl
flat_none g limits (suc f) = refl

pub unrolled_same : (g : GotoFile) (limits : Limits) → 1 ≤ limits.unwind → routines_fit (view_procedures g.functions) ≡ true → g.main < length g.functions → starts_none (view_procedures g.functions) ≡ true
    → DoSame (flat.plain_thread (unrolled g limits)) (structured.plain_thread g limits)
unrolled_same g limits some fit less none = record {
  behaves = by_main (found_less functions g.main less_here).0 (found_less functions g.main less_here).1;
  startable = λ f. flat_none g limits f ∙ sym (not_startable functions f none);
  others = λ f v starts small. absurd (false≢true (sym (flat_none g limits f) ∙ starts));
}
  where
    functions : List Routine
    functions = view_procedures g.functions

    less_here : g.main < length functions
    less_here = main_there g less

    by_main : (p : Routine) → slice_get functions g.main ≡ Some p → (flat.plain_thread (unrolled g limits)).behaves ≡ (structured.plain_thread g limits).behaves
    by_main p found =
        (λ i. (flat.plain_thread (record { functions = first_listing (bounded_file false g limits) g.main (found i) ∷ []; main = 0; store = g.store })).behaves)
        ∙ (λ i. flat_meaning.at behaving (places_are 0 (first_piece (bounded_file false g limits) g.main p).code i) 0 (first_memory (listing_of (first_piece (bounded_file false g limits) g.main p))))
        ∙ first_does functions limits fit some g.main p found less_here
        ∙ (λ i. runs_at (bounded_file false g limits) true g.main (sym found i))
