-- Each action and each broken check of a thread is at a line that its file carries.
use Rattle.std.proofs.Common.{◌≡◌, ◌+◌, ◌*◌, ℕ, zero, suc, Bool, true, false, cond, List, [], ◌∷◌, length, Option, Some, None, refl, sym, subst}
use Rattle.std.specs.Prelude.{ℤ, pos, ◌==◌, nat_le, slice_index, slice_get, if◌then◌else◌}
use Rattle.std.specs.Ordering.{nat_cmp, match_ordering}
use Rattle.std.specs.declared.cmp.Ordering.{Ordering}
use Rattle.std.specs.declared.cmp.Ordering.TheVariants.{Less, Equal, Greater}
use Rattle.std.specs.Map.{lookup, set_value}
use Rattle.std.specs.BTreeMap.{is_at, insert_entry}
use Rattle.words.specs.declared.check.Class.{Class}
use Rattle.words.specs.declared.check.Class.TheVariants.{Assertion, Unwind, Recursion}
use Rattle.words.specs.declared.check.Check.{Check}
use Rattle.c_types.specs.declared.integers.IntegerType.{IntegerType}
use Rattle.c_types.specs.declared.integers.IntegerType.TheVariants.{UnsignedLong}
use Rattle.core_tree.specs.declared.operators.ArithmeticOperator.{ArithmeticOperator}
use Rattle.core_tree.specs.Ranges.{Limits}
use Rattle.core_tree.specs.Trees.{Procedure, TypedFile, Place, variable_at, object_at, literal_at, pointed, arrow, member, element, subscript, Expression, constant, read, convert, sign, is_zero, arithmetic, compare, logical, choice, assign, update, step, comma, assertion, assumption, draw, part, discard, discard_structure, call, function_name, size_of_value, size_of_structure, address, sum, distance, relation, pointer_update, pointer_step, allocate, allocate_zeroed, release, exit, abort, Structure, copy, choose, put, follow, section, list, string, give, Parts, no_part, number_part, structure_part, Arguments, no_argument, number_argument, structure_argument, Statement, block, if_then, if_else, evaluate, returns, returns_structure, returns_nothing, for_loop, do_loop, switch, breaks, continues, jumps, stray, Items, done, declares, initializes, initializes_structure, does, label, case_at, default_at}
use Rattle.c_types.specs.Integers.{bytes, promoted}
use Rattle.core_tree.specs.Operations.{number as integer, is_true, converted, arithmetic_check, step_operation}
use Rattle.actions.specs.declared.action.Action.{Action}
use Rattle.actions.specs.declared.action.Answer.{Answer}
use Rattle.actions.specs.declared.action.Next.{Next}
use Rattle.actions.specs.declared.action.Next.TheVariants.{Act, Ended, Blocked, Broken}
use Rattle.actions.specs.Behaviour.{Behaviour, Thread, shape_of, has_shape}
use Rattle.actions.specs.Memory.{Change, keeps, adds, kills, puts, starts, ends}
use Rattle.actions.specs.Row.{Outcome, waits, moves}
use Rattle.actions.specs.Row.{breaks as broken_row}
use Rattle.actions.specs.Pointer.{object_of, offset_of}
use Rattle.c_values.specs.Pointers.{in_range, offset_by}
use Rattle.c_values.specs.Variables.{Variables, word_count, zeros}
use Rattle.c_meaning.specs.Meaning.{Given, nothing, number, structure, Running, Exits, Code, body_of, line_of, running_in, integer_of, number_type, drawn, size_in, place_line, variable_of, size_of, home_of, final, ask_in, passed, in_loop, in_switch, in_function, leaving, has_case, has_default, ask, unless_broken, unless_outside, unless_apart, unless_used, received, received_structure, operated, reads, writes, reads_number, writes_number, combined, lands, steps_to, rounds, locate, eval, eval_structure, eval_parts, eval_arguments, eval_part, tested, at_end, decides, draws_words, draws, places, makes, enter, initial, dies, leave, enter_parameters, leave_parameters, draws_bytes, allocates, unless_large, may_fail, grants, grants_zeroed, mallocs, callocs, frees, ends_process, exec, exec_items, at_label, at_case, at_default, exec_body, enters, total, opened, activation}
use Rattle.c_meaning.specs.Meaning as meaning
use Rattle.c_meaning.specs.Source.{code_of, first_left, leaves, runs_at, function_behaviour, main_number, source_world}
use Rattle.interleave.specs.declared.turn.Turn.{Turn}
use Rattle.interleave.specs.declared.turn.Turn.TheVariants as turned
use Rattle.interleave.specs.Inputs.{InputLists, words_of}
use Rattle.interleave.specs.World.{World, Member, member_at, may_move, told, with_told, child, with_child}
use Rattle.interleave.specs.Turn.{turn, settled, outcome, with_next, with_member}
use Rattle.interleave.specs.Replay.{Replays, Moves}
use Rattle.told_lines.specs.TypedLines.{InPlace, InExpression, InStructure, InParts, InArguments, InMaybe, InStatement, InItems, InBody, InProcedure, InProcedures, InFile}

-- ---- what is next is at a line with the property

abbrev Names : (ℕ → Type 0) → Next → Type 0
Names P (Act action line function) = P line
Names P (Ended v) = Unit {0}
Names P Blocked = Unit {0}
Names P (Broken class line function) = P line

abbrev Speaks : (ℕ → Type 0) → Behaviour → Type 0
Speaks P b = (answers : List Answer) → Names P (b answers)

final_speaks : (P : ℕ → Type 0) (n : Next) → Names P n → Speaks P (final n)
final_speaks P n h [] = h
final_speaks P n h (a ∷ answers) = tt

cond_speaks : (P : ℕ → Type 0) (b : Bool) (x y : Behaviour) → Speaks P x → Speaks P y → Speaks P (cond b x y)
cond_speaks P true x y p q = p
cond_speaks P false x y p q = q

passed_speaks : (P : ℕ → Type 0) (assertions : Bool) (class : Class) (line function : ℕ) → P line → Speaks P (passed assertions class line function)
passed_speaks P true class line function there = final_speaks P (Broken class line function) there
passed_speaks P false class line function there = final_speaks P Blocked tt

ask_in_speaks : (P : ℕ → Type 0) (function : ℕ) (action : Action) (line : ℕ) → P line → (follows : Answer → Behaviour) → ((a : Answer) → Speaks P (follows a)) → Speaks P (ask_in function action line follows)
ask_in_speaks P function action line there follows h [] = there
ask_in_speaks P function action line there follows h (a ∷ answers) = elim (has_shape (shape_of action) a) as (λ b. Names P (cond b (follows a answers) Blocked)) [ true ↦ h a answers | false ↦ tt ]

module _ (P : ℕ → Type 0) (r : Running) where
  ask_speaks : (action : Action) (line : ℕ) → P line → (follows : Answer → Behaviour) → ((a : Answer) → Speaks P (follows a)) → Speaks P (ask r action line follows)
  ask_speaks action line k follows h = ask_in_speaks P r.function action line k follows h

  unless_speaks : (o : Option Class) (line : ℕ) → P line → (follows : Behaviour) → Speaks P follows → Speaks P (unless_broken r o line follows)
  unless_speaks None line k follows h = h
  unless_speaks (Some class) line k follows h = final_speaks P (Broken class line r.function) k

  -- ---- places

  place_there : (x : Place) → InPlace P x → P (place_line x)
  place_there (variable_at line v offset) k = k
  place_there (object_at line n offset) k = k
  place_there (literal_at line n) k = k
  place_there (pointed line e) k = k.0
  place_there (arrow line e offset) k = k.0
  place_there (member line x offset) k = k.0
  place_there (element line x e size whole swapped) k = k.0
  place_there (subscript line a e size swapped) k = k.0

  outside_speaks : (v offset count line : ℕ) → P line → (follows : Behaviour) → Speaks P follows → Speaks P (unless_outside r v offset count line follows)
  outside_speaks v offset count line k follows h = cond_speaks P (nat_le (offset + count) (size_of r v)) _ _ h (final_speaks P _ k)

  reads_speak : (o : Option ℕ) (at count line : ℕ) → P line → (vs : Variables) (follows : List ℕ → Behaviour) → ((value : List ℕ) → Speaks P (follows value)) → Speaks P (reads r o at count line vs follows)
  reads_speak (Some v) at count line k vs follows h = outside_speaks v _ _ line k _ (h _)
  reads_speak None at count line k vs follows h = ask_speaks _ line k _ (λ a. h _)

  writes_speak : (o : Option ℕ) (at : ℕ) (new : List ℕ) (line : ℕ) → P line → (vs : Variables) (follows : Variables → Behaviour) → ((after : Variables) → Speaks P (follows after)) → Speaks P (writes r o at new line vs follows)
  writes_speak (Some v) at new line k vs follows h = outside_speaks v _ _ line k _ (h _)
  writes_speak None at new line k vs follows h = ask_speaks _ line k _ (λ a. h vs)

  number_reads_speak : (t : IntegerType) (x : Place) → InPlace P x → (at : ℕ) (vs : Variables) (follows : ℕ → Behaviour) → ((n : ℕ) → Speaks P (follows n)) → Speaks P (reads_number r t x at vs follows)
  number_reads_speak t x k at vs follows h = reads_speak (variable_of r x) at (bytes t) (place_line x) (place_there x k) vs _ (λ value. h _)

  number_writes_speak : (t : IntegerType) (x : Place) (at line bits : ℕ) → P line → (vs : Variables) (follows : Variables → Behaviour) → ((after : Variables) → Speaks P (follows after)) → Speaks P (writes_number r t x at line bits vs follows)
  number_writes_speak t x at line bits k vs follows h = writes_speak (variable_of r x) at _ line k vs follows h

  operated_speaks : (op : ArithmeticOperator) (t u : IntegerType) (x y line : ℕ) → P line → (follows : ℕ → Behaviour) → ((z : ℕ) → Speaks P (follows z)) → Speaks P (operated r op t u x y line follows)
  operated_speaks op t u x y line k follows h = unless_speaks (arithmetic_check op t u x y) line k _ (h _)

  combined_speaks : (t : IntegerType) (x : Place) (at : ℕ) (op : ArithmeticOperator) (u w : IntegerType) (old y line : ℕ) → P line → (vs : Variables) (follows : ℕ → Variables → Behaviour) → ((z : ℕ) (after : Variables) → Speaks P (follows z after))
      → Speaks P (combined r t x at op u w old y line vs follows)
  combined_speaks t x at op u w old y line k vs follows h = operated_speaks op u w (converted t u old) y line k _ (λ z. number_writes_speak t x at line (converted u t z) k vs (follows (converted u t z)) (λ after. h (converted u t z) after))

  -- ---- sums of pointers

  lands_speaks : (is_element : Bool) (p size : ℕ) (index stride : ℤ) (line : ℕ) → P line → (follows : ℕ → Behaviour) → ((q : ℕ) → Speaks P (follows q)) → Speaks P (lands r is_element p size index stride line follows)
  lands_speaks is_element p size index stride line k follows h = cond_speaks P (in_range (offset_by (offset_of p) index stride) size) _ _ (h _) (final_speaks P _ k)

  moves_speak : (is_element : Bool) (p : ℕ) (index stride : ℤ) (line : ℕ) → P line → (follows : ℕ → Behaviour) → ((q : ℕ) → Speaks P (follows q)) → Speaks P (meaning.moves r is_element p index stride line follows)
  moves_speak is_element p index stride line k follows h = ask_speaks _ line k _ (λ a. lands_speaks is_element p (size_in a) index stride line k follows h)

  steps_speak : (at whole : ℕ) (index stride : ℤ) (line : ℕ) → P line → (follows : ℕ → Behaviour) → ((q : ℕ) → Speaks P (follows q)) → Speaks P (steps_to r at whole index stride line follows)
  steps_speak at whole index stride line k follows h = cond_speaks P (in_range (offset_by (offset_of at) index stride) whole) _ _ (h _) (final_speaks P _ k)

  apart_speaks : (p q line : ℕ) → P line → (follows : Behaviour) → Speaks P follows → Speaks P (unless_apart r p q line follows)
  apart_speaks p q line k follows h = cond_speaks P (object_of p == object_of q) _ _ h (final_speaks P _ k)

  -- ---- calls and variables

  used_speaks : (used : Bool) (line : ℕ) → P line → (follows : Behaviour) → Speaks P follows → Speaks P (unless_used r used line follows)
  used_speaks used line k follows h = cond_speaks P used _ _ (final_speaks P _ k) h

  received_speaks : (used : Bool) (line : ℕ) → P line → (t : IntegerType) (follows : ℕ → Behaviour) → ((x : ℕ) → Speaks P (follows x)) → (given : Given) → Speaks P (received r used line t follows given)
  received_speaks used line k t follows h nothing = used_speaks used line k _ (h 0)
  received_speaks used line k t follows h (number x) = h _
  received_speaks used line k t follows h (structure value) = h 0

  received_structure_speaks : (used : Bool) (size line : ℕ) → P line → (follows : List ℕ → Behaviour) → ((value : List ℕ) → Speaks P (follows value)) → (given : Given) → Speaks P (received_structure r used size line follows given)
  received_structure_speaks used size line k follows h nothing = used_speaks used line k _ (h _)
  received_structure_speaks used size line k follows h (number x) = h _
  received_structure_speaks used size line k follows h (structure value) = h value

  words_speak : (words line v offset : ℕ) → P line → (vs : Variables) (follows : Variables → Behaviour) → ((after : Variables) → Speaks P (follows after)) → Speaks P (draws_words r words line v offset vs follows)
  words_speak zero line v offset k vs follows h = h vs
  words_speak (suc n) line v offset k vs follows h = ask_speaks _ line k _ (λ a. words_speak n line v _ k _ follows h)

  draws_speaks : (line v : ℕ) → P line → (vs : Variables) (follows : Variables → Behaviour) → ((after : Variables) → Speaks P (follows after)) → Speaks P (draws r line v vs follows)
  draws_speaks line v k vs follows h = words_speak _ line v 0 k vs follows h

  places_speak : (o : Option ℕ) (line v : ℕ) → P line → (vs : Variables) (follows : Variables → Behaviour) → ((after : Variables) → Speaks P (follows after)) → Speaks P (places r o line v vs follows)
  places_speak None line v k vs follows h = h vs
  places_speak (Some x) line v k vs follows h = ask_speaks _ line k _ (λ a. h _)

  makes_speaks : (is_drawn : Bool) (line v : ℕ) → P line → (vs : Variables) (follows : Variables → Behaviour) → ((after : Variables) → Speaks P (follows after)) → Speaks P (makes r is_drawn line v vs follows)
  makes_speaks true line v k vs follows h = draws_speaks line v k vs _ (λ after. places_speak (home_of r v) line v k after follows h)
  makes_speaks false line v k vs follows h = places_speak (home_of r v) line v k _ follows h

  enter_speaks : (items : Items) → InItems P items → (vs : Variables) (follows : Variables → Behaviour) → ((after : Variables) → Speaks P (follows after)) → Speaks P (enter r items vs follows)
  enter_speaks done k vs follows h = h vs
  enter_speaks (declares line v rest) k vs follows h = makes_speaks true line v k.0 vs _ (λ after. enter_speaks rest k.1 after follows h)
  enter_speaks (initializes line v is_drawn e rest) k vs follows h = makes_speaks is_drawn line v k.0 vs _ (λ after. enter_speaks rest k.2 after follows h)
  enter_speaks (initializes_structure line v is_drawn a rest) k vs follows h = makes_speaks is_drawn line v k.0 vs _ (λ after. enter_speaks rest k.2 after follows h)
  enter_speaks (does s rest) k vs follows h = enter_speaks rest k.1 vs follows h
  enter_speaks (label n rest) k vs follows h = enter_speaks rest k vs follows h
  enter_speaks (case_at line t bits rest) k vs follows h = enter_speaks rest k.1 vs follows h
  enter_speaks (default_at line rest) k vs follows h = enter_speaks rest k.1 vs follows h

  initial_speaks : (o : Option ℕ) (v : ℕ) (new : List ℕ) (line : ℕ) → P line → (vs : Variables) (follows : Variables → Behaviour) → ((after : Variables) → Speaks P (follows after)) → Speaks P (initial r o v new line vs follows)
  initial_speaks None v new line k vs follows h = h _
  initial_speaks (Some x) v new line k vs follows h = ask_speaks _ line k _ (λ a. h vs)

  dies_speaks : (o : Option ℕ) (line : ℕ) → P line → (vs : Variables) (follows : Behaviour) → Speaks P follows → Speaks P (dies r o line vs follows)
  dies_speaks None line k vs follows h = h
  dies_speaks (Some x) line k vs follows h = ask_speaks _ line k _ (λ a. h)

  leave_speaks : (items : Items) → InItems P items → (vs : Variables) (follows : Behaviour) → Speaks P follows → Speaks P (leave r items vs follows)
  leave_speaks done k vs follows h = h
  leave_speaks (declares line v rest) k vs follows h = leave_speaks rest k.1 vs _ (dies_speaks (home_of r v) line k.0 vs follows h)
  leave_speaks (initializes line v is_drawn e rest) k vs follows h = leave_speaks rest k.2 vs _ (dies_speaks (home_of r v) line k.0 vs follows h)
  leave_speaks (initializes_structure line v is_drawn a rest) k vs follows h = leave_speaks rest k.2 vs _ (dies_speaks (home_of r v) line k.0 vs follows h)
  leave_speaks (does s rest) k vs follows h = leave_speaks rest k.1 vs follows h
  leave_speaks (label n rest) k vs follows h = leave_speaks rest k vs follows h
  leave_speaks (case_at line t bits rest) k vs follows h = leave_speaks rest k.1 vs follows h
  leave_speaks (default_at line rest) k vs follows h = leave_speaks rest k.1 vs follows h

  -- parameters are placed, and die, at the line of the function's name
  parameters_speak : P r.line → (count v : ℕ) (vs : Variables) (follows : Variables → Behaviour) → ((after : Variables) → Speaks P (follows after)) → Speaks P (enter_parameters r count v vs follows)
  parameters_speak named zero v vs follows h = h vs
  parameters_speak named (suc count) v vs follows h = places_speak (home_of r v) r.line v named vs _ (λ after. parameters_speak named count (suc v) after follows h)

  parameters_leave : P r.line → (count v : ℕ) (vs : Variables) (follows : Behaviour) → Speaks P follows → Speaks P (leave_parameters r count v vs follows)
  parameters_leave named zero v vs follows h = h
  parameters_leave named (suc count) v vs follows h = parameters_leave named count (suc v) vs _ (dies_speaks (home_of r v) r.line named vs follows h)

  -- ---- objects that are allocated

  bytes_speak : (words line size : ℕ) → P line → (found : List ℕ) (follows : List ℕ → Behaviour) → ((new : List ℕ) → Speaks P (follows new)) → Speaks P (draws_bytes r words line size found follows)
  bytes_speak zero line size k found follows h = h found
  bytes_speak (suc n) line size k found follows h = ask_speaks _ line k _ (λ a. bytes_speak n line size k _ follows h)

  allocates_speaks : (line : ℕ) → P line → (new : List ℕ) (follows : ℕ → Behaviour) → ((p : ℕ) → Speaks P (follows p)) → Speaks P (allocates r line new follows)
  allocates_speaks line k new follows h = ask_speaks _ line k _ (λ a. h _)

  large_speaks : (size line : ℕ) → P line → (follows : Behaviour) → Speaks P follows → Speaks P (unless_large r size line follows)
  large_speaks size line k follows h = cond_speaks P (nat_le size r.malloc_limit) _ _ h (final_speaks P _ k)

  may_fail_speaks : (line : ℕ) → P line → (fails goes_on : Behaviour) → Speaks P fails → Speaks P goes_on → Speaks P (may_fail r line fails goes_on)
  may_fail_speaks line k fails goes_on h g = cond_speaks P r.malloc_may_fail _ _ (ask_speaks _ line k _ (λ a. cond_speaks P (is_true (drawn a)) _ _ h g)) g

  grants_speaks : (size line : ℕ) → P line → (follows : ℕ → Behaviour) → ((p : ℕ) → Speaks P (follows p)) → Speaks P (grants r size line follows)
  grants_speaks size line k follows h = large_speaks size line k _ (bytes_speak (word_count size) line size k [] _ (λ new. allocates_speaks line k new follows h))

  zeroed_speaks : (count size line : ℕ) → P line → (follows : ℕ → Behaviour) → ((p : ℕ) → Speaks P (follows p)) → Speaks P (grants_zeroed r count size line follows)
  zeroed_speaks count size line k follows h = large_speaks (count * size) line k _ (allocates_speaks line k (zeros (count * size)) follows h)

  mallocs_speaks : (size line : ℕ) → P line → (follows : ℕ → Behaviour) → ((p : ℕ) → Speaks P (follows p)) → Speaks P (mallocs r size line follows)
  mallocs_speaks size line k follows h = may_fail_speaks line k _ _ (h 0) (grants_speaks size line k follows h)

  callocs_speaks : (count size line : ℕ) → P line → (follows : ℕ → Behaviour) → ((p : ℕ) → Speaks P (follows p)) → Speaks P (callocs r count size line follows)
  callocs_speaks count size line k follows h = may_fail_speaks line k _ _ (h 0) (zeroed_speaks count size line k follows h)

  frees_speaks : (p line : ℕ) → P line → (follows : Behaviour) → Speaks P follows → Speaks P (frees r p line follows)
  frees_speaks p line k follows h = cond_speaks P (p == 0) _ _ h (ask_speaks _ line k _ (λ a. h))

  process_speaks : (line : ℕ) → P line → Speaks P (ends_process r line)
  process_speaks line k = ask_speaks _ line k _ (λ a. final_speaks P _ tt)

  rounds_speak : (line : ℕ) → P line → (round : (Variables → Behaviour) → Variables → Behaviour) → ((again : Variables → Behaviour) → ((vs : Variables) → Speaks P (again vs)) → (vs : Variables) → Speaks P (round again vs))
      → (n : ℕ) (vs : Variables) → Speaks P (rounds r line round n vs)
  rounds_speak line k round h zero vs = passed_speaks P r.assertions Unwind line r.function k
  rounds_speak line k round h (suc n) vs = h _ (rounds_speak line k round h n) vs

  record ExitsSpeak (exits : Exits) : Type 0 where
    breaks : (vs : Variables) → Speaks P (exits.breaks vs)
    continues : (vs : Variables) → Speaks P (exits.continues vs)
    returns : (given : Given) (vs : Variables) → Speaks P (exits.returns given vs)
    labels : (n : ℕ) (vs : Variables) → Speaks P (exits.labels n vs)

  leaving_speaks : (out : Variables → Behaviour → Behaviour) → ((vs : Variables) (b : Behaviour) → Speaks P b → Speaks P (out vs b)) → (exits : Exits) → ExitsSpeak exits → ExitsSpeak (leaving out exits)
  leaving_speaks out speaks exits x = record {
    breaks = λ vs. speaks vs _ (x.breaks vs);
    continues = λ vs. speaks vs _ (x.continues vs);
    returns = λ given vs. speaks vs _ (x.returns given vs);
    labels = λ n vs. speaks vs _ (x.labels n vs);
  }

  module _ (calls : (function line : ℕ) → List (List ℕ) → (Given → Behaviour) → Behaviour)
      (calls_speak : (function line : ℕ) → P line → (blocks : List (List ℕ)) (follows : Given → Behaviour) → ((given : Given) → Speaks P (follows given)) → Speaks P (calls function line blocks follows)) where
    mutual
      locate_speaks : (x : Place) → InPlace P x → (vs : Variables) (follows : ℕ → Variables → Behaviour) → ((at : ℕ) (after : Variables) → Speaks P (follows at after)) → Speaks P (locate r calls x vs follows)
      locate_speaks (variable_at line v offset) k vs follows h = h _ _
      locate_speaks (object_at line n offset) k vs follows h = h _ _
      locate_speaks (literal_at line n) k vs follows h = h _ _
      locate_speaks (pointed line e) k vs follows h = eval_speaks e k.1 vs follows h
      locate_speaks (arrow line e offset) k vs follows h = eval_speaks e k.1 vs _ (λ p after. h _ _)
      locate_speaks (member line x offset) k vs follows h = locate_speaks x k.1 vs _ (λ at after. h _ _)
      locate_speaks (element line x e size whole false) k vs follows h = locate_speaks x k.1 vs _ (λ at after. eval_speaks e k.2 after _ (λ i last. steps_speak at whole (integer (number_type e) i) (pos size) line k.0 (λ found. follows found last) (λ found. h found last)))
      locate_speaks (element line x e size whole true) k vs follows h = eval_speaks e k.2 vs _ (λ i after. locate_speaks x k.1 after _ (λ at last. steps_speak at whole (integer (number_type e) i) (pos size) line k.0 (λ found. follows found last) (λ found. h found last)))
      locate_speaks (subscript line a e size false) k vs follows h = eval_speaks a k.1 vs _ (λ p after. eval_speaks e k.2 after _ (λ i last. moves_speak true p (integer (number_type e) i) (pos size) line k.0 (λ found. follows found last) (λ found. h found last)))
      locate_speaks (subscript line a e size true) k vs follows h = eval_speaks e k.2 vs _ (λ i after. eval_speaks a k.1 after _ (λ p last. moves_speak true p (integer (number_type e) i) (pos size) line k.0 (λ found. follows found last) (λ found. h found last)))

      eval_speaks : (e : Expression) → InExpression P e → (vs : Variables) (follows : ℕ → Variables → Behaviour) → ((x : ℕ) (after : Variables) → Speaks P (follows x after)) → Speaks P (eval r calls e vs follows)
      eval_speaks (constant line t bits) k vs follows h = h _ _
      eval_speaks (read t x) k vs follows h = locate_speaks x k vs _ (λ at after. number_reads_speak t x k at after (λ found. follows found after) (λ found. h found after))
      eval_speaks (convert to e) k vs follows h = eval_speaks e k vs _ (λ x after. h _ _)
      eval_speaks (sign line op e) k vs follows h = eval_speaks e k.1 vs _ (λ x after. unless_speaks _ line k.0 _ (h _ _))
      eval_speaks (is_zero line e) k vs follows h = eval_speaks e k.1 vs _ (λ x after. h _ _)
      eval_speaks (arithmetic line op a b) k vs follows h = eval_speaks a k.1 vs _ (λ x after. eval_speaks b k.2 after _ (λ y last. operated_speaks op (number_type a) (number_type b) x y line k.0 (λ z. follows z last) (λ z. h z last)))
      eval_speaks (compare line op a b) k vs follows h = eval_speaks a k.1 vs _ (λ x after. eval_speaks b k.2 after _ (λ y last. h _ _))
      eval_speaks (logical line op a b) k vs follows h = eval_speaks a k.1 vs _ (λ x after. cond_speaks P (decides op x) _ _ (h _ _) (eval_speaks b k.2 after _ (λ y last. h _ _)))
      eval_speaks (choice line test a b) k vs follows h = eval_speaks test k.1 vs _ (λ x after. cond_speaks P (is_true x) _ _ (eval_speaks a k.2 after follows h) (eval_speaks b k.3 after follows h))
      eval_speaks (assign line t x e) k vs follows h = locate_speaks x k.1 vs _ (λ at after. eval_speaks e k.2 after _ (λ y last. number_writes_speak t x at line y k.0 last (follows y) (λ now. h y now)))
      eval_speaks (update line t x op u e) k vs follows h =
          locate_speaks x k.1 vs _ (λ at after. eval_speaks e k.2 after _ (λ y last. number_reads_speak t x k.1 at last _ (λ old. combined_speaks t x at op u (number_type e) old y line k.0 last follows h)))
      eval_speaks (step line t x op before) k vs follows h =
          locate_speaks x k.1 vs _ (λ at after. number_reads_speak t x k.1 at after _ (λ old. combined_speaks t x at (step_operation op) (promoted t) (promoted t) old 1 line k.0 after (λ new. follows (if before then new else old)) (λ new last. h (if before then new else old) last)))
      eval_speaks (comma line a b) k vs follows h = eval_speaks a k.1 vs _ (λ x after. eval_speaks b k.2 after follows h)
      eval_speaks (assertion line e) k vs follows h = eval_speaks e k.1 vs _ (λ x after. cond_speaks P (is_true x) _ _ (h _ _) (final_speaks P _ k.0))
      eval_speaks (assumption line e) k vs follows h = eval_speaks e k.1 vs _ (λ x after. cond_speaks P (is_true x) _ _ (h _ _) (final_speaks P Blocked tt))
      eval_speaks (draw line t) k vs follows h = ask_speaks _ line k _ (λ a. h _ _)
      eval_speaks (part line t offset a) k vs follows h = structure_speaks a k.1 vs _ (λ block after. h _ _)
      eval_speaks (discard line e) k vs follows h = eval_speaks e k.1 vs _ (λ x after. h _ _)
      eval_speaks (discard_structure a) k vs follows h = structure_speaks a k vs _ (λ block after. h _ _)
      eval_speaks (call line f used t args) k vs follows h = arguments_speak args k.1 [] vs _ (λ blocks after. calls_speak f line k.0 blocks _ (received_speaks used line k.0 (integer_of t) _ (λ x. h x after)))
      eval_speaks (function_name line) k vs follows h = h _ _
      eval_speaks (size_of_value line bits e) k vs follows h = h _ _
      eval_speaks (size_of_structure line bits a) k vs follows h = h _ _
      eval_speaks (address line x) k vs follows h = locate_speaks x k.1 vs follows h
      eval_speaks (sum line a e n false) k vs follows h = eval_speaks a k.1 vs _ (λ p after. eval_speaks e k.2 after _ (λ i last. moves_speak false p (integer (number_type e) i) n line k.0 (λ q. follows q last) (λ q. h q last)))
      eval_speaks (sum line a e n true) k vs follows h = eval_speaks e k.2 vs _ (λ i after. eval_speaks a k.1 after _ (λ p last. moves_speak false p (integer (number_type e) i) n line k.0 (λ q. follows q last) (λ q. h q last)))
      eval_speaks (distance line a b n) k vs follows h = eval_speaks a k.1 vs _ (λ p after. eval_speaks b k.2 after _ (λ q last. apart_speaks p q line k.0 _ (h _ _)))
      eval_speaks (relation line op a b) k vs follows h = eval_speaks a k.1 vs _ (λ p after. eval_speaks b k.2 after _ (λ q last. apart_speaks p q line k.0 _ (h _ _)))
      eval_speaks (pointer_update line x n e) k vs follows h =
          locate_speaks x k.1 vs _ (λ at after. eval_speaks e k.2 after _ (λ i last. number_reads_speak UnsignedLong x k.1 at last _ (λ p.
          moves_speak false p (integer (number_type e) i) n line k.0 _ (λ q. number_writes_speak UnsignedLong x at line q k.0 last (follows q) (λ now. h q now)))))
      eval_speaks (pointer_step line x n before) k vs follows h =
          locate_speaks x k.1 vs _ (λ at after. number_reads_speak UnsignedLong x k.1 at after _ (λ p. moves_speak false p (pos 1) n line k.0 _ (λ q. number_writes_speak UnsignedLong x at line q k.0 after (follows (if before then q else p)) (λ now. h (if before then q else p) now))))
      eval_speaks (allocate line e) k vs follows h = eval_speaks e k.1 vs _ (λ n after. mallocs_speaks n line k.0 (λ p. follows p after) (λ p. h p after))
      eval_speaks (allocate_zeroed line a b) k vs follows h = eval_speaks a k.1 vs _ (λ m after. eval_speaks b k.2 after _ (λ n last. callocs_speaks m n line k.0 (λ p. follows p last) (λ p. h p last)))
      eval_speaks (release line e) k vs follows h = eval_speaks e k.1 vs _ (λ p after. frees_speaks p line k.0 _ (h _ _))
      eval_speaks (exit line e) k vs follows h = eval_speaks e k.1 vs _ (λ x after. process_speaks line k.0)
      eval_speaks (abort line) k vs follows h = process_speaks line k

      structure_speaks : (a : Structure) → InStructure P a → (vs : Variables) (follows : List ℕ → Variables → Behaviour) → ((block : List ℕ) (after : Variables) → Speaks P (follows block after)) → Speaks P (eval_structure r calls a vs follows)
      structure_speaks (copy x size) k vs follows h = locate_speaks x k vs _ (λ at after. reads_speak (variable_of r x) at size (place_line x) (place_there x k) after (λ value. follows value after) (λ value. h value after))
      structure_speaks (choose line test a b) k vs follows h = eval_speaks test k.1 vs _ (λ x after. cond_speaks P (is_true x) _ _ (structure_speaks a k.2 after follows h) (structure_speaks b k.3 after follows h))
      structure_speaks (put line x a) k vs follows h = locate_speaks x k.1 vs _ (λ at after. structure_speaks a k.2 after _ (λ value last. writes_speak (variable_of r x) at value line k.0 last (follows value) (λ now. h value now)))
      structure_speaks (follow line e a) k vs follows h = eval_speaks e k.1 vs _ (λ x after. structure_speaks a k.2 after follows h)
      structure_speaks (section line offset size a) k vs follows h = structure_speaks a k.1 vs _ (λ block after. h _ _)
      structure_speaks (list line size ps) k vs follows h = parts_speak ps k.1 _ vs follows h
      structure_speaks (string line size bytes) k vs follows h = h _ _
      structure_speaks (give line f used size args) k vs follows h = arguments_speak args k.1 [] vs _ (λ blocks after. calls_speak f line k.0 blocks _ (received_structure_speaks used size line k.0 _ (λ value. h value after)))

      parts_speak : (ps : Parts) → InParts P ps → (so_far : List ℕ) (vs : Variables) (follows : List ℕ → Variables → Behaviour) → ((block : List ℕ) (after : Variables) → Speaks P (follows block after)) → Speaks P (eval_parts r calls ps so_far vs follows)
      parts_speak no_part k so_far vs follows h = h _ _
      parts_speak (number_part offset e rest) k so_far vs follows h = eval_speaks e k.0 vs _ (λ x after. parts_speak rest k.1 _ after follows h)
      parts_speak (structure_part offset a rest) k so_far vs follows h = structure_speaks a k.0 vs _ (λ block after. parts_speak rest k.1 _ after follows h)

      arguments_speak : (args : Arguments) → InArguments P args → (blocks : List (List ℕ)) (vs : Variables) (follows : List (List ℕ) → Variables → Behaviour) → ((all : List (List ℕ)) (after : Variables) → Speaks P (follows all after)) → Speaks P (eval_arguments r calls args blocks vs follows)
      arguments_speak no_argument k blocks vs follows h = h _ _
      arguments_speak (number_argument e rest) k blocks vs follows h = eval_speaks e k.0 vs _ (λ x after. arguments_speak rest k.1 _ after follows h)
      arguments_speak (structure_argument a rest) k blocks vs follows h = structure_speaks a k.0 vs _ (λ value after. arguments_speak rest k.1 _ after follows h)

    part_speaks : (e : Option Expression) → InMaybe P e → (vs : Variables) (follows : Variables → Behaviour) → ((after : Variables) → Speaks P (follows after)) → Speaks P (eval_part r calls e vs follows)
    part_speaks None k vs follows h = h vs
    part_speaks (Some e) k vs follows h = eval_speaks e k vs _ (λ x after. h after)

    test_speaks : (e : Option Expression) → InMaybe P e → (vs : Variables) (holds fails : Variables → Behaviour) → ((after : Variables) → Speaks P (holds after)) → ((after : Variables) → Speaks P (fails after)) → Speaks P (tested r calls e vs holds fails)
    test_speaks None k vs holds fails h g = h vs
    test_speaks (Some e) k vs holds fails h g = eval_speaks e k vs _ (λ x after. cond_speaks P (is_true x) _ _ (h after) (g after))

    end_speaks : (last test : Option Expression) → InMaybe P last → InMaybe P test → (again behind : Variables → Behaviour) → ((after : Variables) → Speaks P (again after)) → ((after : Variables) → Speaks P (behind after)) → (vs : Variables) → Speaks P (at_end r calls last test again behind vs)
    end_speaks last test k l again behind h g vs = part_speaks last k vs _ (λ now. test_speaks test l now again behind h g)

    loop_speaks : (exits : Exits) (after end : Variables → Behaviour) → ExitsSpeak exits → ((vs : Variables) → Speaks P (after vs)) → ((vs : Variables) → Speaks P (end vs)) → ExitsSpeak (in_loop exits after end)
    loop_speaks exits after end x h g = record { breaks = h; continues = g; returns = x.returns; labels = x.labels }

    switch_speaks : (exits : Exits) (after : Variables → Behaviour) → ExitsSpeak exits → ((vs : Variables) → Speaks P (after vs)) → ExitsSpeak (in_switch exits after)
    switch_speaks exits after x h = record { breaks = h; continues = x.continues; returns = x.returns; labels = x.labels }

    mutual
      exec_speaks : (s : Statement) → InStatement P s → (exits : Exits) (vs : Variables) (follows : Variables → Behaviour) → ExitsSpeak exits → ((after : Variables) → Speaks P (follows after)) → Speaks P (exec r calls s exits vs follows)
      exec_speaks (block items) k exits vs follows x h =
          enter_speaks items k vs _ (λ after. items_speak items k (leaving (leave r items) exits) after _ (leaving_speaks (leave r items) (leave_speaks items k) exits x) (λ last. leave_speaks items k last _ (h last)))
      exec_speaks (if_then line test s) k exits vs follows x h = eval_speaks test k.1 vs _ (λ n after. cond_speaks P (is_true n) _ _ (exec_speaks s k.2 exits after follows x h) (h after))
      exec_speaks (if_else line test s t) k exits vs follows x h = eval_speaks test k.1 vs _ (λ n after. cond_speaks P (is_true n) _ _ (exec_speaks s k.2 exits after follows x h) (exec_speaks t k.3 exits after follows x h))
      exec_speaks (evaluate e) k exits vs follows x h = eval_speaks e k vs _ (λ n after. h after)
      exec_speaks (returns line e) k exits vs follows x h = eval_speaks e k.1 vs _ (λ n after. x.returns _ after)
      exec_speaks (returns_structure line a) k exits vs follows x h = structure_speaks a k.1 vs _ (λ value after. x.returns _ after)
      exec_speaks (returns_nothing line) k exits vs follows x h = x.returns nothing vs
      exec_speaks (for_loop line n first test last s) k exits vs follows x h =
          part_speaks first k.1 vs _ (λ start. test_speaks test k.2 start _ follows (rounds_speak line k.0 _ (λ again g now.
          exec_speaks s k.4 (in_loop exits follows (at_end r calls last test again follows)) now (at_end r calls last test again follows) (loop_speaks exits follows (at_end r calls last test again follows) x h (end_speaks last test k.3 k.2 again follows g h)) (end_speaks last test k.3 k.2 again follows g h)) _) h)
      exec_speaks (do_loop line n s test) k exits vs follows x h =
          rounds_speak line k.0 _ (λ again g now.
          exec_speaks s k.1 (in_loop exits follows (at_end r calls None (Some test) again follows)) now (at_end r calls None (Some test) again follows) (loop_speaks exits follows (at_end r calls None (Some test) again follows) x h (end_speaks None (Some test) tt k.2 again follows g h)) (end_speaks None (Some test) tt k.2 again follows g h)) _ vs
      exec_speaks (switch line e items) k exits vs follows x h =
          let out : Exits = leaving (leave r items) (in_switch exits follows) in
          let speaks = leaving_speaks (leave r items) (leave_speaks items k.2) (in_switch exits follows) (switch_speaks exits follows x h) in
          let behind : (last : Variables) → Speaks P (leave r items last (follows last)) = λ last. leave_speaks items k.2 last (follows last) (h last) in
          eval_speaks e k.1 vs _ (λ n after. cond_speaks P (has_case items n) _ _ (enter_speaks items k.2 after _ (λ now. case_speaks items k.2 n out now _ speaks behind))
          (cond_speaks P (has_default items) _ _ (enter_speaks items k.2 after _ (λ now. default_speaks items k.2 out now _ speaks behind)) (h after)))
      exec_speaks (breaks line) k exits vs follows x h = x.breaks vs
      exec_speaks (continues line) k exits vs follows x h = x.continues vs
      exec_speaks (jumps line n) k exits vs follows x h = x.labels n vs
      exec_speaks (stray line s) k exits vs follows x h = exec_speaks s k.1 exits vs follows x h

      items_speak : (items : Items) → InItems P items → (exits : Exits) (vs : Variables) (follows : Variables → Behaviour) → ExitsSpeak exits → ((after : Variables) → Speaks P (follows after)) → Speaks P (exec_items r calls items exits vs follows)
      items_speak done k exits vs follows x h = h vs
      items_speak (declares line v rest) k exits vs follows x h = items_speak rest k.1 exits vs follows x h
      items_speak (initializes line v is_drawn e rest) k exits vs follows x h = eval_speaks e k.1 vs _ (λ n after. initial_speaks (home_of r v) v _ line k.0 after _ (λ now. items_speak rest k.2 exits now follows x h))
      items_speak (initializes_structure line v is_drawn a rest) k exits vs follows x h = structure_speaks a k.1 vs _ (λ value after. initial_speaks (home_of r v) v value line k.0 after _ (λ now. items_speak rest k.2 exits now follows x h))
      items_speak (does s rest) k exits vs follows x h =
          exec_speaks s k.0 _ vs _ (record { breaks = x.breaks; continues = x.continues; returns = x.returns; labels = λ n now. label_speaks rest k.1 n exits now follows x h }) (λ after. items_speak rest k.1 exits after follows x h)
      items_speak (label n rest) k exits vs follows x h = items_speak rest k exits vs follows x h
      items_speak (case_at line t bits rest) k exits vs follows x h = items_speak rest k.1 exits vs follows x h
      items_speak (default_at line rest) k exits vs follows x h = items_speak rest k.1 exits vs follows x h

      label_speaks : (items : Items) → InItems P items → (n : ℕ) (exits : Exits) (vs : Variables) (follows : Variables → Behaviour) → ExitsSpeak exits → ((after : Variables) → Speaks P (follows after)) → Speaks P (at_label r calls items n exits vs follows)
      label_speaks done k n exits vs follows x h = x.labels n vs
      label_speaks (declares line v rest) k n exits vs follows x h = label_speaks rest k.1 n exits vs follows x h
      label_speaks (initializes line v is_drawn e rest) k n exits vs follows x h = label_speaks rest k.2 n exits vs follows x h
      label_speaks (initializes_structure line v is_drawn a rest) k n exits vs follows x h = label_speaks rest k.2 n exits vs follows x h
      label_speaks (does s rest) k n exits vs follows x h = label_speaks rest k.1 n exits vs follows x h
      label_speaks (label m rest) k n exits vs follows x h = cond_speaks P (m == n) _ _ (items_speak rest k exits vs follows x h) (label_speaks rest k n exits vs follows x h)
      label_speaks (case_at line t bits rest) k n exits vs follows x h = label_speaks rest k.1 n exits vs follows x h
      label_speaks (default_at line rest) k n exits vs follows x h = label_speaks rest k.1 n exits vs follows x h

      case_speaks : (items : Items) → InItems P items → (n : ℕ) (exits : Exits) (vs : Variables) (follows : Variables → Behaviour) → ExitsSpeak exits → ((after : Variables) → Speaks P (follows after)) → Speaks P (at_case r calls items n exits vs follows)
      case_speaks done k n exits vs follows x h = h vs
      case_speaks (declares line v rest) k n exits vs follows x h = case_speaks rest k.1 n exits vs follows x h
      case_speaks (initializes line v is_drawn e rest) k n exits vs follows x h = case_speaks rest k.2 n exits vs follows x h
      case_speaks (initializes_structure line v is_drawn a rest) k n exits vs follows x h = case_speaks rest k.2 n exits vs follows x h
      case_speaks (does s rest) k n exits vs follows x h = case_speaks rest k.1 n exits vs follows x h
      case_speaks (label m rest) k n exits vs follows x h = case_speaks rest k n exits vs follows x h
      case_speaks (case_at line t bits rest) k n exits vs follows x h = cond_speaks P (bits == n) _ _ (items_speak rest k.1 exits vs follows x h) (case_speaks rest k.1 n exits vs follows x h)
      case_speaks (default_at line rest) k n exits vs follows x h = case_speaks rest k.1 n exits vs follows x h

      default_speaks : (items : Items) → InItems P items → (exits : Exits) (vs : Variables) (follows : Variables → Behaviour) → ExitsSpeak exits → ((after : Variables) → Speaks P (follows after)) → Speaks P (at_default r calls items exits vs follows)
      default_speaks done k exits vs follows x h = h vs
      default_speaks (declares line v rest) k exits vs follows x h = default_speaks rest k.1 exits vs follows x h
      default_speaks (initializes line v is_drawn e rest) k exits vs follows x h = default_speaks rest k.2 exits vs follows x h
      default_speaks (initializes_structure line v is_drawn a rest) k exits vs follows x h = default_speaks rest k.2 exits vs follows x h
      default_speaks (does s rest) k exits vs follows x h = default_speaks rest k.1 exits vs follows x h
      default_speaks (label m rest) k exits vs follows x h = default_speaks rest k exits vs follows x h
      default_speaks (case_at line t bits rest) k exits vs follows x h = default_speaks rest k.1 exits vs follows x h
      default_speaks (default_at line rest) k exits vs follows x h = items_speak rest k.1 exits vs follows x h

    body_speaks : P r.line → (s : Statement) → InStatement P s → (blocks : List (List ℕ)) (follows : Given → Behaviour) → ((given : Given) → Speaks P (follows given)) → Speaks P (exec_body r calls s blocks follows)
    body_speaks named s k blocks follows h =
        let out = leave_parameters r (length blocks) 0 in
        let within : Exits = in_function r.line r.function follows in
        let ends_speak : ExitsSpeak within = record { breaks = λ vs. final_speaks P _ named; continues = λ vs. final_speaks P _ named; returns = λ given vs. h given; labels = λ n vs. final_speaks P _ named } in
        parameters_speak named (length blocks) 0 _ _ (λ vs.
        exec_speaks s k (leaving out within) vs _ (leaving_speaks out (parameters_leave named (length blocks) 0) within ends_speak) (λ last. parameters_leave named (length blocks) 0 last _ (h nothing)))

-- ---- calls

-- of a function that is found
abbrev InFound : (ℕ → Type 0) → Option Procedure → Type 0
InFound P None = Unit {0}
InFound P (Some p) = InProcedure P p

found_lines : (P : ℕ → Type 0) (functions : List Procedure) (n : ℕ) → InProcedures P functions → InFound P (slice_get functions n)
found_lines P [] n k = tt
found_lines P (f ∷ fs) zero k = k.0
found_lines P (f ∷ fs) (suc n) k = found_lines P fs n k.1

module _ (P : ℕ → Type 0) (code : Code) (lined : InProcedures P code.functions) where
  enters_speaks : (caller line f : ℕ) (o : Option Procedure) → slice_get code.functions f ≡ o → P line → InFound P o → (calls : (function line : ℕ) → List (List ℕ) → (Given → Behaviour) → Behaviour)
      → ((function line : ℕ) → P line → (blocks : List (List ℕ)) (follows : Given → Behaviour) → ((given : Given) → Speaks P (follows given)) → Speaks P (calls function line blocks follows))
      → (blocks : List (List ℕ)) (follows : Given → Behaviour) → ((given : Given) → Speaks P (follows given)) → Speaks P (enters code caller line f (body_of o) calls blocks follows)
  enters_speaks caller line f None e k i calls h blocks follows g = final_speaks P (Broken Assertion line caller) k
  enters_speaks caller line f (Some p) e k i calls h blocks follows g = by p.body i.body where
    by : (b : Option Statement) → InBody P b → Speaks P (enters code caller line f b calls blocks follows)
    by None l = final_speaks P (Broken Assertion line caller) k
    by (Some s) l = body_speaks P (running_in code f) calls h (subst (λ (x : Option Procedure). P (line_of x)) (sym e) i.name) s l blocks follows g

  activation_speaks : (fuel : ℕ) (left : List ℕ) (caller f line : ℕ) → P line → (blocks : List (List ℕ)) (follows : Given → Behaviour) → ((given : Given) → Speaks P (follows given)) → Speaks P (activation code fuel left caller f line blocks follows)
  activation_speaks zero left caller f line k blocks follows g = passed_speaks P code.assertions Recursion line caller k
  activation_speaks (suc fuel) left caller f line k blocks follows g =
      cond_speaks P (slice_index left f == 0) _ _ (passed_speaks P code.assertions Recursion line caller k)
      (enters_speaks caller line f (slice_get code.functions f) refl k (found_lines P code.functions f lined) (activation code fuel (opened left f) f) (activation_speaks fuel (opened left f) f) blocks follows g)

-- ---- the threads of a file

leaves_speaks : (P : ℕ → Type 0) (first : Bool) (function line : ℕ) → P line → (given : Given) → Speaks P (leaves first function line given)
leaves_speaks P first function line k given = ask_in_speaks P function _ line k _ (λ a. final_speaks P _ tt)

module _ (P : ℕ → Type 0) (begins : P 1) (core : TypedFile) (limits : Limits) (lined : InProcedures P core.functions) where
  runs_speak : (first : Bool) (n : ℕ) (o : Option Procedure) → InFound P o → Speaks P (runs_at core limits first n o)
  runs_speak first n None k = final_speaks P (Broken Assertion 1 n) begins
  runs_speak first n (Some f) k =
      activation_speaks P (code_of core limits) lined (suc (total (first_left core.functions limits))) (first_left core.functions limits) n n f.line k.name [] _ (leaves_speaks P first n f.line k.name)

  function_speaks : (first : Bool) (n : ℕ) → Speaks P (function_behaviour core limits first n)
  function_speaks first n = runs_speak first n (slice_get core.functions n) (found_lines P core.functions n lined)

-- ---- the states of a run

module _ (P : ℕ → Type 0) where
  record ThreadSpeaks (t : Thread) : Type 0 where
    itself : Speaks P t.behaves
    others : (f v : ℕ) → Speaks P (t.program.behaves f v)

  abbrev AllSpeak : List (ℕ × Member) → Type 0
  AllSpeak [] = Unit {0}
  AllSpeak (e ∷ es) = ThreadSpeaks e.1.thread × AllSpeak es

  abbrev MemberSpeaks : Option Member → Type 0
  MemberSpeaks None = Unit {0}
  MemberSpeaks (Some m) = ThreadSpeaks m.thread

  member_speaks : (members : List (ℕ × Member)) (t : ℕ) → AllSpeak members → MemberSpeaks (member_at members t)
  member_speaks [] t a = tt
  member_speaks (e ∷ es) t a = elim (is_at (nat_cmp t) e.0) as (λ b. MemberSpeaks (cond b (Some e.1) (lookup (is_at (nat_cmp t)) es))) [ true ↦ a.0 | false ↦ member_speaks es t a.1 ]

  told_speak : (members : List (ℕ × Member)) (t : ℕ) (m : Member) → ThreadSpeaks m.thread → AllSpeak members → AllSpeak (with_told members t m)
  told_speak [] t m h a = tt
  told_speak (e ∷ es) t m h a = elim (is_at (nat_cmp t) e.0) as (λ b. AllSpeak (cond b ((e.0, m) ∷ es) (e ∷ set_value (is_at (nat_cmp t)) es m))) [ true ↦ (h, a.1) | false ↦ (a.0, told_speak es t m h a.1) ]

  insert_speak : (members : List (ℕ × Member)) (t : ℕ) (m : Member) → ThreadSpeaks m.thread → AllSpeak members → AllSpeak (insert_entry nat_cmp members t m)
  insert_speak [] t m h a = (h, tt)
  insert_speak (e ∷ es) t m h a = elim (nat_cmp t e.0) as (λ (o : Ordering). AllSpeak (match_ordering o ((t, m) ∷ e ∷ es) ((e.0, m) ∷ es) (e ∷ insert_entry nat_cmp es t m))) [ Less ↦ (h, (a.0, a.1)) | Equal ↦ (h, a.1) | Greater ↦ (a.0, insert_speak es t m h a.1) ]

  child_speak : (m : Member) (change : Change) (members : List (ℕ × Member)) → ThreadSpeaks m.thread → AllSpeak members → AllSpeak (with_child m change members)
  child_speak m keeps members h a = a
  child_speak m (adds n o) members h a = a
  child_speak m (kills n) members h a = a
  child_speak m (puts p bytes) members h a = a
  child_speak m (starts n f v) members h a = insert_speak members n (child m f v) (record { itself = h.others f v; others = h.others }) a
  child_speak m (ends n value) members h a = a

  abbrev Breaks : Turn → Type 0
  Breaks turned.Moved = Unit {0}
  Breaks turned.Nothing = Unit {0}
  Breaks (turned.Broken check) = P check.line

  record IsFine (r : Turn × World) : Type 0 where
    check : Breaks r.0
    members : AllSpeak r.1.members

  settled_fine : (w : World) (t : ℕ) (words : List ℕ) (m : Member) (action : Action) (line function : ℕ) (o : Outcome) → AllSpeak w.members → ThreadSpeaks m.thread → P line → IsFine (settled w t words m action line function o)
  settled_fine w t words m action line function (broken_row class) a h p = record { check = p; members = a }
  settled_fine w t words m action line function waits a h p = record { check = tt; members = a }
  settled_fine w t words m action line function (moves answer change) a h p =
      record { check = tt; members = child_speak m change (with_told w.members t (told m words action answer)) h (told_speak w.members t (told m words action answer) (record { itself = λ answers. h.itself (answer ∷ answers); others = h.others }) a) }

  next_fine : (w : World) (t : ℕ) (words : List ℕ) (m : Member) (n : Next) → AllSpeak w.members → ThreadSpeaks m.thread → Names P n → IsFine (with_next w t words m n)
  next_fine w t words m (Act action line function) a h p = settled_fine w t words m action line function (outcome w.common t words m.counts action) a h p
  next_fine w t words m (Ended v) a h p = record { check = tt; members = a }
  next_fine w t words m Blocked a h p = record { check = tt; members = a }
  next_fine w t words m (Broken class line function) a h p = record { check = p; members = a }

  member_fine : (w : World) (t : ℕ) (words : List ℕ) (o : Option Member) → AllSpeak w.members → MemberSpeaks o → IsFine (with_member w t words o)
  member_fine w t words None a h = record { check = tt; members = a }
  member_fine w t words (Some m) a h = next_fine w t words m (m.thread.behaves []) a h (h.itself [])

  turn_fine : (w : World) (t : ℕ) (inputs : InputLists) → AllSpeak w.members → IsFine (turn w t inputs)
  turn_fine w t inputs a = elim (may_move w.common t) as (λ b. IsFine (cond b (with_member w t (words_of inputs t) (member_at w.members t)) (turned.Nothing, w))) [ true ↦ member_fine w t (words_of inputs t) (member_at w.members t) a (member_speaks w.members t a) | false ↦ record { check = tt; members = a } ]

  moves_fine : (inputs : InputLists) (schedule : List ℕ) (first last : World) → Moves inputs schedule first last → AllSpeak first.members → AllSpeak last.members
  moves_fine inputs [] first last m a = subst (λ (w : World). AllSpeak w.members) m a
  moves_fine inputs (t ∷ schedule) first last m a =
      let r = m.1.turn_is in
      let fine : AllSpeak (turn first t inputs).1.members = (turn_fine first t inputs a).members in
      moves_fine inputs schedule m.0 last m.2 (subst (λ (x : Turn × World). AllSpeak x.1.members) r fine)

  replay_fine : (w : World) (inputs : InputLists) (schedule : List ℕ) (check : Check) → AllSpeak w.members → Replays w inputs schedule check → P check.line
  replay_fine w inputs schedule check a r =
      let reached = moves_fine inputs r.front w r.reached r.moves a in
      let fine : Breaks (turn r.reached r.last inputs).0 = (turn_fine r.reached r.last inputs reached).check in
      subst Breaks r.breaks_there fine

-- The check that a run of a file breaks is at a line that the file carries, or at line 1 where it lacks its `main`.
pub broken_line : (P : ℕ → Type 0) → P 1 → (core : TypedFile) (limits : Limits) (inputs : InputLists) (schedule : List ℕ) (check : Check) → InFile P core → Replays (source_world core limits) inputs schedule check → P check.line
broken_line P begins core limits inputs schedule check lined r =
    replay_fine P (source_world core limits) inputs schedule check
    (record { itself = function_speaks P begins core limits lined.functions true (main_number core.functions); others = λ f v. function_speaks P begins core limits lined.functions false f }, tt) r
