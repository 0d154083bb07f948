-- What a thread does within larger bounds is what it does within the smaller ones, until that passes a bound.
use Rattle.std.proofs.Common.{◌≡◌, ℕ, zero, suc, ◌+◌, ◌-◌, ◌*◌, ◌≤◌, ℤ, pos, Bool, true, false, not, List, [], ◌∷◌, ◌++◌, length, take, drop, Option, Some, None, if◌then◌else◌, refl, arith, inl, inr}
use Rattle.std.proofs.lemmas.Bool.Decides.{nat_tests}
use Rattle.std.specs.Prelude.{◌==◌, slice_get, slice_index, replicate, nat_le}
use Rattle.words.specs.declared.check.Class.{Class}
use Rattle.words.specs.declared.check.Class.TheVariants.{Assertion, Return, Unwind, Recursion, Bounds, Pointer, MallocLimit}
use Rattle.c_types.specs.declared.integers.IntegerType.{IntegerType}
use Rattle.c_types.specs.declared.integers.IntegerType.TheVariants.{UnsignedLong}
use Rattle.c_types.specs.Integers.{bytes, promoted}
use Rattle.core_tree.specs.declared.operators.ArithmeticOperator.{ArithmeticOperator}
use Rattle.core_tree.specs.Ranges.{Limits, LoopLimit}
use Rattle.core_tree.specs.Trees as trees
use Rattle.core_tree.specs.Trees.{Place, variable_at, object_at, literal_at, pointed, arrow, member, element, subscript, Expression, constant, read, convert, sign, is_zero, arithmetic, compare, logical, choice, assign, update, step, comma, assertion, assumption, draw, part, discard, discard_structure, call, function_name, size_of_value, size_of_structure, address, sum, distance, relation, pointer_update, pointer_step, allocate, allocate_zeroed, release, exit, abort, Structure, copy, choose, put, follow, section, list, string, give, Parts, no_part, number_part, structure_part, Arguments, no_argument, number_argument, structure_argument, Statement, block, if_then, if_else, evaluate, Items, done, declares, initializes, initializes_structure, does, label, case_at, default_at, Procedure, TypedFile}
use Rattle.core_tree.specs.Operations.{number as integer, is_true, truth_bits, converted, arithmetic_check, arithmetic_value, sign_check, sign_value, step_operation, compared}
use Rattle.actions.specs.declared.action.Action.{Action}
use Rattle.actions.specs.declared.action.Action.TheVariants.{Read, Write, Look, Free}
use Rattle.actions.specs.declared.action.Answer.{Answer}
use Rattle.actions.specs.declared.action.Next.TheVariants.{Blocked, Broken}
use Rattle.actions.specs.Behaviour.{Behaviour, shape_of, has_shape}
use Rattle.actions.specs.Pointer.{object_of, offset_of}
use Rattle.c_values.specs.Pointers.{further, elements_between}
use Rattle.c_values.specs.Variables.{Variables, low_bytes, put_at, zeros, number_of, number_at, word_count}
use Rattle.c_meaning.specs.Meaning as meaning
use Rattle.c_meaning.specs.Meaning.{Given, nothing, number, structure, Running, Exits, Code, integer_of, number_type, drawn, size_in, bytes_in, decides, final, in_loop, in_switch, with_labels, in_function, leaving, running_in, body_of, has_case, has_default, ask_in, passed, total, opened, activation}
use Rattle.c_meaning.specs.Source.{code_of, leaves, runs_at, main_number, source_thread, tests_in, name_of}
use Rattle.c_interp.specs.SourceThread.{function_starts_none}
use Rattle.c_interp.specs.Larger.{IsLarger, with_bounds, SafeWithinMore}
use Rattle.c_interp.proofs.Unlimited.{Cuts, same_cuts, choice_cut, safe_run}

-- ---- behaviours

cuts_same : (b : Behaviour) → Cuts b b
cuts_same b = λ answers. same_cuts b answers

if_cuts : (c : Bool) (g h p q : Behaviour) → Cuts g h → Cuts p q → Cuts (if c then g else p) (if c then h else q)
if_cuts true g h p q k l = k
if_cuts false g h p q k l = l

ask_cuts : (function line : ℕ) (action : Action) (g h : Answer → Behaviour) → ((a : Answer) → Cuts (g a) (h a)) → Cuts (ask_in function action line g) (ask_in function action line h)
ask_cuts function line action g h k [] = inr (inl refl)
ask_cuts function line action g h k (a ∷ answers) = inr (choice_cut (has_shape (shape_of action) a) (has_shape (shape_of action) a) (g a) (h a) answers refl (k a answers))

broken_cuts : (class : Class) (line function : ℕ) (u : Behaviour) → Cuts (final (Broken class line function)) u
broken_cuts class line function u [] = inl tt
broken_cuts class line function u (a ∷ answers) = inl tt

-- passing a bound breaks a check
passed_cuts : (b : Bool) → b ≡ true → (class : Class) (line function : ℕ) (u : Behaviour) → Cuts (passed b class line function) u
passed_cuts true e class line function u = broken_cuts class line function u
passed_cuts false e class line function u = absurd (cc)

-- the same exits
record ExitsCut (d e : Exits) : Type 0 where
  breaks : (vs : Variables) → Cuts (d.breaks vs) (e.breaks vs)
  continues : (vs : Variables) → Cuts (d.continues vs) (e.continues vs)
  returns : (given : Given) (vs : Variables) → Cuts (d.returns given vs) (e.returns given vs)
  labels : (n : ℕ) (vs : Variables) → Cuts (d.labels n vs) (e.labels n vs)

loop_cut : (d e : Exits) → ExitsCut d e → (g h p q : Variables → Behaviour) → ((vs : Variables) → Cuts (g vs) (h vs)) → ((vs : Variables) → Cuts (p vs) (q vs)) → ExitsCut (in_loop d g p) (in_loop e h q)
loop_cut d e k g h p q l m = record { breaks = l; continues = m; returns = k.returns; labels = k.labels }

switch_cut : (d e : Exits) → ExitsCut d e → (g h : Variables → Behaviour) → ((vs : Variables) → Cuts (g vs) (h vs)) → ExitsCut (in_switch d g) (in_switch e h)
switch_cut d e k g h l = record { breaks = l; continues = k.continues; returns = k.returns; labels = k.labels }

labels_cut : (d e : Exits) → ExitsCut d e → (g h : ℕ → Variables → Behaviour) → ((n : ℕ) (vs : Variables) → Cuts (g n vs) (h n vs)) → ExitsCut (with_labels d g) (with_labels e h)
labels_cut d e k g h l = record { breaks = k.breaks; continues = k.continues; returns = k.returns; labels = l }

leaving_cut : (out : Variables → Behaviour → Behaviour) (into : Variables → Behaviour → Behaviour) → ((vs : Variables) (g h : Behaviour) → Cuts g h → Cuts (out vs g) (into vs h)) → (d e : Exits) → ExitsCut d e → ExitsCut (leaving out d) (leaving into e)
leaving_cut out into l d e k = record {
  breaks = λ vs. l vs (d.breaks vs) (e.breaks vs) (k.breaks vs);
  continues = λ vs. l vs (d.continues vs) (e.continues vs) (k.continues vs);
  returns = λ given vs. l vs (d.returns given vs) (e.returns given vs) (k.returns given vs);
  labels = λ n vs. l vs (d.labels n vs) (e.labels n vs) (k.labels n vs);
}

function_cut : (line function : ℕ) (g h : Given → Behaviour) → ((given : Given) → Cuts (g given) (h given)) → ExitsCut (in_function line function g) (in_function line function h)
function_cut line function g h k = record {
  breaks = λ vs. cuts_same (final (Broken Assertion line function));
  continues = λ vs. cuts_same (final (Broken Assertion line function));
  returns = λ given vs. k given;
  labels = λ n vs. cuts_same (final (Broken Assertion line function));
}

-- ---- a function within smaller bounds, and within larger ones

module _ (code : Code) (checked : code.assertions ≡ true) (tests : ℕ → ℕ → ℕ) (assertions : Bool) (more : (f n : ℕ) → code.tests f n ≤ tests f n) where
  abbrev larger : Code
  larger = record code { tests = tests; assertions = assertions }

  module _ (function : ℕ) where
    abbrev few : Running
    few = running_in code function

    abbrev many : Running
    many = running_in larger function

    checked_cuts : (c : Option Class) (line : ℕ) (g h : Behaviour) → Cuts g h → Cuts (meaning.unless_broken few c line g) (meaning.unless_broken many c line h)
    checked_cuts None line g h k = k
    checked_cuts (Some class) line g h k = cuts_same (final (Broken class line function))

    -- what follows, or this check breaks
    or_broken : (b : Bool) (class : Class) (line : ℕ) (g h : Behaviour) → Cuts g h → Cuts (if b then g else final (Broken class line function)) (if b then h else final (Broken class line function))
    or_broken b class line g h k = if_cuts b g h _ _ k (cuts_same (final (Broken class line function)))

    reads_cuts : (o : Option ℕ) (at count line : ℕ) (vs : Variables) (g h : List ℕ → Behaviour) → ((found : List ℕ) → Cuts (g found) (h found)) → Cuts (meaning.reads few o at count line vs g) (meaning.reads many o at count line vs h)
    reads_cuts (Some v) at count line vs g h k = or_broken _ Bounds line _ _ (k _)
    reads_cuts None at count line vs g h k = ask_cuts function line (Read at count) (λ a. g (bytes_in a)) (λ a. h (bytes_in a)) (λ a. k (bytes_in a))

    writes_cuts : (o : Option ℕ) (at : ℕ) (new : List ℕ) (line : ℕ) (vs : Variables) (g h : Variables → Behaviour) → ((now : Variables) → Cuts (g now) (h now)) → Cuts (meaning.writes few o at new line vs g) (meaning.writes many o at new line vs h)
    writes_cuts (Some v) at new line vs g h k = or_broken _ Bounds line _ _ (k _)
    writes_cuts None at new line vs g h k = ask_cuts function line (Write at new false) (λ a. g vs) (λ a. h vs) (λ a. k vs)

    read_cuts : (t : IntegerType) (x : Place) (at : ℕ) (vs : Variables) (g h : ℕ → Behaviour) → ((n : ℕ) → Cuts (g n) (h n)) → Cuts (meaning.reads_number few t x at vs g) (meaning.reads_number many t x at vs h)
    read_cuts t x at vs g h k = reads_cuts (meaning.variable_of few x) at (bytes t) (meaning.place_line x) vs (λ found. g (number_of t found)) (λ found. h (number_of t found)) (λ found. k (number_of t found))

    write_cuts : (t : IntegerType) (x : Place) (at line bits : ℕ) (vs : Variables) (g h : Variables → Behaviour) → ((now : Variables) → Cuts (g now) (h now)) → Cuts (meaning.writes_number few t x at line bits vs g) (meaning.writes_number many t x at line bits vs h)
    write_cuts t x at line bits vs g h k = writes_cuts (meaning.variable_of few x) at (low_bytes (bytes t) bits) line vs g h k

    combined_cuts : (t : IntegerType) (x : Place) (at : ℕ) (op : ArithmeticOperator) (u w : IntegerType) (old y line : ℕ) (vs : Variables) (g h : ℕ → Variables → Behaviour) → ((n : ℕ) (now : Variables) → Cuts (g n now) (h n now)) →
        Cuts (meaning.combined few t x at op u w old y line vs g) (meaning.combined many t x at op u w old y line vs h)
    combined_cuts t x at op u w old y line vs g h k =
        let new = converted u t (arithmetic_value op u (converted t u old) y) in
        checked_cuts (arithmetic_check op u w (converted t u old) y) line _ _ (write_cuts t x at line new vs (g new) (h new) (k new))

    lands_cuts : (is_element : Bool) (p size : ℕ) (index stride : ℤ) (line : ℕ) (g h : ℕ → Behaviour) → ((q : ℕ) → Cuts (g q) (h q)) → Cuts (meaning.lands few is_element p size index stride line g) (meaning.lands many is_element p size index stride line h)
    lands_cuts is_element p size index stride line g h k = or_broken _ (meaning.range_class is_element) line _ _ (k _)

    moves_cuts : (is_element : Bool) (p : ℕ) (index stride : ℤ) (line : ℕ) (g h : ℕ → Behaviour) → ((q : ℕ) → Cuts (g q) (h q)) → Cuts (meaning.moves few is_element p index stride line g) (meaning.moves many is_element p index stride line h)
    moves_cuts is_element p index stride line g h k =
        ask_cuts function line (Look p is_element) (λ a. meaning.lands few is_element p (size_in a) index stride line g) (λ a. meaning.lands many is_element p (size_in a) index stride line h) (λ a. lands_cuts is_element p (size_in a) index stride line g h k)

    steps_cuts : (at whole : ℕ) (index stride : ℤ) (line : ℕ) (g h : ℕ → Behaviour) → ((q : ℕ) → Cuts (g q) (h q)) → Cuts (meaning.steps_to few at whole index stride line g) (meaning.steps_to many at whole index stride line h)
    steps_cuts at whole index stride line g h k = or_broken _ Bounds line _ _ (k _)

    apart_cuts : (p q line : ℕ) (g h : Behaviour) → Cuts g h → Cuts (meaning.unless_apart few p q line g) (meaning.unless_apart many p q line h)
    apart_cuts p q line g h k = or_broken (object_of p == object_of q) Pointer line g h k

    used_cuts : (used : Bool) (line : ℕ) (g h : Behaviour) → Cuts g h → Cuts (meaning.unless_used few used line g) (meaning.unless_used many used line h)
    used_cuts true line g h k = cuts_same (final (Broken Return line function))
    used_cuts false line g h k = k

    received_cuts : (used : Bool) (line : ℕ) (t : IntegerType) (g h : ℕ → Behaviour) → ((n : ℕ) → Cuts (g n) (h n)) → (given : Given) → Cuts (meaning.received few used line t g given) (meaning.received many used line t h given)
    received_cuts used line t g h k nothing = used_cuts used line (g 0) (h 0) (k 0)
    received_cuts used line t g h k (number x) = k _
    received_cuts used line t g h k (structure value) = k 0

    structure_cuts : (used : Bool) (size line : ℕ) (g h : List ℕ → Behaviour) → ((value : List ℕ) → Cuts (g value) (h value)) → (given : Given) → Cuts (meaning.received_structure few used size line g given) (meaning.received_structure many used size line h given)
    structure_cuts used size line g h k nothing = used_cuts used line _ _ (k (zeros size))
    structure_cuts used size line g h k (number x) = k (zeros size)
    structure_cuts used size line g h k (structure value) = k value

    -- ---- variables

    words_cuts : (words line v offset : ℕ) (vs : Variables) (g h : Variables → Behaviour) → ((now : Variables) → Cuts (g now) (h now)) → Cuts (meaning.draws_words few words line v offset vs g) (meaning.draws_words many words line v offset vs h)
    words_cuts zero line v offset vs g h k = k vs
    words_cuts (suc n) line v offset vs g h k = ask_cuts function line _ _ _ (λ a. words_cuts n line v (offset + 8) _ g h k)

    places_cuts : (o : Option ℕ) (line v : ℕ) (vs : Variables) (g h : Variables → Behaviour) → ((now : Variables) → Cuts (g now) (h now)) → Cuts (meaning.places few o line v vs g) (meaning.places many o line v vs h)
    places_cuts None line v vs g h k = k vs
    places_cuts (Some home) line v vs g h k = ask_cuts function line _ _ _ (λ a. k _)

    makes_cuts : (drawn_first : Bool) (line v : ℕ) (vs : Variables) (g h : Variables → Behaviour) → ((now : Variables) → Cuts (g now) (h now)) → Cuts (meaning.makes few drawn_first line v vs g) (meaning.makes many drawn_first line v vs h)
    makes_cuts true line v vs g h k = words_cuts (word_count (meaning.size_of few v)) line v 0 vs _ _ (λ after. places_cuts (meaning.home_of few v) line v after g h k)
    makes_cuts false line v vs g h k = places_cuts (meaning.home_of few v) line v _ g h k

    enter_cuts : (items : Items) (vs : Variables) (g h : Variables → Behaviour) → ((now : Variables) → Cuts (g now) (h now)) → Cuts (meaning.enter few items vs g) (meaning.enter many items vs h)
    enter_cuts done vs g h k = k vs
    enter_cuts (declares line v rest) vs g h k = makes_cuts true line v vs _ _ (λ after. enter_cuts rest after g h k)
    enter_cuts (initializes line v is_drawn e rest) vs g h k = makes_cuts is_drawn line v vs _ _ (λ after. enter_cuts rest after g h k)
    enter_cuts (initializes_structure line v is_drawn a rest) vs g h k = makes_cuts is_drawn line v vs _ _ (λ after. enter_cuts rest after g h k)
    enter_cuts (does s rest) vs g h k = enter_cuts rest vs g h k
    enter_cuts (label n rest) vs g h k = enter_cuts rest vs g h k
    enter_cuts (case_at line t bits rest) vs g h k = enter_cuts rest vs g h k
    enter_cuts (default_at line rest) vs g h k = enter_cuts rest vs g h k

    initial_cuts : (o : Option ℕ) (v : ℕ) (new : List ℕ) (line : ℕ) (vs : Variables) (g h : Variables → Behaviour) → ((now : Variables) → Cuts (g now) (h now)) → Cuts (meaning.initial few o v new line vs g) (meaning.initial many o v new line vs h)
    initial_cuts None v new line vs g h k = k _
    initial_cuts (Some home) v new line vs g h k = ask_cuts function line _ _ _ (λ a. k vs)

    dies_cuts : (o : Option ℕ) (line : ℕ) (vs : Variables) (g h : Behaviour) → Cuts g h → Cuts (meaning.dies few o line vs g) (meaning.dies many o line vs h)
    dies_cuts None line vs g h k = k
    dies_cuts (Some home) line vs g h k = ask_cuts function line _ _ _ (λ a. k)

    leave_cuts : (items : Items) (vs : Variables) (g h : Behaviour) → Cuts g h → Cuts (meaning.leave few items vs g) (meaning.leave many items vs h)
    leave_cuts done vs g h k = k
    leave_cuts (declares line v rest) vs g h k = leave_cuts rest vs _ _ (dies_cuts (meaning.home_of few v) line vs g h k)
    leave_cuts (initializes line v is_drawn e rest) vs g h k = leave_cuts rest vs _ _ (dies_cuts (meaning.home_of few v) line vs g h k)
    leave_cuts (initializes_structure line v is_drawn a rest) vs g h k = leave_cuts rest vs _ _ (dies_cuts (meaning.home_of few v) line vs g h k)
    leave_cuts (does s rest) vs g h k = leave_cuts rest vs g h k
    leave_cuts (label n rest) vs g h k = leave_cuts rest vs g h k
    leave_cuts (case_at line t bits rest) vs g h k = leave_cuts rest vs g h k
    leave_cuts (default_at line rest) vs g h k = leave_cuts rest vs g h k

    enter_parameters_cuts : (count v : ℕ) (vs : Variables) (g h : Variables → Behaviour) → ((now : Variables) → Cuts (g now) (h now)) → Cuts (meaning.enter_parameters few count v vs g) (meaning.enter_parameters many count v vs h)
    enter_parameters_cuts zero v vs g h k = k vs
    enter_parameters_cuts (suc count) v vs g h k = places_cuts (meaning.home_of few v) _ v vs _ _ (λ after. enter_parameters_cuts count (suc v) after g h k)

    leave_parameters_cuts : (count v : ℕ) (vs : Variables) (g h : Behaviour) → Cuts g h → Cuts (meaning.leave_parameters few count v vs g) (meaning.leave_parameters many count v vs h)
    leave_parameters_cuts zero v vs g h k = k
    leave_parameters_cuts (suc count) v vs g h k = leave_parameters_cuts count (suc v) vs _ _ (dies_cuts (meaning.home_of few v) _ vs g h k)

    -- ---- allocations

    bytes_cuts : (words line size : ℕ) (found : List ℕ) (g h : List ℕ → Behaviour) → ((now : List ℕ) → Cuts (g now) (h now)) → Cuts (meaning.draws_bytes few words line size found g) (meaning.draws_bytes many words line size found h)
    bytes_cuts zero line size found g h k = k found
    bytes_cuts (suc n) line size found g h k = ask_cuts function line _ _ _ (λ a. bytes_cuts n line size _ g h k)

    allocates_cuts : (line : ℕ) (new : List ℕ) (g h : ℕ → Behaviour) → ((p : ℕ) → Cuts (g p) (h p)) → Cuts (meaning.allocates few line new g) (meaning.allocates many line new h)
    allocates_cuts line new g h k = ask_cuts function line _ _ _ (λ a. k _)

    large_cuts : (size line : ℕ) (g h : Behaviour) → Cuts g h → Cuts (meaning.unless_large few size line g) (meaning.unless_large many size line h)
    large_cuts size line g h k = or_broken (nat_le size code.malloc_limit) MallocLimit line g h k

    fail_cuts : (line : ℕ) (g h p q : Behaviour) → Cuts g h → Cuts p q → Cuts (meaning.may_fail few line g p) (meaning.may_fail many line h q)
    fail_cuts line g h p q k l = if_cuts code.malloc_may_fail _ _ p q (ask_cuts function line _ _ _ (λ a. if_cuts (is_true (drawn a)) g h p q k l)) l

    grants_cuts : (size line : ℕ) (g h : ℕ → Behaviour) → ((p : ℕ) → Cuts (g p) (h p)) → Cuts (meaning.grants few size line g) (meaning.grants many size line h)
    grants_cuts size line g h k = large_cuts size line _ _ (bytes_cuts (word_count size) line size [] _ _ (λ found. allocates_cuts line found g h k))

    grants_zeroed_cuts : (count size line : ℕ) (g h : ℕ → Behaviour) → ((p : ℕ) → Cuts (g p) (h p)) → Cuts (meaning.grants_zeroed few count size line g) (meaning.grants_zeroed many count size line h)
    grants_zeroed_cuts count size line g h k = large_cuts (count * size) line _ _ (allocates_cuts line (zeros (count * size)) g h k)

    frees_cuts : (p line : ℕ) (g h : Behaviour) → Cuts g h → Cuts (meaning.frees few p line g) (meaning.frees many p line h)
    frees_cuts p line g h k = if_cuts (p == 0) g h _ _ k (ask_cuts function line (Free p) (λ a. g) (λ a. h) (λ a. k))

    ends_cuts : (line : ℕ) → Cuts (meaning.ends_process few line) (meaning.ends_process many line)
    ends_cuts line = cuts_same (meaning.ends_process few line)

    -- ---- loops: where the smaller bound leaves a round, so does the larger

    module _ (line : ℕ) (p q : (Variables → Behaviour) → Variables → Behaviour) (each : (g h : Variables → Behaviour) → ((vs : Variables) → Cuts (g vs) (h vs)) → (vs : Variables) → Cuts (p g vs) (q h vs)) where
      rounds_cuts : (m n : ℕ) → m ≤ n → (vs : Variables) → Cuts (meaning.rounds few line p m vs) (meaning.rounds many line q n vs)
      rounds_cuts zero n l vs = passed_cuts code.assertions checked Unwind line function _
      rounds_cuts (suc m) zero l vs = absurd (omega (arith, l))
      rounds_cuts (suc m) (suc n) l vs = each (meaning.rounds few line p m) (meaning.rounds many line q n) (λ now. rounds_cuts m n (omega (arith, l)) now) vs

    -- ---- expressions, by what calls do

    module _ (c d : ℕ → ℕ → List (List ℕ) → (Given → Behaviour) → Behaviour)
        (calls : (f line : ℕ) (blocks : List (List ℕ)) (g h : Given → Behaviour) → ((given : Given) → Cuts (g given) (h given)) → Cuts (c f line blocks g) (d f line blocks h)) where
      mutual
        locate_cuts : (x : Place) (vs : Variables) (g h : ℕ → Variables → Behaviour) → ((at : ℕ) (now : Variables) → Cuts (g at now) (h at now)) → Cuts (meaning.locate few c x vs g) (meaning.locate many d x vs h)
        locate_cuts (variable_at line v offset) vs g h k = k _ vs
        locate_cuts (object_at line n offset) vs g h k = k _ vs
        locate_cuts (literal_at line n) vs g h k = k _ vs
        locate_cuts (pointed line e) vs g h k = eval_cuts e vs g h k
        locate_cuts (arrow line e offset) vs g h k = eval_cuts e vs _ _ (λ p. k (further p offset))
        locate_cuts (member line x offset) vs g h k = locate_cuts x vs _ _ (λ at. k (further at offset))
        locate_cuts (element line x e size whole false) vs g h k =
            locate_cuts x vs _ _ (λ at after. eval_cuts e after _ _ (λ i last. steps_cuts at whole (integer (number_type e) i) (pos size) line _ _ (λ found. k found last)))
        locate_cuts (element line x e size whole true) vs g h k =
            eval_cuts e vs _ _ (λ i after. locate_cuts x after _ _ (λ at last. steps_cuts at whole (integer (number_type e) i) (pos size) line _ _ (λ found. k found last)))
        locate_cuts (subscript line a e size false) vs g h k =
            eval_cuts a vs _ _ (λ p after. eval_cuts e after _ _ (λ i last. moves_cuts true p (integer (number_type e) i) (pos size) line _ _ (λ found. k found last)))
        locate_cuts (subscript line a e size true) vs g h k =
            eval_cuts e vs _ _ (λ i after. eval_cuts a after _ _ (λ p last. moves_cuts true p (integer (number_type e) i) (pos size) line _ _ (λ found. k found last)))

        eval_cuts : (e : Expression) (vs : Variables) (g h : ℕ → Variables → Behaviour) → ((n : ℕ) (now : Variables) → Cuts (g n now) (h n now)) → Cuts (meaning.eval few c e vs g) (meaning.eval many d e vs h)
        eval_cuts (constant line t bits) vs g h k = k bits vs
        eval_cuts (read t x) vs g h k = locate_cuts x vs _ _ (λ at after. read_cuts t x at after _ _ (λ found. k found after))
        eval_cuts (convert to e) vs g h k = eval_cuts e vs _ _ (λ x. k (converted (number_type e) to x))
        eval_cuts (sign line op e) vs g h k = eval_cuts e vs _ _ (λ x after. checked_cuts (sign_check op (number_type e) x) line _ _ (k (sign_value op (number_type e) x) after))
        eval_cuts (is_zero line e) vs g h k = eval_cuts e vs _ _ (λ x. k (truth_bits (not (is_true x))))
        eval_cuts (arithmetic line op a b) vs g h k =
            eval_cuts a vs _ _ (λ x after. eval_cuts b after _ _ (λ y last. checked_cuts (arithmetic_check op (number_type a) (number_type b) x y) line _ _ (k (arithmetic_value op (number_type a) x y) last)))
        eval_cuts (compare line op a b) vs g h k = eval_cuts a vs _ _ (λ x after. eval_cuts b after _ _ (λ y. k (truth_bits (compared op (number_type a) x y))))
        eval_cuts (logical line op a b) vs g h k =
            eval_cuts a vs _ _ (λ x after. if_cuts (decides op x) _ _ _ _ (k (truth_bits (is_true x)) after) (eval_cuts b after _ _ (λ y. k (truth_bits (is_true y)))))
        eval_cuts (choice line test a b) vs g h k = eval_cuts test vs _ _ (λ x after. if_cuts (is_true x) _ _ _ _ (eval_cuts a after g h k) (eval_cuts b after g h k))
        eval_cuts (assign line t x e) vs g h k = locate_cuts x vs _ _ (λ at after. eval_cuts e after _ _ (λ y last. write_cuts t x at line y last _ _ (k y)))
        eval_cuts (update line t x op u e) vs g h k =
            locate_cuts x vs _ _ (λ at after. eval_cuts e after _ _ (λ y last. read_cuts t x at last _ _ (λ old. combined_cuts t x at op u (number_type e) old y line last g h k)))
        eval_cuts (step line t x op before) vs g h k =
            locate_cuts x vs _ _ (λ at after. read_cuts t x at after _ _ (λ old. combined_cuts t x at (step_operation op) (promoted t) (promoted t) old 1 line after _ _ (λ new. k (if before then new else old))))
        eval_cuts (comma line a b) vs g h k = eval_cuts a vs _ _ (λ x after. eval_cuts b after g h k)
        eval_cuts (assertion line e) vs g h k = eval_cuts e vs _ _ (λ x after. or_broken (is_true x) Assertion line _ _ (k 0 after))
        eval_cuts (assumption line e) vs g h k = eval_cuts e vs _ _ (λ x after. if_cuts (is_true x) _ _ _ _ (k 0 after) (cuts_same (final Blocked)))
        eval_cuts (draw line t) vs g h k = ask_cuts function line _ _ _ (λ a. k (drawn a) vs)
        eval_cuts (part line t offset a) vs g h k = value_cuts a vs _ _ (λ value. k (number_at t offset value))
        eval_cuts (discard line e) vs g h k = eval_cuts e vs _ _ (λ x. k 0)
        eval_cuts (discard_structure a) vs g h k = value_cuts a vs _ _ (λ value. k 0)
        eval_cuts (call line f used t args) vs g h k = arguments_cuts args [] vs _ _ (λ blocks after. calls f line blocks _ _ (received_cuts used line (integer_of t) _ _ (λ x. k x after)))
        eval_cuts (function_name line) vs g h k = k 0 vs
        eval_cuts (size_of_value line bits e) vs g h k = k bits vs
        eval_cuts (size_of_structure line bits a) vs g h k = k bits vs
        eval_cuts (address line x) vs g h k = locate_cuts x vs g h k
        eval_cuts (sum line a e n false) vs g h k =
            eval_cuts a vs _ _ (λ p after. eval_cuts e after _ _ (λ i last. moves_cuts false p (integer (number_type e) i) n line _ _ (λ q. k q last)))
        eval_cuts (sum line a e n true) vs g h k =
            eval_cuts e vs _ _ (λ i after. eval_cuts a after _ _ (λ p last. moves_cuts false p (integer (number_type e) i) n line _ _ (λ q. k q last)))
        eval_cuts (distance line a b n) vs g h k = eval_cuts a vs _ _ (λ p after. eval_cuts b after _ _ (λ q last. apart_cuts p q line _ _ (k (elements_between p q n) last)))
        eval_cuts (relation line op a b) vs g h k =
            eval_cuts a vs _ _ (λ p after. eval_cuts b after _ _ (λ q last. apart_cuts p q line _ _ (k (truth_bits (compared op UnsignedLong (offset_of p) (offset_of q))) last)))
        eval_cuts (pointer_update line x n e) vs g h k =
            locate_cuts x vs _ _ (λ at after. eval_cuts e after _ _ (λ i last. read_cuts UnsignedLong x at last _ _ (λ p. moves_cuts false p (integer (number_type e) i) n line _ _ (λ q. write_cuts UnsignedLong x at line q last _ _ (k q)))))
        eval_cuts (pointer_step line x n before) vs g h k =
            locate_cuts x vs _ _ (λ at after. read_cuts UnsignedLong x at after _ _ (λ p. moves_cuts false p (pos 1) n line _ _ (λ q. write_cuts UnsignedLong x at line q after _ _ (k (if before then q else p)))))
        eval_cuts (allocate line e) vs g h k = eval_cuts e vs _ _ (λ n after. fail_cuts line _ _ _ _ (k 0 after) (grants_cuts n line _ _ (λ p. k p after)))
        eval_cuts (allocate_zeroed line a b) vs g h k =
            eval_cuts a vs _ _ (λ m after. eval_cuts b after _ _ (λ n last. fail_cuts line _ _ _ _ (k 0 last) (grants_zeroed_cuts m n line _ _ (λ p. k p last))))
        eval_cuts (release line e) vs g h k = eval_cuts e vs _ _ (λ p after. frees_cuts p line _ _ (k 0 after))
        eval_cuts (exit line e) vs g h k = eval_cuts e vs _ _ (λ x after. ends_cuts line)
        eval_cuts (abort line) vs g h k = ends_cuts line

        value_cuts : (a : Structure) (vs : Variables) (g h : List ℕ → Variables → Behaviour) → ((value : List ℕ) (now : Variables) → Cuts (g value now) (h value now)) → Cuts (meaning.eval_structure few c a vs g) (meaning.eval_structure many d a vs h)
        value_cuts (copy x size) vs g h k = locate_cuts x vs _ _ (λ at after. reads_cuts (meaning.variable_of few x) at size (meaning.place_line x) after _ _ (λ value. k value after))
        value_cuts (choose line test a b) vs g h k = eval_cuts test vs _ _ (λ x after. if_cuts (is_true x) _ _ _ _ (value_cuts a after g h k) (value_cuts b after g h k))
        value_cuts (put line x a) vs g h k = locate_cuts x vs _ _ (λ at after. value_cuts a after _ _ (λ value last. writes_cuts (meaning.variable_of few x) at value line last _ _ (k value)))
        value_cuts (follow line e a) vs g h k = eval_cuts e vs _ _ (λ x after. value_cuts a after g h k)
        value_cuts (section line offset size a) vs g h k = value_cuts a vs _ _ (λ value. k (take size (drop offset value)))
        value_cuts (list line size ps) vs g h k = parts_cuts ps (zeros size) vs g h k
        value_cuts (string line size text) vs g h k = k (put_at 0 text (zeros size)) vs
        value_cuts (give line f used size args) vs g h k = arguments_cuts args [] vs _ _ (λ blocks after. calls f line blocks _ _ (structure_cuts used size line _ _ (λ value. k value after)))

        parts_cuts : (ps : Parts) (value : List ℕ) (vs : Variables) (g h : List ℕ → Variables → Behaviour) → ((value : List ℕ) (now : Variables) → Cuts (g value now) (h value now)) → Cuts (meaning.eval_parts few c ps value vs g) (meaning.eval_parts many d ps value vs h)
        parts_cuts no_part value vs g h k = k value vs
        parts_cuts (number_part offset e rest) value vs g h k = eval_cuts e vs _ _ (λ x after. parts_cuts rest (put_at offset (low_bytes (bytes (number_type e)) x) value) after g h k)
        parts_cuts (structure_part offset a rest) value vs g h k = value_cuts a vs _ _ (λ part after. parts_cuts rest (put_at offset part value) after g h k)

        arguments_cuts : (args : Arguments) (blocks : List (List ℕ)) (vs : Variables) (g h : List (List ℕ) → Variables → Behaviour) → ((blocks : List (List ℕ)) (now : Variables) → Cuts (g blocks now) (h blocks now)) →
            Cuts (meaning.eval_arguments few c args blocks vs g) (meaning.eval_arguments many d args blocks vs h)
        arguments_cuts no_argument blocks vs g h k = k blocks vs
        arguments_cuts (number_argument e rest) blocks vs g h k = eval_cuts e vs _ _ (λ x after. arguments_cuts rest (blocks ++ low_bytes (bytes (number_type e)) x ∷ []) after g h k)
        arguments_cuts (structure_argument a rest) blocks vs g h k = value_cuts a vs _ _ (λ value after. arguments_cuts rest (blocks ++ value ∷ []) after g h k)

      -- ---- statements

      part_cuts : (o : Option Expression) (vs : Variables) (g h : Variables → Behaviour) → ((now : Variables) → Cuts (g now) (h now)) → Cuts (meaning.eval_part few c o vs g) (meaning.eval_part many d o vs h)
      part_cuts None vs g h k = k vs
      part_cuts (Some e) vs g h k = eval_cuts e vs _ _ (λ x. k)

      tested_cuts : (o : Option Expression) (vs : Variables) (g h p q : Variables → Behaviour) → ((now : Variables) → Cuts (g now) (h now)) → ((now : Variables) → Cuts (p now) (q now)) → Cuts (meaning.tested few c o vs g p) (meaning.tested many d o vs h q)
      tested_cuts None vs g h p q k l = k vs
      tested_cuts (Some e) vs g h p q k l = eval_cuts e vs _ _ (λ x after. if_cuts (is_true x) _ _ _ _ (k after) (l after))

      end_cuts : (last test : Option Expression) (g h p q : Variables → Behaviour) → ((now : Variables) → Cuts (g now) (h now)) → ((now : Variables) → Cuts (p now) (q now)) → (vs : Variables) → Cuts (meaning.at_end few c last test g p vs) (meaning.at_end many d last test h q vs)
      end_cuts last test g h p q k l vs = part_cuts last vs _ _ (λ now. tested_cuts test now g h p q k l)

      mutual
        exec_cuts : (s : Statement) (x y : Exits) → ExitsCut x y → (vs : Variables) (g h : Variables → Behaviour) → ((now : Variables) → Cuts (g now) (h now)) → Cuts (meaning.exec few c s x vs g) (meaning.exec many d s y vs h)
        exec_cuts (block items) x y e vs g h k =
            enter_cuts items vs _ _ (λ after. items_cuts items _ _ (leaving_cut (meaning.leave few items) (meaning.leave many items) (leave_cuts items) x y e) after _ _ (λ last. leave_cuts items last (g last) (h last) (k last)))
        exec_cuts (if_then line test s) x y e vs g h k = eval_cuts test vs _ _ (λ n after. if_cuts (is_true n) _ _ _ _ (exec_cuts s x y e after g h k) (k after))
        exec_cuts (if_else line test s t) x y e vs g h k = eval_cuts test vs _ _ (λ n after. if_cuts (is_true n) _ _ _ _ (exec_cuts s x y e after g h k) (exec_cuts t x y e after g h k))
        exec_cuts (evaluate a) x y e vs g h k = eval_cuts a vs _ _ (λ n. k)
        exec_cuts (trees.returns line a) x y e vs g h k = eval_cuts a vs _ _ (λ n. e.returns (number n))
        exec_cuts (trees.returns_structure line a) x y e vs g h k = value_cuts a vs _ _ (λ value. e.returns (structure value))
        exec_cuts (trees.returns_nothing line) x y e vs g h k = e.returns nothing vs
        exec_cuts (trees.for_loop line n first test last s) x y e vs g h k =
            let more_rounds : code.tests function n - 1 ≤ tests function n - 1 = omega (arith, more function n) in
            part_cuts first vs _ _ (λ start. tested_cuts test start _ _ g h (rounds_cuts line _ _ (λ p q l now. exec_cuts s _ _ (loop_cut x y e g h _ _ k (end_cuts last test p q g h l k)) now _ _ (end_cuts last test p q g h l k)) (code.tests function n - 1) (tests function n - 1) more_rounds) k)
        exec_cuts (trees.do_loop line n s test) x y e vs g h k =
            rounds_cuts line _ _ (λ p q l now. exec_cuts s _ _ (loop_cut x y e g h _ _ k (end_cuts None (Some test) p q g h l k)) now _ _ (end_cuts None (Some test) p q g h l k)) (code.tests function n) (tests function n) (more function n) vs
        exec_cuts (trees.switch line a items) x y e vs g h k =
            let leaves_cut = leaving_cut (meaning.leave few items) (meaning.leave many items) (leave_cuts items) (in_switch x g) (in_switch y h) (switch_cut x y e g h k) in
            eval_cuts a vs _ _ (λ n after. if_cuts (has_case items n) _ _ _ _ (enter_cuts items after _ _ (λ now. case_cuts items n _ _ leaves_cut now _ _ (λ last. leave_cuts items last (g last) (h last) (k last))))
            (if_cuts (has_default items) _ _ _ _ (enter_cuts items after _ _ (λ now. default_cuts items _ _ leaves_cut now _ _ (λ last. leave_cuts items last (g last) (h last) (k last)))) (k after)))
        exec_cuts (trees.breaks line) x y e vs g h k = e.breaks vs
        exec_cuts (trees.continues line) x y e vs g h k = e.continues vs
        exec_cuts (trees.jumps line n) x y e vs g h k = e.labels n vs
        exec_cuts (trees.stray line s) x y e vs g h k = exec_cuts s x y e vs g h k

        items_cuts : (items : Items) (x y : Exits) → ExitsCut x y → (vs : Variables) (g h : Variables → Behaviour) → ((now : Variables) → Cuts (g now) (h now)) → Cuts (meaning.exec_items few c items x vs g) (meaning.exec_items many d items y vs h)
        items_cuts done x y e vs g h k = k vs
        items_cuts (declares line v rest) x y e vs g h k = items_cuts rest x y e vs g h k
        items_cuts (initializes line v is_drawn a rest) x y e vs g h k = eval_cuts a vs _ _ (λ n after. initial_cuts (meaning.home_of few v) v (low_bytes (bytes (number_type a)) n) line after _ _ (λ now. items_cuts rest x y e now g h k))
        items_cuts (initializes_structure line v is_drawn a rest) x y e vs g h k = value_cuts a vs _ _ (λ value after. initial_cuts (meaning.home_of few v) v value line after _ _ (λ now. items_cuts rest x y e now g h k))
        items_cuts (does s rest) x y e vs g h k = exec_cuts s _ _ (labels_cut x y e _ _ (λ n now. label_cuts rest n x y e now g h k)) vs _ _ (λ after. items_cuts rest x y e after g h k)
        items_cuts (label n rest) x y e vs g h k = items_cuts rest x y e vs g h k
        items_cuts (case_at line t bits rest) x y e vs g h k = items_cuts rest x y e vs g h k
        items_cuts (default_at line rest) x y e vs g h k = items_cuts rest x y e vs g h k

        label_cuts : (items : Items) (n : ℕ) (x y : Exits) → ExitsCut x y → (vs : Variables) (g h : Variables → Behaviour) → ((now : Variables) → Cuts (g now) (h now)) → Cuts (meaning.at_label few c items n x vs g) (meaning.at_label many d items n y vs h)
        label_cuts done n x y e vs g h k = e.labels n vs
        label_cuts (declares line v rest) n x y e vs g h k = label_cuts rest n x y e vs g h k
        label_cuts (initializes line v is_drawn a rest) n x y e vs g h k = label_cuts rest n x y e vs g h k
        label_cuts (initializes_structure line v is_drawn a rest) n x y e vs g h k = label_cuts rest n x y e vs g h k
        label_cuts (does s rest) n x y e vs g h k = label_cuts rest n x y e vs g h k
        label_cuts (label m rest) n x y e vs g h k = if_cuts (m == n) _ _ _ _ (items_cuts rest x y e vs g h k) (label_cuts rest n x y e vs g h k)
        label_cuts (case_at line t bits rest) n x y e vs g h k = label_cuts rest n x y e vs g h k
        label_cuts (default_at line rest) n x y e vs g h k = label_cuts rest n x y e vs g h k

        case_cuts : (items : Items) (n : ℕ) (x y : Exits) → ExitsCut x y → (vs : Variables) (g h : Variables → Behaviour) → ((now : Variables) → Cuts (g now) (h now)) → Cuts (meaning.at_case few c items n x vs g) (meaning.at_case many d items n y vs h)
        case_cuts done n x y e vs g h k = k vs
        case_cuts (declares line v rest) n x y e vs g h k = case_cuts rest n x y e vs g h k
        case_cuts (initializes line v is_drawn a rest) n x y e vs g h k = case_cuts rest n x y e vs g h k
        case_cuts (initializes_structure line v is_drawn a rest) n x y e vs g h k = case_cuts rest n x y e vs g h k
        case_cuts (does s rest) n x y e vs g h k = case_cuts rest n x y e vs g h k
        case_cuts (label m rest) n x y e vs g h k = case_cuts rest n x y e vs g h k
        case_cuts (case_at line t bits rest) n x y e vs g h k = if_cuts (bits == n) _ _ _ _ (items_cuts rest x y e vs g h k) (case_cuts rest n x y e vs g h k)
        case_cuts (default_at line rest) n x y e vs g h k = case_cuts rest n x y e vs g h k

        default_cuts : (items : Items) (x y : Exits) → ExitsCut x y → (vs : Variables) (g h : Variables → Behaviour) → ((now : Variables) → Cuts (g now) (h now)) → Cuts (meaning.at_default few c items x vs g) (meaning.at_default many d items y vs h)
        default_cuts done x y e vs g h k = k vs
        default_cuts (declares line v rest) x y e vs g h k = default_cuts rest x y e vs g h k
        default_cuts (initializes line v is_drawn a rest) x y e vs g h k = default_cuts rest x y e vs g h k
        default_cuts (initializes_structure line v is_drawn a rest) x y e vs g h k = default_cuts rest x y e vs g h k
        default_cuts (does s rest) x y e vs g h k = default_cuts rest x y e vs g h k
        default_cuts (label m rest) x y e vs g h k = default_cuts rest x y e vs g h k
        default_cuts (case_at line t bits rest) x y e vs g h k = default_cuts rest x y e vs g h k
        default_cuts (default_at line rest) x y e vs g h k = items_cuts rest x y e vs g h k

      body_cuts : (s : Statement) (blocks : List (List ℕ)) (g h : Given → Behaviour) → ((given : Given) → Cuts (g given) (h given)) → Cuts (meaning.exec_body few c s blocks g) (meaning.exec_body many d s blocks h)
      body_cuts s blocks g h k =
          let n = length blocks in
          enter_parameters_cuts n 0 _ _ _ (λ vs. exec_cuts s _ _ (leaving_cut (meaning.leave_parameters few n 0) (meaning.leave_parameters many n 0) (leave_parameters_cuts n 0) _ _ (function_cut few.line function g h k)) vs _ _
          (λ last. leave_parameters_cuts n 0 last (g nothing) (h nothing) (k nothing)))

  -- ---- calls

  -- where the first list leaves an activation, so does the second
  abbrev AreMore : List ℕ → List ℕ → Type 0
  AreMore [] [] = Unit {0}
  AreMore (m ∷ ms) (n ∷ ns) = (m ≤ n) × AreMore ms ns
  AreMore _ _ = ⊥

  more_at : (ms ns : List ℕ) → AreMore ms ns → (f : ℕ) → slice_index ms f ≤ slice_index ns f
  more_at [] [] h f = omega arith
  more_at [] (n ∷ ns) h f = absurd h
  more_at (m ∷ ms) [] h f = absurd h
  more_at (m ∷ ms) (n ∷ ns) h zero = h.0
  more_at (m ∷ ms) (n ∷ ns) h (suc f) = more_at ms ns h.1 f

  opened_more : (ms ns : List ℕ) → AreMore ms ns → (f : ℕ) → AreMore (opened ms f) (opened ns f)
  opened_more [] [] h f = tt
  opened_more [] (n ∷ ns) h f = absurd h
  opened_more (m ∷ ms) [] h f = absurd h
  opened_more (m ∷ ms) (n ∷ ns) h zero = (omega (arith, h.0), h.1)
  opened_more (m ∷ ms) (n ∷ ns) h (suc f) = (h.0, opened_more ms ns h.1 f)

  enters_cuts : (caller line f : ℕ) (o : Option Statement) (c d : ℕ → ℕ → List (List ℕ) → (Given → Behaviour) → Behaviour) →
      ((f line : ℕ) (blocks : List (List ℕ)) (g h : Given → Behaviour) → ((given : Given) → Cuts (g given) (h given)) → Cuts (c f line blocks g) (d f line blocks h)) →
      (blocks : List (List ℕ)) (g h : Given → Behaviour) → ((given : Given) → Cuts (g given) (h given)) → Cuts (meaning.enters code caller line f o c blocks g) (meaning.enters larger caller line f o d blocks h)
  enters_cuts caller line f None c d calls blocks g h k = cuts_same (final (Broken Assertion line caller))
  enters_cuts caller line f (Some s) c d calls blocks g h k = body_cuts f c d calls s blocks g h k

  none_left : (m n : ℕ) → (m == 0) ≡ false → (n == 0) ≡ true → m ≤ n → ⊥
  none_left m n e f l = grind (arith, nat_tests)

  -- none is left, or one is opened
  call_cuts : (b c : Bool) (m n caller line : ℕ) → (m == 0) ≡ b → (n == 0) ≡ c → m ≤ n → (g h : Behaviour) → Cuts g h → Cuts (if b then passed code.assertions Recursion line caller else g) (if c then passed assertions Recursion line caller else h)
  call_cuts true c m n caller line e f l g h k = passed_cuts code.assertions checked Recursion line caller _
  call_cuts false true m n caller line e f l g h k = absurd (none_left m n e f l)
  call_cuts false false m n caller line e f l g h k = k

  activation_cuts : (fuel most : ℕ) (ms ns : List ℕ) → fuel ≤ most → AreMore ms ns → (caller f line : ℕ) (blocks : List (List ℕ)) (g h : Given → Behaviour) → ((given : Given) → Cuts (g given) (h given)) →
      Cuts (activation code fuel ms caller f line blocks g) (activation larger most ns caller f line blocks h)
  activation_cuts zero most ms ns less large caller f line blocks g h k = passed_cuts code.assertions checked Recursion line caller _
  activation_cuts (suc fuel) zero ms ns less large caller f line blocks g h k = absurd (omega (arith, less))
  activation_cuts (suc fuel) (suc most) ms ns less large caller f line blocks g h k =
      call_cuts (slice_index ms f == 0) (slice_index ns f == 0) (slice_index ms f) (slice_index ns f) caller line refl refl (more_at ms ns large f) _ _
      (enters_cuts caller line f (body_of (slice_get code.functions f)) _ _ (activation_cuts fuel most (opened ms f) (opened ns f) (omega (arith, less)) (opened_more ms ns large f) f) blocks g h k)

  total_more : (ms ns : List ℕ) → AreMore ms ns → total ms ≤ total ns
  total_more [] [] h = omega arith
  total_more [] (n ∷ ns) h = absurd h
  total_more (m ∷ ms) [] h = absurd h
  total_more (m ∷ ms) (n ∷ ns) h = let l = total_more ms ns h.1 in omega (arith, h.0, l)

  same_many : (count m n : ℕ) → m ≤ n → AreMore (replicate count m) (replicate count n)
  same_many zero m n l = tt
  same_many (suc count) m n l = (l, same_many count m n l)

-- ---- files

module _ (file : TypedFile) (limits : Limits) (unwind : ℕ) (set : List LoopLimit) (assertions : Bool) (checked : limits.assertions ≡ true) (large : IsLarger limits unwind set) where
  abbrev now : Limits
  now = with_bounds limits unwind set assertions

  abbrev more_tests : ℕ → ℕ → ℕ
  more_tests f n = tests_in set unwind (name_of (slice_get file.functions f)) n

  rounds_more : (f n : ℕ) → tests_in limits.set limits.unwind (name_of (slice_get file.functions f)) n ≤ more_tests f n
  rounds_more f n = large.loops (name_of (slice_get file.functions f)) n

  function_cuts : (first : Bool) (n : ℕ) (o : Option Procedure) → Cuts (runs_at file limits first n o) (runs_at file now first n o)
  function_cuts first n None = cuts_same (final (Broken Assertion 1 n))
  function_cuts first n (Some f) =
      let code = code_of file limits in
      let count = length file.functions in
      let many = same_many code checked more_tests assertions rounds_more count limits.unwind unwind large.activations in
      let enough = total_more code checked more_tests assertions rounds_more (replicate count limits.unwind) (replicate count unwind) many in
      activation_cuts code checked more_tests assertions rounds_more (suc (total (replicate count limits.unwind))) (suc (total (replicate count unwind))) (replicate count limits.unwind) (replicate count unwind) (omega (arith, enough)) many
      n n f.line [] (leaves first n f.line) (leaves first n f.line) (λ given. cuts_same (leaves first n f.line given))

pub safe_within_more : SafeWithinMore
safe_within_more file limits unwind set assertions checked large safe inputs schedule =
    let main = main_number file.functions in
    safe_run inputs schedule _ _ (source_thread file limits) (source_thread file (with_bounds limits unwind set assertions)) (function_cuts file limits unwind set assertions checked large true main (slice_get file.functions main))
    (function_starts_none file limits true main) (safe inputs)
