-- The code of a statement, and of a function's body, does what it means.
use Rattle.std.proofs.Common.{◌≡◌, ℕ, zero, suc, ◌+◌, ◌-◌, ◌*◌, ◌<◌, ◌≤◌, Bool, true, false, take, drop, List, [], ◌∷◌, ◌++◌, length, Option, Some, None, refl, sym, ap, ◌∙◌, subst, arith, append-nil, length-append}
use Rattle.std.specs.Prelude.{◌==◌, ◌||◌, ◌&&◌, bit_or, is_some, slice_index, if◌then◌else◌}
use Rattle.std.proofs.lemmas.Bool.{false≢true}
use Rattle.std.proofs.lemmas.List.{drop_all, take_all}
use Rattle.c_types.specs.declared.integers.IntegerType.{IntegerType}
use Rattle.c_types.specs.declared.integers.IntegerType.TheVariants.{UnsignedLong}
use Rattle.c_types.specs.declared.types.ValueType.{ValueType}
use Rattle.c_types.specs.declared.types.ValueType.TheVariants.{Void, Integer}
use Rattle.c_types.specs.Integers.{bytes}
use Rattle.words.specs.declared.check.Class.TheVariants.{Assertion, Unwind}
use Rattle.core_tree.specs.declared.functions.PassedType.{PassedType}
use Rattle.core_tree.specs.declared.functions.PassedType.TheVariants as passed
use Rattle.core_tree.specs.declared.functions.Variable.{Variable}
use Rattle.core_tree.specs.Ranges.{Limits}
use Rattle.core_tree.specs.Typed as trees
use Rattle.core_tree.specs.Typed.{Signature, Sizes, type_of, is_within, same_given, given_as, passed_size, is_typed_part, is_test, are_cases, is_typed, is_structure, is_typed_statement, are_typed_items}
use Rattle.core_tree.specs.Trees.{Expression, Structure, Statement, block, if_then, if_else, evaluate, returns, returns_structure, returns_nothing, for_loop, do_loop, switch, breaks, continues, jumps, stray, Items, done, declares, initializes, initializes_structure, does, label, case_at, default_at}
use Rattle.core_tree.specs.Operations.{is_true, truth_bits}
use Rattle.c_values.specs.Variables.{Variables, pointer_to, low_bytes, number_at, block_of, put_at, word_count, drawn_count, put_bytes, cleared, read_variable, write_variable}
use Rattle.c_values.specs.MadeObjects.{made_of}
use Rattle.actions.specs.Behaviour.{Behaviour}
use Rattle.actions.specs.Pointer.{object_of}
use Rattle.actions.specs.declared.action.Action.TheVariants.{Write, Draw, Alloc, Die}
use Rattle.actions.specs.declared.action.Answer.{Answer}
use Rattle.actions.specs.declared.action.Next.TheVariants.{Broken}
use Rattle.c_meaning.specs.Meaning as source
use Rattle.c_meaning.specs.Meaning.{Running, Exits, number_type, has_case, has_default, in_loop, in_switch, with_labels, in_function, enter, eval, eval_structure, eval_part, tested, at_end, exec, exec_items, at_label, at_case, at_default}
use Rattle.goto_prog.specs.declared.code.Instruction.{Instruction}
use Rattle.goto_prog.specs.Meaning.{Memory, Given, Reading, register, with_register, with_blocks, bytes_of, word_of, number_in, operates, at}
use Rattle.goto_prog.specs.declared.code.Operation.TheVariants as operations
use Rattle.goto_prog.specs.Threads.{Calls, acting, ask, final}
use Rattle.goto_prog.specs.Nodes.{Nodes, plain, repeats, node_count, Routine}
use Rattle.goto_prog.specs.Nodes as nodes
use Rattle.goto_prog.specs.Structured as flat
use Rattle.goto_prog.specs.Structured.{Bounded, resolved, nodes_before, round_count, tests}
use Rattle.lowered_code.specs.Lowering.{Frame, Deaths, no_deaths, have_homes, code, structure_code, words_code, home_code, made_code, death_code, leave_code, parameters_code, leave_parameters_code, initial_put, initial_store, initial_code, entry_code, part_code, test_code, Ways, leaving, within_loop, within_switch, ends, plains, to_place, declares_none, case_tests, last_case, guarded, statement_code, items_code, labels_of, case_jumps, default_place, no_ways, at_line, body_code}
use Rattle.lowered_code.specs.Lowering as lowering
use Rattle.lowered_code.specs.Lowered.{given_size}
use Rattle.c_temporaries.specs.Accesses.{home_in}
use Rattle.c_temporaries.specs.Temporaries.{Temporaries, no_temporaries, both, under, initial_temporaries}
use Rattle.c_temporaries.specs.Temporaries as needs
use Rattle.lowered_code.proofs.RegisterTypes.{left_of, right_of, filled_there, filled_within}
use Rattle.lowered_code.proofs.RegisterTypes as registers_of
use Rattle.lowered_code.proofs.BlockBytes.{low_count, few_bytes, taken_back}
use Rattle.lowered_code.proofs.Housing.{Housed, housed_left, housed_right, housed_under, housed_room}
use Rattle.lowered_code.proofs.Placing.{Places, begin_in, on_in, written, Kept, Filled, kept-refl, kept-then, kept-set, kept-write, kept-clear, filled-put, filled-kept, set_same, set_other, set_room, same_final, same_ask}
use Rattle.lowered_code.proofs.ExpressionCode.{SourceCalls, Sound, IsGiven, handed, frame, shown, known, Placed, placed_kept, placed_deeper, block_size, variable_size_is, variable_below, variable_room, variable_size, low_room, block_there, shown_block, shown_write, shown_other, shown_clear, storing, split, turned, same_word, same_number, means, structure_means, same_gives, test_less, test_equal}

-- ---- lists of places

at_append : (o : Reading Behaviour) (xs ys : Places) (j : ℕ) (m : Memory) → at o (xs ++ ys) (length xs + j) m ≡ at o ys j m
at_append o [] ys j m = let none : length {A = Memory → Behaviour} [] + j ≡ j = omega arith in ap (λ n. at o ys n m) none
at_append o (x ∷ xs) ys j m =
    let one : length (x ∷ xs) + j ≡ suc (length xs + j) = omega arith in
    ap (λ n. at o ((x ∷ xs) ++ ys) n m) one ∙ at_append o xs ys j m

-- one of the variables has an address
has_home : (variables : List Variable) (v h : ℕ) → home_in variables v ≡ Some h → have_homes variables ≡ true
has_home [] v h found = absurd (cc)
has_home (x ∷ variables) zero h found = λ i. is_some (found i) || have_homes variables
has_home (x ∷ variables) (suc v) h found = either (is_some x.home) (have_homes variables) (has_home variables v h found)
  where
    either : (a b : Bool) → b ≡ true → (a || b) ≡ true
    either true b h = refl
    either false b h = h

-- over the sizes of the blocks behind the variables, those of the static objects, the block in which objects are made, how many literals there are, the types of the functions and what the function gives, whether forms with pointers may stand, the bounds, what calls of code do, what becomes of what the function hands over, what calls mean, the functions of the code, the first block that is free, and how many registers there are
module _ (running : Running) (others objects : List ℕ) (heap literals : ℕ) (functions : List Signature) (gives : Option PassedType) (allowed : Bool) (limits : Limits)
    (calls : Calls) (hands : Given → Behaviour) (meant : SourceCalls) (sound : Sound running others heap limits calls hands meant functions)
    (routines : List Routine) (d total : ℕ) where
  -- the sizes of the variables
  abbrev own : List ℕ
  own = source.sizes_of running.variables

  abbrev edge : ℕ
  edge = length own

  abbrev sizes : List ℕ
  sizes = own ++ others

  abbrev reading : Reading Behaviour
  reading = acting calls hands

  abbrev bounded : Bounded
  bounded = record { strict = true; functions = routines; limits = limits }

  abbrev begin : Places → Memory → Behaviour
  begin ps m = begin_in limits calls hands ps m

  abbrev on : List Instruction → Places → Places
  on xs rest = on_in limits calls hands xs rest

  abbrev nodes_on : Nodes → Places → Places
  nodes_on x later = nodes_before bounded reading x later

  abbrev named : Sizes
  named = known running others heap limits calls hands meant objects literals functions gives allowed sound

  abbrev here : Frame
  here = frame running others heap limits calls hands meant d

  abbrev view : Memory → Variables
  view m = shown running others heap limits calls hands meant m

  abbrev variables : List Variable
  variables = running.variables

  -- registers and blocks of trees over these variables
  abbrev size_of : ℕ → ℕ
  size_of v = lowering.size_of variables v

  abbrev top : Expression → ℕ
  top e = lowering.top variables e

  abbrev structure_registers : Structure → ℕ
  structure_registers a = lowering.structure_registers variables a

  abbrev home_registers : Option ℕ → ℕ
  home_registers o = lowering.home_registers variables o

  abbrev first_registers : ℕ → Bool → ℕ
  first_registers v drawn = lowering.first_registers variables v drawn

  abbrev initial_registers : Option ℕ → ℕ
  initial_registers o = lowering.initial_registers variables o

  abbrev death_registers : ℕ
  death_registers = lowering.death_registers variables

  abbrev parameters_registers : (count v : ℕ) → ℕ
  parameters_registers count v = lowering.parameters_registers variables count v

  abbrev entry_registers : Items → ℕ
  entry_registers items = lowering.entry_registers variables items

  abbrev part_registers : Option Expression → ℕ
  part_registers e = lowering.part_registers variables e

  abbrev case_registers : Items → ℕ
  case_registers items = lowering.case_registers variables items

  abbrev statement_registers : Statement → ℕ
  statement_registers s = lowering.statement_registers variables s

  abbrev items_registers : Items → ℕ
  items_registers items = lowering.items_registers variables items

  abbrev temporaries : Expression → Temporaries
  temporaries e = needs.temporaries variables e

  abbrev structure_temporaries : Structure → Temporaries
  structure_temporaries a = needs.structure_temporaries variables a

  abbrev part_temporaries : Option Expression → Temporaries
  part_temporaries e = needs.part_temporaries variables e

  abbrev statement_temporaries : Statement → Temporaries
  statement_temporaries s = needs.statement_temporaries variables s

  abbrev items_temporaries : Items → Temporaries
  items_temporaries items = needs.items_temporaries variables items

  -- the blocks are there, the register that stays 0 is 0, and all registers are there
  pub record Ready (m : Memory) : Type 0 where
    pub placed : Placed running others heap limits calls hands meant d m
    pub zero_there : register m 0 ≡ 0
    pub room : length m.registers ≡ total

  abbrev Lives : Temporaries → Type 0
  Lives r = Housed sizes edge heap d r

  ready_kept : (n : ℕ) (m m' : Memory) → 1 ≤ n → Ready m → Kept edge d n m m' → Ready m'
  ready_kept n m m' some ready kept = record {
    placed = placed_kept running others heap limits calls hands meant d n m m' ready.placed kept;
    zero_there = kept.below 0 some ∙ ready.zero_there;
    room = kept.room ∙ ready.room;
  }

  -- another block behind the variables has got bytes
  ready_filled : (n into : ℕ) (value : List ℕ) (m m' : Memory) → 1 ≤ n → edge < into → Ready m → Filled edge d n into 0 value m m' → Ready m'
  ready_filled n into value m m' some behind ready filled = record {
    placed = record {
      deep = ready.placed.deep;
      within = ready.placed.within;
      last = ready.placed.last;
      most = ready.placed.most;
      sized = filled.sizes ∙ ready.placed.sized;
      clean = filled.held edge (omega arith) (omega (arith, ready.placed.deep)) (λ e. omega (arith, e, behind)) ∙ ready.placed.clean;
    };
    zero_there = filled.below 0 some ∙ ready.zero_there;
    room = filled.room ∙ ready.room;
  }

  -- the places go on with the variables
  abbrev pub Goes : Places → (Variables → Behaviour) → Type 0
  Goes ps follows = (m : Memory) → Ready m → begin ps m ≡ follows (view m)

  -- from the place behind which so many lie
  abbrev from_end : Places → ℕ → Memory → Behaviour
  from_end ps w m = at reading ps (length ps - w) m

  -- a place behind which so many lie goes on like that
  abbrev Leads : Places → ℕ → (Variables → Behaviour) → Type 0
  Leads ps w follows = (w ≤ length ps) × ((m : Memory) → Ready m → from_end ps w m ≡ follows (view m))

  from_end_behind : (xs ps : Places) (w : ℕ) (m : Memory) → w ≤ length ps → from_end (xs ++ ps) w m ≡ from_end ps w m
  from_end_behind xs ps w m within =
      let same : length (xs ++ ps) - w ≡ length xs + (length ps - w) = omega (arith, within, length-append xs ps) in
      ap (λ n. at reading (xs ++ ps) n m) same ∙ at_append reading xs ps (length ps - w) m

  leads_behind : (xs ps : Places) (w : ℕ) (follows : Variables → Behaviour) → Leads ps w follows → Leads (xs ++ ps) w follows
  leads_behind xs ps w follows leads = (omega (arith, leads.0, length-append xs ps), λ m ready. from_end_behind xs ps w m leads.0 ∙ leads.1 m ready)

  leads_begin : (ps : Places) (w : ℕ) (follows : Variables → Behaviour) → w ≡ length ps → Goes ps follows → Leads ps w follows
  leads_begin ps w follows same goes =
      (omega (arith, same), λ m ready. (let none : length ps - w ≡ 0 = omega (arith, same) in ap (λ n. at reading ps n m) none) ∙ goes m ready)

  -- a jump to such a place
  skip_to : (ps : Places) (k w : ℕ) (follows : Variables → Behaviour) → k ≡ length ps - w → Leads ps w follows → (m : Memory) → Ready m → at reading ps k m ≡ follows (view m)
  skip_to ps k w follows same leads m ready = ap (λ n. at reading ps n m) same ∙ leads.1 m ready

  -- ---- code in front of code

  on_plains : (xs : List Instruction) (rest : Nodes) (later : Places) → nodes_on (plains xs rest) later ≡ on xs (nodes_on rest later)
  on_plains [] rest later = refl
  on_plains (i ∷ xs) rest later = λ k. operates reading true 0 i.line i.function (resolved limits i.operation) (on_plains xs rest later k) ∷ on_plains xs rest later k

  begin_plains : (xs : List Instruction) (rest : Nodes) (later : Places) (m : Memory) → begin (nodes_on (plains xs rest) later) m ≡ begin (on xs (nodes_on rest later)) m
  begin_plains xs rest later m = ap (λ (ps : Places). begin ps m) (on_plains xs rest later)

  places_count : (x : Nodes) (later : Places) → length (nodes_on x later) ≡ node_count x + length later
  places_count nodes.done later = omega arith
  places_count (plain i x) later = omega (arith, places_count x later)
  places_count (repeats line f l rotated body x) later = omega (arith, places_count x later)

  -- some nodes stand in front of others
  pub record InFront (x rest : Nodes) : Type 0 where
    pub front : Places → Places
    pub is : (later : Places) → nodes_on x later ≡ front later ++ nodes_on rest later

  itself : (x : Nodes) → InFront x x
  itself x = record { front = λ later. []; is = λ later. refl }

  then_front : (x y z : Nodes) → InFront x y → InFront y z → InFront x z
  then_front x y z first second = record {
    front = λ later. first.front later ++ second.front later;
    is = λ later. first.is later ∙ ap (λ (ps : Places). first.front later ++ ps) (second.is later) ∙ sym (assoc (first.front later) (second.front later) (nodes_on z later));
  }
    where
      assoc : (xs ys zs : Places) → (xs ++ ys) ++ zs ≡ xs ++ (ys ++ zs)
      assoc [] ys zs = refl
      assoc (x ∷ xs) ys zs = ap (λ (ps : Places). x ∷ ps) (assoc xs ys zs)

  plain_front : (i : Instruction) (x rest : Nodes) → InFront x rest → InFront (plain i x) rest
  plain_front i x rest front = then_front (plain i x) x rest (record { front = λ later. operates reading true 0 i.line i.function (resolved limits i.operation) (nodes_on x later) ∷ []; is = λ later. refl }) front

  plains_front : (xs : List Instruction) (x rest : Nodes) → InFront x rest → InFront (plains xs x) rest
  plains_front [] x rest front = front
  plains_front (i ∷ xs) x rest front = plain_front i (plains xs x) rest (plains_front xs x rest front)

  repeats_front : (line f l : ℕ) (rotated : Bool) (body x : Nodes) → InFront (repeats line f l rotated body x) x
  repeats_front line f l rotated body x = record { front = λ later. take 1 (nodes_on (repeats line f l rotated body x) later); is = λ later. refl }

  leads_front : (x rest : Nodes) (later : Places) (w : ℕ) (follows : Variables → Behaviour) → InFront x rest → Leads (nodes_on rest later) w follows → Leads (nodes_on x later) w follows
  leads_front x rest later w follows front leads = subst (λ (ps : Places). Leads ps w follows) (sym (front.is later)) (leads_behind (front.front later) (nodes_on rest later) w follows leads)

  -- ---- objects that die

  -- code by a register lets objects die, and then the places go on with the same blocks
  abbrev pub Dies : Deaths → (Variables → Behaviour → Behaviour) → Type 0
  Dies out dying =
      (r : ℕ) (m : Memory) (ps : Places) (b : Behaviour) → 1 ≤ r → r + death_registers ≤ total → Ready m
      → ((m' : Memory) → Ready m' → m'.blocks ≡ m.blocks → begin ps m' ≡ b)
      → begin (on (out r) ps) m ≡ dying (view m) b

  none_die : Dies no_deaths (λ vs b. b)
  none_die r m ps b some room ready goes = goes m ready refl

  one_dies : (line v : ℕ) (o : Option ℕ) → source.home_of running v ≡ o → Dies (death_code here line o) (source.dies running o line)
  one_dies line v None home r m ps b some room ready goes = goes m ready refl
  one_dies line v (Some h) home r m ps b some room ready goes =
      let below = variable_below running others heap limits calls hands meant h 0 8 (sound.homed v h home) in
      let pointer = read_variable m.blocks h 0 UnsignedLong in
      let m1 : Memory = with_register m r pointer in
      let one : death_registers ≡ 1 = ap (λ (some_homes : Bool). if some_homes then 1 else 0) (has_home variables v h home) in
      let there : register m1 r ≡ pointer = set_same m r pointer (omega (arith, room, one, ready.room)) in
      let same : pointer ≡ source.held_pointer running (view m) h = λ i. number_at UnsignedLong 0 (shown_block running others heap limits calls hands meant m h below i) in
      (λ i. ask (Die (object_of ((there ∙ same) i))) line running.function (λ a. begin ps m1))
      ∙ same_ask running (Die (object_of (source.held_pointer running (view m) h))) line _ (λ a. b) (λ i a. goes m1 (ready_kept r m m1 some ready (kept-set edge d r r m pointer (omega arith))) refl i)

  then_die : (first second : Deaths) (dying behind : Variables → Behaviour → Behaviour) → Dies first dying → Dies second behind → Dies (λ r. first r ++ second r) (λ vs b. dying vs (behind vs b))
  then_die first second dying behind one two r m ps b some room ready goes =
      split running others heap limits calls hands meant (first r) (second r) ps m
      ∙ one r m (on (second r) ps) (behind (view m) b) some room ready (λ m1 ready1 same1.
      two r m1 ps b some room ready1 (λ m2 ready2 same2. goes m2 ready2 (same2 ∙ same1))
      ∙ (λ i. behind (take edge (same1 i)) b))

  -- the objects of a block's variables, the last one first
  leave_dies : (items : Items) → Dies (leave_code here items) (source.leave running items)
  leave_dies done = none_die
  leave_dies (declares line v items) =
      then_die (leave_code here items) (death_code here line (home_in variables v)) (source.leave running items) (source.dies running (source.home_of running v) line) (leave_dies items) (one_dies line v (home_in variables v) refl)
  leave_dies (initializes line v drawn e items) =
      then_die (leave_code here items) (death_code here line (home_in variables v)) (source.leave running items) (source.dies running (source.home_of running v) line) (leave_dies items) (one_dies line v (home_in variables v) refl)
  leave_dies (initializes_structure line v drawn a items) =
      then_die (leave_code here items) (death_code here line (home_in variables v)) (source.leave running items) (source.dies running (source.home_of running v) line) (leave_dies items) (one_dies line v (home_in variables v) refl)
  leave_dies (does s items) = leave_dies items
  leave_dies (label l items) = leave_dies items
  leave_dies (case_at line t bits items) = leave_dies items
  leave_dies (default_at line items) = leave_dies items

  -- those of so many parameters from a number on
  parameters_die : (count v : ℕ) → Dies (leave_parameters_code here running.line count v) (source.leave_parameters running count v)
  parameters_die zero v = none_die
  parameters_die (suc count) v =
      then_die (leave_parameters_code here running.line count (suc v)) (death_code here running.line (home_in variables v)) (source.leave_parameters running count (suc v)) (source.dies running (source.home_of running v) running.line)
      (parameters_die count (suc v)) (one_dies running.line v (home_in variables v) refl)

  -- deaths in front of places
  left_goes : (out : Deaths) (dying : Variables → Behaviour → Behaviour) → Dies out dying → (n : ℕ) (rest : Nodes) (later : Places) (follows : Variables → Behaviour)
      → 1 ≤ n → n + death_registers ≤ total → Goes (nodes_on rest later) follows → Goes (nodes_on (plains (out n) rest) later) (λ last. dying last (follows last))
  left_goes out dying dies n rest later follows some room goes m ready =
      begin_plains (out n) rest later m ∙ dies n m _ (follows (view m)) some room ready (λ m1 ready1 same. goes m1 ready1 ∙ (λ i. follows (take edge (same i))))

  -- ---- ways out of a statement

  -- what dies on a way, and where it then leads
  pub record Way (ps : Places) (place : ℕ) (out : Deaths) (exit : Variables → Behaviour) : Type 0 where
    pub target : Variables → Behaviour
    pub dying : Variables → Behaviour → Behaviour
    pub leads : Leads ps place target
    pub dies : Dies out dying
    pub is : (vs : Variables) → dying vs (target vs) ≡ exit vs

  -- nothing dies
  straight : (ps : Places) (place : ℕ) (follows : Variables → Behaviour) → Leads ps place follows → Way ps place no_deaths follows
  straight ps place follows leads = record { target = follows; dying = λ vs b. b; leads = leads; dies = none_die; is = λ vs. refl }

  way_at : (ps qs : Places) (place : ℕ) (out : Deaths) (exit : Variables → Behaviour) → ((follows : Variables → Behaviour) → Leads ps place follows → Leads qs place follows) → Way ps place out exit → Way qs place out exit
  way_at ps qs place out exit moved way = record { target = way.target; dying = way.dying; leads = moved way.target way.leads; dies = way.dies; is = way.is }

  -- more dies first
  way_leaving : (ps : Places) (place : ℕ) (first out : Deaths) (dying : Variables → Behaviour → Behaviour) (exit : Variables → Behaviour) → Dies first dying → Way ps place out exit
      → Way ps place (λ r. first r ++ out r) (λ vs. dying vs (exit vs))
  way_leaving ps place first out dying exit dies way = record {
    target = way.target;
    dying = λ vs b. dying vs (way.dying vs b);
    leads = way.leads;
    dies = then_die first out dying way.dying dies way.dies;
    is = λ vs. ap (dying vs) (way.is vs);
  }

  way_if : (b : Bool) (ps : Places) (v w : ℕ) (o p : Deaths) (x y : Variables → Behaviour) → Way ps v o x → Way ps w p y → Way ps (if b then v else w) (if b then o else p) (λ vs. if b then x vs else y vs)
  way_if true ps v w o p x y first second = first
  way_if false ps v w o p x y first second = second

  -- a jump on such a way
  way_means : (line place : ℕ) (out : Deaths) (exit : Variables → Behaviour) (n : ℕ) (rest : Nodes) (later : Places) → Way (nodes_on rest later) place out exit → 1 ≤ n → n + death_registers ≤ total
      → Goes (nodes_on (plains (out n) (to_place here line (length later) place rest)) later) exit
  way_means line place out exit n rest later way some room m ready =
      begin_plains (out n) (to_place here line (length later) place rest) later m
      ∙ way.dies n m _ (way.target (view m)) some room ready (λ m1 ready1 same.
      skip_to (nodes_on rest later) (length later + node_count rest - place) place way.target (omega (arith, places_count rest later)) way.leads m1 ready1
      ∙ (λ i. way.target (take edge (same i))))
      ∙ way.is (view m)

  -- where the ways of code lead, and what becomes of what is handed over
  pub record LeadOut (ways : Ways) (exits : Exits) (ps : Places) : Type 0 where
    pub breaks : Way ps ways.break_at ways.break_out exits.breaks
    pub continues : Way ps ways.continue_at ways.continue_out exits.continues
    pub labels : (l : ℕ) → Way ps (ways.label_at l) (ways.label_out l) (exits.labels l)
    pub dying : Variables → Behaviour → Behaviour
    pub dies : Dies ways.return_out dying
    pub returns : (given : source.Given) → IsGiven gives given → (vs : Variables) → dying vs (hands (handed gives given)) ≡ exits.returns given vs

  lead_at : (ways : Ways) (exits : Exits) (ps qs : Places) → ((place : ℕ) (follows : Variables → Behaviour) → Leads ps place follows → Leads qs place follows) → LeadOut ways exits ps → LeadOut ways exits qs
  lead_at ways exits ps qs moved out = record {
    breaks = way_at ps qs ways.break_at ways.break_out exits.breaks (moved ways.break_at) out.breaks;
    continues = way_at ps qs ways.continue_at ways.continue_out exits.continues (moved ways.continue_at) out.continues;
    labels = λ l. way_at ps qs (ways.label_at l) (ways.label_out l) (exits.labels l) (moved (ways.label_at l)) (out.labels l);
    dying = out.dying;
    dies = out.dies;
    returns = out.returns;
  }

  lead_front : (ways : Ways) (exits : Exits) (x rest : Nodes) (later : Places) → InFront x rest → LeadOut ways exits (nodes_on rest later) → LeadOut ways exits (nodes_on x later)
  lead_front ways exits x rest later front out =
      lead_at ways exits (nodes_on rest later) (nodes_on x later) (λ place follows leads. leads_front x rest later place follows front leads) out

  -- within a block, behind which its objects die
  left_out : (out : Deaths) (dying : Variables → Behaviour → Behaviour) → Dies out dying → (n : ℕ) (ways : Ways) (exits : Exits) (rest : Nodes) (later : Places) → LeadOut ways exits (nodes_on rest later)
      → LeadOut (leaving out ways) (source.leaving dying exits) (nodes_on (plains (out n) rest) later)
  left_out out dying dies n ways exits rest later lead =
      lead_front (leaving out ways) (source.leaving dying exits) (plains (out n) rest) rest later (plains_front (out n) rest rest (itself rest)) (record {
        breaks = way_leaving (nodes_on rest later) ways.break_at out ways.break_out dying exits.breaks dies lead.breaks;
        continues = way_leaving (nodes_on rest later) ways.continue_at out ways.continue_out dying exits.continues dies lead.continues;
        labels = λ l. way_leaving (nodes_on rest later) (ways.label_at l) out (ways.label_out l) dying (exits.labels l) dies (lead.labels l);
        dying = λ vs b. dying vs (lead.dying vs b);
        dies = then_die out ways.return_out dying lead.dying dies lead.dies;
        returns = λ given is vs. ap (dying vs) (lead.returns given is vs);
      })

  -- ---- variables

  -- the words of a variable from an offset on, by draws
  draws_first : (words line v offset n start : ℕ) (xs : List Instruction) (m0 m : Memory) (ps : Places) (follows : Variables → Behaviour)
      → v < edge → 8 * words ≤ size_of v - offset + 7 → Ready m0 → Kept edge d start m0 m → 1 ≤ start → start ≤ n → n + words ≤ total
      → ((m' : Memory) → Kept edge d start m0 m' → begin (on xs ps) m' ≡ follows (view m'))
      → begin (on (words_code here words line v offset n ++ xs) ps) m ≡ source.draws_words running words line v offset (view m) follows
  draws_first zero line v offset n start xs m0 m ps follows variable few ready kept some above room goes = goes m kept
  draws_first (suc words) line v offset n start xs m0 m ps follows variable few ready kept some above room goes =
      let now = ready_kept start m0 m some ready kept in
      let real : source.size_of running v ≡ size_of v = variable_size_is running others heap limits calls hands meant v in
      let count = drawn_count (size_of v) offset in
      let size = variable_size running others heap limits calls hands meant d m now.placed v variable in
      let behind : (a : Answer) → Memory = λ a. written (with_register m n (word_of a)) v offset (low_bytes count (register (with_register m n (word_of a)) n)) in
      let fits : (a : Answer) → offset + length (low_bytes count (register (with_register m n (word_of a)) n)) ≤ length (block_of m.blocks v) =
      λ a. omega (arith, few, size, low_count count (register (with_register m n (word_of a)) n) (omega arith)) in
      let kept_then : (a : Answer) → Kept edge d start m0 (behind a) =
      λ a. kept-write edge d start v offset (low_bytes count (register (with_register m n (word_of a)) n)) m0 (with_register m n (word_of a)) variable (fits a) (kept-then edge d start start m0 m (with_register m n (word_of a)) (omega arith) kept (kept-set edge d start n m (word_of a) above)) in
      let drawing : ℕ → Behaviour =
      λ size. source.ask running (Draw (8 * drawn_count size offset)) line (λ a. source.draws_words running words line v (offset + 8) (put_bytes (view m) v offset (low_bytes (drawn_count size offset) (source.drawn a))) follows) in
      same_ask running (Draw (8 * count)) line _ (λ a. source.draws_words running words line v (offset + 8) (put_bytes (view m) v offset (low_bytes count (source.drawn a))) follows) (λ i a.
      (draws_first words line v (offset + 8) (n + 1) start xs m0 (behind a) ps follows variable (omega (arith, few)) ready (kept_then a) some (omega (arith, above)) (omega (arith, room)) goes
      ∙ (λ k. source.draws_words running words line v (offset + 8) (shown_write running others heap limits calls hands meant (with_register m n (word_of a)) v offset (low_bytes count (register (with_register m n (word_of a)) n)) variable k) follows)
      ∙ ap (λ x. source.draws_words running words line v (offset + 8) (put_bytes (view m) v offset (low_bytes count x)) follows) (set_same m n (word_of a) (omega (arith, room, now.room)) ∙ same_word running others heap limits calls hands meant a)) i)
      ∙ sym (ap drawing real)

  -- the object of a variable that has an address is made of its bytes
  home_first : (line v : ℕ) (o : Option ℕ) → source.home_of running v ≡ o → (n start : ℕ) (m0 m : Memory) (ps : Places) (follows : Variables → Behaviour)
      → v < edge → Ready m0 → Kept edge d start m0 m → 1 ≤ start → start ≤ n → n + home_registers o ≤ total
      → ((m' : Memory) → Kept edge d start m0 m' → begin ps m' ≡ follows (view m'))
      → begin (on (home_code here line v o n) ps) m ≡ source.places running o line v (view m) follows
  home_first line v None home n start m0 m ps follows variable ready kept some above room goes = goes m kept
  home_first line v (Some h) home n start m0 m ps follows variable ready kept some above room goes =
      let now = ready_kept start m0 m some ready kept in
      let within = sound.homed v h home in
      let size = size_of v in
      let block = block_of m.blocks v in
      let m1 : Memory = with_register m n size in
      let of_size : register m1 n ≡ size = set_same m n size (omega (arith, room, now.room)) in
      let long : length block ≡ size = variable_size running others heap limits calls hands meant d m now.placed v variable in
      let whole : take (register m1 n) block ≡ block_of (view m) v = (λ i. take (of_size i) block) ∙ take_all size block (omega (arith, long)) ∙ shown_block running others heap limits calls hands meant m v variable in
      let kept1 : Kept edge d start m0 m1 = kept-then edge d start start m0 m m1 (omega arith) kept (kept-set edge d start n m size above) in
      let kept_pointer : Answer → Memory = λ a. with_register m1 (n + 1) (pointer_to (number_in a) 0) in
      let behind : Answer → Behaviour = λ a. begin ps (written (kept_pointer a) h 0 (low_bytes 8 (register (kept_pointer a) (n + 1)))) in
      (λ i. ask (Alloc (made_of (source.readonly_of running v) false (whole i))) line running.function behind)
      ∙ same_ask running (Alloc (made_of (source.readonly_of running v) false (block_of (view m) v))) line behind (λ a. follows (write_variable (view m) h 0 UnsignedLong (pointer_to (source.number_in a) 0))) (λ i a.
      (let x = pointer_to (number_in a) 0 in
      let m2 = kept_pointer a in
      let new = low_bytes 8 (register m2 (n + 1)) in
      let kept2 : Kept edge d start m0 m2 = kept-then edge d start start m0 m1 m2 (omega arith) kept1 (kept-set edge d start (n + 1) m1 x (omega (arith, above))) in
      let ready2 = ready_kept start m0 m2 some ready kept2 in
      let below = variable_below running others heap limits calls hands meant h 0 8 within in
      goes (written m2 h 0 new) (kept-write edge d start h 0 new m0 m2 below (low_room running others heap limits calls hands meant d m2 ready2.placed h 0 UnsignedLong (register m2 (n + 1)) within) kept2)
      ∙ ap follows (shown_write running others heap limits calls hands meant m2 h 0 new below)
      ∙ ap (λ z. follows (put_bytes (view m) h 0 (low_bytes 8 z))) (set_same m1 (n + 1) x (omega (arith, room, now.room, set_room m n size)) ∙ ap (λ z. pointer_to z 0) (same_number running others heap limits calls hands meant objects literals functions gives allowed sound a))) i)

  -- a variable is made
  makes_first : (line v : ℕ) (drawn : Bool) (n start : ℕ) (m0 m : Memory) (ps : Places) (follows : Variables → Behaviour)
      → v < edge → Ready m0 → Kept edge d start m0 m → 1 ≤ start → start ≤ n → n + first_registers v drawn ≤ total
      → ((m' : Memory) → Kept edge d start m0 m' → begin ps m' ≡ follows (view m'))
      → begin (on (made_code here line v drawn n) ps) m ≡ source.makes running drawn line v (view m) follows
  makes_first line v true n start m0 m ps follows variable ready kept some above room goes =
      let words = word_count (size_of v) in
      let real : source.size_of running v ≡ size_of v = variable_size_is running others heap limits calls hands meant v in
      let placed : Variables → Behaviour = λ after. source.places running (source.home_of running v) line v after follows in
      draws_first words line v 0 n start (home_code here line v (home_in variables v) (n + words)) m0 m ps placed variable (omega arith) ready kept some above (omega (arith, room)) (λ m' kept'.
      home_first line v (home_in variables v) refl (n + words) start m0 m' ps follows variable ready kept' some (omega (arith, above)) (omega (arith, room)) goes)
      ∙ sym (ap (λ size. source.draws_words running (word_count size) line v 0 (view m) placed) real)
  makes_first line v false n start m0 m ps follows variable ready kept some above room goes =
      let now = ready_kept start m0 m some ready kept in
      let size = size_of v in
      let real : source.size_of running v ≡ size = variable_size_is running others heap limits calls hands meant v in
      let m1 : Memory = with_blocks m (cleared m.blocks v size) in
      let kept1 : Kept edge d start m0 m1 = kept-clear edge d start v size m0 m variable (variable_size running others heap limits calls hands meant d m now.placed v variable) kept in
      home_first line v (home_in variables v) refl (n + 0) start m0 m1 ps follows variable ready kept1 some (omega (arith, above)) (omega (arith, room)) goes
      ∙ ap (λ vs. source.places running (source.home_of running v) line v vs follows) (shown_clear running others heap limits calls hands meant m v size variable)
      ∙ sym (λ i. source.places running (source.home_of running v) line v (cleared (view m) v (real i)) follows)

  -- the variables of a block by registers from n on; those below `start` are kept
  abbrev Enters : Items → Type 0
  Enters items = (n start : ℕ) (m0 m : Memory) (ps : Places) (follows : Variables → Behaviour) → are_typed_items named items ≡ true → Ready m0 → Kept edge d start m0 m → 1 ≤ start → start ≤ n → n + entry_registers items ≤ total
      → ((m' : Memory) → Kept edge d start m0 m' → begin ps m' ≡ follows (view m'))
      → begin (on (entry_code here items n) ps) m ≡ enter running items (view m) follows

  -- a variable before others
  enters_first : (line v : ℕ) (drawn : Bool) (items : Items) → Enters items → (n start : ℕ) (m0 m : Memory) (ps : Places) (follows : Variables → Behaviour)
      → v < edge → are_typed_items named items ≡ true → Ready m0 → Kept edge d start m0 m → 1 ≤ start → start ≤ n → n + (first_registers v drawn + entry_registers items) ≤ total
      → ((m' : Memory) → Kept edge d start m0 m' → begin ps m' ≡ follows (view m'))
      → begin (on (made_code here line v drawn n ++ entry_code here items (n + first_registers v drawn)) ps) m
      ≡ source.makes running drawn line v (view m) (λ after. enter running items after follows)
  enters_first line v drawn items more n start m0 m ps follows variable typed ready kept some above room goes =
      split running others heap limits calls hands meant (made_code here line v drawn n) (entry_code here items (n + first_registers v drawn)) ps m
      ∙ makes_first line v drawn n start m0 m (on (entry_code here items (n + first_registers v drawn)) ps) (λ after. enter running items after follows) variable ready kept some above (omega (arith, room)) (λ m' kept'.
      more (n + first_registers v drawn) start m0 m' ps follows typed ready kept' some (omega (arith, above)) (omega (arith, room)) goes)

  entering : (items : Items) → Enters items
  entering done n start m0 m ps follows typed ready kept some above room goes = goes m kept
  entering (declares line v items) n start m0 m ps follows typed ready kept some above room goes =
      enters_first line v true items (entering items) n start m0 m ps follows (test_less v edge (left_of _ _ typed)) (right_of _ _ typed) ready kept some above room goes
  entering (initializes line v drawn e items) n start m0 m ps follows typed ready kept some above room goes =
      enters_first line v drawn items (entering items) n start m0 m ps follows (test_less v edge (filled_there [] own v (type_of e) (left_of _ _ (left_of _ _ typed)))) (right_of _ _ typed) ready kept some above room goes
  entering (initializes_structure line v drawn a items) n start m0 m ps follows typed ready kept some above room goes =
      enters_first line v drawn items (entering items) n start m0 m ps follows (test_less v edge (left_of _ _ (left_of _ _ (left_of _ _ typed)))) (right_of _ _ typed) ready kept some above room goes
  entering (does s items) n start m0 m ps follows typed ready kept some above room goes = entering items n start m0 m ps follows (right_of _ _ typed) ready kept some above room goes
  entering (label l items) n start m0 m ps follows typed ready kept some above room goes = entering items n start m0 m ps follows typed ready kept some above room goes
  entering (case_at line t bits items) n start m0 m ps follows typed ready kept some above room goes = entering items n start m0 m ps follows (right_of _ _ typed) ready kept some above room goes
  entering (default_at line items) n start m0 m ps follows typed ready kept some above room goes = entering items n start m0 m ps follows typed ready kept some above room goes

  -- so many parameters from a number on
  parameters_enter : (count v n start : ℕ) (m0 m : Memory) (ps : Places) (follows : Variables → Behaviour)
      → v + count ≤ edge → Ready m0 → Kept edge d start m0 m → 1 ≤ start → start ≤ n → n + parameters_registers count v ≤ total
      → ((m' : Memory) → Kept edge d start m0 m' → begin ps m' ≡ follows (view m'))
      → begin (on (parameters_code here running.line count v n) ps) m ≡ source.enter_parameters running count v (view m) follows
  parameters_enter zero v n start m0 m ps follows few ready kept some above room goes = goes m kept
  parameters_enter (suc count) v n start m0 m ps follows few ready kept some above room goes =
      let o = home_in variables v in
      let more = parameters_code here running.line count (suc v) (n + home_registers o) in
      split running others heap limits calls hands meant (home_code here running.line v o n) more ps m
      ∙ home_first running.line v o refl n start m0 m (on more ps) (λ after. source.enter_parameters running count (suc v) after follows) (omega (arith, few)) ready kept some above (omega (arith, room)) (λ m' kept'.
      parameters_enter count (suc v) (n + home_registers o) start m0 m' ps follows (omega (arith, few)) ready kept' some (omega (arith, above)) (omega (arith, room)) goes)

  -- a switch, behind its value: what follows the block, and what follows where it isn't entered
  abbrev chosen_in : Items → Exits → (within behind : Variables → Behaviour) → ℕ → Variables → Behaviour
  chosen_in items exits within behind x after =
      if has_case items x then enter running items after (λ now. at_case running meant items x exits now within)
      else (if has_default items then enter running items after (λ now. at_default running meant items exits now within) else behind after)

  -- an expression, in front of places
  value_first : (e : Expression) (n : ℕ) (m : Memory) (ps : Places) (follows : ℕ → Variables → Behaviour) → is_typed named e ≡ true → Lives (temporaries e) → Ready m → 1 ≤ n → n + top e < total
      → ((m' : Memory) → Ready m' → Kept edge d n m m' → begin ps m' ≡ follows (register m' (n + top e)) (view m'))
      → begin (on (code here e n) ps) m ≡ eval running meant e (view m) follows
  value_first e n m ps follows typed housed ready some room goes =
      means running others heap limits calls hands meant objects literals functions gives allowed sound e d n m ps follows typed housed ready.placed (omega (arith, room, ready.room)) (λ m' kept. goes m' (ready_kept n m m' some ready kept) kept)

  structure_first : (a : Structure) (n into : ℕ) (m : Memory) (ps : Places) (follows : List ℕ → Variables → Behaviour) → is_structure named a ≡ true → Lives (structure_temporaries a) → Ready m → edge < into → into < d → 1 ≤ n
      → 0 + trees.size_of a ≤ length (block_of m.blocks into) → n + structure_registers a ≤ total
      → ((m' : Memory) (value : List ℕ) → length value ≡ trees.size_of a → Ready m' → block_of m'.blocks into ≡ put_at 0 value (block_of m.blocks into) → begin ps m' ≡ follows value (view m'))
      → begin (on (structure_code here a n into 0) ps) m ≡ eval_structure running meant a (view m) follows
  structure_first a n into m ps follows typed housed ready behind inside some fits room goes =
      structure_means running others heap limits calls hands meant objects literals functions gives allowed sound a d n into 0 m ps follows typed housed ready.placed behind inside fits (omega (arith, room, ready.room))
      (λ m' value long filled. goes m' value long (ready_filled n into value m m' some behind ready filled) filled.filled)

  -- bytes that the first free block has got are the first ones of a variable
  initial_puts : (line v size : ℕ) (o : Option ℕ) → source.home_of running v ≡ o → (value : List ℕ) (n : ℕ) (m : Memory) (ps : Places) (follows : Variables → Behaviour)
      → v < edge → size ≤ slice_index own v → length value ≡ size → Ready m → bytes_of m.blocks d 0 size ≡ value → 1 ≤ n → n + initial_registers o ≤ total → Goes ps follows
      → begin (on (initial_put here line v o size n) ps) m ≡ source.initial running o v value line (view m) follows
  initial_puts line v size None home value n m ps follows variable whole long ready same some room goes =
      let new = bytes_of m.blocks d 0 size in
      let fits : 0 + length new ≤ length (block_of m.blocks v) = omega (arith, long, ap length same, whole, variable_size running others heap limits calls hands meant d m ready.placed v variable) in
      goes (written m v 0 new) (ready_kept 1 m (written m v 0 new) (omega arith) ready (kept-write edge d 1 v 0 new m m variable fits (kept-refl edge d 1 m)))
      ∙ ap follows (shown_write running others heap limits calls hands meant m v 0 new variable)
      ∙ ap (λ bytes. follows (put_bytes (view m) v 0 bytes)) same
  initial_puts line v size (Some h) home value n m ps follows variable whole long ready same some room goes =
      let below = variable_below running others heap limits calls hands meant h 0 8 (sound.homed v h home) in
      let pointer = read_variable m.blocks h 0 UnsignedLong in
      let m1 : Memory = with_register m n pointer in
      let there : register m1 n ≡ pointer = set_same m n pointer (omega (arith, room, ready.room)) in
      let held : pointer ≡ source.held_pointer running (view m) h = λ i. number_at UnsignedLong 0 (shown_block running others heap limits calls hands meant m h below i) in
      (λ i. ask (Write ((there ∙ held) i) (same i) true) line running.function (λ a. begin ps m1))
      ∙ same_ask running (Write (source.held_pointer running (view m) h) value true) line _ (λ a. follows (view m)) (λ i a. goes m1 (ready_kept n m m1 some ready (kept-set edge d n n m pointer (omega arith))) i)

  -- the value of an initializer, which a register has
  initial_stores : (line v : ℕ) (o : Option ℕ) → source.home_of running v ≡ o → (t : IntegerType) (a n : ℕ) (m : Memory) (ps : Places) (follows : Variables → Behaviour)
      → is_within own v 0 (bytes t) ≡ true → Lives (initial_temporaries (bytes t) o) → Ready m → 1 ≤ n → n + initial_registers o ≤ total → Goes ps follows
      → begin (on (initial_store here line v o t a n) ps) m ≡ source.initial running o v (low_bytes (bytes t) (register m a)) line (view m) follows
  initial_stores line v None home t a n m ps follows within housed ready some room goes =
      let new = low_bytes (bytes t) (register m a) in
      let variable = variable_below running others heap limits calls hands meant v 0 (bytes t) within in
      goes (written m v 0 new) (ready_kept 1 m (written m v 0 new) (omega arith) ready (kept-write edge d 1 v 0 new m m variable (low_room running others heap limits calls hands meant d m ready.placed v 0 t (register m a) within) (kept-refl edge d 1 m)))
      ∙ ap follows (shown_write running others heap limits calls hands meant m v 0 new variable)
  initial_stores line v (Some h) home t a n m ps follows within housed ready some room goes =
      let new = low_bytes (bytes t) (register m a) in
      let long : length new ≡ bytes t = low_count (bytes t) (register m a) (few_bytes t) in
      let free = housed_room sizes edge heap d (bytes t) no_temporaries housed in
      let stored = storing running others heap limits calls hands meant objects literals functions gives allowed sound d 1 new m m (record { there = free.there; fits = omega (arith, free.fits, long) }) ready.placed (kept-refl edge d 1 m) in
      let m1 : Memory = written m d 0 new in
      let variable = variable_below running others heap limits calls hands meant v 0 (bytes t) within in
      let room_there = variable_room running others heap limits calls hands meant d m ready.placed v 0 (bytes t) within in
      initial_puts line v (bytes t) (Some h) home new n m1 ps follows variable (omega (arith, room_there, variable_size running others heap limits calls hands meant d m ready.placed v variable)) long (ready_kept 1 m m1 (omega arith) ready stored.kept)
      ((λ i. bytes_of m1.blocks d 0 (sym long i)) ∙ stored.same) some room goes
      ∙ (λ i. source.initial running (Some h) v new line (stored.still i) follows)

  -- the structure value of an initializer
  initial_means : (line v : ℕ) (a : Structure) (n : ℕ) (m : Memory) (ps : Places) (follows : Variables → Behaviour)
      → v < edge → slice_index own v ≡ trees.size_of a → is_structure named a ≡ true → Lives (under (trees.size_of a) (structure_temporaries a)) → Ready m → 1 ≤ n
      → n + (structure_registers a + initial_registers (home_in variables v)) ≤ total → Goes ps follows
      → begin (on (initial_code here line v a n) ps) m ≡ eval_structure running meant a (view m) (λ value after. source.initial running (source.home_of running v) v value line after follows)
  initial_means line v a n m ps follows variable whole typed housed ready some room goes =
      let placed = ready.placed in
      let size = trees.size_of a in
      let free = housed_room sizes edge heap d size (structure_temporaries a) housed in
      let free_size = block_size running others heap limits calls hands meant d m placed d in
      split running others heap limits calls hands meant (structure_code (frame running others heap limits calls hands meant (d + 1)) a n d 0) _ ps m
      ∙ structure_means running others heap limits calls hands meant objects literals functions gives allowed sound a (d + 1) n d 0 m _ (λ value after. source.initial running (source.home_of running v) v value line after follows) typed (housed_under sizes edge heap d size (structure_temporaries a) housed) (placed_deeper running others heap limits calls hands meant d m free.there placed)
      (omega (arith, placed.deep)) (omega arith) (omega (arith, free.fits, free_size)) (omega (arith, room, ready.room)) (λ m1 value long filled.
      let ready1 = ready_kept n m m1 some ready (filled-kept edge d n 0 value m m1 filled) in
      initial_puts line v size (home_in variables v) refl value (n + structure_registers a) m1 ps follows variable (omega (arith, whole)) long ready1
      ((λ i. take size (drop 0 (filled.filled i))) ∙ taken_back 0 size value (block_of m.blocks d) long (omega arith)) (omega (arith, some)) (omega (arith, room)) goes)

  -- ---- loops

  -- a part that may be missing
  part_means : (e : Option Expression) (n : ℕ) (ps : Places) (follows : Variables → Behaviour) → is_typed_part named e ≡ true → Lives (part_temporaries e) → 1 ≤ n → n + part_registers e ≤ total → Goes ps follows
      → Goes (on (part_code here e n) ps) (λ vs. eval_part running meant e vs follows)
  part_means None n ps follows typed housed some room goes m ready = goes m ready
  part_means (Some e) n ps follows typed housed some room goes m ready = value_first e n m ps (λ x. follows) typed housed ready some (omega (arith, room)) (λ m' ready' kept. goes m' ready')

  -- a test, behind which comes one place where it holds and another where it fails
  test_means : (line : ℕ) (e : Option Expression) (n : ℕ) (ps : Places) (holds fails : Variables → Behaviour) → is_test named e ≡ true → Lives (part_temporaries e) → 1 ≤ n → n + part_registers e ≤ total
      → Goes ps holds → ((m : Memory) → Ready m → at reading ps 1 m ≡ fails (view m))
      → Goes (on (test_code here line e n) ps) (λ vs. tested running meant e vs holds fails)
  test_means line None n ps holds fails typed housed some room goes past m ready = goes m ready
  test_means line (Some e) n ps holds fails typed housed some room goes past m ready =
      split running others heap limits calls hands meant (code here e n) _ ps m
      ∙ value_first e n m _ (λ x after. if is_true x then holds after else fails after) (right_of _ _ typed) housed ready some (omega (arith, room)) (λ m1 ready1 kept1.
      turned running others heap limits calls hands meant (register m1 (n + top e) == 0) _ _ _ _ (past m1 ready1) (goes m1 ready1))

  -- rounds of a loop mean rounds
  rounds_mean : (line : ℕ) (assertions : Bool) (body : (Memory → Behaviour) → Memory → Behaviour) (round : (Variables → Behaviour) → Variables → Behaviour)
      → running.assertions ≡ assertions
      → ((again : Memory → Behaviour) (on_again : Variables → Behaviour) → ((m : Memory) → Ready m → again m ≡ on_again (view m)) → (m : Memory) → Ready m → body again m ≡ round on_again (view m))
      → (k : ℕ) (m : Memory) → Ready m → flat.rounds assertions line running.function body k m ≡ source.rounds running line round k (view m)
  rounds_mean line assertions body round same each zero m ready =
      passed_same assertions ∙ (λ i. source.passed (sym same i) Unwind line running.function)
    where
      passed_same : (b : Bool) → flat.passed b Unwind line running.function ≡ source.passed b Unwind line running.function
      passed_same true = same_final _
      passed_same false = same_final _
  rounds_mean line assertions body round same each (suc k) m ready =
      each (flat.rounds assertions line running.function body k) (source.rounds running line round k) (λ m' ready'. rounds_mean line assertions body round same each k m' ready') m ready

  -- ---- which code stands in front of which

  if_front : (b : Bool) (x y rest : Nodes) → InFront x rest → InFront y rest → InFront (if b then x else y) rest
  if_front true x y rest first second = first
  if_front false x y rest first second = second

  jumps_front : (base : ℕ) (ways : Ways) (x : ℕ) (items : Items) (k n : ℕ) (rest more : Nodes) → InFront (case_jumps here base ways x items k n rest more) more
  jumps_front base ways x done k n rest more = itself more
  jumps_front base ways x (declares at_line_of v items) k n rest more = jumps_front base ways x items k n rest more
  jumps_front base ways x (initializes at_line_of v drawn e items) k n rest more = jumps_front base ways x items k n rest more
  jumps_front base ways x (initializes_structure at_line_of v drawn a items) k n rest more = jumps_front base ways x items k n rest more
  jumps_front base ways x (does s items) k n rest more = jumps_front base ways x items k n rest more
  jumps_front base ways x (label l items) k n rest more = jumps_front base ways x items k n rest more
  jumps_front base ways x (case_at at_line_of t bits items) k n rest more =
      plain_front _ _ more (plain_front _ _ more (plain_front _ _ more (plain_front _ _ more (jumps_front base ways x items (k + 5) n rest more))))
  jumps_front base ways x (default_at at_line_of items) k n rest more = jumps_front base ways x items k n rest more

  mutual
    statement_front : (s : Statement) (base : ℕ) (ways : Ways) (n : ℕ) (rest : Nodes) → InFront (statement_code here base ways s n rest) rest
    statement_front (block items) base ways n rest =
        let left = plains (leave_code here items n) rest in
        let inner = leaving (leave_code here items) ways in
        let body = items_code here base inner items (n + death_registers) left in
        plains_front _ body rest (then_front body left rest (items_front items base inner (n + death_registers) left) (plains_front _ rest rest (itself rest)))
    statement_front (if_then line test s) base ways n rest = plains_front _ _ rest (plain_front _ _ rest (statement_front s base ways n rest))
    statement_front (if_else line test s t) base ways n rest =
        let no = statement_code here base ways t n rest in
        let jump = to_place here line base (base + node_count rest) no in
        let yes = statement_code here base ways s (n + statement_registers t) jump in
        plains_front _ _ rest (plain_front _ yes rest (then_front yes jump rest (statement_front s base ways (n + statement_registers t) jump) (plain_front _ no rest (statement_front t base ways n rest))))
    statement_front (evaluate e) base ways n rest = plains_front _ _ rest (itself rest)
    statement_front (returns line e) base ways n rest = plains_front _ _ rest (plain_front _ _ rest (plains_front _ _ rest (plain_front _ rest rest (itself rest))))
    statement_front (returns_structure line a) base ways n rest = plains_front _ _ rest (plains_front _ _ rest (plain_front _ rest rest (itself rest)))
    statement_front (returns_nothing line) base ways n rest = plains_front _ _ rest (plain_front _ rest rest (itself rest))
    statement_front (for_loop line l first test last s) base ways n rest = plains_front _ _ rest (plains_front _ _ rest (repeats_front line here.function l true _ rest))
    statement_front (do_loop line l s test) base ways n rest = repeats_front line here.function l false _ rest
    statement_front (switch line e items) base ways n rest =
        let behind = base + node_count rest in
        let inner = leaving (leave_code here items) (within_switch ways behind) in
        let inside = n + death_registers in
        let value = inside + items_registers items + 1 in
        let in_cases = value + 1 in
        let in_entry = in_cases + case_registers items in
        let left = plains (leave_code here items n) rest in
        let body = items_code here base inner items inside left in
        let last = to_place here line base (if has_default items then default_place here base inner items inside left else behind) body in
        let jumps_of = case_jumps here base inner value items in_cases inside left last in
        let body_front : InFront body rest = then_front body left rest (items_front items base inner inside left) (plains_front _ rest rest (itself rest)) in
        let entered : InFront (plains (entry_code here items in_entry) jumps_of) rest =
        plains_front _ jumps_of rest (then_front jumps_of last rest (jumps_front base inner value items in_cases inside left last) (plain_front _ body rest body_front)) in
        plains_front _ _ rest (plain_front _ _ rest (if_front (has_default items || declares_none items) _ _ rest entered (plain_front _ _ rest (plains_front _ _ rest (plain_front _ _ rest entered)))))
    statement_front (breaks line) base ways n rest = plains_front _ _ rest (plain_front _ rest rest (itself rest))
    statement_front (continues line) base ways n rest = plains_front _ _ rest (plain_front _ rest rest (itself rest))
    statement_front (jumps line l) base ways n rest = plains_front _ _ rest (plain_front _ rest rest (itself rest))
    statement_front (stray line s) base ways n rest = statement_front s base ways n rest

    items_front : (items : Items) (base : ℕ) (ways : Ways) (n : ℕ) (rest : Nodes) → InFront (items_code here base ways items n rest) rest
    items_front done base ways n rest = itself rest
    items_front (declares line v items) base ways n rest = items_front items base ways n rest
    items_front (initializes line v drawn e items) base ways n rest = plains_front _ _ rest (plains_front _ _ rest (items_front items base ways n rest))
    items_front (initializes_structure line v drawn a items) base ways n rest = plains_front _ _ rest (items_front items base ways n rest)
    items_front (does s items) base ways n rest =
        let more = items_code here base ways items n rest in
        then_front (items_code here base ways (does s items) n rest) more rest (statement_front s base (labels_of here base ways items n rest) (n + items_registers items) more) (items_front items base ways n rest)
    items_front (label l items) base ways n rest = items_front items base ways n rest
    items_front (case_at line t bits items) base ways n rest = items_front items base ways n rest
    items_front (default_at line items) base ways n rest = items_front items base ways n rest

  -- ---- cases

  either_bits : (a b : Bool) → bit_or (truth_bits a) (truth_bits b) ≡ truth_bits (a || b)
  either_bits true true = refl
  either_bits true false = refl
  either_bits false true = refl
  either_bits false false = refl

  either_either : (a b c : Bool) → ((a || b) || c) ≡ (a || (b || c))
  either_either true b c = refl
  either_either false b c = refl

  -- what is known behind the tests of cases by registers from k on
  abbrev AfterTests : Items → (before k x : ℕ) → Bool → Memory → Memory → Type 0
  AfterTests items before k x any m m' =
      Ready m' × (m'.blocks ≡ m.blocks) × ((r : ℕ) → r < k → register m' r ≡ register m r) × (register m' (last_case here before items k) ≡ truth_bits (any || has_case items x))

  tests_mean : (items : Items) (line xr before k x : ℕ) (any : Bool) (m : Memory) (ps : Places) (b : Behaviour)
      → register m xr ≡ x → register m before ≡ truth_bits any → before < k → xr < k → k + case_registers items ≤ total → Ready m
      → ((m' : Memory) → AfterTests items before k x any m m' → begin ps m' ≡ b)
      → begin (on (case_tests here line xr before items k) ps) m ≡ b
  tests_mean done line xr before k x any m ps b value prior low under_k room ready goes =
      goes m (ready, refl, (λ r lt. refl), prior ∙ ap truth_bits (no_more any))
    where
      no_more : (a : Bool) → a ≡ (a || false)
      no_more true = refl
      no_more false = refl
  tests_mean (declares at_line_of v items) line xr before k x any m ps b value prior low under_k room ready goes = tests_mean items line xr before k x any m ps b value prior low under_k room ready goes
  tests_mean (initializes at_line_of v drawn e items) line xr before k x any m ps b value prior low under_k room ready goes = tests_mean items line xr before k x any m ps b value prior low under_k room ready goes
  tests_mean (initializes_structure at_line_of v drawn a items) line xr before k x any m ps b value prior low under_k room ready goes = tests_mean items line xr before k x any m ps b value prior low under_k room ready goes
  tests_mean (does s items) line xr before k x any m ps b value prior low under_k room ready goes = tests_mean items line xr before k x any m ps b value prior low under_k room ready goes
  tests_mean (label l items) line xr before k x any m ps b value prior low under_k room ready goes = tests_mean items line xr before k x any m ps b value prior low under_k room ready goes
  tests_mean (case_at at_line_of t bits items) line xr before k x any m ps b value prior low under_k room ready goes =
      let hit = bits == x in
      let m1 : Memory = with_register m k bits in
      let m2 : Memory = with_register m1 (k + 1) (truth_bits (register m1 k == register m1 xr)) in
      let m3 : Memory = with_register m2 (k + 2) (bit_or (register m2 before) (register m2 (k + 1))) in
      let room1 = set_room m k bits in
      let room2 = set_room m1 (k + 1) (truth_bits (register m1 k == register m1 xr)) in
      let of_case : register m1 k ≡ bits = set_same m k bits (omega (arith, room, ready.room)) in
      let of_value : register m1 xr ≡ x = set_other m k bits xr (λ e. omega (arith, e, under_k)) ∙ value in
      let is_hit : register m2 (k + 1) ≡ truth_bits hit =
      set_same m1 (k + 1) (truth_bits (register m1 k == register m1 xr)) (omega (arith, room, ready.room, room1)) ∙ (λ i. truth_bits (of_case i == of_value i)) in
      let is_prior : register m2 before ≡ truth_bits any = set_other m1 (k + 1) (truth_bits (register m1 k == register m1 xr)) before (λ e. omega (arith, e, low)) ∙ set_other m k bits before (λ e. omega (arith, e, low)) ∙ prior in
      let is_any : register m3 (k + 2) ≡ truth_bits (any || hit) =
      set_same m2 (k + 2) (bit_or (register m2 before) (register m2 (k + 1))) (omega (arith, room, ready.room, room1, room2)) ∙ (λ i. bit_or (is_prior i) (is_hit i)) ∙ either_bits any hit in
      let below : (r : ℕ) → r < k → register m3 r ≡ register m r =
      λ r lt. set_other m2 (k + 2) (bit_or (register m2 before) (register m2 (k + 1))) r (λ e. omega (arith, e, lt)) ∙ set_other m1 (k + 1) (truth_bits (register m1 k == register m1 xr)) r (λ e. omega (arith, e, lt)) ∙ set_other m k bits r (λ e. omega (arith, e, lt)) in
      let kept : Kept edge d k m m3 =
      kept-then edge d k k m m1 m3 (omega arith) (kept-set edge d k k m bits (omega arith))
      (kept-then edge d k k m1 m2 m3 (omega arith) (kept-set edge d k (k + 1) m1 (truth_bits (register m1 k == register m1 xr)) (omega arith)) (kept-set edge d k (k + 2) m2 (bit_or (register m2 before) (register m2 (k + 1))) (omega arith))) in
      let ready3 : Ready m3 = ready_kept k m m3 (omega (arith, low)) ready kept in
      tests_mean items line xr (k + 2) (k + 5) x (any || hit) m3 ps b (below xr under_k ∙ value) is_any (omega arith) (omega (arith, under_k)) (omega (arith, room)) ready3 (λ m' after.
      goes m' (after.0, after.1, (λ r lt. after.2 r (omega (arith, lt)) ∙ below r lt), after.3 ∙ ap truth_bits (either_either any hit (has_case items x))))
  tests_mean (default_at at_line_of items) line xr before k x any m ps b value prior low under_k room ready goes = tests_mean items line xr before k x any m ps b value prior low under_k room ready goes

  -- a block without variables of its own is entered by doing nothing
  nothing_entered : (items : Items) (vs : Variables) (follows : Variables → Behaviour) → declares_none items ≡ true → enter running items vs follows ≡ follows vs
  nothing_entered done vs follows none = refl
  nothing_entered (declares line v items) vs follows none = absurd (false≢true none)
  nothing_entered (initializes line v drawn e items) vs follows none = absurd (false≢true none)
  nothing_entered (initializes_structure line v drawn a items) vs follows none = absurd (false≢true none)
  nothing_entered (does s items) vs follows none = nothing_entered items vs follows none
  nothing_entered (label l items) vs follows none = nothing_entered items vs follows none
  nothing_entered (case_at line t bits items) vs follows none = nothing_entered items vs follows none
  nothing_entered (default_at line items) vs follows none = nothing_entered items vs follows none

  -- a choice behind what comes first
  chosen_behind : (b : Bool) (f : (Variables → Behaviour) → Behaviour) (x y : Variables → Behaviour) → f (λ now. if b then x now else y now) ≡ (if b then f x else f y)
  chosen_behind true f x y = refl
  chosen_behind false f x y = refl

  -- a choice by a register that is 0 where a test fails
  by_truth : (b : Bool) (s t u v : Behaviour) → s ≡ v → (b ≡ true → t ≡ u) → (if truth_bits b == 0 then s else t) ≡ (if b then u else v)
  by_truth true s t u v first second = second refl
  by_truth false s t u v first second = first

  -- a case that is met or not
  met : (b c : Bool) (next skip meets at_others other : Behaviour) → skip ≡ meets → next ≡ (if c then at_others else other) → (if truth_bits b == 0 then next else skip) ≡ (if b || c then (if b then meets else at_others) else other)
  met true c next skip meets at_others other hit missed = hit
  met false c next skip meets at_others other hit missed = missed

  no_room : (r : Temporaries) → Lives r → Lives no_temporaries
  no_room r housed = record { zeros = omega arith; sizes = tt; heap = omega arith }

  result_there : (m : Memory) → Ready m → edge + 1 < length m.blocks
  result_there m ready = block_there running others heap limits calls hands meant d m ready.placed (edge + 1) ready.placed.deep

  -- what the code of a variable's number as its first value uses
  abbrev number_needs : ℕ → Expression → Temporaries
  number_needs v e = both (temporaries e) (initial_temporaries (bytes (number_type e)) (home_in variables v))

  -- what a number that is returned is
  number_returned : (v : ValueType) → trees.is_integer v ≡ true → same_given gives (given_as v) ≡ true → gives ≡ Some (passed.Integer (source.integer_of v))
  number_returned Void some h = absurd (false≢true some)
  number_returned (Integer t) some h = same_gives running others heap limits calls hands meant gives (Some (passed.Integer t)) h

  put_whole : (new old : List ℕ) → length new ≡ length old → put_at 0 new old ≡ new
  put_whole new old same = ap (λ xs. new ++ xs) (drop_all (0 + length new) old (omega (arith, same))) ∙ append-nil new

  leads_either : (b : Bool) (ps : Places) (v w : ℕ) (x y : Variables → Behaviour) → (b ≡ true → Leads ps v x) → Leads ps w y → Leads ps (if b then v else w) (λ vs. if b then x vs else y vs)
  leads_either true ps v w x y first second = first refl
  leads_either false ps v w x y first second = second

  -- over the bounds, which are those of the source, and the size of the block for what the function hands over
  module _ (tests_same : (l : ℕ) → tests bounded running.function l ≡ running.tests l) (assertions_same : running.assertions ≡ limits.assertions) (result_size : slice_index sizes (edge + 1) ≡ given_size gives) where
    result_length : (m : Memory) → Ready m → length (block_of m.blocks (edge + 1)) ≡ given_size gives
    result_length m ready = block_size running others heap limits calls hands meant d m ready.placed (edge + 1) ∙ result_size

    -- the code of a statement does what it means, wherever it stands
    abbrev Means : Statement → Type 0
    Means s =
        (ways : Ways) (exits : Exits) (n : ℕ) (rest : Nodes) (later : Places) (follows : Variables → Behaviour)
        → is_typed_statement named s ≡ true → Lives (statement_temporaries s) → 1 ≤ n → n + statement_registers s ≤ total → LeadOut ways exits (nodes_on rest later) → Goes (nodes_on rest later) follows
        → Goes (nodes_on (statement_code here (length later) ways s n rest) later) (λ vs. exec running meant s exits vs follows)

    -- the jumps to cases lead to the one that has the value in the register xr
    abbrev JumpsMean : Items → Type 0
    JumpsMean items =
        (xr x k n : ℕ) (ways : Ways) (exits : Exits) (rest more : Nodes) (later : Places) (follows other : Variables → Behaviour)
        → are_typed_items named items ≡ true → Lives (items_temporaries items) → 1 ≤ n → n + items_registers items ≤ total → LeadOut ways exits (nodes_on rest later) → Goes (nodes_on rest later) follows
        → InFront more (items_code here (length later) ways items n rest)
        → 1 ≤ k → xr < k → k + case_registers items ≤ total → Goes (nodes_on more later) other → (m : Memory) → Ready m → register m xr ≡ x
        → begin (nodes_on (case_jumps here (length later) ways xr items k n rest more) later) m ≡ (if has_case items x then at_case running meant items x exits (view m) follows else other (view m))

    -- `default` is where its place says
    abbrev DefaultLeads : Items → Type 0
    DefaultLeads items =
        (n : ℕ) (ways : Ways) (exits : Exits) (rest : Nodes) (later : Places) (follows : Variables → Behaviour)
        → has_default items ≡ true → are_typed_items named items ≡ true → Lives (items_temporaries items) → 1 ≤ n → n + items_registers items ≤ total → LeadOut ways exits (nodes_on rest later) → Goes (nodes_on rest later) follows
        → Leads (nodes_on (items_code here (length later) ways items n rest) later) (default_place here (length later) ways items n rest) (λ vs. at_default running meant items exits vs follows)

    -- a round of a loop: the body, then the last part and the test
    each_round : (line : ℕ) (s : Statement) → Means s → (last test : Option Expression) (ways : Ways) (exits : Exits) (n in_last in_body behind : ℕ) (rest : Nodes) (later : Places) (follows : Variables → Behaviour) (again : Memory → Behaviour) (on_again : Variables → Behaviour)
        → behind ≡ length later + node_count rest → is_typed_statement named s ≡ true → is_test named test ≡ true → is_typed_part named last ≡ true
        → Lives (statement_temporaries s) → Lives (part_temporaries test) → Lives (part_temporaries last) → 1 ≤ n → 1 ≤ in_last → 1 ≤ in_body
        → n + part_registers test ≤ total → in_last + part_registers last ≤ total → in_body + statement_registers s ≤ total
        → LeadOut ways exits (nodes_on rest later) → Goes (nodes_on rest later) follows → ((m : Memory) → Ready m → again m ≡ on_again (view m))
        → (let end = plains (part_code here last in_last) (plains (test_code here line test n) ends) in
        (m : Memory) → Ready m → begin (nodes_on (statement_code here (behind + 1) (within_loop ways behind (behind + 1 + node_count end)) s in_body end) (again ∷ nodes_on rest later)) m
        ≡ exec running meant s (in_loop exits follows (at_end running meant last test on_again follows)) (view m) (at_end running meant last test on_again follows))
    each_round line s means_it last test ways exits n in_last in_body behind rest later follows again on_again is_behind typed test_typed last_typed housed test_temporaries last_temporaries some some_last some_body test_room last_room room out goes same m ready =
        let later_in : Places = again ∷ nodes_on rest later in
        let end = plains (part_code here last in_last) (plains (test_code here line test n) ends) in
        let ways_in = within_loop ways behind (behind + 1 + node_count end) in
        let follows_end : Variables → Behaviour = at_end running meant last test on_again follows in
        let base : behind + 1 ≡ length later_in = omega (arith, is_behind, places_count rest later) in
        let end_front : InFront end ends = plains_front _ _ ends (plains_front _ ends ends (itself ends)) in
        let end_goes : Goes (nodes_on end later_in) follows_end = λ m1 ready1.
        begin_plains (part_code here last in_last) _ later_in m1
        ∙ part_means last in_last (nodes_on (plains (test_code here line test n) ends) later_in) (λ now. tested running meant test now on_again follows) last_typed last_temporaries some_last last_room (λ m2 ready2.
        begin_plains (test_code here line test n) ends later_in m2
        ∙ test_means line test n later_in on_again follows test_typed test_temporaries some test_room same goes m2 ready2) m1 ready1 in
        let in_end : (place : ℕ) (target : Variables → Behaviour) → Leads (nodes_on rest later) place target → Leads (nodes_on end later_in) place target =
        λ place target leads. leads_front end ends later_in place target end_front (leads_behind (again ∷ []) (nodes_on rest later) place target leads) in
        let out_in : LeadOut ways_in (in_loop exits follows follows_end) (nodes_on end later_in) = record {
          breaks = straight (nodes_on end later_in) behind follows (in_end behind follows (leads_begin (nodes_on rest later) behind follows (omega (arith, is_behind, places_count rest later)) goes));
          continues = straight (nodes_on end later_in) (behind + 1 + node_count end) follows_end (leads_begin (nodes_on end later_in) (behind + 1 + node_count end) follows_end (omega (arith, places_count end later_in, base)) end_goes);
          labels = λ l. way_at (nodes_on rest later) (nodes_on end later_in) (ways.label_at l) (ways.label_out l) (exits.labels l) (in_end (ways.label_at l)) (out.labels l);
          dying = out.dying;
          dies = out.dies;
          returns = out.returns;
        } in
        (λ i. begin (nodes_on (statement_code here (base i) ways_in s in_body end) later_in) m)
        ∙ means_it ways_in (in_loop exits follows follows_end) in_body end later_in follows_end typed housed some_body room out_in end_goes m ready

    -- the block of a switch, from the place of the case that has the value, else from that of the default, or on behind it; its objects die in front of what is left
    entered_means : (b : Bool) (line xr : ℕ) (items : Items) → JumpsMean items → DefaultLeads items → (ways : Ways) (exits : Exits) (n in_entry : ℕ) (rest left : Nodes) (later : Places) (follows within : Variables → Behaviour) (x : ℕ)
        → has_default items ≡ b → in_entry ≡ xr + 1 + case_registers items → InFront left rest
        → are_typed_items named items ≡ true → Lives (items_temporaries items) → 1 ≤ n → n + items_registers items ≤ total → in_entry + entry_registers items ≤ total
        → LeadOut ways exits (nodes_on left later) → Goes (nodes_on left later) within → Goes (nodes_on rest later) follows → (m : Memory) → Ready m → register m xr ≡ x
        → (let body = items_code here (length later) ways items n left in
        let last = to_place here line (length later) (if b then default_place here (length later) ways items n left else length later + node_count rest) body in
        begin (nodes_on (plains (entry_code here items in_entry) (case_jumps here (length later) ways xr items (xr + 1) n left last)) later) m
        ≡ enter running items (view m) (λ now. if has_case items x then at_case running meant items x exits now within else (if b then at_default running meant items exits now within else follows now)))
    entered_means b line xr items jumps_it default_it ways exits n in_entry rest left later follows within x is_default is_entry left_front typed housed some room entry_room out left_on goes m ready value =
        let base = length later in
        let behind = base + node_count rest in
        let body = items_code here base ways items n left in
        let place = if b then default_place here base ways items n left else behind in
        let last = to_place here line base place body in
        let other : Variables → Behaviour = λ now. if b then at_default running meant items exits now within else follows now in
        let leads : Leads (nodes_on body later) place other =
        leads_either b (nodes_on body later) (default_place here base ways items n left) behind (λ vs. at_default running meant items exits vs within) follows
        (λ is. default_it n ways exits left later within (is_default ∙ is) typed housed some room out left_on)
        (leads_front body rest later behind follows (then_front body left rest (items_front items base ways n left) left_front) (leads_begin (nodes_on rest later) behind follows (omega (arith, places_count rest later)) goes)) in
        begin_plains (entry_code here items in_entry) _ later m
        ∙ entering items in_entry in_entry m m _ (λ now. if has_case items x then at_case running meant items x exits now within else other now) typed ready (kept-refl edge d in_entry m) (omega (arith, is_entry)) (omega arith) (omega (arith, entry_room)) (λ m1 kept.
        let ready1 = ready_kept in_entry m m1 (omega (arith, is_entry)) ready kept in
        jumps_it xr x (xr + 1) n ways exits left last later within other typed housed some room out left_on (plain_front _ body body (itself body)) (omega arith) (omega arith) (omega (arith, is_entry, entry_room))
        (λ m2 ready2. skip_to (nodes_on body later) (base + node_count body - place) place other (omega (arith, places_count body later)) leads m2 ready2)
        m1 ready1 (kept.below xr (omega (arith, is_entry)) ∙ value))

    -- behind the value: nothing where no case has it and there is no default, else the block
    switch_tail : (b c : Bool) (line before : ℕ) (items : Items) → JumpsMean items → DefaultLeads items → (ways : Ways) (exits : Exits) (n in_entry : ℕ) (rest left : Nodes) (later : Places) (follows within : Variables → Behaviour) (x : ℕ)
        → has_default items ≡ b → declares_none items ≡ c → 1 ≤ before → in_entry ≡ before + 1 + 1 + case_registers items → InFront left rest
        → are_typed_items named items ≡ true → Lives (items_temporaries items) → 1 ≤ n → n + items_registers items ≤ total → in_entry + entry_registers items ≤ total
        → LeadOut ways exits (nodes_on left later) → Goes (nodes_on left later) within → Goes (nodes_on rest later) follows → (m : Memory) → Ready m → register m (before + 1) ≡ x
        → (let body = items_code here (length later) ways items n left in
        let last = to_place here line (length later) (if b then default_place here (length later) ways items n left else length later + node_count rest) body in
        let entered = plains (entry_code here items in_entry) (case_jumps here (length later) ways (before + 1) items (before + 1 + 1) n left last) in
        begin (nodes_on (if b || c then entered else guarded here line before (before + 1) items (before + 1 + 1) (node_count rest) entered) later) m
        ≡ (if has_case items x then enter running items (view m) (λ now. at_case running meant items x exits now within)
        else (if b then enter running items (view m) (λ now. at_default running meant items exits now within) else follows (view m))))
    switch_tail true c line before items jumps_it default_it ways exits n in_entry rest left later follows within x is_default is_none some_before is_entry left_front typed housed some room entry_room out left_on goes m ready value =
        entered_means true line (before + 1) items jumps_it default_it ways exits n in_entry rest left later follows within x is_default is_entry left_front typed housed some room entry_room out left_on goes m ready value
        ∙ chosen_behind (has_case items x) (λ k. enter running items (view m) k) (λ now. at_case running meant items x exits now within) (λ now. at_default running meant items exits now within)
    switch_tail false true line before items jumps_it default_it ways exits n in_entry rest left later follows within x is_default is_none some_before is_entry left_front typed housed some room entry_room out left_on goes m ready value =
        entered_means false line (before + 1) items jumps_it default_it ways exits n in_entry rest left later follows within x is_default is_entry left_front typed housed some room entry_room out left_on goes m ready value
        ∙ nothing_entered items (view m) (λ now. if has_case items x then at_case running meant items x exits now within else follows now) is_none
        ∙ sym (λ i. if has_case items x then nothing_entered items (view m) (λ now. at_case running meant items x exits now within) is_none i else follows (view m))
    switch_tail false false line before items jumps_it default_it ways exits n in_entry rest left later follows within x is_default is_none some_before is_entry left_front typed housed some room entry_room out left_on goes m ready value =
        let base = length later in
        let behind = base + node_count rest in
        let xr = before + 1 in
        let body = items_code here base ways items n left in
        let last = to_place here line base behind body in
        let jumps_of = case_jumps here base ways xr items (xr + 1) n left last in
        let entered = plains (entry_code here items in_entry) jumps_of in
        let by_case : Variables → Behaviour = λ vs. at_case running meant items x exits vs within in
        let body_front : InFront body rest = then_front body left rest (items_front items base ways n left) left_front in
        let entered_front : InFront entered rest = plains_front _ jumps_of rest (then_front jumps_of last rest (jumps_front base ways xr items (xr + 1) n left last) (plain_front _ body rest body_front)) in
        let m1 : Memory = with_register m before 0 in
        let ready1 : Ready m1 = ready_kept before m m1 some_before ready (kept-set edge d before before m 0 (omega arith)) in
        let value1 : register m1 xr ≡ x = set_other m before 0 xr (λ e. omega (arith, e)) ∙ value in
        let prior : register m1 before ≡ 0 = set_same m before 0 (omega (arith, is_entry, entry_room, ready.room)) in
        begin_plains (case_tests here line xr before items (xr + 1)) _ later m1
        ∙ tests_mean items line xr before (xr + 1) x false m1 _ _ value1 prior (omega arith) (omega arith) (omega (arith, is_entry, entry_room)) ready1 (λ m2 after.
        let skipped : at reading (nodes_on entered later) (node_count entered - node_count rest) m2 ≡ follows (view m2) =
        skip_to (nodes_on entered later) (node_count entered - node_count rest) behind follows (omega (arith, places_count entered later))
        (leads_front entered rest later behind follows entered_front (leads_begin (nodes_on rest later) behind follows (omega (arith, places_count rest later)) goes)) m2 after.0 in
        let entering_it = entered_means false line xr items jumps_it default_it ways exits n in_entry rest left later follows within x is_default is_entry left_front typed housed some room entry_room out left_on goes m2 after.0 (after.2 xr (omega arith) ∙ value1) in
        (λ i. if after.3 i == 0 then at reading (nodes_on entered later) (node_count entered - node_count rest) m2 else begin (nodes_on entered later) m2)
        ∙ by_truth (has_case items x) (at reading (nodes_on entered later) (node_count entered - node_count rest) m2) (begin (nodes_on entered later) m2) (enter running items (view m2) by_case) (follows (view m2)) skipped
        (λ h. entering_it ∙ (λ i. enter running items (view m2) (λ now. if h i then by_case now else follows now)))
        ∙ (λ i. if has_case items x then enter running items (take edge (after.1 i)) by_case else follows (take edge (after.1 i))))

    mutual
      statement_means : (s : Statement) (ways : Ways) (exits : Exits) (n : ℕ) (rest : Nodes) (later : Places) (follows : Variables → Behaviour)
          → is_typed_statement named s ≡ true → Lives (statement_temporaries s) → 1 ≤ n → n + statement_registers s ≤ total → LeadOut ways exits (nodes_on rest later) → Goes (nodes_on rest later) follows
          → Goes (nodes_on (statement_code here (length later) ways s n rest) later) (λ vs. exec running meant s exits vs follows)
      statement_means (block items) ways exits n rest later follows typed housed some room out goes m ready =
          let leave : Variables → Behaviour → Behaviour = source.leave running items in
          let inside = n + death_registers in
          let in_entry = inside + items_registers items in
          let left = plains (leave_code here items n) rest in
          begin_plains (entry_code here items in_entry) _ later m
          ∙ entering items in_entry 1 m m _ (λ after. exec_items running meant items (source.leaving leave exits) after (λ last. leave last (follows last))) typed ready (kept-refl edge d 1 m) (omega arith) (omega (arith, some)) (omega (arith, room)) (λ m' kept.
          items_mean items (leaving (leave_code here items) ways) (source.leaving leave exits) inside left later (λ last. leave last (follows last)) typed housed (omega (arith, some)) (omega (arith, room))
          (left_out (leave_code here items) leave (leave_dies items) n ways exits rest later out)
          (left_goes (leave_code here items) leave (leave_dies items) n rest later follows some (omega (arith, room)) goes)
          m' (ready_kept 1 m m' (omega arith) ready kept))
      statement_means (if_then line test s) ways exits n rest later follows typed housed some room out goes m ready =
          let yes = statement_code here (length later) ways s n rest in
          let in_test = n + statement_registers s in
          begin_plains (code here test in_test) _ later m
          ∙ value_first test in_test m _ (λ x after. if is_true x then exec running meant s exits after follows else follows after) (right_of _ _ (left_of _ _ typed)) (housed_left sizes edge heap d (temporaries test) (statement_temporaries s) housed) ready (omega (arith, some)) (omega (arith, room)) (λ m1 ready1 kept1.
          turned running others heap limits calls hands meant (register m1 (in_test + top test) == 0) _ _ _ _
          (skip_to (nodes_on yes later) (node_count yes - node_count rest) (length (nodes_on rest later)) follows (omega (arith, places_count yes later, places_count rest later))
          (leads_front yes rest later (length (nodes_on rest later)) follows (statement_front s (length later) ways n rest) (leads_begin (nodes_on rest later) (length (nodes_on rest later)) follows refl goes)) m1 ready1)
          (statement_means s ways exits n rest later follows (right_of _ _ typed) (housed_right sizes edge heap d (temporaries test) (statement_temporaries s) housed) some (omega (arith, room)) out goes m1 ready1))
      statement_means (if_else line test s t) ways exits n rest later follows typed housed some room out goes m ready =
          let base = length later in
          let no = statement_code here base ways t n rest in
          let second = n + statement_registers t in
          let jump = to_place here line base (base + node_count rest) no in
          let yes = statement_code here base ways s second jump in
          let in_test = second + statement_registers s in
          let both_temporaries = housed_right sizes edge heap d (temporaries test) (both (statement_temporaries s) (statement_temporaries t)) housed in
          let no_front : InFront no rest = statement_front t base ways n rest in
          let jump_front : InFront jump rest = plain_front _ no rest no_front in
          let yes_front : InFront yes no = then_front yes jump no (statement_front s base ways second jump) (plain_front _ no no (itself no)) in
          let no_goes : Goes (nodes_on no later) (λ vs. exec running meant t exits vs follows) =
          statement_means t ways exits n rest later follows (right_of _ _ typed) (housed_right sizes edge heap d (statement_temporaries s) (statement_temporaries t) both_temporaries) some (omega (arith, room)) out goes in
          let end : Leads (nodes_on no later) (length (nodes_on rest later)) follows = leads_front no rest later (length (nodes_on rest later)) follows no_front (leads_begin (nodes_on rest later) (length (nodes_on rest later)) follows refl goes) in
          let jump_goes : Goes (nodes_on jump later) follows =
          λ m' ready'. skip_to (nodes_on no later) (base + node_count no - (base + node_count rest)) (length (nodes_on rest later)) follows (omega (arith, places_count no later, places_count rest later)) end m' ready' in
          begin_plains (code here test in_test) _ later m
          ∙ value_first test in_test m _ (λ x after. if is_true x then exec running meant s exits after follows else exec running meant t exits after follows) (right_of _ _ (left_of _ _ (left_of _ _ typed))) (housed_left sizes edge heap d (temporaries test) (both (statement_temporaries s) (statement_temporaries t)) housed) ready (omega (arith, some)) (omega (arith, room)) (λ m1 ready1 kept1.
          turned running others heap limits calls hands meant (register m1 (in_test + top test) == 0) _ _ _ _
          (skip_to (nodes_on yes later) (node_count yes - node_count no) (length (nodes_on no later)) (λ vs. exec running meant t exits vs follows) (omega (arith, places_count yes later, places_count no later))
          (leads_front yes no later (length (nodes_on no later)) (λ vs. exec running meant t exits vs follows) yes_front (leads_begin (nodes_on no later) (length (nodes_on no later)) (λ vs. exec running meant t exits vs follows) refl no_goes)) m1 ready1)
          (statement_means s ways exits second jump later follows (right_of _ _ (left_of _ _ typed)) (housed_left sizes edge heap d (statement_temporaries s) (statement_temporaries t) both_temporaries) (omega (arith, some)) (omega (arith, room)) (lead_front ways exits jump rest later jump_front out) jump_goes m1 ready1))
      statement_means (evaluate e) ways exits n rest later follows typed housed some room out goes m ready =
          begin_plains (code here e n) rest later m
          ∙ value_first e n m _ (λ x. follows) typed housed ready some (omega (arith, room)) (λ m1 ready1 kept1. goes m1 ready1)
      statement_means (returns line e) ways exits n rest later follows typed housed some room out goes m ready =
          let t = number_type e in
          let result = edge + 1 in
          let is : gives ≡ Some (passed.Integer t) = number_returned (type_of e) (left_of _ _ (left_of _ _ typed)) (right_of _ _ (left_of _ _ typed)) in
          begin_plains (code here e n) _ later m
          ∙ value_first e n m _ (λ x. exits.returns (source.number x)) (right_of _ _ typed) housed ready some (omega (arith, room)) (λ m1 ready1 kept1.
          let x = register m1 (n + top e) in
          let new = low_bytes (bytes t) x in
          let count : length new ≡ bytes t = low_count (bytes t) x (few_bytes t) in
          let size : length (block_of m1.blocks result) ≡ bytes t = result_length m1 ready1 ∙ ap given_size is in
          let there : result < length m1.blocks = result_there m1 ready1 in
          let m2 : Memory = written m1 result 0 new in
          let filled : Filled edge d n result 0 new m1 m2 = filled-put edge d n result 0 new m1 there (omega (arith, count, size)) in
          let whole : block_of m2.blocks result ≡ new = filled.filled ∙ put_whole new (block_of m1.blocks result) (count ∙ sym size) in
          begin_plains (ways.return_out (n + (top e + 1))) _ later m2
          ∙ out.dies (n + (top e + 1)) m2 _ (hands (Some new)) (omega (arith, some)) (omega (arith, room)) (ready_filled n result new m1 m2 some (omega arith) ready1 filled) (λ m3 ready3 same.
          λ i. hands (Some (((λ k. block_of (same k) result) ∙ whole) i)))
          ∙ (λ i. out.dying (shown_other running others heap limits calls hands meant m1 result 0 new (omega arith) i) (hands (handed (sym is i) (source.number x))))
          ∙ out.returns (source.number x) (subst (λ (g : Option PassedType). IsGiven g (source.number x)) (sym is) tt) (view m1))
      statement_means (returns_structure line a) ways exits n rest later follows typed housed some room out goes m ready =
          let result = edge + 1 in
          let is : gives ≡ Some (passed.Structure (trees.size_of a)) = same_gives running others heap limits calls hands meant gives (Some (passed.Structure (trees.size_of a))) (left_of _ _ typed) in
          let size : length (block_of m.blocks result) ≡ trees.size_of a = result_length m ready ∙ ap given_size is in
          begin_plains (structure_code here a n result 0) _ later m
          ∙ structure_first a n result m _ (λ value. exits.returns (source.structure value)) (right_of _ _ typed) housed ready (omega arith) ready.placed.deep some (omega (arith, size)) (omega (arith, room)) (λ m1 value long ready1 block_is.
          begin_plains (ways.return_out (n + structure_registers a)) _ later m1
          ∙ out.dies (n + structure_registers a) m1 _ (hands (Some value)) (omega (arith, some)) (omega (arith, room)) ready1 (λ m2 ready2 same.
          λ i. hands (Some (((λ k. block_of (same k) result) ∙ block_is ∙ put_whole value (block_of m.blocks result) (long ∙ sym size)) i)))
          ∙ (λ i. out.dying (view m1) (hands (handed (sym is i) (source.structure value))))
          ∙ out.returns (source.structure value) (subst (λ (g : Option PassedType). IsGiven g (source.structure value)) (sym is) long) (view m1))
      statement_means (returns_nothing line) ways exits n rest later follows typed housed some room out goes m ready =
          begin_plains (ways.return_out n) _ later m
          ∙ out.dies n m _ (hands None) some room ready (λ m1 ready1 same. refl)
          ∙ out.returns source.nothing tt (view m)
      statement_means (for_loop line l first test last s) ways exits n rest later follows typed housed some room out goes m ready =
          let behind = length later + node_count rest in
          let in_last = n + part_registers test in
          let in_body = in_last + part_registers last in
          let in_test = in_body + statement_registers s in
          let in_first = in_test + part_registers test in
          let first_typed = left_of _ _ (left_of _ _ (left_of _ _ typed)) in
          let test_typed = right_of _ _ (left_of _ _ (left_of _ _ typed)) in
          let first_temporaries = housed_left sizes edge heap d (part_temporaries first) (both (part_temporaries test) (both (part_temporaries last) (statement_temporaries s))) housed in
          let others_temporaries = housed_right sizes edge heap d (part_temporaries first) (both (part_temporaries test) (both (part_temporaries last) (statement_temporaries s))) housed in
          let test_temporaries = housed_left sizes edge heap d (part_temporaries test) (both (part_temporaries last) (statement_temporaries s)) others_temporaries in
          let rounds_temporaries = housed_right sizes edge heap d (part_temporaries test) (both (part_temporaries last) (statement_temporaries s)) others_temporaries in
          let end = plains (part_code here last in_last) (plains (test_code here line test n) ends) in
          let ways_in = within_loop ways behind (behind + 1 + node_count end) in
          let body = statement_code here (behind + 1) ways_in s in_body end in
          let loop = repeats line running.function l true body rest in
          let round : (Variables → Behaviour) → Variables → Behaviour =
          λ again now. exec running meant s (in_loop exits follows (at_end running meant last test again follows)) now (at_end running meant last test again follows) in
          let rest_rounds : Variables → Behaviour = source.rounds running line round (running.tests l - 1) in
          let loop_goes : Goes (nodes_on loop later) rest_rounds = λ m' ready'.
          rounds_mean line limits.assertions (λ again. at reading (nodes_on body (again ∷ nodes_on rest later)) 0) round assertions_same (λ again on_again same m2 ready2.
          each_round line s (λ ways2 exits2 n2 rest2 later2 follows2. statement_means s ways2 exits2 n2 rest2 later2 follows2) last test ways exits n in_last in_body behind rest later follows again on_again refl
          (right_of _ _ typed) test_typed (right_of _ _ (left_of _ _ typed))
          (housed_right sizes edge heap d (part_temporaries last) (statement_temporaries s) rounds_temporaries) test_temporaries (housed_left sizes edge heap d (part_temporaries last) (statement_temporaries s) rounds_temporaries)
          some (omega (arith, some)) (omega (arith, some)) (omega (arith, room)) (omega (arith, room)) (omega (arith, room)) out goes same m2 ready2)
          (tests bounded running.function l - 1) m' ready'
          ∙ (λ i. source.rounds running line round (tests_same l i - 1) (view m')) in
          begin_plains (part_code here first in_first) _ later m
          ∙ part_means first in_first (nodes_on (plains (test_code here line test in_test) loop) later) (λ start. tested running meant test start rest_rounds follows) first_typed first_temporaries (omega (arith, some)) (omega (arith, room)) (λ m1 ready1.
          begin_plains (test_code here line test in_test) loop later m1
          ∙ test_means line test in_test (nodes_on loop later) rest_rounds follows test_typed test_temporaries (omega (arith, some)) (omega (arith, room)) loop_goes goes m1 ready1) m ready
      statement_means (do_loop line l s test) ways exits n rest later follows typed housed some room out goes m ready =
          let behind = length later + node_count rest in
          let a = is_typed_statement named s in
          let b = trees.is_integer (type_of test) in
          let c = is_typed named test in
          let in_body = n + (top test + 1) in
          let end = plains (test_code here line (Some test) n) ends in
          let body = statement_code here (behind + 1) (within_loop ways behind (behind + 1 + node_count end)) s in_body end in
          let round : (Variables → Behaviour) → Variables → Behaviour =
          λ again now. exec running meant s (in_loop exits follows (at_end running meant None (Some test) again follows)) now (at_end running meant None (Some test) again follows) in
          rounds_mean line limits.assertions (λ again. at reading (nodes_on body (again ∷ nodes_on rest later)) 0) round assertions_same (λ again on_again same m2 ready2.
          each_round line s (λ ways2 exits2 n2 rest2 later2 follows2. statement_means s ways2 exits2 n2 rest2 later2 follows2) None (Some test) ways exits n in_body in_body behind rest later follows again on_again refl
          (left_of a b (left_of (a && b) c typed)) (registers_of.both b c (right_of a b (left_of (a && b) c typed)) (right_of (a && b) c typed)) refl
          (housed_left sizes edge heap d (statement_temporaries s) (temporaries test) housed) (housed_right sizes edge heap d (statement_temporaries s) (temporaries test) housed) (no_room (temporaries test) (housed_right sizes edge heap d (statement_temporaries s) (temporaries test) housed))
          some (omega (arith, some)) (omega (arith, some)) (omega (arith, room)) (omega (arith, room)) (omega (arith, room)) out goes same m2 ready2)
          (tests bounded running.function l) m ready
          ∙ (λ i. source.rounds running line round (tests_same l i) (view m))
      statement_means (switch line e items) ways exits n rest later follows typed housed some room out goes m ready =
          let behind = length later + node_count rest in
          let leave : Variables → Behaviour → Behaviour = source.leave running items in
          let inside = n + death_registers in
          let before = inside + items_registers items in
          let in_entry = before + 1 + 1 + case_registers items in
          let from = in_entry + entry_registers items in
          let left = plains (leave_code here items n) rest in
          let inner = leaving (leave_code here items) (within_switch ways behind) in
          let inner_exits = source.leaving leave (in_switch exits follows) in
          let within : Variables → Behaviour = λ last. leave last (follows last) in
          let out_in : LeadOut (within_switch ways behind) (in_switch exits follows) (nodes_on rest later) = record {
            breaks = straight (nodes_on rest later) behind follows (leads_begin (nodes_on rest later) behind follows (omega (arith, places_count rest later)) goes);
            continues = out.continues;
            labels = out.labels;
            dying = out.dying;
            dies = out.dies;
            returns = out.returns;
          } in
          begin_plains (code here e from) _ later m
          ∙ value_first e from m _ (chosen_in items inner_exits within follows) (right_of _ _ (left_of _ _ (left_of _ _ typed))) (housed_left sizes edge heap d (temporaries e) (items_temporaries items) housed) ready (omega (arith, some)) (omega (arith, room)) (λ m1 ready1 kept1.
          let x = register m1 (from + top e) in
          let m2 : Memory = with_register m1 (before + 1) x in
          let ready2 : Ready m2 = ready_kept (before + 1) m1 m2 (omega arith) ready1 (kept-set edge d (before + 1) (before + 1) m1 x (omega arith)) in
          switch_tail (has_default items) (declares_none items) line before items (λ xr2 x2 k2 n2 ways2 exits2 rest2 more2 later2 follows2 other2. jumps_mean items xr2 x2 k2 n2 ways2 exits2 rest2 more2 later2 follows2 other2) (λ n2 ways2 exits2 rest2 later2 follows2. default_leads items n2 ways2 exits2 rest2 later2 follows2)
          inner inner_exits inside in_entry rest left later follows within x refl refl (omega (arith, some)) refl (plains_front _ rest rest (itself rest)) (right_of _ _ typed) (housed_right sizes edge heap d (temporaries e) (items_temporaries items) housed) (omega (arith, some)) (omega (arith, room)) (omega (arith, room))
          (left_out (leave_code here items) leave (leave_dies items) n (within_switch ways behind) (in_switch exits follows) rest later out_in)
          (left_goes (leave_code here items) leave (leave_dies items) n rest later follows some (omega (arith, room)) goes)
          goes m2 ready2 (set_same m1 (before + 1) x (omega (arith, room, ready1.room))))
      statement_means (breaks line) ways exits n rest later follows typed housed some room out goes m ready = way_means line ways.break_at ways.break_out exits.breaks n rest later out.breaks some room m ready
      statement_means (continues line) ways exits n rest later follows typed housed some room out goes m ready = way_means line ways.continue_at ways.continue_out exits.continues n rest later out.continues some room m ready
      statement_means (jumps line l) ways exits n rest later follows typed housed some room out goes m ready = way_means line (ways.label_at l) (ways.label_out l) (exits.labels l) n rest later (out.labels l) some room m ready
      statement_means (stray line s) ways exits n rest later follows typed housed some room out goes m ready = statement_means s ways exits n rest later follows typed housed some room out goes m ready

      items_mean : (items : Items) (ways : Ways) (exits : Exits) (n : ℕ) (rest : Nodes) (later : Places) (follows : Variables → Behaviour)
          → are_typed_items named items ≡ true → Lives (items_temporaries items) → 1 ≤ n → n + items_registers items ≤ total → LeadOut ways exits (nodes_on rest later) → Goes (nodes_on rest later) follows
          → Goes (nodes_on (items_code here (length later) ways items n rest) later) (λ vs. exec_items running meant items exits vs follows)
      items_mean done ways exits n rest later follows typed housed some room out goes m ready = goes m ready
      items_mean (declares line v items) ways exits n rest later follows typed housed some room out goes m ready = items_mean items ways exits n rest later follows (right_of _ _ typed) housed some room out goes m ready
      items_mean (initializes line v drawn e items) ways exits n rest later follows typed housed some room out goes m ready =
          let t = number_type e in
          let o = home_in variables v in
          let in_value = n + items_registers items in
          let own_needs = housed_left sizes edge heap d (number_needs v e) (items_temporaries items) housed in
          let rest_means : Goes (nodes_on (items_code here (length later) ways items n rest) later) (λ vs. exec_items running meant items exits vs follows) =
          items_mean items ways exits n rest later follows (right_of _ _ typed) (housed_right sizes edge heap d (number_needs v e) (items_temporaries items) housed) some (omega (arith, room)) out goes in
          begin_plains (code here e in_value) _ later m
          ∙ value_first e in_value m _ (λ x after. source.initial running o v (low_bytes (bytes t) x) line after (λ now. exec_items running meant items exits now follows)) (right_of _ _ (left_of _ _ typed)) (housed_left sizes edge heap d (temporaries e) (initial_temporaries (bytes t) o) own_needs) ready (omega (arith, some)) (omega (arith, room)) (λ m1 ready1 kept1.
          begin_plains (initial_store here line v o t (in_value + top e) (in_value + (top e + 1))) _ later m1
          ∙ initial_stores line v o refl t (in_value + top e) (in_value + (top e + 1)) m1 _ (λ now. exec_items running meant items exits now follows) (filled_within [] own v (type_of e) (left_of _ _ (left_of _ _ typed))) (housed_right sizes edge heap d (temporaries e) (initial_temporaries (bytes t) o) own_needs) ready1 (omega arith) (omega (arith, room)) rest_means)
      items_mean (initializes_structure line v drawn a items) ways exits n rest later follows typed housed some room out goes m ready =
          let needed = under (trees.size_of a) (structure_temporaries a) in
          let about = left_of _ _ (left_of _ _ typed) in
          let in_value = n + items_registers items in
          begin_plains (initial_code here line v a in_value) _ later m
          ∙ initial_means line v a in_value m _ (λ after. exec_items running meant items exits after follows) (test_less v edge (left_of _ _ about)) (sym (test_equal (trees.size_of a) (slice_index own v) (right_of _ _ about))) (right_of _ _ (left_of _ _ typed)) (housed_left sizes edge heap d needed (items_temporaries items) housed) ready (omega (arith, some)) (omega (arith, room))
          (items_mean items ways exits n rest later follows (right_of _ _ typed) (housed_right sizes edge heap d needed (items_temporaries items) housed) some (omega (arith, room)) out goes)
      items_mean (does s items) ways exits n rest later follows typed housed some room out goes m ready =
          let more = items_code here (length later) ways items n rest in
          let items_housed = housed_right sizes edge heap d (statement_temporaries s) (items_temporaries items) housed in
          statement_means s (labels_of here (length later) ways items n rest) (with_labels exits (λ l now. at_label running meant items l exits now follows)) (n + items_registers items) more later (λ after. exec_items running meant items exits after follows)
          (left_of _ _ typed) (housed_left sizes edge heap d (statement_temporaries s) (items_temporaries items) housed) (omega (arith, some)) (omega (arith, room))
          (labels_lead items ways exits n rest later follows (right_of _ _ typed) items_housed some (omega (arith, room)) out goes)
          (items_mean items ways exits n rest later follows (right_of _ _ typed) items_housed some (omega (arith, room)) out goes) m ready
      items_mean (label l items) ways exits n rest later follows typed housed some room out goes m ready = items_mean items ways exits n rest later follows typed housed some room out goes m ready
      items_mean (case_at line t bits items) ways exits n rest later follows typed housed some room out goes m ready = items_mean items ways exits n rest later follows (right_of _ _ typed) housed some room out goes m ready
      items_mean (default_at line items) ways exits n rest later follows typed housed some room out goes m ready = items_mean items ways exits n rest later follows typed housed some room out goes m ready

      -- the labels among items lead behind them
      labels_lead : (items : Items) (ways : Ways) (exits : Exits) (n : ℕ) (rest : Nodes) (later : Places) (follows : Variables → Behaviour)
          → are_typed_items named items ≡ true → Lives (items_temporaries items) → 1 ≤ n → n + items_registers items ≤ total → LeadOut ways exits (nodes_on rest later) → Goes (nodes_on rest later) follows
          → LeadOut (labels_of here (length later) ways items n rest) (with_labels exits (λ l now. at_label running meant items l exits now follows)) (nodes_on (items_code here (length later) ways items n rest) later)
      labels_lead done ways exits n rest later follows typed housed some room out goes = record { breaks = out.breaks; continues = out.continues; labels = out.labels; dying = out.dying; dies = out.dies; returns = out.returns }
      labels_lead (declares line v items) ways exits n rest later follows typed housed some room out goes = labels_lead items ways exits n rest later follows (right_of _ _ typed) housed some room out goes
      labels_lead (initializes line v drawn e items) ways exits n rest later follows typed housed some room out goes =
          let more = items_code here (length later) ways items n rest in
          lead_front (labels_of here (length later) ways items n rest) (with_labels exits (λ l now. at_label running meant items l exits now follows)) (items_code here (length later) ways (initializes line v drawn e items) n rest) more later
          (plains_front _ _ more (plains_front _ more more (itself more)))
          (labels_lead items ways exits n rest later follows (right_of _ _ typed) (housed_right sizes edge heap d (number_needs v e) (items_temporaries items) housed) some (omega (arith, room)) out goes)
      labels_lead (initializes_structure line v drawn a items) ways exits n rest later follows typed housed some room out goes =
          let more = items_code here (length later) ways items n rest in
          lead_front (labels_of here (length later) ways items n rest) (with_labels exits (λ l now. at_label running meant items l exits now follows)) (items_code here (length later) ways (initializes_structure line v drawn a items) n rest) more later
          (plains_front _ more more (itself more))
          (labels_lead items ways exits n rest later follows (right_of _ _ typed) (housed_right sizes edge heap d (under (trees.size_of a) (structure_temporaries a)) (items_temporaries items) housed) some (omega (arith, room)) out goes)
      labels_lead (does s items) ways exits n rest later follows typed housed some room out goes =
          let more = items_code here (length later) ways items n rest in
          lead_front (labels_of here (length later) ways items n rest) (with_labels exits (λ l now. at_label running meant items l exits now follows)) (items_code here (length later) ways (does s items) n rest) more later
          (statement_front s (length later) (labels_of here (length later) ways items n rest) (n + items_registers items) more)
          (labels_lead items ways exits n rest later follows (right_of _ _ typed) (housed_right sizes edge heap d (statement_temporaries s) (items_temporaries items) housed) some (omega (arith, room)) out goes)
      labels_lead (label l items) ways exits n rest later follows typed housed some room out goes =
          let more = items_code here (length later) ways items n rest in
          let inner = labels_of here (length later) ways items n rest in
          let first = labels_lead items ways exits n rest later follows typed housed some room out goes in
          let place = length later + node_count more in
          let meets : Variables → Behaviour = λ vs. exec_items running meant items exits vs follows in
          record {
            breaks = first.breaks;
            continues = first.continues;
            labels = λ q. way_if (l == q) (nodes_on more later) place (inner.label_at q) no_deaths (inner.label_out q) meets (λ vs. at_label running meant items q exits vs follows)
                (straight (nodes_on more later) place meets (leads_begin (nodes_on more later) place meets (omega (arith, places_count more later)) (items_mean items ways exits n rest later follows typed housed some room out goes))) (first.labels q);
            dying = first.dying;
            dies = first.dies;
            returns = first.returns;
          }
      labels_lead (case_at line t bits items) ways exits n rest later follows typed housed some room out goes = labels_lead items ways exits n rest later follows (right_of _ _ typed) housed some room out goes
      labels_lead (default_at line items) ways exits n rest later follows typed housed some room out goes = labels_lead items ways exits n rest later follows typed housed some room out goes

      -- the jumps to the cases: behind the one that has the value, else on
      jumps_mean : (items : Items) (xr x k n : ℕ) (ways : Ways) (exits : Exits) (rest more : Nodes) (later : Places) (follows other : Variables → Behaviour)
          → are_typed_items named items ≡ true → Lives (items_temporaries items) → 1 ≤ n → n + items_registers items ≤ total → LeadOut ways exits (nodes_on rest later) → Goes (nodes_on rest later) follows
          → InFront more (items_code here (length later) ways items n rest)
          → 1 ≤ k → xr < k → k + case_registers items ≤ total → Goes (nodes_on more later) other → (m : Memory) → Ready m → register m xr ≡ x
          → begin (nodes_on (case_jumps here (length later) ways xr items k n rest more) later) m ≡ (if has_case items x then at_case running meant items x exits (view m) follows else other (view m))
      jumps_mean done xr x k n ways exits rest more later follows other typed housed some room out goes front some_cases low cases_room last m ready value = last m ready
      jumps_mean (declares at_line_of v items) xr x k n ways exits rest more later follows other typed housed some room out goes front some_cases low cases_room last m ready value =
          jumps_mean items xr x k n ways exits rest more later follows other (right_of _ _ typed) housed some room out goes front some_cases low cases_room last m ready value
      jumps_mean (initializes at_line_of v drawn e items) xr x k n ways exits rest more later follows other typed housed some room out goes front some_cases low cases_room last m ready value =
          let others_code = items_code here (length later) ways items n rest in
          jumps_mean items xr x k n ways exits rest more later follows other (right_of _ _ typed) (housed_right sizes edge heap d (number_needs v e) (items_temporaries items) housed) some (omega (arith, room)) out goes
          (then_front more (items_code here (length later) ways (initializes at_line_of v drawn e items) n rest) others_code front (plains_front _ _ others_code (plains_front _ others_code others_code (itself others_code)))) some_cases low cases_room last m ready value
      jumps_mean (initializes_structure at_line_of v drawn a items) xr x k n ways exits rest more later follows other typed housed some room out goes front some_cases low cases_room last m ready value =
          let others_code = items_code here (length later) ways items n rest in
          jumps_mean items xr x k n ways exits rest more later follows other (right_of _ _ typed) (housed_right sizes edge heap d (under (trees.size_of a) (structure_temporaries a)) (items_temporaries items) housed) some (omega (arith, room)) out goes
          (then_front more (items_code here (length later) ways (initializes_structure at_line_of v drawn a items) n rest) others_code front (plains_front _ others_code others_code (itself others_code))) some_cases low cases_room last m ready value
      jumps_mean (does s items) xr x k n ways exits rest more later follows other typed housed some room out goes front some_cases low cases_room last m ready value =
          let others_code = items_code here (length later) ways items n rest in
          jumps_mean items xr x k n ways exits rest more later follows other (right_of _ _ typed) (housed_right sizes edge heap d (statement_temporaries s) (items_temporaries items) housed) some (omega (arith, room)) out goes
          (then_front more (items_code here (length later) ways (does s items) n rest) others_code front (statement_front s (length later) (labels_of here (length later) ways items n rest) (n + items_registers items) others_code)) some_cases low cases_room last m ready value
      jumps_mean (label l items) xr x k n ways exits rest more later follows other typed housed some room out goes front some_cases low cases_room last m ready value =
          jumps_mean items xr x k n ways exits rest more later follows other typed housed some room out goes front some_cases low cases_room last m ready value
      jumps_mean (case_at at_line_of t bits items) xr x k n ways exits rest more later follows other typed housed some room out goes front some_cases low cases_room last m ready value =
          let behind = items_code here (length later) ways items n rest in
          let next = case_jumps here (length later) ways xr items (k + 5) n rest more in
          let place = length later + node_count behind in
          let meets : Variables → Behaviour = λ vs. exec_items running meant items exits vs follows in
          let m1 : Memory = with_register m (k + 3) bits in
          let m2 : Memory = with_register m1 (k + 4) (truth_bits (register m1 (k + 3) == register m1 xr)) in
          let of_case : register m1 (k + 3) ≡ bits = set_same m (k + 3) bits (omega (arith, cases_room, ready.room)) in
          let of_value : register m1 xr ≡ x = set_other m (k + 3) bits xr (λ e. omega (arith, e, low)) ∙ value in
          let is_hit : register m2 (k + 4) ≡ truth_bits (bits == x) =
          set_same m1 (k + 4) (truth_bits (register m1 (k + 3) == register m1 xr)) (omega (arith, cases_room, ready.room, set_room m (k + 3) bits)) ∙ (λ i. truth_bits (of_case i == of_value i)) in
          let value2 : register m2 xr ≡ x = set_other m1 (k + 4) (truth_bits (register m1 (k + 3) == register m1 xr)) xr (λ e. omega (arith, e, low)) ∙ of_value in
          let kept : Kept edge d k m m2 = kept-then edge d k k m m1 m2 (omega arith) (kept-set edge d k (k + 3) m bits (omega arith)) (kept-set edge d k (k + 4) m1 (truth_bits (register m1 (k + 3) == register m1 xr)) (omega arith)) in
          let ready2 : Ready m2 = ready_kept k m m2 some_cases ready kept in
          let next_front : InFront next behind = then_front next more behind (jumps_front (length later) ways xr items (k + 5) n rest more) front in
          let lead : Leads (nodes_on next later) place meets =
          leads_front next behind later place meets next_front (leads_begin (nodes_on behind later) place meets (omega (arith, places_count behind later)) (items_mean items ways exits n rest later follows (right_of _ _ typed) housed some room out goes)) in
          let hit : at reading (nodes_on next later) (length later + node_count next - place) m2 ≡ meets (view m2) = skip_to (nodes_on next later) (length later + node_count next - place) place meets (omega (arith, places_count next later)) lead m2 ready2 in
          let missed = jumps_mean items xr x (k + 5) n ways exits rest more later follows other (right_of _ _ typed) housed some room out goes front (omega arith) (omega (arith, low)) (omega (arith, cases_room)) last m2 ready2 value2 in
          (λ i. if is_hit i == 0 then begin (nodes_on next later) m2 else at reading (nodes_on next later) (length later + node_count next - place) m2)
          ∙ met (bits == x) (has_case items x) (begin (nodes_on next later) m2) (at reading (nodes_on next later) (length later + node_count next - place) m2) (meets (view m2)) (at_case running meant items x exits (view m2) follows) (other (view m2)) hit missed
      jumps_mean (default_at at_line_of items) xr x k n ways exits rest more later follows other typed housed some room out goes front some_cases low cases_room last m ready value =
          jumps_mean items xr x k n ways exits rest more later follows other typed housed some room out goes front some_cases low cases_room last m ready value

      -- where `default` stands
      default_leads : (items : Items) (n : ℕ) (ways : Ways) (exits : Exits) (rest : Nodes) (later : Places) (follows : Variables → Behaviour)
          → has_default items ≡ true → are_typed_items named items ≡ true → Lives (items_temporaries items) → 1 ≤ n → n + items_registers items ≤ total → LeadOut ways exits (nodes_on rest later) → Goes (nodes_on rest later) follows
          → Leads (nodes_on (items_code here (length later) ways items n rest) later) (default_place here (length later) ways items n rest) (λ vs. at_default running meant items exits vs follows)
      default_leads done n ways exits rest later follows there typed housed some room out goes = absurd (false≢true there)
      default_leads (declares line v items) n ways exits rest later follows there typed housed some room out goes = default_leads items n ways exits rest later follows there (right_of _ _ typed) housed some room out goes
      default_leads (initializes line v drawn e items) n ways exits rest later follows there typed housed some room out goes =
          let behind = items_code here (length later) ways items n rest in
          leads_front (items_code here (length later) ways (initializes line v drawn e items) n rest) behind later (default_place here (length later) ways items n rest) (λ vs. at_default running meant items exits vs follows) (plains_front _ _ behind (plains_front _ behind behind (itself behind)))
          (default_leads items n ways exits rest later follows there (right_of _ _ typed) (housed_right sizes edge heap d (number_needs v e) (items_temporaries items) housed) some (omega (arith, room)) out goes)
      default_leads (initializes_structure line v drawn a items) n ways exits rest later follows there typed housed some room out goes =
          let behind = items_code here (length later) ways items n rest in
          leads_front (items_code here (length later) ways (initializes_structure line v drawn a items) n rest) behind later (default_place here (length later) ways items n rest) (λ vs. at_default running meant items exits vs follows) (plains_front _ behind behind (itself behind))
          (default_leads items n ways exits rest later follows there (right_of _ _ typed) (housed_right sizes edge heap d (under (trees.size_of a) (structure_temporaries a)) (items_temporaries items) housed) some (omega (arith, room)) out goes)
      default_leads (does s items) n ways exits rest later follows there typed housed some room out goes =
          let behind = items_code here (length later) ways items n rest in
          leads_front (items_code here (length later) ways (does s items) n rest) behind later (default_place here (length later) ways items n rest) (λ vs. at_default running meant items exits vs follows) (statement_front s (length later) (labels_of here (length later) ways items n rest) (n + items_registers items) behind)
          (default_leads items n ways exits rest later follows there (right_of _ _ typed) (housed_right sizes edge heap d (statement_temporaries s) (items_temporaries items) housed) some (omega (arith, room)) out goes)
      default_leads (label l items) n ways exits rest later follows there typed housed some room out goes = default_leads items n ways exits rest later follows there typed housed some room out goes
      default_leads (case_at line t bits items) n ways exits rest later follows there typed housed some room out goes = default_leads items n ways exits rest later follows there (right_of _ _ typed) housed some room out goes
      default_leads (default_at line items) n ways exits rest later follows there typed housed some room out goes =
          let behind = items_code here (length later) ways items n rest in
          leads_begin (nodes_on behind later) (length later + node_count behind) (λ vs. exec_items running meant items exits vs follows) (omega (arith, places_count behind later)) (items_mean items ways exits n rest later follows typed housed some room out goes)

    -- the body of a function, around which the objects of so many parameters live; what it hands over goes to what follows
    pub body_means : (count : ℕ) (s : Statement) (follows : source.Given → Behaviour) (later : Places)
        → 1 ≡ length later → count ≤ edge → is_typed_statement named s ≡ true → Lives (statement_temporaries s) → 1 + (death_registers + (statement_registers s + parameters_registers count 0)) ≤ total
        → ((given : source.Given) → IsGiven gives given → hands (handed gives given) ≡ follows given)
        → (let leave = source.leave_parameters running count 0 in
        Goes (nodes_on (body_code here running.line count s) later) (λ vs. source.enter_parameters running count 0 vs (λ after.
        exec running meant s (source.leaving leave (in_function running.line running.function follows)) after (λ last. leave last (follows source.nothing)))))
    body_means count s follows later one few typed housed room same m ready =
        let line = running.line in
        let leave : Variables → Behaviour → Behaviour = source.leave_parameters running count 0 in
        let exits = in_function line running.function follows in
        let inside = 1 + death_registers in
        let behind = inside + statement_registers s in
        let end = plain (at_line here line (operations.Return None)) (plain (at_line here line (operations.Assert 0)) ends) in
        let places : Places = nodes_on end later in
        let left = plains (leave_parameters_code here line count 0 1) end in
        let breaks_it : Variables → Behaviour = λ vs. source.final (Broken Assertion line running.function) in
        let three : length places ≡ 3 = omega (arith, places_count end later, one) in
        let broken : Leads places 2 breaks_it = (
          omega (arith, three),
          λ m1 ready1.
              (let at_one : length places - 2 ≡ 1 = omega (arith, three) in ap (λ n. at reading places n m1) at_one)
              ∙ (λ i. if ready1.zero_there i == 0 then final (Broken Assertion line running.function) else at reading later 0 m1)
              ∙ same_final (Broken Assertion line running.function),
        ) in
        let out : LeadOut no_ways exits places = record {
          breaks = straight places 2 breaks_it broken;
          continues = straight places 2 breaks_it broken;
          labels = λ l. straight places 2 breaks_it broken;
          dying = λ vs b. b;
          dies = none_die;
          returns = λ given is vs. same given is;
        } in
        begin_plains (parameters_code here line count 0 behind) _ later m
        ∙ parameters_enter count 0 behind 1 m m _ (λ after. exec running meant s (source.leaving leave exits) after (λ last. leave last (follows source.nothing))) (omega (arith, few)) ready (kept-refl edge d 1 m) (omega arith) (omega arith) (omega (arith, room)) (λ m1 kept1.
        let ready1 = ready_kept 1 m m1 (omega arith) ready kept1 in
        (λ i. begin (nodes_on (statement_code here (one i) (leaving (leave_parameters_code here line count 0) no_ways) s inside left) later) m1)
        ∙ statement_means s (leaving (leave_parameters_code here line count 0) no_ways) (source.leaving leave exits) inside left later (λ last. leave last (follows source.nothing)) typed housed (omega arith) (omega (arith, room))
        (left_out (leave_parameters_code here line count 0) leave (parameters_die count 0) 1 no_ways exits end later out)
        (left_goes (leave_parameters_code here line count 0) leave (parameters_die count 0) 1 end later (λ vs. follows source.nothing) (omega arith) (omega (arith, room)) (λ m2 ready2. same source.nothing tt))
        m1 ready1)
