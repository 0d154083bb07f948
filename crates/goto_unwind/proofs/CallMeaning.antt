-- What stands for a call does what the call does: its function's own registers and blocks are fresh.
use Rattle.std.proofs.Common.{◌≡◌, ℕ, zero, suc, ◌+◌, ◌<◌, ◌≤◌, Bool, true, false, take, drop, List, [], ◌∷◌, ◌++◌, length, map, Option, Some, None, refl, sym, ap, ◌∙◌, subst, arith, append_assoc, length-append}
use Rattle.std.specs.Prelude.{◌==◌, nat_le, min, slice_index, slice_get, if◌then◌else◌}
use Rattle.std.proofs.lemmas.List.{get_or-set_same, get_or-set_other, length-set, length-replicate, length-drop}
use Rattle.std.proofs.lemmas.Bool.Decides.{nat_tests}
use Rattle.words.specs.declared.check.Class.TheVariants.{Recursion}
use Rattle.c_types.specs.declared.integers.IntegerType.{IntegerType}
use Rattle.core_tree.specs.Ranges.{Limits}
use Rattle.c_values.specs.Variables.{Variables, block_of, put_at, put_bytes, zeros, first_variables}
use Rattle.actions.specs.declared.action.Next.TheVariants.{Blocked}
use Rattle.actions.specs.Behaviour.{Behaviour}
use Rattle.goto_prog.specs.declared.code.Instruction.{Instruction}
use Rattle.goto_prog.specs.Meaning.{Memory, Given, Reading, register, with_register, with_blocks, bytes_of, filled, arguments_of, received, given_by}
use Rattle.goto_prog.specs.Meaning as flat_meaning
use Rattle.goto_prog.specs.Threads.{Calls, acting, behaving, final}
use Rattle.goto_prog.specs.Nodes.{Routine, routine_fits, routines_fit}
use Rattle.goto_prog.specs.Structured.{Bounded, does_nodes, with_arguments, entry_memory, enters, opened, activation}
use Rattle.goto_unwind.specs.Unrolled.{Space, with_frame, Site, Piece, jump, hand_code, argument_code, Inline, body_code, inlined, inline_at}
use Rattle.goto_unwind.proofs.Frames.{left_of, right_of, sets_register, puts, short, block_size, on, begin, from_end, InFront, from_end_front, from_end_begin, itself, some_front, Below, Good, good_before, good_does, test_less, test_most}
use Rattle.goto_unwind.proofs.Growth.{Extends, same_space, then_space, with_frame_extends, register_room, block_room, Within, within_less, InlineGrows, nodes_grow, inline_grows}
use Rattle.goto_unwind.proofs.CodeMeaning.{grows, passing, LeadAll, goes, Hands, Inlines, places_count, nodes_lead}

-- ---- lists

take_all : (n : ℕ) (xs : List ℕ) → length xs ≤ n → take n xs ≡ xs
take_all zero [] few = refl
take_all zero (x ∷ xs) few = absurd (omega (arith, few))
take_all (suc n) [] few = refl
take_all (suc n) (x ∷ xs) few = ap (λ ys. x ∷ ys) (take_all n xs (omega (arith, few)))

take_least : (a b : ℕ) (xs : List ℕ) → length xs ≡ b → take (min a b) xs ≡ take a xs
take_least a b xs same = by_order (nat_le a b) refl
  where
    more : (a b : ℕ) → nat_le a b ≡ false → b < a
    more a b h = grind (arith, nat_tests)

    by_order : (z : Bool) → nat_le a b ≡ z → take (min a b) xs ≡ take a xs
    by_order true h =
        let most = test_most a b h in
        let least : min a b ≡ a = omega (arith, most) in
        λ i. take (least i) xs
    by_order false h =
        let over = more a b h in
        let least : min a b ≡ b = omega (arith, over) in
        (λ i. take (least i) xs) ∙ take_all b xs (omega (arith, same)) ∙ sym (take_all a xs (omega (arith, same, over)))

-- ---- the bytes of arguments are copied

-- the memory behind it, where this code then begins
pub record Copied (whole code : List Instruction) (m : Memory) (into : ℕ) (sizes : List ℕ) (blocks : Variables) : Type 0 where
  pub memory : Memory
  pub same : begin whole m ≡ begin code memory
  pub registers : memory.registers ≡ m.registers
  pub blocks_are : (j : ℕ) → j < length sizes → block_of memory.blocks (into + j) ≡ block_of blocks j
  pub before : (v : ℕ) → v < into → block_of memory.blocks v ≡ block_of m.blocks v
  pub behind : (v : ℕ) → into + length sizes ≤ v → block_of memory.blocks v ≡ block_of m.blocks v
  pub count : length memory.blocks ≡ length m.blocks

pub zeros_at : (sizes : List ℕ) (j : ℕ) → j < length sizes → block_of (first_variables sizes) j ≡ zeros (slice_index sizes j)
zeros_at [] j less = absurd (omega (arith, less))
zeros_at (n ∷ sizes) zero less = refl
zeros_at (n ∷ sizes) (suc j) less = zeros_at sizes j (omega (arith, less))

pub none_given : (sizes : List ℕ) → with_arguments sizes [] ≡ first_variables sizes
none_given [] = refl
none_given (n ∷ sizes) = refl

untouched : (code : List Instruction) (m : Memory) (into : ℕ) (sizes : List ℕ) (blocks : Variables) → blocks ≡ first_variables sizes
    → ((j : ℕ) → j < length sizes → block_of m.blocks (into + j) ≡ zeros (slice_index sizes j)) → Copied code code m into sizes blocks
untouched code m into sizes blocks are clean = record {
  memory = m;
  same = refl;
  registers = refl;
  blocks_are = λ j less. clean j less ∙ sym (zeros_at sizes j less) ∙ (λ i. block_of (sym are i) j);
  before = λ v less. refl;
  behind = λ v from. refl;
  count = refl;
}

-- so many blocks of the caller, whose sizes are told, into the first ones of the function that is called
copies : (line f : ℕ) (callers : List ℕ) (from count : ℕ) (sizes : List ℕ) (into : ℕ) (code : List Instruction) (m : Memory) (values : Variables)
    → map length values ≡ callers → count ≤ length callers
    → ((j : ℕ) → j < count → block_of m.blocks (from + j) ≡ block_of values j)
    → ((j : ℕ) → j < length sizes → block_of m.blocks (into + j) ≡ zeros (slice_index sizes j))
    → from + count ≤ into → into + length sizes ≤ length m.blocks
    → Copied (argument_code line f callers from count sizes into ++ code) code m into sizes (with_arguments sizes (take count values))
copies line f callers from zero sizes into code m values extents enough source clean apart room = untouched code m into sizes _ (none_given sizes) clean
copies line f callers from (suc count) [] into code m values extents enough source clean apart room = untouched code m into [] _ refl clean
copies line f [] from (suc count) (n ∷ sizes) into code m values extents enough source clean apart room = absurd (omega (arith, enough))
copies line f (c ∷ callers) from (suc count) (n ∷ sizes) into code m [] extents enough source clean apart room = absurd (cc)
copies line f (c ∷ callers) from (suc count) (n ∷ sizes) into code m (value ∷ values) extents enough source clean apart room =
    let long : length value ≡ c = head_is (length value) c (map length values) callers extents in
    let first : block_of m.blocks from ≡ value = (λ i. block_of m.blocks (sym (plus_none from) i)) ∙ source 0 (omega arith) in
    let fresh : block_of m.blocks into ≡ zeros n = (λ i. block_of m.blocks (sym (plus_none into) i)) ∙ clean 0 (omega arith) in
    let bytes : List ℕ = bytes_of m.blocks from 0 (min n c) in
    let bytes_are : bytes ≡ take n value = (λ i. take (min n c) (first i)) ∙ take_least n c value long in
    let one : Memory = with_blocks m (put_bytes m.blocks into 0 bytes) in
    let other : (v : ℕ) → (v ≡ into → ⊥) → block_of one.blocks v ≡ block_of m.blocks v = λ v no. get_or-set_other m.blocks into v (put_at 0 bytes (block_of m.blocks into)) [] no in
    let as_many : length one.blocks ≡ length m.blocks = length-set m.blocks into (put_at 0 bytes (block_of m.blocks into)) in
    let rest : Copied (argument_code line f callers (from + 1) count sizes (into + 1) ++ code) code one (into + 1) sizes (with_arguments sizes (take count values)) =
    copies line f callers (from + 1) count sizes (into + 1) code one values (tail_is (length value) c (map length values) callers extents) (omega (arith, enough))
    (λ j less. let there : from + 1 + j ≡ from + suc j = omega arith in
    other (from + 1 + j) (λ e. omega (arith, e, apart, less)) ∙ (λ i. block_of m.blocks (there i)) ∙ source (suc j) (omega (arith, less)))
    (λ j less. let there : into + 1 + j ≡ into + suc j = omega arith in
    other (into + 1 + j) (λ e. omega (arith, e)) ∙ (λ i. block_of m.blocks (there i)) ∙ clean (suc j) (omega (arith, less)))
    (omega (arith, apart)) (omega (arith, room, as_many)) in
    record {
      memory = rest.memory;
      same = rest.same;
      registers = rest.registers;
      blocks_are = λ j less. by_place rest one other j less
          bytes bytes_are fresh (get_or-set_same m.blocks into (put_at 0 bytes (block_of m.blocks into)) [] (omega (arith, room)));
      before = λ v less. rest.before v (omega (arith, less)) ∙ other v (λ e. omega (arith, e, less));
      behind = λ v far. rest.behind v (omega (arith, far)) ∙ other v (λ e. omega (arith, e, far));
      count = rest.count ∙ as_many;
    }
  where
    plus_none : (n : ℕ) → n + 0 ≡ n
    plus_none n = omega arith

    head_is : (x y : ℕ) (xs ys : List ℕ) → (x ∷ xs) ≡ (y ∷ ys) → x ≡ y
    head_is x y xs ys h = cc

    tail_is : (x y : ℕ) (xs ys : List ℕ) → (x ∷ xs) ≡ (y ∷ ys) → xs ≡ ys
    tail_is x y xs ys h = cc

    by_place : (rest : Copied (argument_code line f callers (from + 1) count sizes (into + 1) ++ code) code (with_blocks m (put_bytes m.blocks into 0 (bytes_of m.blocks from 0 (min n c)))) (into + 1) sizes (with_arguments sizes (take count values)))
        → (one : Memory) → ((v : ℕ) → (v ≡ into → ⊥) → block_of one.blocks v ≡ block_of m.blocks v) → (j : ℕ) → j < length (n ∷ sizes)
        → (bytes : List ℕ) → bytes ≡ take n value → block_of m.blocks into ≡ zeros n
        → block_of (put_bytes m.blocks into 0 (bytes_of m.blocks from 0 (min n c))) into ≡ put_at 0 bytes (block_of m.blocks into)
        → block_of rest.memory.blocks (into + j) ≡ block_of (put_at 0 (take n value) (zeros n) ∷ with_arguments sizes (take count values)) j
    by_place rest one other zero less bytes bytes_are fresh set =
        (λ i. block_of rest.memory.blocks (plus_none into i)) ∙ rest.before into (omega arith) ∙ set ∙ (λ i. put_at 0 (bytes_are i) (fresh i))
    by_place rest one other (suc j) less bytes bytes_are fresh set =
        let there : into + suc j ≡ into + 1 + j = omega arith in (λ i. block_of rest.memory.blocks (there i)) ∙ rest.blocks_are j (omega (arith, less))

-- ---- the blocks of a function at its start

put_length : (n : ℕ) (new : List ℕ) → length new ≤ n → length (put_at 0 new (zeros n)) ≡ n
put_length n new few =
    omega (arith, few, length-replicate {A = ℕ} n 0, length-append new (drop (0 + length new) (zeros n)), length-drop (0 + length new) (zeros n))

pub entry_extents : (sizes : List ℕ) (values : Variables) → map length (with_arguments sizes values) ≡ sizes
entry_extents [] values = refl
entry_extents (n ∷ sizes) [] = all_zero (n ∷ sizes)
  where
    all_zero : (xs : List ℕ) → map length (first_variables xs) ≡ xs
    all_zero [] = refl
    all_zero (x ∷ xs) = λ i. length-replicate {A = ℕ} x 0 i ∷ all_zero xs i
entry_extents (n ∷ sizes) (a ∷ values) = λ i. put_length n (take n a) (short_of n a) i ∷ entry_extents sizes values i
  where
    short_of : (n : ℕ) (xs : List ℕ) → length (take n xs) ≤ n
    short_of zero xs = omega arith
    short_of (suc n) [] = omega arith
    short_of (suc n) (x ∷ xs) = omega (arith, short_of n xs)

pub zero_register : (ts : List IntegerType) (r : ℕ) → slice_index (map (λ t. 0) ts) r ≡ 0
zero_register [] r = refl
zero_register (t ∷ ts) zero = refl
zero_register (t ∷ ts) (suc r) = zero_register ts r

pub as_many_registers : (ts : List IntegerType) → length {A = ℕ} (map (λ t. 0) ts) ≡ length ts
as_many_registers [] = refl
as_many_registers (t ∷ ts) = omega (arith, as_many_registers ts)

pub front_sizes : (ys zs : List ℕ) (j : ℕ) → j < length ys → slice_index (ys ++ zs) j ≡ slice_index ys j
front_sizes [] zs j less = absurd (omega (arith, less))
front_sizes (y ∷ ys) zs zero less = refl
front_sizes (y ∷ ys) zs (suc j) less = front_sizes ys zs j (omega (arith, less))

-- the sizes of a frame among all
pub frame_sizes : (xs ys zs : List ℕ) (j : ℕ) → j < length ys → slice_index (xs ++ (ys ++ zs)) (length xs + j) ≡ slice_index ys j
frame_sizes [] ys zs j less = (λ i. slice_index (ys ++ zs) (none i)) ∙ front_sizes ys zs j less
  where
    none : length {A = ℕ} [] + j ≡ j
    none = omega arith
frame_sizes (x ∷ xs) ys zs j less =
    let one : length (x ∷ xs) + j ≡ suc (length xs + j) = omega arith in
    (λ i. slice_index (x ∷ (xs ++ (ys ++ zs))) (one i)) ∙ frame_sizes xs ys zs j less

pub fits_at : (functions : List Routine) (g : ℕ) (p : Routine) → routines_fit functions ≡ true → slice_get functions g ≡ Some p → routine_fits p ≡ true
fits_at [] g p fit found = absurd (cc)
fits_at (q ∷ functions) zero p fit found = let same : q ≡ p = cc in subst (λ (r : Routine). routine_fits r ≡ true) same (left_of _ _ fit)
fits_at (q ∷ functions) (suc g) p fit found = fits_at functions g p (right_of _ _ fit) found

extents_drop : (n : ℕ) (xs : Variables) (ys : List ℕ) → map length xs ≡ ys → map length (drop n xs) ≡ drop n ys
extents_drop zero xs ys same = same
extents_drop (suc n) [] [] same = refl
extents_drop (suc n) [] (y ∷ ys) same = absurd (cc)
extents_drop (suc n) (x ∷ xs) [] same = absurd (cc)
extents_drop (suc n) (x ∷ xs) (y ∷ ys) same = extents_drop n xs ys (cc)

block_behind : (n : ℕ) (xs : Variables) (j : ℕ) → block_of (drop n xs) j ≡ block_of xs (n + j)
block_behind zero xs j = let none : j ≡ 0 + j = omega arith in λ i. block_of xs (none i)
block_behind (suc n) [] j = refl
block_behind (suc n) (x ∷ xs) j = block_behind n xs j ∙ (let one : suc (n + j) ≡ suc n + j = omega arith in λ i. block_of (x ∷ xs) (one i))

-- ---- calls

module _ (all : List ℕ) (functions : List Routine) (limits : Limits) (fit : routines_fit functions ≡ true) where
  abbrev b : Bounded
  b = record { strict = false; functions = functions; limits = limits }

  -- this code does this where the caller's memory is as it has to be
  abbrev Does : (site : Site) (Holds : Memory → Type 0) → Memory → Piece → Behaviour → Type 0
  Does site Holds sm c behaviour =
      Within all c.space → (m : Memory) → Good all site.routine.registers site.routine.blocks site.register site.block Holds c.space m sm → begin c.code m ≡ behaviour

  -- what stands for calls does what they do, whoever calls
  abbrev pub Agree : Inline → Calls → Type 1
  Agree inline calls =
      (site : Site) (Holds : Memory → Type 0) (kept : (m m' : Memory) → Below site.register site.block m m' → Holds m → Holds m') (some : 1 ≤ site.register)
      (line f g first count into r : ℕ) (rest : List Instruction) (s : Space) (sm : Memory) (follows : Given → Behaviour)
      → first + count ≤ length site.routine.blocks → into < length site.routine.blocks → r < length site.routine.registers
      → site.register + length site.routine.registers ≤ length s.registers → site.block + length site.routine.blocks ≤ length s.blocks
      → ((given : Given) (m : Memory) → Good all site.routine.registers site.routine.blocks site.register site.block Holds s m (received sm into r given) → begin rest m ≡ follows given)
      → Does site Holds sm (inline site line f g first count into r rest s) (calls f g line (arguments_of sm.blocks first count) follows)

  -- a function that is there, called from a site
  module _ (inline : Inline) (calls : Calls) (agree : Agree inline calls) (grow : InlineGrows inline)
      (site : Site) (Holds : Memory → Type 0) (kept : (m m' : Memory) → Below site.register site.block m m' → Holds m → Holds m') (some : 1 ≤ site.register)
      (line f g first count into r : ℕ) (rest : List Instruction) (s : Space) (sm : Memory) (follows : Given → Behaviour)
      (arguments_there : first + count ≤ length site.routine.blocks) (into_there : into < length site.routine.blocks) (r_there : r < length site.routine.registers)
      (registers_within : site.register + length site.routine.registers ≤ length s.registers) (blocks_within : site.block + length site.routine.blocks ≤ length s.blocks)
      (behind : (given : Given) (m : Memory) → Good all site.routine.registers site.routine.blocks site.register site.block Holds s m (received sm into r given) → begin rest m ≡ follows given)
      (p : Routine) (p_fits : routine_fits p ≡ true) where
    abbrev GoodCaller : Space → Memory → Memory → Type 0
    GoodCaller t m m' = Good all site.routine.registers site.routine.blocks site.register site.block Holds t m m'

    abbrev callee : Site
    callee = record {
      routine = p;
      register = length s.registers;
      block = length s.blocks;
      hands = Some (record { block = site.block + into; size = slice_index site.routine.blocks into; register = site.register + r });
      back = length rest;
    }

    -- the caller's part of the memory is as it was at the call
    abbrev Held : Memory → Type 0
    Held m = GoodCaller s m sm

    held_kept : (m m' : Memory) → Below callee.register callee.block m m' → Held m → Held m'
    held_kept m m' below good = record {
      shows = record {
        registers = λ q less. below.registers (site.register + q) (omega (arith, less, registers_within)) ∙ good.shows.registers q less;
        count = good.shows.count;
        room = omega (arith, good.shows.room, below.count);
        blocks = λ v less. below.blocks (site.block + v) (omega (arith, less, blocks_within)) ∙ good.shows.blocks v less;
        extents = good.shows.extents;
        blocks_room = omega (arith, good.shows.blocks_room, below.blocks_count);
      };
      holds = kept m m' (record {
        registers = λ q less. below.registers q (omega (arith, less, registers_within));
        count = below.count;
        blocks = λ v less. below.blocks v (omega (arith, less, blocks_within));
        blocks_count = below.blocks_count;
      }) good.holds;
      clean = record {
        registers = λ q from less. below.registers q less ∙ good.clean.registers q from less;
        blocks = λ v from less. below.blocks v less ∙ good.clean.blocks v from less;
      };
      zero_there = below.registers 0 (omega (arith, some, registers_within)) ∙ good.zero_there;
      room = omega (arith, good.room, below.count);
      blocks_room = omega (arith, good.blocks_room, below.blocks_count);
    }

    abbrev GoodCallee : Space → Memory → Memory → Type 0
    GoodCallee t m m' = Good all p.registers p.blocks callee.register callee.block Held t m m'

    abbrev begun : Space
    begun = with_frame s p

    -- nothing is handed over
    none_over : (m : Memory) → Held m → GoodCaller s (with_register m (site.register + r) 0) (received sm into r None)
    none_over m held = good_does all site.routine.registers site.routine.blocks site.register site.block Holds kept some s m _ sm _ held
        (sets_register site.routine.registers site.routine.blocks site.register site.block r 0 m sm r_there held.shows)

    -- the bytes of a block are
    bytes_over : (m m' : Memory) (v : ℕ) → v < length p.blocks → GoodCallee begun m m'
        → GoodCaller s (with_register (with_blocks m (put_bytes m.blocks (site.block + into) 0 (bytes_of m.blocks (callee.block + v) 0 (min (slice_index site.routine.blocks into) (slice_index p.blocks v))))) (site.register + r) 1)
        (received sm into r (given_by m' (Some v)))
    bytes_over m m' v there good =
        let held = good.holds in
        let room : ℕ = slice_index site.routine.blocks into in
        let bytes : List ℕ = block_of m'.blocks v in
        let as_long : length bytes ≡ slice_index p.blocks v = block_size p.registers p.blocks callee.register callee.block m' v good.shows.extents in
        let old_size : length (block_of sm.blocks into) ≡ room = block_size site.routine.registers site.routine.blocks site.register site.block sm into held.shows.extents in
        let same : bytes_of m.blocks (callee.block + v) 0 (min room (slice_index p.blocks v)) ≡ take (length (block_of sm.blocks into)) bytes =
        (λ i. take (min room (slice_index p.blocks v)) (good.shows.blocks v there i)) ∙ take_least room (slice_index p.blocks v) bytes as_long ∙ (λ i. take (sym old_size i) bytes) in
        let few : length (take (length (block_of sm.blocks into)) bytes) ≤ length (block_of sm.blocks into) = short site.routine.registers site.routine.blocks site.register site.block (length (block_of sm.blocks into)) bytes in
        let put = puts site.routine.registers site.routine.blocks site.register site.block into 0 _ (take (length (block_of sm.blocks into)) bytes) m sm into_there (omega (arith, few, old_size)) held.shows same in
        let middle = good_does all site.routine.registers site.routine.blocks site.register site.block Holds kept some s m _ sm _ held put in
        good_does all site.routine.registers site.routine.blocks site.register site.block Holds kept some s _ _ _ _ middle
        (sets_register site.routine.registers site.routine.blocks site.register site.block r 1 _ _ r_there middle.shows)

    back : (code : List Instruction) (m : Memory) → InFront code rest → flat_meaning.at behaving (on code) (jump code callee.back) m ≡ begin rest m
    back code m front = from_end_front code rest (length rest) m front (omega arith) ∙ from_end_begin rest m

    handing : Hands all callee Held held_kept (omega (arith, some, registers_within)) calls follows inline functions limits rest begun
    handing at_line at_f None code front fits m m' good =
        back code (with_register m (site.register + r) 0) front ∙ behind None _ (none_over m good.holds)
    handing at_line at_f (Some v) code front fits m m' good =
        back code _ front ∙ behind (given_by m' (Some v)) _ (bytes_over m m' v (test_less v (length p.blocks) fits) good)

    abbrev body : Piece
    body = body_code b inline callee rest begun

    abbrev end : List Instruction
    end = hand_code callee p.line 0 None ++ rest

    abbrev arguments : List (List ℕ)
    arguments = arguments_of sm.blocks first count

    registers_in : (t : Space) → Extends begun t → callee.register + length p.registers ≤ length t.registers
    registers_in t e = omega (arith, register_room begun t e, length-append s.registers p.registers)

    blocks_in : (t : Space) → Extends begun t → callee.block + length p.blocks ≤ length t.blocks
    blocks_in t e = omega (arith, block_room begun t e, length-append s.blocks p.blocks)

    calling : Inlines all callee Held held_kept (omega (arith, some, registers_within)) calls follows inline functions limits begun
    calling line' f' g' first' count' into' r' code t m' follows' there into_in r_in extends inside next m good =
        agree callee Held held_kept (omega (arith, some, registers_within)) line' f' g' first' count' into' r' code t m' follows' there into_in r_in (registers_in t extends) (blocks_in t extends) next inside m good

    body_extends : Extends begun body.space
    body_extends = (nodes_grow b inline grow callee p.nodes (length end ∷ []) end begun).extends

    entered : Within all body.space → (m m' : Memory) → GoodCallee body.space m m' → begin body.code m ≡ does_nodes b (acting calls follows) p.nodes m'
    entered inside m m' good =
        let ending : from_end end (length end) ≡ (λ last. begin end last) = λ i last. from_end_begin end last i in
        let last : LeadAll all callee Held held_kept (omega (arith, some, registers_within)) calls follows inline functions limits end begun (length end ∷ []) ((λ last. follows None) ∷ []) =
        ((omega arith, λ m1 m2 good1. from_end_begin end m1 ∙ behind None _ (none_over m1 good1.holds)), tt) in
        let led =
        nodes_lead all callee Held held_kept (omega (arith, some, registers_within)) calls follows inline functions limits rest begun handing calling grow p.nodes (length end ∷ []) end begun ((λ last. follows None) ∷ []) 0
        p_fits (omega arith) last refl (some_front (hand_code callee p.line 0 None) rest rest (itself rest)) (same_space begun) inside in
        goes all callee Held held_kept (omega (arith, some, registers_within)) calls follows inline functions limits body.code body.space body.marks _ m m' led.0 led.1
        (omega (arith, places_count all callee Held held_kept (omega (arith, some, registers_within)) calls follows inline functions limits rest begun handing calling p.nodes ((λ last. follows None) ∷ []))) good

    call_does : Does site Holds sm (inlined b inline (Some p) site line f g first count into r rest s) (does_nodes b (acting calls follows) p.nodes (entry_memory p arguments))
    call_does inside m good =
        let frame = within_less all begun body.space body_extends inside in
        let all_are : all ≡ s.blocks ++ (p.blocks ++ frame.others) = frame.are ∙ append_assoc s.blocks p.blocks frame.others in
        let held : Held m = good_before all site.routine.registers site.routine.blocks site.register site.block Holds s body.space m sm
        (grows s body.space (then_space s begun body.space (with_frame_extends s p) body_extends) all site.routine.registers site.routine.blocks site.register site.block Holds) good in
        let registers_room = registers_in body.space body_extends in
        let blocks_room = blocks_in body.space body_extends in
        let size : length site.routine.blocks ≡ length sm.blocks = ap length (sym held.shows.extents) ∙ mapped sm.blocks in
        let copied : Copied (argument_code line f (drop first site.routine.blocks) (site.block + first) count p.blocks callee.block ++ body.code) body.code m callee.block p.blocks (with_arguments p.blocks arguments) =
        copies line f (drop first site.routine.blocks) (site.block + first) count p.blocks callee.block body.code m (drop first sm.blocks)
        (extents_drop first sm.blocks site.routine.blocks held.shows.extents)
        (omega (arith, length-drop first site.routine.blocks, arguments_there))
        (λ j less. let there : site.block + first + j ≡ site.block + (first + j) = omega arith in
        (λ i. block_of m.blocks (there i)) ∙ held.shows.blocks (first + j) (omega (arith, less, arguments_there)) ∙ sym (block_behind first sm.blocks j))
        (λ j less. good.clean.blocks (callee.block + j) (omega (arith, blocks_within)) (omega (arith, less, blocks_room))
        ∙ (λ i. zeros (slice_index (all_are i) (callee.block + j))) ∙ ap zeros (frame_sizes s.blocks p.blocks frame.others j less))
        (omega (arith, arguments_there, blocks_within)) (omega (arith, blocks_room, good.blocks_room)) in
        let same_register : (q : ℕ) → register copied.memory q ≡ register m q = λ q. ap (λ rs. slice_index rs q) copied.registers in
        let as_many : length copied.memory.registers ≡ length m.registers = ap length copied.registers in
        copied.same ∙ entered inside copied.memory (entry_memory p arguments) (record {
          shows = record {
            registers = λ q less. same_register (callee.register + q) ∙ good.clean.registers (callee.register + q) (omega (arith, registers_within)) (omega (arith, less, registers_room)) ∙ sym (zero_register p.registers q);
            count = as_many_registers p.registers;
            room = omega (arith, as_many, registers_room, good.room);
            blocks = copied.blocks_are;
            extents = entry_extents p.blocks arguments;
            blocks_room = omega (arith, copied.count, blocks_room, good.blocks_room);
          };
          holds = held_kept m copied.memory (record {
            registers = λ q less. same_register q;
            count = as_many;
            blocks = copied.before;
            blocks_count = copied.count;
          }) held;
          clean = record {
            registers = λ q from less. same_register q ∙ good.clean.registers q (omega (arith, from, registers_within)) less;
            blocks = λ v from less. copied.behind v from ∙ good.clean.blocks v (omega (arith, from, blocks_within)) less;
          };
          zero_there = same_register 0 ∙ good.zero_there;
          room = omega (arith, as_many, good.room);
          blocks_room = omega (arith, copied.count, good.blocks_room);
        })
      where
        mapped : (xs : Variables) → length (map length xs) ≡ length xs
        mapped [] = refl
        mapped (x ∷ xs) = omega (arith, mapped xs)

  option_does : (inline : Inline) (calls : Calls) → Agree inline calls → InlineGrows inline → (g : ℕ) (x : Option Routine) → slice_get functions g ≡ x
      → (site : Site) (Holds : Memory → Type 0) (kept : (m m' : Memory) → Below site.register site.block m m' → Holds m → Holds m') (some : 1 ≤ site.register)
      (line f first count into r : ℕ) (rest : List Instruction) (s : Space) (sm : Memory) (follows : Given → Behaviour)
      → first + count ≤ length site.routine.blocks → into < length site.routine.blocks → r < length site.routine.registers
      → site.register + length site.routine.registers ≤ length s.registers → site.block + length site.routine.blocks ≤ length s.blocks
      → ((given : Given) (m : Memory) → Good all site.routine.registers site.routine.blocks site.register site.block Holds s m (received sm into r given) → begin rest m ≡ follows given)
      → Does site Holds sm (inlined b inline x site line f g first count into r rest s) (enters b x calls (arguments_of sm.blocks first count) follows)
  option_does inline calls agree grow g None found site Holds kept some line f first count into r rest s sm follows h1 h2 h3 h4 h5 behind inside m good =
      λ i. if good.zero_there i == 0 then final Blocked else flat_meaning.at behaving (on rest) 0 m
  option_does inline calls agree grow g (Some p) found site Holds kept some line f first count into r rest s sm follows h1 h2 h3 h4 h5 behind inside m good =
      call_does inline calls agree grow site Holds kept some line f g first count into r rest s sm follows h1 h2 h3 h4 h5 behind p (fits_at functions g p fit found) inside m good

  by_test : (z : Bool) (site : Site) (Holds : Memory → Type 0) (sm : Memory) (c d : Piece) (x y : Behaviour) → Does site Holds sm c x → Does site Holds sm d y → Does site Holds sm (if z then c else d) (if z then x else y)
  by_test true site Holds sm c d x y first second = first
  by_test false site Holds sm c d x y first second = second

  pub calls_agree : (fuel : ℕ) (left : List ℕ) → Agree (inline_at b fuel left) (activation b fuel left)
  calls_agree zero left site Holds kept some line f g first count into r rest s sm follows h1 h2 h3 h4 h5 behind = λ inside m good. passing limits.assertions Recursion line f rest m good.zero_there
  calls_agree (suc fuel) left site Holds kept some line f g first count into r rest s sm follows h1 h2 h3 h4 h5 behind =
      by_test (slice_index left g == 0) site Holds sm _ _ _ _ (λ inside m good. passing limits.assertions Recursion line f rest m good.zero_there)
      (option_does (inline_at b fuel (opened left g)) (activation b fuel (opened left g)) (calls_agree fuel (opened left g)) (inline_grows b fuel (opened left g)) g (slice_get functions g) refl
      site Holds kept some line f first count into r rest s sm follows h1 h2 h3 h4 h5 behind)
