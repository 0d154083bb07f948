-- Code with the meanings of other places behind it, and what it keeps of the registers below one.
use Rattle.std.proofs.Common.{◌≡◌, ◌≢◌, ℕ, suc, ◌+◌, ◌<◌, ◌≤◌, Bool, true, false, map, List, [], ◌∷◌, ◌++◌, length, Option, Some, None, refl, sym, ap, ◌∙◌, arith}
use Rattle.std.specs.Prelude.{if◌then◌else◌}
use Rattle.std.proofs.Math.Seq.{map-set_same}
use Rattle.std.proofs.lemmas.List.{get_or-set_same, get_or-set_other, length-set, length-replicate}
use Rattle.words.specs.declared.check.Class.{Class}
use Rattle.actions.specs.declared.action.Action.{Action}
use Rattle.actions.specs.declared.action.Answer.{Answer}
use Rattle.actions.specs.declared.action.Next.{Next}
use Rattle.actions.specs.declared.action.Next.TheVariants.{Blocked}
use Rattle.actions.specs.Behaviour.{Behaviour, shape_of, has_shape}
use Rattle.c_meaning.specs.Meaning as source
use Rattle.c_meaning.specs.Meaning.{Running}
use Rattle.goto_prog.specs.declared.code.Instruction.{Instruction}
use Rattle.c_values.specs.Variables.{block_of, put_at, put_bytes, zeros, cleared}
use Rattle.goto_prog.specs.Meaning.{Memory, Given, Reading, register, with_register, with_blocks, at, or_else, operates}
use Rattle.core_tree.specs.Ranges.{Limits}
use Rattle.goto_prog.specs.Structured.{resolved}
use Rattle.goto_prog.specs.Threads.{Calls, acting, final, ask}
use Rattle.lowered_code.proofs.BlockBytes.{put_size, put_within}

abbrev pub Places : Type 0
Places = List (Memory → Behaviour)

-- over the bounds, what calls do, and what becomes of what the function hands over
module _ (limits : Limits) (calls : Calls) (hands : Given → Behaviour) where
  abbrev here : Reading Behaviour
  here = acting calls hands

  -- what is done from the first of these places
  abbrev pub begin_in : Places → Memory → Behaviour
  begin_in ps m = at here ps 0 m

  -- strict code with these places behind it
  abbrev pub on_in : List Instruction → Places → Places
  on_in [] rest = rest
  on_in (i ∷ code) rest = operates here true 0 i.line i.function (resolved limits i.operation) (on_in code rest) ∷ on_in code rest

  pub on-append : (xs ys : List Instruction) (rest : Places) → on_in (xs ++ ys) rest ≡ on_in xs (on_in ys rest)
  on-append [] ys rest = refl
  on-append (i ∷ xs) ys rest = λ k. operates here true 0 i.line i.function (resolved limits i.operation) (on-append xs ys rest k) ∷ on-append xs ys rest k

  -- a jump over code
  pub at-behind : (xs : List Instruction) (rest : Places) (j : ℕ) (m : Memory) → at here (on_in xs rest) (length xs + j) m ≡ at here rest j m
  at-behind [] rest j m = let none : length {A = Instruction} [] + j ≡ j = omega arith in ap (λ n. at here rest n m) none
  at-behind (i ∷ xs) rest j m =
      let one : length (i ∷ xs) + j ≡ suc (length xs + j) = omega arith in
      ap (λ n. at here (on_in (i ∷ xs) rest) n m) one ∙ at-behind xs rest j m

-- ---- memories

pub set_same : (m : Memory) (r x : ℕ) → r < length m.registers → register (with_register m r x) r ≡ x
set_same m r x lt = get_or-set_same m.registers r x 0 lt

pub set_other : (m : Memory) (r x s : ℕ) → s ≢ r → register (with_register m r x) s ≡ register m s
set_other m r x s other = get_or-set_other m.registers r s x 0 other

pub set_room : (m : Memory) (r x : ℕ) → length (with_register m r x).registers ≡ length m.registers
set_room m r x = length-set m.registers r x

-- a block with bytes put at an offset
abbrev pub written : Memory → ℕ → ℕ → List ℕ → Memory
written m b offset new = with_blocks m (put_bytes m.blocks b offset new)

written_sizes : (m : Memory) (b offset : ℕ) (new : List ℕ) → offset + length new ≤ length (block_of m.blocks b) → map length (written m b offset new).blocks ≡ map length m.blocks
written_sizes m b offset new fits = map-set_same length m.blocks b (put_at offset new (block_of m.blocks b)) [] (put_size offset new (block_of m.blocks b) fits)

pub written_other : (m : Memory) (b offset i : ℕ) (new : List ℕ) → i ≢ b → block_of (written m b offset new).blocks i ≡ block_of m.blocks i
written_other m b offset i new other = get_or-set_other m.blocks b i (put_at offset new (block_of m.blocks b)) [] other

written_same : (m : Memory) (b offset : ℕ) (new : List ℕ) → b < length m.blocks → block_of (written m b offset new).blocks b ≡ put_at offset new (block_of m.blocks b)
written_same m b offset new lt = get_or-set_same m.blocks b (put_at offset new (block_of m.blocks b)) [] lt

-- over so many variables, which are the first blocks
module _ (z : ℕ) where
  -- the registers below n and the blocks below d behind the variables are as they were, and all are as many and as large
  pub record Kept (d n : ℕ) (old new : Memory) : Type 0 where
    pub below : (r : ℕ) → r < n → register new r ≡ register old r
    pub room : length new.registers ≡ length old.registers
    pub sizes : map length new.blocks ≡ map length old.blocks
    pub held : (i : ℕ) → z ≤ i → i < d → block_of new.blocks i ≡ block_of old.blocks i

  -- the same but for one block, which has got bytes at an offset
  pub record Filled (d n into to : ℕ) (value : List ℕ) (old new : Memory) : Type 0 where
    pub below : (r : ℕ) → r < n → register new r ≡ register old r
    pub room : length new.registers ≡ length old.registers
    pub sizes : map length new.blocks ≡ map length old.blocks
    pub held : (i : ℕ) → z ≤ i → i < d → i ≢ into → block_of new.blocks i ≡ block_of old.blocks i
    pub filled : block_of new.blocks into ≡ put_at to value (block_of old.blocks into)

  pub kept-refl : (d n : ℕ) (m : Memory) → Kept d n m m
  kept-refl d n m = record { below = λ r lt. refl; room = refl; sizes = refl; held = λ i from lt. refl }

  pub kept-then : (d n k : ℕ) (a b c : Memory) → n ≤ k → Kept d n a b → Kept d k b c → Kept d n a c
  kept-then d n k a b c above first second = record {
    below = λ r lt. second.below r (omega (arith, lt, above)) ∙ first.below r lt;
    room = second.room ∙ first.room;
    sizes = second.sizes ∙ first.sizes;
    held = λ i from lt. second.held i from lt ∙ first.held i from lt;
  }

  pub kept-set : (d n r : ℕ) (m : Memory) (x : ℕ) → n ≤ r → Kept d n m (with_register m r x)
  kept-set d n r m x above = record {
    below = λ s lt. set_other m r x s (λ e. omega (arith, lt, above, e));
    room = set_room m r x;
    sizes = refl;
    held = λ i from lt. refl;
  }

  -- a variable is written
  pub kept-write : (d n v offset : ℕ) (new : List ℕ) (old m : Memory) → v < z → offset + length new ≤ length (block_of m.blocks v) → Kept d n old m → Kept d n old (written m v offset new)
  kept-write d n v offset new old m variable fits kept = record {
    below = kept.below;
    room = kept.room;
    sizes = written_sizes m v offset new fits ∙ kept.sizes;
    held = λ i from lt. written_other m v offset i new (λ e. omega (arith, e, from, variable)) ∙ kept.held i from lt;
  }

  -- each byte of a variable gets 0
  pub kept-clear : (d n v size : ℕ) (old m : Memory) → v < z → length (block_of m.blocks v) ≡ size → Kept d n old m → Kept d n old (with_blocks m (cleared m.blocks v size))
  kept-clear d n v size old m variable long kept = record {
    below = kept.below;
    room = kept.room;
    sizes = map-set_same length m.blocks v (zeros size) [] (length-replicate size 0 ∙ sym long) ∙ kept.sizes;
    held = λ i from lt. get_or-set_other m.blocks v i (zeros size) [] (λ e. omega (arith, e, from, variable)) ∙ kept.held i from lt;
  }

  pub filled-write : (d n into to v offset : ℕ) (value new : List ℕ) (old m : Memory) → v < z → z ≤ into → offset + length new ≤ length (block_of m.blocks v) → Filled d n into to value old m → Filled d n into to value old (written m v offset new)
  filled-write d n into to v offset value new old m variable behind fits filled = record {
    below = filled.below;
    room = filled.room;
    sizes = written_sizes m v offset new fits ∙ filled.sizes;
    held = λ i from lt other. written_other m v offset i new (λ e. omega (arith, e, from, variable)) ∙ filled.held i from lt other;
    filled = written_other m v offset into new (λ e. omega (arith, e, behind, variable)) ∙ filled.filled;
  }

  -- bytes that are put there
  pub filled-put : (d n into to : ℕ) (value : List ℕ) (m : Memory) → into < length m.blocks → to + length value ≤ length (block_of m.blocks into) → Filled d n into to value m (written m into to value)
  filled-put d n into to value m there fits = record {
    below = λ r lt. refl;
    room = refl;
    sizes = written_sizes m into to value fits;
    held = λ i from lt other. written_other m into to i value other;
    filled = written_same m into to value there;
  }

  pub kept-filled : (d n k into to : ℕ) (value : List ℕ) (a b c : Memory) → n ≤ k → z ≤ into → into < d → Kept d n a b → Filled d k into to value b c → Filled d n into to value a c
  kept-filled d n k into to value a b c above behind free kept filled = record {
    below = λ r lt. filled.below r (omega (arith, lt, above)) ∙ kept.below r lt;
    room = filled.room ∙ kept.room;
    sizes = filled.sizes ∙ kept.sizes;
    held = λ i from lt other. filled.held i from lt other ∙ kept.held i from lt;
    filled = filled.filled ∙ ap (put_at to value) (kept.held into behind free);
  }

  -- what stands in a block that is free doesn't count
  pub filled-kept : (d n to : ℕ) (value : List ℕ) (a b : Memory) → Filled (d + 1) n d to value a b → Kept d n a b
  filled-kept d n to value a b filled = record {
    below = filled.below;
    room = filled.room;
    sizes = filled.sizes;
    held = λ i from lt. filled.held i from (omega (arith, lt)) (λ e. omega (arith, lt, e));
  }

  -- bytes within bytes that were put
  pub filled-within : (d n k into to o : ℕ) (block value : List ℕ) (a b c : Memory) → n ≤ k → o + length value ≤ length block → to + length block ≤ length (block_of a.blocks into)
      → Filled d n into to block a b → Filled d k into (to + o) value b c → Filled d n into to (put_at o value block) a c
  filled-within d n k into to o block value a b c above fits room first second = record {
    below = λ r lt. second.below r (omega (arith, lt, above)) ∙ first.below r lt;
    room = second.room ∙ first.room;
    sizes = second.sizes ∙ first.sizes;
    held = λ i from lt other. second.held i from lt other ∙ first.held i from lt other;
    filled = second.filled ∙ ap (put_at (to + o) value) first.filled ∙ put_within to o value block (block_of a.blocks into) fits room;
  }

  -- a block behind the free ones is written
  pub kept-behind : (d n b offset : ℕ) (new : List ℕ) (old m : Memory) → d ≤ b → offset + length new ≤ length (block_of m.blocks b) → Kept d n old m → Kept d n old (written m b offset new)
  kept-behind d n b offset new old m behind fits kept = record {
    below = kept.below;
    room = kept.room;
    sizes = written_sizes m b offset new fits ∙ kept.sizes;
    held = λ i from lt. written_other m b offset i new (λ e. omega (arith, e, lt, behind)) ∙ kept.held i from lt;
  }

  -- each byte of it gets 0
  pub kept-cleared : (d n b size : ℕ) (old m : Memory) → d ≤ b → length (block_of m.blocks b) ≡ size → Kept d n old m → Kept d n old (with_blocks m (cleared m.blocks b size))
  kept-cleared d n b size old m behind long kept = record {
    below = kept.below;
    room = kept.room;
    sizes = map-set_same length m.blocks b (zeros size) [] (length-replicate size 0 ∙ sym long) ∙ kept.sizes;
    held = λ i from lt. get_or-set_other m.blocks b i (zeros size) [] (λ e. omega (arith, e, lt, behind)) ∙ kept.held i from lt;
  }

-- ---- endings and actions of the two meanings are the same

final_at : (n : Next) (answers : List Answer) → final n answers ≡ source.final n answers
final_at n [] = refl
final_at n (a ∷ answers) = refl

pub same_final : (n : Next) → final n ≡ source.final n
same_final n = λ i answers. final_at n answers i

ask_at : (running : Running) (action : Action) (line : ℕ) (x y : Answer → Behaviour) → x ≡ y → (answers : List Answer) → ask action line running.function x answers ≡ source.ask running action line y answers
ask_at running action line x y same [] = refl
ask_at running action line x y same (a ∷ answers) = λ i. if has_shape (shape_of action) a then same i a answers else source.final Blocked (a ∷ answers)

pub same_ask : (running : Running) (action : Action) (line : ℕ) (x y : Answer → Behaviour) → x ≡ y → ask action line running.function x ≡ source.ask running action line y
same_ask running action line x y same = λ i answers. ask_at running action line x y same answers i

if_so : {A : Type 0} (b : Bool) (x y other : A) → (b ≡ true → x ≡ y) → (if b then x else other) ≡ (if b then y else other)
if_so true x y other same = same refl
if_so false x y other same = refl

ask_when_at : (running : Running) (action : Action) (line : ℕ) (x y : Answer → Behaviour) → ((a : Answer) → has_shape (shape_of action) a ≡ true → x a ≡ y a) → (answers : List Answer) → ask action line running.function x answers ≡ source.ask running action line y answers
ask_when_at running action line x y same [] = refl
ask_when_at running action line x y same (a ∷ answers) = if_so (has_shape (shape_of action) a) (x a answers) (y a answers) Blocked (λ h. ap (λ (b : Behaviour). b answers) (same a h))

-- where the same follows each answer of the action's shape
pub same_ask_when : (running : Running) (action : Action) (line : ℕ) (x y : Answer → Behaviour) → ((a : Answer) → has_shape (shape_of action) a ≡ true → x a ≡ y a) → ask action line running.function x ≡ source.ask running action line y
same_ask_when running action line x y same = λ i answers. ask_when_at running action line x y same answers i

pub same_check : (calls : Calls) (hands : Given → Behaviour) (running : Running) (c : Option Class) (line : ℕ) (x y : Behaviour) → x ≡ y → or_else (acting calls hands) c line running.function x ≡ source.unless_broken running c line y
same_check calls hands running None line x y same = same
same_check calls hands running (Some c) line x y same = same_final _
