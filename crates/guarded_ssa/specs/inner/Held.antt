-- What the nodes of a slot hold under a valuation.
use Rattle.std.specs.Prelude.{◌≡◌, ◌+◌, length, ℕ, zero, suc, true, List, [], ◌∷◌, ◌++◌, Option, Some, None, map, take, drop, replicate, All, if◌then◌else◌}
use Rattle.c_types.specs.declared.integers.IntegerType.{IntegerType}
use Rattle.c_types.specs.declared.integers.IntegerType.TheVariants as types
use Rattle.c_values.specs.Variables.{Variables}
use Rattle.word_dag.specs.declared.nodes.Node.{Node}
use Rattle.word_dag.specs.Meaning.{value, holds}
use Rattle.value_nodes.specs.Values.{IsWord}
use Rattle.cell_trees.specs.Trees.{Arena, looked, Keeps}
use Rattle.goto_prog.specs.Meaning.{Memory}
use Rattle.goto_prog.specs.CodeThread.{Listing}
use Rattle.guarded_ssa.specs.declared.liveness.Plan.{Plan}
use Rattle.guarded_ssa.specs.declared.slots.Slot.{Slot}
use Rattle.event_forms.specs.declared.forms.Event.{Event}
use Rattle.guarded_ssa.specs.declared.pass.Pass.{Pass}
use Rattle.goto_prog.specs.declared.code.Operation.{Operation}
use Rattle.goto_prog.specs.declared.code.Instruction.{Instruction}
use Rattle.guarded_ssa.specs.inner.Answers.{variables_of}
use Rattle.guarded_ssa.specs.inner.Places.{arrived, on, tells, leaves, told}
use Rattle.guarded_ssa.specs.inner.Reads.{AllAlike, Covers}
use Rattle.guarded_ssa.specs.inner.Registers.{ZerosIn, TreeIn, words_from, bytes_from}
use Rattle.goto_prog.specs.Static.{is_static}
use Rattle.event_forms.specs.Forms.{FormIn, IsStaticKind, AreStatic, event_seen, seen}

-- how many bytes blocks of these sizes have
abbrev pub total : List ℕ → ℕ
total [] = 0
total (n ∷ sizes) = n + total sizes

-- the types of the cells: the registers, and then the bytes of the blocks, one block behind the other
abbrev pub cells : Listing → List IntegerType
cells code = code.registers ++ replicate (total code.blocks) types.Char

-- the blocks of these sizes, whose bytes stand one block behind the other
abbrev pub stored : List ℕ → List ℕ → Variables
stored [] bytes = []
stored (n ∷ sizes) bytes = take n bytes ∷ stored sizes (drop n bytes)

-- where each block begins, the first of them at this place
abbrev pub starts_from : ℕ → List ℕ → List ℕ
starts_from place [] = []
starts_from place (n ∷ sizes) = place ∷ starts_from (place + n) sizes

-- ---- the registers and blocks, numbered: the registers first, then the blocks

-- so many numbers, from this one on
abbrev pub counted : ℕ → ℕ → List ℕ
counted k zero = []
counted k (suc n) = k ∷ counted (suc k) n

-- for each byte of blocks of these sizes the number of its block, where the first block has this number
abbrev pub owners_from : ℕ → List ℕ → List ℕ
owners_from k [] = []
owners_from k (n ∷ sizes) = replicate n k ++ owners_from (suc k) sizes

-- for each cell the number of the register that it is, or of the block that it is a byte of
abbrev pub owners : Listing → List ℕ
owners code = counted 0 (length code.registers) ++ owners_from (length code.registers) code.blocks

pub record IsPlan (p : Plan) : Type 0 where
  pub until : length p.until.items ≡ length p.code.now.registers + length p.code.now.blocks
  pub types : p.types.items ≡ cells p.code.now
  pub starts : p.starts.items ≡ starts_from (length p.code.now.registers) p.code.now.blocks
  pub owner : p.owner.items ≡ owners p.code.now

-- ---- slots

module _ (v : ℕ → ℕ) (d : List Node) (t : Arena) (code : Listing) where
  abbrev pub held : Slot → Memory
  held s = record {
    registers = words_from (value v d) (looked t s.root) 0 code.registers;
    blocks = stored code.blocks (bytes_from (value v d) (looked t s.root) (length code.registers) (total code.blocks));
  }

  -- the memory with which the slot is reached, if it is
  abbrev pub guarded : Slot → Option Memory
  guarded s = if holds (value v d s.guard) then Some (held s) else None

  abbrev pub arrival : Option Slot → Option Memory
  arrival None = None
  arrival (Some s) = guarded s

  abbrev pub arrivals : List (Option Slot) → List (Option Memory)
  arrivals pending = map arrival pending

pub record SlotIn (d : List Node) (t : Arena) (code : Listing) (s : Slot) : Type 0 where
  pub guard : IsWord d s.guard 1
  pub zeros : ZerosIn d s.zeros
  pub tree : TreeIn d t (cells code) s.root

abbrev pub PendingIn : List Node → Arena → Listing → Option Slot → Type 0
PendingIn d t code None = Unit {0}
PendingIn d t code (Some s) = SlotIn d t code s

-- ---- a pass over code

pub record PassIn (d : List Node) (code : Listing) (p : Pass) : Type 0 where
  pub events : FormIn d p.events.items
  pub pending : All (PendingIn d p.trees code) p.pending.items

-- a slot has arrived n places behind the next
pub record Arrives (until : List ℕ) (code : Listing) (place n : ℕ) (s : Slot) (d e : List Node) (p q : Pass) : Type 0 where
  pub within : PassIn e code q
  pub keeps : Keeps p.trees q.trees
  pub size : length q.pending.items ≡ length p.pending.items
  pub told : q.events.items ≡ p.events.items
  pub leads : (v : ℕ → ℕ) → AllAlike (length code.registers) until (suc place) (arrivals v e q.trees code q.pending.items) (arrived n (guarded v d p.trees code s) (arrivals v d p.trees code p.pending.items))

-- an event is told, and a slot has arrived at the next place
pub record Tells (until : List ℕ) (code : Listing) (place : ℕ) (event : Event) (s : Slot) (d e : List Node) (p q : Pass) : Type 0 where
  pub within : PassIn e code q
  pub size : length q.pending.items ≡ length p.pending.items
  pub static : IsStaticKind d event.kind → AreStatic d p.events.items → AreStatic e q.events.items
  pub told : (v : ℕ → ℕ) → seen v e q.events.items ≡ seen v d p.events.items ++ event_seen v d event
  pub leads : (v : ℕ → ℕ) → AllAlike (length code.registers) until (suc place) (arrivals v e q.trees code q.pending.items) (arrived 0 (guarded v d p.trees code s) (arrivals v d p.trees code p.pending.items))

-- an operation reached with a slot has told its events, by the variables from one on, and has led to other places
pub record Passes (until : List ℕ) (code : Listing) (place variable line function : ℕ) (o : Operation) (s : Slot) (d e : List Node) (p q : Pass) : Type 0 where
  pub within : PassIn e code q
  pub size : length q.pending.items ≡ length p.pending.items
  pub static : is_static o ≡ true → AreStatic d p.events.items → AreStatic e q.events.items
  pub told : (v : ℕ → ℕ) → seen v e q.events.items ≡ seen v d p.events.items ++ on (guarded v d p.trees code s) (tells v variable line function o)
  pub leads : (v : ℕ → ℕ) → AllAlike (length code.registers) until (suc place) (arrivals v e q.trees code q.pending.items) (leaves v variable o (guarded v d p.trees code s) (arrivals v d p.trees code p.pending.items))

-- an instruction has been passed over: what the events and the rest of the code tell is the same as before it
pub record Visits (until : List ℕ) (code : Listing) (place variable : ℕ) (i : Instruction) (d e : List Node) (p q : Pass) : Type 0 where
  pub within : PassIn e code q
  pub size : suc (length q.pending.items) ≡ length p.pending.items
  pub static : is_static i.operation ≡ true → AreStatic d p.events.items → AreStatic e q.events.items
  pub goes : (v : ℕ → ℕ) (rest : List Instruction) → Covers (length code.registers) until (suc place) rest
      → seen v e q.events.items ++ told v code.blocks (variable + variables_of code.blocks i.operation) rest (arrivals v e q.trees code q.pending.items) ≡ seen v d p.events.items ++ told v code.blocks variable (i ∷ rest) (arrivals v d p.trees code p.pending.items)
