-- The bytes that events have written, as nodes: under a valuation, the store that they stand for.
use Rattle.std.specs.Prelude.{◌≡◌, ◌^◌, ℕ, suc, ◌==◌, nat_lt, List, [], ◌∷◌, Option, Some, None, IfSome, option_map, if◌then◌else◌}
use Rattle.std.specs.Ordering.{nat_cmp}
use Rattle.std.specs.BTreeMap as tree
use Rattle.c_values.specs.Variables.{pointer_to}
use Rattle.actions.specs.StoredObject.{StoredObject}
use Rattle.actions.specs.Objects.{Objects, object_at}
use Rattle.word_dag.specs.declared.nodes.Id.{Id}
use Rattle.word_dag.specs.declared.nodes.Node.{Node}
use Rattle.word_dag.specs.Meaning.{value}
use Rattle.value_nodes.specs.Values.{IsWord}
use Rattle.mem_seq.specs.declared.memory.Memory.{Memory}

-- the nodes of bytes, by the pointers to them
abbrev pub Written : Type 0
Written = ℕ → Option Id

-- these nodes, for the bytes from a pointer on
abbrev pub put_from : ℕ → List Id → Written → Written
put_from p [] written q = written q
put_from p (i ∷ ids) written q = put_from (suc p) ids (λ r. if p == r then Some i else written r) q

-- ---- under a valuation

-- the node's value, where there is one
abbrev pub value_or : (ℕ → ℕ) → List Node → Option Id → ℕ → ℕ
value_or v d None b = b
value_or v d (Some i) b = value v d i

-- byte j of object k, which is b in the store
abbrev pub byte_of : (ℕ → ℕ) → List Node → Written → (k j b : ℕ) → ℕ
byte_of v d written k j b = if nat_lt j (2 ^ 32) then value_or v d (written (pointer_to k j)) b else b

-- each of these bytes changed by f, which is told its place; the first has the place j
abbrev pub bytes_by : (ℕ → ℕ → ℕ) → ℕ → List ℕ → List ℕ
bytes_by f j [] = []
bytes_by f j (b ∷ bytes) = f j b ∷ bytes_by f (suc j) bytes

-- object k, with what was written
abbrev pub with_written : (ℕ → ℕ) → List Node → Written → ℕ → StoredObject → StoredObject
with_written v d written k o = record o { bytes = bytes_by (byte_of v d written k) 0 o.bytes }

-- the objects are those of the store, with what was written
abbrev pub AreWith : (ℕ → ℕ) → List Node → Written → (store objects : Objects) → Type 0
AreWith v d written store objects = (k : ℕ) → object_at objects k ≡ option_map (with_written v d written k) (object_at store k)

-- ---- a memory

abbrev pub written_in : Memory → Written
written_in m p = tree.get nat_cmp m.written p

abbrev pub StandsFor : (ℕ → ℕ) → List Node → Memory → Objects → Type 0
StandsFor v d m objects = AreWith v d (written_in m) m.store.now objects

-- each node is one of the graph, of 8 bits
abbrev pub AreIn : List Node → Written → Type 0
AreIn d written = (p : ℕ) → IfSome (written p) (λ (i : Id). IsWord d i 8)

abbrev pub MemoryIn : List Node → Memory → Type 0
MemoryIn d m = AreIn d (written_in m)
