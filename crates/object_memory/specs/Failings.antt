-- The classes that an access may break, each with a node, in the order in which they are told.
use Rattle.std.specs.Prelude.{ℕ, Bool, List, [], ◌∷◌, Option, Some, None, Result, Ok, Err, if◌then◌else◌}
use Rattle.words.specs.declared.check.Class.{Class}
use Rattle.words.specs.declared.check.Class.TheVariants.{Pointer}
use Rattle.word_dag.specs.declared.nodes.Node.{Node}
use Rattle.word_dag.specs.Meaning.{value, holds}
use Rattle.value_nodes.specs.Values.{IsWord}
use Rattle.object_memory.specs.declared.places.Failing.{Failing}

abbrev pub FailingIn : List Node → Failing → Type 0
FailingIn d f = IsWord d f.test 1

-- the first of these classes whose node is true
abbrev pub first_class : (ℕ → ℕ) → List Node → List Failing → Option Class
first_class v d [] = None
first_class v d (f ∷ failings) = if holds (value v d f.test) then Some f.class else first_class v d failings

-- the first class, or else the second
abbrev pub class_or : Option Class → Option Class → Option Class
class_or None second = second
class_or (Some class) second = Some class

-- a class, where this is so
abbrev pub class_if : Bool → Class → Option Class
class_if b class = if b then Some class else None

-- the class that a look breaks: where it isn't for a subscript, that of a pointer sum (C11 6.5.6p8)
abbrev pub look_class : Bool → Result ℕ Class → Option Class
look_class subscript (Ok size) = None
look_class subscript (Err class) = Some (if subscript then class else Pointer)
