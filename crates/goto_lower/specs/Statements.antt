-- What first values and statements add to a function's code: that of statements, which are nodes, grows in front of them.
use Rattle.std.specs.Prelude.{◌≡◌, ℕ, zero, suc, ◌+◌, List, [], ◌∷◌, ◌++◌, replicate, reverse, ◌||◌, Option, Some, None, is_some, if◌then◌else◌}
use Rattle.c_types.specs.declared.integers.IntegerType.{IntegerType}
use Rattle.c_types.specs.declared.integers.IntegerType.TheVariants.{Int, UnsignedLong}
use Rattle.core_tree.specs.declared.functions.Variable.{Variable}
use Rattle.core_tree.specs.declared.operators.ArithmeticOperator.TheVariants as arithmetics
use Rattle.core_tree.specs.declared.operators.Comparison.TheVariants as comparisons
use Rattle.core_tree.specs.Trees.{Statement, Items, done, declares, initializes, initializes_structure, does, label, case_at, default_at}
use Rattle.goto_prog.specs.declared.code.Operation.TheVariants as operations
use Rattle.goto_prog.specs.declared.code.Operation.TheVariants.{SkipIfZero}
use Rattle.goto_prog.specs.declared.code.Instruction.{Instruction}
use Rattle.goto_prog.specs.Nodes.{Nodes, plain, node_count}
use Rattle.c_temporaries.specs.Accesses.{home_in}
use Rattle.code_draft.specs.declared.places.Mark.{Mark}
use Rattle.code_draft.specs.declared.places.Mark.TheVariants as marks
use Rattle.code_draft.specs.Drafts.{Listed, next, added, place_of, deaths_of, deaths_to}
use Rattle.goto_lower.specs.declared.exits.Exits.{Exits}
use Rattle.goto_lower.specs.declared.exits.CasePlace.{CasePlace}
use Rattle.goto_lower.specs.declared.exits.Cases.{Cases}
use Rattle.lowered_code.specs.Lowering.{Frame, Ways, at_line, to_place, words_code, entry_code, parameters_code, home_registers, parameters_registers, death_registers, leaving, leave_code, plains, declares_none, case_registers, case_tests, guarded, items_code, statement_code}
use Rattle.lowered_code.specs.Registers.{death_types, entry_types, items_types, statement_types, parameters_types}

-- ---- first values

-- so many drawn words of a variable, from an offset on
abbrev pub after_words : Listed → (words line v offset : ℕ) → Listed
after_words d words line v offset = added d (words_code d.frame words line v offset (next d)) (replicate words UnsignedLong)

abbrev pub after_entry : Listed → Items → Listed
after_entry d items = added d (entry_code d.frame items (next d)) (entry_types d.frame.variables items)

-- of the object of a variable
abbrev pub home_types : List Variable → ℕ → List IntegerType
home_types variables v = replicate (home_registers variables (home_in variables v)) UnsignedLong

-- the objects of so many parameters from a number on are made
abbrev pub after_parameters : Listed → (line count v : ℕ) → Listed
after_parameters d line count v = added d (parameters_code d.frame line count v (next d)) (replicate (parameters_registers d.frame.variables count v) UnsignedLong)

-- ---- objects that live

-- that of a variable, where it has an address
abbrev pub alive_one : (line : ℕ) → Option ℕ → List Mark → List Mark
alive_one line None ms = ms
alive_one line (Some h) ms = marks.Alive line h ∷ ms

abbrev pub count_one : Option ℕ → ℕ
count_one None = 0
count_one (Some h) = 1

module _ (variables : List Variable) where
  -- those of a block's own variables, the last of them first
  abbrev pub alive : Items → List Mark → List Mark
  alive done ms = ms
  alive (declares line v rest) ms = alive rest (alive_one line (home_in variables v) ms)
  alive (initializes line v drawn e rest) ms = alive rest (alive_one line (home_in variables v) ms)
  alive (initializes_structure line v drawn a rest) ms = alive rest (alive_one line (home_in variables v) ms)
  alive (does s rest) ms = alive rest ms
  alive (label l rest) ms = alive rest ms
  alive (case_at line t bits rest) ms = alive rest ms
  alive (default_at line rest) ms = alive rest ms

  -- how many they are
  abbrev pub alive_count : Items → ℕ
  alive_count done = 0
  alive_count (declares line v rest) = alive_count rest + count_one (home_in variables v)
  alive_count (initializes line v drawn e rest) = alive_count rest + count_one (home_in variables v)
  alive_count (initializes_structure line v drawn a rest) = alive_count rest + count_one (home_in variables v)
  alive_count (does s rest) = alive_count rest
  alive_count (label l rest) = alive_count rest
  alive_count (case_at line t bits rest) = alive_count rest
  alive_count (default_at line rest) = alive_count rest

  -- those of so many parameters from a number on
  abbrev pub parameters_alive : (line count v : ℕ) → List Mark → List Mark
  parameters_alive line zero v ms = ms
  parameters_alive line (suc count) v ms = parameters_alive line count (suc v) (alive_one line (home_in variables v) ms)

  abbrev pub parameter_count : (count v : ℕ) → ℕ
  parameter_count zero v = 0
  parameter_count (suc count) v = parameter_count count (suc v) + count_one (home_in variables v)

abbrev pub living_one : Listed → (line v : ℕ) → Listed
living_one d line v = record d { marks = alive_one line (home_in d.frame.variables v) d.marks }

abbrev pub living : Listed → Items → Listed
living d items = record d { marks = alive d.frame.variables items d.marks }

abbrev pub living_parameters : Listed → (line count v : ℕ) → Listed
living_parameters d line count v = record d { marks = parameters_alive d.frame.variables line count v d.marks }

-- ---- exits

-- from the body of a function, around which so many objects live
abbrev pub function_exits : ℕ → Exits
function_exits count = record { base = 1; break_at = 2; break_deaths = count; continue_at = 2; continue_deaths = count; return_deaths = count }

-- within a loop behind which so many places lie, where the code that ends a round has so many
abbrev pub loop_exits : Exits → (behind count : ℕ) → Exits
loop_exits x behind count = record x { base = behind + 1; break_at = behind; break_deaths = 0; continue_at = behind + 1 + count; continue_deaths = 0 }

abbrev pub switch_exits : Exits → (behind : ℕ) → Exits
switch_exits x behind = record x { break_at = behind; break_deaths = 0 }

-- within a block, of whose variables so many have objects
abbrev pub block_exits : Exits → ℕ → Exits
block_exits x count = record x { break_deaths = count + x.break_deaths; continue_deaths = count + x.continue_deaths; return_deaths = count + x.return_deaths }

-- where they lead, and what dies on the way
abbrev pub ways_of : Exits → Frame → List Mark → Ways
ways_of x f ms = record {
  break_at = x.break_at;
  break_out = deaths_of f ms x.break_deaths;
  continue_at = x.continue_at;
  continue_out = deaths_of f ms x.continue_deaths;
  return_out = deaths_of f ms x.return_deaths;
  label_at = place_of ms;
  label_out = deaths_to f ms;
}

-- ---- statements

-- with more registers
abbrev pub typed : Listed → List IntegerType → Listed
typed d ts = record d { registers = d.registers ++ ts }

abbrev pub case_place : (line bits place : ℕ) → IntegerType → CasePlace
case_place line bits place t = record { line = line; type_ = t; bits = bits; place = place }

-- over where the code stands
module _ (frame : Frame) where
  -- the labels among items, the first of them first
  abbrev pub labels_among : (base : ℕ) → Ways → Items → (n : ℕ) → Nodes → List Mark
  labels_among base ways done n rest = []
  labels_among base ways (declares line v more) n rest = labels_among base ways more n rest
  labels_among base ways (initializes line v drawn e more) n rest = labels_among base ways more n rest
  labels_among base ways (initializes_structure line v drawn a more) n rest = labels_among base ways more n rest
  labels_among base ways (does s more) n rest = labels_among base ways more n rest
  labels_among base ways (label l more) n rest = marks.Label l (base + node_count (items_code frame base ways more n rest)) ∷ labels_among base ways more n rest
  labels_among base ways (case_at line t bits more) n rest = labels_among base ways more n rest
  labels_among base ways (default_at line more) n rest = labels_among base ways more n rest

  -- the cases among items, the last of them first
  abbrev pub cases_of : (base : ℕ) → Ways → Items → (n : ℕ) → Nodes → List CasePlace
  cases_of base ways done n rest = []
  cases_of base ways (declares line v more) n rest = cases_of base ways more n rest
  cases_of base ways (initializes line v drawn e more) n rest = cases_of base ways more n rest
  cases_of base ways (initializes_structure line v drawn a more) n rest = cases_of base ways more n rest
  cases_of base ways (does s more) n rest = cases_of base ways more n rest
  cases_of base ways (label l more) n rest = cases_of base ways more n rest
  cases_of base ways (case_at line t bits more) n rest = cases_of base ways more n rest ++ case_place line bits (base + node_count (items_code frame base ways more n rest)) t ∷ []
  cases_of base ways (default_at line more) n rest = cases_of base ways more n rest

  -- the default among items
  abbrev pub default_of : (base : ℕ) → Ways → Items → (n : ℕ) → Nodes → Option ℕ
  default_of base ways done n rest = None
  default_of base ways (declares line v more) n rest = default_of base ways more n rest
  default_of base ways (initializes line v drawn e more) n rest = default_of base ways more n rest
  default_of base ways (initializes_structure line v drawn a more) n rest = default_of base ways more n rest
  default_of base ways (does s more) n rest = default_of base ways more n rest
  default_of base ways (label l more) n rest = default_of base ways more n rest
  default_of base ways (case_at line t bits more) n rest = default_of base ways more n rest
  default_of base ways (default_at line more) n rest = Some (base + node_count (items_code frame base ways more n rest))

  -- the test of a case for the value in the register x, and the jump to it
  abbrev pub jump_code : (base x k : ℕ) → CasePlace → Nodes → Nodes
  jump_code base x k c others =
      plain (at_line frame c.line (operations.Constant (k + 3) c.bits))
      (plain (at_line frame c.line (operations.Compare (k + 4) comparisons.Equal c.type_ (k + 3) x))
      (plain (at_line frame c.line (SkipIfZero (k + 4) 1)) (to_place frame c.line base c.place others)))

  -- those of cases, by registers from k on
  abbrev pub jumps_to : (base x k : ℕ) → List CasePlace → Nodes → Nodes
  jumps_to base x k [] others = others
  jumps_to base x k (c ∷ cs) others = jump_code base x k c (jumps_to base x (k + 5) cs others)

-- these items have been added in front of nodes, last to first
pub record Within (first : Listed) (rest : Nodes) (x : Exits) (items : Items) (d : Listed) (nodes : Nodes) (cases : Cases) : Type 0 where
  pub draft_is : d ≡ (let n = next first in record first {
    registers = first.registers ++ items_types first.frame.variables items;
    marks = labels_among first.frame x.base (ways_of x first.frame first.marks) items n rest ++ first.marks;
  })
  pub nodes_are : nodes ≡ items_code first.frame x.base (ways_of x first.frame first.marks) items (next first) rest
  pub cases_are : cases.places.items ≡ cases_of first.frame x.base (ways_of x first.frame first.marks) items (next first) rest
  pub default_is : cases.otherwise ≡ default_of first.frame x.base (ways_of x first.frame first.marks) items (next first) rest

-- these items have been added in front of nodes, around which the objects of their variables live, and behind which these die
pub record Inside (old new : Listed) (rest nodes : Nodes) (x : Exits) (items : Items) (cases : Cases) : Type 0 where
  pub draft_is : new ≡ typed old (death_types old.frame.variables ++ items_types old.frame.variables items)
  pub nodes_are : nodes ≡ (let out = leave_code old.frame items in items_code old.frame x.base (leaving out (ways_of x old.frame old.marks)) items (next old + death_registers old.frame.variables) (plains (out (next old)) rest))
  pub cases_are : cases.places.items ≡ (let out = leave_code old.frame items in cases_of old.frame x.base (leaving out (ways_of x old.frame old.marks)) items (next old + death_registers old.frame.variables) (plains (out (next old)) rest))
  pub default_is : cases.otherwise ≡ (let out = leave_code old.frame items in default_of old.frame x.base (leaving out (ways_of x old.frame old.marks)) items (next old + death_registers old.frame.variables) (plains (out (next old)) rest))

-- a statement has been added in front of nodes
pub record Drafted (old new : Listed) (rest nodes : Nodes) (x : Exits) (s : Statement) : Type 0 where
  pub draft_is : new ≡ typed old (statement_types old.frame.variables s)
  pub nodes_are : nodes ≡ statement_code old.frame x.base (ways_of x old.frame old.marks) s (next old) rest

-- ---- the way to the cases of a switch

-- the test of a case: its value, whether it is met, and whether it or one before it is
abbrev pub case_code : Frame → (line : ℕ) → IntegerType → (bits x before n : ℕ) → List Instruction
case_code f line t bits x before n =
    at_line f line (operations.Constant n bits)
    ∷ at_line f line (operations.Compare (n + 1) comparisons.Equal t n x)
    ∷ at_line f line (operations.Arithmetic (n + 2) arithmetics.Or Int Int before (n + 1))
    ∷ []

-- the tests of cases with the value in the register x, over registers from n on
abbrev pub after_tests : Listed → (line x before : ℕ) → Items → (n : ℕ) → Listed
after_tests d line x before items n = added d (case_tests d.frame line x before items n) []

-- into the items by the value in the register x, behind which those of the cases are; the last jump stands first in the body
abbrev pub way_code : Frame → (base x : ℕ) → Items → List CasePlace → Nodes → Nodes
way_code f base x items cases body =
    plains (entry_code f items (x + 1 + case_registers f.variables items)) (jumps_to f base x (x + 1) (reverse cases) body)

-- where it is passed over if no case is met and there is no default, by the register n
abbrev pub entered_code : Frame → (line base count : ℕ) → Items → (n : ℕ) → List CasePlace → Option ℕ → Nodes → Nodes
entered_code f line base count items n cases otherwise body =
    let way = way_code f base (n + 1) items cases body in
    if is_some otherwise || declares_none items then way else guarded f line n (n + 1) items (n + 1 + 1) count way

-- ---- functions

-- no code and no register yet
abbrev pub begun : Frame → Listed
begun f = record { frame = f; instructions = []; registers = []; marks = [] }

-- of a body and the objects of so many parameters: behind one that stays 0
abbrev pub body_types : List Variable → (count : ℕ) → Statement → List IntegerType
body_types variables count body = Int ∷ (death_types variables ++ (statement_types variables body ++ parameters_types variables count))
