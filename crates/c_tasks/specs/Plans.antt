-- The plan of a task: the move of its item, in the state that is looked at.
use Rattle.std.specs.Prelude.{◌≡◌, ℕ, Bool, true, false, ◌||◌, if◌then◌else◌, Option, Some, None, List, ◌∷◌, drop}
use Rattle.core_tree.specs.declared.statement.CoreItem.{CoreItem}
use Rattle.core_tree.specs.Trees as trees
use Rattle.core_tree.specs.Trees.{Place, element, subscript, Statement, Items, items_of, with_item, core_file, view_core, TypedFile, Expression, constant, read, convert, sign, is_zero, arithmetic, compare, logical, choice, assign, update, step, comma, assertion, assumption, draw, part, discard, discard_structure, call, function_name, size_of_value, size_of_structure, sum, distance, relation, pointer_update, pointer_step, allocate, allocate_zeroed, release, exit, abort, Structure, list, string, give}
use Rattle.c_tasks.specs.declared.task.Look.{Look}
use Rattle.c_tasks.specs.declared.task.Task.{Task}
use Rattle.c_tasks.specs.declared.task.Task.TheVariants as task
use Rattle.c_tasks.specs.declared.task.Plan.{Plan}
use Rattle.c_meaning.specs.Meaning.{Running, Code, has_case, has_default}
use Rattle.c_meaning.specs.Source.{code_of}
use Rattle.c_values.specs.Numbers.{TypedNumber}
use Rattle.c_tasks.specs.Items.{Active, active, running_of, Item}
use Rattle.c_tasks.specs.Steps.{Move, behind_case, behind_default, move_item}
use Rattle.c_tasks.specs.Fits.{fits, variables_at, types_of, sizes_of}
use Rattle.c_tasks.specs.Tasks.{items_in, values_in, structures_in, IsPlan, WritesWithin}

-- the file that is looked at
abbrev pub file_in : Look → TypedFile
file_in l = view_core (core_file l.functions.now l.objects.now l.literals.now l.pointers)

-- its functions under the bounds
abbrev pub code_in : Look → Code
code_in l = code_of (file_in l) l.bounds.now

abbrev pub active_in : Look → Active
active_in l = active l.function l.left.now

abbrev pub running_in : Look → Running
running_in l = running_of (code_in l) (active_in l)

abbrev pub items_behind : Look → List Item
items_behind l = items_in l.behind.now

abbrev pub values_on : Look → List TypedNumber
values_on l = values_in l.numbers.now

abbrev pub structures_on : Look → List (List ℕ)
structures_on l = structures_in l.structures.now

-- the item's numbers have the types that it asks for, and its variables are there
abbrev pub FitsIn : Look → Item → Type 0
FitsIn l i = fits (file_in l) (i ∷ items_behind l) l.function (types_of (values_on l)) (sizes_of (structures_on l)) ≡ true

-- the plan of a move, where this item comes first
abbrev pub Plans : Look → Item → Move → Plan → Type 0
Plans l i m p = IsPlan (file_in l) (running_in l) (i ∷ items_behind l) (active_in l) (values_on l) (structures_on l) l.variables.now m p × WritesWithin (variables_at (file_in l) l.function) (structures_on l) p

abbrev pub move_of : Look → Item → Move
move_of l i = move_item (code_in l) l.first true i (items_behind l) (active_in l) (values_on l) (structures_on l) l.variables.now

abbrev pub PlansItem : Look → Item → Plan → Type 0
PlansItem l i p = Plans l i (move_of l i) p

-- its parts are evaluated before it: operands, a place or a structure value
abbrev pub HasParts : Expression → Type 0
HasParts (constant line t bits) = ⊥
HasParts (draw line t) = ⊥
HasParts (call line f used t args) = ⊥
HasParts (function_name line) = ⊥
HasParts (size_of_value line bits e) = ⊥
HasParts (size_of_structure line bits a) = ⊥
HasParts (abort line) = ⊥
HasParts _ = Unit {0}

-- one operand is evaluated before it
abbrev pub IsByOperand : Expression → Type 0
IsByOperand (convert to e) = Unit {0}
IsByOperand (sign line op e) = Unit {0}
IsByOperand (is_zero line e) = Unit {0}
IsByOperand (logical line op a b) = Unit {0}
IsByOperand (choice line test a b) = Unit {0}
IsByOperand (comma line a b) = Unit {0}
IsByOperand (assertion line e) = Unit {0}
IsByOperand (assumption line e) = Unit {0}
IsByOperand (discard line e) = Unit {0}
IsByOperand (allocate line e) = Unit {0}
IsByOperand (release line e) = Unit {0}
IsByOperand (exit line e) = Unit {0}
IsByOperand _ = ⊥

-- its value is no operation's
abbrev pub IsNoOperation : Expression → Type 0
IsNoOperation (convert to e) = ⊥
IsNoOperation (sign line op e) = ⊥
IsNoOperation (is_zero line e) = ⊥
IsNoOperation (arithmetic line op a b) = ⊥
IsNoOperation (compare line op a b) = ⊥
IsNoOperation (part line t offset a) = ⊥
IsNoOperation (discard line e) = ⊥
IsNoOperation (discard_structure a) = ⊥
IsNoOperation _ = Unit {0}

-- nor what a place holds or takes
abbrev pub IsNoAccess : Expression → Type 0
IsNoAccess (convert to e) = ⊥
IsNoAccess (sign line op e) = ⊥
IsNoAccess (is_zero line e) = ⊥
IsNoAccess (arithmetic line op a b) = ⊥
IsNoAccess (compare line op a b) = ⊥
IsNoAccess (part line t offset a) = ⊥
IsNoAccess (discard line e) = ⊥
IsNoAccess (discard_structure a) = ⊥
IsNoAccess (read t p) = ⊥
IsNoAccess (assign line t p e) = ⊥
IsNoAccess (update line t p op u e) = ⊥
IsNoAccess (step line t p op before) = ⊥
IsNoAccess (pointer_update line p n e) = ⊥
IsNoAccess (pointer_step line p n before) = ⊥
IsNoAccess _ = Unit {0}

-- nor of pointers or objects: what follows its first operand is decided by a test of it, or without it
abbrev pub IsTested : Expression → Type 0
IsTested (convert to e) = ⊥
IsTested (sign line op e) = ⊥
IsTested (is_zero line e) = ⊥
IsTested (arithmetic line op a b) = ⊥
IsTested (compare line op a b) = ⊥
IsTested (part line t offset a) = ⊥
IsTested (discard line e) = ⊥
IsTested (discard_structure a) = ⊥
IsTested (read t p) = ⊥
IsTested (assign line t p e) = ⊥
IsTested (update line t p op u e) = ⊥
IsTested (step line t p op before) = ⊥
IsTested (pointer_update line p n e) = ⊥
IsTested (pointer_step line p n before) = ⊥
IsTested (sum line a e n swapped) = ⊥
IsTested (distance line a b n) = ⊥
IsTested (relation line op a b) = ⊥
IsTested (allocate line e) = ⊥
IsTested (allocate_zeroed line a b) = ⊥
IsTested (release line e) = ⊥
IsTested (exit line e) = ⊥
IsTested (abort line) = ⊥
IsTested _ = Unit {0}

-- an element of an array
abbrev pub IsIndexed : Place → Type 0
IsIndexed (element line x e size whole swapped) = Unit {0}
IsIndexed (subscript line a e size swapped) = Unit {0}
IsIndexed _ = ⊥

-- a part of the structure value is evaluated first
abbrev pub IsByPart : Structure → Type 0
IsByPart (list line size parts) = ⊥
IsByPart (string line size text) = ⊥
IsByPart (give line f used size args) = ⊥
IsByPart _ = Unit {0}

-- a statement that leads out of others
abbrev pub LeadsOut : Statement → Type 0
LeadsOut (trees.returns line e) = Unit {0}
LeadsOut (trees.returns_structure line a) = Unit {0}
LeadsOut (trees.returns_nothing line) = Unit {0}
LeadsOut (trees.breaks line) = Unit {0}
LeadsOut (trees.continues line) = Unit {0}
LeadsOut (trees.jumps line n) = Unit {0}
LeadsOut _ = ⊥

-- whether an item is the case with these bits
abbrev pub IsCaseItem : CoreItem → ℕ → Bool → Type 0
IsCaseItem i x b = (rest : Items) → (has_case (with_item i rest) x ≡ (b || has_case rest x)) × (behind_case x (with_item i rest) ≡ (if b then rest else behind_case x rest))

-- where a switch with this value goes on
abbrev pub IsBehindCase : List CoreItem → ℕ → Option ℕ → Type 0
IsBehindCase items x (Some n) = (has_case (items_of items) x ≡ true) × (behind_case x (items_of items) ≡ items_of (drop n items))
IsBehindCase items x None = has_case (items_of items) x ≡ false

abbrev pub IsDefaultItem : CoreItem → Bool → Type 0
IsDefaultItem i b = (rest : Items) → (has_default (with_item i rest) ≡ (b || has_default rest)) × (behind_default (with_item i rest) ≡ (if b then rest else behind_default rest))

abbrev pub IsBehindDefault : List CoreItem → Option ℕ → Type 0
IsBehindDefault items (Some n) = (has_default (items_of items) ≡ true) × (behind_default (items_of items) ≡ items_of (drop n items))
IsBehindDefault items None = has_default (items_of items) ≡ false

-- a task of a call, or of an end
abbrev pub IsOfCall : Task → Type 0
IsOfCall (task.Switched items) = Unit {0}
IsOfCall task.Stray = Unit {0}
IsOfCall (task.EnterParameters v end) = Unit {0}
IsOfCall (task.EndParameters count) = Unit {0}
IsOfCall (task.LeaveParameters v end) = Unit {0}
IsOfCall (task.Begin f line) = Unit {0}
IsOfCall (task.Gather want f args from) = Unit {0}
IsOfCall (task.Resume want caller saved) = Unit {0}
IsOfCall (task.Out way) = Unit {0}
IsOfCall (task.End line x) = Unit {0}
IsOfCall (task.Ended x) = Unit {0}
IsOfCall _ = ⊥

-- its plan makes no block of bytes
abbrev pub TakesNoMemory : Task → Type 0
TakesNoMemory (task.Structure a complete) = ⊥
TakesNoMemory (task.Admit line zeroed) = ⊥
TakesNoMemory (task.Add want f t args at) = ⊥
TakesNoMemory (task.Get want how) = ⊥
TakesNoMemory _ = Unit {0}
