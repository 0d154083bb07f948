-- Typed trees without where they lie in memory.
use Rattle.std.specs.Prelude.{ℕ, ℤ, Bool, Option, option_map, List, [], ◌∷◌, map, Box}
use Rattle.std.specs.Global.{Global}
use Rattle.c_types.specs.declared.integers.IntegerType.{IntegerType}
use Rattle.c_types.specs.declared.types.ValueType.{ValueType}
use Rattle.core_tree.specs.declared.operators.ArithmeticOperator.{ArithmeticOperator}
use Rattle.core_tree.specs.declared.operators.Comparison.{Comparison}
use Rattle.core_tree.specs.declared.operators.LogicalOperator.{LogicalOperator}
use Rattle.core_tree.specs.declared.operators.SignOperator.{SignOperator}
use Rattle.core_tree.specs.declared.operators.StepOperator.{StepOperator}
use Rattle.core_tree.specs.declared.expression.Place.{Place as CorePlace}
use Rattle.core_tree.specs.declared.expression.Place as core_places
use Rattle.core_tree.specs.declared.expression.CoreExpr.{CoreExpr}
use Rattle.core_tree.specs.declared.expression.CoreExpr as exprs
use Rattle.core_tree.specs.declared.expression.CoreStructure as structures
use Rattle.core_tree.specs.declared.expression.CorePart.{CorePart}
use Rattle.core_tree.specs.declared.expression.CoreStructure.{CoreStructure, Row_of-CorePart, end_of-CorePart, more_of-CorePart}
use Rattle.core_tree.specs.declared.expression.CorePart as parts
use Rattle.core_tree.specs.declared.expression.CoreArgument.{CoreArgument}
use Rattle.core_tree.specs.declared.expression.CoreArgument as arguments
use Rattle.core_tree.specs.declared.expression.CoreExpr.{Row_of-CoreArgument, end_of-CoreArgument, more_of-CoreArgument}
use Rattle.core_tree.specs.declared.statement.CoreItem.{CoreItem}
use Rattle.core_tree.specs.declared.statement.CoreItem.TheBlock.{Row_of-CoreItem, end_of-CoreItem, more_of-CoreItem}
use Rattle.core_tree.specs.declared.statement.CoreItem as codes
use Rattle.core_tree.specs.declared.statement.CoreStatement.{CoreStatement}
use Rattle.core_tree.specs.declared.functions.Function.{Function}
use Rattle.core_tree.specs.declared.functions.Variable.{Variable}
use Rattle.core_tree.specs.declared.functions.Address.{Address}
use Rattle.core_tree.specs.declared.functions.PassedType.{PassedType}
use Rattle.core_tree.specs.declared.functions.Literal.{Literal}
use Rattle.core_tree.specs.declared.functions.StaticObject.{StaticObject}
use Rattle.core_tree.specs.declared.statement.CoreStatement as statements

mutual
  -- what can be read and written
  pub data Place : Type 0 where
    variable_at : (line variable offset : ℕ) → Place
    object_at : (line object offset : ℕ) → Place
    literal_at : (line literal : ℕ) → Place
    pointed : (line : ℕ) (pointer : Expression) → Place
    arrow : (line : ℕ) (pointer : Expression) (offset : ℕ) → Place
    member : (line : ℕ) (place : Place) (offset : ℕ) → Place
    element : (line : ℕ) (place : Place) (index : Expression) (size whole : ℕ) (swapped : Bool) → Place
    subscript : (line : ℕ) (pointer index : Expression) (size : ℕ) (swapped : Bool) → Place

  -- without value, or with one of an integer type
  pub data Expression : Type 0 where
    constant : (line : ℕ) (type : IntegerType) (bits : ℕ) → Expression
    read : (type : IntegerType) (place : Place) → Expression
    convert : (to : IntegerType) (operand : Expression) → Expression
    sign : (line : ℕ) (op : SignOperator) (operand : Expression) → Expression
    is_zero : (line : ℕ) (operand : Expression) → Expression
    arithmetic : (line : ℕ) (op : ArithmeticOperator) (left right : Expression) → Expression
    compare : (line : ℕ) (op : Comparison) (left right : Expression) → Expression
    logical : (line : ℕ) (op : LogicalOperator) (left right : Expression) → Expression
    choice : (line : ℕ) (test yes no : Expression) → Expression
    assign : (line : ℕ) (type : IntegerType) (place : Place) (value : Expression) → Expression
    update : (line : ℕ) (type : IntegerType) (place : Place) (op : ArithmeticOperator) (operand : IntegerType) (value : Expression) → Expression
    step : (line : ℕ) (type : IntegerType) (place : Place) (op : StepOperator) (before : Bool) → Expression
    comma : (line : ℕ) (left right : Expression) → Expression
    assertion : (line : ℕ) (condition : Expression) → Expression
    assumption : (line : ℕ) (condition : Expression) → Expression
    draw : (line : ℕ) (type : IntegerType) → Expression
    part : (line : ℕ) (type : IntegerType) (offset : ℕ) (value : Structure) → Expression
    discard : (line : ℕ) (operand : Expression) → Expression
    discard_structure : (value : Structure) → Expression
    call : (line function : ℕ) (used : Bool) (type : ValueType) (arguments : Arguments) → Expression
    function_name : (line : ℕ) → Expression
    size_of_value : (line bits : ℕ) (operand : Expression) → Expression
    size_of_structure : (line bits : ℕ) (operand : Structure) → Expression
    address : (line : ℕ) (place : Place) → Expression
    sum : (line : ℕ) (pointer index : Expression) (step : ℤ) (swapped : Bool) → Expression
    distance : (line : ℕ) (left right : Expression) (step : ℕ) → Expression
    relation : (line : ℕ) (op : Comparison) (left right : Expression) → Expression
    pointer_update : (line : ℕ) (place : Place) (step : ℤ) (value : Expression) → Expression
    pointer_step : (line : ℕ) (place : Place) (step : ℤ) (before : Bool) → Expression
    allocate : (line : ℕ) (size : Expression) → Expression
    allocate_zeroed : (line : ℕ) (count size : Expression) → Expression
    release : (line : ℕ) (pointer : Expression) → Expression
    exit : (line : ℕ) (status : Expression) → Expression
    abort : (line : ℕ) → Expression

  -- with a value of a struct, union or array type
  pub data Structure : Type 0 where
    copy : (place : Place) (size : ℕ) → Structure
    choose : (line : ℕ) (test : Expression) (yes no : Structure) → Structure
    put : (line : ℕ) (place : Place) (value : Structure) → Structure
    follow : (line : ℕ) (left : Expression) (right : Structure) → Structure
    section : (line offset size : ℕ) (value : Structure) → Structure
    list : (line size : ℕ) (parts : Parts) → Structure
    string : (line size : ℕ) (bytes : List ℕ) → Structure
    give : (line function : ℕ) (used : Bool) (size : ℕ) (arguments : Arguments) → Structure

  -- what a list writes at offsets
  pub data Parts : Type 0 where
    no_part : Parts
    number_part : (offset : ℕ) (value : Expression) (rest : Parts) → Parts
    structure_part : (offset : ℕ) (value : Structure) (rest : Parts) → Parts

  -- the arguments of a call
  pub data Arguments : Type 0 where
    no_argument : Arguments
    number_argument : (value : Expression) (rest : Arguments) → Arguments
    structure_argument : (value : Structure) (rest : Arguments) → Arguments

mutual
  pub data Statement : Type 0 where
    block : (items : Items) → Statement
    if_then : (line : ℕ) (test : Expression) (yes : Statement) → Statement
    if_else : (line : ℕ) (test : Expression) (yes no : Statement) → Statement
    evaluate : (expression : Expression) → Statement
    returns : (line : ℕ) (value : Expression) → Statement
    returns_structure : (line : ℕ) (value : Structure) → Statement
    returns_nothing : (line : ℕ) → Statement
    for_loop : (line number : ℕ) (first test last : Option Expression) (body : Statement) → Statement
    do_loop : (line number : ℕ) (body : Statement) (test : Expression) → Statement
    switch : (line : ℕ) (value : Expression) (items : Items) → Statement
    breaks : (line : ℕ) → Statement
    continues : (line : ℕ) → Statement
    jumps : (line label : ℕ) → Statement
    stray : (line : ℕ) (statement : Statement) → Statement

  pub data Items : Type 0 where
    done : Items
    declares : (line variable : ℕ) (rest : Items) → Items
    initializes : (line variable : ℕ) (drawn : Bool) (value : Expression) (rest : Items) → Items
    initializes_structure : (line variable : ℕ) (drawn : Bool) (value : Structure) (rest : Items) → Items
    does : (first : Statement) (rest : Items) → Items
    label : (number : ℕ) (rest : Items) → Items
    case_at : (line : ℕ) (type : IntegerType) (bits : ℕ) (rest : Items) → Items
    default_at : (line : ℕ) (rest : Items) → Items

abbrev mutual
  pub view_place : CorePlace → Place
  view_place (core_places.Variable line v offset) = variable_at line v offset
  view_place (core_places.Object line k offset) = object_at line k offset
  view_place (core_places.Literal line k) = literal_at line k
  view_place (core_places.Pointed' line p e) = pointed line (view e)
  view_place (core_places.Arrow' line p e offset) = arrow line (view e) offset
  view_place (core_places.Member' line p x offset) = member line (view_place x) offset
  view_place (core_places.Element' line p x q e size whole swapped) = element line (view_place x) (view e) size whole swapped
  view_place (core_places.Subscript' line p a q e size swapped) = subscript line (view a) (view e) size swapped

  pub view : CoreExpr → Expression
  view (exprs.Constant line t bits) = constant line t bits
  view (exprs.Read' t p x) = read t (view_place x)
  view (exprs.Convert' t p e) = convert t (view e)
  view (exprs.Sign' line op p e) = sign line op (view e)
  view (exprs.IsZero' line p e) = is_zero line (view e)
  view (exprs.Arithmetic' line op p a q b) = arithmetic line op (view a) (view b)
  view (exprs.Compare' line op p a q b) = compare line op (view a) (view b)
  view (exprs.Logical' line op p a q b) = logical line op (view a) (view b)
  view (exprs.Choice' line p a q b r c) = choice line (view a) (view b) (view c)
  view (exprs.Assign' line t p x q e) = assign line t (view_place x) (view e)
  view (exprs.Update' line t p x op u q e) = update line t (view_place x) op u (view e)
  view (exprs.Step' line t p x op before) = step line t (view_place x) op before
  view (exprs.Comma' line p a q b) = comma line (view a) (view b)
  view (exprs.Assertion' line p e) = assertion line (view e)
  view (exprs.Assumption' line p e) = assumption line (view e)
  view (exprs.Draw line t) = draw line t
  view (exprs.Member' line t offset p a) = part line t offset (view_structure a)
  view (exprs.Discard' line p e) = discard line (view e)
  view (exprs.DiscardStructure' p a) = discard_structure (view_structure a)
  view (exprs.Call' line f used t shape args) = call line f used t (view_arguments args)
  view (exprs.FunctionName line) = function_name line
  view (exprs.SizeOf' line bits p e) = size_of_value line bits (view e)
  view (exprs.SizeOfStructure' line bits p a) = size_of_structure line bits (view_structure a)
  view (exprs.Address' line p x) = address line (view_place x)
  view (exprs.Sum' line p a q e n swapped) = sum line (view a) (view e) n swapped
  view (exprs.Distance' line p a q b n) = distance line (view a) (view b) n
  view (exprs.Relation' line op p a q b) = relation line op (view a) (view b)
  view (exprs.PointerUpdate' line p x n q e) = pointer_update line (view_place x) n (view e)
  view (exprs.PointerStep' line p x n before) = pointer_step line (view_place x) n before
  view (exprs.Allocate' line p e) = allocate line (view e)
  view (exprs.AllocateZeroed' line p a q b) = allocate_zeroed line (view a) (view b)
  view (exprs.Release' line p e) = release line (view e)
  view (exprs.Exit' line p e) = exit line (view e)
  view (exprs.Abort line) = abort line

  pub view_structure : CoreStructure → Structure
  view_structure (structures.Read' p x size) = copy (view_place x) size
  view_structure (structures.Choice' line o e p a q b) = choose line (view e) (view_structure a) (view_structure b)
  view_structure (structures.Assign' line p x q a) = put line (view_place x) (view_structure a)
  view_structure (structures.Comma' line o e p a) = follow line (view e) (view_structure a)
  view_structure (structures.Member' line offset size p a) = section line offset size (view_structure a)
  view_structure (structures.List' line size shape ps) = list line size (view_parts ps)
  view_structure (structures.String line size bytes) = string line size bytes.items
  view_structure (structures.Call' line f used size shape args) = give line f used size (view_arguments args)

  pub view_parts : {m : _} → Row_of-CorePart m → Parts
  view_parts end_of-CorePart = no_part
  view_parts (more_of-CorePart p rest) = with_part p (view_parts rest)

  -- a part and those behind it
  pub with_part : CorePart → Parts → Parts
  with_part (parts.Number' offset p e) rest = number_part offset (view e) rest
  with_part (parts.Structure' offset p a) rest = structure_part offset (view_structure a) rest

  pub view_arguments : {m : _} → Row_of-CoreArgument m → Arguments
  view_arguments end_of-CoreArgument = no_argument
  view_arguments (more_of-CoreArgument a rest) = with_argument a (view_arguments rest)

  -- an argument and those behind it
  pub with_argument : CoreArgument → Arguments → Arguments
  with_argument (arguments.Number' p e) rest = number_argument (view e) rest
  with_argument (arguments.Structure' p a) rest = structure_argument (view_structure a) rest

abbrev pub boxed : Box CoreExpr Global → Expression
boxed b = view b.value

-- the parts of a list
abbrev pub parts_of : List CorePart → Parts
parts_of [] = no_part
parts_of (p ∷ ps) = with_part p (parts_of ps)

-- the arguments of a list
abbrev pub arguments_of : List CoreArgument → Arguments
arguments_of [] = no_argument
arguments_of (a ∷ as_) = with_argument a (arguments_of as_)

abbrev mutual
  pub view_statement : CoreStatement → Statement
  view_statement (statements.Block' shape items) = block (view_items items)
  view_statement (statements.If' line test p s) = if_then line (view test.value) (view_statement s)
  view_statement (statements.IfElse' line test p s q t) = if_else line (view test.value) (view_statement s) (view_statement t)
  view_statement (statements.Evaluate e) = evaluate (view e.value)
  view_statement (statements.Return line e) = returns line (view e.value)
  view_statement (statements.ReturnStructure line a) = returns_structure line (view_structure a.value)
  view_statement (statements.ReturnNothing line) = returns_nothing line
  view_statement (statements.For' line number first test last p s) =
      for_loop line number (option_map boxed first) (option_map boxed test) (option_map boxed last) (view_statement s)
  view_statement (statements.Do' line number p s test) = do_loop line number (view_statement s) (view test.value)
  view_statement (statements.Switch' line e shape items) = switch line (view e.value) (view_items items)
  view_statement (statements.Break line) = breaks line
  view_statement (statements.Continue line) = continues line
  view_statement (statements.Goto line n) = jumps line n
  view_statement (statements.Stray' line p s) = stray line (view_statement s)

  pub view_items : {m : _} → Row_of-CoreItem m → Items
  view_items end_of-CoreItem = done
  view_items (more_of-CoreItem i rest) = with_item i (view_items rest)

  -- an item and those behind it
  pub with_item : CoreItem → Items → Items
  with_item (codes.Declare line v) rest = declares line v rest
  with_item (codes.Initialize line v drawn e) rest = initializes line v drawn (view e.value) rest
  with_item (codes.InitializeStructure line v drawn a) rest = initializes_structure line v drawn (view_structure a.value) rest
  with_item (codes.Statement' p s) rest = does (view_statement s) rest
  with_item (codes.Label n) rest = label n rest
  with_item (codes.Case line t bits) rest = case_at line t bits rest
  with_item (codes.Default line) rest = default_at line rest

abbrev pub boxed_statement : Box CoreStatement Global → Statement
boxed_statement b = view_statement b.value

-- the items of a list
abbrev pub items_of : List CoreItem → Items
items_of [] = done
items_of (i ∷ is) = with_item i (items_of is)

-- a function: its name, the line of that, what it gives, none where that is void, the types of its parameters, and the line of its first declarator with an ellipsis, where there is one; its variables by number, of which the parameters are the first, and its body, where it is defined
pub record Procedure : Type 0 where
  pub name : List ℕ
  pub line : ℕ
  pub gives : Option PassedType
  pub parameters : List PassedType
  pub ellipsis : Option ℕ
  pub variables : List Variable
  pub labels : ℕ
  pub body : Option Statement

abbrev pub view_function : Function → Procedure
view_function f = record {
  name = f.name.bytes.items;
  line = f.line;
  gives = f.gives;
  parameters = f.parameters.items;
  ellipsis = f.ellipsis;
  variables = f.variables.items;
  labels = f.labels;
  body = option_map boxed_statement f.body;
}

-- a static object: its size in bytes, whether it is defined const, and its first bytes, as many as its initializer says, with the addresses among them; the others are 0. Where the file has no definition of it, the line of its first declarator
pub record Static : Type 0 where
  pub size : ℕ
  pub readonly : Bool
  pub bytes : List ℕ
  pub addresses : List Address
  pub undefined : Option ℕ

abbrev pub view_static : StaticObject → Static
view_static o = record { size = o.size; readonly = o.readonly; bytes = o.bytes.items; addresses = o.addresses.items; undefined = o.undefined }

-- a typed file: its functions by number, its static objects, the first of which has the number 1, and the bytes of its string literals that are objects, in their order, each without the 0 behind it; and whether forms over pointers may stand in it
pub record TypedFile : Type 0 where
  pub functions : List Procedure
  pub objects : List Static
  pub literals : List (List ℕ)
  pub pointers : Bool

-- the same as it lies in memory
pub record CoreFile : Type 0 where
  pub functions : List Function
  pub objects : List StaticObject
  pub literals : List Literal
  pub pointers : Bool

abbrev pub core_file : List Function → List StaticObject → List Literal → Bool → CoreFile
core_file functions objects literals pointers = record { functions = functions; objects = objects; literals = literals; pointers = pointers }

abbrev pub view_functions : List Function → List Procedure
view_functions functions = map view_function functions

abbrev pub view_statics : List StaticObject → List Static
view_statics objects = map view_static objects

abbrev pub view_literals : List Literal → List (List ℕ)
view_literals literals = map (λ (l : Literal). l.bytes.items) literals

abbrev pub view_core : CoreFile → TypedFile
view_core c = record { functions = view_functions c.functions; objects = view_statics c.objects; literals = view_literals c.literals; pointers = c.pointers }
