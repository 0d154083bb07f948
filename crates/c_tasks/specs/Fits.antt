-- What is true of the items and values of a thread that runs a typed function: each item finds values of the types that it asks for, and the variables that it names.
use Rattle.std.specs.Prelude.{◌≡◌, ℕ, zero, suc, ◌+◌, ◌*◌, ◌^◌, ◌==◌, Bool, true, false, ◌&&◌, ◌||◌, nat_lt, nat_le, Option, Some, None, List, [], ◌∷◌, ◌++◌, map, length, take, drop, slice_get, slice_index, if◌then◌else◌}
use Rattle.std.specs.Option.{option_and_then}
use Rattle.c_types.specs.declared.integers.IntegerType.{IntegerType}
use Rattle.c_types.specs.declared.integers.IntegerType.TheVariants.{Int, Long, UnsignedLong}
use Rattle.c_types.specs.Integers.{bytes, promoted}
use Rattle.core_tree.specs.declared.functions.PassedType.{PassedType}
use Rattle.core_tree.specs.declared.functions.PassedType.TheVariants as passed
use Rattle.core_tree.specs.declared.functions.Variable.{Variable}
use Rattle.core_tree.specs.Trees.{Arguments, no_argument, TypedFile}
use Rattle.core_tree.specs.Typed.{Signature, Sizes, sizes_with, size_of, is_within, is_place, is_typed, is_structure, are_parts, are_arguments, parameters_of, same_passed, passed_size, is_test, is_typed_part, is_typed_statement, are_typed_items, sizes_of_variables, signature}
use Rattle.c_meaning.specs.Meaning.{number_type, variables_of}
use Rattle.c_values.specs.Numbers.{TypedNumber, same_width, are_operands_of}
use Rattle.c_tasks.specs.Items.{Wanted, wants_number, wants_structure, wants_end, Handed, by_nothing, by_number, by_structure, by_break, by_continue, by_jump, by_return, Loop, Item, evaluates, converts, signs, negates, operates, compares, decides_on, tests, chooses, retypes, drops, passes, asserts, assumes, locates, reaches, elements, loads, stores, rewrites, updates, combines, steps, increments, looks, lands, shifts, paces, advances, arrives, measures, orders, claims, tries, admits, draws, makes, releases, quits, evaluates_structure, picks, discards, discards_structure, chooses_structure, copies, stores_structure, passes_structure, cuts, lists, places_number, places_structure, runs, branches, divides, enters, goes_on, ends_block, leaves, fills, settles, initial, initial_structure, dies, enters_parameters, ends_parameters, leaves_parameters, gathers, adds_number, resumes, goes_out, gets, turns, retests, repeats, loops, selects, switches, strays, ending, ended, State}

abbrev pub top_type : List IntegerType → IntegerType
top_type [] = Int
top_type (t ∷ ts) = t

abbrev pub rest_types : List IntegerType → List IntegerType
rest_types [] = []
rest_types (t ∷ ts) = ts

abbrev pub second_type : List IntegerType → IntegerType
second_type ts = top_type (rest_types ts)

abbrev pub top_size : List ℕ → ℕ
top_size [] = 0
top_size (z ∷ zs) = z

abbrev pub rest_sizes : List ℕ → List ℕ
rest_sizes [] = []
rest_sizes (z ∷ zs) = zs

abbrev pub second_size : List ℕ → ℕ
second_size zs = top_size (rest_sizes zs)

abbrev pub has_top : List ℕ → Bool
has_top [] = false
has_top (z ∷ zs) = true

-- so many words from an offset on begin in a variable, over the sizes of the variables
abbrev pub has_words : List ℕ → ℕ → ℕ → ℕ → Bool
has_words sizes v offset words = nat_lt v (length sizes) && nat_le (offset + 8 * words) (slice_index sizes v + 7)

-- the sizes of the first so many structure values on top, the first one first
abbrev pub sizes_on : ℕ → List ℕ → List ℕ
sizes_on zero zs = []
sizes_on (suc n) [] = []
sizes_on (suc n) (z ∷ zs) = sizes_on n zs ++ z ∷ []

abbrev pub passed_sizes : List PassedType → List ℕ
passed_sizes ps = map passed_size ps

abbrev pub same_sizes : List ℕ → List ℕ → Bool
same_sizes [] [] = true
same_sizes [] (z ∷ zs) = false
same_sizes (y ∷ ys) [] = false
same_sizes (y ∷ ys) (z ∷ zs) = y == z && same_sizes ys zs

abbrev pub types_under : Handed → List IntegerType → List IntegerType
types_under by_nothing ts = ts
types_under by_number ts = rest_types ts
types_under by_structure ts = ts

abbrev pub sizes_under : Handed → List ℕ → List ℕ
sizes_under by_nothing zs = zs
sizes_under by_number zs = zs
sizes_under by_structure zs = rest_sizes zs

-- a number on top of a type that a function gives
abbrev pub gives_number : Option PassedType → IntegerType → Bool
gives_number None t = false
gives_number (Some (passed.Integer u)) t = same_width t u
gives_number (Some (passed.Structure n)) t = false

-- a structure value on top of a size that a function gives
abbrev pub gives_structure : Option PassedType → ℕ → Bool
gives_structure None z = false
gives_structure (Some (passed.Integer u)) z = false
gives_structure (Some (passed.Structure n)) z = z == n

-- what a function hands over is what it gives
abbrev pub handed_of : Handed → Option PassedType → List IntegerType → List ℕ → Bool
handed_of by_nothing gives ts zs = true
handed_of by_number gives ts zs = gives_number gives (top_type ts)
handed_of by_structure gives ts zs = has_top zs && gives_structure gives (top_size zs)

-- what a call is for is what the function gives, where it gives something
abbrev pub is_given : Wanted → Option PassedType → Bool
is_given want None = true
is_given (wants_number line used t) (Some p) = same_passed (passed.Integer t) p
is_given (wants_structure line used size) (Some p) = same_passed (passed.Structure size) p
is_given (wants_end line) (Some p) = true

abbrev pub wanted_of : Wanted → Option Signature → Bool
wanted_of want None = false
wanted_of want (Some f) = is_given want f.gives

-- the caller gets what it wants, or nothing
abbrev pub gets_this : Wanted → Handed → List IntegerType → List ℕ → Bool
gets_this want by_nothing ts zs = true
gets_this (wants_number line used t) by_number ts zs = same_width (top_type ts) t
gets_this (wants_structure line used size) by_number ts zs = false
gets_this (wants_end line) by_number ts zs = true
gets_this (wants_number line used t) by_structure ts zs = false
gets_this (wants_structure line used size) by_structure ts zs = has_top zs && top_size zs == size
gets_this (wants_end line) by_structure ts zs = has_top zs

-- the first call of a thread hands no arguments over
abbrev pub starts_thread : Arguments → Wanted → ℕ → Bool
starts_thread no_argument (wants_end line) zero = true
starts_thread _ want count = false

abbrev pub is_loop : Sizes → Loop → Bool
is_loop sizes loop = is_test sizes loop.test && is_typed_part sizes loop.last && is_typed_statement sizes loop.body

-- the sizes of blocks of bytes
abbrev pub sizes_of : List (List ℕ) → List ℕ
sizes_of bs = map (λ (block : List ℕ). length block) bs

abbrev pub gives_of : Option Signature → Option PassedType
gives_of None = None
gives_of (Some s) = s.gives

-- numbers without the operands of an allocation
abbrev pub without_operands : Bool → List IntegerType → List IntegerType
without_operands false ts = rest_types ts
without_operands true ts = rest_types (rest_types ts)

-- a variable has no address, or one of 8 bytes is there for that
abbrev pub holds_address : List ℕ → Option ℕ → Bool
holds_address sizes None = true
holds_address sizes (Some h) = is_within sizes h 0 8

-- what a function of a file names
module _ (file : TypedFile) where
  abbrev pub signature_of : ℕ → Option Signature
  signature_of f = slice_get (map signature file.functions) f

  abbrev pub parameters_at : ℕ → List PassedType
  parameters_at f = parameters_of (signature_of f)

  abbrev pub gives_at : ℕ → Option PassedType
  gives_at f = gives_of (signature_of f)

  abbrev pub declared_at : ℕ → List Variable
  declared_at f = variables_of (slice_get file.functions f)

  abbrev pub variables_at : ℕ → List ℕ
  variables_at f = sizes_of_variables (declared_at f)

  abbrev pub sizes_for : ℕ → Sizes
  sizes_for f = sizes_with file (declared_at f) (gives_at f)

  -- the variable that holds the address of a variable, if it has one
  abbrev pub home_at : (function variable : ℕ) → Option ℕ
  home_at f v = option_and_then (λ (x : Variable). x.home) (slice_get (declared_at f) v)

  -- a variable is there, of so many bytes
  abbrev pub is_variable : (function variable size : ℕ) → Bool
  is_variable f v size = is_within (variables_at f) v 0 size

  -- what a call gives can be used
  abbrev pub got : Wanted → (List IntegerType → List ℕ → Bool) → List IntegerType → List ℕ → Bool
  got (wants_number line used t) follows ts zs = follows (t ∷ ts) zs
  got (wants_structure line used size) follows ts zs = follows ts (size ∷ zs)
  got (wants_end line) follows ts zs = true

  abbrev mutual
    -- with numbers of these types and structure values of these sizes these items can be done, while this function runs
    pub fits : List Item → ℕ → List IntegerType → List ℕ → Bool
    fits [] f ts zs = true
    fits (evaluates e ∷ is) f ts zs = is_typed (sizes_for f) e && fits is f (number_type e ∷ ts) zs
    fits (converts to ∷ is) f ts zs = fits is f (to ∷ rest_types ts) zs
    fits (signs line op ∷ is) f ts zs = fits is f (top_type ts ∷ rest_types ts) zs
    fits (negates ∷ is) f ts zs = fits is f (Int ∷ rest_types ts) zs
    fits (operates line op ∷ is) f ts zs = are_operands_of op (second_type ts) (top_type ts) && fits is f (second_type ts ∷ rest_types (rest_types ts)) zs
    fits (compares op ∷ is) f ts zs = same_width (second_type ts) (top_type ts) && fits is f (Int ∷ rest_types (rest_types ts)) zs
    fits (decides_on op b ∷ is) f ts zs = is_typed (sizes_for f) b && fits is f (Int ∷ rest_types ts) zs
    fits (tests ∷ is) f ts zs = fits is f (Int ∷ rest_types ts) zs
    fits (chooses a b ∷ is) f ts zs = is_typed (sizes_for f) a && is_typed (sizes_for f) b && same_width (number_type b) (number_type a) && fits is f (number_type a ∷ rest_types ts) zs
    fits (retypes t ∷ is) f ts zs = same_width (top_type ts) t && fits is f (t ∷ rest_types ts) zs
    fits (drops ∷ is) f ts zs = fits is f (rest_types ts) zs
    fits (passes b ∷ is) f ts zs = is_typed (sizes_for f) b && fits is f (number_type b ∷ rest_types ts) zs
    fits (asserts line ∷ is) f ts zs = fits is f (Int ∷ rest_types ts) zs
    fits (assumes ∷ is) f ts zs = fits is f (Int ∷ rest_types ts) zs
    fits (locates p ∷ is) f ts zs = is_place (sizes_for f) 0 p && fits is f (UnsignedLong ∷ ts) zs
    fits (reaches offset ∷ is) f ts zs = fits is f (UnsignedLong ∷ rest_types ts) zs
    fits (elements line size whole swapped ∷ is) f ts zs = fits is f (UnsignedLong ∷ rest_types (rest_types ts)) zs
    fits (loads t p ∷ is) f ts zs = is_place (sizes_for f) (bytes t) p && fits is f (t ∷ rest_types ts) zs
    fits (stores line t p ∷ is) f ts zs = is_place (sizes_for f) (bytes t) p && same_width (top_type ts) t && fits is f (t ∷ rest_types (rest_types ts)) zs
    fits (rewrites line t p at ∷ is) f ts zs = is_place (sizes_for f) (bytes t) p && same_width (top_type ts) t && fits is f (t ∷ rest_types ts) zs
    fits (updates line t p op u ∷ is) f ts zs = is_place (sizes_for f) (bytes t) p && are_operands_of op u (top_type ts) && fits is f (t ∷ rest_types (rest_types ts)) zs
    fits (combines line t p op u ∷ is) f ts zs =
        is_place (sizes_for f) (bytes t) p && same_width (top_type ts) t && are_operands_of op u (second_type ts) && fits is f (t ∷ rest_types (rest_types (rest_types ts))) zs
    fits (steps line t p op before ∷ is) f ts zs = is_place (sizes_for f) (bytes t) p && are_operands_of op (promoted t) (promoted t) && fits is f (t ∷ rest_types ts) zs
    fits (increments line t p op before at ∷ is) f ts zs =
        is_place (sizes_for f) (bytes t) p && same_width (top_type ts) t && are_operands_of op (promoted t) (promoted t) && fits is f (if before then t ∷ rest_types ts else ts) zs
    fits (looks line n is_element swapped ∷ is) f ts zs = fits is f (UnsignedLong ∷ rest_types (rest_types ts)) zs
    fits (lands line n is_element swapped ∷ is) f ts zs = fits is f (UnsignedLong ∷ rest_types (rest_types (rest_types ts))) zs
    fits (shifts line p n ∷ is) f ts zs = is_place (sizes_for f) 8 p && fits is f (UnsignedLong ∷ rest_types (rest_types ts)) zs
    fits (paces line p n before ∷ is) f ts zs = is_place (sizes_for f) 8 p && fits is f (UnsignedLong ∷ rest_types ts) zs
    fits (advances line p n before at ∷ is) f ts zs = is_place (sizes_for f) 8 p && fits is f (if before then UnsignedLong ∷ rest_types ts else ts) zs
    fits (arrives line p n before at ∷ is) f ts zs = is_place (sizes_for f) 8 p && fits is f (if before then UnsignedLong ∷ rest_types (rest_types ts) else rest_types ts) zs
    fits (measures line n ∷ is) f ts zs = nat_lt 0 n && fits is f (Long ∷ rest_types (rest_types ts)) zs
    fits (orders line op ∷ is) f ts zs = fits is f (Int ∷ rest_types (rest_types ts)) zs
    fits (claims line zeroed ∷ is) f ts zs = fits is f (UnsignedLong ∷ without_operands zeroed ts) zs
    fits (tries line zeroed ∷ is) f ts zs = fits is f (UnsignedLong ∷ without_operands zeroed (rest_types ts)) zs
    fits (admits line zeroed ∷ is) f ts zs = fits is f (UnsignedLong ∷ without_operands zeroed ts) zs
    fits (draws words size line ∷ is) f ts zs =
        has_top zs && nat_le (top_size zs) size && nat_le (top_size zs + 8 * words) (size + 7) && nat_lt size (2 ^ 31) && fits is f (UnsignedLong ∷ rest_types ts) (rest_sizes zs)
    fits (makes line ∷ is) f ts zs = has_top zs && nat_lt (top_size zs) (2 ^ 31) && fits is f (UnsignedLong ∷ rest_types ts) (rest_sizes zs)
    fits (releases line ∷ is) f ts zs = fits is f (Int ∷ rest_types ts) zs
    fits (quits line ∷ is) f ts zs = true
    fits (evaluates_structure a ∷ is) f ts zs = is_structure (sizes_for f) a && fits is f ts (size_of a ∷ zs)
    fits (picks t offset ∷ is) f ts zs = fits is f (t ∷ ts) (rest_sizes zs)
    fits (discards ∷ is) f ts zs = fits is f (Int ∷ rest_types ts) zs
    fits (discards_structure ∷ is) f ts zs = fits is f (Int ∷ ts) (rest_sizes zs)
    fits (chooses_structure a b ∷ is) f ts zs = is_structure (sizes_for f) a && is_structure (sizes_for f) b && size_of a == size_of b && fits is f (rest_types ts) (size_of a ∷ zs)
    fits (copies p size ∷ is) f ts zs = is_place (sizes_for f) size p && fits is f (rest_types ts) (size ∷ zs)
    fits (stores_structure line p ∷ is) f ts zs = has_top zs && is_place (sizes_for f) (top_size zs) p && fits is f (rest_types ts) zs
    fits (passes_structure a ∷ is) f ts zs = is_structure (sizes_for f) a && fits is f (rest_types ts) (size_of a ∷ zs)
    fits (cuts offset size ∷ is) f ts zs = nat_le (offset + size) (top_size zs) && fits is f ts (size ∷ rest_sizes zs)
    fits (lists parts ∷ is) f ts zs = has_top zs && are_parts (sizes_for f) (top_size zs) parts && fits is f ts zs
    fits (places_number offset t ∷ is) f ts zs = has_top zs && nat_le (offset + bytes t) (top_size zs) && fits is f (rest_types ts) zs
    fits (places_structure offset ∷ is) f ts zs = has_top (rest_sizes zs) && nat_le (offset + top_size zs) (second_size zs) && fits is f ts (rest_sizes zs)
    fits (runs s ∷ is) f ts zs = is_typed_statement (sizes_for f) s && (fits is f ts zs && exits_fit is f ts zs)
    fits (branches s ∷ is) f ts zs = is_typed_statement (sizes_for f) s && (fits is f (rest_types ts) zs && exits_fit is f (rest_types ts) zs)
    fits (divides s t ∷ is) f ts zs = is_typed_statement (sizes_for f) s && is_typed_statement (sizes_for f) t && (fits is f (rest_types ts) zs && exits_fit is f (rest_types ts) zs)
    fits (enters items ∷ is) f ts zs = are_typed_items (sizes_for f) items && fits is f ts zs
    fits (goes_on items ∷ is) f ts zs = are_typed_items (sizes_for f) items && (fits is f ts zs && exits_fit is f ts zs)
    fits (ends_block items ∷ is) f ts zs = fits is f ts zs
    fits (leaves items ∷ is) f ts zs = fits is f ts zs
    fits (fills words line v offset ∷ is) f ts zs = has_words (variables_at f) v offset words && fits is f ts zs
    fits (settles line v ∷ is) f ts zs = is_variable f v 0 && holds_address (variables_at f) (home_at f v) && fits is f ts zs
    fits (initial line v t ∷ is) f ts zs = is_variable f v (bytes t) && fits is f (rest_types ts) zs
    fits (initial_structure line v ∷ is) f ts zs = has_top zs && is_variable f v (top_size zs) && fits is f ts (rest_sizes zs)
    fits (dies line v ∷ is) f ts zs = fits is f ts zs
    fits (enters_parameters count v ∷ is) f ts zs = nat_le (v + count) (length (declared_at f)) && fits is f ts zs
    fits (ends_parameters count ∷ is) f ts zs = fits is f ts zs
    fits (leaves_parameters count v ∷ is) f ts zs = fits is f ts zs
    fits (gathers want g count args ∷ is) f ts zs =
        wanted_of want (signature_of g) && same_sizes (sizes_on count zs) (passed_sizes (take count (parameters_at g))) && (starts_thread args want count || are_arguments (sizes_for f) (drop count (parameters_at g)) args) && got want (λ us ws. fits is f us ws) ts (drop count zs)
    fits (adds_number want g count t args ∷ is) f ts zs =
        wanted_of want (signature_of g) && same_sizes (sizes_on (suc count) (bytes t ∷ zs)) (passed_sizes (take (suc count) (parameters_at g)))
        && are_arguments (sizes_for f) (drop (suc count) (parameters_at g)) args && got want (λ us ws. fits is f us ws) (rest_types ts) (drop count zs)
    fits (resumes want caller saved ∷ is) f ts zs = wanted_of want (signature_of f) && same_sizes (sizes_of saved) (variables_at caller) && got want (λ us ws. fits is caller us ws) ts zs
    fits (goes_out by_break ∷ is) f ts zs = exits_fit is f ts zs
    fits (goes_out by_continue ∷ is) f ts zs = exits_fit is f ts zs
    fits (goes_out (by_jump n) ∷ is) f ts zs = exits_fit is f ts zs
    fits (goes_out (by_return how) ∷ is) f ts zs = handed_of how (gives_at f) ts zs && exits_fit is f (types_under how ts) (sizes_under how zs)
    fits (gets want how ∷ is) f ts zs = gets_this want how ts zs && got want (λ us ws. fits is f us ws) (types_under how ts) (sizes_under how zs)
    fits (turns n loop ∷ is) f ts zs = is_loop (sizes_for f) loop && (fits is f ts zs && exits_fit is f ts zs)
    fits (retests n loop ∷ is) f ts zs = is_loop (sizes_for f) loop && (fits is f ts zs && exits_fit is f ts zs)
    fits (repeats n loop ∷ is) f ts zs = is_loop (sizes_for f) loop && (fits is f (rest_types ts) zs && exits_fit is f (rest_types ts) zs)
    fits (loops n loop ∷ is) f ts zs = is_loop (sizes_for f) loop && (fits is f ts zs && exits_fit is f ts zs)
    fits (selects items ∷ is) f ts zs = are_typed_items (sizes_for f) items && (fits is f (rest_types ts) zs && exits_fit is f (rest_types ts) zs)
    fits (switches items ∷ is) f ts zs = fits is f ts zs
    fits (strays ∷ is) f ts zs = true
    fits (ending line x ∷ is) f ts zs = true
    fits (ended x ∷ is) f ts zs = true

    -- with these numbers and structure values a statement before these items can go on elsewhere; the function's end stands among them
    pub exits_fit : List Item → ℕ → List IntegerType → List ℕ → Bool
    exits_fit [] f ts zs = false
    exits_fit (goes_on items ∷ is) f ts zs = are_typed_items (sizes_for f) items && (fits is f ts zs && exits_fit is f ts zs)
    exits_fit (loops n loop ∷ is) f ts zs = is_loop (sizes_for f) loop && (fits is f ts zs && exits_fit is f ts zs)
    exits_fit (switches items ∷ is) f ts zs = fits is f ts zs && exits_fit is f ts zs
    exits_fit (resumes want caller saved ∷ is) f ts zs = wanted_of want (signature_of f) && same_sizes (sizes_of saved) (variables_at caller) && got want (λ us ws. fits is caller us ws) ts zs
    exits_fit (_ ∷ is) f ts zs = exits_fit is f ts zs

abbrev pub types_of : List TypedNumber → List IntegerType
types_of xs = map (λ (x : TypedNumber). x.type) xs

-- the items of a state can be done
abbrev pub Fits : TypedFile → State → Type 0
Fits file s = let r = s.active in fits file s.items r.function (types_of s.values) (sizes_of s.structures) ≡ true

-- the variables are those of the function that runs, by their sizes
abbrev pub IsSized : TypedFile → State → Type 0
IsSized file s = let r = s.active in sizes_of s.variables ≡ variables_at file r.function
