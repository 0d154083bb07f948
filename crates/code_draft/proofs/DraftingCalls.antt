-- What calls and their arguments add to a draft.
use Rattle.std.proofs.Common.{◌≡◌, ℕ, ◌+◌, ◌≤◌, Bool, List, [], ◌∷◌, ◌++◌, length, drop, refl, sym, ap, ◌∙◌, arith, append-nil}
use Rattle.std.specs.Prelude.{Result, Ok, Err, IfOk}
use Rattle.std.proofs.lemmas.List.{drop_all}
use Rattle.c_types.specs.declared.integers.IntegerType.{IntegerType}
use Rattle.c_types.specs.declared.integers.IntegerType.TheVariants.{Int}
use Rattle.c_types.specs.declared.types.ValueType.{ValueType}
use Rattle.c_types.specs.Integers.{bytes}
use Rattle.core_tree.specs.declared.expression.CoreArgument.{CoreArgument}
use Rattle.core_tree.specs.declared.expression.CoreArgument as arguments
use Rattle.core_tree.specs.Trees.{Expression, call, Structure, give, Arguments, number_argument, structure_argument, arguments_of}
use Rattle.c_meaning.specs.Meaning.{integer_of}
use Rattle.goto_prog.specs.declared.code.Instruction.{Instruction}
use Rattle.goto_prog.specs.declared.code.Operation.TheVariants as operations
use Rattle.code_draft.specs.declared.operand.Operand.{Operand}
use Rattle.code_draft.specs.declared.operand.Passed.{Passed}
use Rattle.c_temporaries.specs.Temporaries.{value_size}
use Rattle.lowered_code.specs.Lowering.{Frame, deeper_by, argument_count, arguments_registers, structure_registers, at_line, use_code, call_code, taken_code, structure_code, arguments_code}
use Rattle.lowered_code.specs.Registers.{structure_types, arguments_types}
use Rattle.code_draft.specs.Drafts.{Listed, next, added, operand, after, value_in, after_structure, after_arguments, after_passed, Lowers}
use Rattle.lowered_code.proofs.RegisterCounts.{structure_length, arguments_length}
use Rattle.code_draft.proofs.Drafting.{next_added, adds_more, next_same, behind_one}

-- ---- arguments

pub argument_length : (xs : List CoreArgument) → argument_count (arguments_of xs) ≡ length xs
argument_length [] = refl
argument_length (arguments.Number' p e ∷ xs) = omega (arith, argument_length xs)
argument_length (arguments.Structure' p a ∷ xs) = omega (arith, argument_length xs)

nothing_more : (d : Listed) → added d [] [] ≡ d
nothing_more d = λ i. record d { instructions = append-nil d.instructions i; registers = append-nil d.registers i }

pub arguments_whole : (d all : Listed) (xs : List CoreArgument) (n block : ℕ) → length xs ≤ n → after_arguments d (arguments_of (drop n xs)) block ≡ all → d ≡ all
arguments_whole d all xs n block past same =
    sym (nothing_more d) ∙ sym (λ i. after_arguments d (arguments_of (drop_all n xs past i)) block) ∙ same

pub number_argument_adds : (d d1 new : Listed) (e : Expression) (x : Operand) (block count : ℕ) (rest : Arguments)
    → Lowers d d1 e x → count ≡ bytes x.type_
    → new ≡ added d1 (at_line d1.frame x.line (operations.Store block 0 count x.register) ∷ []) []
    → after_arguments new rest (block + 1) ≡ after_arguments d (number_argument e rest) block
number_argument_adds d d1 new e x block count rest h is_count same =
    let store : Frame → Operand → Instruction = λ g u. at_line g u.line (operations.Store block 0 (bytes u.type_) u.register) in
    let same' : new ≡ added d1 (store d1.frame x ∷ []) [] = same ∙ (λ i. added d1 (at_line d1.frame x.line (operations.Store block 0 (is_count i) x.register) ∷ []) []) in
    let at : next new ≡ next d1 = next_same d1 new (store d1.frame x ∷ []) same' in
    behind_one d d1 (after_arguments new rest (block + 1)) e x (next d1) (λ g u m. store g u ∷ arguments_code g rest m (block + 1)) (λ g u. arguments_types g.variables rest) h refl
    (adds_more d1 new (after_arguments new rest (block + 1)) (store d1.frame x ∷ []) (arguments_code d1.frame rest (next d1) (block + 1)) [] (arguments_types d1.frame.variables rest) same'
    (λ i. added new (arguments_code (same' i).frame rest (at i) (block + 1)) (arguments_types (same' i).frame.variables rest)))

pub structure_argument_adds : (d new : Listed) (a : Structure) (block : ℕ) (rest : Arguments)
    → new ≡ after_structure d a block 0
    → after_arguments new rest (block + 1) ≡ after_arguments d (structure_argument a rest) block
structure_argument_adds d new a block rest same =
    let f = d.frame in
    let vs = f.variables in
    let at : next new ≡ next d + structure_registers vs a = ap next same ∙ next_added d (structure_code f a (next d) block 0) (structure_types vs a) ∙ ap (λ n. next d + n) (structure_length vs a) in
    adds_more d new (after_arguments new rest (block + 1)) (structure_code f a (next d) block 0) (arguments_code f rest (next d + structure_registers vs a) (block + 1)) (structure_types vs a) (arguments_types vs rest) same
    (λ i. added new (arguments_code (same i).frame rest (at i) (block + 1)) (arguments_types (same i).frame.variables rest))

-- ---- calls

pub passed_adds : (d d1 d2 new : Listed) (args : Arguments) (free : ℕ)
    → d1 ≡ record d { frame = record d.frame { free = free } } → free ≡ d.frame.free + (argument_count args + 1)
    → d2 ≡ after_arguments d1 args d.frame.free → new ≡ record d2 { frame = record d2.frame { free = d.frame.free } }
    → new ≡ after_passed d args
passed_adds d d1 d2 new args free first is_free second last =
    let first' : d1 ≡ record d { frame = deeper_by (argument_count args + 1) d.frame } = first ∙ (λ i. record d { frame = record d.frame { free = is_free i } }) in
    let whole : d2 ≡ after_arguments (record d { frame = deeper_by (argument_count args + 1) d.frame }) args d.frame.free = second ∙ (λ i. after_arguments (first' i) args d.frame.free) in
    last ∙ (λ i. record (whole i) { frame = record (whole i).frame { free = d.frame.free } })

-- the instructions of a call, over the blocks of its arguments
abbrev pub calling : Frame → (line callee : ℕ) → Bool → (size : ℕ) → Passed → (r : ℕ) → List Instruction
calling f line callee used size p r =
    at_line f line (operations.CopyBytes p.into 0 f.zeros 0 size)
    ∷ at_line f line (operations.Call callee p.first p.count p.into r)
    ∷ use_code f line used r

abbrev pub passed_of : Listed → Arguments → Passed
passed_of d args = record { first = d.frame.free; count = argument_count args; into = d.frame.free + argument_count args }

-- a call, and what follows on it
called : (d d1 d2 new : Listed) (args : Arguments) (p : Passed) (line callee size : ℕ) (used : Bool) (tail : Frame → (block n : ℕ) → Instruction) (ts : List IntegerType)
    → d1 ≡ after_passed d args → p ≡ passed_of d args
    → d2 ≡ added d1 (calling d1.frame line callee used size p (next d1)) (Int ∷ [])
    → new ≡ added d2 (tail d2.frame p.into (next d2) ∷ []) ts
    → (let r = next d + arguments_registers d.frame.variables args in
    let count = argument_count args in
    new ≡ added d (arguments_code (deeper_by (count + 1) d.frame) args (next d) d.frame.free ++ (call_code d.frame line callee used size count r ++ tail d.frame (d.frame.free + count) (r + 1) ∷ [])) (arguments_types d.frame.variables args ++ (Int ∷ ts)))
called d d1 d2 new args p line callee size used tail ts first is_passed second third =
    let f = d.frame in
    let vs = f.variables in
    let r = next d + arguments_registers vs args in
    let count = argument_count args in
    let args_code = arguments_code (deeper_by (count + 1) f) args (next d) f.free in
    let from : next d1 ≡ r = ap next first ∙ next_added d args_code (arguments_types vs args) ∙ ap (λ n. next d + n) (arguments_length vs args) in
    let second' : d2 ≡ added d1 (call_code f line callee used size count r) (Int ∷ []) =
    second ∙ (λ i. added d1 (calling (first i).frame line callee used size (is_passed i) (from i)) (Int ∷ [])) in
    let f2 : d2.frame ≡ f = (λ i. (second' i).frame) ∙ (λ i. (first i).frame) in
    let next2 : next d2 ≡ r + 1 = omega (arith, ap next second', next_added d1 (call_code f line callee used size count r) (Int ∷ []), from) in
    let third' : new ≡ added d2 (tail f (f.free + count) (r + 1) ∷ []) ts = third ∙ (λ i. added d2 (tail (f2 i) (is_passed i).into (next2 i) ∷ []) ts) in
    adds_more d d1 new args_code (call_code f line callee used size count r ++ tail f (f.free + count) (r + 1) ∷ []) (arguments_types vs args) (Int ∷ ts) first
    (adds_more d1 d2 new (call_code f line callee used size count r) (tail f (f.free + count) (r + 1) ∷ []) (Int ∷ []) ts second' third')

pub lowers_call : (d d1 d2 new : Listed) (args : Arguments) (p : Passed) (line callee size : ℕ) (used : Bool) (t : ValueType) (x : Operand)
    → d1 ≡ after_passed d args → p ≡ passed_of d args → size ≡ value_size t
    → d2 ≡ added d1 (calling d1.frame line callee used size p (next d1)) (Int ∷ [])
    → new ≡ added d2 (taken_code d2.frame line t p.into (next d2) ∷ []) (integer_of t ∷ []) → x ≡ operand (next d2) (integer_of t) line
    → Lowers d new (call line callee used t args) x
lowers_call d d1 d2 new args p line callee size used t x first is_passed is_size second third v =
    let count = argument_count args in
    let args_code = arguments_code (deeper_by (count + 1) d.frame) args (next d) d.frame.free in
    let vs = d.frame.variables in
    let from : next d1 ≡ next d + arguments_registers vs args = ap next first ∙ next_added d args_code (arguments_types vs args) ∙ ap (λ n. next d + n) (arguments_length vs args) in
    let next2 : next d2 ≡ next d + (arguments_registers vs args + 1) = omega (arith, ap next second, next_added d1 (calling d1.frame line callee used size p (next d1)) (Int ∷ []), from) in
    record {
      code_is = called d d1 d2 new args p line callee (value_size t) used (λ g b n. taken_code g line t b n) (integer_of t ∷ []) first is_passed
          (second ∙ (λ i. added d1 (calling d1.frame line callee used (is_size i) p (next d1)) (Int ∷ []))) third;
      value_is = v ∙ (λ i. operand (next2 i) (integer_of t) line);
    }

pub give_adds : (into to : ℕ) (d d1 d2 new : Listed) (args : Arguments) (p : Passed) (line callee size : ℕ) (used : Bool)
    → d1 ≡ after_passed d args → p ≡ passed_of d args
    → d2 ≡ added d1 (calling d1.frame line callee used size p (next d1)) (Int ∷ [])
    → new ≡ added d2 (at_line d2.frame line (operations.CopyBytes into to p.into 0 size) ∷ []) []
    → new ≡ after_structure d (give line callee used size args) into to
give_adds into to d d1 d2 new args p line callee size used first is_passed second third =
    called d d1 d2 new args p line callee size used (λ g b n. at_line g line (operations.CopyBytes into to b 0 size)) [] first is_passed second third

pub lowers_same : {E : Type 0} (r : Result Operand E) (old new : Listed) (a b : Expression) → a ≡ b → IfOk r (λ x. Lowers old new a x) → IfOk r (λ x. Lowers old new b x)
lowers_same (Ok x) old new a b same h = record { code_is = h.code_is ∙ ap (λ (e : Expression). after old e) same; value_is = h.value_is ∙ ap (λ (e : Expression). value_in old e) same }
lowers_same (Err e) old new a b same h = h
