-- What initializers and jumps add to a draft, and bodies of functions.
use Rattle.std.proofs.Common.{◌≡◌, ℕ, ◌+◌, List, [], ◌∷◌, ◌++◌, Some, None, sym, ap, ◌∙◌, arith, append-nil, append_assoc}
use Rattle.c_types.specs.declared.integers.IntegerType.{IntegerType}
use Rattle.c_types.specs.declared.integers.IntegerType.TheVariants.{Int}
use Rattle.c_types.specs.Integers.{bytes}
use Rattle.core_tree.specs.Trees.{Expression, Structure, Statement, returns, returns_structure}
use Rattle.core_tree.specs.Typed as typed_trees
use Rattle.c_meaning.specs.Meaning.{number_type}
use Rattle.goto_prog.specs.declared.code.Instruction.{Instruction}
use Rattle.goto_prog.specs.declared.code.Operation.TheVariants as operations
use Rattle.goto_prog.specs.Nodes.{Nodes, plain}
use Rattle.c_temporaries.specs.Accesses.{home_in}
use Rattle.code_draft.specs.declared.operand.Operand.{Operand}
use Rattle.goto_lower.specs.declared.exits.Exits.{Exits}
use Rattle.lowered_code.specs.Lowering.{Frame, no_ways, leaving, top, structure_registers, at_line, ends, plains, code, structure_code, deeper, initial_store, initial_put, initial_code, leave_parameters_code, parameters_code, death_registers, statement_registers, statement_code, body_code}
use Rattle.lowered_code.specs.Registers.{types, structure_types, initial_types, death_types, statement_types, parameters_types}
use Rattle.code_draft.specs.Drafts.{Listed, next, added, flushed, after_structure, after_temporary, deaths_of, Lowers}
use Rattle.goto_lower.specs.Statements.{typed, begun, body_types, living_parameters, parameter_count, parameters_alive, after_parameters, function_exits, ways_of, Drafted}
use Rattle.lowered_code.proofs.RegisterCounts.{types_length, structure_length, death_length, statement_length}
use Rattle.code_draft.proofs.Drafting.{next_added, adds_more}
use Rattle.goto_lower.proofs.Flushing.{next_typed, plains_append, flushed_draft, flushed_code}
use Rattle.goto_lower.proofs.Living.{parameters_die, ways_function}

-- ---- initializers

-- the value of an expression, into a variable
pub number_stored : (d d1 new : Listed) (e : Expression) (v : Operand) (line x : ℕ) → Lowers d d1 e v
    → new ≡ added d1 (initial_store d1.frame line x (home_in d1.frame.variables x) v.type_ v.register (next d1)) (initial_types d1.frame.variables x)
    → (let n = next d in let m = top d.frame.variables e in
    new ≡ added d (code d.frame e n ++ initial_store d.frame line x (home_in d.frame.variables x) (number_type e) (n + m) (n + (m + 1))) (types d.frame.variables e ++ initial_types d.frame.variables x))
number_stored d d1 new e v line x h same =
    let f = d.frame in
    let n = next d in
    let m = top f.variables e in
    let at : next d1 ≡ n + (m + 1) = ap next h.code_is ∙ next_added d (code f e n) (types f.variables e) ∙ ap (λ k. n + k) (types_length f.variables e) in
    adds_more d d1 new (code f e n) (initial_store f line x (home_in f.variables x) (number_type e) (n + m) (n + (m + 1))) (types f.variables e) (initial_types f.variables x) h.code_is
    (same ∙ (λ i. (let g = (h.code_is i).frame in added d1 (initial_store g line x (home_in g.variables x) (h.value_is i).type_ (h.value_is i).register (at i)) (initial_types g.variables x))))

-- the bytes of a structure value
pub structure_put : (d d1 new : Listed) (a : Structure) (line x size : ℕ) → d1 ≡ after_temporary d a → size ≡ typed_trees.size_of a
    → new ≡ added d1 (initial_put d1.frame line x (home_in d1.frame.variables x) size (next d1)) (initial_types d1.frame.variables x)
    → new ≡ added d (initial_code d.frame line x a (next d)) (structure_types d.frame.variables a ++ initial_types d.frame.variables x)
structure_put d d1 new a line x size first is_size same =
    let f = d.frame in
    let n = next d in
    let m = structure_registers f.variables a in
    let xs = structure_code (deeper f) a n f.free 0 in
    let at : next d1 ≡ n + m = ap next first ∙ next_added d xs (structure_types f.variables a) ∙ ap (λ k. n + k) (structure_length f.variables a) in
    adds_more d d1 new xs (initial_put f line x (home_in f.variables x) (typed_trees.size_of a) (n + m)) (structure_types f.variables a) (initial_types f.variables x) first
    (same ∙ (λ i. (let g = (first i).frame in added d1 (initial_put g line x (home_in g.variables x) (is_size i) (at i)) (initial_types g.variables x))))

-- ---- out of a function

-- code with deaths behind it, in front of nodes
module _ (d : Listed) (x : Exits) (empty : d.instructions ≡ []) where
  returned : (d2 d3 new : Listed) (xs : List Instruction) (ts : List IntegerType) (m : ℕ) (n1 n2 : Nodes) → d2 ≡ added d xs ts → next d2 ≡ m
      → d3 ≡ added d2 (deaths_of d2.frame d2.marks x.return_deaths (next d2)) (death_types d2.frame.variables) → n2 ≡ plains d3.instructions n1 → new ≡ flushed d3
      → (new ≡ typed d (ts ++ death_types d.frame.variables)) × (n2 ≡ plains xs (plains (deaths_of d.frame d.marks x.return_deaths m) n1))
  returned d2 d3 new xs ts m n1 n2 first at second put last =
      let ds = deaths_of d.frame d.marks x.return_deaths m in
      let os = death_types d.frame.variables in
      let all : d3 ≡ added d (xs ++ ds) (ts ++ os) =
      adds_more d d2 d3 xs ds ts os first (second ∙ (λ i. added d2 (deaths_of (first i).frame (first i).marks x.return_deaths (at i)) (death_types (first i).frame.variables))) in (
        flushed_draft d d3 new (xs ++ ds) (ts ++ os) empty all last,
        flushed_code d d3 (xs ++ ds) (ts ++ os) n1 n2 empty all put ∙ plains_append xs ds n1,
      )

  pub drafted_return : (d1 d2 d3 new : Listed) (e : Expression) (v : Operand) (line b size : ℕ) (rest n1 n2 : Nodes) → b ≡ d.frame.result → size ≡ bytes v.type_
      → n1 ≡ plain (at_line d.frame line (operations.Return (Some b))) rest → Lowers d d1 e v
      → d2 ≡ added d1 (at_line d1.frame line (operations.Store b 0 size v.register) ∷ []) []
      → d3 ≡ added d2 (deaths_of d2.frame d2.marks x.return_deaths (next d2)) (death_types d2.frame.variables) → n2 ≡ plains d3.instructions n1 → new ≡ flushed d3
      → Drafted d new rest n2 x (returns line e)
  drafted_return d1 d2 d3 new e v line b size rest n1 n2 is_b is_size shown h second third put last =
      let f = d.frame in
      let n = next d in
      let m = top f.variables e in
      let ts = types f.variables e in
      let store = at_line f line (operations.Store f.result 0 (bytes (number_type e)) (n + m)) in
      let here : d2 ≡ added d (code f e n ++ store ∷ []) ts =
      adds_more d d1 d2 (code f e n) (store ∷ []) ts [] h.code_is
      (second ∙ (λ i. added d1 (at_line (h.code_is i).frame line (operations.Store (is_b i) 0 ((is_size ∙ ap (λ (o : Operand). bytes o.type_) h.value_is) i) (h.value_is i).register) ∷ []) []))
      ∙ (λ i. added d (code f e n ++ store ∷ []) (append-nil ts i)) in
      let at : next d2 ≡ n + (m + 1) = ap next here ∙ next_added d (code f e n ++ store ∷ []) ts ∙ ap (λ k. n + k) (types_length f.variables e) in
      let all = returned d2 d3 new (code f e n ++ store ∷ []) ts (n + (m + 1)) n1 n2 here at third put last in
      let deaths = deaths_of f d.marks x.return_deaths (n + (m + 1)) in
      record {
        draft_is = all.0;
        nodes_are = all.1 ∙ plains_append (code f e n) (store ∷ []) (plains deaths n1)
            ∙ (λ i. plains (code f e n) (plain store (plains deaths ((shown ∙ ap (λ k. plain (at_line f line (operations.Return (Some k))) rest) is_b) i))));
      }

  pub drafted_given : (d1 d2 new : Listed) (a : Structure) (line b : ℕ) (rest n1 n2 : Nodes) → b ≡ d.frame.result
      → n1 ≡ plain (at_line d.frame line (operations.Return (Some b))) rest → d1 ≡ after_structure d a b 0
      → d2 ≡ added d1 (deaths_of d1.frame d1.marks x.return_deaths (next d1)) (death_types d1.frame.variables) → n2 ≡ plains d2.instructions n1 → new ≡ flushed d2
      → Drafted d new rest n2 x (returns_structure line a)
  drafted_given d1 d2 new a line b rest n1 n2 is_b shown first second put last =
      let f = d.frame in
      let n = next d in
      let m = structure_registers f.variables a in
      let ts = structure_types f.variables a in
      let xs = structure_code f a n f.result 0 in
      let here : d1 ≡ added d xs ts = first ∙ (λ i. after_structure d a (is_b i) 0) in
      let at : next d1 ≡ n + m = ap next here ∙ next_added d xs ts ∙ ap (λ k. n + k) (structure_length f.variables a) in
      let all = returned d1 d2 new xs ts (n + m) n1 n2 here at second put last in
      let deaths = deaths_of f d.marks x.return_deaths (n + m) in
      record {
        draft_is = all.0;
        nodes_are = all.1 ∙ (λ i. plains xs (plains deaths ((shown ∙ ap (λ k. plain (at_line f line (operations.Return (Some k))) rest) is_b) i)));
      }

-- ---- bodies

module _ (d : Listed) (line count : ℕ) (body : Statement) (fresh : d ≡ begun d.frame) where
  abbrev f : Frame
  f = d.frame

  abbrev inside : ℕ
  inside = 1 + death_registers f.variables

  abbrev out : ℕ → List Instruction
  out = leave_parameters_code f line count 0

  abbrev behind : Nodes
  behind = plain (at_line f line (operations.Return None)) (plain (at_line f line (operations.Assert 0)) ends)

  pub body_made : (d1 d2 d3 d4 d5 new : Listed) (living : ℕ) (n1 n2 n3 n4 : Nodes) → n1 ≡ behind → d1 ≡ added d [] (Int ∷ [])
      → d2 ≡ living_parameters d1 line count 0 → living ≡ parameter_count d1.frame.variables count 0
      → d3 ≡ typed d2 (death_types d2.frame.variables) → n2 ≡ plains (deaths_of d2.frame d2.marks living (next d2)) n1
      → Drafted d3 d4 n2 n3 (function_exits living) body → d5 ≡ after_parameters d4 line count 0 → n4 ≡ plains d5.instructions n3 → new ≡ flushed d5
      → (new.registers ≡ body_types f.variables count body) × (n4 ≡ body_code f line count body)
  body_made d1 d2 d3 d4 d5 new living n1 n2 n3 n4 ended first second is_living third left h fifth put last =
      let vs = f.variables in
      let alive = parameters_alive vs line count 0 [] in
      let os = death_types vs in
      let ts = statement_types vs body in
      let one : d1 ≡ record { frame = f; instructions = []; registers = Int ∷ []; marks = [] } = first ∙ (λ i. added (fresh i) [] (Int ∷ [])) in
      let few : living ≡ parameter_count vs count 0 = is_living ∙ (λ i. parameter_count (one i).frame.variables count 0) in
      let two : d2 ≡ record { frame = f; instructions = []; registers = Int ∷ []; marks = alive } = second ∙ (λ i. living_parameters (one i) line count 0) in
      let three : d3 ≡ record { frame = f; instructions = []; registers = Int ∷ os; marks = alive } = third ∙ (λ i. typed (two i) (death_types (two i).frame.variables)) in
      let out_is : n2 ≡ plains (out 1) behind =
      left ∙ (λ i. plains (deaths_of (two i).frame (two i).marks (few i) (next (two i))) (ended i)) ∙ ap (λ xs. plains xs behind) (parameters_die f line count [] 1) in
      let at : next d3 ≡ inside = omega (arith, ap next three, death_length vs) in
      let ways : ways_of (function_exits living) d3.frame d3.marks ≡ leaving out no_ways = (λ i. ways_of (function_exits (few i)) (three i).frame (three i).marks) ∙ sym (ways_function f line count) in
      let made : n3 ≡ statement_code f 1 (leaving out no_ways) body inside (plains (out 1) behind) = h.nodes_are ∙ (λ i. statement_code (three i).frame 1 (ways i) body (at i) (out_is i)) in
      let four : d4 ≡ typed d3 ts = h.draft_is ∙ (λ i. typed d3 (statement_types (three i).frame.variables body)) in
      let m = inside + statement_registers vs body in
      let at4 : next d4 ≡ m = omega (arith, next_typed d3 d4 ts four, at, statement_length vs body) in
      let whole : d4 ≡ record { frame = f; instructions = []; registers = Int ∷ (os ++ ts); marks = alive } = four ∙ (λ i. typed (three i) ts) in
      let us = parameters_types vs count in
      let five : d5 ≡ added d4 (parameters_code f line count 0 m) us = fifth ∙ (λ i. added d4 (parameters_code (whole i).frame line count 0 (at4 i)) (parameters_types (whole i).frame.variables count)) in (
        (λ i. (last i).registers) ∙ (λ i. (five i).registers) ∙ (λ i. (whole i).registers ++ us) ∙ ap (λ rs. Int ∷ rs) (append_assoc os ts us),
        flushed_code d4 d5 (parameters_code f line count 0 m) us n3 n4 (λ i. (whole i).instructions) five put ∙ ap (plains (parameters_code f line count 0 m)) made,
      )
