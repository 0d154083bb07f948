-- What each structure value adds to a draft, by what its parts add.
use Rattle.std.proofs.Common.{◌≡◌, ℕ, ◌+◌, List, [], ◌∷◌, ◌++◌, length, drop, ◌≤◌, Some, None, refl, sym, ap, ◌∙◌, arith, append-nil, length-append}
use Rattle.c_types.specs.declared.integers.IntegerType.{IntegerType}
use Rattle.c_types.specs.declared.integers.IntegerType.TheVariants.{Int, UnsignedChar}
use Rattle.c_types.specs.Integers.{bytes}
use Rattle.std.proofs.lemmas.List.{drop_all}
use Rattle.core_tree.specs.declared.expression.CorePart.{CorePart}
use Rattle.core_tree.specs.Trees.{parts_of, Place, Expression, constant, part, discard_structure, Structure, copy, choose, put, follow, section, list, string, Parts, number_part, structure_part}
use Rattle.core_tree.specs.Typed.{size_of}
use Rattle.c_meaning.specs.Meaning.{place_line}
use Rattle.c_temporaries.specs.Accesses.{access}
use Rattle.goto_prog.specs.declared.code.Instruction.{Instruction}
use Rattle.goto_prog.specs.declared.code.Operation.TheVariants as operations
use Rattle.code_draft.specs.declared.operand.Operand.{Operand}
use Rattle.code_draft.specs.declared.operand.Way.{Way}
use Rattle.lowered_code.specs.Lowering.{Frame, deeper, held, place_top, structure_registers, structure_line, at_line, if_evaluated, place_code, fetch_code, put_code, structure_code, parts_code, text_code}
use Rattle.lowered_code.specs.Registers.{held_types, place_types, structure_types, parts_types}
use Rattle.code_draft.specs.Drafts.{Listed, next, added, landed, operand, after_structure, after_temporary, after_parts, after_text, Reaches, Lowers}
use Rattle.lowered_code.proofs.RegisterCounts.{structure_length}
use Rattle.code_draft.proofs.Drafting.{next_added, adds_more, next_same, behind_one, behind_way, same_fetch, same_put, lands, length_added}

nothing_more : (d : Listed) → added d [] [] ≡ d
nothing_more d = λ i. record d { instructions = append-nil d.instructions i; registers = append-nil d.registers i }

-- ---- strings

pub text_whole : (d all : Listed) (line : ℕ) (text : List ℕ) (n r into to : ℕ) → length text ≤ n → after_text d line (drop n text) r into to ≡ all → d ≡ all
text_whole d all line text n r into to past same =
    sym (nothing_more d) ∙ sym (λ i. after_text d line (drop_all n text past i) r into to) ∙ same

pub parts_whole : (d all : Listed) (line : ℕ) (ps : List CorePart) (n into to : ℕ) → length ps ≤ n → after_parts d line (parts_of (drop n ps)) into to ≡ all → d ≡ all
parts_whole d all line ps n into to past same =
    sym (nothing_more d) ∙ sym (λ i. after_parts d line (parts_of (drop_all n ps past i)) into to) ∙ same

pub character_adds : (d d1 new : Listed) (line c r into to : ℕ) (rest : List ℕ)
    → d1 ≡ added d (at_line d.frame line (operations.Constant r c) ∷ []) []
    → new ≡ added d1 (at_line d1.frame line (operations.Store into to 1 r) ∷ []) []
    → after_text new line rest r into (to + 1) ≡ after_text d line (c ∷ rest) r into to
character_adds d d1 new line c r into to rest first second =
    let set = at_line d.frame line (operations.Constant r c) in
    let store = at_line d.frame line (operations.Store into to 1 r) in
    let both : new ≡ added d (set ∷ store ∷ []) [] =
    adds_more d d1 new (set ∷ []) (store ∷ []) [] [] first (second ∙ (λ i. added d1 (at_line (first i).frame line (operations.Store into to 1 r) ∷ []) [])) in
    adds_more d new (after_text new line rest r into (to + 1)) (set ∷ store ∷ []) (text_code d.frame line rest r into (to + 1)) [] [] both
    (λ i. added new (text_code (both i).frame line rest r into (to + 1)) [])

-- ---- the first block that is free

pub temporary_adds : (d d1 d2 new : Listed) (a : Structure)
    → d1 ≡ record d { frame = deeper d.frame } → d2 ≡ after_structure d1 a d.frame.free 0 → new ≡ record d2 { frame = d.frame }
    → new ≡ after_temporary d a
temporary_adds d d1 d2 new a first second last =
    last ∙ (λ i. record (second i) { frame = d.frame }) ∙ (λ i. record (after_structure (first i) a d.frame.free 0) { frame = d.frame })

-- what stands behind a structure value in that block, by the number of the next register
pub behind_temporary : (d d1 new : Listed) (a : Structure) (tail : Frame → ℕ → ℕ → List Instruction) (ts : List IntegerType) (r block : ℕ)
    → d1 ≡ after_temporary d a → r ≡ next d1 → block ≡ d.frame.free → new ≡ added d1 (tail d1.frame block r) ts
    → (let vs = d.frame.variables in
    new ≡ added d (structure_code (deeper d.frame) a (next d) d.frame.free 0 ++ tail d.frame d.frame.free (next d + structure_registers vs a)) (structure_types vs a ++ ts))
behind_temporary d d1 new a tail ts r block first at is_block same =
    let vs = d.frame.variables in
    let from : next d1 ≡ next d + structure_registers vs a =
    ap next first ∙ next_added d (structure_code (deeper d.frame) a (next d) d.frame.free 0) (structure_types vs a) ∙ ap (λ n. next d + n) (structure_length vs a) in
    adds_more d d1 new (structure_code (deeper d.frame) a (next d) d.frame.free 0) (tail d.frame d.frame.free (next d + structure_registers vs a)) (structure_types vs a) ts first
    (same ∙ (λ i. added d1 (tail (first i).frame (is_block i) ((at ∙ from) i)) ts))

pub lowers_member : (d d1 new : Listed) (a : Structure) (x : Operand) (r block line offset : ℕ) (t : IntegerType)
    → d1 ≡ after_temporary d a → r ≡ next d1 → block ≡ d.frame.free
    → new ≡ added d1 (at_line d1.frame line (operations.Load r t block offset) ∷ []) (t ∷ []) → x ≡ operand (next d1) t line
    → Lowers d new (part line t offset a) x
lowers_member d d1 new a x r block line offset t first at is_block same v =
    let vs = d.frame.variables in
    let from : next d1 ≡ next d + structure_registers vs a =
    ap next first ∙ next_added d (structure_code (deeper d.frame) a (next d) d.frame.free 0) (structure_types vs a) ∙ ap (λ n. next d + n) (structure_length vs a) in
    record {
      code_is = behind_temporary d d1 new a (λ f b m. at_line f line (operations.Load m t b offset) ∷ []) (t ∷ []) r block first at is_block same;
      value_is = v ∙ (λ i. operand (from i) t line);
    }

pub lowers_discarded : (d d1 new : Listed) (a : Structure) (x : Operand) (line : ℕ)
    → d1 ≡ after_temporary d a → line ≡ structure_line a → Lowers d1 new (constant line Int 0) x
    → Lowers d new (discard_structure a) x
lowers_discarded d d1 new a x line first is_line k =
    let vs = d.frame.variables in
    let from : next d1 ≡ next d + structure_registers vs a =
    ap next first ∙ next_added d (structure_code (deeper d.frame) a (next d) d.frame.free 0) (structure_types vs a) ∙ ap (λ n. next d + n) (structure_length vs a) in
    let last : next d1 + 0 ≡ next d + structure_registers vs a = omega (arith, from) in
    record {
      code_is = behind_temporary d d1 new a (λ f b m. at_line f (structure_line a) (operations.Constant m 0) ∷ []) (Int ∷ []) (next d1) d.frame.free first refl refl
          (k.code_is ∙ (λ i. added d1 (at_line d1.frame (is_line i) (operations.Constant (next d1) 0) ∷ []) (Int ∷ [])));
      value_is = k.value_is ∙ (λ i. operand (last i) Int (is_line i));
    }

-- ---- structure values

module _ (into to : ℕ) where
  pub copy_adds : (d d1 new : Listed) (x : Place) (w : Way) (line size : ℕ)
      → line ≡ place_line x → Reaches d d1 x w
      → new ≡ added d1 (fetch_code d1.frame line w.access w.pointer size into to) []
      → new ≡ after_structure d (copy x size) into to
  copy_adds d d1 new x w line size is_line h same =
      let f = d.frame in
      let vs = f.variables in
      let kinds = held_types (access vs x) (place_types vs x) in
      behind_way d d1 new x w (λ g u n. fetch_code g (place_line x) u.access u.pointer size into to) (λ g. []) h (same ∙ (λ i. added d1 (fetch_code d1.frame (is_line i) w.access w.pointer size into to) []))
      ∙ (λ i. added d (if_evaluated (access vs x) (place_code f x (next d)) ++ same_fetch f (place_line x) (access vs x) (next d + place_top vs x) size into to i) (append-nil kinds i))

  pub put_adds : (d d1 d2 new : Listed) (x : Place) (w : Way) (a : Structure) (line size : ℕ)
      → Reaches d d1 x w → d2 ≡ after_structure d1 a into to → size ≡ size_of a
      → new ≡ added d2 (put_code d2.frame line w.access w.pointer size into to) []
      → new ≡ after_structure d (put line x a) into to
  put_adds d d1 d2 new x w a line size h second is_size same =
      let f = d.frame in
      let vs = f.variables in
      let kinds = held_types (access vs x) (place_types vs x) in
      let inner : new ≡ added d1 (structure_code d1.frame a (next d1) into to ++ put_code d1.frame line w.access w.pointer (size_of a) into to) (structure_types d1.frame.variables a) =
      adds_more d1 d2 new (structure_code d1.frame a (next d1) into to) (put_code d1.frame line w.access w.pointer (size_of a) into to) (structure_types d1.frame.variables a) [] second
      (same ∙ (λ i. added d2 (put_code (second i).frame line w.access w.pointer (is_size i) into to) []))
      ∙ (λ i. added d1 (structure_code d1.frame a (next d1) into to ++ put_code d1.frame line w.access w.pointer (size_of a) into to) (append-nil (structure_types d1.frame.variables a) i)) in
      behind_way d d1 new x w (λ g u n. structure_code g a n into to ++ put_code g line u.access u.pointer (size_of a) into to) (λ g. structure_types g.variables a) h inner
      ∙ (λ i. added d (if_evaluated (access vs x) (place_code f x (next d)) ++ (structure_code f a (next d + held vs x) into to ++ same_put f line (access vs x) (next d + place_top vs x) (size_of a) into to i)) (kinds ++ structure_types vs a))

  pub follow_adds : (d d1 new : Listed) (e : Expression) (x : Operand) (a : Structure) (line : ℕ)
      → Lowers d d1 e x → new ≡ after_structure d1 a into to
      → new ≡ after_structure d (follow line e a) into to
  follow_adds d d1 new e x a line h same = behind_one d d1 new e x (next d1) (λ f u m. structure_code f a m into to) (λ f u. structure_types f.variables a) h refl same

  pub section_adds : (d d1 new : Listed) (a : Structure) (line offset size block : ℕ)
      → d1 ≡ after_temporary d a → block ≡ d.frame.free
      → new ≡ added d1 (at_line d1.frame line (operations.CopyBytes into to block offset size) ∷ []) []
      → new ≡ after_structure d (section line offset size a) into to
  section_adds d d1 new a line offset size block first is_block same =
      behind_temporary d d1 new a (λ f b m. at_line f line (operations.CopyBytes into to b offset size) ∷ []) [] (next d1) block first refl is_block same
      ∙ (λ i. added d (structure_code d.frame (section line offset size a) (next d) into to) (append-nil (structure_types d.frame.variables a) i))

  pub list_adds : (d d1 new : Listed) (ps : Parts) (line size : ℕ)
      → d1 ≡ added d (at_line d.frame line (operations.CopyBytes into to d.frame.zeros 0 size) ∷ []) []
      → new ≡ after_parts d1 line ps into to
      → new ≡ after_structure d (list line size ps) into to
  list_adds d d1 new ps line size first same =
      let clear = at_line d.frame line (operations.CopyBytes into to d.frame.zeros 0 size) in
      let from : next d1 ≡ next d = next_same d d1 (clear ∷ []) first in
      adds_more d d1 new (clear ∷ []) (parts_code d.frame line ps (next d) into to) [] (parts_types d.frame.variables ps) first
      (same ∙ (λ i. added d1 (parts_code (first i).frame line ps (from i) into to) (parts_types (first i).frame.variables ps)))

  pub string_adds : (d d1 d2 new : Listed) (text : List ℕ) (line size r : ℕ)
      → d1 ≡ added d (at_line d.frame line (operations.CopyBytes into to d.frame.zeros 0 size) ∷ []) []
      → d2 ≡ added d1 [] (UnsignedChar ∷ []) → r ≡ next d1
      → new ≡ after_text d2 line text r into to
      → new ≡ after_structure d (string line size text) into to
  string_adds d d1 d2 new text line size r first second at same =
      let clear = at_line d.frame line (operations.CopyBytes into to d.frame.zeros 0 size) in
      let from : next d1 ≡ next d = next_same d d1 (clear ∷ []) first in
      let frame : d2.frame ≡ d.frame = (λ i. (second i).frame) ∙ (λ i. (first i).frame) in
      adds_more d d1 new (clear ∷ []) (text_code d.frame line text (next d) into to) [] (UnsignedChar ∷ []) first
      (adds_more d1 d2 new [] (text_code d.frame line text (next d) into to) (UnsignedChar ∷ []) [] second
      (same ∙ (λ i. added d2 (text_code (frame i) line text ((at ∙ from) i) into to) [])))

  pub choose_adds : (d d1 d2 d3 d4 d5 d6 new : Listed) (test : Expression) (a b : Structure) (x : Operand) (skip over line : ℕ) (hole gap : Instruction)
      → Lowers d d1 test x
      → d2 ≡ added d1 (hole ∷ []) [] → skip ≡ length d1.instructions
      → d3 ≡ after_structure d2 a into to
      → d4 ≡ added d3 (gap ∷ []) [] → over ≡ length d3.instructions
      → d5 ≡ landed d4 skip line (Some x.register)
      → d6 ≡ after_structure d5 b into to
      → new ≡ landed d6 over line None
      → new ≡ after_structure d (choose line test a b) into to
  choose_adds d d1 d2 d3 d4 d5 d6 new test a b x skip over line hole gap h first at second third where_over fourth fifth last =
      let f = d1.frame in
      let vs = f.variables in
      let m = next d1 in
      let f2 : d2.frame ≡ f = λ i. (first i).frame in
      let from : next d2 ≡ m = next_same d1 d2 (hole ∷ []) first in
      let yes = structure_code f a m into to in
      let ts = structure_types vs a in
      let second' : d3 ≡ added d2 yes ts = second ∙ (λ i. added d2 (structure_code (f2 i) a (from i) into to) (structure_types (f2 i).variables a)) in
      let before : d4 ≡ added d1 (hole ∷ (yes ++ gap ∷ [])) (ts ++ []) =
      adds_more d1 d2 d4 (hole ∷ []) (yes ++ gap ∷ []) [] (ts ++ []) first (adds_more d2 d3 d4 yes (gap ∷ []) ts [] second' third) in
      let count : length (yes ++ gap ∷ []) ≡ length yes + 1 = length-append yes (gap ∷ []) in
      let jump1 = at_line f line (operations.SkipIfZero x.register (length yes + 1)) in
      let jumps : d5 ≡ added d1 (jump1 ∷ (yes ++ gap ∷ [])) (ts ++ []) =
      lands d1 d4 d5 hole (yes ++ gap ∷ []) (ts ++ []) skip line (Some x.register) at before fourth
      ∙ (λ i. added d1 (at_line f line (operations.SkipIfZero x.register (count i)) ∷ (yes ++ gap ∷ [])) (ts ++ [])) in
      let e = added d1 (jump1 ∷ yes) ts in
      let after_yes : d5 ≡ added e (gap ∷ []) [] = jumps ∙ sym (adds_more d1 e (added e (gap ∷ []) []) (jump1 ∷ yes) (gap ∷ []) ts [] refl refl) in
      let from5 : next d5 ≡ m + structure_registers vs a = next_same e d5 (gap ∷ []) after_yes ∙ next_added d1 (jump1 ∷ yes) ts ∙ ap (λ n. m + n) (structure_length vs a) in
      let f5 : d5.frame ≡ f = λ i. (jumps i).frame in
      let no = structure_code f b (m + structure_registers vs a) into to in
      let us = structure_types vs b in
      let all : d6 ≡ added e (gap ∷ no) us =
      adds_more e d5 d6 (gap ∷ []) no [] us after_yes (fifth ∙ (λ i. added d5 (structure_code (f5 i) b (from5 i) into to) (structure_types (f5 i).variables b))) in
      let long : length d3.instructions ≡ length e.instructions =
      (λ i. length (second' i).instructions) ∙ length_added d2 yes ts ∙ (λ i. length (first i).instructions + length yes) ∙ (λ i. length_added d1 (hole ∷ []) [] i + length yes)
      ∙ (let same : length d1.instructions + length (hole ∷ []) + length yes ≡ length d1.instructions + length (jump1 ∷ yes) = omega arith in same)
      ∙ sym (length_added d1 (jump1 ∷ yes) ts) in
      let whole : new ≡ added d1 (jump1 ∷ (yes ++ at_line f line (operations.Skip (length no)) ∷ no)) (ts ++ us) =
      adds_more d1 e new (jump1 ∷ yes) (at_line f line (operations.Skip (length no)) ∷ no) ts us refl
      (lands e d6 new gap no us over line None (where_over ∙ long) all last) in
      behind_one d d1 new test x m (λ g u n.
      let first_code = structure_code g a n into to in
      let second_code = structure_code g b (n + structure_registers g.variables a) into to in
      at_line g line (operations.SkipIfZero u.register (length first_code + 1)) ∷ (first_code ++ at_line g line (operations.Skip (length second_code)) ∷ second_code)) (λ g u. structure_types g.variables a ++ structure_types g.variables b) h refl whole

  -- ---- parts

  pub number_adds : (d d1 new : Listed) (e : Expression) (x : Operand) (line offset o count : ℕ) (rest : Parts)
      → Lowers d d1 e x → o ≡ to + offset → count ≡ bytes x.type_
      → new ≡ added d1 (at_line d1.frame line (operations.Store into o count x.register) ∷ []) []
      → after_parts new line rest into to ≡ after_parts d line (number_part offset e rest) into to
  number_adds d d1 new e x line offset o count rest h is_o is_count same =
      let store : Frame → Operand → Instruction = λ g u. at_line g line (operations.Store into (to + offset) (bytes u.type_) u.register) in
      let same' : new ≡ added d1 (store d1.frame x ∷ []) [] = same ∙ (λ i. added d1 (at_line d1.frame line (operations.Store into (is_o i) (is_count i) x.register) ∷ []) []) in
      let at : next new ≡ next d1 = next_same d1 new (store d1.frame x ∷ []) same' in
      behind_one d d1 (after_parts new line rest into to) e x (next d1) (λ g u m. store g u ∷ parts_code g line rest m into to) (λ g u. parts_types g.variables rest) h refl
      (adds_more d1 new (after_parts new line rest into to) (store d1.frame x ∷ []) (parts_code d1.frame line rest (next d1) into to) [] (parts_types d1.frame.variables rest) same'
      (λ i. added new (parts_code (same' i).frame line rest (at i) into to) (parts_types (same' i).frame.variables rest)))

  pub structure_adds : (d new : Listed) (a : Structure) (line offset o : ℕ) (rest : Parts)
      → o ≡ to + offset → new ≡ after_structure d a into o
      → after_parts new line rest into to ≡ after_parts d line (structure_part offset a rest) into to
  structure_adds d new a line offset o rest is_o same =
      let f = d.frame in
      let same' : new ≡ after_structure d a into (to + offset) = same ∙ (λ i. after_structure d a into (is_o i)) in
      let vs = f.variables in
      let at : next new ≡ next d + structure_registers vs a = ap next same' ∙ next_added d (structure_code f a (next d) into (to + offset)) (structure_types vs a) ∙ ap (λ n. next d + n) (structure_length vs a) in
      adds_more d new (after_parts new line rest into to) (structure_code f a (next d) into (to + offset)) (parts_code f line rest (next d + structure_registers vs a) into to) (structure_types vs a) (parts_types vs rest) same'
      (λ i. added new (parts_code (same' i).frame line rest (at i) into to) (parts_types (same' i).frame.variables rest))
