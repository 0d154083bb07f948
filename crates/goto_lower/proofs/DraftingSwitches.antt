-- What the way to the cases of a switch adds to a draft.
use Rattle.std.proofs.Common.{◌≡◌, ℕ, zero, suc, ◌+◌, ◌-◌, ◌*◌, ◌<◌, ◌≤◌, true, false, List, [], ◌∷◌, ◌++◌, length, get_or, take, drop, Option, refl, sym, ap, ◌∙◌, arith, append-nil}
use Rattle.std.specs.Prelude.{◌||◌, reverse, is_some, if◌then◌else◌}
use Rattle.std.proofs.lemmas.List.{drop_all, take_more, take_all, at_drop_more}
use Rattle.c_types.specs.declared.integers.IntegerType.{IntegerType}
use Rattle.c_types.specs.declared.integers.IntegerType.TheVariants.{Int}
use Rattle.core_tree.specs.declared.statement.CoreItem.{CoreItem}
use Rattle.core_tree.specs.Trees.{Items, case_at, with_item, items_of}
use Rattle.goto_prog.specs.declared.code.Instruction.{Instruction}
use Rattle.goto_prog.specs.declared.code.Operation.TheVariants as operations
use Rattle.goto_prog.specs.Nodes.{Nodes, plain, node_count}
use Rattle.goto_lower.specs.declared.exits.CasePlace.{CasePlace}
use Rattle.lowered_code.specs.Lowering.{Frame, at_line, plains, declares_none, entry_code, case_registers, case_tests, last_case, guarded}
use Rattle.lowered_code.specs.Registers.{case_types, entry_types}
use Rattle.code_draft.specs.Drafts.{Listed, next, added, flushed}
use Rattle.goto_lower.specs.Statements.{typed, after_entry, jumps_to, jump_code, case_code, after_tests, way_code, entered_code}
use Rattle.code_draft.proofs.Drafting.{adds_more}
use Rattle.goto_lower.proofs.Flushing.{typed_added, typed_more, typed_nothing, next_typed, flushed_draft, flushed_code}
use Rattle.code_draft.proofs.Making.{reversed_more}
use Rattle.lowered_code.proofs.RegisterCounts.{case_length}

-- the registers of a case
pub case_registered : (d d1 d2 d3 d4 new : Listed) (t : IntegerType) → d1 ≡ added d [] (t ∷ []) → d2 ≡ added d1 [] (Int ∷ []) → d3 ≡ added d2 [] (Int ∷ []) → d4 ≡ added d3 [] (t ∷ []) → new ≡ added d4 [] (Int ∷ []) → new ≡ typed d (t ∷ Int ∷ Int ∷ t ∷ Int ∷ [])
case_registered d d1 d2 d3 d4 new t first second third fourth last =
    let one : d1 ≡ typed d (t ∷ []) = typed_added d d1 (t ∷ []) first in
    let two : d2 ≡ typed d (t ∷ Int ∷ []) = typed_added d1 d2 (Int ∷ []) second ∙ typed_more d d1 (t ∷ []) (Int ∷ []) one in
    let three : d3 ≡ typed d (t ∷ Int ∷ Int ∷ []) = typed_added d2 d3 (Int ∷ []) third ∙ typed_more d d2 (t ∷ Int ∷ []) (Int ∷ []) two in
    let four : d4 ≡ typed d (t ∷ Int ∷ Int ∷ t ∷ []) = typed_added d3 d4 (t ∷ []) fourth ∙ typed_more d d3 (t ∷ Int ∷ Int ∷ []) (t ∷ []) three in
    typed_added d4 new (Int ∷ []) last ∙ typed_more d d4 (t ∷ Int ∷ Int ∷ t ∷ []) (Int ∷ []) four

-- of a case and those behind it
pub case_types_added : (d new : Listed) (line bits : ℕ) (t : IntegerType) (rest : Items) → new ≡ typed d (t ∷ Int ∷ Int ∷ t ∷ Int ∷ []) → typed new (case_types rest) ≡ typed d (case_types (case_at line t bits rest))
case_types_added d new line bits t rest same = typed_more d new (t ∷ Int ∷ Int ∷ t ∷ Int ∷ []) (case_types rest) same

pub last_case_added : (d new : Listed) (line bits before r : ℕ) (t : IntegerType) (rest : Items) → new ≡ typed d (t ∷ Int ∷ Int ∷ t ∷ Int ∷ []) → r ≡ next d + 2
    → last_case new.frame r rest (next new) ≡ last_case d.frame before (case_at line t bits rest) (next d)
last_case_added d new line bits before r t rest same is_r =
    let at : next new ≡ next d + 5 = next_typed d new (t ∷ Int ∷ Int ∷ t ∷ Int ∷ []) same in
    λ i. last_case (same i).frame (is_r i) rest (at i)

-- the test of a case and those behind it
pub test_adds : (d new : Listed) (line at x before n bits : ℕ) (t : IntegerType) (rest : Items)
    → new ≡ added d (case_code d.frame at t bits x before n) []
    → after_tests new line x (n + 2) rest (n + 5) ≡ after_tests d line x before (case_at at t bits rest) n
test_adds d new line at x before n bits t rest same =
    adds_more d new (after_tests new line x (n + 2) rest (n + 5)) (case_code d.frame at t bits x before n) (case_tests d.frame line x (n + 2) rest (n + 5)) [] [] same
    (λ i. added new (case_tests (same i).frame line x (n + 2) rest (n + 5)) [])

-- what stands at a place doesn't hang on what is said for those that aren't there
pub either_default : {A : Type 0} (xs : List A) (k : ℕ) (d e : A) → k < length xs → get_or xs k d ≡ get_or xs k e
either_default [] k d e h = absurd (omega (arith, h))
either_default (x ∷ xs) zero d e h = refl
either_default (x ∷ xs) (suc k) d e h = either_default xs k d e (omega (arith, h))

-- one jump more in front of those to the cases behind it
pub jumps_more : (frame : Frame) (base x n m : ℕ) (places : List CasePlace) (k : ℕ) (c : CasePlace) (before now others : Nodes)
    → k < length places → c ≡ get_or places k c → m ≡ n + 5
    → before ≡ jumps_to frame base x m (reverse (take k places)) others
    → now ≡ jump_code frame base x n c before
    → now ≡ jumps_to frame base x n (reverse (take (k + 1) places)) others
jumps_more frame base x n m places k c before now others lt is is_m so_far same =
    let back : reverse (take (k + 1) places) ≡ c ∷ reverse (take k places) =
    ap reverse (take_more places k c lt) ∙ reversed_more (take k places) (get_or places k c) ∙ (λ i. sym is i ∷ reverse (take k places)) in
    same
    ∙ (λ i. jump_code frame base x n c (so_far i))
    ∙ (λ i. jump_code frame base x n c (jumps_to frame base x (is_m i) (reverse (take k places)) others))
    ∙ sym (λ i. jumps_to frame base x n (back i) others)

pub jumps_all : (frame : Frame) (base x n : ℕ) (places : List CasePlace) (k : ℕ) (now others : Nodes)
    → length places ≤ k → now ≡ jumps_to frame base x n (reverse (take k places)) others → now ≡ jumps_to frame base x n (reverse places) others
jumps_all frame base x n places k now others past so_far = so_far ∙ (λ i. jumps_to frame base x n (reverse (take_all k places past i)) others)

-- ---- the items from a place on

pub items_at : (xs : List CoreItem) (i : ℕ) (x : CoreItem) → i < length xs → x ≡ get_or xs i x → items_of (drop i xs) ≡ with_item x (items_of (drop (i + 1) xs))
items_at xs i x lt is = at_drop_more items_of xs i x lt ∙ ap (λ (y : CoreItem). with_item y (items_of (drop (i + 1) xs))) (sym is)

pub tests_whole : (d all : Listed) (line x before : ℕ) (xs : List CoreItem) (i n : ℕ) → length xs ≤ i → after_tests d line x before (items_of (drop i xs)) n ≡ all → d ≡ all
tests_whole d all line x before xs i n past same =
    sym (λ j. record d { instructions = append-nil d.instructions j; registers = append-nil d.registers j })
    ∙ sym (λ j. after_tests d line x before (items_of (drop_all i xs past j)) n) ∙ same

-- ---- where no case is met

-- the tests in front of the code that is passed over
module _ (d d1 d2 : Listed) (items : Items) (line before x : ℕ) (empty : d.instructions ≡ [])
    (first : d1 ≡ added d (at_line d.frame line (operations.Constant before 0) ∷ []) []) (second : d2 ≡ after_tests d1 line x before items (x + 1)) where
  abbrev tests_of : List Instruction
  tests_of = at_line d.frame line (operations.Constant before 0) ∷ case_tests d.frame line x before items (x + 1)

  tests_added : d2 ≡ added d tests_of []
  tests_added =
      adds_more d d1 d2 (at_line d.frame line (operations.Constant before 0) ∷ []) (case_tests d.frame line x before items (x + 1)) [] [] first
      (second ∙ (λ i. added d1 (case_tests (first i).frame line x before items (x + 1)) []))

  pub unmet_draft : (new : Listed) → new ≡ flushed d2 → new ≡ d
  unmet_draft new last = flushed_draft d d2 new tests_of [] empty tests_added last ∙ typed_nothing d

  pub unmet_nodes : (last count k : ℕ) (entered n1 now : Nodes) → k ≡ node_count entered - count → n1 ≡ plain (at_line d.frame line (operations.SkipIfZero last k)) entered
      → now ≡ plains d2.instructions n1 → last ≡ last_case d.frame before items (x + 1) → now ≡ guarded d.frame line before x items (x + 1) count entered
  unmet_nodes last count k entered n1 now is_k skipped filled is_last =
      flushed_code d d2 tests_of [] n1 now empty tests_added filled
      ∙ ap (plains tests_of) skipped
      ∙ (λ i. plains tests_of (plain (at_line d.frame line (operations.SkipIfZero (is_last i) (is_k i))) entered))

-- ---- into the items

pub way_adds : (d d1 d2 d3 d4 d5 : Listed) (items : Items) (t : IntegerType) (base before value : ℕ) (places : List CasePlace) (body n1 n2 : Nodes)
    → d.instructions ≡ [] → d1 ≡ added d [] (Int ∷ []) → before ≡ next d → d2 ≡ added d1 [] (t ∷ []) → value ≡ next d1 → d3 ≡ typed d2 (case_types items)
    → ((first : ℕ) → next d3 ≡ first + 5 * length places → n1 ≡ jumps_to d3.frame base value first (reverse places) body)
    → d4 ≡ after_entry d3 items → n2 ≡ plains d4.instructions n1 → d5 ≡ flushed d4
    → (d5 ≡ typed d (Int ∷ t ∷ (case_types items ++ entry_types d.frame.variables items)))
    × (5 * length places ≡ length (case_types items) → n2 ≡ way_code d.frame base (next d + 1) items places body)
way_adds d d1 d2 d3 d4 d5 items t base before value places body n1 n2 empty first is_before second is_value third jumps fourth filled last =
    let f = d.frame in
    let vs = d.frame.variables in
    let n = next d in
    let ts = case_types items in
    let us = entry_types vs items in
    let one : d1 ≡ typed d (Int ∷ []) = typed_added d d1 (Int ∷ []) first in
    let next1 : next d1 ≡ n + 1 = next_typed d d1 (Int ∷ []) one in
    let two : d2 ≡ typed d (Int ∷ t ∷ []) = typed_added d1 d2 (t ∷ []) second ∙ typed_more d d1 (Int ∷ []) (t ∷ []) one in
    let three : d3 ≡ typed d (Int ∷ t ∷ ts) = third ∙ typed_more d d2 (Int ∷ t ∷ []) ts two in
    let in_entry = n + 1 + 1 + case_registers vs items in
    let next3 : next d3 ≡ in_entry = omega (arith, next_typed d d3 (Int ∷ t ∷ ts) three, case_length vs items) in
    let entry : d4 ≡ added d3 (entry_code f items in_entry) us = fourth ∙ (λ i. added d3 (entry_code (three i).frame items (next3 i)) (entry_types (three i).frame.variables items)) in
    let empty3 : d3.instructions ≡ [] = (λ i. (three i).instructions) ∙ empty in (
      flushed_draft d3 d4 d5 (entry_code f items in_entry) us empty3 entry last ∙ typed_more d d3 (Int ∷ t ∷ ts) us three,
      λ long.
          (let jumped : n1 ≡ jumps_to f base (n + 1) (n + 1 + 1) (reverse places) body =
          jumps (n + 1 + 1) (omega (arith, next3, long, case_length vs items))
          ∙ (λ i. jumps_to (three i).frame base ((is_value ∙ next1) i) (n + 1 + 1) (reverse places) body) in
          flushed_code d3 d4 (entry_code f items in_entry) us n1 n2 empty3 entry filled ∙ ap (plains (entry_code f items in_entry)) jumped),
    )

-- the last of the registers that tell whether a case is met
pub last_is : (d d1 d2 : Listed) (items : Items) (t : IntegerType) (before last : ℕ) → d1 ≡ added d [] (Int ∷ []) → before ≡ next d → d2 ≡ added d1 [] (t ∷ [])
    → last ≡ last_case d2.frame before items (next d2) → last ≡ last_case d.frame (next d) items (next d + 1 + 1)
last_is d d1 d2 items t before last first is_before second is_last =
    let one : d1 ≡ typed d (Int ∷ []) = typed_added d d1 (Int ∷ []) first in
    let two : d2 ≡ typed d (Int ∷ t ∷ []) = typed_added d1 d2 (t ∷ []) second ∙ typed_more d d1 (Int ∷ []) (t ∷ []) one in
    let next2 : next d2 ≡ next d + 1 + 1 = omega (arith, next_typed d d2 (Int ∷ t ∷ []) two) in
    is_last ∙ (λ i. last_case (two i).frame (is_before i) items (next2 i))

-- where it is passed over, and where it isn't
pub entered_way : (f : Frame) (line base count n : ℕ) (items : Items) (places : List CasePlace) (otherwise : Option ℕ) (body now : Nodes)
    → (is_some otherwise || declares_none items) ≡ true → now ≡ way_code f base (n + 1) items places body → now ≡ entered_code f line base count items n places otherwise body
entered_way f line base count n items places otherwise body now at_once same =
    let way = way_code f base (n + 1) items places body in
    same ∙ sym (λ i. if at_once i then way else guarded f line n (n + 1) items (n + 1 + 1) count way)

pub entered_guarded : (f : Frame) (line base count n : ℕ) (items : Items) (places : List CasePlace) (otherwise : Option ℕ) (body mid now : Nodes)
    → (is_some otherwise || declares_none items) ≡ false → mid ≡ way_code f base (n + 1) items places body → now ≡ guarded f line n (n + 1) items (n + 1 + 1) count mid → now ≡ entered_code f line base count items n places otherwise body
entered_guarded f line base count n items places otherwise body mid now tests way_is same =
    let way = way_code f base (n + 1) items places body in
    same ∙ (λ i. guarded f line n (n + 1) items (n + 1 + 1) count (way_is i)) ∙ sym (λ i. if tests i then way else guarded f line n (n + 1) items (n + 1 + 1) count way)
