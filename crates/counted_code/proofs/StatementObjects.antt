-- The code of statements makes as many objects as these count.
use Rattle.std.proofs.Common.{◌≡◌, ℕ, zero, suc, ◌+◌, ◌-◌, ◌*◌, ◌≤◌, Bool, true, false, List, [], ◌∷◌, ◌++◌, length, Option, Some, None, refl, ap, ◌∙◌, arith}
use Rattle.std.proofs.Math.Nat.{add-mul, mul-add}
use Rattle.std.specs.Prelude.{◌||◌, ◌==◌, if◌then◌else◌}
use Rattle.c_types.specs.declared.integers.IntegerType.{IntegerType}
use Rattle.core_tree.specs.declared.functions.PassedType.{PassedType}
use Rattle.core_tree.specs.declared.functions.Variable.{Variable}
use Rattle.core_tree.specs.Trees.{Expression, Structure, Statement, block, if_then, if_else, evaluate, returns, returns_structure, returns_nothing, for_loop, do_loop, switch, breaks, continues, jumps, stray, Items, done, declares, initializes, initializes_structure, does, label, case_at, default_at}
use Rattle.core_tree.specs.Typed.{size_of}
use Rattle.c_values.specs.Variables.{word_count}
use Rattle.c_meaning.specs.Meaning.{number_type, has_default}
use Rattle.c_temporaries.specs.Accesses.{home_in}
use Rattle.goto_prog.specs.Allocations.{nodes_allocations}
use Rattle.goto_prog.specs.declared.code.Instruction.{Instruction}
use Rattle.goto_prog.specs.Nodes.{Nodes, node_count}
use Rattle.goto_prog.specs.Structured.{Bounded}
use Rattle.goto_prog.specs.Structured as structured
use Rattle.goto_unwind.specs.Places as counts
use Rattle.goto_unwind.specs.Places.{object_weights, home_count, home_at, optional, parameters_count}
use Rattle.lowered_code.specs.Lowering as lowering
use Rattle.lowered_code.specs.Lowering.{Frame, deeper, Deaths, home_code, death_code, code, structure_code, size_of as size_of_variable, Ways, no_ways, no_deaths, within_loop, within_switch, leaving, declares_none, ends, plains, words_code, first_code, made_code, entry_code, leave_code, parameters_code, leave_parameters_code, initial_put, initial_store, initial_code, part_code, test_code, to_place, case_tests, guarded, statement_code, items_code, labels_of, case_jumps, default_place, body_code}
use Rattle.counted_code.proofs.ExpressionObjects as expressions
use Rattle.counted_code.proofs.Making as making

-- ---- sums

-- a node that counts no object itself, with one part, two or three, in front of others
one_part : (t r : ℕ) {m : ℕ} → m ≡ t + r → m ≡ (0 + t) + r
one_part t r h = omega (arith, h)

two_parts : (t s r : ℕ) {m : ℕ} → m ≡ t + (s + r) → m ≡ (0 + (t + s)) + r
two_parts t s r h = omega (arith, h)

three_parts : (t s u r : ℕ) {m : ℕ} → m ≡ t + (s + (u + r)) → m ≡ (0 + (t + (s + u))) + r
three_parts t s u r h = omega (arith, h)

no_part : (r : ℕ) {m : ℕ} → m ≡ r → m ≡ 0 + r
no_part r h = omega (arith, h)

onto : (s : ℕ) {m r k : ℕ} → m ≡ s + r → r ≡ k → m ≡ s + k
onto s h k = h ∙ ap (λ n. s + n) k

-- an item in front of others: e is what the first values of these make, and x what their code does
item_home : (h e x c r : ℕ) {m : ℕ} → m ≡ h + e → e + x ≡ c + r → m + x ≡ ((0 + h) + c) + r
item_home h e x c r one all = omega (arith, one, all)

item_value : (h v e x c r : ℕ) {m y : ℕ} → m ≡ h + e → y ≡ v + x → e + x ≡ c + r → m + y ≡ ((0 + (h + v)) + c) + r
item_value h v e x c r one value all = omega (arith, one, value, all)

item_does : (s e x c r : ℕ) {y : ℕ} → y ≡ s + x → e + x ≡ c + r → e + y ≡ (s + c) + r
item_does s e x c r one all = omega (arith, one, all)

-- the first test stands before the loop, and the others at the end of its rounds
loop_sum : (k f t s l r body end : ℕ) → 1 ≤ k → body ≡ s + end → end ≡ l + (t + 0) → f + (t + ((k - 1) * body + r)) ≡ (0 + (f + (k * t + (k - 1) * (s + l)))) + r
loop_sum k f t s l r body end some of_body of_end =
    let whole : body ≡ (s + l) + t = omega (arith, of_body, of_end) in
    let rounds : (k - 1) * body ≡ (k - 1) * (s + l) + (k - 1) * t = ap (λ n. (k - 1) * n) whole ∙ mul-add (k - 1) (s + l) t in
    let more : k ≡ (k - 1) + 1 = omega (arith, some) in
    let tests : k * t ≡ (k - 1) * t + 1 * t = ap (λ n. n * t) more ∙ add-mul (k - 1) 1 t in
    by_parts f t r ((k - 1) * body) ((k - 1) * (s + l)) ((k - 1) * t) (k * t) rounds (tests ∙ ap (λ n. (k - 1) * t + n) (times_one t))
  where
    times_one : (n : ℕ) → 1 * n ≡ n
    times_one n = omega arith

    by_parts : (f t r x y z w : ℕ) → x ≡ y + z → w ≡ z + t → f + (t + (x + r)) ≡ (0 + (f + (w + y))) + r
    by_parts f t r x y z w one other = omega (arith, one, other)

rotation_sum : (k t s r body end : ℕ) → body ≡ s + end → end ≡ t + 0 → k * body + r ≡ (0 + (k * s + k * t)) + r
rotation_sum k t s r body end of_body of_end =
    let whole : body ≡ s + t = omega (arith, of_body, of_end) in
    let rounds : k * body ≡ k * s + k * t = ap (λ n. k * n) whole ∙ mul-add k s t in
    by_parts (k * body) (k * s) (k * t) r rounds
  where
    by_parts : (x y z r : ℕ) → x ≡ y + z → x + r ≡ (0 + (y + z)) + r
    by_parts x y z r h = omega (arith, h)

-- ---- homes of parameters

-- the objects of so many variables from a number on
abbrev homes_from : List Variable → (count v : ℕ) → ℕ
homes_from vs zero v = 0
homes_from vs (suc count) v = home_count object_weights (home_at vs v) + homes_from vs count (suc v)

homes_behind : (x : Variable) (vs : List Variable) (count v : ℕ) → homes_from (x ∷ vs) count (suc v) ≡ homes_from vs count v
homes_behind x vs zero v = refl
homes_behind x vs (suc count) v = ap (λ n. home_count object_weights (home_at vs v) + n) (homes_behind x vs count (suc v))

no_homes : (count v : ℕ) → homes_from [] count v ≡ 0
no_homes zero v = refl
no_homes (suc count) v = ap (λ n. 0 + n) (no_homes count (suc v))

homes_are : (ps : List PassedType) (vs : List Variable) → homes_from vs (length ps) 0 ≡ parameters_count object_weights ps vs
homes_are [] vs = refl
homes_are (p ∷ ps) [] = no_homes (length (p ∷ ps)) 0
homes_are (p ∷ ps) (x ∷ vs) = ap (λ n. home_count object_weights x.home + n) (homes_behind x vs (length ps) 0 ∙ homes_are ps vs)

-- ---- a function's code, under bounds by which each of its loops may be tested

module _ (b : Bounded) (calls : ℕ → ℕ) (base : Frame) (some : (l : ℕ) → 1 ≤ structured.tests b base.function l) where
  abbrev rounds : ℕ → ℕ
  rounds l = structured.tests b base.function l

  abbrev declared : List Variable
  declared = base.variables

  abbrev made : List Instruction → ℕ
  made is = making.made calls is

  abbrev total : Nodes → ℕ
  total nodes = making.total calls b nodes

  abbrev expression_count : Expression → ℕ
  expression_count e = counts.expression_count object_weights rounds calls e

  abbrev statement_count : Statement → ℕ
  statement_count s = counts.statement_count object_weights rounds calls declared s

  abbrev structure_count : Structure → ℕ
  structure_count a = counts.structure_count object_weights rounds calls a

  abbrev items_count : Items → ℕ
  items_count items = counts.items_count object_weights rounds calls declared items

  joined : (xs ys : List Instruction) {m n : ℕ} → made xs ≡ m → made ys ≡ n → made (xs ++ ys) ≡ m + n
  joined = making.joined calls

  before_none : (xs ys : List Instruction) {m : ℕ} → made xs ≡ m → made ys ≡ 0 → made (xs ++ ys) ≡ m
  before_none = making.before_none calls

  behind_none : (xs ys : List Instruction) {n : ℕ} → made xs ≡ 0 → made ys ≡ n → made (xs ++ ys) ≡ n
  behind_none = making.behind_none calls

  in_front : (is : List Instruction) (rest : Nodes) {m n : ℕ} → made is ≡ m → total rest ≡ n → total (plains is rest) ≡ m + n
  in_front = making.in_front calls b

  none_in_front : (is : List Instruction) (rest : Nodes) {n : ℕ} → made is ≡ 0 → total rest ≡ n → total (plains is rest) ≡ n
  none_in_front is rest h k = let all = in_front is rest h k in omega (arith, all)

  -- ---- objects of variables

  home_makes : (line v : ℕ) (o : Option ℕ) (n : ℕ) → made (home_code base line v o n) ≡ home_count object_weights o
  home_makes line v None n = refl
  home_makes line v (Some h) n = refl

  death_none : (line : ℕ) (o : Option ℕ) (r : ℕ) → made (death_code base line o r) ≡ 0
  death_none line None r = refl
  death_none line (Some h) r = refl

  abbrev NoneMade : Deaths → Type 0
  NoneMade out = (r : ℕ) → made (out r) ≡ 0

  leave_none : (items : Items) → NoneMade (leave_code base items)
  leave_none done = λ r. refl
  leave_none (declares line v rest) = λ r. before_none (leave_code base rest r) _ (leave_none rest r) (death_none line (home_in declared v) r)
  leave_none (initializes line v drawn e rest) = λ r. before_none (leave_code base rest r) _ (leave_none rest r) (death_none line (home_in declared v) r)
  leave_none (initializes_structure line v drawn a rest) = λ r. before_none (leave_code base rest r) _ (leave_none rest r) (death_none line (home_in declared v) r)
  leave_none (does s rest) = leave_none rest
  leave_none (label l rest) = leave_none rest
  leave_none (case_at line t bits rest) = leave_none rest
  leave_none (default_at line rest) = leave_none rest

  leave_parameters_none : (line count v : ℕ) → NoneMade (leave_parameters_code base line count v)
  leave_parameters_none line zero v = λ r. refl
  leave_parameters_none line (suc count) v = λ r. before_none (leave_parameters_code base line count (suc v) r) _ (leave_parameters_none line count (suc v) r) (death_none line (home_in declared v) r)

  parameters_make : (line count v n : ℕ) → made (parameters_code base line count v n) ≡ homes_from declared count v
  parameters_make line zero v n = refl
  parameters_make line (suc count) v n = joined (home_code base line v (home_in declared v) n) _ (home_makes line v (home_in declared v) n) (parameters_make line count (suc v) _)

  -- no way out makes an object
  record NoneWays (ways : Ways) : Type 0 where
    break_out : NoneMade ways.break_out
    continue_out : NoneMade ways.continue_out
    return_out : NoneMade ways.return_out
    label_out : (l : ℕ) → NoneMade (ways.label_out l)

  no_deaths_none : NoneMade no_deaths
  no_deaths_none = λ r. refl

  leaving_none : (out : Deaths) (ways : Ways) → NoneMade out → NoneWays ways → NoneWays (leaving out ways)
  leaving_none out ways h k = record {
    break_out = λ r. before_none (out r) _ (h r) (k.break_out r);
    continue_out = λ r. before_none (out r) _ (h r) (k.continue_out r);
    return_out = λ r. before_none (out r) _ (h r) (k.return_out r);
    label_out = λ l r. before_none (out r) _ (h r) (k.label_out l r);
  }

  loop_none : (ways : Ways) (behind end : ℕ) → NoneWays ways → NoneWays (within_loop ways behind end)
  loop_none ways behind end out = record { break_out = no_deaths_none; continue_out = no_deaths_none; return_out = out.return_out; label_out = out.label_out }

  switch_none : (ways : Ways) (behind : ℕ) → NoneWays ways → NoneWays (within_switch ways behind)
  switch_none ways behind out = record { break_out = no_deaths_none; continue_out = out.continue_out; return_out = out.return_out; label_out = out.label_out }

  labels_none : (at : ℕ) (ways : Ways) (items : Items) (n : ℕ) (rest : Nodes) → NoneWays ways → NoneWays (labels_of base at ways items n rest)
  labels_none at ways done n rest h = h
  labels_none at ways (declares line v more) n rest h = labels_none at ways more n rest h
  labels_none at ways (initializes line v drawn e more) n rest h = labels_none at ways more n rest h
  labels_none at ways (initializes_structure line v drawn a more) n rest h = labels_none at ways more n rest h
  labels_none at ways (does s more) n rest h = labels_none at ways more n rest h
  labels_none at ways (label l more) n rest h =
      let inner = labels_none at ways more n rest h in
      let others = labels_of base at ways more n rest in
      record {
        break_out = inner.break_out;
        continue_out = inner.continue_out;
        return_out = inner.return_out;
        label_out = λ m. chosen (l == m) (others.label_out m) (inner.label_out m);
      }
    where
      chosen : (z : Bool) (out : Deaths) → NoneMade out → NoneMade (if z then no_deaths else out)
      chosen true out h = no_deaths_none
      chosen false out h = h
  labels_none at ways (case_at line t bits more) n rest h = labels_none at ways more n rest h
  labels_none at ways (default_at line more) n rest h = labels_none at ways more n rest h

  -- ---- first values

  words_none : (words line v offset n : ℕ) → made (words_code base words line v offset n) ≡ 0
  words_none zero line v offset n = refl
  words_none (suc k) line v offset n = words_none k line v (offset + 8) (n + 1)

  first_none : (line v : ℕ) (drawn : Bool) (n : ℕ) → made (first_code base line v drawn n) ≡ 0
  first_none line v true n = words_none (word_count (size_of_variable declared v)) line v 0 n
  first_none line v false n = refl

  -- a variable with an address is made once
  made_makes : (line v : ℕ) (drawn : Bool) (n : ℕ) → made (made_code base line v drawn n) ≡ home_count object_weights (home_at declared v)
  made_makes line v drawn n = behind_none (first_code base line v drawn n) _ (first_none line v drawn n) (home_makes line v (home_in declared v) _)

  put_none : (line v : ℕ) (o : Option ℕ) (size n : ℕ) → made (initial_put base line v o size n) ≡ 0
  put_none line v None size n = refl
  put_none line v (Some h) size n = refl

  stored_none : (line v : ℕ) (o : Option ℕ) (t : IntegerType) (a n : ℕ) → made (initial_store base line v o t a n) ≡ 0
  stored_none line v None t a n = refl
  stored_none line v (Some h) t a n = refl

  -- ---- parts of loops, tests and cases

  part_makes : (e : Option Expression) (n : ℕ) → made (part_code base e n) ≡ optional expression_count 0 e
  part_makes None n = refl
  part_makes (Some e) n = expressions.code_makes rounds calls e base n

  test_makes : (line : ℕ) (e : Option Expression) (n : ℕ) → made (test_code base line e n) ≡ optional expression_count 0 e
  test_makes line None n = refl
  test_makes line (Some e) n = before_none (code base e n) _ (expressions.code_makes rounds calls e base n) refl

  cases_none : (line x before : ℕ) (items : Items) (n : ℕ) → made (case_tests base line x before items n) ≡ 0
  cases_none line x before done n = refl
  cases_none line x before (declares at v rest) n = cases_none line x before rest n
  cases_none line x before (initializes at v drawn e rest) n = cases_none line x before rest n
  cases_none line x before (initializes_structure at v drawn a rest) n = cases_none line x before rest n
  cases_none line x before (does s rest) n = cases_none line x before rest n
  cases_none line x before (label l rest) n = cases_none line x before rest n
  cases_none line x before (case_at at t bits rest) n = cases_none line x (n + 2) rest (n + 5)
  cases_none line x before (default_at at rest) n = cases_none line x before rest n

  jumps_none : (at : ℕ) (ways : Ways) (x : ℕ) (items : Items) (k n : ℕ) (rest others : Nodes) → total (case_jumps base at ways x items k n rest others) ≡ total others
  jumps_none at ways x done k n rest others = refl
  jumps_none at ways x (declares line v more) k n rest others = jumps_none at ways x more k n rest others
  jumps_none at ways x (initializes line v drawn e more) k n rest others = jumps_none at ways x more k n rest others
  jumps_none at ways x (initializes_structure line v drawn a more) k n rest others = jumps_none at ways x more k n rest others
  jumps_none at ways x (does s more) k n rest others = jumps_none at ways x more k n rest others
  jumps_none at ways x (label l more) k n rest others = jumps_none at ways x more k n rest others
  jumps_none at ways x (case_at line t bits more) k n rest others = jumps_none at ways x more (k + 5) n rest others
  jumps_none at ways x (default_at line more) k n rest others = jumps_none at ways x more k n rest others

  guarded_none : (line before x : ℕ) (items : Items) (n count : ℕ) (entered : Nodes) → total (guarded base line before x items n count entered) ≡ total entered
  guarded_none line before x items n count entered = none_in_front (case_tests base line x before items n) _ (cases_none line x before items n) refl

  either : (z : Bool) (x y : Nodes) {m : ℕ} → total x ≡ m → total y ≡ m → total (if z then x else y) ≡ m
  either true x y one other = one
  either false x y one other = other

  -- ---- statements; the objects of a block's variables are made where it is entered

  mutual
    statement_makes : (at : ℕ) (ways : Ways) (s : Statement) (n : ℕ) (rest : Nodes) → NoneWays ways → total (statement_code base at ways s n rest) ≡ statement_count s + total rest
    statement_makes at ways (block items) n rest out =
        let inside = n + lowering.death_registers declared in
        let entry = inside + lowering.items_registers declared items in
        let dies = leave_code base items in
        one_part _ _
        (in_front (entry_code base items entry) _ refl refl
        ∙ onto (items_count items) (items_make at (leaving dies ways) items entry inside (plains (dies n) rest) (leaving_none dies ways (leave_none items) out)) (none_in_front (dies n) rest (leave_none items n) refl))
    statement_makes at ways (if_then line test s) n rest out = two_parts _ _ _ (in_front (code base test _) _ (expressions.code_makes rounds calls test base _) (statement_makes at ways s n rest out))
    statement_makes at ways (if_else line test s t) n rest out =
        three_parts _ _ _ _
        (in_front (code base test _) _ (expressions.code_makes rounds calls test base _)
        (onto (statement_count s) (statement_makes at ways s _ _ out) (statement_makes at ways t n rest out)))
    statement_makes at ways (evaluate e) n rest out = one_part _ _ (in_front (code base e n) rest (expressions.code_makes rounds calls e base n) refl)
    statement_makes at ways (returns line e) n rest out =
        one_part _ _ (in_front (code base e n) _ (expressions.code_makes rounds calls e base n) (none_in_front (ways.return_out _) _ (out.return_out _) refl))
    statement_makes at ways (returns_structure line a) n rest out =
        one_part _ _ (in_front (structure_code base a n base.result 0) _ (expressions.structure_makes rounds calls a base n base.result 0) (none_in_front (ways.return_out _) _ (out.return_out _) refl))
    statement_makes at ways (returns_nothing line) n rest out = no_part _ (none_in_front (ways.return_out n) _ (out.return_out n) refl)
    statement_makes at ways (for_loop line l start test last s) n rest out =
        let behind = at + node_count rest in
        let in_last = n + lowering.part_registers declared test in
        let in_body = in_last + lowering.part_registers declared last in
        let in_test = in_body + lowering.statement_registers declared s in
        let in_first = in_test + lowering.part_registers declared test in
        let end = plains (part_code base last in_last) (plains (test_code base line test n) ends) in
        let inner = within_loop ways behind (behind + 1 + node_count end) in
        let body = statement_code base (behind + 1) inner s in_body end in
        in_front (part_code base start in_first) _ (part_makes start in_first) (in_front (test_code base line test in_test) _ (test_makes line test in_test) refl)
        ∙ loop_sum (rounds l) (optional expression_count 0 start) (optional expression_count 0 test) (statement_count s) (optional expression_count 0 last) (total rest) (total body) (total end) (some l)
        (statement_makes (behind + 1) inner s in_body end (loop_none ways behind (behind + 1 + node_count end) out))
        (in_front (part_code base last in_last) _ (part_makes last in_last) (in_front (test_code base line test n) ends (test_makes line test n) refl))
    statement_makes at ways (do_loop line l s test) n rest out =
        let behind = at + node_count rest in
        let end = plains (test_code base line (Some test) n) ends in
        let inner = within_loop ways behind (behind + 1 + node_count end) in
        let in_body = n + (lowering.top declared test + 1) in
        let body = statement_code base (behind + 1) inner s in_body end in
        rotation_sum (rounds l) (expression_count test) (statement_count s) (total rest) (total body) (total end)
        (statement_makes (behind + 1) inner s in_body end (loop_none ways behind (behind + 1 + node_count end) out)) (in_front (test_code base line (Some test) n) ends (test_makes line (Some test) n) refl)
    statement_makes at ways (switch line e items) n rest out =
        let behind = at + node_count rest in
        let dies = leave_code base items in
        let inner = leaving dies (within_switch ways behind) in
        let inside = n + lowering.death_registers declared in
        let before = inside + lowering.items_registers declared items in
        let value = before + 1 in
        let in_cases = value + 1 in
        let in_entry = in_cases + lowering.case_registers declared items in
        let x = in_entry + lowering.entry_registers declared items in
        let left = plains (dies n) rest in
        let body = items_code base at inner items inside left in
        let last = to_place base line at (if has_default items then default_place base at inner items inside left else behind) body in
        let entered = plains (entry_code base items in_entry) (case_jumps base at inner value items in_cases inside left last) in
        let inner_none = leaving_none dies (within_switch ways behind) (leave_none items) (switch_none ways behind out) in
        let body_entered : total entered ≡ items_count items + total rest =
        in_front (entry_code base items in_entry) _ refl (jumps_none at inner value items in_cases inside left last)
        ∙ onto (items_count items) (items_make at inner items in_entry inside left inner_none) (none_in_front (dies n) rest (leave_none items n) refl) in
        two_parts _ _ _
        (in_front (code base e x) _ (expressions.code_makes rounds calls e base x)
        (either (has_default items || declares_none items) entered (guarded base line before value items in_cases (node_count rest) entered) body_entered
        (guarded_none line before value items in_cases (node_count rest) entered ∙ body_entered)))
    statement_makes at ways (breaks line) n rest out = no_part _ (none_in_front (ways.break_out n) _ (out.break_out n) refl)
    statement_makes at ways (continues line) n rest out = no_part _ (none_in_front (ways.continue_out n) _ (out.continue_out n) refl)
    statement_makes at ways (jumps line l) n rest out = no_part _ (none_in_front (ways.label_out l n) _ (out.label_out l n) refl)
    statement_makes at ways (stray line s) n rest out = one_part _ _ (statement_makes at ways s n rest out)

    items_make : (at : ℕ) (ways : Ways) (items : Items) (k n : ℕ) (rest : Nodes) → NoneWays ways → made (entry_code base items k) + total (items_code base at ways items n rest) ≡ items_count items + total rest
    items_make at ways done k n rest out = refl
    items_make at ways (declares line v more) k n rest out =
        let behind = k + lowering.first_registers declared v true in
        item_home (home_count object_weights (home_at declared v)) (made (entry_code base more behind)) (total (items_code base at ways more n rest)) (items_count more) (total rest)
        (joined (made_code base line v true k) (entry_code base more behind) (made_makes line v true k) refl) (items_make at ways more behind n rest out)
    items_make at ways (initializes line v drawn e more) k n rest out =
        let behind = k + lowering.first_registers declared v drawn in
        let m = n + lowering.items_registers declared more in
        item_value (home_count object_weights (home_at declared v)) (expression_count e) (made (entry_code base more behind)) (total (items_code base at ways more n rest)) (items_count more) (total rest)
        (joined (made_code base line v drawn k) (entry_code base more behind) (made_makes line v drawn k) refl)
        (in_front (code base e m) _ (expressions.code_makes rounds calls e base m)
        (none_in_front (initial_store base line v (home_in declared v) (number_type e) _ _) _ (stored_none line v (home_in declared v) (number_type e) (m + lowering.top declared e) (m + (lowering.top declared e + 1))) refl))
        (items_make at ways more behind n rest out)
    items_make at ways (initializes_structure line v drawn a more) k n rest out =
        let behind = k + lowering.first_registers declared v drawn in
        let m = n + lowering.items_registers declared more in
        item_value (home_count object_weights (home_at declared v)) (structure_count a) (made (entry_code base more behind)) (total (items_code base at ways more n rest)) (items_count more) (total rest)
        (joined (made_code base line v drawn k) (entry_code base more behind) (made_makes line v drawn k) refl)
        (in_front (initial_code base line v a m) _
        (before_none (structure_code (deeper base) a m base.free 0) _ (expressions.structure_makes rounds calls a (deeper base) m base.free 0) (put_none line v (home_in declared v) (size_of a) (m + lowering.structure_registers declared a))) refl)
        (items_make at ways more behind n rest out)
    items_make at ways (does s more) k n rest out =
        let m = n + lowering.items_registers declared more in
        item_does (statement_count s) (made (entry_code base more k)) (total (items_code base at ways more n rest)) (items_count more) (total rest)
        (statement_makes at (labels_of base at ways more n rest) s m (items_code base at ways more n rest) (labels_none at ways more n rest out)) (items_make at ways more k n rest out)
    items_make at ways (label l more) k n rest out = one_part _ _ (items_make at ways more k n rest out)
    items_make at ways (case_at line t bits more) k n rest out = one_part _ _ (items_make at ways more k n rest out)
    items_make at ways (default_at line more) k n rest out = one_part _ _ (items_make at ways more k n rest out)

  -- ---- a body, with its parameters

  pub body_makes : (line : ℕ) (ps : List PassedType) (s : Statement) → nodes_allocations b calls (body_code base line (length ps) s) ≡ parameters_count object_weights ps base.variables + counts.statement_count object_weights (λ l. structured.tests b base.function l) calls base.variables s
  body_makes line ps s =
      let inside = 1 + lowering.death_registers declared in
      let count = length ps in
      let dies = leave_parameters_code base line count 0 in
      let none : NoneWays no_ways = record { break_out = no_deaths_none; continue_out = no_deaths_none; return_out = no_deaths_none; label_out = λ l. no_deaths_none } in
      making.total_is calls b (body_code base line count s)
      ∙ in_front (parameters_code base line count 0 (inside + lowering.statement_registers declared s)) _ (parameters_make line count 0 (inside + lowering.statement_registers declared s) ∙ homes_are ps declared)
      (last (statement_count s) (statement_makes 1 (leaving dies no_ways) s inside _ (leaving_none dies no_ways (leave_parameters_none line count 0) none)) (none_in_front (dies 1) _ (leave_parameters_none line count 0 1) refl))
    where
      last : (s : ℕ) {m r : ℕ} → m ≡ s + r → r ≡ 0 → m ≡ s
      last s h k = omega (arith, h, k)
