-- What statements add to a draft, by what their parts add.
use Rattle.std.proofs.Common.{◌≡◌, ℕ, ◌+◌, ◌-◌, ◌*◌, Bool, true, false, List, [], ◌∷◌, ◌++◌, length, Option, Some, refl, sym, ap, ◌∙◌, arith, append_assoc, length-append}
use Rattle.std.specs.Prelude.{reverse, ◌||◌, unwrap_or, is_some, if◌then◌else◌, Result, Ok, Err, IfOk, OnOk}
use Rattle.std.proofs.lemmas.List.{reverse-append}
use Rattle.c_types.specs.declared.integers.IntegerType.{IntegerType}
use Rattle.c_types.specs.declared.integers.IntegerType.TheVariants.{Int}
use Rattle.core_tree.specs.Trees.{Expression, Statement, block, if_then, if_else, for_loop, do_loop, switch, stray, Items, done, declares, initializes, initializes_structure, does, label, case_at, default_at}
use Rattle.c_meaning.specs.Meaning.{number_type, has_default}
use Rattle.goto_prog.specs.declared.code.Operation.TheVariants as operations
use Rattle.goto_prog.specs.Nodes.{Nodes, plain, repeats, node_count}
use Rattle.goto_lower.specs.declared.exits.Exits.{Exits}
use Rattle.goto_lower.specs.declared.exits.CasePlace.{CasePlace}
use Rattle.goto_lower.specs.declared.exits.Cases.{Cases}
use Rattle.lowered_code.specs.Lowering.{Frame, Ways, leaving, within_switch, leave_code, death_registers, ends, top, at_line, plains, to_place, code, part_code, test_code, part_registers, entry_code, entry_registers, items_registers, statement_registers, declares_none, case_registers, guarded, statement_code, items_code, case_jumps, default_place}
use Rattle.lowered_code.specs.Registers.{types, part_types, death_types, case_types, entry_types, statement_types, items_types}
use Rattle.code_draft.specs.Drafts.{Listed, next, added, flushed}
use Rattle.goto_lower.specs.Statements.{typed, after_entry, ways_of, case_place, cases_of, default_of, jump_code, jumps_to, entered_code, loop_exits, switch_exits, Inside, Drafted}
use Rattle.lowered_code.proofs.RegisterCounts.{types_length, part_length, death_length, case_length, entry_length, statement_length, items_length}
use Rattle.goto_lower.proofs.Living.{ways_switch}
use Rattle.goto_lower.proofs.Flushing.{typed_more, next_typed, flushed_draft, flushed_code}

-- ---- a part behind others, whose registers are these, up to the number m

module _ (d d1 d2 : Listed) (ts : List IntegerType) (m : ℕ) (same : d1 ≡ typed d ts) (at : next d1 ≡ m) where
  pub then_statement : (x : Exits) (s : Statement) (n1 n2 : Nodes) → Drafted d1 d2 n1 n2 x s
      → (d2 ≡ typed d (ts ++ statement_types d.frame.variables s)) × (n2 ≡ statement_code d.frame x.base (ways_of x d.frame d.marks) s m n1) × (next d2 ≡ m + statement_registers d.frame.variables s)
  then_statement x s n1 n2 h =
      let us = statement_types d.frame.variables s in
      let draft : d2 ≡ typed d1 us = h.draft_is ∙ (λ i. typed d1 (statement_types (same i).frame.variables s)) in (
        draft ∙ typed_more d d1 ts us same,
        h.nodes_are ∙ (λ i. statement_code (same i).frame x.base (ways_of x (same i).frame (same i).marks) s (at i) n1),
        omega (arith, next_typed d1 d2 us draft, at, statement_length d.frame.variables s),
      )

  pub then_test : (line count : ℕ) (e : Expression) (n1 n2 : Nodes) → d2 ≡ typed d1 (types d1.frame.variables e)
      → n2 ≡ plains (code d1.frame e (next d1)) (plain (at_line d1.frame line (operations.SkipIfZero (next d1 + top d1.frame.variables e) count)) n1)
      → (d2 ≡ typed d (ts ++ types d.frame.variables e)) × (n2 ≡ plains (code d.frame e m) (plain (at_line d.frame line (operations.SkipIfZero (m + top d.frame.variables e) count)) n1)) × (next d2 ≡ m + (top d.frame.variables e + 1))
  then_test line count e n1 n2 draft put =
      let vs = d.frame.variables in
      let here : d2 ≡ typed d1 (types vs e) = draft ∙ (λ i. typed d1 (types (same i).frame.variables e)) in (
        here ∙ typed_more d d1 ts (types vs e) same,
        put ∙ (λ i. plains (code (same i).frame e (at i)) (plain (at_line (same i).frame line (operations.SkipIfZero (at i + top (same i).frame.variables e) count)) n1)),
        omega (arith, next_typed d1 d2 (types vs e) here, at, types_length vs e),
      )

  pub then_part : (e : Option Expression) (n1 n2 : Nodes) → d2 ≡ typed d1 (part_types d1.frame.variables e) → n2 ≡ plains (part_code d1.frame e (next d1)) n1
      → (d2 ≡ typed d (ts ++ part_types d.frame.variables e)) × (n2 ≡ plains (part_code d.frame e m) n1) × (next d2 ≡ m + part_registers d.frame.variables e)
  then_part e n1 n2 draft put =
      let ps = part_types d.frame.variables e in
      let here : d2 ≡ typed d1 ps = draft ∙ (λ i. typed d1 (part_types (same i).frame.variables e)) in (
        here ∙ typed_more d d1 ts ps same,
        put ∙ (λ i. plains (part_code (same i).frame e (at i)) n1),
        omega (arith, next_typed d1 d2 ps here, at, part_length d.frame.variables e),
      )

  pub then_loop_test : (line : ℕ) (e : Option Expression) (n1 n2 : Nodes) → d2 ≡ typed d1 (part_types d1.frame.variables e) → n2 ≡ plains (test_code d1.frame line e (next d1)) n1
      → (d2 ≡ typed d (ts ++ part_types d.frame.variables e)) × (n2 ≡ plains (test_code d.frame line e m) n1) × (next d2 ≡ m + part_registers d.frame.variables e)
  then_loop_test line e n1 n2 draft put =
      let ps = part_types d.frame.variables e in
      let here : d2 ≡ typed d1 ps = draft ∙ (λ i. typed d1 (part_types (same i).frame.variables e)) in (
        here ∙ typed_more d d1 ts ps same,
        put ∙ (λ i. plains (test_code (same i).frame line e (at i)) n1),
        omega (arith, next_typed d1 d2 ps here, at, part_length d.frame.variables e),
      )

-- ---- blocks and branches

pub drafted_block : (d d1 d2 new : Listed) (x : Exits) (items : Items) (cases : Cases) (rest n1 n2 : Nodes) → d.instructions ≡ []
    → Inside d d1 rest n1 x items cases → d2 ≡ after_entry d1 items → n2 ≡ plains d2.instructions n1 → new ≡ flushed d2
    → Drafted d new rest n2 x (block items)
drafted_block d d1 d2 new x items cases rest n1 n2 empty h second put last =
    let f = d.frame in
    let vs = f.variables in
    let os = death_types vs in
    let ts = items_types vs items in
    let us = entry_types vs items in
    let m = next d + death_registers vs + items_registers vs items in
    let at : next d1 ≡ m = omega (arith, next_typed d d1 (os ++ ts) h.draft_is, length-append os ts, death_length vs, items_length vs items) in
    let empty1 : d1.instructions ≡ [] = (λ i. (h.draft_is i).instructions) ∙ empty in
    let entry : d2 ≡ added d1 (entry_code f items m) us = second ∙ (λ i. added d1 (entry_code (h.draft_is i).frame items (at i)) (entry_types (h.draft_is i).frame.variables items)) in
    record {
      draft_is = flushed_draft d1 d2 new (entry_code f items m) us empty1 entry last ∙ typed_more d d1 (os ++ ts) us h.draft_is ∙ ap (typed d) (append_assoc os ts us);
      nodes_are = flushed_code d1 d2 (entry_code f items m) us n1 n2 empty1 entry put ∙ ap (plains (entry_code f items m)) h.nodes_are;
    }

pub drafted_if : (d d1 new : Listed) (x : Exits) (test : Expression) (s : Statement) (line count : ℕ) (rest n1 n2 : Nodes)
    → Drafted d d1 rest n1 x s → count ≡ node_count n1 - node_count rest
    → new ≡ typed d1 (types d1.frame.variables test) → n2 ≡ plains (code d1.frame test (next d1)) (plain (at_line d1.frame line (operations.SkipIfZero (next d1 + top d1.frame.variables test) count)) n1)
    → Drafted d new rest n2 x (if_then line test s)
drafted_if d d1 new x test s line count rest n1 n2 h is_count draft put =
    let ts = statement_types d.frame.variables s in
    let m = next d + statement_registers d.frame.variables s in
    let at : next d1 ≡ m = next_typed d d1 ts h.draft_is ∙ ap (λ n. next d + n) (statement_length d.frame.variables s) in
    let last = then_test d d1 new ts m h.draft_is at line count test n1 n2 draft put in
    let yes = statement_code d.frame x.base (ways_of x d.frame d.marks) s (next d) rest in
    let skips : count ≡ node_count yes - node_count rest = is_count ∙ (λ i. node_count (h.nodes_are i) - node_count rest) in
    record {
      draft_is = last.0;
      nodes_are = last.1 ∙ (λ i. plains (code d.frame test m) (plain (at_line d.frame line (operations.SkipIfZero (m + top d.frame.variables test) (skips i))) (h.nodes_are i)));
    }

pub drafted_if_else : (d d1 d2 new : Listed) (x : Exits) (test : Expression) (s t : Statement) (line over count : ℕ) (rest n1 n2 n3 n4 : Nodes)
    → over ≡ x.base + node_count rest → Drafted d d1 rest n1 x t
    → n2 ≡ to_place d1.frame line x.base over n1 → Drafted d1 d2 n2 n3 x s → count ≡ node_count n3 - node_count n1
    → new ≡ typed d2 (types d2.frame.variables test) → n4 ≡ plains (code d2.frame test (next d2)) (plain (at_line d2.frame line (operations.SkipIfZero (next d2 + top d2.frame.variables test) count)) n3)
    → Drafted d new rest n4 x (if_else line test s t)
drafted_if_else d d1 d2 new x test s t line over count rest n1 n2 n3 n4 is_over h jumps k is_count draft put =
    let vs = d.frame.variables in
    let ts = statement_types vs t in
    let us = statement_types vs s in
    let second = next d + statement_registers vs t in
    let m = second + statement_registers vs s in
    let at : next d1 ≡ second = next_typed d d1 ts h.draft_is ∙ ap (λ n. next d + n) (statement_length vs t) in
    let both = then_statement d d1 d2 ts second h.draft_is at x s n2 n3 k in
    let last = then_test d d2 new (ts ++ us) m both.0 both.2 line count test n3 n4 draft put in
    let no = statement_code d.frame x.base (ways_of x d.frame d.marks) t (next d) rest in
    let jump : n2 ≡ to_place d.frame line x.base (x.base + node_count rest) no = jumps ∙ (λ i. to_place (h.draft_is i).frame line x.base (is_over i) (h.nodes_are i)) in
    let yes = statement_code d.frame x.base (ways_of x d.frame d.marks) s second (to_place d.frame line x.base (x.base + node_count rest) no) in
    let yes_is : n3 ≡ yes = both.1 ∙ (λ i. statement_code d.frame x.base (ways_of x d.frame d.marks) s second (jump i)) in
    let skips : count ≡ node_count yes - node_count no = is_count ∙ (λ i. node_count (yes_is i) - node_count (h.nodes_are i)) in
    record {
      draft_is = last.0 ∙ ap (typed d) (append_assoc ts us (types vs test));
      nodes_are = last.1 ∙ (λ i. plains (code d.frame test m) (plain (at_line d.frame line (operations.SkipIfZero (m + top d.frame.variables test) (skips i))) (yes_is i)));
    }

-- ---- loops

pub drafted_do : (d d1 new : Listed) (x inner : Exits) (test : Expression) (s : Statement) (line l behind count : ℕ) (rest r1 r2 now : Nodes)
    → behind ≡ x.base + node_count rest → d1 ≡ typed d (types d.frame.variables test)
    → r1 ≡ plains (code d.frame test (next d)) (plain (at_line d.frame line (operations.SkipIfZero (next d + top d.frame.variables test) 1)) ends)
    → count ≡ node_count r1 → inner ≡ loop_exits x behind count → Drafted d1 new r1 r2 inner s
    → now ≡ repeats line new.frame.function l false r2 rest
    → Drafted d new rest now x (do_loop line l s test)
drafted_do d d1 new x inner test s line l behind count rest r1 r2 now is_behind first tested is_count is_inner h loops =
    let vs = d.frame.variables in
    let from = x.base + node_count rest in
    let at : next d1 ≡ next d + (top vs test + 1) = next_typed d d1 (types vs test) first ∙ ap (λ n. next d + n) (types_length vs test) in
    let last = then_statement d d1 new (types vs test) (next d + (top vs test + 1)) first at inner s r1 r2 h in
    let end = plains (test_code d.frame line (Some test) (next d)) ends in
    let end_is : r1 ≡ end = tested ∙ sym (plains_one (code d.frame test (next d)) (at_line d.frame line (operations.SkipIfZero (next d + top vs test) 1)) ends) in
    let exits : inner ≡ loop_exits x from (node_count end) = is_inner ∙ (λ i. loop_exits x (is_behind i) (is_count i)) ∙ (λ i. loop_exits x from (node_count (end_is i))) in
    record {
      draft_is = last.0;
      nodes_are = loops ∙ (λ i. repeats line (last.0 i).frame.function l false (last.1 i) rest)
          ∙ (λ i. repeats line d.frame.function l false (statement_code d.frame (exits i).base (ways_of (exits i) d.frame d.marks) s (next d + (top vs test + 1)) (end_is i)) rest);
    }
  where
    plains_one : (xs : List _) (y : _) (ns : Nodes) → plains (xs ++ y ∷ []) ns ≡ plains xs (plain y ns)
    plains_one [] y ns = refl
    plains_one (z ∷ xs) y ns = ap (plain z) (plains_one xs y ns)

regroup : {A : Type 0} (a b c d e : List A) → (((a ++ b) ++ c) ++ d) ++ e ≡ a ++ (b ++ (c ++ (d ++ e)))
regroup a b c d e = simp append_assoc

pub drafted_for : (d d1 d2 d3 d4 new : Listed) (x inner : Exits) (first test last : Option Expression) (s : Statement) (line l behind count : ℕ) (rest r1 r2 r3 n1 n2 n3 : Nodes)
    → behind ≡ x.base + node_count rest
    → d1 ≡ typed d (part_types d.frame.variables test) → r1 ≡ plains (test_code d.frame line test (next d)) ends
    → d2 ≡ typed d1 (part_types d1.frame.variables last) → r2 ≡ plains (part_code d1.frame last (next d1)) r1
    → count ≡ node_count r2 → inner ≡ loop_exits x behind count → Drafted d2 d3 r2 r3 inner s
    → n1 ≡ repeats line d3.frame.function l true r3 rest
    → d4 ≡ typed d3 (part_types d3.frame.variables test) → n2 ≡ plains (test_code d3.frame line test (next d3)) n1
    → new ≡ typed d4 (part_types d4.frame.variables first) → n3 ≡ plains (part_code d4.frame first (next d4)) n2
    → Drafted d new rest n3 x (for_loop line l first test last s)
drafted_for d d1 d2 d3 d4 new x inner first test last s line l behind count rest r1 r2 r3 n1 n2 n3 is_behind one tested two ended is_count is_inner h loops four again five begun =
    let vs = d.frame.variables in
    let f = d.frame in
    let from = x.base + node_count rest in
    let in_last = next d + part_registers vs test in
    let in_body = in_last + part_registers vs last in
    let in_test = in_body + statement_registers vs s in
    let at : next d1 ≡ in_last = next_typed d d1 (part_types vs test) one ∙ ap (λ n. next d + n) (part_length vs test) in
    let a = then_part d d1 d2 (part_types vs test) in_last one at last r1 r2 two ended in
    let end = plains (part_code f last in_last) (plains (test_code f line test (next d)) ends) in
    let end_is : r2 ≡ end = a.1 ∙ ap (plains (part_code f last in_last)) tested in
    let exits : inner ≡ loop_exits x from (node_count end) = is_inner ∙ (λ i. loop_exits x (is_behind i) (is_count i)) ∙ (λ i. loop_exits x from (node_count (end_is i))) in
    let b = then_statement d d2 d3 (part_types vs test ++ part_types vs last) in_body a.0 a.2 inner s r2 r3 h in
    let c = then_loop_test d d3 d4 ((part_types vs test ++ part_types vs last) ++ statement_types vs s) in_test b.0 b.2 line test n1 n2 four again in
    let e = then_part d d4 new (((part_types vs test ++ part_types vs last) ++ statement_types vs s) ++ part_types vs test) (in_test + part_registers vs test) c.0 c.2 first n2 n3 five begun in
    let looped : n1 ≡ repeats line f.function l true (statement_code f (from + 1) (ways_of (loop_exits x from (node_count end)) d.frame d.marks) s in_body end) rest =
    loops ∙ (λ i. repeats line (b.0 i).frame.function l true (b.1 i) rest)
    ∙ (λ i. repeats line f.function l true (statement_code f (exits i).base (ways_of (exits i) d.frame d.marks) s in_body (end_is i)) rest) in
    record {
      draft_is = e.0 ∙ ap (typed d) (regroup (part_types vs test) (part_types vs last) (statement_types vs s) (part_types vs test) (part_types vs first));
      nodes_are = e.1 ∙ ap (plains (part_code f first (in_test + part_registers vs test))) (c.1 ∙ ap (plains (test_code f line test in_test)) looped);
    }

-- ---- switches

module _ (frame : Frame) (base : ℕ) (ways : Ways) where
  pub cases_length : (items : Items) (n : ℕ) (rest : Nodes) → 5 * length (cases_of frame base ways items n rest) ≡ length (case_types items)
  cases_length done n rest = refl
  cases_length (declares line v more) n rest = cases_length more n rest
  cases_length (initializes line v drawn e more) n rest = cases_length more n rest
  cases_length (initializes_structure line v drawn a more) n rest = cases_length more n rest
  cases_length (does s more) n rest = cases_length more n rest
  cases_length (label l more) n rest = cases_length more n rest
  cases_length (case_at line t bits more) n rest =
      omega (arith, length-append (cases_of frame base ways more n rest) (case_place line bits (base + node_count (items_code frame base ways more n rest)) t ∷ []), cases_length more n rest)
  cases_length (default_at line more) n rest = cases_length more n rest

  pub jumps_same : (x : ℕ) (items : Items) (k n : ℕ) (rest others : Nodes) → jumps_to frame base x k (reverse (cases_of frame base ways items n rest)) others ≡ case_jumps frame base ways x items k n rest others
  jumps_same x done k n rest others = refl
  jumps_same x (declares at v more) k n rest others = jumps_same x more k n rest others
  jumps_same x (initializes at v drawn e more) k n rest others = jumps_same x more k n rest others
  jumps_same x (initializes_structure at v drawn a more) k n rest others = jumps_same x more k n rest others
  jumps_same x (does s more) k n rest others = jumps_same x more k n rest others
  jumps_same x (label l more) k n rest others = jumps_same x more k n rest others
  jumps_same x (case_at at t bits more) k n rest others =
      let c = case_place at bits (base + node_count (items_code frame base ways more n rest)) t in
      ap (λ cs. jumps_to frame base x k cs others) (reverse-append (cases_of frame base ways more n rest) (c ∷ []))
      ∙ ap (λ (ns : Nodes). jump_code frame base x k c ns) (jumps_same x more (k + 5) n rest others)
  jumps_same x (default_at at more) k n rest others = jumps_same x more k n rest others

  pub has_default_same : (items : Items) (n : ℕ) (rest : Nodes) → is_some (default_of frame base ways items n rest) ≡ has_default items
  has_default_same done n rest = refl
  has_default_same (declares line v more) n rest = has_default_same more n rest
  has_default_same (initializes line v drawn e more) n rest = has_default_same more n rest
  has_default_same (initializes_structure line v drawn a more) n rest = has_default_same more n rest
  has_default_same (does s more) n rest = has_default_same more n rest
  has_default_same (label l more) n rest = has_default_same more n rest
  has_default_same (case_at line t bits more) n rest = has_default_same more n rest
  has_default_same (default_at line more) n rest = refl

  pub default_same : (behind : ℕ) (items : Items) (n : ℕ) (rest : Nodes)
      → unwrap_or (default_of frame base ways items n rest) behind ≡ (if has_default items then default_place frame base ways items n rest else behind)
  default_same behind done n rest = refl
  default_same behind (declares line v more) n rest = default_same behind more n rest
  default_same behind (initializes line v drawn e more) n rest = default_same behind more n rest
  default_same behind (initializes_structure line v drawn a more) n rest = default_same behind more n rest
  default_same behind (does s more) n rest = default_same behind more n rest
  default_same behind (label l more) n rest = default_same behind more n rest
  default_same behind (case_at line t bits more) n rest = default_same behind more n rest
  default_same behind (default_at line more) n rest = refl

pub drafted_switch : (d d1 d2 new : Listed) (x : Exits) (e : Expression) (items : Items) (cases : Cases) (line behind count value : ℕ) (rest n1 n2 n3 n4 : Nodes)
    → count ≡ node_count rest → behind ≡ x.base + count → Inside d d1 rest n1 (switch_exits x behind) items cases
    → n2 ≡ to_place d1.frame line x.base (unwrap_or cases.otherwise behind) n1
    → d2 ≡ typed d1 (Int ∷ number_type e ∷ (case_types items ++ entry_types d1.frame.variables items)) → value ≡ next d1 + 1
    → (5 * length cases.places.items ≡ length (case_types items) → n3 ≡ entered_code d1.frame line x.base count items (next d1) cases.places.items cases.otherwise n2)
    → new ≡ typed d2 (types d2.frame.variables e)
    → n4 ≡ plains (code d2.frame e (next d2)) (plain (at_line d2.frame line (operations.Copy value (next d2 + top d2.frame.variables e))) n3)
    → Drafted d new rest n4 x (switch line e items)
drafted_switch d d1 d2 new x e items cases line behind count value rest n1 n2 n3 n4 is_count is_behind h jumps second is_value entered last chosen =
    let f = d.frame in
    let vs = f.variables in
    let n = next d in
    let from = x.base + node_count rest in
    let out = leave_code f items in
    let left = plains (out n) rest in
    let inside = n + death_registers vs in
    let ways = leaving out (within_switch (ways_of x f d.marks) from) in
    let at_end : behind ≡ from = is_behind ∙ ap (λ k. x.base + k) is_count in
    let inner : leaving out (ways_of (switch_exits x behind) f d.marks) ≡ ways = (λ i. leaving out (ways_of (switch_exits x (at_end i)) f d.marks)) ∙ ap (leaving out) (ways_switch f x from d.marks) in
    let body = items_code f x.base ways items inside left in
    let body_is : n1 ≡ body = h.nodes_are ∙ (λ i. items_code f x.base (inner i) items inside left) in
    let cs = cases_of f x.base ways items inside left in
    let cs_are : cases.places.items ≡ cs = h.cases_are ∙ (λ i. cases_of f x.base (inner i) items inside left) in
    let o = default_of f x.base ways items inside left in
    let o_is : cases.otherwise ≡ o = h.default_is ∙ (λ i. default_of f x.base (inner i) items inside left) in
    let os = death_types vs in
    let ts = items_types vs items in
    let m = inside + items_registers vs items in
    let at : next d1 ≡ m = omega (arith, next_typed d d1 (os ++ ts) h.draft_is, length-append os ts, death_length vs, items_length vs items) in
    let to = if has_default items then default_place f x.base ways items inside left else from in
    let leads : unwrap_or cases.otherwise behind ≡ to = (λ i. unwrap_or (o_is i) (at_end i)) ∙ default_same f x.base ways from items inside left in
    let jumped : n2 ≡ to_place f line x.base to body = jumps ∙ (λ i. to_place (h.draft_is i).frame line x.base (leads i) (body_is i)) in
    let long : 5 * length cases.places.items ≡ length (case_types items) = ap (λ (ps : List CasePlace). 5 * length ps) cs_are ∙ cases_length f x.base ways items inside left in
    let in_cases = m + 1 + 1 in
    let in_entry = in_cases + case_registers vs items in
    let choice : Bool → Nodes → Nodes = λ b way. if b || declares_none items then way else guarded f line m (m + 1) items in_cases (node_count rest) way in
    let way = plains (entry_code f items in_entry) (case_jumps f x.base ways (m + 1) items in_cases inside left (to_place f line x.base to body)) in
    let in_all : n3 ≡ entered_code f line x.base (node_count rest) items m cs o (to_place f line x.base to body) =
    entered long ∙ (λ i. entered_code (h.draft_is i).frame line x.base (is_count i) items (at i) (cs_are i) (o_is i) (jumped i)) in
    let met : n3 ≡ choice (has_default items) way =
    in_all
    ∙ (λ i. choice (is_some o) (plains (entry_code f items in_entry) (jumps_same f x.base ways (m + 1) items in_cases inside left (to_place f line x.base to body) i)))
    ∙ ap (λ (b : Bool). choice b way) (has_default_same f x.base ways items inside left) in
    let us = Int ∷ number_type e ∷ (case_types items ++ entry_types vs items) in
    let two : d2 ≡ typed d1 us = second ∙ (λ i. typed d1 (Int ∷ number_type e ∷ (case_types items ++ entry_types (h.draft_is i).frame.variables items))) in
    let whole : d2 ≡ typed d ((os ++ ts) ++ us) = two ∙ typed_more d d1 (os ++ ts) us h.draft_is in
    let at2 : next d2 ≡ in_entry + entry_registers vs items =
    omega (arith, next_typed d1 d2 us two, at, length-append (case_types items) (entry_types vs items), case_length vs items, entry_length vs items) in
    let again : new ≡ typed d2 (types vs e) = last ∙ (λ i. typed d2 (types (whole i).frame.variables e)) in
    record {
      draft_is = again ∙ typed_more d d2 ((os ++ ts) ++ us) (types vs e) whole
          ∙ ap (typed d) (switch_types os ts (case_types items) (entry_types vs items) (types vs e) (number_type e));
      nodes_are = chosen
          ∙ (λ i. plains (code (whole i).frame e (at2 i)) (plain (at_line (whole i).frame line (operations.Copy ((is_value ∙ ap (λ k. k + 1) at) i) (at2 i + top (whole i).frame.variables e))) (met i)));
    }
  where
    switch_types : (os ts cs es vs : List IntegerType) (t : IntegerType) → ((os ++ ts) ++ (Int ∷ t ∷ (cs ++ es))) ++ vs ≡ os ++ (ts ++ (Int ∷ t ∷ (cs ++ (es ++ vs))))
    switch_types os ts cs es vs t = simp append_assoc

-- ---- results

pub ok_two : {T E : Type 0} (r : Result T E) (p q s : Type 0) → (p → q → s) → OnOk r p → OnOk r q → OnOk r s
ok_two (Ok x) p q s f h k = f h k
ok_two (Err e) p q s f h k = h

pub if_maps : {T E : Type 0} (r : Result T E) (P Q : T → Type 0) → ((x : T) → P x → Q x) → IfOk r P → IfOk r Q
if_maps (Ok x) P Q f h = f x h
if_maps (Err e) P Q f h = h

pub drafted_stray : {T E : Type 0} (r : Result T E) (old new : Listed) (rest nodes : Nodes) (x : Exits) (line : ℕ) (s : Statement) → OnOk r (Drafted old new rest nodes x s) → OnOk r (Drafted old new rest nodes x (stray line s))
drafted_stray (Ok y) old new rest nodes x line s h = record { draft_is = h.draft_is; nodes_are = h.nodes_are }
drafted_stray (Err e) old new rest nodes x line s h = h

pub drafted_same : {T E : Type 0} (r : Result T E) (old new : Listed) (rest nodes : Nodes) (x : Exits) (s t : Statement) → s ≡ t → OnOk r (Drafted old new rest nodes x s) → OnOk r (Drafted old new rest nodes x t)
drafted_same (Ok y) old new rest nodes x s t same h = record {
  draft_is = h.draft_is ∙ ap (λ (u : Statement). typed old (statement_types old.frame.variables u)) same;
  nodes_are = h.nodes_are ∙ ap (λ (u : Statement). statement_code old.frame x.base (ways_of x old.frame old.marks) u (next old) rest) same;
}
drafted_same (Err e) old new rest nodes x s t same h = h
