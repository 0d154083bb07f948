-- What items add to a draft, last to first.
use Rattle.std.proofs.Common.{◌≡◌, ℕ, ◌+◌, ◌-◌, Bool, List, [], ◌∷◌, ◌++◌, length, drop, Some, None, refl, sym, ap, ◌∙◌, append-nil, append_assoc, length-append}
use Rattle.c_types.specs.declared.integers.IntegerType.{IntegerType}
use Rattle.core_tree.specs.Trees.{Expression, Structure, Statement, Items, done, declares, initializes, initializes_structure, does, label, case_at, default_at}
use Rattle.c_meaning.specs.Meaning.{number_type}
use Rattle.goto_prog.specs.Nodes.{Nodes, node_count}
use Rattle.c_temporaries.specs.Accesses.{home_in}
use Rattle.code_draft.specs.declared.places.Mark.{Mark}
use Rattle.code_draft.specs.declared.places.Mark.TheVariants as marks
use Rattle.goto_lower.specs.declared.exits.Exits.{Exits}
use Rattle.goto_lower.specs.declared.exits.Cases.{Cases}
use Rattle.lowered_code.specs.Lowering.{Frame, Ways, with_label, leaving, top, plains, code, initial_store, initial_code, leave_code, death_registers, items_registers, items_code, labels_of, statement_code}
use Rattle.lowered_code.specs.Registers.{types, structure_types, initial_types, death_types, statement_types, items_types}
use Rattle.code_draft.specs.Drafts.{Listed, next, deaths_of}
use Rattle.goto_lower.specs.Statements.{typed, living, alive, alive_count, block_exits, ways_of, case_place, labels_among, cases_of, default_of, Within, Inside, Drafted}
use Rattle.lowered_code.proofs.RegisterCounts.{death_length, items_length}
use Rattle.goto_lower.proofs.Living.{behind_marks, behind_alive, all_die, ways_block, ways_label}

-- ---- the labels that are known among items

pub labels_same : (frame : Frame) (base : ℕ) (x : Exits) (ms : List Mark) (items : Items) (n : ℕ) (rest : Nodes)
    → ways_of x frame (labels_among frame base (ways_of x frame ms) items n rest ++ ms) ≡ labels_of frame base (ways_of x frame ms) items n rest
labels_same frame base x ms done n rest = refl
labels_same frame base x ms (declares line v more) n rest = labels_same frame base x ms more n rest
labels_same frame base x ms (initializes line v drawn e more) n rest = labels_same frame base x ms more n rest
labels_same frame base x ms (initializes_structure line v drawn a more) n rest = labels_same frame base x ms more n rest
labels_same frame base x ms (does s more) n rest = labels_same frame base x ms more n rest
labels_same frame base x ms (label l more) n rest =
    let place = base + node_count (items_code frame base (ways_of x frame ms) more n rest) in
    ways_label frame x l place (labels_among frame base (ways_of x frame ms) more n rest ++ ms)
    ∙ ap (λ (w : Ways). with_label w l place) (labels_same frame base x ms more n rest)
labels_same frame base x ms (case_at line t bits more) n rest = labels_same frame base x ms more n rest
labels_same frame base x ms (default_at line more) n rest = labels_same frame base x ms more n rest

-- ---- before the first item, and behind the last

pub within_none : (d : Listed) (rest : Nodes) (x : Exits) (cases : Cases) → cases.places.items ≡ [] → cases.otherwise ≡ None → Within d rest x done d rest cases
within_none d rest x cases none no_default = record {
  draft_is = sym (λ i. record d { registers = append-nil d.registers i });
  nodes_are = refl;
  cases_are = none;
  default_is = no_default;
}

pub within_all : (d e new : Listed) (rest nodes : Nodes) (x : Exits) (items : Items) (cases : Cases) (known : ℕ)
    → Within d rest x items e nodes cases → known ≡ length d.marks → new ≡ record e { marks = drop (length e.marks - known) e.marks }
    → new ≡ typed d (items_types d.frame.variables items)
within_all d e new rest nodes x items cases known h is_known last =
    last
    ∙ (λ i. record (h.draft_is i) { marks = drop (length (h.draft_is i).marks - is_known i) (h.draft_is i).marks })
    ∙ (λ i. record (typed d (items_types d.frame.variables items)) { marks = behind_marks (labels_among d.frame x.base (ways_of x d.frame d.marks) items (next d) rest) d.marks i })

-- ---- items

module _ (first : Listed) (rest : Nodes) (x : Exits) (others : Items) (d : Listed) (nodes : Nodes) (cases : Cases) (h : Within first rest x others d nodes cases) where
  abbrev ways : Ways
  ways = ways_of x first.frame first.marks

  abbrev labels : List Mark
  labels = labels_among first.frame x.base ways others (next first) rest

  next_within : next d ≡ next first + items_registers first.frame.variables others
  next_within = ap next h.draft_is ∙ length-append first.registers (items_types first.frame.variables others) ∙ ap (λ n. next first + n) (items_length first.frame.variables others)

  more_types : (new : Listed) (ts : List IntegerType) → new ≡ typed d ts → new ≡ record first { registers = first.registers ++ (items_types first.frame.variables others ++ ts); marks = labels ++ first.marks }
  more_types new ts same =
      same ∙ (λ i. typed (h.draft_is i) ts)
      ∙ (λ i. record first { registers = append_assoc first.registers (items_types first.frame.variables others) ts i; marks = labels ++ first.marks })

  pub within_initializes : (new : Listed) (now : Nodes) (line v : ℕ) (drawn : Bool) (e : Expression)
      → new ≡ typed d (types d.frame.variables e ++ initial_types d.frame.variables v)
      → now ≡ (let n = next d + top d.frame.variables e in plains (code d.frame e (next d)) (plains (initial_store d.frame line v (home_in d.frame.variables v) (number_type e) n (next d + (top d.frame.variables e + 1))) nodes))
      → Within first rest x (initializes line v drawn e others) new now cases
  within_initializes new now line v drawn e same put = record {
    draft_is = more_types new (types first.frame.variables e ++ initial_types first.frame.variables v)
        (same ∙ (λ i. typed d (types (h.draft_is i).frame.variables e ++ initial_types (h.draft_is i).frame.variables v)));
    nodes_are = put
        ∙ (λ i. (let f = (h.draft_is i).frame in plains (code f e (next_within i))
        (plains (initial_store f line v (home_in f.variables v) (number_type e) (next_within i + top f.variables e) (next_within i + (top f.variables e + 1))) (h.nodes_are i))));
    cases_are = h.cases_are;
    default_is = h.default_is;
  }

  pub within_structure : (new : Listed) (now : Nodes) (line v : ℕ) (drawn : Bool) (a : Structure)
      → new ≡ typed d (structure_types d.frame.variables a ++ initial_types d.frame.variables v) → now ≡ plains (initial_code d.frame line v a (next d)) nodes
      → Within first rest x (initializes_structure line v drawn a others) new now cases
  within_structure new now line v drawn a same put = record {
    draft_is = more_types new (structure_types first.frame.variables a ++ initial_types first.frame.variables v)
        (same ∙ (λ i. typed d (structure_types (h.draft_is i).frame.variables a ++ initial_types (h.draft_is i).frame.variables v)));
    nodes_are = put ∙ (λ i. plains (initial_code (h.draft_is i).frame line v a (next_within i)) (h.nodes_are i));
    cases_are = h.cases_are;
    default_is = h.default_is;
  }

  pub within_does : (new : Listed) (now : Nodes) (s : Statement) → Drafted d new nodes now x s → Within first rest x (does s others) new now cases
  within_does new now s k = record {
    draft_is = more_types new (statement_types first.frame.variables s) (k.draft_is ∙ (λ i. typed d (statement_types (h.draft_is i).frame.variables s)));
    nodes_are = k.nodes_are
        ∙ (λ i. statement_code (h.draft_is i).frame x.base (ways_of x (h.draft_is i).frame (h.draft_is i).marks) s (next_within i) (h.nodes_are i))
        ∙ (λ i. statement_code first.frame x.base (labels_same first.frame x.base x first.marks others (next first) rest i) s (next first + items_registers first.frame.variables others)
        (items_code first.frame x.base ways others (next first) rest));
    cases_are = h.cases_are;
    default_is = h.default_is;
  }

  pub within_label : (new : Listed) (l place : ℕ) → place ≡ x.base + node_count nodes → new ≡ record d { marks = marks.Label l place ∷ d.marks } → Within first rest x (label l others) new nodes cases
  within_label new l place is_place same = record {
    draft_is = same ∙ (λ i. record (h.draft_is i) { marks = marks.Label l (is_place i) ∷ (h.draft_is i).marks })
        ∙ (λ i. record first { registers = first.registers ++ items_types first.frame.variables others; marks = marks.Label l (x.base + node_count (h.nodes_are i)) ∷ (labels ++ first.marks) });
    nodes_are = h.nodes_are;
    cases_are = h.cases_are;
    default_is = h.default_is;
  }

  pub within_case : (now : Cases) (line bits place : ℕ) (t : IntegerType) → place ≡ x.base + node_count nodes → now.places.items ≡ cases.places.items ++ case_place line bits place t ∷ [] → now.otherwise ≡ cases.otherwise
      → Within first rest x (case_at line t bits others) d nodes now
  within_case now line bits place t is_place same kept = record {
    draft_is = h.draft_is;
    nodes_are = h.nodes_are;
    cases_are = same ∙ (λ i. h.cases_are i ++ case_place line bits (is_place i) t ∷ [])
        ∙ (λ i. cases_of first.frame x.base ways others (next first) rest ++ case_place line bits (x.base + node_count (h.nodes_are i)) t ∷ []);
    default_is = kept ∙ h.default_is;
  }

  pub within_default : (now : Cases) (line place : ℕ) → place ≡ x.base + node_count nodes → now.places.items ≡ cases.places.items → now.otherwise ≡ Some place
      → Within first rest x (default_at line others) d nodes now
  within_default now line place is_place kept same = record {
    draft_is = h.draft_is;
    nodes_are = h.nodes_are;
    cases_are = kept ∙ h.cases_are;
    default_is = same ∙ ap (λ (p : ℕ). Some p) is_place ∙ (λ i. Some (x.base + node_count (h.nodes_are i)));
  }

-- ---- items around which objects live

pub inside_all : (d d1 d2 d3 new : Listed) (x inner : Exits) (items : Items) (rest n1 n2 : Nodes) (cases : Cases) (known count : ℕ)
    → known ≡ length d.marks → d1 ≡ living d items → count ≡ alive_count d.frame.variables items
    → d2 ≡ typed d1 (death_types d1.frame.variables) → n1 ≡ plains (deaths_of d1.frame d1.marks count (next d1)) rest → inner ≡ block_exits x count
    → d3 ≡ typed d2 (items_types d2.frame.variables items) → n2 ≡ items_code d2.frame inner.base (ways_of inner d2.frame d2.marks) items (next d2) n1
    → cases.places.items ≡ cases_of d2.frame inner.base (ways_of inner d2.frame d2.marks) items (next d2) n1
    → cases.otherwise ≡ default_of d2.frame inner.base (ways_of inner d2.frame d2.marks) items (next d2) n1
    → new ≡ record d3 { marks = drop (length d3.marks - known) d3.marks }
    → Inside d new rest n2 x items cases
inside_all d d1 d2 d3 new x inner items rest n1 n2 cases known count is_known first is_count second put is_inner third filled placed defaults last =
    let f = d.frame in
    let vs = f.variables in
    let ms = alive vs items d.marks in
    let out = leave_code f items in
    let ts = death_types vs in
    let us = items_types vs items in
    let m = next d + death_registers vs in
    let two : d2 ≡ record d { registers = d.registers ++ ts; marks = ms } = second ∙ (λ i. typed (first i) (death_types (first i).frame.variables)) in
    let at : next d2 ≡ m = ap next two ∙ length-append d.registers ts ∙ ap (λ k. next d + k) (death_length vs) in
    let left : n1 ≡ plains (out (next d)) rest = put ∙ (λ i. plains (deaths_of (first i).frame (first i).marks (is_count i) (next (first i))) rest) ∙ ap (λ xs. plains xs rest) (all_die f items d.marks (next d)) in
    let exits : inner ≡ block_exits x (alive_count vs items) = is_inner ∙ ap (block_exits x) is_count in
    let ways : ways_of inner d2.frame d2.marks ≡ leaving out (ways_of x f d.marks) = (λ i. ways_of (exits i) (two i).frame (two i).marks) ∙ sym (ways_block f x items d.marks) in
    let three : d3 ≡ record d { registers = (d.registers ++ ts) ++ us; marks = ms } = third ∙ (λ i. typed (two i) (items_types (two i).frame.variables items)) in
    record {
      draft_is = last
          ∙ (λ i. record (three i) { marks = drop (length (three i).marks - is_known i) (three i).marks })
          ∙ (λ i. record d { registers = append_assoc d.registers ts us i; marks = behind_alive vs items d.marks i });
      nodes_are = filled ∙ (λ i. items_code (two i).frame (exits i).base (ways i) items (at i) (left i));
      cases_are = placed ∙ (λ i. cases_of (two i).frame (exits i).base (ways i) items (at i) (left i));
      default_is = defaults ∙ (λ i. default_of (two i).frame (exits i).base (ways i) items (at i) (left i));
    }
