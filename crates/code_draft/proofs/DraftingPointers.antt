-- What places and operators on pointers add to a draft, by what their parts add.
use Rattle.std.proofs.Common.{◌≡◌, ℕ, ℤ, ◌+◌, Bool, true, false, List, [], ◌∷◌, ◌++◌, refl, sym, ap, ◌∙◌, arith, append-nil, append_assoc}
use Rattle.std.specs.Prelude.{pos, if◌then◌else◌}
use Rattle.c_types.specs.declared.integers.IntegerType.{IntegerType}
use Rattle.c_types.specs.declared.integers.IntegerType.TheVariants.{Int, Long, UnsignedLong}
use Rattle.core_tree.specs.declared.operators.Comparison.{Comparison}
use Rattle.core_tree.specs.Trees.{Place, pointed, arrow, member, element, subscript, Expression, constant, address, sum, distance, relation, pointer_update, pointer_step, allocate, allocate_zeroed, release, exit}
use Rattle.c_meaning.specs.Meaning.{number_type, place_line}
use Rattle.c_temporaries.specs.Accesses.{access, is_evaluated}
use Rattle.goto_prog.specs.declared.code.Instruction.{Instruction}
use Rattle.goto_prog.specs.declared.code.Operation.TheVariants as operations
use Rattle.code_draft.specs.declared.operand.Operand.{Operand}
use Rattle.code_draft.specs.declared.operand.Updated.{Updated}
use Rattle.code_draft.specs.declared.operand.Way.{Way}
use Rattle.lowered_code.specs.Lowering.{Frame, held, place_top, top, at_line, if_evaluated, place_code, read_code, write_code, element_code, move_code, code}
use Rattle.lowered_code.specs.Registers.{held_types, place_types, types}
use Rattle.lowered_code.proofs.RegisterCounts.{place_length}
use Rattle.code_draft.specs.Drafts.{Listed, next, added, moved_code, asked_code, drawn_code, zeroed_code, freed_code, distance_code, relation_code, operand, value_in, Leads, Reaches, Lowers}
use Rattle.code_draft.proofs.Drafting.{next_added, adds_more, next_of, top_in, behind_one, value_from, next_way, behind_way, same_moved}

-- ---- what comes behind a place

pub next_leads : (old new : Listed) (x : Place) (p : ℕ) → Leads old new x p → next new ≡ next old + (place_top old.frame.variables x + 1)
next_leads old new x p h =
    ap next h.code_is ∙ next_added old (place_code old.frame x (next old)) (place_types old.frame.variables x) ∙ ap (λ n. next old + n) (place_length old.frame.variables x)

pub place_top_in : (f g : Frame) (x : Place) → g ≡ f → place_top g.variables x ≡ place_top f.variables x
place_top_in f g x same = λ i. place_top (same i).variables x

pub behind_place : (old d new : Listed) (x : Place) (p : ℕ) (tail : Frame → ℕ → ℕ → List Instruction) (ts : Frame → List IntegerType)
    → Leads old d x p → new ≡ added d (tail d.frame p (next d)) (ts d.frame)
    → (let f = old.frame in
    new
    ≡ added old (place_code f x (next old) ++ tail f (next old + place_top f.variables x) (next old + (place_top f.variables x + 1))) (place_types f.variables x ++ ts f))
behind_place old d new x p tail ts h same =
    let f = old.frame in
    adds_more old d new (place_code f x (next old)) (tail f (next old + place_top f.variables x) (next old + (place_top f.variables x + 1))) (place_types f.variables x) (ts f) h.code_is
    (same ∙ (λ i. added d (tail (h.code_is i).frame (h.register_is i) (next_leads old d x p h i)) (ts (h.code_is i).frame)))

-- ---- places

pub leads_pointed : (old new : Listed) (line : ℕ) (e : Expression) (x : Operand) → Lowers old new e x → Leads old new (pointed line e) x.register
leads_pointed old new line e x h = record { code_is = h.code_is; register_is = λ i. (h.value_is i).register }

pub leads_arrow : (old d new : Listed) (e : Expression) (x : Operand) (line offset r : ℕ)
    → Lowers old d e x → new ≡ added d (at_line d.frame line (operations.Offset (next d) x.register offset) ∷ []) (UnsignedLong ∷ []) → r ≡ next d
    → Leads old new (arrow line e offset) r
leads_arrow old d new e x line offset r h same at = record {
  code_is = behind_one old d new e x (next d) (λ g u n. at_line g line (operations.Offset n u.register offset) ∷ []) (λ g u. UnsignedLong ∷ []) h refl same;
  register_is = at ∙ next_of old d e x h;
}

pub leads_member : (old d new : Listed) (x : Place) (p line offset r : ℕ)
    → Leads old d x p → new ≡ added d (at_line d.frame line (operations.Offset (next d) p offset) ∷ []) (UnsignedLong ∷ []) → r ≡ next d
    → Leads old new (member line x offset) r
leads_member old d new x p line offset r h same at = record {
  code_is = behind_place old d new x p (λ g q n. at_line g line (operations.Offset n q offset) ∷ []) (λ g. UnsignedLong ∷ []) h same;
  register_is = at ∙ next_leads old d x p h;
}

-- two words more
abbrev pub two_words : List IntegerType
two_words = UnsignedLong ∷ UnsignedLong ∷ []

pub leads_element : (old mid d new : Listed) (x : Place) (e : Expression) (p : ℕ) (y : Operand) (line size whole r : ℕ) (swapped : Bool)
    → swapped ≡ false → Leads old mid x p → Lowers mid d e y
    → new ≡ added d (element_code d.frame line p y.register y.type_ size whole (next d)) two_words → r ≡ next d + 1
    → Leads old new (element line x e size whole swapped) r
leads_element old mid d new x e p y line size whole r swapped is_swapped h k same at =
    rw is_swapped
    (let f = old.frame in
    let inner = behind_one mid d new e y (next d) (λ g u n. element_code g line p u.register u.type_ size whole n) (λ g u. two_words) k refl same in
    let last : r ≡ next old + (place_top f.variables x + (top f.variables e + 3)) = omega (arith, at, next_of mid d e y k, next_leads old mid x p h, top_in f mid.frame e (λ i. (h.code_is i).frame)) in
    record {
      code_is = behind_place old mid new x p (λ g q n. code g e n ++ element_code g line q (n + top g.variables e) (number_type e) size whole (n + (top g.variables e + 1))) (λ g. types g.variables e ++ two_words) h inner;
      register_is = last;
    })

pub leads_swapped_element : (old mid d new : Listed) (x : Place) (e : Expression) (p : ℕ) (y : Operand) (line size whole r : ℕ) (swapped : Bool)
    → swapped ≡ true → Lowers old mid e y → Leads mid d x p
    → new ≡ added d (element_code d.frame line p y.register y.type_ size whole (next d)) two_words → r ≡ next d + 1
    → Leads old new (element line x e size whole swapped) r
leads_swapped_element old mid d new x e p y line size whole r swapped is_swapped h k same at =
    rw is_swapped
    (let f = old.frame in
    let inner = behind_place mid d new x p (λ g q n. element_code g line q y.register y.type_ size whole n) (λ g. two_words) k same in
    let last : r ≡ next old + (place_top f.variables x + (top f.variables e + 3)) = omega (arith, at, next_of old mid e y h, next_leads mid d x p k, place_top_in f mid.frame x (λ i. (h.code_is i).frame)) in
    record {
      code_is = behind_one old mid new e y (next mid) (λ g u n. place_code g x n ++ element_code g line (n + place_top g.variables x) u.register u.type_ size whole (n + (place_top g.variables x + 1))) (λ g u. place_types g.variables x ++ two_words) h refl inner;
      register_is = last;
    })

-- what comes behind two expressions, by their values
pub in_turn : (old mid d new : Listed) (a b : Expression) (x y : Operand) (tail : Frame → Operand → Operand → ℕ → List Instruction) (us : List IntegerType)
    → Lowers old mid a x → Lowers mid d b y → new ≡ added d (tail d.frame x y (next d)) us
    → (let f = old.frame in
    let second = next old + (top f.variables a + 1) in
    new
    ≡ added old (code f a (next old) ++ (code f b second ++ tail f (value_in old a) (value_from f b second) (second + (top f.variables b + 1)))) (types f.variables a ++ (types f.variables b ++ us)))
in_turn old mid d new a b x y tail us h k same =
    behind_one old mid new a x (next mid) (λ g z n. code g b n ++ tail g z (value_from g b n) (n + (top g.variables b + 1))) (λ g z. types g.variables b ++ us) h refl
    (behind_one mid d new b y (next d) (λ g z n. tail g x z n) (λ g z. us) k refl same)

next_in_turn : (old mid d : Listed) (a b : Expression) (x y : Operand) → Lowers old mid a x → Lowers mid d b y → next d ≡ next old + (top old.frame.variables a + 1) + (top old.frame.variables b + 1)
next_in_turn old mid d a b x y h k = omega (arith, next_of old mid a x h, next_of mid d b y k, top_in old.frame mid.frame b (λ i. (h.code_is i).frame))

pub leads_subscript : (old mid d new : Listed) (a e : Expression) (x y : Operand) (line size r : ℕ) (swapped : Bool)
    → swapped ≡ false → Lowers old mid a x → Lowers mid d e y
    → new ≡ added d (move_code d.frame true line x.register y.register y.type_ (pos size) (next d)) two_words → r ≡ next d + 1
    → Leads old new (subscript line a e size swapped) r
leads_subscript old mid d new a e x y line size r swapped is_swapped h k same at =
    rw is_swapped
    (let last : r ≡ next old + (top old.frame.variables a + (top old.frame.variables e + 3)) = omega (arith, at, next_in_turn old mid d a e x y h k) in
    record {
      code_is = in_turn old mid d new a e x y (λ g u w n. move_code g true line u.register w.register w.type_ (pos size) n) two_words h k same;
      register_is = last;
    })

pub leads_swapped_subscript : (old mid d new : Listed) (a e : Expression) (x y : Operand) (line size r : ℕ) (swapped : Bool)
    → swapped ≡ true → Lowers old mid e y → Lowers mid d a x
    → new ≡ added d (move_code d.frame true line x.register y.register y.type_ (pos size) (next d)) two_words → r ≡ next d + 1
    → Leads old new (subscript line a e size swapped) r
leads_swapped_subscript old mid d new a e x y line size r swapped is_swapped h k same at =
    rw is_swapped
    (let last : r ≡ next old + (top old.frame.variables a + (top old.frame.variables e + 3)) = omega (arith, at, next_in_turn old mid d e a y x h k) in
    record {
      code_is = in_turn old mid d new e a y x (λ g u w n. move_code g true line w.register u.register u.type_ (pos size) n) two_words h k same;
      register_is = last;
    })

-- how a place is reached, where it is evaluated and where it isn't
pub reaches_evaluated : (old new : Listed) (x : Place) (p : ℕ) (w : Way) → is_evaluated (access old.frame.variables x) ≡ true → Leads old new x p → w ≡ record { access = access old.frame.variables x; pointer = p } → Reaches old new x w
reaches_evaluated old new x p w evaluated h is_way =
    let f = old.frame in
    let a = access f.variables x in
    record {
      code_is = h.code_is ∙ sym (λ i. added old (if evaluated i then place_code f x (next old) else []) (if evaluated i then place_types f.variables x else []));
      way_is = is_way ∙ (λ i. record { access = a; pointer = h.register_is i }) ∙ sym (λ i. record { access = a; pointer = if evaluated i then next old + place_top f.variables x else 0 });
    }

pub reaches_directly : (old : Listed) (x : Place) (w : Way) → is_evaluated (access old.frame.variables x) ≡ false → w ≡ record { access = access old.frame.variables x; pointer = 0 } → Reaches old old x w
reaches_directly old x w direct is_way =
    let f = old.frame in
    let a = access f.variables x in
    record {
      code_is = sym (λ i. record old { instructions = append-nil old.instructions i; registers = append-nil old.registers i })
          ∙ sym (λ i. added old (if direct i then place_code f x (next old) else []) (if direct i then place_types f.variables x else []));
      way_is = is_way ∙ sym (λ i. record { access = a; pointer = if direct i then next old + place_top f.variables x else 0 });
    }

-- ---- operators

pub lowers_address : (old new : Listed) (x : Place) (line p : ℕ) (y : Operand) → Leads old new x p → y ≡ operand p UnsignedLong line → Lowers old new (address line x) y
lowers_address old new x line p y h v = record { code_is = h.code_is; value_is = v ∙ (λ i. operand (h.register_is i) UnsignedLong line) }

pub lowers_sum : (old mid d new : Listed) (a e : Expression) (x y z : Operand) (line : ℕ) (by : ℤ) (swapped : Bool)
    → swapped ≡ false → Lowers old mid a x → Lowers mid d e y
    → new ≡ added d (move_code d.frame false line x.register y.register y.type_ by (next d)) two_words → z ≡ operand (next d + 1) UnsignedLong line
    → Lowers old new (sum line a e by swapped) z
lowers_sum old mid d new a e x y z line by swapped is_swapped h k same v =
    rw is_swapped
    (let last : next d + 1 ≡ next old + (top old.frame.variables a + (top old.frame.variables e + 3)) = omega (arith, next_in_turn old mid d a e x y h k) in
    record {
      code_is = in_turn old mid d new a e x y (λ g u w n. move_code g false line u.register w.register w.type_ by n) two_words h k same;
      value_is = v ∙ (λ i. operand (last i) UnsignedLong line);
    })

pub lowers_swapped_sum : (old mid d new : Listed) (a e : Expression) (x y z : Operand) (line : ℕ) (by : ℤ) (swapped : Bool)
    → swapped ≡ true → Lowers old mid e y → Lowers mid d a x
    → new ≡ added d (move_code d.frame false line x.register y.register y.type_ by (next d)) two_words → z ≡ operand (next d + 1) UnsignedLong line
    → Lowers old new (sum line a e by swapped) z
lowers_swapped_sum old mid d new a e x y z line by swapped is_swapped h k same v =
    rw is_swapped
    (let last : next d + 1 ≡ next old + (top old.frame.variables a + (top old.frame.variables e + 3)) = omega (arith, next_in_turn old mid d e a y x h k) in
    record {
      code_is = in_turn old mid d new e a y x (λ g u w n. move_code g false line w.register u.register u.type_ by n) two_words h k same;
      value_is = v ∙ (λ i. operand (last i) UnsignedLong line);
    })

module _ (old mid d new : Listed) (a b : Expression) (x y z : Operand) (line : ℕ) (h : Lowers old mid a x) (k : Lowers mid d b y) where
  abbrev second : ℕ
  second = next old + (top old.frame.variables a + 1)

  abbrev from : ℕ
  from = next old + top old.frame.variables a

  abbrev to : ℕ
  to = second + top old.frame.variables b

  behind : second + (top old.frame.variables b + 1) ≡ to + 1
  behind = omega arith

  last_two : next d ≡ next old + (top old.frame.variables a + (top old.frame.variables b + 2))
  last_two = omega (arith, next_in_turn old mid d a b x y h k)

  pub lowers_distance : (by : ℕ) → new ≡ added d (distance_code d.frame line x.register y.register by (next d)) (Long ∷ []) → z ≡ operand (next d) Long line → Lowers old new (distance line a b by) z
  lowers_distance by same v =
      let f = old.frame in
      record {
        code_is = in_turn old mid d new a b x y (λ g u w n. distance_code g line u.register w.register by n) (Long ∷ []) h k same
            ∙ (λ i. added old (code f a (next old) ++ (code f b second ++ distance_code f line from to by (behind i))) (types f.variables a ++ (types f.variables b ++ Long ∷ [])));
        value_is = v ∙ (λ i. operand (last_two i) Long line);
      }

  pub lowers_relation : (op : Comparison) → new ≡ added d (relation_code d.frame line op x.register y.register (next d)) (Int ∷ []) → z ≡ operand (next d) Int line → Lowers old new (relation line op a b) z
  lowers_relation op same v =
      let f = old.frame in
      record {
        code_is = in_turn old mid d new a b x y (λ g u w n. relation_code g line op u.register w.register n) (Int ∷ []) h k same
            ∙ (λ i. added old (code f a (next old) ++ (code f b second ++ relation_code f line op from to (behind i))) (types f.variables a ++ (types f.variables b ++ Int ∷ [])));
        value_is = v ∙ (λ i. operand (last_two i) Int line);
      }

-- ---- the pointer at a place

abbrev pub three_words : List IntegerType
three_words = UnsignedLong ∷ UnsignedLong ∷ UnsignedLong ∷ []

pub moved_adds : (d d1 d2 new : Listed) (w : Way) (pointer index : Operand) (at line moved : ℕ) (by : ℤ)
    → d1 ≡ added d (read_code d.frame at (next d) UnsignedLong w.access w.pointer) (UnsignedLong ∷ []) → pointer ≡ operand (next d) UnsignedLong at
    → d2 ≡ added d1 (move_code d1.frame false line pointer.register index.register index.type_ by (next d1)) two_words → moved ≡ next d1 + 1
    → new ≡ added d2 (write_code d2.frame line UnsignedLong w.access w.pointer moved) []
    → new ≡ added d (moved_code d.frame at line w.access w.pointer by index.register index.type_ (next d)) three_words
moved_adds d d1 d2 new w pointer index at line moved by first is_pointer second is_moved third =
    let f = d.frame in
    let n = next d in
    let read = read_code f at n UnsignedLong w.access w.pointer in
    let next1 : next d1 ≡ n + 1 = ap next first ∙ next_added d read (UnsignedLong ∷ []) in
    let move = move_code f false line n index.register index.type_ by (n + 1) in
    let second' : d2 ≡ added d1 move two_words = second ∙ (λ i. added d1 (move_code (first i).frame false line (is_pointer i).register index.register index.type_ by (next1 i)) two_words) in
    let moved' : moved ≡ n + 2 = omega (arith, is_moved, next1) in
    let write = write_code f line UnsignedLong w.access w.pointer (n + 2) in
    let f1 : d1.frame ≡ f = λ i. (first i).frame in
    let f2 : d2.frame ≡ f = (λ i. (second' i).frame) ∙ f1 in
    adds_more d d1 new read (move ++ write) (UnsignedLong ∷ []) two_words first
    (adds_more d1 d2 new move write two_words [] second' (third ∙ (λ i. added d2 (write_code (f2 i) line UnsignedLong w.access w.pointer (moved' i)) [])))

pub moved_registers : (d d1 : Listed) (w : Way) (pointer : Operand) (at moved : ℕ) (u : Updated)
    → d1 ≡ added d (read_code d.frame at (next d) UnsignedLong w.access w.pointer) (UnsignedLong ∷ []) → pointer ≡ operand (next d) UnsignedLong at → moved ≡ next d1 + 1
    → u ≡ record { old = pointer.register; new = moved } → u ≡ record { old = next d; new = next d + 2 }
moved_registers d d1 w pointer at moved u first is_pointer is_moved is_updated =
    let next1 : next d1 ≡ next d + 1 = ap next first ∙ next_added d (read_code d.frame at (next d) UnsignedLong w.access w.pointer) (UnsignedLong ∷ []) in
    let moved' : moved ≡ next d + 2 = omega (arith, is_moved, next1) in
    is_updated ∙ (λ i. record { old = (is_pointer i).register; new = moved' i })

pub lowers_pointer_update : (old mid d new : Listed) (p : Place) (w : Way) (e : Expression) (x y : Operand) (at line : ℕ) (by : ℤ) (u : Updated)
    → at ≡ place_line p → Reaches old mid p w → Lowers mid d e x
    → new ≡ added d (moved_code d.frame at line w.access w.pointer by x.register x.type_ (next d)) three_words → u ≡ record { old = next d; new = next d + 2 } → y ≡ operand u.new UnsignedLong line
    → Lowers old new (pointer_update line p by e) y
lowers_pointer_update old mid d new p w e x y at line by u is_at h k same is_updated v =
    let f = old.frame in
    let vs = f.variables in
    let m = next old + held vs p in
    let inner = behind_one mid d new e x (next d) (λ g z n. moved_code g (place_line p) line w.access w.pointer by z.register z.type_ n) (λ g z. three_words) k refl
    (same ∙ (λ i. added d (moved_code d.frame (is_at i) line w.access w.pointer by x.register x.type_ (next d)) three_words)) in
    let last : next d + 2 ≡ next old + (held vs p + (top vs e + 3)) = omega (arith, next_of mid d e x k, next_way old mid p w h, top_in f mid.frame e (λ i. (h.code_is i).frame)) in
    record {
      code_is = behind_way old mid new p w (λ g z n. code g e n ++ moved_code g (place_line p) line z.access z.pointer by (n + top g.variables e) (number_type e) (n + (top g.variables e + 1))) (λ g. types g.variables e ++ three_words) h inner
          ∙ (λ i. added old (if_evaluated (access vs p) (place_code f p (next old)) ++ (code f e m ++ same_moved f (place_line p) line (access vs p) (next old + place_top vs p) by (m + top vs e) (number_type e) (m + (top vs e + 1)) i)) (held_types (access vs p) (place_types vs p) ++ (types vs e ++ three_words)));
      value_is = v ∙ (λ i. operand ((is_updated i).new) UnsignedLong line) ∙ (λ i. operand (last i) UnsignedLong line);
    }

-- 1, the move by it, and the pointer before or behind it
abbrev stepped_code : Frame → (at line : ℕ) → Way → ℤ → Bool → ℕ → List Instruction
stepped_code f at line w by before m =
    at_line f line (operations.Constant m 1) ∷ (moved_code f at line w.access w.pointer by m Int (m + 1) ++ at_line f line (operations.Copy (m + 4) (if before then m + 3 else m + 1)) ∷ [])

stepped_adds : (d d1 d2 new : Listed) (w : Way) (one : Operand) (at line value into : ℕ) (by : ℤ) (before : Bool) (u : Updated)
    → Lowers d d1 (constant line Int 1) one
    → d2 ≡ added d1 (moved_code d1.frame at line w.access w.pointer by one.register one.type_ (next d1)) three_words → u ≡ record { old = next d1; new = next d1 + 2 }
    → into ≡ next d2 → value ≡ (if before then u.new else u.old)
    → new ≡ added d2 (at_line d2.frame line (operations.Copy into value) ∷ []) (UnsignedLong ∷ [])
    → (new ≡ added d (stepped_code d.frame at line w by before (next d)) (Int ∷ (three_words ++ UnsignedLong ∷ []))) × (next d2 ≡ next d + 4)
stepped_adds d d1 d2 new w one at line value into by before u h second is_updated is_into is_value third =
    let f = d.frame in
    let n = next d in
    let next1 : next d1 ≡ n + 1 = next_of d d1 (constant line Int 1) one h in
    let none : n + 0 ≡ n = omega arith in
    let from : one.register ≡ n = (λ i. (h.value_is i).register) ∙ none in
    let moved = moved_code f at line w.access w.pointer by n Int (n + 1) in
    let second' : d2 ≡ added d1 moved three_words = second ∙ (λ i. added d1 (moved_code (h.code_is i).frame at line w.access w.pointer by (from i) (h.value_is i).type_ (next1 i)) three_words) in
    let next2 : next d2 ≡ n + 4 = omega (arith, ap next second', next_added d1 moved three_words, next1) in
    let three : next d1 + 2 ≡ n + 3 = omega (arith, next1) in
    let value' : value ≡ (if before then n + 3 else n + 1) = is_value ∙ (λ i. if before then (is_updated i).new else (is_updated i).old) ∙ (λ i. if before then three i else next1 i) in
    let f2 : d2.frame ≡ f = (λ i. (second' i).frame) ∙ (λ i. (h.code_is i).frame) in
    let copy = at_line f line (operations.Copy (n + 4) (if before then n + 3 else n + 1)) in
    let third' : new ≡ added d2 (copy ∷ []) (UnsignedLong ∷ []) = third ∙ (λ i. added d2 (at_line (f2 i) line (operations.Copy ((is_into ∙ next2) i) (value' i)) ∷ []) (UnsignedLong ∷ [])) in (
      adds_more d d1 new (at_line f line (operations.Constant n 1) ∷ []) (moved ++ copy ∷ []) (Int ∷ []) (three_words ++ UnsignedLong ∷ []) h.code_is
          (adds_more d1 d2 new moved (copy ∷ []) three_words (UnsignedLong ∷ []) second' third'),
      next2,
    )

pub lowers_pointer_step : (old d d1 d2 new : Listed) (p : Place) (w : Way) (one z : Operand) (at line value into : ℕ) (by : ℤ) (before : Bool) (u : Updated)
    → at ≡ place_line p → Reaches old d p w
    → Lowers d d1 (constant line Int 1) one
    → d2 ≡ added d1 (moved_code d1.frame at line w.access w.pointer by one.register one.type_ (next d1)) three_words → u ≡ record { old = next d1; new = next d1 + 2 }
    → into ≡ next d2 → value ≡ (if before then u.new else u.old)
    → new ≡ added d2 (at_line d2.frame line (operations.Copy into value) ∷ []) (UnsignedLong ∷ []) → z ≡ operand (next d2) UnsignedLong line
    → Lowers old new (pointer_step line p by before) z
lowers_pointer_step old d d1 d2 new p w one z at line value into by before u is_at way h second is_updated is_into is_value third v =
    let f = old.frame in
    let vs = f.variables in
    let a = access vs p in
    let q = next old + place_top vs p in
    let m = next old + held vs p in
    let inner = stepped_adds d d1 d2 new w one (place_line p) line value into by before u h (second ∙ (λ i. added d1 (moved_code d1.frame (is_at i) line w.access w.pointer by one.register one.type_ (next d1)) three_words)) is_updated is_into is_value third in
    let last : next d2 ≡ next old + (held vs p + 4) = omega (arith, inner.1, next_way old d p w way) in
    let copy = at_line f line (operations.Copy (m + 4) (if before then m + 3 else m + 1)) ∷ [] in
    let read = read_code f (place_line p) (m + 1) UnsignedLong a q in
    let two : m + 1 + 1 ≡ m + 2 = omega arith in
    let three : m + 1 + 2 ≡ m + 3 = omega arith in
    let move = move_code f false line (m + 1) m Int by (m + 2) in
    let write = write_code f line UnsignedLong a q (m + 3) in
    record {
      code_is = behind_way old d new p w (λ g y n. stepped_code g (place_line p) line y by before n) (λ g. Int ∷ (three_words ++ UnsignedLong ∷ [])) way inner.0
          ∙ (λ i. added old (if_evaluated a (place_code f p (next old)) ++ at_line f line (operations.Constant m 1) ∷ (same_moved f (place_line p) line a q by m Int (m + 1) i ++ copy)) (held_types a (place_types vs p) ++ Int ∷ (three_words ++ UnsignedLong ∷ [])))
          ∙ (λ i. added old (if_evaluated a (place_code f p (next old)) ++ at_line f line (operations.Constant m 1) ∷ ((read ++ (move_code f false line (m + 1) m Int by (two i) ++ write_code f line UnsignedLong a q (three i))) ++ copy)) (held_types a (place_types vs p) ++ Int ∷ (three_words ++ UnsignedLong ∷ [])))
          ∙ (λ i. added old (if_evaluated a (place_code f p (next old)) ++ at_line f line (operations.Constant m 1) ∷ append_assoc read (move ++ write) copy i) (held_types a (place_types vs p) ++ Int ∷ (three_words ++ UnsignedLong ∷ [])))
          ∙ (λ i. added old (if_evaluated a (place_code f p (next old)) ++ at_line f line (operations.Constant m 1) ∷ (read ++ append_assoc move write copy i)) (held_types a (place_types vs p) ++ Int ∷ (three_words ++ UnsignedLong ∷ [])));
      value_is = v ∙ (λ i. operand (last i) UnsignedLong line);
    }

-- ---- allocations

abbrev granted_types : List IntegerType
granted_types = Int ∷ UnsignedLong ∷ UnsignedLong ∷ []

-- what an allocation asks for, and what is granted, by the frame and the number of the next register
asks : (d d1 new : Listed) (line : ℕ) (granted : Frame → (number r : ℕ) → List Instruction) (number r : ℕ)
    → d1 ≡ added d (asked_code d.frame line (next d) (next d + 2) 4) granted_types → number ≡ next d + 1 → r ≡ next d + 2
    → new ≡ added d1 (granted d1.frame number r) []
    → new ≡ added d (asked_code d.frame line (next d) (next d + 2) 4 ++ granted d.frame (next d + 1) (next d + 2)) granted_types
asks d d1 new line granted number r first is_number is_pointer second =
    adds_more d d1 new (asked_code d.frame line (next d) (next d + 2) 4) (granted d.frame (next d + 1) (next d + 2)) granted_types [] first
    (second ∙ (λ i. added d1 (granted (first i).frame (is_number i) (is_pointer i)) []))

pub lowers_allocate : (old d d1 new : Listed) (e : Expression) (x y : Operand) (line number r : ℕ)
    → Lowers old d e x
    → d1 ≡ added d (asked_code d.frame line (next d) (next d + 2) 4) granted_types → number ≡ next d + 1 → r ≡ next d + 2
    → new ≡ added d1 (drawn_code d1.frame line number x.register r) [] → y ≡ operand r UnsignedLong line
    → Lowers old new (allocate line e) y
lowers_allocate old d d1 new e x y line number r h first is_number is_pointer second v =
    let f = old.frame in
    let n = next old in
    let size = n + top f.variables e in
    let m = n + (top f.variables e + 1) in
    let one : m ≡ size + 1 = omega arith in
    let two : m + 1 ≡ size + 2 = omega arith in
    let three : m + 2 ≡ size + 3 = omega arith in
    let last : r ≡ n + (top f.variables e + 3) = omega (arith, is_pointer, next_of old d e x h) in
    record {
      code_is = behind_one old d new e x (next d) (λ g u k. asked_code g line k (k + 2) 4 ++ drawn_code g line (k + 1) u.register (k + 2)) (λ g u. granted_types) h refl
          (asks d d1 new line (λ g b q. drawn_code g line b x.register q) number r first is_number is_pointer second)
          ∙ (λ i. added old (code f e n ++ (asked_code f line (one i) (three i) 4 ++ drawn_code f line (two i) size (three i))) (types f.variables e ++ granted_types));
      value_is = v ∙ (λ i. operand (last i) UnsignedLong line);
    }

pub lowers_allocate_zeroed : (old mid d d1 new : Listed) (a b : Expression) (x y z : Operand) (line number r : ℕ)
    → Lowers old mid a x → Lowers mid d b y
    → d1 ≡ added d (asked_code d.frame line (next d) (next d + 2) 4) granted_types → number ≡ next d + 1 → r ≡ next d + 2
    → new ≡ added d1 (zeroed_code d1.frame line x.register y.register number r) [] → z ≡ operand r UnsignedLong line
    → Lowers old new (allocate_zeroed line a b) z
lowers_allocate_zeroed old mid d d1 new a b x y z line number r h k first is_number is_pointer third v =
    let f = old.frame in
    let n = next old in
    let count = n + top f.variables a in
    let second = n + (top f.variables a + 1) in
    let size = second + top f.variables b in
    let m = second + (top f.variables b + 1) in
    let one : m ≡ size + 1 = omega arith in
    let two : m + 1 ≡ size + 2 = omega arith in
    let three : m + 2 ≡ size + 3 = omega arith in
    let last : r ≡ n + (top f.variables a + (top f.variables b + 4)) = omega (arith, is_pointer, next_in_turn old mid d a b x y h k) in
    record {
      code_is = in_turn old mid d new a b x y (λ g u w k. asked_code g line k (k + 2) 4 ++ zeroed_code g line u.register w.register (k + 1) (k + 2)) granted_types h k
          (asks d d1 new line (λ g s q. zeroed_code g line x.register y.register s q) number r first is_number is_pointer third)
          ∙ (λ i. added old (code f a n ++ (code f b second ++ (asked_code f line (one i) (three i) 4 ++ zeroed_code f line count size (two i) (three i)))) (types f.variables a ++ (types f.variables b ++ granted_types)));
      value_is = v ∙ (λ i. operand (last i) UnsignedLong line);
    }

pub lowers_release : (old d new : Listed) (e : Expression) (x y : Operand) (line : ℕ)
    → Lowers old d e x → new ≡ added d (freed_code d.frame line x.register (next d)) (Int ∷ []) → y ≡ operand (next d) Int line
    → Lowers old new (release line e) y
lowers_release old d new e x y line h same v =
    let f = old.frame in
    let p = next old + top f.variables e in
    let behind : next old + (top f.variables e + 1) ≡ p + 1 = omega arith in
    record {
      code_is = behind_one old d new e x (next d) (λ g u n. freed_code g line u.register n) (λ g u. Int ∷ []) h refl same
          ∙ (λ i. added old (code f e (next old) ++ freed_code f line p (behind i)) (types f.variables e ++ Int ∷ []));
      value_is = v ∙ (λ i. operand (next_of old d e x h i) Int line);
    }

pub lowers_exit : (old d new : Listed) (e : Expression) (x y : Operand) (line : ℕ)
    → Lowers old d e x → new ≡ added d (at_line d.frame line operations.Exit ∷ []) (Int ∷ []) → y ≡ operand (next d) Int line
    → Lowers old new (exit line e) y
lowers_exit old d new e x y line h same v = record {
  code_is = behind_one old d new e x (next d) (λ g u n. at_line g line operations.Exit ∷ []) (λ g u. Int ∷ []) h refl same;
  value_is = v ∙ (λ i. operand (next_of old d e x h i) Int line);
}
