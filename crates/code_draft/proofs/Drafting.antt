-- What each expression adds to a draft, by what its parts add.
use Rattle.std.proofs.Common.{◌≡◌, ℕ, ℤ, ◌+◌, ◌-◌, Bool, List, [], ◌∷◌, ◌++◌, length, Option, Some, None, refl, sym, ap, subst, ◌∙◌, arith, append_assoc, append-nil, length-append}
use Rattle.std.specs.Prelude.{if◌then◌else◌, Result, Ok, Err, IfOk, OnOk}
use Rattle.std.proofs.Math.Seq.{set-append_seam}
use Rattle.c_types.specs.declared.integers.IntegerType.{IntegerType}
use Rattle.c_types.specs.declared.integers.IntegerType.TheVariants.{Int}
use Rattle.c_types.specs.Integers.{promoted}
use Rattle.core_tree.specs.declared.operators.ArithmeticOperator.{ArithmeticOperator}
use Rattle.core_tree.specs.declared.operators.Comparison.{Comparison}
use Rattle.core_tree.specs.declared.operators.LogicalOperator.TheVariants as logicals
use Rattle.core_tree.specs.declared.operators.SignOperator.{SignOperator}
use Rattle.core_tree.specs.declared.operators.StepOperator.{StepOperator}
use Rattle.core_tree.specs.Operations.{step_operation}
use Rattle.core_tree.specs.Trees.{Place, Expression, constant, read, convert, sign, is_zero, arithmetic, compare, logical, choice, assign, update, step, comma, assertion, assumption, discard}
use Rattle.c_meaning.specs.Meaning.{number_type, place_line}
use Rattle.c_temporaries.specs.declared.accesses.Access.{Access}
use Rattle.c_temporaries.specs.declared.accesses.Access.TheVariants as accesses
use Rattle.c_temporaries.specs.Accesses.{access}
use Rattle.goto_prog.specs.declared.code.Instruction.{Instruction}
use Rattle.goto_prog.specs.declared.code.Operation.TheVariants as operations
use Rattle.code_draft.specs.declared.operand.Operand.{Operand}
use Rattle.code_draft.specs.declared.operand.Updated.{Updated}
use Rattle.code_draft.specs.declared.operand.Way.{Way}
use Rattle.lowered_code.specs.Lowering.{Frame, held, place_top, top, line_of, at_line, if_evaluated, place_code, read_code, write_code, fetch_code, put_code, update_code, logical_code, truth_code, code}
use Rattle.lowered_code.specs.Registers.{held_types, place_types, types, update_types}
use Rattle.lowered_code.proofs.RegisterCounts.{types_length, way_length}
use Rattle.code_draft.specs.Drafts.{Listed, next, added, filled, jump, landed, way_by, moved_code, operand, after, value_in, Reaches, Lowers}

-- ---- results

pub ok_both : {T E : Type 0} (r : Result T E) (p : Type 0) (Q R : T → Type 0) → OnOk r p → IfOk r Q → ((x : T) → p → Q x → R x) → IfOk r R
ok_both (Ok x) p Q R h k f = f x h k
ok_both (Err e) p Q R h k f = k

pub ok_maps : {T E : Type 0} (r : Result T E) (p q : Type 0) → (p → q) → OnOk r p → OnOk r q
ok_maps (Ok x) p q f h = f h
ok_maps (Err e) p q f h = h

-- ---- one after the other

pub next_added : (d : Listed) (xs : List Instruction) (ts : List IntegerType) → next (added d xs ts) ≡ next d + length ts
next_added d xs ts = length-append d.registers ts

pub adds_more : (d e g : Listed) (xs ys : List Instruction) (ts us : List IntegerType) → e ≡ added d xs ts → g ≡ added e ys us → g ≡ added d (xs ++ ys) (ts ++ us)
adds_more d e g xs ys ts us first second =
    second
    ∙ (λ i. added (first i) ys us)
    ∙ (λ i. record d { instructions = append_assoc d.instructions xs ys i; registers = append_assoc d.registers ts us i })

-- what is added by the number of the next register
pub adds_next : (d e g : Listed) (xs : List Instruction) (ts : List IntegerType) (tail : Frame → ℕ → List Instruction) (us : Frame → List IntegerType)
    → e ≡ added d xs ts → g ≡ added e (tail e.frame (next e)) (us e.frame) → g ≡ added d (xs ++ tail d.frame (next d + length ts)) (ts ++ us d.frame)
adds_next d e g xs ts tail us first second =
    adds_more d e g xs (tail d.frame (next d + length ts)) ts (us d.frame) first
    (second ∙ (λ i. added e (tail (first i).frame ((ap next first ∙ next_added d xs ts) i)) (us (first i).frame)))

-- in one frame an expression has the same registers
pub top_in : (f g : Frame) (e : Expression) → g ≡ f → top g.variables e ≡ top f.variables e
top_in f g e same = λ i. top (same i).variables e

pub next_after : (d : Listed) (e : Expression) → next (after d e) ≡ next d + (top d.frame.variables e + 1)
next_after d e = next_added d (code d.frame e (next d)) (types d.frame.variables e) ∙ ap (λ n. next d + n) (types_length d.frame.variables e)

pub next_of : (old new : Listed) (e : Expression) (x : Operand) → Lowers old new e x → next new ≡ next old + (top old.frame.variables e + 1)
next_of old new e x h = ap next h.code_is ∙ next_after old e

pub next_same : (d e : Listed) (xs : List Instruction) → e ≡ added d xs [] → next e ≡ next d
next_same d e xs same = let sum : next (added d xs []) ≡ next d + 0 = next_added d xs [] in omega (arith, sum, ap next same)

-- what comes behind an expression, by its value and the number of the next register
pub behind_one : (old d new : Listed) (e : Expression) (x : Operand) (r : ℕ) (tail : Frame → Operand → ℕ → List Instruction) (ts : Frame → Operand → List IntegerType)
    → Lowers old d e x → r ≡ next d → new ≡ added d (tail d.frame x r) (ts d.frame x)
    → new ≡ added old (code old.frame e (next old) ++ tail old.frame (value_in old e) (next old + (top old.frame.variables e + 1))) (types old.frame.variables e ++ ts old.frame (value_in old e))
behind_one old d new e x r tail ts h at same =
    adds_more old (after old e) new (code old.frame e (next old)) (tail old.frame (value_in old e) (next (after old e))) (types old.frame.variables e) (ts old.frame (value_in old e)) refl
    (same ∙ (λ i. added d (tail d.frame x (at i)) (ts d.frame x)) ∙ (λ i. added (h.code_is i) (tail (h.code_is i).frame (h.value_is i) (next (h.code_is i))) (ts (h.code_is i).frame (h.value_is i))))
    ∙ (λ i. added old (code old.frame e (next old) ++ tail old.frame (value_in old e) (next_after old e i)) (types old.frame.variables e ++ ts old.frame (value_in old e)))

-- the value of b, whose first register is m
abbrev pub value_from : Frame → Expression → ℕ → Operand
value_from f b m = operand (m + top f.variables b) (number_type b) (line_of b)

pub behind_two : (old mid d new : Listed) (a b : Expression) (x y : Operand) (r : ℕ) (tail : Frame → Operand → Operand → ℕ → List Instruction) (ts : Operand → List IntegerType)
    → Lowers old mid a x → Lowers mid d b y → r ≡ next d → new ≡ added d (tail d.frame x y r) (ts x)
    → (let vs = old.frame.variables in
    let m = next old + (top vs a + 1) in
    new
    ≡ added old (code old.frame a (next old) ++ (code old.frame b m ++ tail old.frame (value_in old a) (value_from old.frame b m) (next old + (top vs a + (top vs b + 2))))) (types vs a ++ (types vs b ++ ts (value_in old a))))
behind_two old mid d new a b x y r tail ts h k at same =
    let f = old.frame in
    let vs = f.variables in
    let m = next old + (top vs a + 1) in
    let last : m + (top vs b + 1) ≡ next old + (top vs a + (top vs b + 2)) = omega arith in
    behind_one old mid new a x (next mid) (λ g z n. code g b n ++ tail g z (value_from g b n) (n + (top g.variables b + 1))) (λ g z. types g.variables b ++ ts z) h refl
    (behind_one mid d new b y r (λ g z n. tail g x z n) (λ g z. ts x) k at same)
    ∙ (λ i. added old (code f a (next old) ++ (code f b m ++ tail f (value_in old a) (value_from f b m) (last i))) (types vs a ++ (types vs b ++ ts (value_in old a))))

-- where nothing is added
pub nothing_added : (d : Listed) → d ≡ added d [] []
nothing_added d = λ i. record d { instructions = sym (append-nil d.instructions) i; registers = sym (append-nil d.registers) i }

-- ---- places

abbrev pub way_to : Listed → Place → Way
way_to d x = way_by (access d.frame.variables x) (next d + place_top d.frame.variables x)

pub next_way : (old new : Listed) (x : Place) (w : Way) → Reaches old new x w → next new ≡ next old + held old.frame.variables x
next_way old new x w h =
    ap next h.code_is
    ∙ next_added old (if_evaluated (access old.frame.variables x) (place_code old.frame x (next old))) (held_types (access old.frame.variables x) (place_types old.frame.variables x))
    ∙ ap (λ n. next old + n) (way_length old.frame.variables x)

-- what comes behind the evaluation of a place, by how it is reached and the number of the next register
pub behind_way : (old d new : Listed) (x : Place) (w : Way) (tail : Frame → Way → ℕ → List Instruction) (ts : Frame → List IntegerType)
    → Reaches old d x w → new ≡ added d (tail d.frame w (next d)) (ts d.frame)
    → new
    ≡ added old (if_evaluated (access old.frame.variables x) (place_code old.frame x (next old)) ++ tail old.frame (way_to old x) (next old + held old.frame.variables x)) (held_types (access old.frame.variables x) (place_types old.frame.variables x) ++ ts old.frame)
behind_way old d new x w tail ts h same =
    let f = old.frame in
    let first = if_evaluated (access f.variables x) (place_code f x (next old)) in
    let kinds = held_types (access f.variables x) (place_types f.variables x) in
    adds_more old d new first (tail f (way_to old x) (next old + held f.variables x)) kinds (ts f) h.code_is
    (same ∙ (λ i. added d (tail (h.code_is i).frame (h.way_is i) (next_way old d x w h i)) (ts (h.code_is i).frame)))

-- a register that tells nothing doesn't matter
pub same_read : (f : Frame) (line r : ℕ) (t : IntegerType) (a : Access) (p : ℕ) → read_code f line r t a (way_by a p).pointer ≡ read_code f line r t a p
same_read f line r t (accesses.Variable v offset) p = refl
same_read f line r t (accesses.Object k offset) p = refl
same_read f line r t (accesses.Within v) p = refl
same_read f line r t accesses.Pointed p = refl

pub same_write : (f : Frame) (line : ℕ) (t : IntegerType) (a : Access) (p r : ℕ) → write_code f line t a (way_by a p).pointer r ≡ write_code f line t a p r
same_write f line t (accesses.Variable v offset) p r = refl
same_write f line t (accesses.Object k offset) p r = refl
same_write f line t (accesses.Within v) p r = refl
same_write f line t accesses.Pointed p r = refl

pub same_fetch : (f : Frame) (line : ℕ) (a : Access) (p size into to : ℕ) → fetch_code f line a (way_by a p).pointer size into to ≡ fetch_code f line a p size into to
same_fetch f line (accesses.Variable v offset) p size into to = refl
same_fetch f line (accesses.Object k offset) p size into to = refl
same_fetch f line (accesses.Within v) p size into to = refl
same_fetch f line accesses.Pointed p size into to = refl

pub same_put : (f : Frame) (line : ℕ) (a : Access) (p size from to : ℕ) → put_code f line a (way_by a p).pointer size from to ≡ put_code f line a p size from to
same_put f line (accesses.Variable v offset) p size from to = refl
same_put f line (accesses.Object k offset) p size from to = refl
same_put f line (accesses.Within v) p size from to = refl
same_put f line accesses.Pointed p size from to = refl

pub same_update : (f : Frame) (at line : ℕ) (t : IntegerType) (a : Access) (p : ℕ) (op : ArithmeticOperator) (u w : IntegerType) (y n : ℕ)
    → update_code f at line t a (way_by a p).pointer op u w y n ≡ update_code f at line t a p op u w y n
same_update f at line t (accesses.Variable v offset) p op u w y n = refl
same_update f at line t (accesses.Object k offset) p op u w y n = refl
same_update f at line t (accesses.Within v) p op u w y n = refl
same_update f at line t accesses.Pointed p op u w y n = refl

pub same_moved : (f : Frame) (at line : ℕ) (a : Access) (p : ℕ) (by : ℤ) (i : ℕ) (t : IntegerType) (n : ℕ) → moved_code f at line a (way_by a p).pointer by i t n ≡ moved_code f at line a p by i t n
same_moved f at line (accesses.Variable v offset) p by i t n = refl
same_moved f at line (accesses.Object k offset) p by i t n = refl
same_moved f at line (accesses.Within v) p by i t n = refl
same_moved f at line accesses.Pointed p by i t n = refl

pub lowers_read : (old d new : Listed) (x : Place) (w : Way) (y : Operand) (line : ℕ) (t : IntegerType)
    → line ≡ place_line x → Reaches old d x w
    → new ≡ added d (read_code d.frame line (next d) t w.access w.pointer) (t ∷ []) → y ≡ operand (next d) t line
    → Lowers old new (read t x) y
lowers_read old d new x w y line t is_line h same v =
    let f = old.frame in
    let vs = f.variables in
    record {
      code_is = behind_way old d new x w (λ g u n. read_code g (place_line x) n t u.access u.pointer) (λ g. t ∷ []) h (same ∙ (λ i. added d (read_code d.frame (is_line i) (next d) t w.access w.pointer) (t ∷ [])))
          ∙ (λ i. added old (if_evaluated (access vs x) (place_code f x (next old)) ++ same_read f (place_line x) (next old + held vs x) t (access vs x) (next old + place_top vs x) i) (held_types (access vs x) (place_types vs x) ++ t ∷ []));
      value_is = v ∙ (λ i. operand (next_way old d x w h i) t (is_line i));
    }

pub lowers_assign : (old mid d new : Listed) (p : Place) (w : Way) (e : Expression) (x y : Operand) (line : ℕ) (t : IntegerType)
    → Reaches old mid p w → Lowers mid d e x
    → new ≡ added d (write_code d.frame line t w.access w.pointer x.register) [] → y ≡ operand x.register t line
    → Lowers old new (assign line t p e) y
lowers_assign old mid d new p w e x y line t h k same v =
    let f = old.frame in
    let vs = f.variables in
    let m = next old + held vs p in
    let kinds = held_types (access vs p) (place_types vs p) in
    let inner : new ≡ added mid (code mid.frame e (next mid) ++ write_code mid.frame line t w.access w.pointer (next mid + top mid.frame.variables e)) (types mid.frame.variables e) =
    behind_one mid d new e x (next d) (λ g u n. write_code g line t w.access w.pointer u.register) (λ g u. []) k refl same
    ∙ (λ i. added mid (code mid.frame e (next mid) ++ write_code mid.frame line t w.access w.pointer (next mid + top mid.frame.variables e)) (append-nil (types mid.frame.variables e) i)) in
    let from : next mid + top mid.frame.variables e ≡ held vs p + top vs e + next old = omega (arith, next_way old mid p w h, top_in f mid.frame e (λ i. (h.code_is i).frame)) in
    let last : x.register ≡ next old + (held vs p + top vs e) = omega (arith, ap (λ (z : Operand). z.register) k.value_is, from) in
    record {
      code_is = behind_way old mid new p w (λ g u n. code g e n ++ write_code g line t u.access u.pointer (n + top g.variables e)) (λ g. types g.variables e) h inner
          ∙ (λ i. added old (if_evaluated (access vs p) (place_code f p (next old)) ++ (code f e m ++ same_write f line t (access vs p) (next old + place_top vs p) (m + top vs e) i)) (kinds ++ types vs e));
      value_is = v ∙ (λ i. operand (last i) t line);
    }

pub lowers_update : (old mid d new : Listed) (p : Place) (w : Way) (e : Expression) (x y : Operand) (at line q : ℕ) (s : IntegerType) (op : ArithmeticOperator) (t : IntegerType)
    → at ≡ place_line p → Reaches old mid p w → Lowers mid d e x → q ≡ next d + 3
    → new ≡ added d (update_code d.frame at line s w.access w.pointer op t x.type_ x.register (next d)) (update_types s t) → y ≡ operand q s line
    → Lowers old new (update line s p op t e) y
lowers_update old mid d new p w e x y at line q s op t is_at h k from same v =
    let f = old.frame in
    let vs = f.variables in
    let m = next old + held vs p in
    let kinds = held_types (access vs p) (place_types vs p) in
    let inner = behind_one mid d new e x (next d) (λ g u n. update_code g (place_line p) line s w.access w.pointer op t u.type_ u.register n) (λ g u. update_types s t) k refl
    (same ∙ (λ i. added d (update_code d.frame (is_at i) line s w.access w.pointer op t x.type_ x.register (next d)) (update_types s t))) in
    let same_top : top mid.frame.variables e ≡ top vs e = top_in f mid.frame e (λ i. (h.code_is i).frame) in
    let last : q ≡ next old + (held vs p + (top vs e + 4)) = omega (arith, next_of mid d e x k, next_way old mid p w h, same_top, from) in
    record {
      code_is = behind_way old mid new p w (λ g u n. code g e n ++ update_code g (place_line p) line s u.access u.pointer op t (number_type e) (n + top g.variables e) (n + (top g.variables e + 1))) (λ g. types g.variables e ++ update_types s t) h inner
          ∙ (λ i. added old (if_evaluated (access vs p) (place_code f p (next old)) ++ (code f e m ++ same_update f (place_line p) line s (access vs p) (next old + place_top vs p) op t (number_type e) (m + top vs e) (m + (top vs e + 1)) i)) (kinds ++ (types vs e ++ update_types s t)));
      value_is = v ∙ (λ i. operand (last i) s line);
    }

-- ---- behind one operand

module _ (old d new : Listed) (e : Expression) (x y : Operand) (h : Lowers old d e x) where
  value_behind : (t : Operand → IntegerType) (line : Operand → ℕ) → y ≡ operand (next d) (t x) (line x) → y ≡ operand (next old + (top old.frame.variables e + 1)) (t (value_in old e)) (line (value_in old e))
  value_behind t line v = v ∙ (λ i. operand (next_of old d e x h i) (t (h.value_is i)) (line (h.value_is i)))

  pub lowers_convert : (to : IntegerType) (r : ℕ) → r ≡ next d
      → new ≡ added d (at_line d.frame x.line (operations.Convert r x.type_ to x.register) ∷ []) (to ∷ []) → y ≡ operand (next d) to x.line
      → Lowers old new (convert to e) y
  lowers_convert to r at n v = record {
    code_is = behind_one old d new e x r (λ f z m. at_line f z.line (operations.Convert m z.type_ to z.register) ∷ []) (λ g z. to ∷ []) h at n;
    value_is = value_behind (λ z. to) (λ z. z.line) v;
  }

  pub lowers_sign : (line : ℕ) (op : SignOperator) (r : ℕ) → r ≡ next d
      → new ≡ added d (at_line d.frame line (operations.Sign r op x.type_ x.register) ∷ []) (x.type_ ∷ []) → y ≡ operand (next d) x.type_ line
      → Lowers old new (sign line op e) y
  lowers_sign line op r at n v = record {
    code_is = behind_one old d new e x r (λ f z m. at_line f line (operations.Sign m op z.type_ z.register) ∷ []) (λ g z. z.type_ ∷ []) h at n;
    value_is = value_behind (λ z. z.type_) (λ z. line) v;
  }

  pub lowers_is_zero : (line : ℕ) (r : ℕ) → r ≡ next d
      → new ≡ added d (at_line d.frame line (operations.IsZero r x.register) ∷ []) (Int ∷ []) → y ≡ operand (next d) Int line
      → Lowers old new (is_zero line e) y
  lowers_is_zero line r at n v = record {
    code_is = behind_one old d new e x r (λ f z m. at_line f line (operations.IsZero m z.register) ∷ []) (λ g z. Int ∷ []) h at n;
    value_is = value_behind (λ z. Int) (λ z. line) v;
  }

  pub lowers_assertion : (mid : Listed) (line : ℕ)
      → mid ≡ added d (at_line d.frame line (operations.Assert x.register) ∷ []) [] → Lowers mid new (constant line Int 0) y
      → Lowers old new (assertion line e) y
  lowers_assertion mid line first k =
      let at : next mid ≡ next d = next_same d mid (at_line d.frame line (operations.Assert x.register) ∷ []) first in
      let last : next mid + 0 ≡ next old + (top old.frame.variables e + 1) = omega (arith, at, next_of old d e x h) in
      record {
        code_is = behind_one old d new e x (next d) (λ f z m. at_line f line (operations.Assert z.register) ∷ at_line f line (operations.Constant m 0) ∷ []) (λ g z. Int ∷ []) h refl
            (adds_more d mid new (at_line d.frame line (operations.Assert x.register) ∷ []) (at_line d.frame line (operations.Constant (next d) 0) ∷ []) [] (Int ∷ []) first
            (k.code_is ∙ (λ i. added mid (at_line (first i).frame line (operations.Constant (at i) 0) ∷ []) (Int ∷ []))));
        value_is = k.value_is ∙ (λ i. operand (last i) Int line);
      }

  pub lowers_assumption : (mid : Listed) (line : ℕ)
      → mid ≡ added d (at_line d.frame line (operations.Assume x.register) ∷ []) [] → Lowers mid new (constant line Int 0) y
      → Lowers old new (assumption line e) y
  lowers_assumption mid line first k =
      let at : next mid ≡ next d = next_same d mid (at_line d.frame line (operations.Assume x.register) ∷ []) first in
      let last : next mid + 0 ≡ next old + (top old.frame.variables e + 1) = omega (arith, at, next_of old d e x h) in
      record {
        code_is = behind_one old d new e x (next d) (λ f z m. at_line f line (operations.Assume z.register) ∷ at_line f line (operations.Constant m 0) ∷ []) (λ g z. Int ∷ []) h refl
            (adds_more d mid new (at_line d.frame line (operations.Assume x.register) ∷ []) (at_line d.frame line (operations.Constant (next d) 0) ∷ []) [] (Int ∷ []) first
            (k.code_is ∙ (λ i. added mid (at_line (first i).frame line (operations.Constant (at i) 0) ∷ []) (Int ∷ []))));
        value_is = k.value_is ∙ (λ i. operand (last i) Int line);
      }

pub lowers_discard : (old d new : Listed) (e : Expression) (x y : Operand) (line : ℕ) → Lowers old d e x → Lowers d new (constant line Int 0) y → Lowers old new (discard line e) y
lowers_discard old d new e x y line h k =
    let last : next d + 0 ≡ next old + (top old.frame.variables e + 1) = omega (arith, next_of old d e x h) in
    record {
      code_is = behind_one old d new e x (next d) (λ f z m. at_line f line (operations.Constant m 0) ∷ []) (λ g z. Int ∷ []) h refl k.code_is;
      value_is = k.value_is ∙ (λ i. operand (last i) Int line);
    }

-- ---- behind two

module _ (old mid d new : Listed) (a b : Expression) (x y z : Operand) (h : Lowers old mid a x) (k : Lowers mid d b y) where
  next_two : next d ≡ next old + (top old.frame.variables a + (top old.frame.variables b + 2))
  next_two = omega (arith, next_of old mid a x h, next_of mid d b y k, top_in old.frame mid.frame b (λ i. (h.code_is i).frame))

  pub lowers_arithmetic : (line : ℕ) (op : ArithmeticOperator) (r : ℕ) → r ≡ next d
      → new ≡ added d (at_line d.frame line (operations.Arithmetic r op x.type_ y.type_ x.register y.register) ∷ []) (x.type_ ∷ []) → z ≡ operand (next d) x.type_ line
      → Lowers old new (arithmetic line op a b) z
  lowers_arithmetic line op r at n v = record {
    code_is = behind_two old mid d new a b x y r (λ f u w m. at_line f line (operations.Arithmetic m op u.type_ w.type_ u.register w.register) ∷ []) (λ u. u.type_ ∷ []) h k at n;
    value_is = v ∙ (λ i. operand (next_two i) (h.value_is i).type_ line);
  }

  pub lowers_compare : (line : ℕ) (op : Comparison) (r : ℕ) → r ≡ next d
      → new ≡ added d (at_line d.frame line (operations.Compare r op x.type_ x.register y.register) ∷ []) (Int ∷ []) → z ≡ operand (next d) Int line
      → Lowers old new (compare line op a b) z
  lowers_compare line op r at n v = record {
    code_is = behind_two old mid d new a b x y r (λ f u w m. at_line f line (operations.Compare m op u.type_ u.register w.register) ∷ []) (λ u. Int ∷ []) h k at n;
    value_is = v ∙ (λ i. operand (next_two i) Int line);
  }

  pub lowers_comma : (line : ℕ) → new ≡ d → z ≡ operand y.register y.type_ line → Lowers old new (comma line a b) z
  lowers_comma line n v =
      let vs = old.frame.variables in
      let last : next mid + top mid.frame.variables b ≡ next old + (top vs a + (top vs b + 1)) = omega (arith, next_of old mid a x h, top_in old.frame mid.frame b (λ i. (h.code_is i).frame)) in
      record {
        code_is = n ∙ behind_one old mid d a x (next mid) (λ f u m. code f b m) (λ f u. types f.variables b) h refl k.code_is;
        value_is = v ∙ (λ i. operand (k.value_is i).register (k.value_is i).type_ line) ∙ (λ i. operand (last i) (number_type b) line);
      }

-- ---- `++` and `--`

-- behind the place: 1, the operation, and the value before or behind it
abbrev step_code : Frame → (at line : ℕ) → IntegerType → Way → StepOperator → Bool → ℕ → List Instruction
step_code f at line t w op before m =
    at_line f line (operations.Constant m 1)
    ∷ (update_code f at line t w.access w.pointer (step_operation op) (promoted t) (promoted t) m (m + 1) ++ at_line f line (operations.Copy (m + 5) (if before then m + 4 else m + 1)) ∷ [])

step_adds : (d d1 d2 new : Listed) (w : Way) (one : Operand) (into at line : ℕ) (s : IntegerType) (op : StepOperator) (before : Bool)
    → (let t = promoted s in
    Lowers d d1 (constant line t 1) one
    → into ≡ next d2
    → d2 ≡ added d1 (update_code d1.frame at line s w.access w.pointer (step_operation op) t one.type_ one.register (next d1)) (update_types s t)
    → new ≡ added d2 (at_line d2.frame line (operations.Copy into (if before then next d1 + 3 else next d1)) ∷ []) (s ∷ [])
    → (new ≡ added d (step_code d.frame at line s w op before (next d)) (t ∷ (update_types s t ++ s ∷ []))) × (next d2 ≡ next d + 5))
step_adds d d1 d2 new w one into at line s op before h is_into second third =
    let t = promoted s in
    let updated = λ (f : Frame) (u : Operand) (m : ℕ). update_code f at line s w.access w.pointer (step_operation op) t u.type_ u.register m in
    let two : next d2 ≡ next d1 + 4 = ap next second ∙ next_added d1 (updated d1.frame one (next d1)) (update_types s t) in
    let from : next d + 0 ≡ next d = omega arith in
    let start : next d + (0 + 1) ≡ next d + 1 = omega arith in
    let taken : next d + (0 + 1) + 3 ≡ next d + 4 = omega arith in
    let last : next d + (0 + 1) + 4 ≡ next d + 5 = omega arith in (
      behind_one d d1 new (constant line t 1) one (next d1) (λ f u m. updated f u m ++ at_line f line (operations.Copy (m + 4) (if before then m + 3 else m)) ∷ []) (λ f u. update_types s t ++ s ∷ []) h refl
          (adds_more d1 d2 new (updated d1.frame one (next d1)) (at_line d1.frame line (operations.Copy (next d1 + 4) (if before then next d1 + 3 else next d1)) ∷ []) (update_types s t) (s ∷ []) second
          (third ∙ (λ i. added d2 (at_line (second i).frame line (operations.Copy ((is_into ∙ two) i) (if before then next d1 + 3 else next d1)) ∷ []) (s ∷ []))))
          ∙ (λ i. added d (at_line d.frame line (operations.Constant (next d) 1) ∷ (update_code d.frame at line s w.access w.pointer (step_operation op) t t (from i) (start i) ++ at_line d.frame line (operations.Copy (last i) (if before then taken i else start i)) ∷ [])) (t ∷ (update_types s t ++ s ∷ []))),
      omega (arith, two, next_of d d1 (constant line t 1) one h),
    )

pub lowers_step : (old d d1 d2 new : Listed) (p : Place) (w : Way) (one z : Operand) (updated : Updated) (value into at line : ℕ) (s : IntegerType) (op : StepOperator) (before : Bool) (u : IntegerType) (sum : ArithmeticOperator)
    → at ≡ place_line p → Reaches old d p w
    → u ≡ promoted s → sum ≡ step_operation op
    → Lowers d d1 (constant line u 1) one
    → d2 ≡ added d1 (update_code d1.frame at line s w.access w.pointer sum u one.type_ one.register (next d1)) (update_types s u)
    → updated ≡ record { old = next d1; new = next d1 + 3 }
    → into ≡ next d2
    → value ≡ (if before then updated.new else updated.old)
    → new ≡ added d2 (at_line d2.frame line (operations.Copy into value) ∷ []) (s ∷ [])
    → z ≡ operand (next d2) s line
    → Lowers old new (step line s p op before) z
lowers_step old d d1 d2 new p w one z updated value into at line s op before u sum is_at way is_u is_sum h second is_updated is_into is_value third v =
    let f = old.frame in
    let vs = f.variables in
    let t = promoted s in
    let m = next old + held vs p in
    let kinds = held_types (access vs p) (place_types vs p) in
    let inner = step_adds d d1 d2 new w one into (place_line p) line s op before
    (subst (λ (w : IntegerType). Lowers d d1 (constant line w 1) one) is_u h)
    is_into
    (second ∙ (λ i. added d1 (update_code d1.frame (is_at i) line s w.access w.pointer (is_sum i) (is_u i) one.type_ one.register (next d1)) (update_types s (is_u i))))
    (third ∙ (λ i. added d2 (at_line d2.frame line (operations.Copy into ((is_value ∙ (λ k. if before then (is_updated k).new else (is_updated k).old)) i)) ∷ []) (s ∷ []))) in
    let last : next d2 ≡ next old + (held vs p + 5) = omega (arith, inner.1, next_way old d p w way) in
    record {
      code_is = behind_way old d new p w (λ g y n. step_code g (place_line p) line s y op before n) (λ g. t ∷ (update_types s t ++ s ∷ [])) way inner.0
          ∙ (λ i. added old (if_evaluated (access vs p) (place_code f p (next old)) ++ at_line f line (operations.Constant m 1) ∷ (same_update f (place_line p) line s (access vs p) (next old + place_top vs p) (step_operation op) t t m (m + 1) i ++ at_line f line (operations.Copy (m + 5) (if before then m + 4 else m + 1)) ∷ [])) (kinds ++ t ∷ (update_types s t ++ s ∷ [])));
      value_is = v ∙ (λ i. operand (last i) s line);
    }

-- ---- jumps

-- a jump that lands behind the code that follows it
pub landed_behind : (d : Listed) (hole : Instruction) (xs : List Instruction) (ts : List IntegerType) (place line : ℕ) (test : Option ℕ)
    → place ≡ length d.instructions
    → landed (added d (hole ∷ xs) ts) place line test ≡ added d (at_line d.frame line (jump test (length xs)) ∷ xs) ts
landed_behind d hole xs ts place line test at =
    let all : length (d.instructions ++ hole ∷ xs) ≡ length d.instructions + length (hole ∷ xs) = length-append d.instructions (hole ∷ xs) in
    let count : length (d.instructions ++ hole ∷ xs) - (length d.instructions + 1) ≡ length xs = omega (arith, all) in
    (λ i. landed (added d (hole ∷ xs) ts) (at i) line test)
    ∙ (λ i. record d { instructions = set-append_seam d.instructions hole xs (at_line d.frame line (jump test (count i))) i; registers = d.registers ++ ts })

-- a hole that is filled
pub filled_in : (d : Listed) (hole new : Instruction) (xs : List Instruction) (ts : List IntegerType) (place : ℕ)
    → place ≡ length d.instructions
    → filled (added d (hole ∷ xs) ts) place new ≡ added d (new ∷ xs) ts
filled_in d hole new xs ts place at =
    (λ i. filled (added d (hole ∷ xs) ts) (at i) new)
    ∙ (λ i. record d { instructions = set-append_seam d.instructions hole xs new i; registers = d.registers ++ ts })

-- code behind a place that was left, and then landed
module _ (old d new : Listed) (hole : Instruction) (xs : List Instruction) (ts : List IntegerType) (place line : ℕ) where
  pub lands : (test : Option ℕ) → place ≡ length old.instructions → d ≡ added old (hole ∷ xs) ts → new ≡ landed d place line test
      → new ≡ added old (at_line old.frame line (jump test (length xs)) ∷ xs) ts
  lands test at before same = same ∙ (λ i. landed (before i) place line test) ∙ landed_behind old hole xs ts place line test at

  pub fills : (i : Instruction) → place ≡ length old.instructions → d ≡ added old (hole ∷ xs) ts → new ≡ filled d place i
      → new ≡ added old (i ∷ xs) ts
  fills i at before same = same ∙ (λ k. filled (before k) place i) ∙ filled_in old hole i xs ts place at

-- the register of the value of b, whose code's first register is m, is one before the next
value_before : (mid d : Listed) (b : Expression) (y : Operand) → Lowers mid d b y → next d ≡ next mid + top mid.frame.variables b + 1
value_before mid d b y k = omega (arith, next_of mid d b y k)

pub lowers_and : (old d0 d1 d2 d3 d4 d5 new : Listed) (a b : Expression) (x y truth : Operand) (skip line : ℕ) (hole : Instruction)
    → Lowers old d0 a x
    → d1 ≡ added d0 (hole ∷ []) [] → skip ≡ length d0.instructions
    → Lowers d1 d2 b y
    → d3 ≡ added d2 (truth_code d2.frame line y.register (next d2)) (Int ∷ Int ∷ []) → truth ≡ operand (next d2 + 1) Int line
    → d4 ≡ added d3 (at_line d3.frame line (operations.Skip 1) ∷ []) []
    → d5 ≡ landed d4 skip line (Some x.register)
    → new ≡ added d5 (at_line d5.frame line (operations.Constant truth.register 0) ∷ []) []
    → Lowers old new (logical line logicals.And a b) truth
lowers_and old d0 d1 d2 d3 d4 d5 new a b x y truth skip line hole h first at k third is_truth fourth fifth last =
    let f = d0.frame in
    let m = next d0 in
    let from : next d1 ≡ m = next_same d0 d1 (hole ∷ []) first in
    let vs = f.variables in
    let xs = code f b m in
    let r = m + top vs b in
    let tb = types vs b in
    let second : d2 ≡ added d1 (code f b m) tb = k.code_is ∙ (λ i. added d1 (code (first i).frame b (from i)) (types (first i).frame.variables b)) in
    let is_y : y.register ≡ r = (λ i. (k.value_is i).register) ∙ (λ i. from i + top (first i).frame.variables b) in
    let after_y : next d2 ≡ r + 1 = omega (arith, from, value_before d1 d2 b y k, top_in f d1.frame b (λ i. (first i).frame)) in
    let behind_y : next d2 + 1 ≡ r + 2 = omega (arith, after_y) in
    let f1 : d1.frame ≡ f = λ i. (first i).frame in
    let f2 : d2.frame ≡ f = (λ i. (second i).frame) ∙ f1 in
    let f3 : d3.frame ≡ f = (λ i. (third i).frame) ∙ f2 in
    let truths = at_line f line (operations.IsZero (r + 1) r) ∷ at_line f line (operations.IsZero (r + 2) (r + 1)) ∷ [] in
    let third' : d3 ≡ added d2 truths (Int ∷ Int ∷ []) =
    third ∙ (λ i. added d2 (at_line (f2 i) line (operations.IsZero (after_y i) (is_y i)) ∷ at_line (f2 i) line (operations.IsZero (behind_y i) (after_y i)) ∷ []) (Int ∷ Int ∷ [])) in
    let over = at_line f line (operations.Skip 1) in
    let fourth' : d4 ≡ added d3 (over ∷ []) [] = fourth ∙ (λ i. added d3 (at_line (f3 i) line (operations.Skip 1) ∷ []) []) in
    let ts = tb ++ Int ∷ Int ∷ [] in
    let tail = at_line f line (operations.IsZero (r + 1) r) ∷ at_line f line (operations.IsZero (r + 2) (r + 1)) ∷ over ∷ [] in
    let all : d4 ≡ added d0 (hole ∷ (xs ++ tail)) ts =
    adds_more d0 d1 d4 (hole ∷ []) (xs ++ tail) [] ts first
    (adds_more d1 d2 d4 xs tail tb (Int ∷ Int ∷ []) second
    (adds_more d2 d3 d4 truths (over ∷ []) (Int ∷ Int ∷ []) [] third' fourth')) in
    let count : length (xs ++ tail) ≡ length xs + 3 = length-append xs tail in
    let jumps : d5 ≡ added d0 (at_line f line (operations.SkipIfZero x.register (length xs + 3)) ∷ (xs ++ tail)) ts =
    lands d0 d4 d5 hole (xs ++ tail) ts skip line (Some x.register) at all fifth
    ∙ (λ i. added d0 (at_line f line (operations.SkipIfZero x.register (count i)) ∷ (xs ++ tail)) ts) in
    let f5 : d5.frame ≡ f = λ i. (jumps i).frame in
    let is_truth' : truth.register ≡ r + 2 = (λ i. (is_truth i).register) ∙ behind_y in
    let zero = at_line f line (operations.Constant (r + 2) 0) in
    let no_more : ts ++ [] ≡ ts = append-nil ts in
    let whole : new ≡ added d0 (logical_code f line logicals.And x.register xs r) ts =
    adds_more d0 d5 new (at_line f line (operations.SkipIfZero x.register (length xs + 3)) ∷ (xs ++ tail)) (zero ∷ []) ts [] jumps
    (last ∙ (λ i. added d5 (at_line (f5 i) line (operations.Constant (is_truth' i) 0) ∷ []) []))
    ∙ (λ i. added d0 (at_line f line (operations.SkipIfZero x.register (length xs + 3)) ∷ append_assoc xs tail (zero ∷ []) i) (no_more i)) in
    let place : next d2 + 1 ≡ next old + (top old.frame.variables a + (top old.frame.variables b + 3)) = omega (arith, behind_y, next_of old d0 a x h, top_in old.frame d0.frame b (λ i. (h.code_is i).frame)) in
    record {
      code_is = behind_one old d0 new a x m (λ g z n. logical_code g line logicals.And z.register (code g b n) (n + top g.variables b)) (λ g z. types g.variables b ++ Int ∷ Int ∷ []) h refl whole;
      value_is = is_truth ∙ (λ i. operand (place i) Int line);
    }

-- the holes of a draft are where one ends that is as long
pub length_added : (d : Listed) (xs : List Instruction) (ts : List IntegerType) → length (added d xs ts).instructions ≡ length d.instructions + length xs
length_added d xs ts = length-append d.instructions xs

pub lowers_or : (old d0 d1 d2 d3 d4 d5 d6 new : Listed) (a b : Expression) (x y truth : Operand) (one skip line : ℕ) (hole gap : Instruction)
    → Lowers old d0 a x
    → d1 ≡ added d0 (at_line d0.frame line (operations.SkipIfZero x.register 2) ∷ []) []
    → d2 ≡ added d1 (hole ∷ []) [] → one ≡ length d1.instructions
    → d3 ≡ added d2 (gap ∷ []) [] → skip ≡ length d2.instructions
    → Lowers d3 d4 b y
    → d5 ≡ added d4 (truth_code d4.frame line y.register (next d4)) (Int ∷ Int ∷ []) → truth ≡ operand (next d4 + 1) Int line
    → d6 ≡ filled d5 one (at_line d5.frame line (operations.Constant truth.register 1))
    → new ≡ landed d6 skip line None
    → Lowers old new (logical line logicals.Or a b) truth
lowers_or old d0 d1 d2 d3 d4 d5 d6 new a b x y truth one skip line hole gap h first second at third where_ k fourth is_truth fifth last =
    let f = d0.frame in
    let m = next d0 in
    let test = at_line f line (operations.SkipIfZero x.register 2) in
    let from1 : next d1 ≡ m = next_same d0 d1 (test ∷ []) first in
    let from2 : next d2 ≡ m = next_same d1 d2 (hole ∷ []) second ∙ from1 in
    let from : next d3 ≡ m = next_same d2 d3 (gap ∷ []) third ∙ from2 in
    let vs = f.variables in
    let xs = code f b m in
    let r = m + top vs b in
    let tb = types vs b in
    let f1 : d1.frame ≡ f = λ i. (first i).frame in
    let f2 : d2.frame ≡ f = (λ i. (second i).frame) ∙ f1 in
    let f3 : d3.frame ≡ f = (λ i. (third i).frame) ∙ f2 in
    let right : d4 ≡ added d3 xs tb = k.code_is ∙ (λ i. added d3 (code (f3 i) b (from i)) (types (f3 i).variables b)) in
    let f4 : d4.frame ≡ f = (λ i. (right i).frame) ∙ f3 in
    let is_y : y.register ≡ r = (λ i. (k.value_is i).register) ∙ (λ i. from i + top (f3 i).variables b) in
    let after_y : next d4 ≡ r + 1 = omega (arith, from, value_before d3 d4 b y k, top_in f d3.frame b f3) in
    let behind_y : next d4 + 1 ≡ r + 2 = omega (arith, after_y) in
    let truths = at_line f line (operations.IsZero (r + 1) r) ∷ at_line f line (operations.IsZero (r + 2) (r + 1)) ∷ [] in
    let fourth' : d5 ≡ added d4 truths (Int ∷ Int ∷ []) =
    fourth ∙ (λ i. added d4 (at_line (f4 i) line (operations.IsZero (after_y i) (is_y i)) ∷ at_line (f4 i) line (operations.IsZero (behind_y i) (after_y i)) ∷ []) (Int ∷ Int ∷ [])) in
    let f5 : d5.frame ≡ f = (λ i. (fourth' i).frame) ∙ f4 in
    let ts = tb ++ Int ∷ Int ∷ [] in
    let tail = xs ++ truths in
    let all : d5 ≡ added d1 (hole ∷ gap ∷ tail) ts =
    adds_more d1 d2 d5 (hole ∷ []) (gap ∷ tail) [] ts second
    (adds_more d2 d3 d5 (gap ∷ []) tail [] ts third
    (adds_more d3 d4 d5 xs truths tb (Int ∷ Int ∷ []) right fourth')) in
    let is_truth' : truth.register ≡ r + 2 = (λ i. (is_truth i).register) ∙ behind_y in
    let set = at_line f line (operations.Constant (r + 2) 1) in
    let filled_one : d6 ≡ added d1 (set ∷ gap ∷ tail) ts =
    fills d1 d5 d6 hole (gap ∷ tail) ts one line set at all (fifth ∙ (λ i. filled d5 one (at_line (f5 i) line (operations.Constant (is_truth' i) 1)))) in
    let e = added d1 (set ∷ []) [] in
    let in_two : d6 ≡ added e (gap ∷ tail) ts = filled_one ∙ sym (adds_more d1 e (added e (gap ∷ tail) ts) (set ∷ []) (gap ∷ tail) [] ts refl refl) in
    let there : skip ≡ length e.instructions = where_ ∙ (λ i. length (second i).instructions) ∙ length_added d1 (hole ∷ []) [] ∙ sym (length_added d1 (set ∷ []) []) in
    let count : length tail ≡ length xs + 2 = length-append xs truths in
    let over = at_line f line (operations.Skip (length xs + 2)) in
    let jumps : new ≡ added e (over ∷ tail) ts =
    lands e d6 new gap tail ts skip line None there in_two last
    ∙ (λ i. added e (at_line (f1 i) line (operations.Skip (count i)) ∷ tail) ts) in
    let whole : new ≡ added d0 (logical_code f line logicals.Or x.register xs r) ts =
    adds_more d0 d1 new (test ∷ []) (set ∷ over ∷ tail) [] ts first
    (adds_more d1 e new (set ∷ []) (over ∷ tail) [] ts refl jumps) in
    let place : next d4 + 1 ≡ next old + (top old.frame.variables a + (top old.frame.variables b + 3)) = omega (arith, behind_y, next_of old d0 a x h, top_in old.frame d0.frame b (λ i. (h.code_is i).frame)) in
    record {
      code_is = behind_one old d0 new a x m (λ g z n. logical_code g line logicals.Or z.register (code g b n) (n + top g.variables b)) (λ g z. types g.variables b ++ Int ∷ Int ∷ []) h refl whole;
      value_is = is_truth ∙ (λ i. operand (place i) Int line);
    }

-- `?:` behind its test, whose value the register t has, with registers from m on
abbrev choice_code : Frame → ℕ → Expression → Expression → ℕ → ℕ → List Instruction
choice_code f line a b t m =
    let vs = f.variables in
    let second = m + (top vs a + 1) in
    let result = second + (top vs b + 1) in
    at_line f line (operations.SkipIfZero t (length (code f a m) + 2))
    ∷ (code f a m
    ++ at_line f line (operations.Copy result (m + top vs a))
    ∷ at_line f line (operations.Skip (length (code f b second) + 1))
    ∷ (code f b second ++ at_line f line (operations.Copy result (second + top vs b)) ∷ []))

pub lowers_choice : (old d0 d1 d2 d3 d4 d5 d6 d7 d8 new : Listed) (e a b : Expression) (test x y z : Operand) (skip copied over into line : ℕ) (hole gap space : Instruction)
    → Lowers old d0 e test
    → d1 ≡ added d0 (hole ∷ []) [] → skip ≡ length d0.instructions
    → Lowers d1 d2 a x
    → d3 ≡ added d2 (gap ∷ []) [] → copied ≡ length d2.instructions
    → d4 ≡ added d3 (space ∷ []) [] → over ≡ length d3.instructions
    → d5 ≡ landed d4 skip line (Some test.register)
    → Lowers d5 d6 b y
    → into ≡ next d6
    → d7 ≡ added d6 (at_line d6.frame line (operations.Copy into y.register) ∷ []) (x.type_ ∷ []) → z ≡ operand (next d6) x.type_ line
    → d8 ≡ filled d7 copied (at_line d7.frame line (operations.Copy into x.register))
    → new ≡ landed d8 over line None
    → Lowers old new (choice line e a b) z
lowers_choice old d0 d1 d2 d3 d4 d5 d6 d7 d8 new e a b test x y z skip copied over into line hole gap space h first at k third where_copy fourth where_over fifth l is_into sixth is_z seventh last =
    let f = d0.frame in
    let m = next d0 in
    let from : next d1 ≡ m = next_same d0 d1 (hole ∷ []) first in
    let vs = f.variables in
    let xs = code f a m in
    let ta = types vs a in
    let f1 : d1.frame ≡ f = λ i. (first i).frame in
    let yes : d2 ≡ added d1 xs ta = k.code_is ∙ (λ i. added d1 (code (f1 i) a (from i)) (types (f1 i).variables a)) in
    let f2 : d2.frame ≡ f = (λ i. (yes i).frame) ∙ f1 in
    let is_x : x ≡ operand (m + top vs a) (number_type a) (line_of a) = k.value_is ∙ (λ i. operand (from i + top (f1 i).variables a) (number_type a) (line_of a)) in
    let before : d4 ≡ added d0 (hole ∷ (xs ++ gap ∷ space ∷ [])) (ta ++ []) =
    adds_more d0 d1 d4 (hole ∷ []) (xs ++ gap ∷ space ∷ []) [] (ta ++ []) first
    (adds_more d1 d2 d4 xs (gap ∷ space ∷ []) ta [] yes
    (adds_more d2 d3 d4 (gap ∷ []) (space ∷ []) [] [] third fourth)) in
    let count : length (xs ++ gap ∷ space ∷ []) ≡ length xs + 2 = length-append xs (gap ∷ space ∷ []) in
    let jump1 = at_line f line (operations.SkipIfZero test.register (length xs + 2)) in
    let jumps : d5 ≡ added d0 (jump1 ∷ (xs ++ gap ∷ space ∷ [])) (ta ++ []) =
    lands d0 d4 d5 hole (xs ++ gap ∷ space ∷ []) (ta ++ []) skip line (Some test.register) at before fifth
    ∙ (λ i. added d0 (at_line f line (operations.SkipIfZero test.register (count i)) ∷ (xs ++ gap ∷ space ∷ [])) (ta ++ [])) in
    let e2 = added d0 (jump1 ∷ xs) ta in
    let after_two : d5 ≡ added e2 (gap ∷ space ∷ []) [] = jumps ∙ sym (adds_more d0 e2 (added e2 (gap ∷ space ∷ []) []) (jump1 ∷ xs) (gap ∷ space ∷ []) ta [] refl refl) in
    let second = m + (top vs a + 1) in
    let from2 : next d5 ≡ second = next_same e2 d5 (gap ∷ space ∷ []) after_two ∙ next_added d0 (jump1 ∷ xs) ta ∙ ap (λ n. m + n) (types_length vs a) in
    let f5 : d5.frame ≡ f = λ i. (jumps i).frame in
    let ys = code f b second in
    let tb = types vs b in
    let no : d6 ≡ added d5 ys tb = l.code_is ∙ (λ i. added d5 (code (f5 i) b (from2 i)) (types (f5 i).variables b)) in
    let f6 : d6.frame ≡ f = (λ i. (no i).frame) ∙ f5 in
    let is_y : y.register ≡ second + top vs b = (λ i. (l.value_is i).register) ∙ (λ i. from2 i + top (f5 i).variables b) in
    let result = second + (top vs b + 1) in
    let is_result : next d6 ≡ result = omega (arith, value_before d5 d6 b y l, from2, top_in f d5.frame b f5) in
    let into_is : into ≡ result = is_into ∙ is_result in
    let t = number_type a in
    let copy2 = at_line f line (operations.Copy result (second + top vs b)) in
    let sixth' : d7 ≡ added d6 (copy2 ∷ []) (t ∷ []) = sixth ∙ (λ i. added d6 (at_line (f6 i) line (operations.Copy (into_is i) (is_y i)) ∷ []) ((is_x i).type_ ∷ [])) in
    let f7 : d7.frame ≡ f = (λ i. (sixth' i).frame) ∙ f6 in
    let tail = ys ++ copy2 ∷ [] in
    let ts = tb ++ t ∷ [] in
    let two : d7 ≡ added e2 (gap ∷ space ∷ tail) ts =
    adds_more e2 d5 d7 (gap ∷ space ∷ []) tail [] ts after_two
    (adds_more d5 d6 d7 ys (copy2 ∷ []) tb (t ∷ []) no sixth') in
    let copy1 = at_line f line (operations.Copy result (m + top vs a)) in
    let long2 : length d2.instructions ≡ length e2.instructions =
    (λ i. length (yes i).instructions) ∙ length_added d1 xs ta ∙ (λ i. length (first i).instructions + length xs) ∙ (λ i. length_added d0 (hole ∷ []) [] i + length xs)
    ∙ (let same : length d0.instructions + length (hole ∷ []) + length xs ≡ length d0.instructions + length (jump1 ∷ xs) = omega arith in same)
    ∙ sym (length_added d0 (jump1 ∷ xs) ta) in
    let filled_copy : d8 ≡ added e2 (copy1 ∷ space ∷ tail) ts =
    fills e2 d7 d8 gap (space ∷ tail) ts copied line copy1 (where_copy ∙ long2) two (seventh ∙ (λ i. filled d7 copied (at_line (f7 i) line (operations.Copy (into_is i) (is_x i).register)))) in
    let e3 = added e2 (copy1 ∷ []) [] in
    let in_three : d8 ≡ added e3 (space ∷ tail) ts = filled_copy ∙ sym (adds_more e2 e3 (added e3 (space ∷ tail) ts) (copy1 ∷ []) (space ∷ tail) [] ts refl refl) in
    let long3 : length d3.instructions ≡ length e3.instructions =
    (λ i. length (third i).instructions) ∙ length_added d2 (gap ∷ []) [] ∙ (λ i. long2 i + 1) ∙ sym (length_added e2 (copy1 ∷ []) []) in
    let count2 : length tail ≡ length ys + 1 = length-append ys (copy2 ∷ []) in
    let jump2 = at_line f line (operations.Skip (length ys + 1)) in
    let landed_last : new ≡ added e3 (jump2 ∷ tail) ts =
    lands e3 d8 new space tail ts over line None (where_over ∙ long3) in_three last
    ∙ (λ i. added e3 (at_line f line (operations.Skip (count2 i)) ∷ tail) ts) in
    let whole : new ≡ added d0 (choice_code f line a b test.register m) (ta ++ ts) =
    adds_more d0 e2 new (jump1 ∷ xs) (copy1 ∷ jump2 ∷ tail) ta ts refl
    (adds_more e2 e3 new (copy1 ∷ []) (jump2 ∷ tail) [] ts refl landed_last) in
    let ws = old.frame.variables in
    let place : next d6 ≡ next old + (top ws e + (top ws a + (top ws b + 3))) = omega (arith, is_result, next_of old d0 e test h, top_in old.frame d0.frame a (λ i. (h.code_is i).frame), top_in old.frame d0.frame b (λ i. (h.code_is i).frame)) in
    record {
      code_is = behind_one old d0 new e test m (λ g u n. choice_code g line a b u.register n) (λ g u. types g.variables a ++ (types g.variables b ++ t ∷ [])) h refl whole;
      value_is = is_z ∙ (λ i. operand (place i) (is_x i).type_ line);
    }
