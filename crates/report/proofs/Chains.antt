-- Lines that stand behind one another, up to the end of a failure text.
use Rattle.std.proofs.Common.{◌≡◌, ℕ, ◌+◌, ◌<◌, ◌≤◌, Bool, true, false, eqb, List, [], ◌∷◌, ◌++◌, Option, Some, None, sym, refl, ap, ◌∙◌, subst, arith, All}
use Rattle.std.proofs.lemmas.List.{append-nil}
use Rattle.std.proofs.lemmas.List.Elements.{All-head, All-tail, All-nil, All-cons}
use mathlib.Core.List.{append_assoc}
use Rattle.std.specs.Prelude.{codes, nat_lt}
use Rattle.std.proofs.lemmas.Bool.Decides.{nat_tests}
use Rattle.std.specs.List.{flat_map}
use Rattle.std.specs.BTreeMap.{insert_entry}
use Rattle.std.specs.Ordering.{nat_cmp}
use Rattle.std.specs.declared.cmp.Ordering.TheVariants.{Greater}
use Rattle.words.specs.declared.check.Class.{Class}
use Rattle.report.specs.Report.{Head, Failure, generated_lines, file_line, assertions_lines, head_text, violated_line, inputs_line, schedule_line, line_of, failure_text, IsFileName, IsGeneratedAs, IsHead, IsDrawn, AreRising, IsTold}
use Rattle.report.specs.Lines.{Line, generated, file, off, violated, inputs, schedule, failed, line_text, IsLine, MayStand, place_after, Parts, with_line}
use Rattle.report.specs.declared.lines.Place.{Place}
use Rattle.report.specs.declared.lines.Place.TheVariants as places

-- each line stands behind the one before it, the first of them at this place
abbrev pub Stand : Place → List Line → Type 0
Stand p [] = Unit {0}
Stand p (l ∷ ls) = IsLine l × MayStand p l × Stand (place_after l) ls

-- the place behind the last of the lines
abbrev pub end_of : Place → List Line → Place
end_of p [] = p
end_of p (l ∷ ls) = end_of (place_after l) ls

-- what lines tell, one after another
abbrev pub with_lines : Parts → List Line → Parts
with_lines x [] = x
with_lines x (l ∷ ls) = with_lines (with_line x l) ls

pub stand_more : (ls : List Line) (p : Place) (l : Line) → Stand p ls → IsLine l → MayStand (end_of p ls) l → Stand p (ls ++ l ∷ [])
stand_more [] p l s is may = (is, may, tt)
stand_more (k ∷ ls) p l s is may = (s.0, s.1, stand_more ls (place_after k) l s.2 is may)

pub end_more : (ls : List Line) (p : Place) (l : Line) → end_of p (ls ++ l ∷ []) ≡ place_after l
end_more [] p l = refl
end_more (k ∷ ls) p l = end_more ls (place_after k) l

pub with_more : (ls : List Line) (x : Parts) (l : Line) → with_lines x (ls ++ l ∷ []) ≡ with_line (with_lines x ls) l
with_more [] x l = refl
with_more (k ∷ ls) x l = with_more ls (with_line x k) l

pub stand_join : (ls ms : List Line) (p : Place) → Stand p ls → Stand (end_of p ls) ms → Stand p (ls ++ ms)
stand_join [] ms p s t = t
stand_join (k ∷ ls) ms p s t = (s.0, s.1, stand_join ls ms (place_after k) s.2 t)

pub end_join : (ls ms : List Line) (p : Place) → end_of p (ls ++ ms) ≡ end_of (end_of p ls) ms
end_join [] ms p = refl
end_join (k ∷ ls) ms p = end_join ls ms (place_after k)

-- ---- the lines of a failure text

abbrev pub generated_of : Option (ℕ × ℕ) → List Line
generated_of None = []
generated_of (Some g) = generated g.0 g.1 ∷ []

abbrev pub off_of : Bool → List Line
off_of true = []
off_of false = off ∷ []

-- those behind the line of the check
abbrev pub tail_of : List (ℕ × List ℕ) → List (ℕ × ℕ) → List Line
tail_of [] rows = schedule rows ∷ failed ∷ []
tail_of (e ∷ es) rows = inputs e.0 e.1 ∷ tail_of es rows

abbrev pub lines_of : Head → Failure → List Line
lines_of h f = generated_of h.generated ++ (file h.name h.unwind ∷ (off_of h.assertions ++ (violated f.class f.line f.function f.thread ∷ tail_of f.inputs f.rows)))

tail_text : (es : List (ℕ × List ℕ)) (rows : List (ℕ × ℕ)) → flat_map line_text (tail_of es rows) ≡ flat_map inputs_line es ++ (schedule_line rows ++ line_of (codes "VERIFICATION FAILED"))
tail_text [] rows = refl
tail_text (e ∷ es) rows =
    ap (λ (z : List ℕ). inputs_line e ++ z) (tail_text es rows)
    ∙ sym (append_assoc (inputs_line e) (flat_map inputs_line es) (schedule_line rows ++ line_of (codes "VERIFICATION FAILED")))

four : (g a o x : List ℕ) → g ++ (a ++ (o ++ x)) ≡ (g ++ (a ++ o)) ++ x
four g a o x = simp append_assoc

head_lines_text : (g : Option (ℕ × ℕ)) (name : List ℕ) (k : ℕ) (b : Bool) (ls : List Line)
    → flat_map line_text (generated_of g ++ (file name k ∷ (off_of b ++ ls))) ≡ (generated_lines g ++ (file_line name k ++ assertions_lines b)) ++ flat_map line_text ls
head_lines_text None name k true ls = four [] (file_line name k) [] (flat_map line_text ls)
head_lines_text None name k false ls = four [] (file_line name k) (assertions_lines false) (flat_map line_text ls)
head_lines_text (Some g) name k true ls = four (generated_lines (Some g)) (file_line name k) [] (flat_map line_text ls)
head_lines_text (Some g) name k false ls = four (generated_lines (Some g)) (file_line name k) (assertions_lines false) (flat_map line_text ls)

pub lines_text : (h : Head) (f : Failure) → flat_map line_text (lines_of h f) ≡ failure_text h f
lines_text h f =
    head_lines_text h.generated h.name h.unwind h.assertions (violated f.class f.line f.function f.thread ∷ tail_of f.inputs f.rows)
    ∙ ap (λ (z : List ℕ). head_text h ++ (violated_line f ++ z)) (tail_text f.inputs f.rows)

-- ---- they stand behind one another

abbrev FirstMay : Place → List (ℕ × List ℕ) → List (ℕ × ℕ) → Type 0
FirstMay p [] rows = MayStand p (schedule rows)
FirstMay p (e ∷ es) rows = MayStand p (inputs e.0 e.1)

tail_stands : (es : List (ℕ × List ℕ)) (rows : List (ℕ × ℕ)) (p : Place) → All IsDrawn es → AreRising es → IsLine (schedule rows) → FirstMay p es rows → Stand p (tail_of es rows)
tail_stands [] rows p d r ok may = (ok, may, (tt, tt, tt))
tail_stands (e ∷ []) rows p d r ok may = (All-head IsDrawn e [] d, may, tail_stands [] rows (places.Inputs e.0) (All-tail IsDrawn e [] d) tt ok tt)
tail_stands (e ∷ f ∷ es) rows p d r ok may =
    (All-head IsDrawn e (f ∷ es) d, may, tail_stands (f ∷ es) rows (places.Inputs e.0) (All-tail IsDrawn e (f ∷ es) d) r.1 ok r.0)

behind_check : (es : List (ℕ × List ℕ)) (rows : List (ℕ × ℕ)) → FirstMay places.Violated es rows
behind_check [] rows = tt
behind_check (e ∷ es) rows = tt

check_stands : (f : Failure) → IsTold f → Stand places.Off (violated f.class f.line f.function f.thread ∷ tail_of f.inputs f.rows)
check_stands f told =
    let r = told.ranges in
    ((told.first, r.line, r.function, r.thread), tt, tail_stands f.inputs f.rows places.Violated r.drawn r.rising (r.rows, r.some, r.maximal) (behind_check f.inputs f.rows))

head_stands : (g : Option (ℕ × ℕ)) (name : List ℕ) (k : ℕ) (b : Bool) (c : Class) (l : ℕ) (f : List ℕ) (t : ℕ) (ls : List Line) → IsLine (file name k) → IsGeneratedAs name g
    → Stand places.Off (violated c l f t ∷ ls) → Stand places.Start (generated_of g ++ (file name k ∷ (off_of b ++ (violated c l f t ∷ ls))))
head_stands None name k true c l f t ls is org s = (is, tt, s)
head_stands None name k false c l f t ls is org s = (is, tt, (tt, tt, s))
head_stands (Some g) name k true c l f t ls is org s = ((org.0, org.1), tt, (is, org.2, s))
head_stands (Some g) name k false c l f t ls is org s = ((org.0, org.1), tt, (is, org.2, (tt, tt, s)))

pub lines_stand : (h : Head) (f : Failure) → IsHead h → IsTold f → Stand places.Start (lines_of h f)
lines_stand h f ih told =
    head_stands h.generated h.name h.unwind h.assertions f.class f.line f.function f.thread (tail_of f.inputs f.rows) (ih.name, ih.least, ih.unwind) ih.generated (check_stands f told)

tail_ends : (es : List (ℕ × List ℕ)) (rows : List (ℕ × ℕ)) (p : Place) → end_of p (tail_of es rows) ≡ places.Failed
tail_ends [] rows p = refl
tail_ends (e ∷ es) rows p = tail_ends es rows (places.Inputs e.0)

head_ends : (g : Option (ℕ × ℕ)) (name : List ℕ) (k : ℕ) (b : Bool) (c : Class) (l : ℕ) (f : List ℕ) (t : ℕ) (ls : List Line)
    → end_of places.Start (generated_of g ++ (file name k ∷ (off_of b ++ (violated c l f t ∷ ls)))) ≡ end_of places.Violated ls
head_ends None name k true c l f t ls = refl
head_ends None name k false c l f t ls = refl
head_ends (Some g) name k true c l f t ls = refl
head_ends (Some g) name k false c l f t ls = refl

pub lines_end : (h : Head) (f : Failure) → end_of places.Start (lines_of h f) ≡ places.Failed
lines_end h f =
    head_ends h.generated h.name h.unwind h.assertions f.class f.line f.function f.thread (tail_of f.inputs f.rows) ∙ tail_ends f.inputs f.rows places.Violated

-- ---- lines that stand so are those of a failure text

-- all threads of the entries are below t
abbrev Below : List (ℕ × List ℕ) → ℕ → Type 0
Below [] t = Unit {0}
Below (e ∷ es) t = (e.0 < t) × Below es t

below_higher : (es : List (ℕ × List ℕ)) (t u : ℕ) → t ≤ u → Below es t → Below es u
below_higher [] t u le b = tt
below_higher (e ∷ es) t u le b = let lt = b.0 in (omega arith, below_higher es t u le b.1)

below_more : (es : List (ℕ × List ℕ)) (t : ℕ) (ws : List ℕ) → Below es t → Below (es ++ (t, ws) ∷ []) (t + 1)
below_more [] t ws b = (omega arith, tt)
below_more (e ∷ es) t ws b = let lt = b.0 in (omega arith, below_more es t ws b.1)

above_is : (t u : ℕ) → u < t → nat_cmp t u ≡ Greater
above_is t u lt =
    let no : nat_lt t u ≡ false = grind (arith, nat_tests) in
    let other : eqb t u ≡ false = grind (arith, nat_tests) in
    rw (no, other) refl

insert_last : (es : List (ℕ × List ℕ)) (t : ℕ) (ws : List ℕ) → Below es t → insert_entry nat_cmp es t ws ≡ es ++ (t, ws) ∷ []
insert_last [] t ws b = refl
insert_last (e ∷ es) t ws b = rw (above_is t e.0 b.0) (ap (λ (z : List (ℕ × List ℕ)). e ∷ z) (insert_last es t ws b.1))

none_behind : (l : Line) → MayStand places.Failed l → ⊥
none_behind (generated n b) may = may
none_behind (file name k) may = may
none_behind off may = may
none_behind (violated c l f t) may = may
none_behind (inputs t ws) may = may
none_behind (schedule rows) may = may
none_behind failed may = may

from_schedule : (ls : List Line) → Stand places.Schedule ls → end_of places.Schedule ls ≡ places.Failed → ls ≡ failed ∷ []
from_schedule [] s e = cc
from_schedule (failed ∷ []) s e = refl
from_schedule (failed ∷ l ∷ ls) s e = absurd (none_behind l s.2.1)
from_schedule (generated n b ∷ ls) s e = absurd s.1
from_schedule (file name k ∷ ls) s e = absurd s.1
from_schedule (off ∷ ls) s e = absurd s.1
from_schedule (violated c l f t ∷ ls) s e = absurd s.1
from_schedule (inputs t ws ∷ ls) s e = absurd s.1
from_schedule (schedule rows ∷ ls) s e = absurd s.1

abbrev with_tail : Parts → List (ℕ × List ℕ) → List (ℕ × ℕ) → Parts
with_tail x es rows = record x { inputs = es; rows = rows }

-- lines that are those behind the line of a check
record IsTail (p : Place) (x : Parts) (ls : List Line) : Type 0 where
  es : List (ℕ × List ℕ)
  rows : List (ℕ × ℕ)
  are : ls ≡ tail_of es rows
  drawn : All IsDrawn es
  rising : AreRising es
  first : FirstMay p es rows
  ok : IsLine (schedule rows)
  parts : with_lines x ls ≡ with_tail x (x.inputs ++ es) rows

rising_cons : (t : ℕ) (ws : List ℕ) (es : List (ℕ × List ℕ)) (rows : List (ℕ × ℕ)) → AreRising es → FirstMay (places.Inputs t) es rows → AreRising ((t, ws) ∷ es)
rising_cons t ws [] rows r first = tt
rising_cons t ws (f ∷ es) rows r first = (first, r)

lines_cons : (l : Line) (ls ms : List Line) → ls ≡ ms → l ∷ ls ≡ l ∷ ms
lines_cons l ls ms e = cc

schedule_tail : (p : Place) (x : Parts) (rows : List (ℕ × ℕ)) (ls : List Line) → MayStand p (schedule rows) → IsLine (schedule rows) → ls ≡ failed ∷ [] → IsTail p x (schedule rows ∷ ls)
schedule_tail p x rows ls may ok e = record {
  es = [];
  rows = rows;
  are = lines_cons (schedule rows) ls (failed ∷ []) e;
  drawn = All-nil IsDrawn;
  rising = tt;
  first = may;
  ok = ok;
  parts = ap (λ (ms : List Line). with_lines (with_line x (schedule rows)) ms) e ∙ ap (λ (es : List (ℕ × List ℕ)). with_tail x es rows) (sym (append-nil x.inputs));
}

inputs_tail : (p : Place) (x : Parts) (t : ℕ) (ws : List ℕ) (ls : List Line) → MayStand p (inputs t ws) → IsDrawn (t, ws) → Below x.inputs t
    → IsTail (places.Inputs t) (with_line x (inputs t ws)) ls → IsTail p x (inputs t ws ∷ ls)
inputs_tail p x t ws ls may is below r = record {
  es = (t, ws) ∷ r.es;
  rows = r.rows;
  are = lines_cons (inputs t ws) ls (tail_of r.es r.rows) r.are;
  drawn = All-cons IsDrawn (t, ws) r.es is r.drawn;
  rising = rising_cons t ws r.es r.rows r.rising r.first;
  first = may;
  ok = r.ok;
  parts = r.parts ∙ ap (λ (es : List (ℕ × List ℕ)). with_tail x es r.rows) (ap (λ (es : List (ℕ × List ℕ)). es ++ r.es) (insert_last x.inputs t ws below) ∙ append_assoc x.inputs ((t, ws) ∷ []) r.es);
}

below_inserted : (es : List (ℕ × List ℕ)) (t : ℕ) (ws : List ℕ) → Below es t → Below (insert_entry nat_cmp es t ws) (t + 1)
below_inserted es t ws b = subst (λ (fs : List (ℕ × List ℕ)). Below fs (t + 1)) (sym (insert_last es t ws b)) (below_more es t ws b)

from_inputs : (ls : List Line) (last : ℕ) (x : Parts) → Below x.inputs (last + 1) → Stand (places.Inputs last) ls → end_of (places.Inputs last) ls ≡ places.Failed → IsTail (places.Inputs last) x ls
from_inputs [] last x b s e = cc
from_inputs (inputs t ws ∷ ls) last x b s e =
    let lt : last < t = s.1 in
    let below = below_higher x.inputs (last + 1) t (omega arith) b in
    inputs_tail (places.Inputs last) x t ws ls s.1 s.0 below (from_inputs ls t (with_line x (inputs t ws)) (below_inserted x.inputs t ws below) s.2 e)
from_inputs (schedule rows ∷ ls) last x b s e = schedule_tail (places.Inputs last) x rows ls tt s.0 (from_schedule ls s.2 e)
from_inputs (generated n c ∷ ls) last x b s e = absurd s.1
from_inputs (file name k ∷ ls) last x b s e = absurd s.1
from_inputs (off ∷ ls) last x b s e = absurd s.1
from_inputs (violated c l f t ∷ ls) last x b s e = absurd s.1
from_inputs (failed ∷ ls) last x b s e = absurd s.1

from_check : (ls : List Line) (x : Parts) → x.inputs ≡ [] → Stand places.Violated ls → end_of places.Violated ls ≡ places.Failed → IsTail places.Violated x ls
from_check [] x none s e = cc
from_check (inputs t ws ∷ ls) x none s e =
    let below : Below x.inputs t = subst (λ (es : List (ℕ × List ℕ)). Below es t) (sym none) tt in
    inputs_tail places.Violated x t ws ls tt s.0 below (from_inputs ls t (with_line x (inputs t ws)) (below_inserted x.inputs t ws below) s.2 e)
from_check (schedule rows ∷ ls) x none s e = schedule_tail places.Violated x rows ls tt s.0 (from_schedule ls s.2 e)
from_check (generated n c ∷ ls) x none s e = absurd s.1
from_check (file name k ∷ ls) x none s e = absurd s.1
from_check (off ∷ ls) x none s e = absurd s.1
from_check (violated c l f t ∷ ls) x none s e = absurd s.1
from_check (failed ∷ ls) x none s e = absurd s.1

-- the failure that the parts tell
abbrev pub failure_in : Parts → Failure
failure_in x = record { class = x.class; line = x.line; function = x.function; thread = x.thread; inputs = x.inputs; rows = x.rows }

abbrev pub head_in : Option (ℕ × ℕ) → Parts → Head
head_in g x = record { generated = g; name = x.name; unwind = x.unwind; assertions = x.assertions }

-- the lines from that of the check on
record IsCheck (x : Parts) (ls : List Line) : Type 0 where
  y : Parts
  parts : with_lines x ls ≡ y
  name : y.name ≡ x.name
  unwind : y.unwind ≡ x.unwind
  assertions : y.assertions ≡ x.assertions
  are : ls ≡ violated y.class y.line y.function y.thread ∷ tail_of y.inputs y.rows
  told : IsTold (failure_in y)

from_off : (ls : List Line) (x : Parts) → x.inputs ≡ [] → Stand places.Off ls → end_of places.Off ls ≡ places.Failed → IsCheck x ls
from_off [] x none s e = cc
from_off (violated c l f t ∷ ls) x none s e =
    let r = from_check ls (with_line x (violated c l f t)) none s.2 e in
    record {
      y = with_tail (with_line x (violated c l f t)) r.es r.rows;
      parts = r.parts ∙ ap (λ (es : List (ℕ × List ℕ)). with_tail (with_line x (violated c l f t)) (es ++ r.es) r.rows) none;
      name = refl;
      unwind = refl;
      assertions = refl;
      are = lines_cons (violated c l f t) ls (tail_of r.es r.rows) r.are;
      told = record {
        first = s.0.0;
        ranges = record { line = s.0.1; function = s.0.2; thread = s.0.3; drawn = r.drawn; rising = r.rising; rows = r.ok.0; some = r.ok.1; maximal = r.ok.2 };
      };
    }
from_off (generated n c ∷ ls) x none s e = absurd s.1
from_off (file name k ∷ ls) x none s e = absurd s.1
from_off (off ∷ ls) x none s e = absurd s.1
from_off (inputs t ws ∷ ls) x none s e = absurd s.1
from_off (schedule rows ∷ ls) x none s e = absurd s.1
from_off (failed ∷ ls) x none s e = absurd s.1

-- the lines behind that of the file
record IsFile (x : Parts) (ls : List Line) : Type 0 where
  y : Parts
  parts : with_lines x ls ≡ y
  name : y.name ≡ x.name
  unwind : y.unwind ≡ x.unwind
  are : ls ≡ off_of y.assertions ++ (violated y.class y.line y.function y.thread ∷ tail_of y.inputs y.rows)
  told : IsTold (failure_in y)

behind_file : (x : Parts) (ls : List Line) → x.assertions ≡ true → IsCheck x ls → IsFile x ls
behind_file x ls on r = record {
  y = r.y;
  parts = r.parts;
  name = r.name;
  unwind = r.unwind;
  are = r.are ∙ ap (λ (b : Bool). off_of b ++ (violated r.y.class r.y.line r.y.function r.y.thread ∷ tail_of r.y.inputs r.y.rows)) (sym (r.assertions ∙ on));
  told = r.told;
}

behind_off : (x : Parts) (ls : List Line) → IsCheck (with_line x off) ls → IsFile x (off ∷ ls)
behind_off x ls r = record {
  y = r.y;
  parts = r.parts;
  name = r.name;
  unwind = r.unwind;
  are = lines_cons off ls (violated r.y.class r.y.line r.y.function r.y.thread ∷ tail_of r.y.inputs r.y.rows) r.are
      ∙ ap (λ (b : Bool). off_of b ++ (violated r.y.class r.y.line r.y.function r.y.thread ∷ tail_of r.y.inputs r.y.rows)) (sym r.assertions);
  told = r.told;
}

from_file : (ls : List Line) (x : Parts) → x.inputs ≡ [] → x.assertions ≡ true → Stand places.File ls → end_of places.File ls ≡ places.Failed → IsFile x ls
from_file [] x none on s e = cc
from_file (violated c l f t ∷ ls) x none on s e = behind_file x (violated c l f t ∷ ls) on (from_off (violated c l f t ∷ ls) x none s e)
from_file (off ∷ ls) x none on s e = behind_off x ls (from_off ls (with_line x off) none s.2 e)
from_file (generated n c ∷ ls) x none on s e = absurd s.1
from_file (file name k ∷ ls) x none on s e = absurd s.1
from_file (inputs t ws ∷ ls) x none on s e = absurd s.1
from_file (schedule rows ∷ ls) x none on s e = absurd s.1
from_file (failed ∷ ls) x none on s e = absurd s.1

-- lines that are those of a failure text
pub record IsWhole (x : Parts) (ls : List Line) : Type 0 where
  pub origin : Option (ℕ × ℕ)
  pub y : Parts
  pub parts : with_lines x ls ≡ y
  pub head : IsHead (head_in origin y)
  pub told : IsTold (failure_in y)
  pub are : ls ≡ lines_of (head_in origin y) (failure_in y)

-- the line of the file, with those behind it
named : (g : Option (ℕ × ℕ)) (name : List ℕ) (k : ℕ) (x : Parts) (ls : List Line) → IsLine (file name k) → IsGeneratedAs name g → IsFile (with_line x (file name k)) ls → IsWhole x (generated_of g ++ (file name k ∷ ls))
named g name k x ls is org r = record {
  origin = g;
  y = r.y;
  parts = passed g ∙ r.parts;
  head = record {
    name = subst IsFileName (sym r.name) is.0;
    least = subst (λ (n : ℕ). 1 ≤ n) (sym r.unwind) is.1;
    unwind = subst (λ (n : ℕ). n ≤ 1000) (sym r.unwind) is.2;
    generated = subst (λ (n : List ℕ). IsGeneratedAs n g) (sym r.name) org;
  };
  told = r.told;
  are = ap (λ (l : Line). generated_of g ++ (l ∷ ls)) (same name r.y.name k r.y.unwind (sym r.name) (sym r.unwind)) ∙ ap (λ (ms : List Line). generated_of g ++ (file r.y.name r.y.unwind ∷ ms)) r.are;
}
  where
    same : (a b : List ℕ) (m n : ℕ) → a ≡ b → m ≡ n → file a m ≡ file b n
    same a b m n p q = cc

    passed : (o : Option (ℕ × ℕ)) → with_lines x (generated_of o ++ (file name k ∷ ls)) ≡ with_lines (with_line x (file name k)) ls
    passed None = refl
    passed (Some h) = refl

from_generated : (ls : List Line) (n b : ℕ) (x : Parts) → x.inputs ≡ [] → x.assertions ≡ true → IsLine (generated n b) → Stand (places.Generated n) ls → end_of (places.Generated n) ls ≡ places.Failed → IsWhole x (generated n b ∷ ls)
from_generated [] n b x none on is s e = cc
from_generated (file name k ∷ ls) n b x none on is s e = named (Some (n, b)) name k x ls s.0 (is.0, is.1, s.1) (from_file ls (with_line x (file name k)) none on s.2 e)
from_generated (generated m c ∷ ls) n b x none on is s e = absurd s.1
from_generated (off ∷ ls) n b x none on is s e = absurd s.1
from_generated (violated c l f t ∷ ls) n b x none on is s e = absurd s.1
from_generated (inputs t ws ∷ ls) n b x none on is s e = absurd s.1
from_generated (schedule rows ∷ ls) n b x none on is s e = absurd s.1
from_generated (failed ∷ ls) n b x none on is s e = absurd s.1

pub from_start : (ls : List Line) (x : Parts) → x.inputs ≡ [] → x.assertions ≡ true → Stand places.Start ls → end_of places.Start ls ≡ places.Failed → IsWhole x ls
from_start [] x none on s e = cc
from_start (generated n b ∷ ls) x none on s e = from_generated ls n b x none on s.0 s.2 e
from_start (file name k ∷ ls) x none on s e = named None name k x ls s.0 tt (from_file ls (with_line x (file name k)) none on s.2 e)
from_start (off ∷ ls) x none on s e = absurd s.1
from_start (violated c l f t ∷ ls) x none on s e = absurd s.1
from_start (inputs t ws ∷ ls) x none on s e = absurd s.1
from_start (schedule rows ∷ ls) x none on s e = absurd s.1
from_start (failed ∷ ls) x none on s e = absurd s.1
