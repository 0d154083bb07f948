-- Which lines a failure text may begin with.
use Rattle.std.proofs.Common.{◌≡◌, ℕ, suc, ◌+◌, ◌<◌, ◌≤◌, ◌^◌, Bool, true, false, eqb, not, List, [], ◌∷◌, ◌++◌, length, take, drop, add-one, length-append, sym, refl, ap, ◌∙◌, subst, arith, All}
use Rattle.std.proofs.lemmas.Bool.{false≢true}
use Rattle.std.proofs.lemmas.List.{append-nil, take-append-drop, take-append-le}
use Rattle.std.proofs.lemmas.List.Elements.{All-head, All-tail, All-nil, All-cons, All-append}
use Rattle.std.proofs.lemmas.Grind.{flat_map-append}
use mathlib.Core.List.{append_assoc}
use Rattle.std.specs.Char.{is_ascii_digit}
use Rattle.std.specs.Fmt.{decimal}
use Rattle.std.specs.Prelude.{codes}
use Rattle.std.specs.List.{flat_map}
use Rattle.std.proofs.lemmas.Bool.Decides.{nat_tests}
use Rattle.std.proofs.lemmas.Str.{IsUtf8-append}
use Rattle.words.specs.declared.check.Class.TheVariants.{Assertion}
use Rattle.report.specs.FileNames.{is_name_byte, all_name_bytes}
use Rattle.report.specs.Report.{Head, Failure, line_of, failure_text, IsFileName, IsHead, IsRow, IsTold}
use Rattle.report.specs.Lines.{Line, generated, file, off, violated, inputs, schedule, failed, line_text, IsLine, MayStand, place_after, Parts}
use Rattle.report.specs.Reading.{has_no_newline, HasLines, CanBegin, IsBadLine}
use Rattle.report.specs.Told.{nothing_told}
use Rattle.report.specs.declared.lines.Place.{Place}
use Rattle.report.specs.declared.lines.Place.TheVariants as places
use Rattle.report.proofs.Ascii.{small_utf8, decimal_utf8}
use Rattle.report.specs.Runs.{passes}
use Rattle.report.proofs.Both.{and_both}
use Rattle.report.proofs.Bytes.{one_run, decimal_passes}
use Rattle.report.proofs.OneLine.{other_than, one_line, body_of}
use Rattle.report.proofs.Chains.{Stand, end_of, stand_join, end_join, lines_of, lines_text, lines_stand, lines_end, failure_in, head_in, IsWhole, from_start}

-- ---- what may follow

-- a place behind a line of a failure text
abbrev pub IsPlace : Place → Type 0
IsPlace places.Start = Unit {0}
IsPlace (places.Generated n) = n < 2 ^ 32
IsPlace places.File = Unit {0}
IsPlace places.Off = Unit {0}
IsPlace places.Violated = Unit {0}
IsPlace (places.Inputs t) = Unit {0}
IsPlace places.Schedule = Unit {0}
IsPlace places.Failed = Unit {0}

after_line : (l : Line) → IsLine l → IsPlace (place_after l)
after_line (generated n b) is = is.0
after_line (file name k) is = tt
after_line off is = tt
after_line (violated c l f t) is = tt
after_line (inputs t ws) is = tt
after_line (schedule rows) is = tt
after_line failed is = tt

pub is_place : (ls : List Line) (p : Place) → IsPlace p → Stand p ls → IsPlace (end_of p ls)
is_place [] p is s = is
is_place (l ∷ ls) p is s = is_place ls (place_after l) (after_line l s.0) s.2

some_tail : List Line
some_tail = schedule ((0, 1) ∷ []) ∷ failed ∷ []

some_check : List Line
some_check = violated Assertion 1 (codes "f") 0 ∷ some_tail

-- lines that may follow at a place, to the end
rest_at : Place → List Line
rest_at places.Start = file (codes "f") 1 ∷ some_check
rest_at (places.Generated n) = file (codes "generated-" ++ decimal n) 1 ∷ some_check
rest_at places.File = some_check
rest_at places.Off = some_check
rest_at places.Violated = some_tail
rest_at (places.Inputs t) = some_tail
rest_at places.Schedule = failed ∷ []
rest_at places.Failed = []

row_is : IsLine (schedule ((0, 1) ∷ []))
row_is = (All-cons IsRow (0, 1) [] (record { thread = omega arith; some = omega arith; turns = omega arith }) (All-nil IsRow), omega arith, tt)

check_is : IsLine (violated Assertion 1 (codes "f") 0)
check_is = (omega arith, omega arith, refl, omega arith)

digit_named : (c : ℕ) → is_ascii_digit c ≡ true → is_name_byte c ≡ true
digit_named c h = grind (arith, nat_tests)

digits_named : (cs : List ℕ) → passes is_ascii_digit cs ≡ true → all_name_bytes cs ≡ true
digits_named [] h = refl
digits_named (c ∷ cs) h = let x = and_both (is_ascii_digit c) (passes is_ascii_digit cs) h in rw (digit_named c x.0, digits_named cs x.1) refl

one_named : IsLine (file (codes "f") 1)
one_named = (record { some = omega arith; utf8 = small_utf8 (codes "f") refl; shown = refl }, omega arith, omega arith)

generated_named : (n : ℕ) → n < 2 ^ 32 → IsFileName (codes "generated-" ++ decimal n)
generated_named n small = record {
  some = omega arith;
  utf8 = IsUtf8-append (codes "generated-") (decimal n) (small_utf8 (codes "generated-") refl) (decimal_utf8 n (omega arith));
  shown = digits_named (decimal n) (decimal_passes n (omega arith));
}

rest_stands : (p : Place) → IsPlace p → Stand p (rest_at p)
unfolding rest_at some_check some_tail
rest_stands places.Start is = (one_named, tt, (check_is, tt, (row_is, tt, (tt, tt, tt))))
rest_stands (places.Generated n) is = ((generated_named n is, omega arith, omega arith), refl, (check_is, tt, (row_is, tt, (tt, tt, tt))))
rest_stands places.File is = (check_is, tt, (row_is, tt, (tt, tt, tt)))
rest_stands places.Off is = (check_is, tt, (row_is, tt, (tt, tt, tt)))
rest_stands places.Violated is = (row_is, tt, (tt, tt, tt))
rest_stands (places.Inputs t) is = (row_is, tt, (tt, tt, tt))
rest_stands places.Schedule is = (tt, tt, tt)
rest_stands places.Failed is = tt

rest_ends : (p : Place) → end_of p (rest_at p) ≡ places.Failed
unfolding rest_at some_check some_tail
rest_ends places.Start = refl
rest_ends (places.Generated n) = refl
rest_ends places.File = refl
rest_ends places.Off = refl
rest_ends places.Violated = refl
rest_ends (places.Inputs t) = refl
rest_ends places.Schedule = refl
rest_ends places.Failed = refl

-- ---- lines that stand behind one another begin a failure text

-- a failure text that begins with this text
pub record Begins (text : List ℕ) : Type 0 where
  pub head : Head
  pub failure : Failure
  pub is_head : IsHead head
  pub is_told : IsTold failure
  pub more : List ℕ
  pub whole : failure_text head failure ≡ text ++ more

begins_whole : (x : Parts) (seen rest : List Line) → IsWhole x (seen ++ rest) → Begins (flat_map line_text seen)
begins_whole x seen rest w = record {
  head = head_in w.origin w.y;
  failure = failure_in w.y;
  is_head = w.head;
  is_told = w.told;
  more = flat_map line_text rest;
  whole = sym (lines_text (head_in w.origin w.y) (failure_in w.y)) ∙ ap (λ (ls : List Line). flat_map line_text ls) (sym w.are) ∙ flat_map-append line_text seen rest;
}

pub begins : (seen : List Line) → Stand places.Start seen → Begins (flat_map line_text seen)
begins seen s =
    let p = end_of places.Start seen in
    begins_whole nothing_told seen (rest_at p)
    (from_start (seen ++ rest_at p) nothing_told refl refl (stand_join seen (rest_at p) places.Start s (rest_stands p (is_place seen places.Start tt s))) (end_join seen (rest_at p) places.Start ∙ rest_ends p))

-- ---- a failure text has its lines and no others

record Starts (text : List ℕ) : Type 0 where
  first : ℕ
  more : List ℕ
  whole : text ≡ first ∷ more

starts : (l : Line) → Starts (line_text l)
starts (generated n b) = record { first = 103; more = codes "enerated " ++ (decimal n ++ (codes " bytes " ++ (decimal b ++ 10 ∷ []))); whole = refl }
starts (file name k) = record { first = 102; more = codes "ile " ++ (name ++ (codes " unwind " ++ (decimal k ++ 10 ∷ []))); whole = refl }
starts off = record { first = 117; more = codes "nwinding assertions off" ++ 10 ∷ []; whole = refl }
starts (violated c l f t) = record { first = 118; more = _; whole = refl }
starts (inputs t ws) = record { first = 105; more = _; whole = refl }
starts (schedule rows) = record { first = 115; more = _; whole = refl }
starts failed = record { first = 86; more = codes "ERIFICATION FAILED" ++ 10 ∷ []; whole = refl }

nil_is_none : (x : ℕ) (xs : List ℕ) → [] ≡ x ∷ xs → ⊥
nil_is_none x xs e = cc

pub no_start : (l : Line) (y : List ℕ) → [] ≡ line_text l ++ y → ⊥
no_start l y e = let s = starts l in nil_is_none s.first (s.more ++ y) (e ∙ ap (λ (z : List ℕ). z ++ y) s.whole)

line_cons : (l m : Line) (ls ms : List Line) → l ≡ m → ls ≡ ms → l ∷ ls ≡ m ∷ ms
line_cons l m ls ms p q = cc

-- the lines behind those that were seen
pub record Behind (p : Place) (seen ts : List Line) (y : List ℕ) : Type 0 where
  pub more : List Line
  pub whole : ts ≡ seen ++ more
  pub text : flat_map line_text more ≡ y
  pub stands : Stand (end_of p seen) more

pub seen_again : (seen ts : List Line) (p : Place) (y : List ℕ) → Stand p seen → Stand p ts → flat_map line_text ts ≡ flat_map line_text seen ++ y → Behind p seen ts y
seen_again [] ts p y s t e = record { more = ts; whole = refl; text = e; stands = t }
seen_again (l ∷ seen) [] p y s t e = absurd (no_start l (flat_map line_text seen ++ y) (e ∙ append_assoc (line_text l) (flat_map line_text seen) y))
seen_again (l ∷ seen) (m ∷ ts) p y s t e =
    let one = one_line m l (flat_map line_text ts) (flat_map line_text seen ++ y) t.0 s.0 (e ∙ append_assoc (line_text l) (flat_map line_text seen) y) in
    let r = seen_again seen ts (place_after l) y s.2 (subst (λ (k : Line). Stand (place_after k) ts) one.0 t.2) one.1 in
    record { more = r.more; whole = line_cons m l ts (seen ++ r.more) one.0 r.whole; text = r.text; stands = r.stands }

other_newline : (cs : List ℕ) → has_no_newline cs ≡ true → passes (other_than 10) cs ≡ true
other_newline [] h = refl
other_newline (c ∷ cs) h = let x = and_both (not (eqb c 10)) (has_no_newline cs) h in rw (x.0, other_newline cs x.1) refl

pub newline_other : (cs : List ℕ) → passes (other_than 10) cs ≡ true → has_no_newline cs ≡ true
newline_other [] h = refl
newline_other (c ∷ cs) h = let x = and_both (not (eqb c 10)) (passes (other_than 10) cs) h in rw (x.0, newline_other cs x.1) refl

-- a first line of a kind that may stand there, in front of what follows it
first_same : (m : Line) (line y z : List ℕ) → IsLine m → has_no_newline line ≡ true → line_text m ++ y ≡ line_of line ++ z → line_text m ≡ line_of line
first_same m line y z is plain e =
    let b = body_of m is in
    let apart = sym (append_assoc b.body (10 ∷ []) y) ∙ ap (λ (t : List ℕ). t ++ y) (sym b.whole) ∙ e ∙ append_assoc line (10 ∷ []) z in
    b.whole ∙ ap (λ (t : List ℕ). line_of t) (one_run (other_than 10) b.body line 10 10 _ _ b.shown (other_newline line plain) refl refl apart).0

empty_line : (line z : List ℕ) → [] ≡ line_of line ++ z → ⊥
empty_line [] z e = cc
empty_line (c ∷ cs) z e = cc

-- No failure text begins with lines that stand behind one another and then with a line that may not stand there.
pub no_failure_begins : (seen : List Line) (line : List ℕ) → Stand places.Start seen → has_no_newline line ≡ true
    → ((l : Line) → IsLine l → MayStand (end_of places.Start seen) l → line_text l ≡ line_of line → ⊥) → Begins (flat_map line_text seen ++ line_of line) → ⊥
no_failure_begins seen line s plain none b =
    let e = lines_text b.head b.failure ∙ b.whole ∙ append_assoc (flat_map line_text seen) (line_of line) b.more in
    at_line (seen_again seen (lines_of b.head b.failure) places.Start (line_of line ++ b.more) s (lines_stand b.head b.failure b.is_head b.is_told) e)
  where
    behind : (more : List Line) → Stand (end_of places.Start seen) more → flat_map line_text more ≡ line_of line ++ b.more → ⊥
    behind [] t e = empty_line line b.more e
    behind (m ∷ more) t e = none m t.0 t.1 (first_same m line (flat_map line_text more) b.more t.0 plain e)

    at_line : Behind places.Start seen (lines_of b.head b.failure) (line_of line ++ b.more) → ⊥
    at_line r = behind r.more r.stands r.text

-- ---- the end of a text

no_newline_in : (xs y : List ℕ) → passes (other_than 10) (line_of xs ++ y) ≡ true → ⊥
no_newline_in [] y h = false≢true h
no_newline_in (x ∷ xs) y h = no_newline_in xs y (and_both (other_than 10 x) (passes (other_than 10) (line_of xs ++ y)) h).1

-- Lines that stand behind one another and what is no line are a failure text only where the last of them is its last line and
-- nothing stands behind it.
pub ends_there : (seen : List Line) (rest : List ℕ) (h : Head) (f : Failure) → IsHead h → IsTold f → Stand places.Start seen → has_no_newline rest ≡ true
    → failure_text h f ≡ flat_map line_text seen ++ rest → (end_of places.Start seen ≡ places.Failed) × (rest ≡ [])
ends_there seen rest h f ih told s plain e =
    at_end (seen_again seen (lines_of h f) places.Start rest s (lines_stand h f ih told) (lines_text h f ∙ e))
  where
    behind : (more : List Line) → lines_of h f ≡ seen ++ more → Stand (end_of places.Start seen) more → flat_map line_text more ≡ rest → (end_of places.Start seen ≡ places.Failed) × (rest ≡ [])
    behind [] w t x = (ap (λ (ls : List Line). end_of places.Start ls) (sym (w ∙ append-nil seen)) ∙ lines_end h f, sym x)
    behind (m ∷ more) w t x =
        let b = body_of m t.0 in
        absurd (no_newline_in b.body (flat_map line_text more)
        (subst (λ (z : List ℕ). passes (other_than 10) z ≡ true) (sym x ∙ ap (λ (z : List ℕ). z ++ flat_map line_text more) b.whole) (other_newline rest plain)))

    at_end : Behind places.Start seen (lines_of h f) rest → (end_of places.Start seen ≡ places.Failed) × (rest ≡ [])
    at_end r = behind r.more r.whole r.stands r.text

-- ---- the lines of a text

-- the bodies of lines
record Bodies (ls : List Line) : Type 0 where
  lines : List (List ℕ)
  text : flat_map line_of lines ≡ flat_map line_text ls
  each : All (λ line. has_no_newline line ≡ true) lines
  count : length lines ≡ length ls

length_cons : (b : List ℕ) (bs : List (List ℕ)) (l : Line) (ls : List Line) → length bs ≡ length ls → length (b ∷ bs) ≡ length (l ∷ ls)
length_cons b bs l ls e = omega arith

bodies : (ls : List Line) (p : Place) → Stand p ls → Bodies ls
bodies [] p s = record { lines = []; text = refl; each = All-nil (λ line. has_no_newline line ≡ true); count = refl }
bodies (l ∷ ls) p s =
    let r = bodies ls (place_after l) s.2 in
    let b = body_of l s.0 in
    record {
      lines = b.body ∷ r.lines;
      text = ap (λ (z : List ℕ). line_of b.body ++ z) r.text ∙ ap (λ (z : List ℕ). z ++ flat_map line_text ls) (sym b.whole);
      each = All-cons (λ line. has_no_newline line ≡ true) b.body r.lines (newline_other b.body b.shown) r.each;
      count = length_cons b.body r.lines l ls r.count;
    }

record Cut (text : List ℕ) : Type 0 where
  lines : List (List ℕ)
  are : HasLines text lines

cut_cons : (c : ℕ) (cs : List ℕ) (lines : List (List ℕ)) (new : Bool) → eqb c 10 ≡ new → HasLines cs lines → Cut (c ∷ cs)
cut_cons c cs lines true e h =
    let ten : c ≡ 10 = grind (arith, nat_tests) in
    record { lines = [] ∷ lines; are = record { rest = h.rest; whole = pair_cons c cs (flat_map line_of lines ++ h.rest) ten h.whole; each = All-cons (λ line. has_no_newline line ≡ true) [] lines refl h.each; last = h.last } }
  where
    pair_cons : (d : ℕ) (ds es : List ℕ) → d ≡ 10 → ds ≡ es → d ∷ ds ≡ 10 ∷ es
    pair_cons d ds es p q = cc
cut_cons c cs [] false e h = record { lines = []; are = record { rest = c ∷ h.rest; whole = ap (λ (z : List ℕ). c ∷ z) h.whole; each = h.each; last = rw (e, h.last) refl } }
cut_cons c cs (l ∷ ls) false e h = record {
  lines = (c ∷ l) ∷ ls;
  are = record {
    rest = h.rest;
    whole = ap (λ (z : List ℕ). c ∷ z) h.whole;
    each = All-cons (λ line. has_no_newline line ≡ true) (c ∷ l) ls (first_more h.each) (All-tail (λ line. has_no_newline line ≡ true) l ls h.each);
    last = h.last;
  };
}
  where
    first_more : All (λ line. has_no_newline line ≡ true) (l ∷ ls) → has_no_newline (c ∷ l) ≡ true
    first_more a = let x : has_no_newline l ≡ true = All-head (λ line. has_no_newline line ≡ true) l ls a in rw (e, x) refl

cut : (text : List ℕ) → Cut text
cut [] = record { lines = []; are = record { rest = []; whole = refl; each = All-nil (λ line. has_no_newline line ≡ true); last = refl } }
cut (c ∷ cs) = let r = cut cs in cut_cons c cs r.lines (eqb c 10) refl r.are

-- ---- the line that is told

begins_shorter : (text rest : List ℕ) → Begins (text ++ rest) → Begins text
begins_shorter text rest b = record { head = b.head; failure = b.failure; is_head = b.is_head; is_told = b.is_told; more = rest ++ b.more; whole = b.whole ∙ append_assoc text rest b.more }

can_begin : (lines : List (List ℕ)) → Begins (flat_map line_of lines) → CanBegin lines
can_begin lines b = record { head = b.head; failure = b.failure; is_head = b.is_head; is_told = b.is_told; more = b.more; whole = b.whole }

begin_of : (lines : List (List ℕ)) → CanBegin lines → Begins (flat_map line_of lines)
begin_of lines b = record { head = b.head; failure = b.failure; is_head = b.is_head; is_told = b.is_told; more = b.more; whole = b.whole }

shorter : (lines : List (List ℕ)) (k : ℕ) → Begins (flat_map line_of lines) → CanBegin (take k lines)
shorter lines k b =
    can_begin (take k lines) (begins_shorter (flat_map line_of (take k lines)) (flat_map line_of (drop k lines))
    (subst Begins (ap (λ (ls : List (List ℕ)). flat_map line_of ls) (sym (take-append-drop k lines)) ∙ flat_map-append line_of (take k lines) (drop k lines)) b))

-- no line is left: the text ends within a failure text, or a line too early
pub bad_end : (text : List ℕ) (seen : List Line) (rest : List ℕ) → Stand places.Start seen → text ≡ flat_map line_text seen ++ rest → has_no_newline rest ≡ true → IsBadLine text (length seen + 1)
bad_end text seen rest s whole plain =
    let b = bodies seen places.Start s in
    let count = b.count in
    record {
      lines = b.lines;
      are_lines = record { rest = rest; whole = whole ∙ ap (λ (z : List ℕ). z ++ rest) (sym b.text); each = b.each; last = plain };
      first = omega arith;
      last = omega arith;
      before = λ k lt. shorter b.lines k (subst Begins (sym b.text) (begins seen s));
      here = λ le c. absurd (omega arith);
    }

take_longer : (bs more : List (List ℕ)) (line : List ℕ) (n : ℕ) → length bs ≡ n → take (n + 1) (bs ++ line ∷ more) ≡ bs ++ line ∷ []
take_longer bs more line n e = subst (λ (m : ℕ). take (m + 1) (bs ++ line ∷ more) ≡ bs ++ line ∷ []) e (take_one_more bs)
  where
    take_one_more : (ds : List (List ℕ)) → take (length ds + 1) (ds ++ line ∷ more) ≡ ds ++ line ∷ []
    take_one_more [] = refl
    take_one_more (d ∷ ds) = subst (λ (m : ℕ). take m ((d ∷ ds) ++ line ∷ more) ≡ (d ∷ ds) ++ line ∷ []) (sym (add-one (suc (length ds)))) (ap (λ (z : List (List ℕ)). d ∷ z) (rw add-one at (take_one_more ds)))

-- a line is left that may not stand there
pub bad_line : (text : List ℕ) (seen : List Line) (line rest : List ℕ) → Stand places.Start seen → text ≡ flat_map line_text seen ++ (line_of line ++ rest) → has_no_newline line ≡ true
    → ((l : Line) → IsLine l → MayStand (end_of places.Start seen) l → line_text l ≡ line_of line → ⊥) → IsBadLine text (length seen + 1)
bad_line text seen line rest s whole plain none =
    let b = bodies seen places.Start s in
    let count = b.count in
    let more = cut rest in
    let m = more.are in
    let all = b.lines ++ line ∷ more.lines in
    let some : length all ≡ length b.lines + (length more.lines + 1) = simp length-append (omega arith) in
    record {
      lines = all;
      are_lines = record {
        rest = m.rest;
        whole = whole ∙ joined (flat_map line_text seen) (flat_map line_of b.lines) (line_of line) rest (flat_map line_of more.lines) m.rest (sym b.text) m.whole ∙ ap (λ (z : List ℕ). z ++ m.rest) (sym (flat_map-append line_of b.lines (line ∷ more.lines)));
        each = All-append (λ line. has_no_newline line ≡ true) b.lines (line ∷ more.lines) b.each (All-cons (λ line. has_no_newline line ≡ true) line more.lines plain m.each);
        last = m.last;
      };
      first = omega arith;
      last = omega arith;
      before = λ k lt.
          let le : k ≤ length b.lines = omega arith in
          subst CanBegin (sym (take-append-le k b.lines (line ∷ more.lines) le)) (shorter b.lines k (subst Begins (sym b.text) (begins seen s)));
      here = λ le c.
          no_failure_begins seen line s plain none
          (subst Begins (flat_map-append line_of b.lines (line ∷ []) ∙ ap (λ (z : List ℕ). flat_map line_of b.lines ++ z) (append-nil (line_of line)) ∙ ap (λ (z : List ℕ). z ++ line_of line) b.text)
          (begin_of (b.lines ++ line ∷ []) (subst CanBegin (take_longer b.lines more.lines line (length seen) count) c)));
    }
  where
    joined : (a b l r m z : List ℕ) → a ≡ b → r ≡ m ++ z → a ++ (l ++ r) ≡ (b ++ (l ++ m)) ++ z
    joined a b l r m z p q = ap (λ (x : List ℕ). x ++ (l ++ r)) p ∙ ap (λ (x : List ℕ). b ++ (l ++ x)) q ∙ regroup b l m z
      where
        regroup : (b l m z : List ℕ) → b ++ (l ++ (m ++ z)) ≡ (b ++ (l ++ m)) ++ z
        regroup b l m z = simp append_assoc
