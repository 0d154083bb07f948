-- How far a text is read.
use Rattle.std.proofs.Common.{◌≡◌, ℕ, ◌+◌, ◌≤◌, List, [], ◌∷◌, ◌++◌, length, true, sym, refl, ap, ◌∙◌, subst, arith}
use Rattle.std.proofs.lemmas.List.{append-nil}
use Rattle.std.proofs.Common.{length-append}
use Rattle.std.proofs.lemmas.Grind.{flat_map-append}
use mathlib.Core.List.{append_assoc}
use Rattle.std.specs.List.{flat_map}
use Rattle.report.specs.Report.{line_of}
use Rattle.report.specs.Lines.{Line, line_text, IsLine, MayStand, place_after, Parts, with_line}
use Rattle.report.specs.Reading.{IsReading, IsFailureText, IsBadLine, has_no_newline}
use Rattle.report.specs.Told.{parts_of, nothing_told}
use Rattle.report.specs.declared.lines.Place.{Place}
use Rattle.report.specs.declared.lines.Place.TheVariants as places
use Rattle.report.specs.declared.reading.TraceText.{TraceText}
use Rattle.report.proofs.Chains.{Stand, end_of, with_lines, stand_more, end_more, with_more, lines_text, failure_in, head_in, IsWhole, from_start}
use Rattle.report.proofs.Beginnings.{bad_end, bad_line, ends_there, no_failure_begins}

-- These lines were read, and this rest is left.
pub record Reached (text rest : List ℕ) (number : ℕ) (place : Place) (told : Parts) : Type 0 where
  pub seen : List Line
  pub stands : Stand places.Start seen
  pub place_is : place ≡ end_of places.Start seen
  pub whole : text ≡ flat_map line_text seen ++ rest
  pub count : number ≡ length seen + 1
  pub told_is : told ≡ with_lines nothing_told seen
  pub fits : number + length rest ≤ length text + 1

pub reached_first : (text : List ℕ) → Reached text text 1 places.Start nothing_told
reached_first text = record { seen = []; stands = tt; place_is = refl; whole = refl; count = refl; told_is = refl; fits = omega arith }

one_length : (seen : List Line) (l : Line) → length (seen ++ l ∷ []) ≡ length seen + 1
one_length seen l = simp length-append

line_length : (line more : List ℕ) → length (line_of line ++ more) ≡ length line + 1 + length more
line_length line more = simp length-append (omega arith)

pub reached_more : (text line more : List ℕ) (number : ℕ) (place : Place) (told : Parts) (l : Line) → Reached text (line_of line ++ more) number place told
    → IsLine l → MayStand place l → line_text l ≡ line_of line → Reached text more (number + 1) (place_after l) (with_line told l)
reached_more text line more number place told l r is may e =
    let count = r.count in
    let fits = r.fits in
    let long = line_length line more in
    let one = one_length r.seen l in
    record {
      seen = r.seen ++ l ∷ [];
      stands = stand_more r.seen places.Start l r.stands is (subst (λ (p : Place). MayStand p l) r.place_is may);
      place_is = sym (end_more r.seen places.Start l);
      whole = r.whole ∙ ap (λ (z : List ℕ). flat_map line_text r.seen ++ (z ++ more)) (sym e) ∙ sym (append_assoc (flat_map line_text r.seen) (line_text l) more)
          ∙ ap (λ (z : List ℕ). (flat_map line_text r.seen ++ z) ++ more) (sym (append-nil (line_text l))) ∙ ap (λ (z : List ℕ). z ++ more) (sym (flat_map-append line_text r.seen (l ∷ [])));
      count = omega arith;
      told_is = ap (λ (x : Parts). with_line x l) r.told_is ∙ sym (with_more r.seen nothing_told l);
      fits = omega arith;
    }

-- the number of a line fits, where one is left
pub number_fits : (text line more : List ℕ) (number : ℕ) (place : Place) (told : Parts) → Reached text (line_of line ++ more) number place told → number ≤ length text
number_fits text line more number place told r =
    let fits = r.fits in
    let long = line_length line more in
    omega arith

pub not_failed : (text rest : List ℕ) (number : ℕ) (place : Place) (told : Parts) → Reached text rest number place told → has_no_newline rest ≡ true → ((place ≡ places.Failed) → rest ≡ [] → ⊥) → IsFailureText text → ⊥
not_failed text rest number place told r plain none f =
    let e = ends_there r.seen rest f.head f.failure f.is_head f.is_told r.stands plain (sym f.whole ∙ r.whole) in
    none (r.place_is ∙ e.0) e.1

pub bad_there : (text rest : List ℕ) (number : ℕ) (place : Place) (told : Parts) → Reached text rest number place told → has_no_newline rest ≡ true → IsBadLine text number
bad_there text rest number place told r plain = subst (λ (n : ℕ). IsBadLine text n) (sym r.count) (bad_end text r.seen rest r.stands r.whole plain)

pub bad_here : (text line more : List ℕ) (number : ℕ) (place : Place) (told : Parts) → Reached text (line_of line ++ more) number place told → has_no_newline line ≡ true
    → ((l : Line) → IsLine l → MayStand place l → line_text l ≡ line_of line → ⊥) → IsBadLine text number
bad_here text line more number place told r plain none =
    subst (λ (n : ℕ). IsBadLine text n) (sym r.count)
    (bad_line text r.seen line more r.stands r.whole plain (λ l is may e. none l is (subst (λ (p : Place). MayStand p l) (sym r.place_is) may) e))

-- a failure text has no bad line in front of its end
pub no_failure : (text line more : List ℕ) (number : ℕ) (place : Place) (told : Parts) → Reached text (line_of line ++ more) number place told → has_no_newline line ≡ true
    → ((l : Line) → IsLine l → MayStand place l → line_text l ≡ line_of line → ⊥) → IsFailureText text → ⊥
no_failure text line more number place told r plain none f =
    no_failure_begins r.seen line r.stands plain (λ l is may e. none l is (subst (λ (p : Place). MayStand p l) (sym r.place_is) may) e)
    (record { head = f.head; failure = f.failure; is_head = f.is_head; is_told = f.is_told; more = more; whole = sym f.whole ∙ r.whole ∙ sym (append_assoc (flat_map line_text r.seen) (line_of line) more) })

reading : (text : List ℕ) (t : TraceText) (seen : List Line) → text ≡ flat_map line_text seen → parts_of t ≡ with_lines nothing_told seen → IsWhole nothing_told seen → IsReading text t
reading text t seen whole told w =
    let same : parts_of t ≡ w.y = told ∙ w.parts in
    record {
      head = head_in w.origin w.y;
      failure = failure_in w.y;
      is_head = w.head;
      is_told = w.told;
      whole = whole ∙ ap (λ (ls : List Line). flat_map line_text ls) w.are ∙ lines_text (head_in w.origin w.y) (failure_in w.y);
      name = ap (λ (x : Parts). x.name) same;
      unwind = ap (λ (x : Parts). x.unwind) same;
      assertions = ap (λ (x : Parts). x.assertions) same;
      class = ap (λ (x : Parts). x.class) same;
      line = ap (λ (x : Parts). x.line) same;
      function = ap (λ (x : Parts). x.function) same;
      thread = ap (λ (x : Parts). x.thread) same;
      inputs = ap (λ (x : Parts). x.inputs) same;
      schedule = ap (λ (x : Parts). x.rows) same;
    }

pub reached_end : (text : List ℕ) (number : ℕ) (t : TraceText) → Reached text [] number places.Failed (parts_of t) → IsReading text t
reached_end text number t r =
    reading text t r.seen (r.whole ∙ append-nil (flat_map line_text r.seen)) r.told_is (from_start r.seen nothing_told refl refl r.stands (sym r.place_is))
