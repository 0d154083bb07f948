-- Which objects die on a way, from the latest on.
use Rattle.std.proofs.Common.{◌≡◌, ℕ, zero, suc, ◌+◌, ◌-◌, List, [], ◌∷◌, ◌++◌, take, Option, Some, None, refl, sym, ap, ◌∙◌, arith, append-nil}
use Rattle.std.specs.Prelude.{Bool, reverse, slice_get, is_some, if◌then◌else◌}
use Rattle.std.proofs.lemmas.Bool.{eq-eqb, ne_eqb}
use Rattle.std.proofs.lemmas.Option.{slice_get_within, get_or_from_slice_get}
use Rattle.goto_prog.specs.declared.code.Instruction.{Instruction}
use Rattle.code_draft.specs.declared.places.Mark.{Mark}
use Rattle.code_draft.specs.declared.places.Mark.TheVariants as marks
use Rattle.lowered_code.specs.Lowering.{Frame, death_code}
use Rattle.code_draft.specs.Drafts.{Listed, added, deaths_of, deaths_to}
use Rattle.code_draft.proofs.Making.{one_mark}
use Rattle.code_draft.proofs.Drafting.{adds_more}

-- the first ones, latest first
abbrev pub known_first : List Mark → ℕ → List Mark
known_first ms k = reverse (take k (reverse ms))

-- with one more
some_first : (ms : List Mark) (i k : ℕ) (m : Mark) → i + 1 ≡ k → slice_get (reverse ms) i ≡ Some m → known_first ms k ≡ m ∷ known_first ms i
some_first ms i k m at h =
    sym (ap (known_first ms) at) ∙ one_mark (reverse ms) i m (slice_get_within (reverse ms) i m h) (sym (get_or_from_slice_get (reverse ms) i m m h))

none_taken : (ms : List Mark) (k : ℕ) → slice_get ms k ≡ None → take (suc k) ms ≡ take k ms
none_taken [] zero h = refl
none_taken [] (suc k) h = refl
none_taken (m ∷ ms) zero h = absurd (omega (arith, ap {B = ℕ} (λ (o : Option Mark). if is_some o then 1 else 0) h))
none_taken (m ∷ ms) (suc k) h = ap (λ (ns : List Mark). m ∷ ns) (none_taken ms k h)

none_first : (ms : List Mark) (i k : ℕ) → i + 1 ≡ k → slice_get (reverse ms) i ≡ None → known_first ms k ≡ known_first ms i
none_first ms i k at h = let behind : suc i ≡ k = omega (arith, at) in sym (ap (known_first ms) behind) ∙ ap reverse (none_taken (reverse ms) i h)

label_stays : (f : Frame) (ms : List Mark) (l place left r : ℕ) → deaths_of f (marks.Label l place ∷ ms) left r ≡ deaths_of f ms left r
label_stays f ms l place zero r = refl
label_stays f ms l place (suc left) r = refl

one_dies : (f : Frame) (ms : List Mark) (line h left r : ℕ) → (left ≡ 0 → ⊥) → deaths_of f (marks.Alive line h ∷ ms) left r ≡ death_code f line (Some h) r ++ deaths_of f ms (left - 1) r
one_dies f ms line h zero r some = absurd (some refl)
one_dies f ms line h (suc left) r some = let less : left ≡ suc left - 1 = omega arith in ap (λ (n : ℕ). death_code f line (Some h) r ++ deaths_of f ms n r) less

module _ (d whole : Listed) (i k left r : ℕ) (at : i + 1 ≡ k) (so_far : added d (deaths_of d.frame (known_first d.marks k) left r) [] ≡ whole) where
  pub leaves_label : (l place : ℕ) → slice_get (reverse d.marks) i ≡ Some (marks.Label l place) → added d (deaths_of d.frame (known_first d.marks i) left r) [] ≡ whole
  leaves_label l place is =
      sym (λ j. added d (label_stays d.frame (known_first d.marks i) l place left r j) [])
      ∙ sym (λ j. added d (deaths_of d.frame (some_first d.marks i k (marks.Label l place) at is j) left r) [])
      ∙ so_far

  pub leaves_nothing : slice_get (reverse d.marks) i ≡ None → added d (deaths_of d.frame (known_first d.marks i) left r) [] ≡ whole
  leaves_nothing is = sym (λ j. added d (deaths_of d.frame (none_first d.marks i k at is j) left r) []) ∙ so_far

  pub leaves_object : (new : Listed) (line h : ℕ) → slice_get (reverse d.marks) i ≡ Some (marks.Alive line h) → (left ≡ 0 → ⊥) → new ≡ added d (death_code d.frame line (Some h) r) []
      → added new (deaths_of new.frame (known_first new.marks i) (left - 1) r) [] ≡ whole
  leaves_object new line h is some same =
      let rest = deaths_of d.frame (known_first d.marks i) (left - 1) r in
      adds_more d new (added new (deaths_of new.frame (known_first new.marks i) (left - 1) r) []) (death_code d.frame line (Some h) r) rest [] [] same
      (λ j. added new (deaths_of (same j).frame (known_first (same j).marks i) (left - 1) r) [])
      ∙ sym (λ j. added d (one_dies d.frame (known_first d.marks i) line h left r some j) [])
      ∙ sym (λ j. added d (deaths_of d.frame (some_first d.marks i k (marks.Alive line h) at is j) left r) [])
      ∙ so_far

module _ (d whole : Listed) (i k m r : ℕ) (at : i + 1 ≡ k) (so_far : added d (deaths_to d.frame (known_first d.marks k) m r) [] ≡ whole) where
  abbrev to_label : ℕ → List Instruction → Bool → List Instruction
  to_label l xs b = if b then [] else xs

  pub reaches_label : (l place : ℕ) → slice_get (reverse d.marks) i ≡ Some (marks.Label l place) → l ≡ m → d ≡ whole
  reaches_label l place is same =
      sym (λ j. record d { instructions = append-nil d.instructions j; registers = append-nil d.registers j })
      ∙ sym (λ j. added d (to_label l (deaths_to d.frame (known_first d.marks i) m r) (eq-eqb l m same j)) [])
      ∙ sym (λ j. added d (deaths_to d.frame (some_first d.marks i k (marks.Label l place) at is j) m r) [])
      ∙ so_far

  pub passes_label : (l place : ℕ) → slice_get (reverse d.marks) i ≡ Some (marks.Label l place) → (l ≡ m → ⊥) → added d (deaths_to d.frame (known_first d.marks i) m r) [] ≡ whole
  passes_label l place is other =
      sym (λ j. added d (to_label l (deaths_to d.frame (known_first d.marks i) m r) (ne_eqb l m other j)) [])
      ∙ sym (λ j. added d (deaths_to d.frame (some_first d.marks i k (marks.Label l place) at is j) m r) [])
      ∙ so_far

  pub passes_nothing : slice_get (reverse d.marks) i ≡ None → added d (deaths_to d.frame (known_first d.marks i) m r) [] ≡ whole
  passes_nothing is = sym (λ j. added d (deaths_to d.frame (none_first d.marks i k at is j) m r) []) ∙ so_far

  pub passes_object : (new : Listed) (line h : ℕ) → slice_get (reverse d.marks) i ≡ Some (marks.Alive line h) → new ≡ added d (death_code d.frame line (Some h) r) []
      → added new (deaths_to new.frame (known_first new.marks i) m r) [] ≡ whole
  passes_object new line h is same =
      let rest = deaths_to d.frame (known_first d.marks i) m r in
      adds_more d new (added new (deaths_to new.frame (known_first new.marks i) m r) []) (death_code d.frame line (Some h) r) rest [] [] same
      (λ j. added new (deaths_to (same j).frame (known_first (same j).marks i) m r) [])
      ∙ sym (λ j. added d (deaths_to d.frame (some_first d.marks i k (marks.Alive line h) at is j) m r) [])
      ∙ so_far
