-- A failure text has one reading.
use Rattle.std.proofs.Common.{◌≡◌, ℕ, Bool, true, false, List, [], ◌∷◌, ◌++◌, Option, Some, None, sym, refl, ap, ◌∙◌}
use Rattle.std.proofs.lemmas.List.{append-nil}
use Rattle.std.specs.List.{flat_map}
use Rattle.words.specs.declared.check.Class.{Class}
use Rattle.report.specs.Report.{Head, Failure, failure_text, IsHead, IsTold}
use Rattle.report.specs.Lines.{Line, generated, file, off, violated, inputs, schedule, failed, line_text}
use Rattle.report.specs.declared.lines.Place.TheVariants as places
use Rattle.report.proofs.Chains.{generated_of, off_of, tail_of, lines_of, lines_text, lines_stand}
use Rattle.report.proofs.Beginnings.{seen_again, Behind, no_start}

-- ---- lines that are the same tell the same

pair_is : (a b : ℕ × List ℕ) → a.0 ≡ b.0 → a.1 ≡ b.1 → a ≡ b
pair_is a b p q = λ i. (p i, q i)

numbers_are : (a b : ℕ × ℕ) → a.0 ≡ b.0 → a.1 ≡ b.1 → a ≡ b
numbers_are a b p q = λ i. (p i, q i)

some_are : (a b : ℕ × ℕ) → a ≡ b → Some a ≡ Some b
some_are a b p = ap Some p

entries_cons : (a b : ℕ × List ℕ) (xs ys : List (ℕ × List ℕ)) → a ≡ b → xs ≡ ys → a ∷ xs ≡ b ∷ ys
entries_cons a b xs ys p q = cc

generated_is : (a b c d : ℕ) (ls ms : List Line) → generated a b ∷ ls ≡ generated c d ∷ ms → (a ≡ c) × (b ≡ d) × (ls ≡ ms)
generated_is a b c d ls ms e = (cc, cc, cc)

file_is : (a b : List ℕ) (k j : ℕ) (ls ms : List Line) → file a k ∷ ls ≡ file b j ∷ ms → (a ≡ b) × (k ≡ j) × (ls ≡ ms)
file_is a b k j ls ms e = (cc, cc, cc)

inputs_are : (t u : ℕ) (ws vs : List ℕ) (ls ms : List Line) → inputs t ws ∷ ls ≡ inputs u vs ∷ ms → (t ≡ u) × (ws ≡ vs) × (ls ≡ ms)
inputs_are t u ws vs ls ms e = (cc, cc, cc)

schedule_is : (rows more : List (ℕ × ℕ)) (ls ms : List Line) → schedule rows ∷ ls ≡ schedule more ∷ ms → rows ≡ more
schedule_is rows more ls ms e = cc

tail_is : (l m : Line) (ls ms : List Line) → l ∷ ls ≡ m ∷ ms → ls ≡ ms
tail_is l m ls ms e = cc

no_generated : (a b j : ℕ) (name : List ℕ) (ls ms : List Line) → generated a b ∷ ls ≡ file name j ∷ ms → ⊥
no_generated a b j name ls ms e = cc

no_off : (c : Class) (l : ℕ) (f : List ℕ) (t : ℕ) (ls ms : List Line) → off ∷ ls ≡ violated c l f t ∷ ms → ⊥
no_off c l f t ls ms e = cc

no_inputs : (t : ℕ) (ws : List ℕ) (rows : List (ℕ × ℕ)) (ls ms : List Line) → inputs t ws ∷ ls ≡ schedule rows ∷ ms → ⊥
no_inputs t ws rows ls ms e = cc

origins_one : (g h : Option (ℕ × ℕ)) (a b : List ℕ) (k j : ℕ) (ls ms : List Line) → generated_of g ++ (file a k ∷ ls) ≡ generated_of h ++ (file b j ∷ ms) → (g ≡ h) × (file a k ∷ ls ≡ file b j ∷ ms)
origins_one None None a b k j ls ms e = (refl, e)
origins_one None (Some h) a b k j ls ms e = absurd (no_generated h.0 h.1 k a (file b j ∷ ms) ls (sym e))
origins_one (Some g) None a b k j ls ms e = absurd (no_generated g.0 g.1 j b (file a k ∷ ls) ms e)
origins_one (Some g) (Some h) a b k j ls ms e =
    let r = generated_is g.0 g.1 h.0 h.1 (file a k ∷ ls) (file b j ∷ ms) e in
    (some_are g h (numbers_are g h r.0 r.1), r.2)

offs_one : (a b : Bool) (c d : Class) (l m : ℕ) (f g : List ℕ) (t u : ℕ) (ls ms : List Line) → off_of a ++ (violated c l f t ∷ ls) ≡ off_of b ++ (violated d m g u ∷ ms)
    → (a ≡ b) × (violated c l f t ∷ ls ≡ violated d m g u ∷ ms)
offs_one true true c d l m f g t u ls ms e = (refl, e)
offs_one true false c d l m f g t u ls ms e = absurd (no_off c l f t (violated d m g u ∷ ms) ls (sym e))
offs_one false true c d l m f g t u ls ms e = absurd (no_off d m g u (violated c l f t ∷ ls) ms e)
offs_one false false c d l m f g t u ls ms e = (refl, tail_is off off _ _ e)

-- what the line of a check tells is the same
record SameCheck (c d : Class) (l m : ℕ) (f g : List ℕ) (t u : ℕ) (ls ms : List Line) : Type 0 where
  class : c ≡ d
  line : l ≡ m
  function : f ≡ g
  thread : t ≡ u
  rest : ls ≡ ms

checks_one : (c d : Class) (l m : ℕ) (f g : List ℕ) (t u : ℕ) (ls ms : List Line) → violated c l f t ∷ ls ≡ violated d m g u ∷ ms → SameCheck c d l m f g t u ls ms
checks_one c d l m f g t u ls ms e = record { class = cc; line = cc; function = cc; thread = cc; rest = cc }

tails_one : (es fs : List (ℕ × List ℕ)) (rows more : List (ℕ × ℕ)) → tail_of es rows ≡ tail_of fs more → (es ≡ fs) × (rows ≡ more)
tails_one [] [] rows more e = (refl, schedule_is rows more (failed ∷ []) (failed ∷ []) e)
tails_one [] (f ∷ fs) rows more e = absurd (no_inputs f.0 f.1 rows (tail_of fs more) (failed ∷ []) (sym e))
tails_one (d ∷ es) [] rows more e = absurd (no_inputs d.0 d.1 more (tail_of es rows) (failed ∷ []) e)
tails_one (d ∷ es) (f ∷ fs) rows more e =
    let r = inputs_are d.0 f.0 d.1 f.1 (tail_of es rows) (tail_of fs more) e in
    let s = tails_one es fs rows more r.2 in
    (entries_cons d f es fs (pair_is d f r.0 r.1) s.0, s.1)

head_is : (h k : Head) → h.generated ≡ k.generated → h.name ≡ k.name → h.unwind ≡ k.unwind → h.assertions ≡ k.assertions → h ≡ k
head_is h k o p q r = λ i. record { generated = o i; name = p i; unwind = q i; assertions = r i }

failure_is : (f g : Failure) → f.class ≡ g.class → f.line ≡ g.line → f.function ≡ g.function → f.thread ≡ g.thread → f.inputs ≡ g.inputs → f.rows ≡ g.rows → f ≡ g
failure_is f g p q r s t u = λ i. record { class = p i; line = q i; function = r i; thread = s i; inputs = t i; rows = u i }

same_lines : (h k : Head) (f g : Failure) → lines_of h f ≡ lines_of k g → (h ≡ k) × (f ≡ g)
same_lines h k f g e =
    let o = origins_one h.generated k.generated h.name k.name h.unwind k.unwind _ _ e in
    let n = file_is h.name k.name h.unwind k.unwind _ _ o.1 in
    let a = offs_one h.assertions k.assertions f.class g.class f.line g.line f.function g.function f.thread g.thread (tail_of f.inputs f.rows) (tail_of g.inputs g.rows) n.2 in
    let c = checks_one f.class g.class f.line g.line f.function g.function f.thread g.thread (tail_of f.inputs f.rows) (tail_of g.inputs g.rows) a.1 in
    let t = tails_one f.inputs g.inputs f.rows g.rows c.rest in
    (head_is h k o.0 n.0 n.1 a.0, failure_is f g c.class c.line c.function c.thread t.0 t.1)

-- ---- texts that are the same have the same lines

pub one_reading : (h k : Head) (f g : Failure) → IsHead h → IsHead k → IsTold f → IsTold g → failure_text h f ≡ failure_text k g → (h ≡ k) × (f ≡ g)
one_reading h k f g ih ik tf tg e =
    at_end (seen_again (lines_of h f) (lines_of k g) places.Start [] (lines_stand h f ih tf) (lines_stand k g ik tg)
    (lines_text k g ∙ sym e ∙ sym (lines_text h f) ∙ sym (append-nil (flat_map line_text (lines_of h f)))))
  where
    none : (more : List Line) → flat_map line_text more ≡ [] → more ≡ []
    none [] x = refl
    none (m ∷ more) x = absurd (no_start m (flat_map line_text more) (sym x))

    at_end : Behind places.Start (lines_of h f) (lines_of k g) [] → (h ≡ k) × (f ≡ g)
    at_end r = same_lines h k f g (sym (r.whole ∙ ap (λ (ls : List Line). lines_of h f ++ ls) (none r.more r.text) ∙ append-nil (lines_of h f)))
