-- A text that is appended piece by piece.
use Rattle.std.proofs.Common.{◌≡◌, ℕ, List, [], ◌∷◌, ◌++◌, map, refl, ap, ◌∙◌}
use Rattle.std.specs.List.{flat_map}
use mathlib.Core.List.{append_assoc}

pub three_pieces : (a b c d s t u : List ℕ) → s ≡ a ++ b → t ≡ s ++ c → u ≡ t ++ d → u ≡ a ++ (b ++ (c ++ d))
three_pieces a b c d s t u p q r = r ∙ ap (λ z. z ++ d) (q ∙ ap (λ z. z ++ c) p) ∙ append_assoc (a ++ b) c d ∙ append_assoc a b (c ++ d)

pub four_pieces : (a b c d s t u v : List ℕ) → s ≡ a → t ≡ s ++ b → u ≡ t ++ c → v ≡ u ++ d → v ≡ a ++ (b ++ (c ++ d))
four_pieces a b c d s t u v p q r x = three_pieces a b c d t u v (q ∙ ap (λ z. z ++ b) p) r x

-- the first lines of a verdict: the line of a generated file, and what stands in front of the name, the name, and what stands behind it
pub head_pieces : (g f name u d a : List ℕ) → g ++ (f ++ (name ++ ((u ++ (d ++ 10 ∷ [])) ++ a))) ≡ g ++ ((f ++ (name ++ (u ++ (d ++ 10 ∷ [])))) ++ a)
head_pieces g f name u d a = simp append_assoc

-- the line of a check, in front of its function's name, the name, and behind it
pub check_pieces : (v class l line f name t thread : List ℕ) → (v ++ (class ++ (l ++ (line ++ f)))) ++ (name ++ (t ++ (thread ++ 10 ∷ []))) ≡ v ++ (class ++ (l ++ (line ++ (f ++ (name ++ (t ++ (thread ++ 10 ∷ [])))))))
check_pieces v class l line f name t thread = simp append_assoc

-- the lines of a run, in front of the last line
pub run_pieces : (h v i s e : List ℕ) → h ++ (v ++ ((i ++ s) ++ e)) ≡ h ++ (v ++ (i ++ (s ++ e)))
run_pieces h v i s e = simp append_assoc

pub flat_map_over : {X Y : Type 0} (f : Y → List ℕ) (g : X → Y) (xs : List X) → flat_map f (map g xs) ≡ flat_map (λ x. f (g x)) xs
flat_map_over f g [] = refl
flat_map_over f g (x ∷ xs) = ap (λ (z : List ℕ). f (g x) ++ z) (flat_map_over f g xs)
