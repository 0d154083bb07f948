-- Lines behind lines.
use Rattle.std.proofs.Common.{◌≡◌, ◌∙◌, ℕ, ◌+◌, refl, sym, ap, subst, add-one, append_assoc, List, ◌++◌}
use Rattle.generator.specs.Program.{each}

pub each_more : (line : ℕ → List ℕ) (n : ℕ) → each line (n + 1) ≡ each line n ++ line (n + 1)
each_more line n = subst (λ (m : ℕ). each line m ≡ each line n ++ line m) (sym (add-one n)) refl

-- one line behind others, in a text that began with these bytes
pub one_more : (line : ℕ → List ℕ) (n : ℕ) (first before after : List ℕ) → before ≡ first ++ each line n → after ≡ before ++ line (n + 1) → after ≡ first ++ each line (n + 1)
one_more line n first before after e f =
    f ∙ ap (λ (x : List ℕ). x ++ line (n + 1)) e ∙ append_assoc first (each line n) (line (n + 1)) ∙ ap (λ (x : List ℕ). first ++ x) (sym (each_more line n))

pub four_pieces : (a b c d x y z : List ℕ) (w : List ℕ) → x ≡ a → y ≡ x ++ b → z ≡ y ++ c → w ≡ z ++ d → w ≡ a ++ (b ++ (c ++ d))
four_pieces a b c d x y z w e f g h =
    h ∙ ap (λ (t : List ℕ). t ++ d) (g ∙ ap (λ (t : List ℕ). t ++ c) (f ∙ ap (λ (t : List ℕ). t ++ b) e))
    ∙ append_assoc (a ++ b) c d ∙ append_assoc a b (c ++ d)
