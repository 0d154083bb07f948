-- The values of a graph's nodes are the same where its variables are.
use Rattle.std.proofs.Common.{◌≡◌, ◌++◌, ℕ, List, [], ◌∷◌, refl, ap, ◌∙◌, arith}
use Rattle.words.specs.Operators.{low_bits}
use Rattle.word_dag.specs.declared.nodes.Node.{Node}
use Rattle.word_dag.specs.declared.nodes.Node.TheVariants.{Constant, Variable, Not, Negate, Binary, Shift, Compare, Fits, Choice, ZeroExtend, SignExtend, Cut, Join, Quantify}
use Rattle.word_dag.specs.Meaning.{node_width, node_value, values_from, values}
use Rattle.thread_forms.specs.Forms.{Valuation, SameBelow}
use Rattle.form_threads.specs.Events.{above, variables_below}

module _ (v w : Valuation) where
  node_same : (n : Node) (ws vs : List ℕ) → SameBelow (above n) v w → node_value v ws vs n ≡ node_value w ws vs n
  node_same (Constant bits k) ws vs h = refl
  node_same (Variable x k) ws vs h = ap (low_bits k) (h x (omega arith))
  node_same (Not a) ws vs h = refl
  node_same (Negate a) ws vs h = refl
  node_same (Binary o a b) ws vs h = refl
  node_same (Shift s a count) ws vs h = refl
  node_same (Compare c a b) ws vs h = refl
  node_same (Fits t a b) ws vs h = refl
  node_same (Choice c a b) ws vs h = refl
  node_same (ZeroExtend a k) ws vs h = refl
  node_same (SignExtend a k) ws vs h = refl
  node_same (Cut a low k) ws vs h = refl
  node_same (Join high low) ws vs h = refl
  node_same (Quantify q first count) ws vs h = refl

  values_from_same : (ws vs : List ℕ) (ns : List Node) → SameBelow (variables_below ns) v w → values_from v ws vs ns ≡ values_from w ws vs ns
  values_from_same ws vs [] h = refl
  values_from_same ws vs (n ∷ ns) h =
      ap (λ (x : ℕ). values_from v (ws ++ node_width ws n ∷ []) (vs ++ x ∷ []) ns) (node_same n ws vs (λ x l. h x (omega (arith, l))))
      ∙ values_from_same (ws ++ node_width ws n ∷ []) (vs ++ node_value w ws vs n ∷ []) ns (λ x l. h x (omega (arith, l)))

  pub values_same : (ns : List Node) → SameBelow (variables_below ns) v w → values v ns ≡ values w ns
  values_same ns h = values_from_same [] [] ns h
