-- A function at its start: its arguments are in its first blocks.
use Rattle.std.proofs.Common.{◌≡◌, ℕ, zero, suc, ◌+◌, ◌<◌, ◌≤◌, Bool, true, ◌&&◌, List, [], ◌∷◌, length, map, take, drop, get_or, refl, sym, ap, ◌∙◌, arith}
use Rattle.std.specs.Prelude.{slice_index_or, min, nat_lt, nat_le}
use Rattle.std.proofs.lemmas.List.{length-replicate, length-map, length-take, length-drop, get_or-take, get_or-drop}
use Rattle.std.proofs.lemmas.Bool.Decides.{nat_tests}
use Rattle.c_types.specs.declared.integers.IntegerType.{IntegerType}
use Rattle.c_values.specs.Variables.{Variables, block_of, put_at, zeros, first_variables}
use Rattle.goto_prog.specs.Meaning.{filled, arguments_of}
use Rattle.goto_prog.specs.Nodes.{Nodes, nodes_fit}
use Rattle.goto_prog.specs.Structured.{with_arguments}
use Rattle.goto_prog.proofs.Blocks.{test_within}

pub none_given : (sizes : List ℕ) → with_arguments sizes [] ≡ first_variables sizes
none_given [] = refl
none_given (size ∷ sizes) = refl

one : (k : ℕ) → suc k ≡ k + 1
one k = omega arith

first_filled : (size : ℕ) (a : List ℕ) (rest : Variables) → filled (zeros size ∷ rest) 0 a ≡ put_at 0 (take size a) (zeros size) ∷ rest
first_filled size a rest = ap (λ n. put_at 0 (take n a) (zeros size) ∷ rest) (length-replicate size 0)

more : (sizes : List ℕ) (arguments : List (List ℕ)) (k : ℕ) → k < length sizes → k < length arguments
    → filled (with_arguments sizes (take k arguments)) k (slice_index_or arguments k []) ≡ with_arguments sizes (take (suc k) arguments)
more [] arguments k there given = absurd (omega (arith, there))
more (size ∷ sizes) [] k there given = absurd (omega (arith, given))
more (size ∷ sizes) (a ∷ arguments) zero there given = first_filled size a (first_variables sizes) ∙ ap (λ (bs : Variables). put_at 0 (take size a) (zeros size) ∷ bs) (sym (none_given sizes))
more (size ∷ sizes) (a ∷ arguments) (suc k) there given =
    ap (λ (bs : Variables). put_at 0 (take size a) (zeros size) ∷ bs) (more sizes arguments k (omega (arith, there)) (omega (arith, given)))

-- one argument more
pub argument_more : (sizes : List ℕ) (arguments : List (List ℕ)) (k : ℕ) → k < length sizes → k < length arguments
    → filled (with_arguments sizes (take k arguments)) k (slice_index_or arguments k []) ≡ with_arguments sizes (take (k + 1) arguments)
argument_more sizes arguments k there given = more sizes arguments k there given ∙ ap (λ n. with_arguments sizes (take n arguments)) (one k)

-- those beyond the blocks make no difference
pub arguments_done : (sizes : List ℕ) (arguments : List (List ℕ)) (k : ℕ) → min (length sizes) (length arguments) ≤ k → with_arguments sizes (take k arguments) ≡ with_arguments sizes arguments
arguments_done [] arguments k past = refl
arguments_done (size ∷ sizes) [] zero past = refl
arguments_done (size ∷ sizes) [] (suc k) past = refl
arguments_done (size ∷ sizes) (a ∷ arguments) zero past = absurd (omega (arith, past))
arguments_done (size ∷ sizes) (a ∷ arguments) (suc k) past = ap (λ (bs : Variables). put_at 0 (take size a) (zeros size) ∷ bs) (arguments_done sizes arguments k (omega (arith, past)))

-- ---- the blocks with arguments

module _ (sizes : List ℕ) (blocks : Variables) (first count k : ℕ) (same : map length blocks ≡ sizes) (there : nat_le (first + count) (length sizes) ≡ true) (within : k < count) where
  pub argument_room : first + k < length sizes
  argument_room = omega (arith, test_within (first + count) (length sizes) there, within)

  pub argument_among : nat_lt (first + k) (length sizes) ≡ true
  argument_among = let room = argument_room in grind (arith, nat_tests)

  pub argument_at : block_of blocks (first + k) ≡ slice_index_or (arguments_of blocks first count) k []
  argument_at = sym (get_or-take count (drop first blocks) k [] within ∙ get_or-drop first blocks k [])

  pub argument_given : k < length (arguments_of blocks first count)
  argument_given =
      let all : length blocks ≡ length sizes = sym (length-map blocks length) ∙ ap length same in
      omega (arith, test_within (first + count) (length sizes) there, within, all, length-take count (drop first blocks), length-drop first blocks)

pub few_arguments : (blocks : Variables) (first count : ℕ) → length (arguments_of blocks first count) ≤ count
few_arguments blocks first count = omega (arith, length-take count (drop first blocks))

pub entry_fits : (types : List IntegerType) (sizes : List ℕ) (nodes : Nodes) → nodes_fit types sizes 0 nodes ≡ true → (nodes_fit types sizes 0 nodes && true) ≡ true
entry_fits types sizes nodes fits = λ k. fits k && true
