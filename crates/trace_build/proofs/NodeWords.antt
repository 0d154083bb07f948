-- The bits of words of a list, and what they are of.
use Rattle.std.proofs.Common.{◌≡◌, ◌<◌, ◌≤◌, ◌^◌, ◌*◌, ◌%◌, ℕ, true, List, length, get_or, map, sym, ap, ◌∙◌, arith}
use Rattle.std.proofs.Math.Nat.{mod-eq_of_lt, pow-le-pow_right}
use Rattle.std.proofs.lemmas.List.{get_or-map, get_or_past, length-map}
use Rattle.words.specs.BitVector.{BitVector}
use Rattle.words.specs.Operators.{low_bits}
use Rattle.word_dag.specs.declared.nodes.Id.{Id}
use Rattle.word_dag.specs.declared.nodes.Node.{Node}
use Rattle.word_dag.specs.Meaning.{value}
use Rattle.word_dag.specs.Fitting.{is_ordered}
use Rattle.value_nodes.specs.Values.{IsWord}
use Rattle.value_nodes.proofs.Made.{word_below}

pub bits_there : (ws : List BitVector) (i : ℕ) (w : BitVector) → i < length ws → (get_or ws i w).bits ≡ get_or (map (λ (x : BitVector). x.bits) ws) i 0
bits_there ws i w l = sym (get_or-map (λ (x : BitVector). x.bits) ws i w 0 l)

pub bits_past : (ws : List BitVector) (i : ℕ) → length ws ≤ i → 0 ≡ get_or (map (λ (x : BitVector). x.bits) ws) i 0
bits_past ws i l = sym (get_or_past (map (λ (x : BitVector). x.bits) ws) i 0 (simp length-map l))

-- the value of a node of 8 bits
pub is_byte : (v : ℕ → ℕ) (d : List Node) (i : Id) → is_ordered d ≡ true → IsWord d i 8 → value v d i % 256 ≡ value v d i
is_byte v d i ordered word = let below = word_below v d i 8 ordered word in mod-eq_of_lt below

-- bits of which none is cut
pub all_low : (bits count : ℕ) → bits < 2 ^ 64 → 64 ≤ count → bits ≡ low_bits count bits
unfolding low_bits
all_low bits count small many = sym (mod-eq_of_lt (below (2 ^ 64) (2 ^ count) small (pow-le-pow_right {n = 2} (omega arith) many)))
  where
    below : (m n : ℕ) → bits < m → m ≤ n → bits < n
    below m n a b = omega (arith, a, b)

-- bits of which some are
pub some_low : (bits count : ℕ) → count < 64 → bits % (1 * 2 ^ count % 2 ^ 64) ≡ low_bits count bits
unfolding low_bits
some_low bits count few = ap (λ n. bits % (n % 2 ^ 64)) one ∙ ap (λ n. bits % n) (mod-eq_of_lt small)
  where
    one : 1 * 2 ^ count ≡ 2 ^ count
    one = omega arith

    less : (m : ℕ) → m ≤ 2 ^ 63 → m < 2 ^ 64
    less m le = omega (arith, le)

    few_more : count ≤ 63
    few_more = omega (arith, few)

    small : 2 ^ count < 2 ^ 64
    small = less (2 ^ count) (pow-le-pow_right {n = 2} (omega arith) few_more)
