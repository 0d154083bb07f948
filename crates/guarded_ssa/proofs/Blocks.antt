-- Blocks whose bytes stand one block behind the other.
use Rattle.std.proofs.Common.{◌≡◌, ℕ, zero, suc, ◌+◌, ◌-◌, ◌<◌, ◌≤◌, true, List, [], ◌∷◌, ◌++◌, length, map, take, drop, get_or, Option, Some, None, refl, sym, ap, ◌∙◌, arith}
use Rattle.std.specs.Prelude.{◌==◌, nat_lt, nat_le, slice_get, slice_index, slice_set, replicate}
use Rattle.std.proofs.lemmas.Bool.Decides.{nat_tests}
use Rattle.std.proofs.Math.Seq.{take-append-add, drop-append-add}
use Rattle.std.proofs.lemmas.List.{take-append-le, drop-append-le, take-take, take-append-drop, drop-take, drop-drop, length-take-le, length-drop, length-map, length-replicate, length-append, take-replicate, drop-replicate, drop_all, append-nil, get_or_default}
use Rattle.c_types.specs.declared.integers.IntegerType.{IntegerType}
use Rattle.c_types.specs.declared.integers.IntegerType.TheVariants as types
use Rattle.core_tree.specs.Typed.{is_within}
use Rattle.c_values.specs.Variables.{Variables, zeros, put_at, block_of, put_bytes, cleared, first_variables}
use Rattle.word_dag.specs.declared.nodes.Id.{Id}
use Rattle.goto_prog.specs.Fitting.{is_block}
use Rattle.goto_prog.specs.Meaning.{bytes_of}
use Rattle.goto_prog.proofs.Registers.{both, test_below}
use Rattle.guarded_ssa.specs.inner.Registers.{word_or_0, words_from, bytes_from, id_or, ids_from}
use Rattle.guarded_ssa.specs.inner.Held.{total, stored, starts_from}
use Rattle.guarded_ssa.proofs.CellWords.{words_same}

-- ---- bytes put in the place of others

module _ (at n : ℕ) (new old : List ℕ) (within : at + length new ≤ length old) where
  front : length (take at old) ≡ at
  front = length-take-le at old (omega (arith, within))

  abbrev behind : List ℕ
  behind = drop (at + length new) old

  -- the bytes up to some that stand behind the new ones
  pub take_put : at + length new ≤ n → n ≤ length old → take n (put_at at new old) ≡ put_at at new (take n old)
  take_put after le =
      let k = n - (at + length new) in
      let all : n ≡ length (take at old) + (length new + k) = omega (arith, after, front) in
      let rest : n ≡ at + length new + k = omega (arith, after) in
      let a = ap (λ i. take i (put_at at new old)) all ∙ take-append-add (take at old) (new ++ behind) (length new + k) ∙ ap (λ ys. take at old ++ ys) (take-append-add new behind k) in
      let b = take-take at n old (omega (arith, after)) in
      let c = ap (λ i. drop (at + length new) (take i old)) rest ∙ drop-take (at + length new) k old in
      a ∙ sym (λ i. b i ++ (new ++ c i))

  -- those behind
  pub drop_put : at + length new ≤ n → drop n (put_at at new old) ≡ drop n old
  drop_put after =
      let k = n - (at + length new) in
      let all : n ≡ length (take at old) + (length new + k) = omega (arith, after, front) in
      let rest : at + length new + k ≡ n = omega (arith, after) in
      ap (λ i. drop i (put_at at new old)) all ∙ drop-append-add (take at old) (new ++ behind) (length new + k) ∙ drop-append-add new behind k ∙ drop-drop k (at + length new) old ∙ ap (λ i. drop i old) rest

  -- those in front
  pub take_front : n ≤ at → take n (put_at at new old) ≡ take n old
  take_front before = take-append-le n (take at old) (new ++ behind) (omega (arith, before, front)) ∙ take-take n at old before

-- bytes put behind some
drop_front : (n at : ℕ) (new old : List ℕ) → n + at + length new ≤ length old → drop n (put_at (n + at) new old) ≡ put_at at new (drop n old)
drop_front n at new old within =
    let rest = drop (n + at + length new) old in
    let long : length (take (n + at) old) ≡ n + at = length-take-le (n + at) old (omega (arith, within)) in
    let same : n + at + length new ≡ n + (at + length new) = omega arith in
    let a = drop-take n at old in
    let b = ap (λ i. drop i old) same ∙ sym (drop-drop (at + length new) n old) in
    drop-append-le n (take (n + at) old) (new ++ rest) (omega (arith, long)) ∙ (λ i. a i ++ (new ++ b i))

at_most : (m n : ℕ) → nat_le m n ≡ true → m ≤ n
at_most m n h = grind (arith, nat_tests)

equal_numbers : (m n : ℕ) → (m == n) ≡ true → m ≡ n
equal_numbers m n h = grind (arith, nat_tests)

-- ---- blocks

start_is : (place : ℕ) (sizes : List ℕ) (b : ℕ) → b < length sizes → slice_index (starts_from place sizes) b ≡ place + total (take b sizes)
start_is place [] b lt = absurd (omega (arith, lt))
start_is place (n ∷ sizes) zero lt = let here : place ≡ place + 0 = omega arith in here
start_is place (n ∷ sizes) (suc b) lt =
    let here : slice_index (starts_from (place + n) sizes) b ≡ place + (n + total (take b sizes)) = omega (arith, start_is (place + n) sizes b (omega (arith, lt))) in here

starts_length : (place : ℕ) (sizes : List ℕ) → length (starts_from place sizes) ≡ length sizes
starts_length place [] = refl
starts_length place (n ∷ sizes) = ap suc (starts_length (place + n) sizes)

pub place_is : (starts sizes : List ℕ) (first b z : ℕ) → starts ≡ starts_from first sizes → b < length sizes → get_or starts b z ≡ first + total (take b sizes)
place_is starts sizes first b z is lt =
    let there : b < length (starts_from first sizes) = omega (arith, lt, starts_length first sizes) in
    ap (λ (xs : List ℕ). get_or xs b z) is ∙ get_or_default (starts_from first sizes) b z 0 there ∙ start_is first sizes b lt

pub starts_there : (starts sizes : List ℕ) (first b : ℕ) → starts ≡ starts_from first sizes → b < length sizes → b < length starts
starts_there starts sizes first b is lt = omega (arith, lt, starts_length first sizes, ap length is)

-- bytes that lie in a block
pub lies : (sizes : List ℕ) (b offset count : ℕ) → is_within sizes b offset count ≡ true → (b < length sizes) × (offset + count ≤ slice_index sizes b)
lies sizes b offset count h =
    let parts = both (nat_lt b (length sizes)) (nat_le (offset + count) (slice_index sizes b)) h in
    (test_below b (length sizes) parts.0, at_most (offset + count) (slice_index sizes b) parts.1)

pub is_whole : (sizes : List ℕ) (b size : ℕ) → is_block sizes b size ≡ true → (b < length sizes) × (size ≡ slice_index sizes b)
is_whole sizes b size h =
    let parts = both (nat_lt b (length sizes)) (size == slice_index sizes b) h in
    (test_below b (length sizes) parts.0, equal_numbers size (slice_index sizes b) parts.1)

-- a block ends within all
pub block_ends : (sizes : List ℕ) (b : ℕ) → b < length sizes → total (take b sizes) + slice_index sizes b ≤ total sizes
block_ends [] b lt = absurd (omega (arith, lt))
block_ends (n ∷ sizes) zero lt = let here : 0 + n ≤ n + total sizes = omega arith in here
block_ends (n ∷ sizes) (suc b) lt = let here : n + total (take b sizes) + slice_index sizes b ≤ n + total sizes = omega (arith, block_ends sizes b (omega (arith, lt))) in here

pub block_is : (sizes bytes : List ℕ) (b : ℕ) → b < length sizes → block_of (stored sizes bytes) b ≡ take (slice_index sizes b) (drop (total (take b sizes)) bytes)
block_is [] bytes b lt = absurd (omega (arith, lt))
block_is (n ∷ sizes) bytes zero lt = refl
block_is (n ∷ sizes) bytes (suc b) lt = block_is sizes (drop n bytes) b (omega (arith, lt)) ∙ ap (take (slice_index sizes b)) (drop-drop (total (take b sizes)) n bytes)

pub block_length : (sizes bytes : List ℕ) (b : ℕ) → b < length sizes → total sizes ≤ length bytes → length (block_of (stored sizes bytes) b) ≡ slice_index sizes b
block_length sizes bytes b lt all =
    let end = block_ends sizes b lt in
    let start = total (take b sizes) in
    ap length (block_is sizes bytes b lt) ∙ length-take-le (slice_index sizes b) (drop start bytes) (omega (arith, end, all, length-drop start bytes))

pub stored_put : (sizes bytes new : List ℕ) (b offset : ℕ) → b < length sizes → offset + length new ≤ slice_index sizes b → total sizes ≤ length bytes
    → stored sizes (put_at (total (take b sizes) + offset) new bytes) ≡ put_bytes (stored sizes bytes) b offset new
stored_put [] bytes new b offset lt within all = absurd (omega (arith, lt))
stored_put (n ∷ sizes) bytes new zero offset lt within all =
    let at : 0 + offset ≡ offset = omega arith in
    let fits : offset + length new ≤ n = within in
    let long : n + total sizes ≤ length bytes = all in
    let here = take_put offset n new bytes (omega (arith, fits, long)) fits (omega (arith, long)) in
    let rest = drop_put offset n new bytes (omega (arith, fits, long)) fits in
    ap (λ k. stored (n ∷ sizes) (put_at k new bytes)) at ∙ (λ i. here i ∷ stored sizes (rest i))
stored_put (n ∷ sizes) bytes new (suc b) offset lt within all =
    let start = total (take b sizes) in
    let end = block_ends sizes b (omega (arith, lt)) in
    let at : n + start + offset ≡ n + (start + offset) = omega arith in
    let inside : offset + length new ≤ slice_index sizes b = within in
    let long : n + total sizes ≤ length bytes = all in
    let fits : n + (start + offset) + length new ≤ length bytes = omega (arith, end, inside, long) in
    let here = take_front (n + (start + offset)) n new bytes fits (omega arith) in
    let rest = ap (stored sizes) (drop_front n (start + offset) new bytes fits) ∙ stored_put sizes (drop n bytes) new b offset (omega (arith, lt)) inside (omega (arith, long, length-drop n bytes)) in
    ap (λ k. stored (n ∷ sizes) (put_at k new bytes)) at ∙ (λ i. here i ∷ rest i)

-- a block whose bytes are all 0
pub put_zeros : (vs : Variables) (b n size : ℕ) → n ≡ size → length (block_of vs b) ≡ size → put_bytes vs b 0 (zeros n) ≡ cleared vs b size
put_zeros vs b n size same long =
    let none : drop (0 + length (zeros n)) (block_of vs b) ≡ [] = drop_all (0 + length (zeros n)) (block_of vs b) (omega (arith, same, long, length-replicate {A = ℕ} n 0)) in
    ap (slice_set vs b) (ap (λ ys. zeros n ++ ys) none ∙ append-nil (zeros n) ∙ ap zeros same)

pub stored_zeros : (sizes : List ℕ) (n : ℕ) → n ≡ total sizes → stored sizes (zeros n) ≡ first_variables sizes
stored_zeros [] n same = refl
stored_zeros (k ∷ sizes) n same =
    let all : n ≡ k + total sizes = same in
    let less : n - k ≡ total sizes = omega (arith, all) in
    let here = take-replicate k n 0 (omega (arith, all)) in
    let rest = ap (stored sizes) (drop-replicate k n 0) ∙ stored_zeros sizes (n - k) less in
    λ i. here i ∷ rest i

-- as many blocks as sizes
pub stored_length : (sizes bytes : List ℕ) → length (stored sizes bytes) ≡ length sizes
stored_length [] bytes = refl
stored_length (n ∷ sizes) bytes = ap suc (stored_length sizes (drop n bytes))

pub no_block : (sizes bytes : List ℕ) (b : ℕ) → length sizes ≤ b → block_of (stored sizes bytes) b ≡ []
no_block [] bytes b le = refl
no_block (n ∷ sizes) bytes zero le = absurd (omega (arith, le))
no_block (n ∷ sizes) bytes (suc b) le = no_block sizes (drop n bytes) b (omega (arith, le))

-- ---- the words of bytes that follow one another

module _ (f : Id → ℕ) where
  pub byte_words : (g : ℕ → Option Id) (k n : ℕ) → length (bytes_from f g k n) ≡ n
  byte_words g k zero = refl
  byte_words g k (suc n) = ap suc (byte_words g (suc k) n)

  take_words : (g : ℕ → Option Id) (k a n : ℕ) → a ≤ n → take a (bytes_from f g k n) ≡ bytes_from f g k a
  take_words g k zero n le = refl
  take_words g k (suc a) zero le = absurd (omega (arith, le))
  take_words g k (suc a) (suc n) le = ap (λ (ws : List ℕ). word_or_0 f (g k) ∷ ws) (take_words g (suc k) a n (omega (arith, le)))

  drop_words : (g : ℕ → Option Id) (k a n j m : ℕ) → j ≡ k + a → n ≡ a + m → drop a (bytes_from f g k n) ≡ bytes_from f g j m
  drop_words g k zero n j m j_is n_is = let p : k ≡ j = omega (arith, j_is) in let q : n ≡ m = omega (arith, n_is) in λ i. bytes_from f g (p i) (q i)
  drop_words g k (suc a) zero j m j_is n_is = absurd (omega (arith, n_is))
  drop_words g k (suc a) (suc n) j m j_is n_is = drop_words g (suc k) a n j m (omega (arith, j_is)) (omega (arith, n_is))

  split_words : (g : ℕ → Option Id) (k a n j m : ℕ) → j ≡ k + a → n ≡ a + m → bytes_from f g k n ≡ bytes_from f g k a ++ bytes_from f g j m
  split_words g k a n j m j_is n_is =
      let p = take_words g k a n (omega (arith, n_is)) in
      let q = drop_words g k a n j m j_is n_is in
      sym (take-append-drop a (bytes_from f g k n)) ∙ (λ i. p i ++ q i)

  pub words_alike : (g g' : ℕ → Option Id) (k : ℕ) (ts : List IntegerType) → ((c : ℕ) → k ≤ c → c < k + length ts → g' c ≡ g c) → words_from f g' k ts ≡ words_from f g k ts
  words_alike g g' k ts h = words_same f f g g' k ts (λ c le lt. ap (word_or_0 f) (h c le lt))

  pub bytes_alike : (g g' : ℕ → Option Id) (k n : ℕ) → ((c : ℕ) → k ≤ c → c < k + n → g' c ≡ g c) → bytes_from f g' k n ≡ bytes_from f g k n
  bytes_alike g g' k n h = words_alike g g' k (replicate n types.Char) (λ c le lt. h c le (omega (arith, lt, length-replicate n types.Char)))

  pub no_bytes : (g' : ℕ → Option Id) (at n : ℕ) → ((k : ℕ) → k < n → g' (at + k) ≡ None) → bytes_from f g' at n ≡ zeros n
  no_bytes g' at zero here = refl
  no_bytes g' at (suc n) here =
      let first : at ≡ at + 0 = omega arith in
      let a = ap (word_or_0 f) (ap g' first ∙ here 0 (omega arith)) in
      let b = no_bytes g' (suc at) n (λ k lt. (let next : suc at + k ≡ at + suc k = omega arith in ap g' next ∙ here (suc k) (omega (arith, lt)))) in
      λ i. a i ∷ b i

  new_bytes : (g' : ℕ → Option Id) (at count rest : ℕ) (ids : List Id) → count ≡ length ids + rest → ((k : ℕ) → k < count → g' (at + k) ≡ slice_get ids k) → bytes_from f g' at count ≡ map f ids ++ zeros rest
  new_bytes g' at count rest [] e here = let same : count ≡ rest = omega (arith, e) in no_bytes g' at count here ∙ ap zeros same
  new_bytes g' at zero rest (i ∷ ids) e here = absurd (omega (arith, e))
  new_bytes g' at (suc count) rest (i ∷ ids) e here =
      let first : at ≡ at + 0 = omega arith in
      let a = ap (word_or_0 f) (ap g' first ∙ here 0 (omega arith)) in
      let b = new_bytes g' (suc at) count rest ids (omega (arith, e)) (λ k lt. (let next : suc at + k ≡ at + suc k = omega arith in ap g' next ∙ here (suc k) (omega (arith, lt)))) in
      λ j. a j ∷ b j

  -- bytes that are replaced
  pub put_words : (g g' : ℕ → Option Id) (first o n count : ℕ) (ids : List Id) → o + count ≤ n → length ids ≤ count → ((k : ℕ) → k < first + o → g' k ≡ g k) → ((k : ℕ) → k < count → g' (first + o + k) ≡ slice_get ids k)
      → ((k : ℕ) → first + o + count ≤ k → g' k ≡ g k) → bytes_from f g' first n ≡ put_at o (map f ids ++ zeros (count - length ids)) (bytes_from f g first n)
  put_words g g' first o n count ids fits few front here behind =
      let at = first + o in
      let m = n - (o + count) in
      let W = map f ids ++ zeros (count - length ids) in
      let long : length W ≡ count = omega (arith, few, length-append (map f ids) (zeros (count - length ids)), length-map ids f, length-replicate {A = ℕ} (count - length ids) 0) in
      let all : n ≡ o + (count + m) = omega (arith, fits) in
      let a : bytes_from f g' first o ≡ take o (bytes_from f g first n) = bytes_alike g g' first o (λ c le lt. front c lt) ∙ sym (take_words g first o n (omega (arith, fits))) in
      let b : bytes_from f g' at count ≡ W = new_bytes g' at count (count - length ids) ids (omega (arith, few)) here in
      let c : bytes_from f g' (at + count) m ≡ drop (o + length W) (bytes_from f g first n) =
      bytes_alike g g' (at + count) m (λ k le lt. behind k le) ∙ sym (drop_words g first (o + length W) n (at + count) m (omega (arith, long)) (omega (arith, long, fits))) in
      split_words g' first o n at (count + m) refl all ∙ ap (λ ys. bytes_from f g' first o ++ ys) (split_words g' at count (count + m) (at + count) m refl refl) ∙ (λ i. a i ++ (b i ++ c i))

  -- a block, and some bytes of it
  pub block_words : (g : ℕ → Option Id) (first b : ℕ) (sizes : List ℕ) → b < length sizes → block_of (stored sizes (bytes_from f g first (total sizes))) b ≡ bytes_from f g (first + total (take b sizes)) (slice_index sizes b)
  block_words g first b sizes lt =
      let start = total (take b sizes) in
      let size = slice_index sizes b in
      let end = block_ends sizes b lt in
      let m = total sizes - start in
      block_is sizes (bytes_from f g first (total sizes)) b lt ∙ ap (take size) (drop_words g first start (total sizes) (first + start) m refl (omega (arith, end))) ∙ take_words g (first + start) size m (omega (arith, end))

  pub some_words : (g : ℕ → Option Id) (first b offset count at : ℕ) (sizes : List ℕ) → is_within sizes b offset count ≡ true → at ≡ first + total (take b sizes) + offset
      → bytes_of (stored sizes (bytes_from f g first (total sizes))) b offset count ≡ bytes_from f g at count
  some_words g first b offset count at sizes there at_is =
      let parts = lies sizes b offset count there in
      let size = slice_index sizes b in
      ap (λ (bs : List ℕ). take count (drop offset bs)) (block_words g first b sizes parts.0)
      ∙ ap (take count) (drop_words g (first + total (take b sizes)) offset size at (size - offset) at_is (omega (arith, parts.1))) ∙ take_words g at count (size - offset) (omega (arith, parts.1))

  pub ids_words : (g : ℕ → Option Id) (other : Id) (k n : ℕ) → f other ≡ 0 → map f (ids_from g other k n) ≡ bytes_from f g k n
  ids_words g other k zero h = refl
  ids_words g other k (suc n) h = let a = word_of (g k) in let b = ids_words g other (suc k) n h in λ i. a i ∷ b i
    where
      word_of : (x : Option Id) → f (id_or other x) ≡ word_or_0 f x
      word_of None = h
      word_of (Some i) = refl
