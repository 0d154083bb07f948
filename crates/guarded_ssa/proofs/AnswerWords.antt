-- The words that answer a read, made one by one, and their bytes.
use Rattle.std.proofs.Common.{◌≡◌, ℕ, zero, suc, ◌+◌, ◌-◌, ◌*◌, ◌<◌, ◌≤◌, List, [], ◌∷◌, ◌++◌, length, map, drop, get_or, sym, ap, subst, ◌∙◌, arith, append_assoc}
use Rattle.std.specs.Prelude.{min}
use Rattle.std.specs.List.{All}
use Rattle.std.proofs.Math.Seq.{drop-cons}
use Rattle.std.proofs.lemmas.List.{map_push, map-append, length-map, length-append, get_or-map, drop_all, append-nil}
use Rattle.std.proofs.lemmas.List.Elements.{All-push, All-nil, All-append, All-weaker}
use Rattle.words.specs.Operators.{low_bits}
use Rattle.c_values.specs.Variables.{low_bytes, word_count}
use Rattle.word_dag.specs.declared.nodes.Id.{Id}
use Rattle.word_dag.specs.declared.nodes.Node.{Node}
use Rattle.word_dag.specs.declared.nodes.Node.TheVariants.{Variable}
use Rattle.word_dag.specs.Meaning.{width, value}
use Rattle.word_dag.specs.Growth.{Within, Extends, Makes}
use Rattle.word_dag.proofs.Grown.{extends_itself, extends_more, all_within_stays, map_stays, map_widths_stay}
use Rattle.value_nodes.specs.Values.{IsWord, AreBytes}
use Rattle.value_nodes.specs.Bytes.{AreBytesOf}
use Rattle.event_forms.specs.Runs.{bytes_of_words, word_widths}
use Rattle.guarded_ssa.specs.inner.Answers.{words_by}
use Rattle.event_forms.specs.Forms.{AreWords}
use Rattle.event_forms.proofs.WordBytes.{min_rest, words_enough, low_count}
use Rattle.event_forms.proofs.ReadWords.{words_length}
use Rattle.event_forms.proofs.Stays.{word_stays}

push_front : {X : Type 0} (xs : List X) (x : X) (ys : List X) → (xs ++ x ∷ []) ++ ys ≡ xs ++ (x ∷ ys)
push_front xs x ys = append_assoc xs (x ∷ []) ys

-- one fewer is left
fewer : (n k : ℕ) → k < n → n - k ≡ suc (n - (k + 1))
fewer n k h = omega (arith, h)

none_left : (n k : ℕ) → n ≤ k → n - k ≡ 0
none_left n k h = omega (arith, h)

behind : (n k : ℕ) → n - 8 * k - 8 ≡ n - 8 * (k + 1)
behind n k = omega arith

-- ---- words

-- so many words are made, and the next variable answers for the bytes that are left
pub record Answering (d e : List Node) (place count k variable left : ℕ) (words : List Id) : Type 0 where
  pub extends : Extends d e
  pub there : All (Within e) words
  pub rest : left ≡ count - 8 * k
  pub next : variable ≡ place + k
  pub widths : map (width e) words ++ word_widths (word_count count - k) left ≡ word_widths (word_count count) count
  pub values : (v : ℕ → ℕ) → map (value v e) words ++ words_by v (word_count count - k) variable left ≡ words_by v (word_count count) place count

pub answering_none : (d : List Node) (place count : ℕ) (words : List Id) → words ≡ [] → Answering d d place count 0 place count words
answering_none d place count words none =
    let all : word_count count - 0 ≡ word_count count = omega arith in
    record {
      extends = extends_itself d;
      there = subst (All (Within d)) (sym none) (All-nil (Within d));
      rest = omega arith;
      next = omega arith;
      widths = (λ i. map (width d) (none i) ++ word_widths (all i) count);
      values = λ v. (λ i. map (value v d) (none i) ++ words_by v (all i) place count);
    }

pub answering_more : (d e f : List Node) (place count k variable next left less bits : ℕ) (words more : List Id) (id : Id) → Answering d e place count k variable left words → k < word_count count → Extends e f
    → Makes e f (Variable variable bits) id → bits ≡ 8 * min 8 left → more ≡ words ++ id ∷ [] → next ≡ suc variable → less ≡ left - 8 → Answering d f place count (k + 1) next less more
answering_more d e f place count k variable next left less bits words more id a lt x made wide is next_is less_is =
    let n = word_count count in
    let w : width f id ≡ 8 * min 8 left = made.width_is ∙ wide in
    record {
      extends = extends_more d e f a.extends x;
      there = subst (All (Within f)) (sym is) (All-push (Within f) words id (all_within_stays e f words x a.there) made.there);
      rest = less_is ∙ ap (λ m. m - 8) a.rest ∙ behind count k;
      next = omega (arith, next_is, a.next);
      widths =
          let stay = map_widths_stay e f words x a.there in
          (λ i. map (width f) (is i) ++ word_widths (n - (k + 1)) (less_is i))
          ∙ ap (λ ws. ws ++ word_widths (n - (k + 1)) (left - 8)) (map_push (width f) words id)
          ∙ push_front (map (width f) words) (width f id) (word_widths (n - (k + 1)) (left - 8))
          ∙ (λ i. stay i ++ (w i ∷ word_widths (n - (k + 1)) (left - 8)))
          ∙ ap (λ m. map (width e) words ++ word_widths m left) (sym (fewer n k lt))
          ∙ a.widths;
      values = λ v.
          let stay = map_stays v e f words x a.there in
          let here : value v f id ≡ low_bits (8 * min 8 left) (v variable) = made.value_is v ∙ ap (λ m. low_bits m (v variable)) wide in
          (λ i. map (value v f) (is i) ++ words_by v (n - (k + 1)) (next_is i) (less_is i))
          ∙ ap (λ ws. ws ++ words_by v (n - (k + 1)) (suc variable) (left - 8)) (map_push (value v f) words id)
          ∙ push_front (map (value v f) words) (value v f id) (words_by v (n - (k + 1)) (suc variable) (left - 8))
          ∙ (λ i. stay i ++ (here i ∷ words_by v (n - (k + 1)) (suc variable) (left - 8)))
          ∙ ap (λ m. map (value v e) words ++ words_by v m variable left) (sym (fewer n k lt))
          ∙ a.values v;
    }

module _ (d e : List Node) (place count k variable left : ℕ) (words : List Id) (a : Answering d e place count k variable left words) (done : word_count count ≤ k) where
  pub answering_words : AreWords e count words
  answering_words = record {
    there = a.there;
    widths = sym (append-nil (map (width e) words)) ∙ ap (λ m. map (width e) words ++ word_widths m left) (sym (none_left (word_count count) k done)) ∙ a.widths;
  }

  pub answering_values : (v : ℕ → ℕ) → map (value v e) words ≡ words_by v (word_count count) place count
  answering_values v = sym (append-nil (map (value v e) words)) ∙ ap (λ m. map (value v e) words ++ words_by v m variable left) (sym (none_left (word_count count) k done)) ∙ a.values v

-- ---- the bytes of words

width_at : (n left k z : ℕ) → k < n → get_or (word_widths n left) k z ≡ 8 * min 8 (left - 8 * k)
width_at zero left k z lt = absurd (omega (arith, lt))
width_at (suc n) left zero z lt = let all : left ≡ left - 8 * 0 = omega arith in ap (λ m. 8 * min 8 m) all
width_at (suc n) left (suc k) z lt =
    let same : left - 8 - 8 * k ≡ left - 8 * suc k = omega arith in
    width_at n (left - 8) k z (omega (arith, lt)) ∙ ap (λ m. 8 * min 8 m) same

-- the bytes of so many words are made, and those of the others are left
pub record Unpacking (d e : List Node) (count k left : ℕ) (words bytes : List Id) : Type 0 where
  pub extends : Extends d e
  pub all : AreBytes e bytes
  pub rest : left ≡ count - 8 * k
  pub size : length bytes + left ≡ count
  pub values : (v : ℕ → ℕ) → map (value v e) bytes ++ bytes_of_words left (drop k (map (value v d) words)) ≡ bytes_of_words count (map (value v d) words)

pub unpacking_none : (d : List Node) (count : ℕ) (words bytes : List Id) → bytes ≡ [] → Unpacking d d count 0 count words bytes
unpacking_none d count words bytes none = record {
  extends = extends_itself d;
  all = subst (AreBytes d) (sym none) (All-nil (λ (i : Id). IsWord d i 8));
  rest = omega arith;
  size = omega (arith, ap length none);
  values = λ v. ap (λ (ids : List Id). map (value v d) ids ++ bytes_of_words count (map (value v d) words)) none;
}

-- a word that is still to come
pub word_there : (d e : List Node) (count k left w : ℕ) (words bytes : List Id) (z : Id) → AreWords d count words → Unpacking d e count k left words bytes → k < length words → w ≡ 8 * min 8 left → IsWord e (get_or words k z) w
word_there d e count k left w words bytes z h u lt wide =
    let i = get_or words k z in
    let few : k < word_count count = omega (arith, lt, words_length d count words h) in
    let there : Within d i = h.there k z lt in
    word_stays d e u.extends i w (record {
      there = there;
      width_is = sym (get_or-map (width d) words k z 0 lt) ∙ ap (λ (ws : List ℕ). get_or ws k 0) h.widths ∙ width_at (word_count count) count k 0 few ∙ ap (λ m. 8 * min 8 m) (sym u.rest) ∙ sym wide;
    })

pub unpacking_more : (d e f : List Node) (count k left less size : ℕ) (words bytes new more : List Id) (z : Id) → AreWords d count words → Unpacking d e count k left words bytes → k < length words → Extends e f → size ≡ min 8 left
    → AreBytesOf f new (λ v. low_bytes size (value v e (get_or words k z))) → more ≡ bytes ++ new → less ≡ left - 8 → Unpacking d f count (k + 1) less words more
unpacking_more d e f count k left less size words bytes new more z h u lt x size_is made is less_is =
    let i = get_or words k z in
    let there : Within d i = h.there k z lt in
    let old : AreBytes f bytes = All-weaker (λ (j : Id). IsWord e j 8) (λ (j : Id). IsWord f j 8) (λ j. word_stays e f x j 8) bytes u.all in
    let few : size ≤ 8 = omega (arith, size_is) in
    let v0 : ℕ → ℕ = λ n. 0 in
    let count_new : length new ≡ size = sym (length-map new (value v0 f)) ∙ ap length (made.values_are v0) ∙ low_count size (value v0 e i) few in
    record {
      extends = extends_more d e f u.extends x;
      all = subst (AreBytes f) (sym is) (All-append (λ (j : Id). IsWord f j 8) bytes new old made.words);
      rest = less_is ∙ ap (λ m. m - 8) u.rest ∙ behind count k;
      size = omega (arith, ap length is, length-append bytes new, count_new, size_is, less_is, min_rest left, u.size);
      values = λ v.
          let xs = map (value v d) words in
          let same : value v e i ≡ get_or xs k 0 = u.extends.value_stays v i there ∙ sym (get_or-map (value v d) words k z 0 lt) in
          let some : k < length xs = omega (arith, lt, length-map words (value v d)) in
          let one : k + 1 ≡ suc k = omega arith in
          let old_values = map_stays v e f bytes x (All-weaker (λ (j : Id). IsWord e j 8) (Within e) (λ j word. word.there) bytes u.all) in
          let new_values : map (value v f) new ≡ low_bytes (min 8 left) (get_or xs k 0) = made.values_are v ∙ (λ j. low_bytes (size_is j) (same j)) in
          let rest = bytes_of_words (left - 8) (drop (suc k) xs) in
          (λ j. map (value v f) (is j) ++ bytes_of_words (less_is j) (drop (one j) xs))
          ∙ ap (λ ys. ys ++ rest) (map-append (value v f) bytes new)
          ∙ append_assoc (map (value v f) bytes) (map (value v f) new) rest
          ∙ (λ j. old_values j ++ (new_values j ++ rest))
          ∙ ap (λ ws. map (value v e) bytes ++ bytes_of_words left ws) (sym (drop-cons xs k 0 some))
          ∙ u.values v;
    }

module _ (d e : List Node) (count k left : ℕ) (words bytes : List Id) (h : AreWords d count words) (u : Unpacking d e count k left words bytes) (done : length words ≤ k) where
  none_rest : left ≡ 0
  none_rest = omega (arith, u.rest, done, words_length d count words h, words_enough count)

  pub unpacking_bytes : AreBytesOf e bytes (λ v. bytes_of_words count (map (value v d) words))
  unpacking_bytes = record {
    words = u.all;
    values_are = λ v.
        let xs = map (value v d) words in
        sym (append-nil (map (value v e) bytes)) ∙ ap (λ ws. map (value v e) bytes ++ bytes_of_words left ws) (sym (drop_all k xs (omega (arith, done, length-map words (value v d))))) ∙ u.values v;
  }

  pub unpacking_size : length bytes ≡ count
  unpacking_size = omega (arith, u.size, none_rest)
