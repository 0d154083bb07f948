-- Each valuation gives a local run of a behaviour, and each local run is that of a valuation: ends and actions.
use Rattle.std.proofs.Common.{◌≡◌, ℕ, ◌+◌, ◌-◌, ◌*◌, ◌<◌, ◌≤◌, ◌^◌, Bool, true, false, List, [], ◌∷◌, length, take, drop, refl, sym, ap, subst, ◌∙◌, arith, nat_lt}
use Rattle.std.specs.Prelude.{◌==◌, ◌&&◌, if◌then◌else◌}
use Rattle.std.proofs.lemmas.Bool.{false≢true}
use Rattle.std.proofs.lemmas.Bool.Decides.{nat_tests}
use Rattle.words.proofs.Ranges.{low_bits_below}
use Rattle.words.proofs.Widths.{low_bits_same}
use Rattle.words.specs.BitVector.{BitVector, word}
use Rattle.words.specs.Operators.{low_bits}
use Rattle.actions.specs.ByteList.{are_bytes}
use Rattle.actions.specs.declared.action.Action.{Action}
use Rattle.actions.specs.declared.action.Action.TheVariants as actions
use Rattle.actions.specs.declared.action.Answer.{Answer}
use Rattle.actions.specs.declared.action.Answer.TheVariants as answers
use Rattle.actions.specs.declared.action.Next.{Next}
use Rattle.actions.specs.declared.action.Next.TheVariants.{Act, Ended, Blocked, Broken}
use Rattle.actions.specs.Behaviour.{Behaviour, nothing, size, number, value, shape_of, has_shape}
use Rattle.actions.specs.LocalRun.{Exchange, IsLocalRun}
use Rattle.c_values.specs.Variables.{word_count}
use Rattle.goto_prog.specs.Threads.{ask, final}
use Rattle.event_forms.specs.Runs.{Run, stops, asks, bytes_of_words}
use Rattle.guarded_ssa.specs.inner.Answers.{words_by, answer_at, answer_size}
use Rattle.event_forms.specs.Forms.{Begins}
use Rattle.event_forms.proofs.WordBytes.{number_is, words_are_bytes, words_enough}
use Rattle.guarded_ssa.proofs.VariableWords.{words_size, words_by_same, words_give}

-- nothing is done next
abbrev pub IsEnd : Next → Type 0
IsEnd (Act action line f) = ⊥
IsEnd (Ended v) = Unit {0}
IsEnd Blocked = Unit {0}
IsEnd (Broken class line f) = Unit {0}

-- runs as functions of the valuation
abbrev pub Runs : Type 0
Runs = (ℕ → ℕ) → Run

-- the same at the variables from x on
abbrev pub SameFrom : (x : ℕ) → (ℕ → ℕ) → (ℕ → ℕ) → Type 0
SameFrom x v w = (y : ℕ) → x ≤ y → v y ≡ w y

-- the runs of the valuations are those of the behaviour, and see only the variables from x on
pub record Fits (x : ℕ) (runs : Runs) (b : Behaviour) : Type 0 where
  pub only : (v w : ℕ → ℕ) → SameFrom x v w → runs v ≡ runs w
  pub gives : (v : ℕ → ℕ) (run : List Exchange) (next : Next) → Begins run next (runs v) → IsLocalRun b run next
  pub has : (run : List Exchange) (next : Next) → IsLocalRun b run next → (v : ℕ → ℕ) × Begins run next (runs v)

pub fits_lower : (x y : ℕ) (runs : Runs) (b : Behaviour) → x ≤ y → Fits y runs b → Fits x runs b
fits_lower x y runs b le h = record { only = λ v w same. h.only v w (λ z l. same z (omega (arith, le, l))); gives = h.gives; has = h.has }

-- the same runs
pub fits_same : (x : ℕ) (runs others : Runs) (b : Behaviour) → ((v : ℕ → ℕ) → others v ≡ runs v) → Fits x runs b → Fits x others b
fits_same x runs others b same h = record {
  only = λ v w k. same v ∙ h.only v w k ∙ sym (same w);
  gives = λ v run next begins. h.gives v run next (subst (Begins run next) (same v) begins);
  has = λ run next is. let found = h.has run next is in (found.0, subst (Begins run next) (sym (same found.0)) found.1);
}

-- ---- ends

final_gives : (end : Next) (run : List Exchange) (next : Next) → Begins run next (stops end) → IsLocalRun (final end) run next
final_gives end [] next h = h
final_gives end (x ∷ run) next h = absurd h

final_has : (end : Next) → IsEnd end → (run : List Exchange) (next : Next) → IsLocalRun (final end) run next → Begins run next (stops end)
final_has end ends [] next h = h
final_has (Act action line f) ends (x ∷ run) next h = absurd ends
final_has (Ended v) ends (x ∷ run) next h = false≢true h.1
final_has Blocked ends (x ∷ run) next h = false≢true h.1
final_has (Broken class line f) ends (x ∷ run) next h = false≢true h.1

pub fits_end : (x : ℕ) (end : Next) → IsEnd end → Fits x (λ v. stops end) (final end)
fits_end x end ends = record { only = λ v w same. refl; gives = λ v run next h. final_gives end run next h; has = λ run next h. ((λ y. 0), final_has end ends run next h) }

-- ---- so many variables from x on

-- the valuation v, but these numbers at them
put : (x count : ℕ) → (ℕ → ℕ) → (ℕ → ℕ) → ℕ → ℕ
put x count n v y = if nat_lt y (x + count) then n (y - x) else v y

chosen_first : (b : Bool) (m n : ℕ) → b ≡ true → (if b then m else n) ≡ m
chosen_first b m n h = λ i. if h i then m else n

chosen_second : (b : Bool) (m n : ℕ) → b ≡ false → (if b then m else n) ≡ n
chosen_second b m n h = λ i. if h i then m else n

equal : (m n : ℕ) → m ≡ n → (m == n) ≡ true
equal m n h = grind (arith, nat_tests)

test_below : (m n : ℕ) → m < n → nat_lt m n ≡ true
test_below m n h = grind (arith, nat_tests)

test_above : (m n : ℕ) → n ≤ m → nat_lt m n ≡ false
test_above m n h = grind (arith, nat_tests)

put_there : (x count : ℕ) (n v : ℕ → ℕ) (i : ℕ) → i < count → put x count n v (x + i) ≡ n i
unfolding put
put_there x count n v i lt =
    let same : x + i - x ≡ i = omega arith in
    chosen_first (nat_lt (x + i) (x + count)) (n (x + i - x)) (v (x + i)) (test_below (x + i) (x + count) (omega (arith, lt))) ∙ ap n same

put_later : (x count : ℕ) (n v : ℕ → ℕ) → SameFrom (x + count) (put x count n v) v
unfolding put
put_later x count n v y l = chosen_second (nat_lt y (x + count)) (n (y - x)) (v y) (test_above y (x + count) l)

first_of : (x : ℕ) → x + 0 ≡ x
first_of x = omega arith

itself : (x : ℕ) → x ≤ x
itself x = omega arith

-- ---- the answers of a valuation

both_true : (a b : Bool) → a ≡ true → b ≡ true → (a && b) ≡ true
both_true a b first second = λ i. first i && second i

both_parts : (a b : Bool) → (a && b) ≡ true → (a ≡ true) × (b ≡ true)
both_parts true b h = (refl, h)
both_parts false b h = absurd (false≢true h)

same_number : (m n : ℕ) → (m == n) ≡ true → m ≡ n
same_number m n h = grind (arith, nat_tests)

is_below : (m n : ℕ) → nat_lt m n ≡ true → m < n
is_below m n h = grind (arith, nat_tests)

-- they are those of the variables from x on
answers_same : (x : ℕ) (action : Action) (v w : ℕ → ℕ) → SameFrom x v w → answer_at v x action ≡ answer_at w x action
answers_same x (actions.Read q n) v w same = ap (λ (ws : List ℕ). answers.Bytes (bytes_of_words n ws)) (words_by_same v w (word_count n) x n (λ i. same (x + i) (let le : x ≤ x + i = omega arith in le)))
answers_same x (actions.Write q new first) v w same = refl
answers_same x (actions.Look q subscript) v w same = ap (λ n. answers.Size (low_bits 32 n)) (same x (itself x))
answers_same x (actions.Draw bits) v w same = ap (λ n. answers.Word (word bits (low_bits bits n))) (same x (itself x))
answers_same x (actions.Alloc object) v w same = ap (λ n. answers.Number (low_bits 32 n)) (same x (itself x))
answers_same x (actions.Die k) v w same = refl
answers_same x (actions.Free q) v w same = refl
answers_same x actions.SectionBegin v w same = refl
answers_same x actions.SectionEnd v w same = refl
answers_same x (actions.Lock q) v w same = refl
answers_same x (actions.Unlock q) v w same = refl
answers_same x (actions.MutexInit q) v w same = refl
answers_same x (actions.MutexDestroy q) v w same = refl
answers_same x (actions.Create g u) v w same = ap (λ n. answers.Number (low_bits 32 n)) (same x (itself x))
answers_same x (actions.Join k) v w same = ap (λ n. answers.Value (low_bits 64 n)) (same x (itself x))
answers_same x (actions.End u) v w same = refl
answers_same x actions.Exit v w same = refl

small : (bits n : ℕ) → nat_lt (low_bits bits n) (2 ^ bits) ≡ true
small bits n = test_below (low_bits bits n) (2 ^ bits) (low_bits_below bits n)

-- each has the shape that is asked for
pub shape_itself : (x : ℕ) (action : Action) (v : ℕ → ℕ) → has_shape (shape_of action) (answer_at v x action) ≡ true
shape_itself x (actions.Read q n) v =
    let ws = words_by v (word_count n) x n in
    both_true (length (bytes_of_words n ws) == n) (are_bytes (bytes_of_words n ws)) (equal (length (bytes_of_words n ws)) n (words_size v (word_count n) x n (words_enough n))) (words_are_bytes n ws)
shape_itself x (actions.Write q new first) v = refl
shape_itself x (actions.Look q subscript) v = small 32 (v x)
shape_itself x (actions.Draw bits) v = both_true (bits == bits) (nat_lt (low_bits bits (v x)) (2 ^ bits)) (equal bits bits refl) (small bits (v x))
shape_itself x (actions.Alloc object) v = small 32 (v x)
shape_itself x (actions.Die k) v = refl
shape_itself x (actions.Free q) v = refl
shape_itself x actions.SectionBegin v = refl
shape_itself x actions.SectionEnd v = refl
shape_itself x (actions.Lock q) v = refl
shape_itself x (actions.Unlock q) v = refl
shape_itself x (actions.MutexInit q) v = refl
shape_itself x (actions.MutexDestroy q) v = refl
shape_itself x (actions.Create g u) v = small 32 (v x)
shape_itself x (actions.Join k) v = small 64 (v x)
shape_itself x (actions.End u) v = refl
shape_itself x actions.Exit v = refl

-- the answer that a valuation gives is the very word
word_given : (bits : ℕ) (w : BitVector) (n : ℕ) → ((w.width == bits) && nat_lt w.bits (2 ^ bits)) ≡ true → n ≡ w.bits → answers.Word w ≡ answers.Word (word bits (low_bits bits n))
word_given bits w n h e =
    let parts = both_parts (w.width == bits) (nat_lt w.bits (2 ^ bits)) h in
    let wide : w.width ≡ bits = same_number w.width bits parts.0 in
    let same : low_bits bits n ≡ w.bits = ap (low_bits bits) e ∙ low_bits_same bits w.bits (is_below w.bits (2 ^ bits) parts.1) in
    λ i. answers.Word (record { bits = sym same i; width = wide i })

number_given : (bits m n : ℕ) → nat_lt m (2 ^ bits) ≡ true → n ≡ m → m ≡ low_bits bits n
number_given bits m n h e = sym (ap (low_bits bits) e ∙ low_bits_same bits m (is_below m (2 ^ bits) h))

-- the numbers of the variables that give an answer
numbers_of : Answer → ℕ → ℕ
numbers_of answers.Done i = 0
numbers_of (answers.Bytes bs) i = number_is (take 8 (drop (8 * i) bs))
numbers_of (answers.Size n) i = n
numbers_of (answers.Word w) i = w.bits
numbers_of (answers.Number n) i = n
numbers_of (answers.Value n) i = n

abbrev IsGiven : (x : ℕ) → Action → Answer → (ℕ → ℕ) → Type 0
IsGiven x action a v = ((i : ℕ) → i < answer_size action → v (x + i) ≡ numbers_of a i) → a ≡ answer_at v x action

read_given : (x q n : ℕ) (a : Answer) (v : ℕ → ℕ) → has_shape (shape_of (actions.Read q n)) a ≡ true → IsGiven x (actions.Read q n) a v
unfolding numbers_of
read_given x q n (answers.Bytes bs) v shape given =
    let parts = both_parts (length bs == n) (are_bytes bs) shape in
    ap answers.Bytes (sym (words_give v (word_count n) x n bs (same_number (length bs) n parts.0) (words_enough n) parts.1 given))
read_given x q n _ v shape given = absurd (false≢true shape)

draw_given : (x bits : ℕ) (a : Answer) (v : ℕ → ℕ) → has_shape (shape_of (actions.Draw bits)) a ≡ true → IsGiven x (actions.Draw bits) a v
unfolding numbers_of
draw_given x bits (answers.Word w) v shape given = word_given bits w (v x) shape (subst (λ n. v n ≡ w.bits) (first_of x) (given 0 (omega arith)))
draw_given x bits _ v shape given = absurd (false≢true shape)

size_given : (x : ℕ) (a : Answer) (v : ℕ → ℕ) → has_shape size a ≡ true → ((i : ℕ) → i < 1 → v (x + i) ≡ numbers_of a i) → a ≡ answers.Size (low_bits 32 (v x))
unfolding numbers_of
size_given x (answers.Size n) v shape given = ap answers.Size (number_given 32 n (v x) shape (subst (λ m. v m ≡ n) (first_of x) (given 0 (omega arith))))
size_given x _ v shape given = absurd (false≢true shape)

number_is_given : (x : ℕ) (a : Answer) (v : ℕ → ℕ) → has_shape number a ≡ true → ((i : ℕ) → i < 1 → v (x + i) ≡ numbers_of a i) → a ≡ answers.Number (low_bits 32 (v x))
unfolding numbers_of
number_is_given x (answers.Number n) v shape given = ap answers.Number (number_given 32 n (v x) shape (subst (λ m. v m ≡ n) (first_of x) (given 0 (omega arith))))
number_is_given x _ v shape given = absurd (false≢true shape)

value_given : (x : ℕ) (a : Answer) (v : ℕ → ℕ) → has_shape value a ≡ true → ((i : ℕ) → i < 1 → v (x + i) ≡ numbers_of a i) → a ≡ answers.Value (low_bits 64 (v x))
unfolding numbers_of
value_given x (answers.Value n) v shape given = ap answers.Value (number_given 64 n (v x) shape (subst (λ m. v m ≡ n) (first_of x) (given 0 (omega arith))))
value_given x _ v shape given = absurd (false≢true shape)

nothing_given : (a : Answer) → has_shape nothing a ≡ true → a ≡ answers.Done
nothing_given answers.Done shape = refl
nothing_given _ shape = absurd (false≢true shape)

answer_given : (x : ℕ) (action : Action) (a : Answer) (v : ℕ → ℕ) → has_shape (shape_of action) a ≡ true → IsGiven x action a v
answer_given x (actions.Read q n) a v shape = read_given x q n a v shape
answer_given x (actions.Write q new first) a v shape = λ given. nothing_given a shape
answer_given x (actions.Look q subscript) a v shape = size_given x a v shape
answer_given x (actions.Draw bits) a v shape = draw_given x bits a v shape
answer_given x (actions.Alloc object) a v shape = number_is_given x a v shape
answer_given x (actions.Die k) a v shape = λ given. nothing_given a shape
answer_given x (actions.Free q) a v shape = λ given. nothing_given a shape
answer_given x actions.SectionBegin a v shape = λ given. nothing_given a shape
answer_given x actions.SectionEnd a v shape = λ given. nothing_given a shape
answer_given x (actions.Lock q) a v shape = λ given. nothing_given a shape
answer_given x (actions.Unlock q) a v shape = λ given. nothing_given a shape
answer_given x (actions.MutexInit q) a v shape = λ given. nothing_given a shape
answer_given x (actions.MutexDestroy q) a v shape = λ given. nothing_given a shape
answer_given x (actions.Create g u) a v shape = number_is_given x a v shape
answer_given x (actions.Join k) a v shape = value_given x a v shape
answer_given x (actions.End u) a v shape = λ given. nothing_given a shape
answer_given x actions.Exit a v shape = λ given. nothing_given a shape

-- ---- an action

after_accepted : (b : Bool) (follows : Behaviour) (run : List Exchange) (next : Next) → b ≡ true → IsLocalRun follows run next → IsLocalRun (λ answers. if b then follows answers else Blocked) run next
after_accepted b follows run next e h = subst (λ c. IsLocalRun (λ answers. if c then follows answers else Blocked) run next) (sym e) h

-- what follows the answer of the run
after_unless : (b : Bool) (follows : Behaviour) (run : List Exchange) (next : Next) → b ≡ true → IsLocalRun (λ answers. if b then follows answers else Blocked) run next → IsLocalRun follows run next
after_unless b follows run next e h = subst (λ c. IsLocalRun (λ answers. if c then follows answers else Blocked) run next) e h

same_act : (action action' : Action) (line line' f f' : ℕ) → action' ≡ action → line' ≡ line → f' ≡ f → Act action line f ≡ Act action' line' f'
same_act action action' line line' f f' p q r = λ i. Act (sym p i) (sym q i) (sym r i)

-- an exchange of a local run
exchange : (action : Action) (line f : ℕ) (h : Answer → Behaviour) (x : Exchange) (run : List Exchange) (next : Next) → IsLocalRun (ask action line f h) (x ∷ run) next
    → (action ≡ x.action) × (line ≡ x.line) × (f ≡ x.function) × (has_shape (shape_of action) x.answer ≡ true) × IsLocalRun (h x.answer) run next
exchange action line f h x run next is =
    (cc (is.0), cc (is.0), cc (is.0), is.1, after_unless (has_shape (shape_of action) x.answer) (h x.answer) run next is.1 is.2)

module _ (x : ℕ) (action : Action) (line f : ℕ) (g : Answer → Runs) (h : Answer → Behaviour) (fits : (a : Answer) → has_shape (shape_of action) a ≡ true → Fits (x + answer_size action) (g a) (h a)) where
  abbrev pub Asks : Runs
  Asks = λ v. asks action line f (answer_at v x action) (g (answer_at v x action) v)

  ask_gives : (v : ℕ → ℕ) (run : List Exchange) (next : Next) → Begins run next (Asks v) → IsLocalRun (ask action line f h) run next
  ask_gives v [] next begins = begins
  ask_gives v (y ∷ run) next begins =
      let a = answer_at v x action in
      let e : y.answer ≡ a = begins.3 in
      let shape = shape_itself x action v in (
        same_act action y.action line y.line f y.function begins.0 begins.1 begins.2,
        subst (λ b. has_shape (shape_of action) b ≡ true) (sym e) shape,
        subst (λ b. IsLocalRun (λ answers. if has_shape (shape_of action) b then h b answers else Blocked) run next) (sym e)
            (after_accepted (has_shape (shape_of action) a) (h a) run next shape ((fits a shape).gives v run next begins.4)),
      )

  ask_only : (v w : ℕ → ℕ) → SameFrom x v w → Asks v ≡ Asks w
  ask_only v w same =
      let e = answers_same x action v w same in
      let k = (fits (answer_at w x action) (shape_itself x action w)).only v w (λ y l. same y (omega (arith, l))) in
      ap (λ a. asks action line f a (g a v)) e ∙ ap (asks action line f (answer_at w x action)) k

  -- an exchange that a valuation gives, and then the rest by another, patched at the variables of the answer
  ask_has : (run : List Exchange) (next : Next) → IsLocalRun (ask action line f h) run next → (v : ℕ → ℕ) × Begins run next (Asks v)
  ask_has [] next is = ((λ y. 0), is)
  ask_has (y ∷ run) next is =
      let parts = exchange action line f h y run next is in
      let behind = fits y.answer parts.3 in
      let later = behind.has run next parts.4 in
      let n : ℕ → ℕ = numbers_of y.answer in
      let v : ℕ → ℕ = put x (answer_size action) n later.0 in
      let same : y.answer ≡ answer_at v x action = answer_given x action y.answer v parts.3 (put_there x (answer_size action) n later.0) in
      let moved : Begins run next (g y.answer v) = subst (Begins run next) (sym (behind.only v later.0 (put_later x (answer_size action) n later.0))) later.1 in
      (v, (sym parts.0, sym parts.1, sym parts.2, same, subst (λ a. Begins run next (g a v)) same moved))

  pub fits_ask : Fits x Asks (ask action line f h)
  fits_ask = record { only = ask_only; gives = ask_gives; has = ask_has }
