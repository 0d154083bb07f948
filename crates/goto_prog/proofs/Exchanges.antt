-- Operations that make one action and go on behind it, and those that draw several words.
use Rattle.std.proofs.Common.{◌≡◌, ℕ, zero, suc, ◌+◌, ◌-◌, ◌*◌, ◌<◌, ◌≤◌, ◌^◌, nat_lt, Bool, true, false, List, refl, sym, ap, ◌∙◌, arith}
use Rattle.std.specs.Prelude.{slice_index_or, length}
use Rattle.std.proofs.lemmas.Bool.{false≢true}
use Rattle.std.proofs.lemmas.Bool.Decides.{nat_tests}
use Rattle.c_types.specs.declared.integers.IntegerType.{IntegerType}
use Rattle.c_values.specs.Variables.{low_bytes, put_bytes, word_count, drawn_count}
use Rattle.actions.specs.declared.action.Action.TheVariants as actions
use Rattle.actions.specs.declared.action.Answer.{Answer}
use Rattle.goto_prog.specs.declared.code.Operation.{Operation}
use Rattle.goto_prog.specs.declared.code.Operation.TheVariants as operations
use Rattle.goto_prog.specs.Meaning.{Memory, Reading, with_blocks, word_of, first_count, action_of, answered_with, at, fills, fills_on, operates, operates_on}
use Rattle.goto_prog.specs.Fitting.{operation_fits}
use Rattle.goto_prog.specs.Running.{is_exchange, is_fill, acts_on}

module _ {R : Type 0} (o : Reading R) (strict : Bool) (place line f : ℕ) (ps : List (Memory → R)) (m : Memory) where
  -- its action, and what follows the answer
  pub exchanges : (p : Operation) → is_exchange p ≡ true → operates o strict place line f p ps m ≡ o.ask (action_of p m) line f place (λ a. at o ps 0 (answered_with p m a))
  exchanges (operations.Constant r bits) h = absurd (false≢true h)
  exchanges (operations.Copy r a) h = absurd (false≢true h)
  exchanges (operations.Load r t b offset) h = absurd (false≢true h)
  exchanges (operations.Store b offset count a) h = absurd (false≢true h)
  exchanges (operations.Clear b size) h = absurd (false≢true h)
  exchanges (operations.CopyBytes into to from offset count) h = absurd (false≢true h)
  exchanges (operations.Convert r from to a) h = absurd (false≢true h)
  exchanges (operations.Sign r op t a) h = absurd (false≢true h)
  exchanges (operations.Arithmetic r op t u a b) h = absurd (false≢true h)
  exchanges (operations.Compare r op t a b) h = absurd (false≢true h)
  exchanges (operations.IsZero r a) h = absurd (false≢true h)
  exchanges (operations.Skip n) h = absurd (false≢true h)
  exchanges (operations.SkipIfZero a n) h = absurd (false≢true h)
  exchanges (operations.Check c) h = absurd (false≢true h)
  exchanges (operations.Assert a) h = absurd (false≢true h)
  exchanges (operations.Assume a) h = absurd (false≢true h)
  exchanges (operations.Draw r bits) h = refl
  exchanges (operations.ReadObject b to k offset count) h = refl
  exchanges (operations.WriteObject k offset b from count) h = refl
  exchanges operations.Exit h = absurd (false≢true h)
  exchanges (operations.Fail class) h = absurd (false≢true h)
  exchanges (operations.Use a) h = absurd (false≢true h)
  exchanges (operations.Call g first count into r) h = absurd (false≢true h)
  exchanges (operations.Return v) h = absurd (false≢true h)
  exchanges (operations.Move r p i t n size class) h = absurd (false≢true h)
  exchanges (operations.Offset r p count) h = absurd (false≢true h)
  exchanges (operations.Same p q) h = absurd (false≢true h)
  exchanges (operations.Distance r p q n) h = absurd (false≢true h)
  exchanges (operations.Relate r op p q) h = absurd (false≢true h)
  exchanges (operations.Take b to from p count whole) h = absurd (false≢true h)
  exchanges (operations.Put b p from to count whole) h = absurd (false≢true h)
  exchanges (operations.Read b to p count) h = refl
  exchanges (operations.Write p b from count first) h = refl
  exchanges (operations.Look r p subscript) h = refl
  exchanges (operations.Fill b r) h = absurd (false≢true h)
  exchanges (operations.Alloc r b size readonly heap) h = refl
  exchanges (operations.Die p) h = refl
  exchanges (operations.Free p) h = refl
  exchanges (operations.MayFail r) h = absurd (false≢true h)
  exchanges (operations.Limit a b) h = absurd (false≢true h)

  -- words that have been drawn make a difference only where words are drawn
  pub on_none : (p : Operation) → operates o strict place line f p ps m ≡ operates_on o 0 strict place line f p ps m
  on_none (operations.Constant r bits) = refl
  on_none (operations.Copy r a) = refl
  on_none (operations.Load r t b offset) = refl
  on_none (operations.Store b offset count a) = refl
  on_none (operations.Clear b size) = refl
  on_none (operations.CopyBytes into to from offset count) = refl
  on_none (operations.Convert r from to a) = refl
  on_none (operations.Sign r op t a) = refl
  on_none (operations.Arithmetic r op t u a b) = refl
  on_none (operations.Compare r op t a b) = refl
  on_none (operations.IsZero r a) = refl
  on_none (operations.Skip n) = refl
  on_none (operations.SkipIfZero a n) = refl
  on_none (operations.Check c) = refl
  on_none (operations.Assert a) = refl
  on_none (operations.Assume a) = refl
  on_none (operations.Draw r bits) = refl
  on_none (operations.ReadObject b to k offset count) = refl
  on_none (operations.WriteObject k offset b from count) = refl
  on_none operations.Exit = refl
  on_none (operations.Fail class) = refl
  on_none (operations.Use a) = refl
  on_none (operations.Call g first count into r) = refl
  on_none (operations.Return v) = refl
  on_none (operations.Move r p i t n size class) = refl
  on_none (operations.Offset r p count) = refl
  on_none (operations.Same p q) = refl
  on_none (operations.Distance r p q n) = refl
  on_none (operations.Relate r op p q) = refl
  on_none (operations.Take b to from p count whole) = refl
  on_none (operations.Put b p from to count whole) = refl
  on_none (operations.Read b to p count) = refl
  on_none (operations.Write p b from count first) = refl
  on_none (operations.Look r p subscript) = refl
  on_none (operations.Fill b r) = refl
  on_none (operations.Alloc r b size readonly heap) = refl
  on_none (operations.Die p) = refl
  on_none (operations.Free p) = refl
  on_none (operations.MayFail r) = refl
  on_none (operations.Limit a b) = refl

  pub on_other : (words : ℕ) (p : Operation) → is_fill p ≡ false → operates_on o words strict place line f p ps m ≡ operates o strict place line f p ps m
  on_other words (operations.Constant r bits) h = refl
  on_other words (operations.Copy r a) h = refl
  on_other words (operations.Load r t b offset) h = refl
  on_other words (operations.Store b offset count a) h = refl
  on_other words (operations.Clear b size) h = refl
  on_other words (operations.CopyBytes into to from offset count) h = refl
  on_other words (operations.Convert r from to a) h = refl
  on_other words (operations.Sign r op t a) h = refl
  on_other words (operations.Arithmetic r op t u a b) h = refl
  on_other words (operations.Compare r op t a b) h = refl
  on_other words (operations.IsZero r a) h = refl
  on_other words (operations.Skip n) h = refl
  on_other words (operations.SkipIfZero a n) h = refl
  on_other words (operations.Check c) h = refl
  on_other words (operations.Assert a) h = refl
  on_other words (operations.Assume a) h = refl
  on_other words (operations.Draw r bits) h = refl
  on_other words (operations.ReadObject b to k offset count) h = refl
  on_other words (operations.WriteObject k offset b from count) h = refl
  on_other words operations.Exit h = refl
  on_other words (operations.Fail class) h = refl
  on_other words (operations.Use a) h = refl
  on_other words (operations.Call g first count into r) h = refl
  on_other words (operations.Return v) h = refl
  on_other words (operations.Move r p i t n size class) h = refl
  on_other words (operations.Offset r p count) h = refl
  on_other words (operations.Same p q) h = refl
  on_other words (operations.Distance r p q n) h = refl
  on_other words (operations.Relate r op p q) h = refl
  on_other words (operations.Take b to from p count whole) h = refl
  on_other words (operations.Put b p from to count whole) h = refl
  on_other words (operations.Read b to p count) h = refl
  on_other words (operations.Write p b from count first) h = refl
  on_other words (operations.Look r p subscript) h = refl
  on_other words (operations.Fill b r) h = absurd (false≢true (sym h))
  on_other words (operations.Alloc r b size readonly heap) h = refl
  on_other words (operations.Die p) h = refl
  on_other words (operations.Free p) h = refl
  on_other words (operations.MayFail r) h = refl
  on_other words (operations.Limit a b) h = refl

pub not_fill : (p : Operation) → ((b r : ℕ) → p ≡ operations.Fill b r → ⊥) → is_fill p ≡ false
not_fill (operations.Constant r bits) h = refl
not_fill (operations.Copy r a) h = refl
not_fill (operations.Load r t b offset) h = refl
not_fill (operations.Store b offset count a) h = refl
not_fill (operations.Clear b size) h = refl
not_fill (operations.CopyBytes into to from offset count) h = refl
not_fill (operations.Convert r from to a) h = refl
not_fill (operations.Sign r op t a) h = refl
not_fill (operations.Arithmetic r op t u a b) h = refl
not_fill (operations.Compare r op t a b) h = refl
not_fill (operations.IsZero r a) h = refl
not_fill (operations.Skip n) h = refl
not_fill (operations.SkipIfZero a n) h = refl
not_fill (operations.Check c) h = refl
not_fill (operations.Assert a) h = refl
not_fill (operations.Assume a) h = refl
not_fill (operations.Draw r bits) h = refl
not_fill (operations.ReadObject b to k offset count) h = refl
not_fill (operations.WriteObject k offset b from count) h = refl
not_fill operations.Exit h = refl
not_fill (operations.Fail class) h = refl
not_fill (operations.Use a) h = refl
not_fill (operations.Call g first count into r) h = refl
not_fill (operations.Return v) h = refl
not_fill (operations.Move r p i t n size class) h = refl
not_fill (operations.Offset r p count) h = refl
not_fill (operations.Same p q) h = refl
not_fill (operations.Distance r p q n) h = refl
not_fill (operations.Relate r op p q) h = refl
not_fill (operations.Take b to from p count whole) h = refl
not_fill (operations.Put b p from to count whole) h = refl
not_fill (operations.Read b to p count) h = refl
not_fill (operations.Write p b from count first) h = refl
not_fill (operations.Look r p subscript) h = refl
not_fill (operations.Fill b r) h = absurd (h b r refl)
not_fill (operations.Alloc r b size readonly heap) h = refl
not_fill (operations.Die p) h = refl
not_fill (operations.Free p) h = refl
not_fill (operations.MayFail r) h = refl
not_fill (operations.Limit a b) h = refl

-- no exchange draws several words
pub exchange_single : (p : Operation) → is_exchange p ≡ true → is_fill p ≡ false
exchange_single (operations.Constant r bits) h = refl
exchange_single (operations.Copy r a) h = refl
exchange_single (operations.Load r t b offset) h = refl
exchange_single (operations.Store b offset count a) h = refl
exchange_single (operations.Clear b size) h = refl
exchange_single (operations.CopyBytes into to from offset count) h = refl
exchange_single (operations.Convert r from to a) h = refl
exchange_single (operations.Sign r op t a) h = refl
exchange_single (operations.Arithmetic r op t u a b) h = refl
exchange_single (operations.Compare r op t a b) h = refl
exchange_single (operations.IsZero r a) h = refl
exchange_single (operations.Skip n) h = refl
exchange_single (operations.SkipIfZero a n) h = refl
exchange_single (operations.Check c) h = refl
exchange_single (operations.Assert a) h = refl
exchange_single (operations.Assume a) h = refl
exchange_single (operations.Draw r bits) h = refl
exchange_single (operations.ReadObject b to k offset count) h = refl
exchange_single (operations.WriteObject k offset b from count) h = refl
exchange_single operations.Exit h = refl
exchange_single (operations.Fail class) h = refl
exchange_single (operations.Use a) h = refl
exchange_single (operations.Call g first count into r) h = refl
exchange_single (operations.Return v) h = refl
exchange_single (operations.Move r p i t n size class) h = refl
exchange_single (operations.Offset r p count) h = refl
exchange_single (operations.Same p q) h = refl
exchange_single (operations.Distance r p q n) h = refl
exchange_single (operations.Relate r op p q) h = refl
exchange_single (operations.Take b to from p count whole) h = refl
exchange_single (operations.Put b p from to count whole) h = refl
exchange_single (operations.Read b to p count) h = refl
exchange_single (operations.Write p b from count first) h = refl
exchange_single (operations.Look r p subscript) h = refl
exchange_single (operations.Fill b r) h = absurd (false≢true h)
exchange_single (operations.Alloc r b size readonly heap) h = refl
exchange_single (operations.Die p) h = refl
exchange_single (operations.Free p) h = refl
exchange_single (operations.MayFail r) h = refl
exchange_single (operations.Limit a b) h = refl

-- what acts in one step is an exchange, but for the end of the process
pub acts_exchange : (words : ℕ) (p : Operation) (m : Memory) → ((b r : ℕ) → p ≡ operations.Fill b r → ⊥) → (p ≡ operations.Exit → ⊥) → acts_on words p m ≡ true → is_exchange p ≡ true
acts_exchange words (operations.Constant r bits) m one two h = h
acts_exchange words (operations.Copy r a) m one two h = h
acts_exchange words (operations.Load r t b offset) m one two h = h
acts_exchange words (operations.Store b offset count a) m one two h = h
acts_exchange words (operations.Clear b size) m one two h = h
acts_exchange words (operations.CopyBytes into to from offset count) m one two h = h
acts_exchange words (operations.Convert r from to a) m one two h = h
acts_exchange words (operations.Sign r op t a) m one two h = h
acts_exchange words (operations.Arithmetic r op t u a b) m one two h = h
acts_exchange words (operations.Compare r op t a b) m one two h = h
acts_exchange words (operations.IsZero r a) m one two h = h
acts_exchange words (operations.Skip n) m one two h = h
acts_exchange words (operations.SkipIfZero a n) m one two h = h
acts_exchange words (operations.Check c) m one two h = h
acts_exchange words (operations.Assert a) m one two h = h
acts_exchange words (operations.Assume a) m one two h = h
acts_exchange words (operations.Draw r bits) m one two h = h
acts_exchange words (operations.ReadObject b to k offset count) m one two h = h
acts_exchange words (operations.WriteObject k offset b from count) m one two h = h
acts_exchange words operations.Exit m one two h = absurd (two refl)
acts_exchange words (operations.Fail class) m one two h = h
acts_exchange words (operations.Use a) m one two h = h
acts_exchange words (operations.Call g first count into r) m one two h = h
acts_exchange words (operations.Return v) m one two h = h
acts_exchange words (operations.Move r p i t n size class) m one two h = h
acts_exchange words (operations.Offset r p count) m one two h = h
acts_exchange words (operations.Same p q) m one two h = h
acts_exchange words (operations.Distance r p q n) m one two h = h
acts_exchange words (operations.Relate r op p q) m one two h = h
acts_exchange words (operations.Take b to from p count whole) m one two h = h
acts_exchange words (operations.Put b p from to count whole) m one two h = h
acts_exchange words (operations.Read b to p count) m one two h = h
acts_exchange words (operations.Write p b from count first) m one two h = h
acts_exchange words (operations.Look r p subscript) m one two h = h
acts_exchange words (operations.Fill b r) m one two h = absurd (one b r refl)
acts_exchange words (operations.Alloc r b size readonly heap) m one two h = h
acts_exchange words (operations.Die p) m one two h = h
acts_exchange words (operations.Free p) m one two h = h
acts_exchange words (operations.MayFail r) m one two h = h
acts_exchange words (operations.Limit a b) m one two h = h

pub exchange_acts : (words : ℕ) (p : Operation) (m : Memory) → is_exchange p ≡ true → acts_on words p m ≡ true
exchange_acts words (operations.Constant r bits) m h = h
exchange_acts words (operations.Copy r a) m h = h
exchange_acts words (operations.Load r t b offset) m h = h
exchange_acts words (operations.Store b offset count a) m h = h
exchange_acts words (operations.Clear b size) m h = h
exchange_acts words (operations.CopyBytes into to from offset count) m h = h
exchange_acts words (operations.Convert r from to a) m h = h
exchange_acts words (operations.Sign r op t a) m h = h
exchange_acts words (operations.Arithmetic r op t u a b) m h = h
exchange_acts words (operations.Compare r op t a b) m h = h
exchange_acts words (operations.IsZero r a) m h = h
exchange_acts words (operations.Skip n) m h = h
exchange_acts words (operations.SkipIfZero a n) m h = h
exchange_acts words (operations.Check c) m h = h
exchange_acts words (operations.Assert a) m h = h
exchange_acts words (operations.Assume a) m h = h
exchange_acts words (operations.Draw r bits) m h = h
exchange_acts words (operations.ReadObject b to k offset count) m h = h
exchange_acts words (operations.WriteObject k offset b from count) m h = h
exchange_acts words operations.Exit m h = absurd (false≢true h)
exchange_acts words (operations.Fail class) m h = h
exchange_acts words (operations.Use a) m h = h
exchange_acts words (operations.Call g first count into r) m h = h
exchange_acts words (operations.Return v) m h = h
exchange_acts words (operations.Move r p i t n size class) m h = h
exchange_acts words (operations.Offset r p count) m h = h
exchange_acts words (operations.Same p q) m h = h
exchange_acts words (operations.Distance r p q n) m h = h
exchange_acts words (operations.Relate r op p q) m h = h
exchange_acts words (operations.Take b to from p count whole) m h = h
exchange_acts words (operations.Put b p from to count whole) m h = h
exchange_acts words (operations.Read b to p count) m h = h
exchange_acts words (operations.Write p b from count first) m h = h
exchange_acts words (operations.Look r p subscript) m h = h
exchange_acts words (operations.Fill b r) m h = absurd (false≢true h)
exchange_acts words (operations.Alloc r b size readonly heap) m h = h
exchange_acts words (operations.Die p) m h = h
exchange_acts words (operations.Free p) m h = h
exchange_acts words (operations.MayFail r) m h = h
exchange_acts words (operations.Limit a b) m h = h

-- what an exchange needs of the code is no matter of the places behind it
pub exchange_fits : (rs : List IntegerType) (bs : List ℕ) (n : ℕ) (p : Operation) → is_exchange p ≡ true → operation_fits rs bs n p ≡ true → operation_fits rs bs 0 p ≡ true
exchange_fits rs bs n (operations.Constant r bits) h fits = fits
exchange_fits rs bs n (operations.Copy r a) h fits = fits
exchange_fits rs bs n (operations.Load r t b offset) h fits = fits
exchange_fits rs bs n (operations.Store b offset count a) h fits = fits
exchange_fits rs bs n (operations.Clear b size) h fits = fits
exchange_fits rs bs n (operations.CopyBytes into to from offset count) h fits = fits
exchange_fits rs bs n (operations.Convert r from to a) h fits = fits
exchange_fits rs bs n (operations.Sign r op t a) h fits = fits
exchange_fits rs bs n (operations.Arithmetic r op t u a b) h fits = fits
exchange_fits rs bs n (operations.Compare r op t a b) h fits = fits
exchange_fits rs bs n (operations.IsZero r a) h fits = fits
exchange_fits rs bs n (operations.Skip k) h fits = absurd (false≢true h)
exchange_fits rs bs n (operations.SkipIfZero a k) h fits = absurd (false≢true h)
exchange_fits rs bs n (operations.Check c) h fits = fits
exchange_fits rs bs n (operations.Assert a) h fits = fits
exchange_fits rs bs n (operations.Assume a) h fits = fits
exchange_fits rs bs n (operations.Draw r bits) h fits = fits
exchange_fits rs bs n (operations.ReadObject b to k offset count) h fits = fits
exchange_fits rs bs n (operations.WriteObject k offset b from count) h fits = fits
exchange_fits rs bs n operations.Exit h fits = fits
exchange_fits rs bs n (operations.Fail class) h fits = fits
exchange_fits rs bs n (operations.Use a) h fits = fits
exchange_fits rs bs n (operations.Call g first count into r) h fits = fits
exchange_fits rs bs n (operations.Return v) h fits = fits
exchange_fits rs bs n (operations.Move r p i t k size class) h fits = fits
exchange_fits rs bs n (operations.Offset r p count) h fits = fits
exchange_fits rs bs n (operations.Same p q) h fits = fits
exchange_fits rs bs n (operations.Distance r p q k) h fits = fits
exchange_fits rs bs n (operations.Relate r op p q) h fits = fits
exchange_fits rs bs n (operations.Take b to from p count whole) h fits = fits
exchange_fits rs bs n (operations.Put b p from to count whole) h fits = fits
exchange_fits rs bs n (operations.Read b to p count) h fits = fits
exchange_fits rs bs n (operations.Write p b from count first) h fits = fits
exchange_fits rs bs n (operations.Look r p subscript) h fits = fits
exchange_fits rs bs n (operations.Fill b r) h fits = fits
exchange_fits rs bs n (operations.Alloc r b size readonly heap) h fits = fits
exchange_fits rs bs n (operations.Die p) h fits = fits
exchange_fits rs bs n (operations.Free p) h fits = fits
exchange_fits rs bs n (operations.MayFail r) h fits = fits
exchange_fits rs bs n (operations.Limit a b) h fits = fits

-- ---- words

less : (count words : ℕ) → count ≤ words → count - words ≡ 0
less count words past = omega (arith, past)

one_more : (count words : ℕ) → words < count → count - words ≡ suc (count - (words + 1))
one_more count words more = omega (arith, more)

eight_more : (words : ℕ) → 8 * words + 8 ≡ 8 * (words + 1)
eight_more words = omega arith

-- the memory behind a word
abbrev pub word_taken : Memory → (b size words : ℕ) → Answer → Memory
word_taken m b size words a = with_blocks m (put_bytes m.blocks b (8 * words) (low_bytes (drawn_count size (8 * words)) (word_of a)))

module _ {R : Type 0} (o : Reading R) (place line f b r : ℕ) (ps : List (Memory → R)) (m : Memory) where
  pub nothing_left : (words : ℕ) → word_count (first_count m b r) ≤ words → fills_on o words place line f b r ps m ≡ at o ps 0 m
  nothing_left words past = let size = first_count m b r in ap (λ k. fills o k place line f b size (8 * words) ps m) (less (word_count size) words past)

  pub word_left : (words : ℕ) → words < word_count (first_count m b r)
      → (let size = first_count m b r in fills_on o words place line f b r ps m
      ≡ o.ask (actions.Draw (8 * drawn_count size (8 * words))) line f place (λ a. fills o (word_count size - (words + 1)) place line f b size (8 * words + 8) ps (word_taken m b size words a)))
  word_left words more = let size = first_count m b r in ap (λ k. fills o k place line f b size (8 * words) ps m) (one_more (word_count size) words more)

  pub words_behind : (words : ℕ) (new : Memory) → first_count new b r ≡ first_count m b r
      → (let size = first_count m b r in fills o (word_count size - (words + 1)) place line f b size (8 * words + 8) ps new ≡ fills_on o (words + 1) place line f b r ps new)
  words_behind words new same =
      let size = first_count m b r in
      ap (λ n. fills o (word_count size - (words + 1)) place line f b size n ps new) (eight_more words)
      ∙ ap (λ n. fills o (word_count n - (words + 1)) place line f b n (8 * (words + 1)) ps new) (sym same)
