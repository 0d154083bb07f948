-- The answers of a valuation: each action of code is answered by the variables from one on.
use Rattle.std.specs.Prelude.{ℕ, zero, suc, ◌-◌, ◌*◌, min, List, [], ◌∷◌, slice_index}
use Rattle.words.specs.BitVector.{word}
use Rattle.words.specs.Operators.{low_bits}
use Rattle.actions.specs.declared.action.Action.{Action}
use Rattle.actions.specs.declared.action.Action.TheVariants as actions
use Rattle.actions.specs.declared.action.Answer.{Answer}
use Rattle.actions.specs.declared.action.Answer.TheVariants as answers
use Rattle.c_values.specs.Variables.{word_count}
use Rattle.goto_prog.specs.declared.code.Operation.{Operation}
use Rattle.goto_prog.specs.declared.code.Operation.TheVariants as operations
use Rattle.event_forms.specs.Runs.{bytes_of_words}

-- the low bits of variables as so many words: the first variable has this number, and the others have the numbers behind it
abbrev pub words_by : (ℕ → ℕ) → (words variable left : ℕ) → List ℕ
words_by v zero x left = []
words_by v (suc k) x left = low_bits (8 * min 8 left) (v x) ∷ words_by v k (suc x) (left - 8)

-- the answer to an action, of which the first variable has this number
abbrev pub answer_at : (ℕ → ℕ) → (variable : ℕ) → Action → Answer
answer_at v x (actions.Read p n) = answers.Bytes (bytes_of_words n (words_by v (word_count n) x n))
answer_at v x (actions.Write p bytes first) = answers.Done
answer_at v x (actions.Look p subscript) = answers.Size (low_bits 32 (v x))
answer_at v x (actions.Draw bits) = answers.Word (word bits (low_bits bits (v x)))
answer_at v x (actions.Alloc object) = answers.Number (low_bits 32 (v x))
answer_at v x (actions.Die k) = answers.Done
answer_at v x (actions.Free p) = answers.Done
answer_at v x actions.SectionBegin = answers.Done
answer_at v x actions.SectionEnd = answers.Done
answer_at v x (actions.Lock p) = answers.Done
answer_at v x (actions.Unlock p) = answers.Done
answer_at v x (actions.MutexInit p) = answers.Done
answer_at v x (actions.MutexDestroy p) = answers.Done
answer_at v x (actions.Create f w) = answers.Number (low_bits 32 (v x))
answer_at v x (actions.Join k) = answers.Value (low_bits 64 (v x))
answer_at v x (actions.End w) = answers.Done
answer_at v x actions.Exit = answers.Done

-- how many variables that takes
abbrev pub answer_size : Action → ℕ
answer_size (actions.Read p n) = word_count n
answer_size (actions.Write p bytes first) = 0
answer_size (actions.Look p subscript) = 1
answer_size (actions.Draw bits) = 1
answer_size (actions.Alloc object) = 1
answer_size (actions.Die k) = 0
answer_size (actions.Free p) = 0
answer_size actions.SectionBegin = 0
answer_size actions.SectionEnd = 0
answer_size (actions.Lock p) = 0
answer_size (actions.Unlock p) = 0
answer_size (actions.MutexInit p) = 0
answer_size (actions.MutexDestroy p) = 0
answer_size (actions.Create f w) = 1
answer_size (actions.Join k) = 1
answer_size (actions.End w) = 0
answer_size actions.Exit = 0

-- how many variables an operation of code takes, whose blocks have these sizes: the variables of the next operation come behind them
abbrev pub variables_of : (blocks : List ℕ) → Operation → ℕ
variables_of blocks (operations.Constant r bits) = 0
variables_of blocks (operations.Copy r a) = 0
variables_of blocks (operations.Load r t b offset) = 0
variables_of blocks (operations.Store b offset count a) = 0
variables_of blocks (operations.Clear b size) = 0
variables_of blocks (operations.CopyBytes into to from offset count) = 0
variables_of blocks (operations.Convert r from to a) = 0
variables_of blocks (operations.Sign r op t a) = 0
variables_of blocks (operations.Arithmetic r op t u a b) = 0
variables_of blocks (operations.Compare r op t a b) = 0
variables_of blocks (operations.IsZero r a) = 0
variables_of blocks (operations.Skip n) = 0
variables_of blocks (operations.SkipIfZero a n) = 0
variables_of blocks (operations.Check c) = 0
variables_of blocks (operations.Assert a) = 0
variables_of blocks (operations.Assume a) = 0
variables_of blocks (operations.Draw r bits) = 1
variables_of blocks (operations.ReadObject b to k offset count) = word_count count
variables_of blocks (operations.WriteObject k offset b from count) = 0
variables_of blocks operations.Exit = 0
variables_of blocks (operations.Fail class) = 0
variables_of blocks (operations.Use a) = 0
variables_of blocks (operations.Call f first count into r) = 0
variables_of blocks (operations.Return v) = 0
variables_of blocks (operations.Move r p i t n size class) = 0
variables_of blocks (operations.Offset r p count) = 0
variables_of blocks (operations.Same p q) = 0
variables_of blocks (operations.Distance r p q n) = 0
variables_of blocks (operations.Relate r op p q) = 0
variables_of blocks (operations.Take b to from p count whole) = 0
variables_of blocks (operations.Put b p from to count whole) = 0
variables_of blocks (operations.Read b to p count) = word_count count
variables_of blocks (operations.Write p b from count first) = 0
variables_of blocks (operations.Look r p subscript) = 1
variables_of blocks (operations.Fill b r) = word_count (slice_index blocks b)
variables_of blocks (operations.Alloc r b size readonly heap) = 1
variables_of blocks (operations.Die p) = 0
variables_of blocks (operations.Free p) = 0
variables_of blocks (operations.MayFail r) = 0
variables_of blocks (operations.Limit a b) = 0
