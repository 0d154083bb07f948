-- A walk over the events of a form with a store beside it, in which words and turns are collected up to the break.
use Rattle.std.specs.Prelude.{◌≡◌, ◌+◌, ◌*◌, ℕ, zero, suc, Bool, true, false, List, [], ◌∷◌, ◌++◌, length, replicate, Option, Some, None}
use Rattle.words.specs.Operators.{low_bits}
use Rattle.words.specs.declared.check.Class.{Class}
use Rattle.words.specs.declared.check.Check.{Check}
use Rattle.actions.specs.Objects.{Objects}
use Rattle.actions.specs.Behaviour.{word_64}
use Rattle.actions.specs.declared.action.Next.TheVariants.{Ended}
use Rattle.c_values.specs.Variables.{drawn_count}
use Rattle.event_forms.specs.declared.forms.EventKind.{EventKind}
use Rattle.event_forms.specs.declared.forms.EventKind.TheVariants.{Draw, Fill, Read, Write, Look, Alloc, Die, Free, Exit, Check as Checks, Assume}
use Rattle.event_forms.specs.Runs.{Run, stops}
use Rattle.event_forms.specs.Arrivals.{Seen, asked, stopped, read}
use Rattle.event_forms.specs.Accesses.{access_class, stored_by, checked, behind}
use Rattle.event_forms.specs.Happenings.{words_given}
use Rattle.event_forms.specs.Turns.{breaks, drawn_words, turns, broken_check}
use Rattle.trace_build.specs.declared.walking.Walk.{Walk}

-- with these words and turns collected, the run `left` is what is left of the whole one, which breaks a check
pub record IsWalk (whole left : Run) (words schedule : List ℕ) : Type 0 where
  pub breaks_later : breaks left ≡ true
  pub words_are : words ++ drawn_words left ≡ drawn_words whole
  pub turns_are : schedule ++ turns left ≡ turns whole
  pub check_is : broken_check left ≡ broken_check whole

-- all is collected
pub record IsEnd (whole : Run) (words schedule : List ℕ) (check : Check) : Type 0 where
  pub words_are : words ≡ drawn_words whole
  pub turns_are : schedule ≡ turns whole
  pub check_is : check ≡ broken_check whole

-- at the check that breaks all is collected, else the walk goes on
abbrev pub WalksOn : Option Check → Run → Run → List ℕ → List ℕ → Type 0
WalksOn None whole left words schedule = IsWalk whole left words schedule
WalksOn (Some check) whole left words schedule = IsEnd whole words schedule check

-- the run that is told from a store on
abbrev pub run_from : Objects → List Seen → Run
run_from objects told = checked objects (read told (stops (Ended (word_64 0))))

-- this is told: the store is the one behind it, and what is collected goes on to what is told later
pub record Steps (told : List Seen) (found : Option Check) (old new : Walk) : Type 0 where
  pub store_is : new.store ≡ behind old.store told
  pub goes : (whole : Run) (more : List Seen) → IsWalk whole (run_from old.store (told ++ more)) old.words.items old.turns.items → WalksOn found whole (run_from new.store more) new.words.items new.turns.items

-- ---- one event

-- its action is an access to the store, or makes or ends an object
abbrev pub is_access : EventKind → Bool
is_access (Draw bits answer) = false
is_access (Fill count most words) = false
is_access (Read pointer count answer) = true
is_access (Write pointer bytes first) = true
is_access (Look pointer subscript answer) = true
is_access (Alloc size bytes readonly heap answer) = true
is_access (Die pointer) = true
is_access (Free pointer) = true
is_access Exit = false
is_access (Checks class failing) = false
is_access (Assume failing) = false

-- what is told is one action, of this line and function, which breaks this class, draws no word, and leaves this store
abbrev pub Accesses : (line function : ℕ) → List Seen → Objects → Objects → Option Class → Type 0
Accesses line function [] old new class = ⊥
Accesses line function (stopped end ∷ told) old new class = ⊥
Accesses line function (asked action l f a ∷ []) old new class = (l ≡ line) × (f ≡ function) × (class ≡ access_class old action a) × (new ≡ stored_by old action a) × ((words : List ℕ) → words_given a words ≡ words)
Accesses line function (asked action l f a ∷ (more ∷ told)) old new class = ⊥

-- the words of so many draws for bytes of which there are `size`, from an offset on, each cut to its bytes
abbrev pub cut_words : (words size offset : ℕ) → List ℕ → List ℕ
cut_words zero size offset ws = []
cut_words (suc k) size offset [] = []
cut_words (suc k) size offset (w ∷ ws) = low_bits (8 * drawn_count size offset) w ∷ cut_words k size (offset + 8) ws

-- a turn for each
abbrev pub turns_for : List ℕ → List ℕ
turns_for ws = replicate (length ws) 0
