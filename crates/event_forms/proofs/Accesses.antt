-- Reads, writes and draws by the table of actions: what each comes to.
use Rattle.std.proofs.Common.{◌≡◌, ℕ, Bool, true, false, not, ◌&&◌, List, length, Option, Some, None, refl, sym, true≢false, eq-eqb}
use Rattle.words.specs.BitVector.{word}
use Rattle.words.specs.declared.check.Class.{Class}
use Rattle.actions.specs.Objects.{Objects, bytes_at, with_bytes, break_in, write_break, unless_changed, after_write}
use Rattle.actions.specs.Memory.{keeps, puts}
use Rattle.actions.specs.Row.{Row, comes, sees_bytes, moves, outcome_in, unless}
use Rattle.actions.specs.declared.action.Action.TheVariants.{Read, Write, Draw}
use Rattle.actions.specs.declared.action.Answer.{Answer}
use Rattle.actions.specs.declared.action.Answer.TheVariants.{Done, Bytes, Word}
use Rattle.event_forms.specs.Accesses.{memory_of, class_in, access_class, same_bytes, has_answer, is_given, objects_behind, stored_by}

-- ---- a read

abbrev reading : ℕ → ℕ → Row
reading p n = sees_bytes p n (λ bytes. comes (moves (Bytes bytes) keeps))

pub read_class : (objects : Objects) (p n : ℕ) (a : Answer) → access_class objects (Read p n) a ≡ break_in objects false p n
read_class objects p n a = by (break_in objects false p n) where
  by : (c : Option Class) → class_in (outcome_in (memory_of objects) (unless c (reading p n))) ≡ c
  by None = refl
  by (Some class) = refl

pub read_stored : (objects : Objects) (p n : ℕ) (a : Answer) → stored_by objects (Read p n) a ≡ objects
read_stored objects p n a = by (break_in objects false p n) where
  by : (c : Option Class) → objects_behind (outcome_in (memory_of objects) (unless c (reading p n))) objects ≡ objects
  by None = refl
  by (Some class) = refl

pub read_given : (objects : Objects) (p n : ℕ) (bs : List ℕ) → break_in objects false p n ≡ None → is_given objects (Read p n) (Bytes bs) ≡ same_bytes bs (bytes_at objects p n)
read_given objects p n bs fine = by (break_in objects false p n) fine where
  by : (c : Option Class) → c ≡ None → has_answer (outcome_in (memory_of objects) (unless c (reading p n))) (Bytes bs) ≡ same_bytes bs (bytes_at objects p n)
  by None fine = refl
  by (Some class) broken = absurd (let wrong : Some class ≡ None = broken in cc)

-- what it is given the store holds
pub read_holds : (objects : Objects) (p n : ℕ) (bs : List ℕ) → is_given objects (Read p n) (Bytes bs) ≡ true → same_bytes bs (bytes_at objects p n) ≡ true
read_holds objects p n bs given = by (break_in objects false p n) given where
  by : (c : Option Class) → has_answer (outcome_in (memory_of objects) (unless c (reading p n))) (Bytes bs) ≡ true → same_bytes bs (bytes_at objects p n) ≡ true
  by None given = given
  by (Some class) given = absurd (true≢false (sym given))

-- ---- a write

abbrev writing : ℕ → List ℕ → Row
writing p new = comes (moves Done (puts p new))

pub write_class : (objects : Objects) (p : ℕ) (new : List ℕ) (first : Bool) (a : Answer) → access_class objects (Write p new first) a ≡ write_break objects p new first
write_class objects p new first a = by (break_in objects (not first) p (length new)) where
  by : (c : Option Class) → class_in (outcome_in (memory_of objects) (unless c (writing p new))) ≡ c
  by None = refl
  by (Some class) = refl

pub write_stored : (objects : Objects) (p : ℕ) (new : List ℕ) (first : Bool) (a : Answer) → stored_by objects (Write p new first) a ≡ after_write objects p new first
write_stored objects p new first a = by (break_in objects (not first) p (length new)) where
  by : (c : Option Class) → objects_behind (outcome_in (memory_of objects) (unless c (writing p new))) objects ≡ unless_changed c objects (with_bytes objects p new)
  by None = refl
  by (Some class) = refl

pub write_given : (objects : Objects) (p : ℕ) (new : List ℕ) (first : Bool) → write_break objects p new first ≡ None → is_given objects (Write p new first) Done ≡ true
write_given objects p new first fine = by (break_in objects (not first) p (length new)) fine where
  by : (c : Option Class) → c ≡ None → has_answer (outcome_in (memory_of objects) (unless c (writing p new))) Done ≡ true
  by None fine = refl
  by (Some class) broken = absurd (let wrong : Some class ≡ None = broken in cc)

-- ---- a draw

pub draw_given : (objects : Objects) (n bits : ℕ) → is_given objects (Draw n) (Word (word n bits)) ≡ true
draw_given objects n bits = λ i. eq-eqb n n refl i && eq-eqb bits bits refl i
