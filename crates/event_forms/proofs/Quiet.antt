-- Actions of which the only thread of a file never waits: what the table of actions says of them.
use Rattle.std.proofs.Common.{◌≡◌, ◌<◌, ◌^◌, ℕ, suc, Bool, true, false, List, length, Option, Some, None, refl, sym, ◌∙◌, ap, subst, arith, true≢false, inl, inr}
use Rattle.std.specs.Prelude.{◌⊎◌, nat_lt, ◌==◌, ◌&&◌, IfSome, if◌then◌else◌, Result, Ok, Err}
use Rattle.std.proofs.lemmas.Bool.Decides.{nat_tests}
use Rattle.words.specs.BitVector.{word}
use Rattle.words.specs.declared.check.Class.{Class}
use Rattle.words.specs.declared.check.Class.TheVariants as classes
use Rattle.actions.specs.ByteList.{are_bytes}
use Rattle.actions.specs.Pointer.{object_of}
use Rattle.actions.specs.StoredObject.{StoredObject, as_live, as_dead}
use Rattle.actions.specs.States.{is_absent, state_of, dead, live}
use Rattle.actions.specs.Access.{look, size_in, can_free}
use Rattle.actions.specs.Objects.{Objects, object_at, state_at, with_new, with_bytes, bytes_at, break_in, write_break, unless_changed}
use Rattle.actions.specs.Memory.{Change, keeps, adds, kills, puts, starts, ends}
use Rattle.actions.specs.AccessRows.{looked}
use Rattle.actions.specs.Row.{Outcome, breaks, waits, moves, outcome_in, comes, sees_bytes, sees_object, unless}
use Rattle.actions.specs.Table.{row, mode_of, plain}
use Rattle.actions.specs.declared.action.Action.{Action}
use Rattle.actions.specs.declared.action.Action.TheVariants as actions
use Rattle.actions.specs.declared.action.Answer.{Answer}
use Rattle.actions.specs.declared.action.Answer.TheVariants as answers
use Rattle.actions.specs.Behaviour.{has_shape, shape_of}
use Rattle.event_forms.specs.Accesses.{HoldsBytes, memory_of, own_by, class_in, same_answer, objects_behind}
use Rattle.event_forms.proofs.Stores.{left_true, right_true, same_itself, bytes_same, bytes_fit, holds_at, dead_holds, live_holds, IsStore, changed_store, changed_at_long, new_store, new_long, write_store, write_long}

-- ---- answers

number_itself : (n : ℕ) → (n == n) ≡ true
number_itself n = grind (arith, nat_tests)

number_same : (m n : ℕ) → (m == n) ≡ true → m ≡ n
number_same m n h = grind (arith, nat_tests)

pub answer_itself : (a : Answer) → same_answer a a ≡ true
answer_itself answers.Done = refl
answer_itself (answers.Bytes bs) = same_itself bs
answer_itself (answers.Size n) = number_itself n
answer_itself (answers.Word w) = λ i. number_itself w.width i && number_itself w.bits i
answer_itself (answers.Number n) = number_itself n
answer_itself (answers.Value v) = number_itself v

pub answer_same : (a b : Answer) → same_answer a b ≡ true → a ≡ b
answer_same answers.Done answers.Done h = refl
answer_same (answers.Bytes bs) (answers.Bytes cs) h = ap answers.Bytes (bytes_same bs cs h)
answer_same (answers.Size m) (answers.Size n) h = ap answers.Size (number_same m n h)
answer_same (answers.Word v) (answers.Word w) h =
    let wide = number_same v.width w.width (left_true (v.width == w.width) (v.bits == w.bits) h) in
    let bits = number_same v.bits w.bits (right_true (v.width == w.width) (v.bits == w.bits) h) in
    λ i. answers.Word (record { bits = bits i; width = wide i })
answer_same (answers.Number m) (answers.Number n) h = ap answers.Number (number_same m n h)
answer_same (answers.Value v) (answers.Value w) h = ap answers.Value (number_same v w h)
answer_same _ _ h = absurd (true≢false (sym h))

-- ---- the actions

-- what is written and what is made are bytes
abbrev pub IsQuietAction : Action → Type 0
IsQuietAction (actions.Read p n) = Unit {0}
IsQuietAction (actions.Write p bytes first) = are_bytes bytes ≡ true
IsQuietAction (actions.Look p subscript) = Unit {0}
IsQuietAction (actions.Draw n) = Unit {0}
IsQuietAction (actions.Alloc o) = HoldsBytes o
IsQuietAction (actions.Die k) = Unit {0}
IsQuietAction (actions.Free p) = Unit {0}
IsQuietAction actions.Exit = Unit {0}
IsQuietAction _ = ⊥

pub quiet_mode : (action : Action) → IsQuietAction action → (mode_of action ≡ plain) ⊎ (action ≡ actions.Exit)
quiet_mode (actions.Read p n) quiet = inl refl
quiet_mode (actions.Write p bytes first) quiet = inl refl
quiet_mode (actions.Look p subscript) quiet = inl refl
quiet_mode (actions.Draw n) quiet = inl refl
quiet_mode (actions.Alloc o) quiet = inl refl
quiet_mode (actions.Die k) quiet = inl refl
quiet_mode (actions.Free p) quiet = inl refl
quiet_mode actions.Exit quiet = inr refl
quiet_mode _ quiet = absurd quiet

-- so many objects, and the one that it makes
abbrev pub more : Action → ℕ → ℕ
more (actions.Alloc o) n = suc n
more _ n = n

-- ---- what comes of it

abbrev pub outcome_with : Objects → (own : ℕ) → Action → Outcome
outcome_with objects own action = outcome_in (memory_of objects) (row 0 own action)

module _ (objects : Objects) (P : Outcome → Type 0) where
  pub read_cases : (p n : ℕ) → ((class : Class) → P (breaks class)) → (break_in objects false p n ≡ None → P (moves (answers.Bytes (bytes_at objects p n)) keeps)) → (own : ℕ) → P (outcome_with objects own (actions.Read p n))
  read_cases p n broken fine own = by (break_in objects false p n) refl
    where
      by : (c : Option Class) → break_in objects false p n ≡ c → P (outcome_in (memory_of objects) (unless c (sees_bytes p n (λ bytes. comes (moves (answers.Bytes bytes) keeps)))))
      by None is = fine is
      by (Some class) is = broken class

  pub write_cases : (p : ℕ) (new : List ℕ) (first : Bool) → ((class : Class) → P (breaks class)) → P (moves answers.Done (puts p new)) → (own : ℕ) → P (outcome_with objects own (actions.Write p new first))
  write_cases p new first broken fine own = by (write_break objects p new first)
    where
      by : (c : Option Class) → P (outcome_in (memory_of objects) (unless c (comes (moves answers.Done (puts p new)))))
      by None = fine
      by (Some class) = broken class

  pub look_cases : (p : ℕ) (subscript : Bool) → ((class : Class) → P (breaks class)) → ((size : ℕ) → look p (state_at objects (object_of p)) ≡ Ok size → P (moves (answers.Size size) keeps)) → (own : ℕ) → P (outcome_with objects own (actions.Look p subscript))
  look_cases p subscript broken fine own = by (look p (state_at objects (object_of p))) refl
    where
      by : (r : Result ℕ Class) → look p (state_at objects (object_of p)) ≡ r → P (looked subscript r)
      by (Ok size) is = fine size is
      by (Err class) is = broken (if subscript then class else classes.Pointer)

  pub die_cases : (k : ℕ) → P (moves answers.Done keeps) → P (moves answers.Done (kills k)) → (own : ℕ) → P (outcome_with objects own (actions.Die k))
  die_cases k none dies own = by (is_absent (state_at objects k))
    where
      by : (b : Bool) → P (moves answers.Done (if b then keeps else kills k))
      by true = none
      by false = dies

  pub free_cases : (p : ℕ) → P (moves answers.Done keeps) → ((class : Class) → P (breaks class)) → P (moves answers.Done (kills (object_of p))) → (own : ℕ) → P (outcome_with objects own (actions.Free p))
  free_cases p null broken dies own = by (p == 0)
    where
      freed : (b : Bool) → P (if b then moves answers.Done (kills (object_of p)) else breaks classes.Free)
      freed true = dies
      freed false = broken classes.Free

      by : (b : Bool) → P (outcome_in (memory_of objects) (if b then comes (moves answers.Done keeps) else sees_object (object_of p) (λ state. comes (if can_free p state then moves answers.Done (kills (object_of p)) else breaks classes.Free))))
      by true = null
      by false = freed (can_free p (state_at objects (object_of p)))

-- ---- the class that it breaks, which the thread's own record says nothing of

pub class_own : (objects : Objects) (action : Action) → IsQuietAction action → (own other : ℕ) → class_in (outcome_with objects own action) ≡ class_in (outcome_with objects other action)
class_own objects (actions.Read p n) quiet own other = refl
class_own objects (actions.Write p bytes first) quiet own other = refl
class_own objects (actions.Look p subscript) quiet own other = refl
class_own objects (actions.Draw n) quiet own other = refl
class_own objects (actions.Alloc o) quiet own other = refl
class_own objects (actions.Die k) quiet own other = refl
class_own objects (actions.Free p) quiet own other = refl
class_own objects actions.Exit quiet own other = refl
class_own objects _ quiet own other = absurd quiet

-- two records give the same to it
abbrev pub SameOwn : Action → ℕ → ℕ → Type 0
SameOwn (actions.Draw n) own other = own ≡ other
SameOwn (actions.Alloc o) own other = own ≡ other
SameOwn _ own other = Unit {0}

pub outcome_own : (objects : Objects) (action : Action) → IsQuietAction action → (own other : ℕ) → SameOwn action own other → outcome_with objects own action ≡ outcome_with objects other action
outcome_own objects (actions.Read p n) quiet own other same = refl
outcome_own objects (actions.Write p bytes first) quiet own other same = refl
outcome_own objects (actions.Look p subscript) quiet own other same = refl
outcome_own objects (actions.Draw n) quiet own other same = ap (λ k. outcome_with objects k (actions.Draw n)) same
outcome_own objects (actions.Alloc o) quiet own other same = ap (λ k. outcome_with objects k (actions.Alloc o)) same
outcome_own objects (actions.Die k) quiet own other same = refl
outcome_own objects (actions.Free p) quiet own other same = refl
outcome_own objects actions.Exit quiet own other same = refl
outcome_own objects _ quiet own other same = absurd quiet

-- ---- it doesn't wait, and changes objects alone

abbrev pub IsOfObjects : Change → Type 0
IsOfObjects keeps = Unit {0}
IsOfObjects (adds number o) = Unit {0}
IsOfObjects (kills number) = Unit {0}
IsOfObjects (puts p bytes) = Unit {0}
IsOfObjects (starts number function value) = ⊥
IsOfObjects (ends number value) = ⊥

abbrev pub IsPossible : Outcome → Type 0
IsPossible (breaks class) = Unit {0}
IsPossible waits = ⊥
IsPossible (moves answer change) = IsOfObjects change

pub possible : (objects : Objects) (action : Action) → IsQuietAction action → (own : ℕ) → IsPossible (outcome_with objects own action)
possible objects (actions.Read p n) quiet own = read_cases objects IsPossible p n (λ class. tt) (λ is. tt) own
possible objects (actions.Write p bytes first) quiet own = write_cases objects IsPossible p bytes first (λ class. tt) tt own
possible objects (actions.Look p subscript) quiet own = look_cases objects IsPossible p subscript (λ class. tt) (λ size is. tt) own
possible objects (actions.Draw n) quiet own = tt
possible objects (actions.Alloc o) quiet own = tt
possible objects (actions.Die k) quiet own = die_cases objects IsPossible k tt tt own
possible objects (actions.Free p) quiet own = free_cases objects IsPossible p tt (λ class. tt) tt own
possible objects actions.Exit quiet own = tt
possible objects _ quiet own = absurd quiet

-- ---- its answer

-- the number of what is made is the next one
abbrev pub IsNext : Objects → Action → ℕ → Type 0
IsNext objects (actions.Alloc o) own = own ≡ suc (length objects)
IsNext objects _ own = Unit {0}

abbrev answer_in : Outcome → Answer
answer_in (breaks class) = answers.Done
answer_in waits = answers.Done
answer_in (moves answer change) = answer

-- it tells what the record gave
pub own_told : (objects : Objects) (action : Action) → IsQuietAction action → (own : ℕ) → IsNext objects action own → (a : Answer) (change : Change) → outcome_with objects own action ≡ moves a change → SameOwn action own (own_by objects a)
own_told objects (actions.Read p n) quiet own next a change is = tt
own_told objects (actions.Write p bytes first) quiet own next a change is = tt
own_told objects (actions.Look p subscript) quiet own next a change is = tt
own_told objects (actions.Draw n) quiet own next a change is = ap (λ o. own_by objects (answer_in o)) is
own_told objects (actions.Alloc o) quiet own next a change is = next ∙ ap (λ o. own_by objects (answer_in o)) is
own_told objects (actions.Die k) quiet own next a change is = tt
own_told objects (actions.Free p) quiet own next a change is = tt
own_told objects actions.Exit quiet own next a change is = tt
own_told objects _ quiet own next a change is = absurd quiet

-- the word of a draw has its bits, and a number is told by 32 bits
abbrev pub IsSmall : Action → ℕ → Type 0
IsSmall (actions.Draw n) own = own < 2 ^ n
IsSmall (actions.Alloc o) own = own < 2 ^ 32
IsSmall _ own = Unit {0}

abbrev pub Fits : Action → Outcome → Type 0
Fits action (breaks class) = Unit {0}
Fits action waits = Unit {0}
Fits action (moves answer change) = has_shape (shape_of action) answer ≡ true

is_less : (m n : ℕ) → m < n → nat_lt m n ≡ true
is_less m n h = grind (arith, nat_tests)

size_of : (found : Option StoredObject) → IfSome found HoldsBytes → (size : ℕ) → size_in (state_of found) ≡ Ok size → size < 2 ^ 32
size_of None holds size is = absurd (let wrong : Err classes.InvalidPointer ≡ Ok size = is in cc)
size_of (Some o) holds size is = by o.live is
  where
    by : (b : Bool) → size_in (if b then live o.size o.cells o.readonly o.heap else dead) ≡ Ok size → size < 2 ^ 32
    by true is = subst (λ (n : ℕ). n < 2 ^ 32) (let same : Ok o.size ≡ Ok size = is in cc) holds.small
    by false is = absurd (let wrong : Err classes.Lifetime ≡ Ok size = is in cc)

looked_size : (objects : Objects) (p : ℕ) → IsStore objects → (size : ℕ) → look p (state_at objects (object_of p)) ≡ Ok size → size < 2 ^ 32
looked_size objects p store size is = by (object_of p == 0) is
  where
    by : (b : Bool) → (if b then Err classes.Null else size_in (state_at objects (object_of p))) ≡ Ok size → size < 2 ^ 32
    by true is = absurd (let wrong : Err classes.Null ≡ Ok size = is in cc)
    by false is = size_of (object_at objects (object_of p)) (holds_at objects (object_of p) store.hold) size is

drawn_fits : (n own : ℕ) → own < 2 ^ n → has_shape (shape_of (actions.Draw n)) (answers.Word (word n own)) ≡ true
drawn_fits n own h = λ i. number_itself n i && is_less own (2 ^ n) h i

pub fits : (objects : Objects) (action : Action) → IsQuietAction action → IsStore objects → (own : ℕ) → IsSmall action own → Fits action (outcome_with objects own action)
fits objects (actions.Read p n) quiet store own small = read_cases objects (Fits (actions.Read p n)) p n (λ class. tt) (λ is. bytes_fit objects p n store.hold is) own
fits objects (actions.Write p bytes first) quiet store own small = write_cases objects (Fits (actions.Write p bytes first)) p bytes first (λ class. tt) refl own
fits objects (actions.Look p subscript) quiet store own small = look_cases objects (Fits (actions.Look p subscript)) p subscript (λ class. tt) (λ size is. is_less size (2 ^ 32) (looked_size objects p store size is)) own
fits objects (actions.Draw n) quiet store own small = drawn_fits n own small
fits objects (actions.Alloc o) quiet store own small = is_less own (2 ^ 32) small
fits objects (actions.Die k) quiet store own small = die_cases objects (Fits (actions.Die k)) k refl refl own
fits objects (actions.Free p) quiet store own small = free_cases objects (Fits (actions.Free p)) p refl (λ class. tt) refl own
fits objects actions.Exit quiet store own small = refl
fits objects _ quiet store own small = absurd quiet

-- ---- the store behind it

abbrev Leaves : Objects → ℕ → Outcome → Type 0
Leaves objects count o = IsStore (objects_behind o objects) × (length (objects_behind o objects) ≡ count)

pub leaves : (objects : Objects) (action : Action) → IsQuietAction action → IsStore objects → (own : ℕ) → IsNext objects action own → Leaves objects (more action (length objects)) (outcome_with objects own action)
leaves objects (actions.Read p n) quiet store own next = read_cases objects (Leaves objects (length objects)) p n (λ class. (store, refl)) (λ is. (store, refl)) own
leaves objects (actions.Write p bytes first) quiet store own next = by (write_break objects p bytes first) (write_store objects p bytes first quiet store) (write_long objects p bytes first)
  where
    by : (c : Option Class) → IsStore (unless_changed c objects (with_bytes objects p bytes)) → length (unless_changed c objects (with_bytes objects p bytes)) ≡ length objects
        → Leaves objects (length objects) (outcome_in (memory_of objects) (unless c (comes (moves answers.Done (puts p bytes)))))
    by None behind long = (behind, long)
    by (Some class) behind long = (behind, long)
leaves objects (actions.Look p subscript) quiet store own next = look_cases objects (Leaves objects (length objects)) p subscript (λ class. (store, refl)) (λ size is. (store, refl)) own
leaves objects (actions.Draw n) quiet store own next = (store, refl)
leaves objects (actions.Alloc o) quiet store own next =
    subst (λ (k : ℕ). IsStore (with_new objects k (as_live o)) × (length (with_new objects k (as_live o)) ≡ suc (length objects))) (sym next)
    (new_store objects (as_live o) store (live_holds o quiet), new_long objects (as_live o) store)
leaves objects (actions.Die k) quiet store own next = die_cases objects (Leaves objects (length objects)) k (store, refl) (changed_store objects k as_dead dead_holds store, changed_at_long objects k as_dead) own
leaves objects (actions.Free p) quiet store own next =
    free_cases objects (Leaves objects (length objects)) p (store, refl) (λ class. (store, refl)) (changed_store objects (object_of p) as_dead dead_holds store, changed_at_long objects (object_of p) as_dead) own
leaves objects actions.Exit quiet store own next = (store, refl)
leaves objects _ quiet store own next = absurd quiet
