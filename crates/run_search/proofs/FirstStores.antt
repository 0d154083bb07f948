-- The first store of a file: its objects are numbered from 1 and are as objects at the start are, and none of the limits is passed.
use Rattle.std.proofs.Common.{◌≡◌, ◌+◌, ◌-◌, ◌^◌, ◌++◌, ◌/◌, ◌%◌, ◌*◌, ◌<◌, ◌≤◌, ℕ, zero, suc, Bool, true, false, List, [], ◌∷◌, length, map, take, drop, get_or, replicate, Option, Some, None, refl, sym, ap, subst, ◌∙◌, arith}
use Rattle.std.specs.Prelude.{◌&&◌, nat_lt, nat_le, max, if◌then◌else◌}
use Rattle.std.specs.Int.{w64, byte_at, bytes_low_first, to_le_bytes}
use Rattle.std.proofs.lemmas.Nat.{mod_below}
use Rattle.std.specs.List.{list_all}
use Rattle.std.proofs.lemmas.List.{length-append, length-replicate, length-drop, length-take-le, drop_more}
use Rattle.std.proofs.lemmas.List.Elements.{All-nil, All-cons}
use Rattle.std.specs.Prelude.{All}
use borrow.Author.Tests.{leb-true}
use Rattle.core_tree.specs.declared.functions.Address.{Address}
use Rattle.core_tree.specs.declared.functions.Literal.{Literal}
use Rattle.core_tree.specs.Trees.{Static, TypedFile, view_literals}
use Rattle.std.proofs.lemmas.Bool.Decides.{nat_tests}
use Rattle.core_tree.specs.Ranges.{Limits}
use Rattle.core_tree.specs.declared.refusal.Limit.{Limit}
use Rattle.core_tree.specs.declared.refusal.Limit.TheVariants.{Places, Objects, ObjectBytes}
use Rattle.core_tree.specs.Typed.{is_target, is_static, are_static, sizes_of_objects, is_typed_function, are_typed}
use Rattle.c_values.specs.Variables.{low_bytes, put_at, pointer_to}
use Rattle.actions.specs.ByteList.{are_bytes}
use Rattle.actions.proofs.ByteLists.{are_bytes-take, are_bytes-drop}
use Rattle.actions.specs.StoredObject.{StoredObject}
use Rattle.c_meaning.specs.Source.{target_number, with_addresses, first_object, literal_object, numbered, first_objects, are_small_objects, are_small_literals, are_storable}
use Rattle.goto_unwind.specs.Places.{places, objects}
use Rattle.goto_unwind.specs.Counts.{largest, sizes_of_literals, object_bytes, passed}
use Rattle.event_forms.specs.Accesses.{HoldsBytes, AreObjects, AreNumbered, IsFirst, AreFirst}
use Rattle.report.proofs.Both.{and_both}

zero_bytes : (n : ℕ) → are_bytes (replicate n 0) ≡ true
zero_bytes zero = refl
zero_bytes (suc n) = zero_bytes n

with_zeros : (xs : List ℕ) (n : ℕ) → are_bytes xs ≡ true → are_bytes (xs ++ replicate n 0) ≡ true
with_zeros [] n h = zero_bytes n
with_zeros (x ∷ xs) n h =
    let parts = and_both (nat_lt x 256) (are_bytes xs) h in
    rw parts.0 (with_zeros xs n parts.1)

bytes_append : (xs ys : List ℕ) → are_bytes xs ≡ true → are_bytes ys ≡ true → are_bytes (xs ++ ys) ≡ true
bytes_append [] ys first second = second
bytes_append (x ∷ xs) ys first second =
    let parts = and_both (nat_lt x 256) (are_bytes xs) first in
    rw parts.0 (bytes_append xs ys parts.1 second)

test_of : (n m : ℕ) → n < m → nat_lt n m ≡ true
test_of n m h = grind (arith, nat_tests)

bytes_below : (i k x : ℕ) → are_bytes (bytes_low_first i k x) ≡ true
bytes_below i zero x = refl
bytes_below i (suc k) x = rw (test_of (byte_at i x) 256 (below i)) (bytes_below (suc i) k x)
  where
    below : (i : ℕ) → byte_at i x < 256
    below zero = mod_below x 256 (omega arith)
    below (suc i) = mod_below (x / 256 ^ suc i) 256 (omega arith)

low_are_bytes : (count x : ℕ) → are_bytes (low_bytes count x) ≡ true
low_are_bytes count x = are_bytes-take count (to_le_bytes w64 x) (bytes_below 0 8 x)

-- bytes that are put at an offset
put_long : (to : ℕ) (new old : List ℕ) → to + length new ≤ length old → length (put_at to new old) ≡ length old
put_long to new old fits =
    let front = length-take-le to old (omega (arith, fits)) in
    let rest = length-append new (drop (to + length new) old) in
    let all = length-append (take to old) (new ++ drop (to + length new) old) in
    omega (arith, fits, front, rest, all, length-drop (to + length new) old)

put_bytes_are : (to : ℕ) (new old : List ℕ) → are_bytes new ≡ true → are_bytes old ≡ true → are_bytes (put_at to new old) ≡ true
put_bytes_are to new old first second =
    bytes_append (take to old) (new ++ drop (to + length new) old) (are_bytes-take to old second) (bytes_append new (drop (to + length new) old) first (are_bytes-drop (to + length new) old second))

low_long : (x : ℕ) → length (low_bytes 8 x) ≡ 8
low_long x = length-take-le 8 (to_le_bytes w64 x) (omega arith)

-- addresses change no size, and are bytes
addressed : (literals m n size : ℕ) (addresses : List Address) (bytes : List ℕ) → list_all (λ (a : Address). nat_le (a.at + 8) size && is_target m n a.target) addresses ≡ true → length bytes ≡ size → are_bytes bytes ≡ true
    → (length (with_addresses literals addresses bytes) ≡ size) × (are_bytes (with_addresses literals addresses bytes) ≡ true)
addressed literals m n size [] bytes h long are = (long, are)
addressed literals m n size (a ∷ addresses) bytes h long are =
    let lies : (Address → Bool) = λ b. nat_le (b.at + 8) size && is_target m n b.target in
    let parts = and_both (lies a) (list_all lies addresses) h in
    let there = and_both (nat_le (a.at + 8) size) (is_target m n a.target) parts.0 in
    let new = low_bytes 8 (pointer_to (target_number literals a.target) a.offset) in
    let eight = low_long (pointer_to (target_number literals a.target) a.offset) in
    let room = leb-true (a.at + 8) size there.0 in
    addressed literals m n size addresses (put_at a.at new bytes) parts.1 (put_long a.at new bytes (omega (arith, eight, room, long)) ∙ long) (put_bytes_are a.at new bytes (low_are_bytes 8 (pointer_to (target_number literals a.target) a.offset)) are)

is_less : (n m : ℕ) → nat_lt n m ≡ true → n < m
is_less n m h = grind (arith, nat_tests)

object_holds : (literals m n : ℕ) (o : Static) → is_static m n o ≡ true → HoldsBytes (first_object literals o)
object_holds literals m n o h =
    let lies : (Address → Bool) = λ a. nat_le (a.at + 8) o.size && is_target m n a.target in
    let addresses = and_both (nat_lt o.size (2 ^ 31) && nat_le (length o.bytes) o.size && list_all (λ b. nat_lt b 256) o.bytes) (list_all lies o.addresses) h in
    let sized = and_both (nat_lt o.size (2 ^ 31) && nat_le (length o.bytes) o.size) (list_all (λ b. nat_lt b 256) o.bytes) addresses.0 in
    let fits = and_both (nat_lt o.size (2 ^ 31)) (nat_le (length o.bytes) o.size) sized.0 in
    let room = leb-true (length o.bytes) o.size fits.1 in
    let long = length-append o.bytes (replicate (o.size - length o.bytes) 0) in
    let rest = length-replicate {A = ℕ} (o.size - length o.bytes) 0 in
    let all = addressed literals m n o.size o.addresses (o.bytes ++ replicate (o.size - length o.bytes) 0) addresses.1 (omega (arith, room, long, rest)) (with_zeros o.bytes (o.size - length o.bytes) sized.1) in
    record { whole = all.0; small = omega (arith, is_less o.size (2 ^ 31) fits.0); bytes = all.1 }

literal_holds : (text : List ℕ) → nat_lt (length text) 65536 ≡ true → are_bytes text ≡ true → HoldsBytes (literal_object text)
literal_holds text short h = record { whole = length-append text (0 ∷ []); small = omega (arith, is_less (length text) 65536 short); bytes = bytes_append text (0 ∷ []) h refl }

abbrev Holds : ℕ × StoredObject → Type 0
Holds e = HoldsBytes e.1

literals_hold : (literals : List (List ℕ)) (k : ℕ) → are_small_literals literals ≡ true → list_all are_bytes literals ≡ true → AreObjects (numbered k (map literal_object literals))
literals_hold [] k short h = All-nil Holds
literals_hold (text ∷ literals) k short h =
    let parts = and_both (are_bytes text) (list_all are_bytes literals) h in
    let few = and_both (nat_lt (length text) 65536) (are_small_literals literals) short in
    All-cons Holds (k, literal_object text) (numbered (k + 1) (map literal_object literals)) (literal_holds text few.0 parts.0) (literals_hold literals (k + 1) few.1 parts.1)

-- objects, and the literals behind them
objects_hold : (first m n : ℕ) (objects : List Static) (literals : List (List ℕ)) (k : ℕ) → list_all (is_static m n) objects ≡ true → are_small_literals literals ≡ true → list_all are_bytes literals ≡ true
    → AreObjects (numbered k (map (first_object first) objects ++ map literal_object literals))
objects_hold first m n [] literals k h short texts = literals_hold literals k short texts
objects_hold first m n (o ∷ objects) literals k h short texts =
    let parts = and_both (is_static m n o) (list_all (is_static m n) objects) h in
    All-cons Holds (k, first_object first o) (numbered (k + 1) (map (first_object first) objects ++ map literal_object literals)) (object_holds first m n o parts.0) (objects_hold first m n objects literals (k + 1) parts.1 short texts)

-- ---- their numbers, and what they are

numbers_are : (objects : List StoredObject) (k : ℕ) → AreNumbered k (numbered k objects)
numbers_are [] k = tt
numbers_are (o ∷ objects) k = (refl, subst (λ (n : ℕ). AreNumbered n (numbered (k + 1) objects)) (next k) (numbers_are objects (k + 1)))
  where
    next : (k : ℕ) → k + 1 ≡ suc k
    next k = omega arith

abbrev First : ℕ × StoredObject → Type 0
First e = IsFirst e.1

literals_first : (literals : List (List ℕ)) (k : ℕ) → All First (numbered k (map literal_object literals))
literals_first [] k = All-nil First
literals_first (text ∷ literals) k =
    All-cons First (k, literal_object text) (numbered (k + 1) (map literal_object literals)) (record { lives = refl; cells_are = refl; heap_is = refl }) (literals_first literals (k + 1))

objects_first : (first : ℕ) (objects : List Static) (literals : List (List ℕ)) (k : ℕ) → All First (numbered k (map (first_object first) objects ++ map literal_object literals))
objects_first first [] literals k = literals_first literals k
objects_first first (o ∷ objects) literals k =
    All-cons First (k, first_object first o) (numbered (k + 1) (map (first_object first) objects ++ map literal_object literals)) (record { lives = refl; cells_are = refl; heap_is = refl }) (objects_first first objects literals (k + 1))

-- one literal more, the last ones first
pub text_more : (ls : List Literal) (n : ℕ) (l : Literal) → n < length ls → l ≡ get_or ls n l → are_bytes l.bytes.items ≡ true
    → list_all are_bytes (view_literals (drop (n + 1) ls)) ≡ true → list_all are_bytes (view_literals (drop n ls)) ≡ true
text_more ls n l within found here others =
    ap (λ xs. list_all are_bytes (view_literals xs)) (drop_more ls n l within)
    ∙ ap (λ (k : Literal). are_bytes k.bytes.items && list_all are_bytes (view_literals (drop (n + 1) ls))) (sym found)
    ∙ (λ i. here i && others i)

pub file_first : (core : TypedFile) → are_typed core ≡ true → list_all are_bytes core.literals ≡ true → are_storable core ≡ true → AreFirst (first_objects core)
file_first core h texts room =
    let static = (and_both (are_static core) (list_all (is_typed_function core) core.functions) h).0 in
    let short = (and_both (nat_le (length core.objects + length core.literals) 8192 && are_small_objects core.objects) (are_small_literals core.literals) room).1 in
    record {
      hold = objects_hold (length core.objects + 1) (length core.objects) (length core.literals) core.objects core.literals 1 static short texts;
      numbers = numbers_are (map (first_object (length core.objects + 1)) core.objects ++ map literal_object core.literals) 1;
      first = objects_first (length core.objects + 1) core.objects core.literals 1;
    }

-- ---- where no count passes its limit they can be stored

not_passed : (b : Bool) (l : Limit) (rest : Option Limit) → (if b then Some l else rest) ≡ None → (b ≡ false) × (rest ≡ None)
not_passed true l rest e = cc
not_passed false l rest e = (refl, e)

at_most : (m n : ℕ) → nat_lt n m ≡ false → m ≤ n
at_most m n h = grind (arith, nat_tests)

most_true : (m n : ℕ) → m ≤ n → nat_le m n ≡ true
most_true m n h = grind (arith, nat_tests)

all_small : (objects : List Static) (most : ℕ) → largest (sizes_of_objects objects) ≤ most → list_all (λ (o : Static). nat_le o.size most) objects ≡ true
all_small [] most h = refl
all_small (o ∷ objects) most h =
    let here = most_true o.size most (omega (arith, h)) in
    let others = all_small objects most (omega (arith, h)) in
    λ k. here k && others k

text_test : (text : List ℕ) (most : ℕ) → length text + 1 ≤ most → nat_lt (length text) most ≡ true
text_test text most h = test_of (length text) most (omega (arith, h))

all_short : (literals : List (List ℕ)) (most : ℕ) → largest (sizes_of_literals literals) ≤ most → list_all (λ (text : List ℕ). nat_lt (length text) most) literals ≡ true
all_short [] most h = refl
all_short (text ∷ literals) most h =
    let here = text_test text most (omega (arith, h)) in
    let others = all_short literals most (omega (arith, h)) in
    λ k. here k && others k

less : (n m : ℕ) → n + m ≤ 8192 → n ≤ 8192
less n m h = omega (arith, h)

pub storable : (core : TypedFile) (limits : Limits) → passed core limits ≡ None → are_storable core ≡ true
storable core limits h =
    let count = length core.objects + length core.literals in
    let places_fit = not_passed (nat_lt 2000000 (places core.functions limits)) Places _ h in
    let made = objects core.functions limits in
    let objects_fit = not_passed (nat_lt 8192 (count + made)) Objects _ places_fit.1 in
    let bytes_fit = not_passed (nat_lt 65536 (object_bytes core)) ObjectBytes None objects_fit.1 in
    let few = most_true count 8192 (less count made (at_most (count + made) 8192 objects_fit.0)) in
    let most = at_most (object_bytes core) 65536 bytes_fit.0 in
    let small = all_small core.objects 65536 (omega (arith, most)) in
    let short = all_short core.literals 65536 (omega (arith, most)) in
    λ k. few k && small k && short k
