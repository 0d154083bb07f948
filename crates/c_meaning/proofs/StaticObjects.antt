-- The static objects and the literals of a file: what is known of each, whether they can be stored, and how they come into the store one by one.
use Rattle.std.proofs.Common.{◌≡◌, ◌<◌, ◌≤◌, ℕ, zero, suc, ◌+◌, ◌^◌, Bool, true, false, cond, ◌&&◌, nat_lt, nat_le, List, [], ◌∷◌, ◌++◌, length, map, take, drop, get_or, None, Some, refl, sym, ap, ◌∙◌, arith}
use Rattle.std.specs.Cmp.{nat_cmp_is}
use Rattle.std.specs.Ordering.{nat_cmp, is_eq, match_ordering}
use Rattle.std.specs.declared.cmp.Ordering.{Ordering}
use Rattle.std.specs.declared.cmp.Ordering.TheVariants.{Greater}
use Rattle.std.specs.List.{list_all}
use Rattle.std.proofs.lemmas.Bool.Decides.{nat_tests}
use Rattle.std.proofs.lemmas.List.{at_drop_more, at_drop_all, length-map}
use Rattle.core_tree.specs.declared.functions.StaticObject.{StaticObject}
use Rattle.core_tree.specs.declared.functions.Literal.{Literal}
use Rattle.core_tree.specs.declared.functions.Address.{Address}
use Rattle.core_tree.specs.declared.functions.Target.{Target}
use Rattle.core_tree.specs.declared.functions.Target.TheVariants as targets
use Rattle.core_tree.specs.Trees.{Static, view_static, view_statics, view_literals, CoreFile, view_core}
use Rattle.core_tree.specs.Typed.{is_target, is_static, are_static, are_typed}
use Rattle.actions.specs.StoredObject.{StoredObject}
use Rattle.actions.specs.Objects.{Objects, object_at, with_new}
use Rattle.c_meaning.specs.Source.{target_number, are_small_objects, are_small_literals, are_storable, numbered}
use Rattle.c_meaning.proofs.Holding.{left_of, right_of, both, to_le, from_le}

abbrev pub text_of : Literal → List ℕ
text_of l = l.bytes.items

-- ---- a test of each

pub one_holds : {X Y : Type 0} (P : Y → Bool) (f : X → Y) (xs : List X) (i : ℕ) (x : X) → i < length xs → list_all P (map f xs) ≡ true → P (f (get_or xs i x)) ≡ true
one_holds P f [] i x h e = absurd (omega arith)
one_holds P f (y ∷ xs) zero x h e = left_of (P (f y)) (list_all P (map f xs)) e
one_holds P f (y ∷ xs) (suc i) x h e = one_holds P f xs i x (omega arith) (right_of (P (f y)) (list_all P (map f xs)) e)

pub fails_at : {X Y : Type 0} (P : Y → Bool) (f : X → Y) (xs : List X) (i : ℕ) (x : X) → i < length xs → P (f (get_or xs i x)) ≡ false → list_all P (map f (drop i xs)) ≡ false
fails_at P f xs i x h e = at_drop_more (λ xs. list_all P (map f xs)) xs i x h ∙ ap (λ (b : Bool). b && list_all P (map f (drop (i + 1) xs))) e

pub holds_at : {X Y : Type 0} (P : Y → Bool) (f : X → Y) (xs : List X) (i : ℕ) (x : X) → i < length xs → P (f (get_or xs i x)) ≡ true → list_all P (map f (drop i xs)) ≡ list_all P (map f (drop (i + 1) xs))
holds_at P f xs i x h e = at_drop_more (λ xs. list_all P (map f xs)) xs i x h ∙ ap (λ (b : Bool). b && list_all P (map f (drop (i + 1) xs))) e

pub none_left : {X Y : Type 0} (P : Y → Bool) (f : X → Y) (xs : List X) (i : ℕ) → length xs ≤ i → list_all P (map f (drop i xs)) ≡ true
none_left P f xs i h = at_drop_all (λ (xs : List _). list_all P (map f xs)) xs i h

-- ---- what is known of those of a typed file

to_lt : (a b : ℕ) → a < b → nat_lt a b ≡ true
to_lt a b h = grind (arith, nat_tests)

from_lt : (a b : ℕ) → nat_lt a b ≡ true → a < b
from_lt a b h = grind (arith, nat_tests)

all_more : {X : Type 0} (P Q : X → Bool) → ((x : X) → P x ≡ true → Q x ≡ true) → (xs : List X) → list_all P xs ≡ true → list_all Q xs ≡ true
all_more P Q more [] e = refl
all_more P Q more (x ∷ xs) e = both (Q x) (list_all Q xs) (more x (left_of (P x) (list_all P xs) e)) (all_more P Q more xs (right_of (P x) (list_all P xs) e))

target_small : (m n : ℕ) (t : Target) → m + n ≤ 8192 → is_target m n t ≡ true → target_number (m + 1) t < 2 ^ 32
target_small m n (targets.Object k) h e = let few = from_le k m (right_of (nat_le 1 k) (nat_le k m) e) in omega (arith, few, h)
target_small m n (targets.Literal k) h e = let few = from_lt k n e in omega (arith, few, h)

abbrev pub is_put : (literals size : ℕ) → Address → Bool
is_put literals size a = nat_le (a.at + 8) size && nat_lt (target_number literals a.target) (2 ^ 32)

address_put : (m n size : ℕ) → m + n ≤ 8192 → (a : Address) → (nat_le (a.at + 8) size && is_target m n a.target) ≡ true → is_put (m + 1) size a ≡ true
address_put m n size h a e =
    let there = right_of (nat_le (a.at + 8) size) (is_target m n a.target) e in
    both (nat_le (a.at + 8) size) (nat_lt (target_number (m + 1) a.target) (2 ^ 32)) (left_of (nat_le (a.at + 8) size) (is_target m n a.target) e) (to_lt (target_number (m + 1) a.target) (2 ^ 32) (target_small m n a.target h there))

static_few : (m n : ℕ) (o : Static) → is_static m n o ≡ true → nat_le (length o.bytes) o.size ≡ true
static_few m n o e =
    let small = nat_lt o.size (2 ^ 31) in
    let few = nat_le (length o.bytes) o.size in
    right_of small few (left_of (small && few) _ (left_of ((small && few) && _) _ e))

static_put : (m n : ℕ) (o : Static) → m + n ≤ 8192 → is_static m n o ≡ true → list_all (is_put (m + 1) o.size) o.addresses ≡ true
static_put m n o h e =
    let lies : (Address → Bool) = λ a. nat_le (a.at + 8) o.size && is_target m n a.target in
    all_more lies (is_put (m + 1) o.size) (address_put m n o.size h) o.addresses (right_of _ (list_all lies o.addresses) e)

module _ (file : CoreFile) (typed : are_typed (view_core file) ≡ true) (storable : are_storable (view_core file) ≡ true) where
  abbrev objects : ℕ
  objects = length (view_statics file.objects)

  abbrev literals : ℕ
  literals = length (view_literals file.literals)

  are_few : objects + literals ≤ 8192
  are_few = from_le (objects + literals) 8192 (left_of (nat_le (objects + literals) 8192) (are_small_objects (view_statics file.objects)) (left_of (nat_le (objects + literals) 8192 && are_small_objects (view_statics file.objects)) (are_small_literals (view_literals file.literals)) storable))

  pub few_objects : length file.objects + length file.literals ≤ 8192
  few_objects = omega (arith, are_few, length-map file.objects view_static, length-map file.literals text_of)

  static_at : (i : ℕ) (o : StaticObject) → i < length file.objects → is_static objects literals (view_static (get_or file.objects i o)) ≡ true
  static_at i o h = one_holds (is_static objects literals) view_static file.objects i o h (left_of (are_static (view_core file)) _ typed)

  pub object_few : (i : ℕ) (o : StaticObject) → i < length file.objects → let p = get_or file.objects i o in nat_le (length p.bytes.items) p.size ≡ true
  object_few i o h = static_few objects literals (view_static (get_or file.objects i o)) (static_at i o h)

  pub object_put : (i : ℕ) (o : StaticObject) → i < length file.objects → let p = get_or file.objects i o in list_all (is_put (length file.objects + 1) p.size) p.addresses.items ≡ true
  object_put i o h =
      let p = get_or file.objects i o in
      ap (λ (n : ℕ). list_all (is_put (n + 1) p.size) p.addresses.items) (sym (length-map file.objects view_static)) ∙ static_put objects literals (view_static p) are_few (static_at i o h)

  pub literal_short : (i : ℕ) (l : Literal) → i < length file.literals → length (text_of (get_or file.literals i l)) < 65536
  literal_short i l h =
      let text = text_of (get_or file.literals i l) in
      from_lt (length text) 65536 (one_holds (λ (text : List ℕ). nat_lt (length text) 65536) text_of file.literals i l h (right_of (nat_le (objects + literals) 8192 && are_small_objects (view_statics file.objects)) (are_small_literals (view_literals file.literals)) storable))

-- ---- whether they can be stored

to_large : (a b : ℕ) → b < a → nat_le a b ≡ false
to_large a b h = grind (arith, nat_tests)

to_long : (a b : ℕ) → b ≤ a → nat_lt a b ≡ false
to_long a b h = grind (arith, nat_tests)

pub large_object : (os : List StaticObject) (i : ℕ) (o : StaticObject) → i < length os → 65536 < (get_or os i o).size → are_small_objects (view_statics (drop i os)) ≡ false
large_object os i o h e = fails_at (λ (o : Static). nat_le o.size 65536) view_static os i o h (to_large (get_or os i o).size 65536 e)

pub small_object : (os : List StaticObject) (i : ℕ) (o : StaticObject) → i < length os → (get_or os i o).size ≤ 65536 → are_small_objects (view_statics (drop i os)) ≡ are_small_objects (view_statics (drop (i + 1) os))
small_object os i o h e = holds_at (λ (o : Static). nat_le o.size 65536) view_static os i o h (to_le (get_or os i o).size 65536 e)

pub no_object : (os : List StaticObject) (i : ℕ) → length os ≤ i → are_small_objects (view_statics (drop i os)) ≡ true
no_object os i h = none_left (λ (o : Static). nat_le o.size 65536) view_static os i h

pub long_literal : (ls : List Literal) (i : ℕ) (l : Literal) → i < length ls → 65536 ≤ length (text_of (get_or ls i l)) → are_small_literals (view_literals (drop i ls)) ≡ false
long_literal ls i l h e = fails_at (λ (text : List ℕ). nat_lt (length text) 65536) text_of ls i l h (to_long (length (text_of (get_or ls i l))) 65536 e)

pub short_literal : (ls : List Literal) (i : ℕ) (l : Literal) → i < length ls → length (text_of (get_or ls i l)) < 65536 → are_small_literals (view_literals (drop i ls)) ≡ are_small_literals (view_literals (drop (i + 1) ls))
short_literal ls i l h e = holds_at (λ (text : List ℕ). nat_lt (length text) 65536) text_of ls i l h (to_lt (length (text_of (get_or ls i l))) 65536 e)

pub no_literal : (ls : List Literal) (i : ℕ) → length ls ≤ i → are_small_literals (view_literals (drop i ls)) ≡ true
no_literal ls i h = none_left (λ (text : List ℕ). nat_lt (length text) 65536) text_of ls i h

-- ---- how they come into the store

behind_all : (n k : ℕ) → k < n → nat_cmp n k ≡ Greater
behind_all n k h = sym (nat_cmp_is n k Greater h)

-- no object has a number beyond theirs
pub numbered_fresh : (k n : ℕ) (os : List StoredObject) → k + length os ≤ n → object_at (numbered k os) n ≡ None
numbered_fresh k n [] h = refl
numbered_fresh k n (o ∷ os) h =
    let apart = ap is_eq (behind_all n k (omega arith)) in
    ap (λ (b : Bool). cond b (Some o) (object_at (numbered (k + 1) os) n)) apart ∙ numbered_fresh (k + 1) n os (omega arith)

pub numbered_next : (k n : ℕ) (os : List StoredObject) (o : StoredObject) → n ≡ k + length os → with_new (numbered k os) n o ≡ numbered k (os ++ o ∷ [])
numbered_next k n [] o e = let same : n ≡ k = omega (arith, e) in ap (λ (number : ℕ). (number, o) ∷ []) same
numbered_next k n (p ∷ os) o e =
    let rest = numbered (k + 1) os in
    let here : ℕ × StoredObject = (k, p) in
    ap (λ (c : Ordering). match_ordering c ((n, o) ∷ here ∷ rest) ((k, o) ∷ rest) (here ∷ with_new rest n o)) (behind_all n k (omega (arith, e)))
    ∙ ap (λ (os : Objects). here ∷ os) (numbered_next (k + 1) n os o (omega (arith, e)))

pub take_next : {X Y Z : Type 0} (f : Y → Z) (g : X → Y) (xs : List X) (i : ℕ) (x : X) → i < length xs → map f (map g (take (i + 1) xs)) ≡ map f (map g (take i xs)) ++ f (g (get_or xs i x)) ∷ []
take_next f g [] i x h = absurd (omega arith)
take_next f g (y ∷ xs) zero x h = refl
take_next f g (y ∷ xs) (suc i) x h =
    let later : suc i + 1 ≡ suc (i + 1) = omega arith in
    ap (λ (j : ℕ). map f (map g (take j (y ∷ xs)))) later ∙ ap (λ (zs : List _). f (g y) ∷ zs) (take_next f g xs i x (omega arith))

pub taken_length : {X Y Z : Type 0} (f : Y → Z) (g : X → Y) (xs : List X) (i : ℕ) → i ≤ length xs → length (map f (map g (take i xs))) ≡ i
taken_length f g xs zero h = refl
taken_length f g [] (suc i) h = absurd (omega arith)
taken_length f g (x ∷ xs) (suc i) h = ap suc (taken_length f g xs i (omega arith))

pub all_length : {X Y Z : Type 0} (f : Y → Z) (g : X → Y) (xs : List X) → length (map f (map g xs)) ≡ length xs
all_length f g xs = length-map (map g xs) f ∙ length-map xs g
