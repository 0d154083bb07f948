-- The classes that accesses break, told one behind the other.
use Rattle.std.proofs.Common.{◌≡◌, ◌<◌, ◌≤◌, ◌+◌, ◌-◌, ◌^◌, ℕ, zero, suc, Bool, true, false, List, [], ◌∷◌, ◌++◌, length, drop, get_or, Option, Some, None, Err, refl, sym, ap, subst, ◌∙◌, arith}
use Rattle.std.specs.Prelude.{◌==◌, ◌&&◌, not, is_some, All, IfSome, nat_lt, if◌then◌else◌}
use Rattle.std.proofs.Math.Seq.{drop-cons}
use Rattle.std.proofs.lemmas.List.{drop_all}
use Rattle.std.proofs.lemmas.List.Elements.{All-push, All-weaker, All-head, All-tail}
use Rattle.words.specs.declared.check.Class.{Class}
use Rattle.words.specs.declared.check.Class.TheVariants as class
use Rattle.actions.specs.Pointer.{object_of, offset_of}
use Rattle.actions.specs.StoredObject.{StoredObject}
use Rattle.actions.specs.States.{state_of}
use Rattle.actions.specs.Access.{break_at, access_break, look, size_in, can_free}
use Rattle.actions.specs.Objects.{Objects, object_at}
use Rattle.word_dag.specs.declared.nodes.Id.{Id}
use Rattle.word_dag.specs.declared.nodes.Node.{Node}
use Rattle.word_dag.specs.Meaning.{width, value, holds, bit_value}
use Rattle.word_dag.specs.Fitting.{is_ordered}
use Rattle.word_dag.specs.Growth.{Extends}
use Rattle.word_dag.proofs.Grown.{extends_itself, extends_more}
use Rattle.word_dag.proofs.Bounds.{value_below}
use Rattle.word_dag.proofs.Truth.{bit_holds}
use Rattle.value_nodes.specs.Values.{IsWord, IsValue, IsTest}
use Rattle.value_nodes.proofs.Made.{word_stays}
use Rattle.object_memory.specs.declared.places.Place.{Place}
use Rattle.object_memory.specs.declared.places.Hit.{Hit}
use Rattle.object_memory.specs.declared.places.Failing.{Failing}
use Rattle.object_memory.specs.declared.breaking.Question.{Question}
use Rattle.object_memory.specs.declared.breaking.Question.TheVariants.{Unknown, Ended, Outside, Constant, Kept}
use Rattle.object_memory.specs.Spots.{Spots, AreObjectsOf}
use Rattle.object_memory.specs.Places.{place_object, spots, PlaceIn}
use Rattle.object_memory.specs.Hits.{HitIn, truly, IsFound}
use Rattle.object_memory.specs.Failings.{FailingIn, first_class, class_or, class_if, look_class}
use Rattle.object_memory.specs.Questions.{asks, asks_none, answered, objects_of, no_object}
use Rattle.object_memory.proofs.Pointed.{test_is, test_word, hit_object, found_object, truly_stays, objects_stay, spots_stay, found_stays}

-- ---- lists of classes

pub no_class_behind : (c : Option Class) → class_or c None ≡ c
no_class_behind None = refl
no_class_behind (Some k) = refl

pub first_push : (v : ℕ → ℕ) (d : List Node) (fs : List Failing) (f : Failing) → first_class v d (fs ++ f ∷ []) ≡ class_or (first_class v d fs) (class_if (holds (value v d f.test)) f.class)
first_push v d [] f = refl
first_push v d (g ∷ fs) f = by (holds (value v d g.test)) (first_push v d fs f)
  where
    by : (b : Bool) → first_class v d (fs ++ f ∷ []) ≡ class_or (first_class v d fs) (class_if (holds (value v d f.test)) f.class)
        → (if b then Some g.class else first_class v d (fs ++ f ∷ [])) ≡ class_or (if b then Some g.class else first_class v d fs) (class_if (holds (value v d f.test)) f.class)
    by true later = refl
    by false later = later

pub first_pushed : (v : ℕ → ℕ) (d : List Node) (fs more : List Failing) (test : Id) (k : Class) → more ≡ fs ++ record { class = k; test = test } ∷ [] → first_class v d more ≡ class_or (first_class v d fs) (class_if (holds (value v d test)) k)
first_pushed v d fs more test k is = ap (first_class v d) is ∙ first_push v d fs (record { class = k; test = test })

pub first_same : (v : ℕ → ℕ) (d : List Node) (fs more : List Failing) (test : Id) (k : Class) → more ≡ fs → value v d test ≡ 0 → first_class v d more ≡ class_or (first_class v d fs) (class_if (holds (value v d test)) k)
first_same v d fs more test k is none = ap (first_class v d) is ∙ sym (ap (λ n. class_or (first_class v d fs) (class_if (holds n) k)) none ∙ no_class_behind (first_class v d fs))

pub failings_push : (d : List Node) (fs more : List Failing) (test : Id) (k : Class) → All (FailingIn d) fs → IsWord d test 1 → more ≡ fs ++ record { class = k; test = test } ∷ [] → All (FailingIn d) more
failings_push d fs more test k all word is = subst (All (FailingIn d)) (sym is) (All-push (FailingIn d) fs (record { class = k; test = test }) all word)

pub failings_stay : (d e : List Node) (fs : List Failing) → Extends d e → All (FailingIn d) fs → All (FailingIn e) fs
failings_stay d e fs x all = All-weaker (FailingIn d) (FailingIn e) (λ f h. word_stays d e f.test 1 x h) fs all

pub first_stays : (v : ℕ → ℕ) (d e : List Node) (fs : List Failing) → Extends d e → All (FailingIn d) fs → first_class v e fs ≡ first_class v d fs
first_stays v d e [] x all = refl
first_stays v d e (f ∷ fs) x all =
    let test = x.value_stays v f.test (All-head (FailingIn d) f fs all).there in
    λ i. if holds (test i) then Some f.class else first_stays v d e fs x (All-tail (FailingIn d) f fs all) i

-- ---- answers

-- the answer of an object, or of none
abbrev pub answer_of : Question → ℕ → Option StoredObject → Bool
answer_of q at None = asks_none q
answer_of q at (Some o) = asks q at o

pub answered_is : (q : Question) (v : ℕ → ℕ) (d : List Node) (ss : Spots) (p : ℕ) (objects : List StoredObject) (hs : List Hit) → IsFound v d ss p hs → answered q v d objects hs ≡ answer_of q (offset_of p) (hit_object objects hs)
answered_is q v d ss p objects [] found = refl
answered_is q v d ss p objects (h ∷ []) found = ap (λ at. asks q at (get_or objects h.place no_object)) found.offset
answered_is q v d ss p objects (h ∷ g ∷ hs) found = absurd found

get_cells : (v : ℕ → ℕ) (d : List Node) (ps : List Place) (i : ℕ) → (get_or (objects_of v d ps) i no_object).cells ≡ []
get_cells v d [] i = refl
get_cells v d (p ∷ ps) zero = refl
get_cells v d (p ∷ ps) (suc i) = get_cells v d ps i

pub hit_cells : (v : ℕ → ℕ) (d : List Node) (ps : List Place) (hs : List Hit) → IfSome (hit_object (objects_of v d ps) hs) (λ (o : StoredObject). o.cells ≡ [])
hit_cells v d ps [] = tt
hit_cells v d ps (h ∷ hs) = get_cells v d ps h.place

-- ---- the answers of places, made from the last on

pub record Asking (d e : List Node) (q : Question) (ps : List Place) (hits : List Hit) (id : Id) (left : ℕ) : Type 0 where
  pub extends : Extends d e
  pub within : left ≤ length hits
  pub made : IsTest e id (λ v. answered q v d (objects_of v d ps) (truly v d (drop left hits)))

pub asking_none : (d e : List Node) (q : Question) (ps : List Place) (hits : List Hit) (id : Id) (left : ℕ) (b : Bool) → b ≡ asks_none q → length hits ≤ left → left ≤ length hits → Extends d e → IsTest e id (λ v. b) → Asking d e q ps hits id left
asking_none d e q ps hits id left b is done within x made = record {
  extends = x;
  within = within;
  made = record {
    there = made.there;
    width_is = made.width_is;
    value_is = λ v. made.value_is v ∙ ap bit_value (is ∙ ap (λ (hs : List Hit). answered q v d (objects_of v d ps) (truly v d hs)) (sym (drop_all left hits done)));
  };
}

place_objects : (v : ℕ → ℕ) (d : List Node) (ps : List Place) (i : ℕ) (p z : Place) → i < length ps → p ≡ get_or ps i z → get_or (objects_of v d ps) i no_object ≡ place_object v d p
place_objects v d [] i p z lt is = absurd (omega (arith, lt))
place_objects v d (q ∷ ps) zero p z lt is = ap (place_object v d) (sym is)
place_objects v d (q ∷ ps) (suc i) p z lt is = place_objects v d ps i p z (omega (arith, lt)) is

pub hit_place : (v : ℕ → ℕ) (d : List Node) (ps : List Place) (i : ℕ) (p z : Place) → i < length ps → p ≡ get_or ps i z → get_or (objects_of v d ps) i no_object ≡ place_object v d p
hit_place v d ps i p z lt is = place_objects v d ps i p z lt is

asked_by : (q : Question) (v : ℕ → ℕ) (d : List Node) (objects : List StoredObject) (h : Hit) (hs : List Hit) (b x y : Bool) (n m : ℕ) → n ≡ bit_value x → m ≡ bit_value y → x ≡ asks q (value v d h.offset) (get_or objects h.place no_object) → y ≡ answered q v d objects (truly v d hs)
    → (if b then n else m) ≡ bit_value (answered q v d objects (if b then h ∷ truly v d hs else truly v d hs))
asked_by q v d objects h hs true x y n m one two first rest = one ∙ ap bit_value first
asked_by q v d objects h hs false x y n m one two first rest = two ∙ ap bit_value rest

pub asking_more : (d e f g : List Node) (q : Question) (ps : List Place) (hits : List Hit) (hit y : Hit) (p z : Place) (here id next : Id) (left less : ℕ) → All (PlaceIn d) ps → All (HitIn d (length ps)) hits → Asking d e q ps hits id left → 0 < left → less ≡ left - 1 → hit ≡ get_or hits less y → p ≡ get_or ps hit.place z
    → Extends e f → Extends f g → IsTest f here (λ v. asks q (value v e hit.offset) (place_object v e p)) → IsValue g next (width f here) (λ v. if holds (value v f hit.test) then value v f here else value v f id) → Asking d g q ps hits next less
asking_more d e f g q ps hits hit y p z here id next left less places within a positive less_is hit_is place_is x1 x2 asked made =
    let lt : less < length hits = omega (arith, a.within, positive, less_is) in
    let hit_in : HitIn d (length ps) hit = subst (HitIn d (length ps)) (sym hit_is) (within less y lt) in
    let place_in : PlaceIn d p = subst (PlaceIn d) (sym place_is) (places hit.place z hit_in.place) in
    let next_is : suc less ≡ left = omega (arith, positive, less_is) in
    let whole : (drop less hits) ≡ hit ∷ drop left hits = drop-cons hits less y lt ∙ (λ i. sym hit_is i ∷ drop (next_is i) hits) in
    let one : Extends d f = extends_more d e f a.extends x1 in
    record {
      extends = extends_more d f g one x2;
      within = omega (arith, lt);
      made = record {
        there = made.there;
        width_is = made.width_is ∙ asked.width_is;
        value_is = λ v.
            let objects = objects_of v d ps in
            let test : holds (value v f hit.test) ≡ holds (value v d hit.test) = ap holds (one.value_stays v hit.test hit_in.test.there) in
            let first : asks q (value v e hit.offset) (place_object v e p) ≡ asks q (value v d hit.offset) (get_or objects hit.place no_object) =
            (λ i. asks q (a.extends.value_stays v hit.offset hit_in.offset.there i) (Rattle.object_memory.proofs.Pointed.object_stays v d e p a.extends place_in i)) ∙ ap (asks q (value v d hit.offset)) (sym (hit_place v d ps hit.place p z hit_in.place place_is)) in
            made.value_is v ∙ ap (λ b. if b then value v f here else value v f id) test
            ∙ asked_by q v d objects hit (drop left hits) (holds (value v d hit.test)) (asks q (value v e hit.offset) (place_object v e p)) (answered q v d objects (truly v d (drop left hits))) (value v f here) (value v f id) (asked.value_is v)
            (x1.value_stays v id a.made.there ∙ a.made.value_is v) first refl
            ∙ ap (λ (hs : List Hit). bit_value (answered q v d objects (truly v d hs))) (sym whole);
      };
    }

pub asking_all : (d e : List Node) (q : Question) (ps : List Place) (hits : List Hit) (id : Id) (left : ℕ) → left ≤ 0 → Asking d e q ps hits id left → IsTest e id (λ v. answered q v d (objects_of v d ps) (truly v d hits))
asking_all d e q ps hits id left none a =
    let zero_is : left ≡ 0 = omega (arith, none) in
    record {
      there = a.made.there;
      width_is = a.made.width_is;
      value_is = λ v. a.made.value_is v ∙ ap (λ k. bit_value (answered q v d (objects_of v d ps) (truly v d (drop k hits)))) zero_is;
    }

-- ---- what is told together

told_live : (subscript : Bool) (a b c : Class) (o : StoredObject) (live : Bool) → a ≡ (if subscript then class.Null else class.Pointer) → b ≡ (if subscript then class.InvalidPointer else class.Pointer) → c ≡ (if subscript then class.Lifetime else class.Pointer)
    → class_or (class_or None None) (class_if (not live) c) ≡ look_class subscript (size_in (if live then Rattle.actions.specs.States.live o.size o.cells o.readonly o.heap else Rattle.actions.specs.States.dead))
told_live subscript a b c o true one two three = refl
told_live subscript a b c o false one two three = ap Some three

told_object : (subscript : Bool) (at : ℕ) (o : Option StoredObject) (a b c : Class) → a ≡ (if subscript then class.Null else class.Pointer) → b ≡ (if subscript then class.InvalidPointer else class.Pointer) → c ≡ (if subscript then class.Lifetime else class.Pointer)
    → class_or (class_or None (class_if (answer_of Unknown at o) b)) (class_if (answer_of Ended at o) c) ≡ look_class subscript (size_in (state_of o))
told_object subscript at None a b c one two three = ap Some two
told_object subscript at (Some o) a b c one two three = told_live subscript a b c o o.live one two three

told_null : (subscript n : Bool) (at : ℕ) (o : Option StoredObject) (a b c : Class) → a ≡ (if subscript then class.Null else class.Pointer) → b ≡ (if subscript then class.InvalidPointer else class.Pointer) → c ≡ (if subscript then class.Lifetime else class.Pointer)
    → class_or (class_or (class_if n a) (class_if (answer_of Unknown at o) b)) (class_if (answer_of Ended at o) c) ≡ look_class subscript (if n then Err class.Null else size_in (state_of o))
told_null subscript true at o a b c one two three = ap Some one
told_null subscript false at o a b c one two three = told_object subscript at o a b c one two three

pub told_look : (subscript : Bool) (p : ℕ) (o : Option StoredObject) (a b c : Class) → a ≡ (if subscript then class.Null else class.Pointer) → b ≡ (if subscript then class.InvalidPointer else class.Pointer) → c ≡ (if subscript then class.Lifetime else class.Pointer)
    → class_or (class_or (class_or None (class_if (object_of p == 0) a)) (class_if (answer_of Unknown (offset_of p) o) b)) (class_if (answer_of Ended (offset_of p) o) c) ≡ look_class subscript (look p (state_of o))
told_look subscript p o a b c one two three = told_null subscript (object_of p == 0) (offset_of p) o a b c one two three

bounds_told : (writes : Bool) (at n : ℕ) (o : StoredObject) (b : Bool) → o.cells ≡ [] → (if writes then class_or (class_if b class.Bounds) (class_if o.readonly class.Readonly) else class_if b class.Bounds)
    ≡ (if b then Some class.Bounds else (if writes && o.readonly then Some class.Readonly else (if Rattle.actions.specs.Access.is_mixed o.cells at n then Some class.MixedSize else None)))
bounds_told writes at n o b none = (by writes b o.readonly) ∙ ap (λ cs. if b then Some class.Bounds else (if writes && o.readonly then Some class.Readonly else (if Rattle.actions.specs.Access.is_mixed cs at n then Some class.MixedSize else None))) (sym none)
  where
    by : (w t r : Bool) → (if w then class_or (class_if t class.Bounds) (class_if r class.Readonly) else class_if t class.Bounds) ≡ (if t then Some class.Bounds else (if w && r then Some class.Readonly else None))
    by true true r = refl
    by true false true = refl
    by true false false = refl
    by false true r = refl
    by false false r = refl

-- what an access tells behind a look
abbrev pub behind_look : Bool → ℕ → ℕ → Option StoredObject → Option Class → Option Class
behind_look writes at n o looked =
    if writes then class_or (class_or looked (class_if (answer_of (Outside n) at o) class.Bounds)) (class_if (answer_of Constant at o) class.Readonly)
    else class_or looked (class_if (answer_of (Outside n) at o) class.Bounds)

some_first : (writes : Bool) (k : Class) (x y : Option Class) → (if writes then class_or (class_or (Some k) x) y else class_or (Some k) x) ≡ Some k
some_first true k x y = refl
some_first false k x y = refl

access_live : (writes : Bool) (at n : ℕ) (o : StoredObject) (live : Bool) → o.cells ≡ []
    → behind_look writes at n (Some o) (look_class true (size_in (if live then Rattle.actions.specs.States.live o.size o.cells o.readonly o.heap else Rattle.actions.specs.States.dead)))
    ≡ break_at writes at n (if live then Rattle.actions.specs.States.live o.size o.cells o.readonly o.heap else Rattle.actions.specs.States.dead)
access_live writes at n o true none = bounds_told writes at n o (nat_lt o.size (at + n)) none
access_live writes at n o false none = some_first writes class.Lifetime (class_if (nat_lt o.size (at + n)) class.Bounds) (class_if o.readonly class.Readonly)

access_object : (writes : Bool) (at n : ℕ) (o : Option StoredObject) → IfSome o (λ (x : StoredObject). x.cells ≡ []) → behind_look writes at n o (look_class true (size_in (state_of o))) ≡ break_at writes at n (state_of o)
access_object writes at n None none = some_first writes class.InvalidPointer None None
access_object writes at n (Some o) none = access_live writes at n o o.live none

access_null : (writes b : Bool) (at n : ℕ) (o : Option StoredObject) → IfSome o (λ (x : StoredObject). x.cells ≡ [])
    → behind_look writes at n o (look_class true (if b then Err class.Null else size_in (state_of o))) ≡ (if b then Some class.Null else break_at writes at n (state_of o))
access_null writes true at n o none = some_first writes class.Null (class_if (answer_of (Outside n) at o) class.Bounds) (class_if (answer_of Constant at o) class.Readonly)
access_null writes false at n o none = access_object writes at n o none

pub told_access : (writes : Bool) (p n : ℕ) (o : Option StoredObject) → IfSome o (λ (x : StoredObject). x.cells ≡ []) → behind_look writes (offset_of p) n o (look_class true (look p (state_of o))) ≡ access_break writes p n (state_of o)
told_access writes p n o none = access_null writes (object_of p == 0) (offset_of p) n o none

free_object : (at : ℕ) (o : Option StoredObject) → class_if (answer_of Kept at o) class.Free ≡ (if (at == 0) && Rattle.actions.specs.Access.is_heap_object (state_of o) then None else Some class.Free)
free_object at None = by (at == 0)
  where
    by : (b : Bool) → Some class.Free ≡ (if b && false then None else Some class.Free)
    by true = refl
    by false = refl
free_object at (Some o) = by (at == 0) o.live
  where
    by : (b live : Bool) → class_if (not (b && (live && o.heap))) class.Free ≡ (if b && Rattle.actions.specs.Access.is_heap_object (if live then Rattle.actions.specs.States.live o.size o.cells o.readonly o.heap else Rattle.actions.specs.States.dead) then None else Some class.Free)
    by false live = refl
    by true false = refl
    by true true = last o.heap
      where
        last : (h : Bool) → class_if (not h) class.Free ≡ (if h then None else Some class.Free)
        last true = refl
        last false = refl

free_null : (b : Bool) (p : ℕ) (o : Option StoredObject) → class_if (not b && answer_of Kept (offset_of p) o) class.Free ≡ (if b then None else (if can_free p (state_of o) then None else Some class.Free))
free_null true p o = refl
free_null false p o = free_object (offset_of p) o

pub told_free : (p : ℕ) (o : Option StoredObject) → class_or None (class_if (not (p == 0) && answer_of Kept (offset_of p) o) class.Free) ≡ (if p == 0 then None else (if can_free p (state_of o) then None else Some class.Free))
told_free p o = free_null (p == 0) p o

-- ---- a guard that passes

pub own_bit : (v : ℕ → ℕ) (d : List Node) (i : Id) → is_ordered d ≡ true → IsWord d i 1 → value v d i ≡ bit_value (holds (value v d i))
own_bit v d i ordered word = sym (bit_holds (value v d i) (subst (λ w. value v d i < 2 ^ w) word.width_is (value_below v d i ordered word.there)))

pub record Passing (d e : List Node) (guard : Id) (breaks : List Failing) (id : Id) (left : ℕ) : Type 0 where
  pub extends : Extends d e
  pub within : left ≤ length breaks
  pub made : IsTest e id (λ v. holds (value v d guard) && not (is_some (first_class v d (drop left breaks))))

and_true : (b : Bool) → (b && true) ≡ b
and_true true = refl
and_true false = refl

pub passing_none : (d : List Node) (guard : Id) (breaks : List Failing) (left : ℕ) → is_ordered d ≡ true → IsWord d guard 1 → length breaks ≤ left → left ≤ length breaks → Passing d d guard breaks guard left
passing_none d guard breaks left ordered word done within = record {
  extends = extends_itself d;
  within = within;
  made = record {
    there = word.there;
    width_is = word.width_is;
    value_is = λ v. own_bit v d guard ordered word ∙ ap bit_value (sym (ap (λ (fs : List Failing). holds (value v d guard) && not (is_some (first_class v d fs))) (drop_all left breaks done) ∙ and_true (holds (value v d guard))));
  };
}

one_more : (g t : Bool) (k : Class) (rest : Option Class) → ((g && not (is_some rest)) && not t) ≡ (g && not (is_some (if t then Some k else rest)))
one_more true true k None = refl
one_more true true k (Some c) = refl
one_more true false k None = refl
one_more true false k (Some c) = refl
one_more false t k rest = refl

pub passing_more : (d e f h : List Node) (guard : Id) (breaks : List Failing) (b y : Failing) (id fine next : Id) (left less : ℕ) → All (FailingIn d) breaks → Passing d e guard breaks id left → 0 < left → less ≡ left - 1 → b ≡ get_or breaks less y → Extends e f → Extends f h
    → IsTest f fine (λ v. not (holds (value v e b.test))) → IsTest h next (λ v. holds (value v f id) && holds (value v f fine)) → Passing d h guard breaks next less
passing_more d e f h guard breaks b y id fine next left less all p positive less_is b_is x1 x2 inverse both =
    let lt : less < length breaks = omega (arith, p.within, positive, less_is) in
    let b_in : FailingIn d b = subst (FailingIn d) (sym b_is) (all less y lt) in
    let next_is : suc less ≡ left = omega (arith, positive, less_is) in
    let whole : (drop less breaks) ≡ b ∷ drop left breaks = drop-cons breaks less y lt ∙ (λ i. sym b_is i ∷ drop (next_is i) breaks) in
    record {
      extends = extends_more d f h (extends_more d e f p.extends x1) x2;
      within = omega (arith, lt);
      made = record {
        there = both.there;
        width_is = both.width_is;
        value_is = λ v.
            let id_is : holds (value v f id) ≡ (holds (value v d guard) && not (is_some (first_class v d (drop left breaks)))) = ap holds (x1.value_stays v id p.made.there) ∙ test_is e id (λ u. holds (value u d guard) && not (is_some (first_class u d (drop left breaks)))) p.made v in
            let fine_is : holds (value v f fine) ≡ not (holds (value v d b.test)) = test_is f fine (λ u. not (holds (value u e b.test))) inverse v ∙ ap (λ n. not (holds n)) (p.extends.value_stays v b.test b_in.there) in
            both.value_is v ∙ (λ i. bit_value (id_is i && fine_is i)) ∙ ap bit_value (one_more (holds (value v d guard)) (holds (value v d b.test)) b.class (first_class v d (drop left breaks)))
            ∙ ap (λ (fs : List Failing). bit_value (holds (value v d guard) && not (is_some (first_class v d fs)))) (sym whole);
      };
    }

pub passing_all : (d e : List Node) (guard : Id) (breaks : List Failing) (id : Id) (left : ℕ) → left ≤ 0 → Passing d e guard breaks id left → IsTest e id (λ v. holds (value v d guard) && not (is_some (first_class v d breaks)))
passing_all d e guard breaks id left none p =
    let zero_is : left ≡ 0 = omega (arith, none) in
    record {
      there = p.made.there;
      width_is = p.made.width_is;
      value_is = λ v. p.made.value_is v ∙ ap (λ k. bit_value (holds (value v d guard) && not (is_some (first_class v d (drop k breaks))))) zero_is;
    }

-- ---- in a graph that has grown

pub answered_at : (q : Question) (v : ℕ → ℕ) (d e : List Node) (ps : List Place) (hits : List Hit) (p : ℕ) (objects : Objects) → Extends d e → All (PlaceIn d) ps → All (HitIn d (length ps)) hits → AreObjectsOf (spots v d ps) objects → IsFound v d (spots v d ps) p (truly v d hits)
    → answered q v e (objects_of v e ps) (truly v e hits) ≡ answer_of q (offset_of p) (object_at objects (object_of p))
answered_at q v d e ps hits p objects x all within are found =
    let same = spots_stay v d e ps x all in
    let found_e = found_stays v d e (length ps) (spots v d ps) (spots v e ps) p p hits x within same refl found in
    let are_e = subst (λ (ss : Spots). AreObjectsOf ss objects) (sym same) are in
    answered_is q v e (spots v e ps) p (objects_of v e ps) (truly v e hits) found_e ∙ ap (answer_of q (offset_of p)) (sym (found_object v e ps objects p (truly v e hits) are_e found_e))

pub object_cells : (v : ℕ → ℕ) (d : List Node) (ps : List Place) (hs : List Hit) (p : ℕ) (objects : Objects) → AreObjectsOf (spots v d ps) objects → IsFound v d (spots v d ps) p hs → IfSome (object_at objects (object_of p)) (λ (o : StoredObject). o.cells ≡ [])
object_cells v d ps hs p objects are found = subst (λ (o : Option StoredObject). IfSome o (λ (x : StoredObject). x.cells ≡ [])) (sym (found_object v d ps objects p hs are found)) (hit_cells v d ps hs)
