-- Marks of the nodes that a goal leads to, set from the goal down.
use Rattle.std.proofs.Common.{◌≡◌, ℕ, zero, suc, ◌+◌, ◌<◌, ◌≤◌, ◌⊎◌, inl, inr, Bool, true, false, List, [], ◌∷◌, ◌++◌, length, get_or, take, refl, sym, ap, ◌∙◌, subst, arith}
use Rattle.std.specs.List.{AllByRecursion, Contains}
use Rattle.std.proofs.Math.ListN.{set, replicate}
use Rattle.std.proofs.lemmas.Bool.{cases_eq, cases_lt, false≢true}
use Rattle.std.proofs.lemmas.List.{get_or-set_same, get_or-set_other, get_or_past, length-take-le, length-set, length-replicate}
use Rattle.std.proofs.lemmas.List.Elements.{All-contains, All-from_recursion}
use Rattle.word_dag.specs.declared.nodes.Node.{Node}
use Rattle.word_dag.specs.declared.nodes.Node.TheVariants.{Constant, Variable, Not, Negate, Binary, Shift, Compare, Fits, Choice, ZeroExtend, SignExtend, Cut, Join, Quantify}
use Rattle.word_dag.specs.Meaning.{places, widths}
use Rattle.word_dag.specs.Fitting.{fits, is_ordered}
use Rattle.word_dag.proofs.Folds.{length_widths}
use Rattle.word_dag.proofs.Order.{fits-at}
use Rattle.word_dag.proofs.Places.{places_below, places_more, bits}
use Rattle.word_dag.proofs.Operands.{there, alike, chosen, widened, part, joint}
use Rattle.bit_blast.specs.Reach.{operands, node_at, Leads, IsUnder, AreMarks}
use Rattle.bit_blast.specs.Marking.{with_marks}

-- ---- operands

pub operands_there : (ws : List ℕ) (n : Node) → fits ws n ≡ true → AllByRecursion (λ j. j < length ws) (operands n)
operands_there ws (Constant bits w) h = tt
operands_there ws (Variable x w) h = tt
operands_there ws (Not a) h = (there ws a h, tt)
operands_there ws (Negate a) h = (there ws a h, tt)
operands_there ws (Binary o a b) h = let p = alike ws a b h in (p.left, (p.right, tt))
operands_there ws (Shift s a count) h = let p = alike ws a count h in (p.left, (p.right, tt))
operands_there ws (Compare c a b) h = let p = alike ws a b h in (p.left, (p.right, tt))
operands_there ws (Fits t a b) h = let p = alike ws a b h in (p.left, (p.right, tt))
operands_there ws (Choice c a b) h = let p = chosen ws c a b h in (p.there, (p.alike.left, (p.alike.right, tt)))
operands_there ws (ZeroExtend a w) h = ((widened ws a w h).there, tt)
operands_there ws (SignExtend a w) h = ((widened ws a w h).there, tt)
operands_there ws (Cut a low w) h = ((part ws a low w h).there, tt)
operands_there ws (Join high low) h = let p = joint ws high low h in (p.left, (p.right, tt))
operands_there ws (Quantify q first count) h = places_below first.index count (length ws) (bits ws first.index count h).within

-- a node reads earlier nodes
pub operands_earlier : (ns : List Node) (k : ℕ) → is_ordered ns ≡ true → k < length ns → AllByRecursion (λ j. j < k) (operands (node_at ns k))
operands_earlier ns k h l =
    let e : length (widths (take k ns)) ≡ k = length_widths (take k ns) ∙ length-take-le k ns (omega arith) in
    subst (λ (m : ℕ). AllByRecursion (λ j. j < m) (operands (node_at ns k))) e (operands_there (widths (take k ns)) (node_at ns k) (fits-at ns k (Constant 0 0) h l))

-- ---- facts of each element

pub each-weaker : (P Q : ℕ → Type 0) → ((j : ℕ) → P j → Q j) → (js : List ℕ) → AllByRecursion P js → AllByRecursion Q js
each-weaker P Q f [] h = tt
each-weaker P Q f (j ∷ js) h = (f j h.0, each-weaker P Q f js h.1)

pub each-both : (P Q R : ℕ → Type 0) → ((j : ℕ) → P j → Q j → R j) → (js : List ℕ) → AllByRecursion P js → AllByRecursion Q js → AllByRecursion R js
each-both P Q R f [] h g = tt
each-both P Q R f (j ∷ js) h g = (f j h.0 g.0, each-both P Q R f js h.1 g.1)

pub each-all : (P : ℕ → Type 0) → ((j : ℕ) → P j) → (js : List ℕ) → AllByRecursion P js
each-all P f [] = tt
each-all P f (j ∷ js) = (f j, each-all P f js)

each-from : (P : ℕ → Type 0) (js : List ℕ) → ((j : ℕ) → Contains js j → P j) → AllByRecursion P js
each-from P [] f = tt
each-from P (j ∷ js) f = (f j (0, omega arith, refl), each-from P js (λ i c. f i (suc c.0, omega (arith, c.1), c.2)))

pub each-at : (P : ℕ → Type 0) (js : List ℕ) (j : ℕ) → AllByRecursion P js → Contains js j → P j
each-at P js j h c = All-contains P js j (All-from_recursion P js h) c

-- ---- marks that are set

abbrev pub Marked : List Bool → ℕ → Type 0
Marked marks j = get_or marks j false ≡ true

pub length-with_marks : (marks : List Bool) (js : List ℕ) → length (with_marks marks js) ≡ length marks
length-with_marks marks [] = refl
length-with_marks marks (j ∷ js) = length-with_marks (set marks j true) js ∙ length-set marks j true

set_keeps : (marks : List Bool) (i j : ℕ) → Marked marks j → Marked (set marks i true) j
set_keeps marks i j h = elim (cases_lt i (length marks)) [
  | inl l ↦ elim (cases_eq j i) [ inl e ↦ ap (λ (k : ℕ). get_or (set marks i true) k false) e ∙ get_or-set_same marks i true false l | inr e ↦ get_or-set_other marks i j true false e ∙ h ]
  | inr l ↦ elim (cases_eq j i) [ inl e ↦ absurd (false≢true (sym (get_or_past marks j false (omega arith)) ∙ h)) | inr e ↦ get_or-set_other marks i j true false e ∙ h ]
]

pub with_marks-keeps : (marks : List Bool) (js : List ℕ) (j : ℕ) → Marked marks j → Marked (with_marks marks js) j
with_marks-keeps marks [] j h = h
with_marks-keeps marks (i ∷ js) j h = with_marks-keeps (set marks i true) js j (set_keeps marks i j h)

pub with_marks-sets : (marks : List Bool) (js : List ℕ) → AllByRecursion (λ j. j < length marks) js → AllByRecursion (Marked (with_marks marks js)) js
with_marks-sets marks [] h = tt
with_marks-sets marks (i ∷ js) h = (
  with_marks-keeps (set marks i true) js i (get_or-set_same marks i true false h.0),
  with_marks-sets (set marks i true) js (each-weaker (λ j. j < length marks) (λ j. j < length (set marks i true)) (λ j l. omega (arith, length-set marks i true)) js h.1),
)

-- one mark more
with_marks-push : (marks : List Bool) (js : List ℕ) (j : ℕ) → with_marks marks (js ++ j ∷ []) ≡ set (with_marks marks js) j true
with_marks-push marks [] j = refl
with_marks-push marks (i ∷ js) j = with_marks-push (set marks i true) js j

pub marks_more : (marks old new : List Bool) (first count j : ℕ) → old ≡ with_marks marks (places first count) → j ≡ first + count → new ≡ set old j true → new ≡ with_marks marks (places first (count + 1))
marks_more marks old new first count j so place is =
    is ∙ (λ k. set (so k) (place k) true) ∙ sym (with_marks-push marks (places first count) (first + count)) ∙ ap (with_marks marks) (sym (places_more first count))

pub marked_inside : (marks now : List Bool) (first count j : ℕ) → now ≡ with_marks marks (places first count) → j < length marks → j < length now
marked_inside marks now first count j so l = omega (arith, l, ap (λ (bs : List Bool). length bs) so, length-with_marks marks (places first count))

set_only : (P : ℕ → Type 0) (marks : List Bool) (i : ℕ) → ((j : ℕ) → Marked marks j → P j) → P i → (j : ℕ) → Marked (set marks i true) j → P j
set_only P marks i old new j h = elim (cases_eq j i) [ inl e ↦ subst P (sym e) new | inr e ↦ old j (sym (get_or-set_other marks i j true false e) ∙ h) ]

pub with_marks-only : (P : ℕ → Type 0) (marks : List Bool) (js : List ℕ) → ((j : ℕ) → Marked marks j → P j) → AllByRecursion P js → (j : ℕ) → Marked (with_marks marks js) j → P j
with_marks-only P marks [] old new j h = old j h
with_marks-only P marks (i ∷ js) old new j h = with_marks-only P (set marks i true) js (set_only P marks i old new.0) new.1 j h

-- ---- the nodes under a goal

leads_more : (ns : List Node) (i : ℕ) (path : List ℕ) (j k : ℕ) → Leads ns i path j → Contains (operands (node_at ns j)) k → Leads ns i (path ++ k ∷ []) k
leads_more ns i [] j k h c = (subst (λ (m : ℕ). Contains (operands (node_at ns m)) k) (sym h) c, refl)
leads_more ns i (m ∷ path) j k h c = (h.0, leads_more ns m path j k h.1 c)

pub under_more : (ns : List Node) (goal j : ℕ) → IsUnder ns goal j → AllByRecursion (IsUnder ns goal) (operands (node_at ns j))
under_more ns goal j h = each-from (IsUnder ns goal) (operands (node_at ns j)) (λ k c. (h.0 ++ k ∷ [], leads_more ns goal h.0 j k h.1 c))

-- ---- from the goal down

-- the nodes from place i on are done
pub record MarkedTo (ns : List Node) (goal i : ℕ) (marks : List Bool) : Type 0 where
  pub count : length marks ≡ length ns
  pub goal_is : Marked marks goal
  pub sound : (j : ℕ) → Marked marks j → IsUnder ns goal j
  pub closed : (k : ℕ) → i ≤ k → Marked marks k → AllByRecursion (Marked marks) (operands (node_at ns k))

none_marked : (n j : ℕ) → get_or (replicate n false) j false ≡ false
none_marked zero j = refl
none_marked (suc n) zero = refl
none_marked (suc n) (suc j) = none_marked n j

pub MarkedTo-goal : (ns : List Node) (goal : ℕ) (marks : List Bool) → goal < length ns → marks ≡ set (replicate (length ns) false) goal true → MarkedTo ns goal (length ns) marks
MarkedTo-goal ns goal marks l e =
    let n : length (replicate (length ns) false) ≡ length ns = length-replicate (length ns) false in
    let count : length marks ≡ length ns = ap (λ (bs : List Bool). length bs) e ∙ length-set (replicate (length ns) false) goal true ∙ n in
    record {
      count = count;
      goal_is = ap (λ (bs : List Bool). get_or bs goal false) e ∙ get_or-set_same (replicate (length ns) false) goal true false (omega arith);
      sound = λ j h. set_only (IsUnder ns goal) (replicate (length ns) false) goal (λ i m. absurd (false≢true (sym (none_marked (length ns) i) ∙ m))) ([], refl) j (sym (ap (λ (bs : List Bool). get_or bs j false) e) ∙ h);
      closed = λ k m h. absurd (false≢true (sym (get_or_past marks k false (omega arith)) ∙ h));
    }

pub MarkedTo-skip : (ns : List Node) (goal i m : ℕ) (marks : List Bool) → m ≡ i + 1 → MarkedTo ns goal m marks → get_or marks i false ≡ false → MarkedTo ns goal i marks
MarkedTo-skip ns goal i n marks q so h = record {
  count = so.count;
  goal_is = so.goal_is;
  sound = so.sound;
  closed = λ k l m. elim (cases_lt i k) [
    | inl less ↦ so.closed k (omega arith) m
    | inr same ↦ let e : k ≡ i = omega arith in absurd (false≢true (sym (ap (λ (j : ℕ). get_or marks j false) e ∙ h) ∙ m))
  ];
}

pub MarkedTo-more : (ns : List Node) (goal i m : ℕ) (old new : List Bool) → is_ordered ns ≡ true → i < length ns → m ≡ i + 1 → MarkedTo ns goal m old → Marked old i → new ≡ with_marks old (operands (node_at ns i)) → MarkedTo ns goal i new
MarkedTo-more ns goal i after old new ordered l q so h e =
    let js : List ℕ = operands (node_at ns i) in
    let earlier : AllByRecursion (λ j. j < i) js = operands_earlier ns i ordered l in
    let inside : AllByRecursion (λ j. j < length old) js = each-weaker (λ j. j < i) (λ j. j < length old) (λ j m. omega (arith, so.count)) js earlier in
    let old_or_earlier : (j : ℕ) → Marked (with_marks old js) j → Marked old j ⊎ (j < i) =
    with_marks-only (λ j. Marked old j ⊎ (j < i)) old js (λ j m. inl m) (each-weaker (λ j. j < i) (λ j. Marked old j ⊎ (j < i)) (λ j m. inr m) js earlier) in
    let kept : (k : ℕ) → AllByRecursion (Marked old) (operands (node_at ns k)) → AllByRecursion (Marked (with_marks old js)) (operands (node_at ns k)) =
    λ k. each-weaker (Marked old) (Marked (with_marks old js)) (λ j m. with_marks-keeps old js j m) (operands (node_at ns k)) in
    let sets : AllByRecursion (Marked (with_marks old js)) js = with_marks-sets old js inside in
    let above : (k : ℕ) → i < k → Marked (with_marks old js) k → AllByRecursion (Marked (with_marks old js)) (operands (node_at ns k)) =
    λ k n m. elim (old_or_earlier k m) [ inl was ↦ kept k (so.closed k (omega arith) was) | inr early ↦ absurd (omega arith) ] in
    subst (MarkedTo ns goal i) (sym e) (record {
      count = length-with_marks old js ∙ so.count;
      goal_is = with_marks-keeps old js goal so.goal_is;
      sound = with_marks-only (IsUnder ns goal) old js so.sound (under_more ns goal i (so.sound i h));
      closed = λ k n m. elim (cases_lt i k) [
        | inl less ↦ above k less m
        | inr same ↦ let r : i ≡ k = omega arith in subst (λ (j : ℕ). AllByRecursion (Marked (with_marks old js)) (operands (node_at ns j))) r sets
      ];
    })

follow : (ns : List Node) (goal : ℕ) (marks : List Bool) → MarkedTo ns goal 0 marks → (i : ℕ) (path : List ℕ) (j : ℕ) → Marked marks i → Leads ns i path j → Marked marks j
follow ns goal marks so i [] j m h = ap (λ (k : ℕ). get_or marks k false) (sym h) ∙ m
follow ns goal marks so i (k ∷ path) j m h = follow ns goal marks so k path j (each-at (Marked marks) (operands (node_at ns i)) k (so.closed i (omega arith) m) h.0) h.1

marks_whole : (ns : List Node) (goal : ℕ) (marks : List Bool) → MarkedTo ns goal 0 marks → AreMarks ns goal marks
marks_whole ns goal marks so = record {
  count = so.count;
  exactly = λ i. (so.sound i, λ h. follow ns goal marks so goal h.0 i so.goal_is h.1);
}

pub MarkedTo-all : (ns d : List Node) (goal m : ℕ) (marks : List Bool) → ns ≡ d → m ≤ 0 → MarkedTo ns goal m marks → AreMarks d goal marks
MarkedTo-all ns d goal m marks e l so =
    let z : m ≡ 0 = omega arith in
    subst (λ (us : List Node). AreMarks us goal marks) e (marks_whole ns goal marks (subst (λ (k : ℕ). MarkedTo ns goal k marks) z so))

pub marks_inside : (ns : List Node) (goal i m : ℕ) (marks : List Bool) → is_ordered ns ≡ true → i < length ns → MarkedTo ns goal m marks → AllByRecursion (λ j. j < length marks) (operands (node_at ns i))
marks_inside ns goal i m marks ordered l so =
    each-weaker (λ j. j < i) (λ j. j < length marks) (λ j n. omega (arith, so.count)) (operands (node_at ns i)) (operands_earlier ns i ordered l)
