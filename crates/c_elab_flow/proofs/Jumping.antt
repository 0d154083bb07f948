-- Labels by their names, and what lies ahead of each item of a list.
use Rattle.std.proofs.Common.{◌≡◌, ◌≤◌, ◌<◌, ◌+◌, ℕ, zero, suc, Bool, true, false, List, [], ◌∷◌, ◌++◌, length, get_or, drop, Option, Some, None, option_map, nat_eq, max, Bor, refl, ap, ap₂, sym, subst, ◌∙◌, arith}
use Rattle.std.specs.Prelude.{◌||◌, ◌&&◌, nat_lt, Vec, Box, is_some, option_copied, if◌then◌else◌}
use Rattle.std.specs.List.{list_any}
use Rattle.std.specs.Str.{bytes_eq}
use Rattle.std.specs.Cmp.Lexicographic.{pointwise}
use Rattle.std.specs.Global.{Global}
use Rattle.std.proofs.lemmas.List.{append_assoc, append-nil, drop_all, drop_more, length-append}
use Rattle.std.proofs.lemmas.Slice.Eq.{bytes_eq-Decides}
use Rattle.std.proofs.lemmas.Bool.{lt-ltb, ltb-true, ltb-false, le-ltb}
use Rattle.indexmap.specs.IndexMap.{insert_entry}
use Rattle.c_tree.specs.declared.statement.Item.{Item, Declares, Does, Does'}
use Rattle.c_tree.specs.declared.statement.Stmt.{Stmt}
use Rattle.c_tree.specs.declared.declaration.Declaration.{Declaration}
use Rattle.c_tree.specs.Statements.{Statement, labelled, Items, done, view_statement, view_item, items_of as trees}
use Rattle.c_scope.proofs.Entries.{same_name, others_name}
use Rattle.c_elab_flow.specs.declared.jumps.Ahead.{Ahead}
use Rattle.c_elab_flow.specs.Jumps.{labels_of, jumps_in, jumps_of, label_number, first_label, labels_before, has_case_before, labels_ahead, has_case_ahead, among, is_passed}
use Rattle.c_elab_flow.specs.Lookahead.{Places, place_by, placed, reached, with_jumps, Notes, items_behind, Looks, is_passed_at, Passes, first_jumps, jumped_behind}

-- ---- a name more

written : (x : Bool) (v w : ℕ) (rest : Option ℕ) → (if x then Some v else rest) ≡ (if x then Some v else (if x then Some w else rest))
written true v w rest = refl
written false v w rest = refl

passed : (x y : Bool) (v w : ℕ) (new old : Option ℕ) → (x ≡ true → y ≡ false) → new ≡ (if y then Some v else old) → (if x then Some w else new) ≡ (if y then Some v else (if x then Some w else old))
passed true y v w new old apart same = ap (λ (b : Bool). if b then Some v else Some w) (sym (apart refl))
passed false y v w new old apart same = same

pub label_after : (es : Places) (k : Vec ℕ Global) (v : ℕ) (n : List ℕ)
    → first_label (insert_entry (λ (x y : Vec ℕ Global). pointwise nat_eq x.items y.items) es k v) n ≡ (if bytes_eq n k.items then Some v else first_label es n)
label_after [] k v n = refl
label_after (e ∷ es) k v n = either (label_after es k v n) (bytes_eq k.items e.0.items) refl where
  rest : Places
  rest = insert_entry (λ (x y : Vec ℕ Global). pointwise nat_eq x.items y.items) es k v

  after : Places → Type 0
  after xs = first_label xs n ≡ (if bytes_eq n k.items then Some v else first_label (e ∷ es) n)

  either : (first_label rest n ≡ (if bytes_eq n k.items then Some v else first_label es n)) → (b : Bool) → bytes_eq k.items e.0.items ≡ b → after (if b then (e.0, v) ∷ es else e ∷ rest)
  either before true same =
      subst (λ (ks : List ℕ). first_label ((e.0, v) ∷ es) n ≡ (if bytes_eq n ks then Some v else first_label (e ∷ es) n))
      (sym (same_name k.items e.0.items same)) (written (bytes_eq n e.0.items) v e.1 (first_label es n))
  either before false apart =
      passed (bytes_eq n e.0.items) (bytes_eq n k.items) v e.1 (first_label rest n) (first_label es n) (λ here. others_name n k.items e.0.items here apart) before

-- ---- labels in their order

abbrev or_last : Option ℕ → Bool → ℕ → Option ℕ
or_last None b l = if b then Some l else None
or_last (Some k) b l = Some k

later_label : (o : Option ℕ) (b : Bool) (l : ℕ) → option_map suc (or_last o b l) ≡ or_last (option_map suc o) b (suc l)
later_label None true l = refl
later_label None false l = refl
later_label (Some k) b l = refl

label_last : (ns : List (List ℕ)) (name n : List ℕ) → label_number (ns ++ name ∷ []) n ≡ or_last (label_number ns n) (bytes_eq n name) (length ns)
label_last [] name n = by (bytes_eq n name) where
  by : (b : Bool) → (if b then Some 0 else None) ≡ or_last None b 0
  by true = refl
  by false = refl
label_last (x ∷ ns) name n = by (label_last ns name n) (bytes_eq n x) where
  by : (label_number (ns ++ name ∷ []) n ≡ or_last (label_number ns n) (bytes_eq n name) (length ns)) → (b : Bool)
      → (if b then Some 0 else option_map suc (label_number (ns ++ name ∷ []) n)) ≡ or_last (if b then Some 0 else option_map suc (label_number ns n)) (bytes_eq n name) (suc (length ns))
  by rest true = refl
  by rest false = ap (option_map suc) rest ∙ later_label (label_number ns n) (bytes_eq n name) (length ns)

-- a new label is the first of its name
pub new_label : (es now : Places) (ns : List (List ℕ)) (k : Vec ℕ Global) (name : List ℕ) (number : ℕ) → ((n : List ℕ) → first_label es n ≡ label_number ns n) → first_label es name ≡ None → k.items ≡ name → number ≡ length ns
    → now ≡ insert_entry (λ (x y : Vec ℕ Global). pointwise nat_eq x.items y.items) es k number → (n : List ℕ) → first_label now n ≡ label_number (ns ++ name ∷ []) n
new_label es now ns k name number known absent own last added n =
    ap (λ (xs : Places). first_label xs n) added ∙ label_after es k number n ∙ ap (λ (m : List ℕ). if bytes_eq n m then Some number else first_label es n) own
    ∙ ap (λ (o : Option ℕ). if bytes_eq n name then Some number else o) (known n) ∙ by (bytes_eq n name) refl ∙ sym (label_last ns name n) where
      by : (b : Bool) → bytes_eq n name ≡ b → (if b then Some number else label_number ns n) ≡ or_last (label_number ns n) b (length ns)
      by true same =
          let none : label_number ns n ≡ None = ap (label_number ns) (same_name n name same) ∙ sym (known name) ∙ absent in
          ap Some last ∙ ap (λ (o : Option ℕ). or_last o true (length ns)) (sym none)
      by false apart = either (label_number ns n) where
        either : (o : Option ℕ) → o ≡ or_last o false (length ns)
        either None = refl
        either (Some l) = refl

-- what a map has for a name
pub some_label : (r : Option (Bor ℕ)) (o : Option ℕ) → option_copied r ≡ o → true ≡ is_some r → (k : ℕ) × (o ≡ Some k)
some_label None o e h = let none : ⊥ = cc in absurd none
some_label (Some k) o e h = (k.now, sym e)

pub no_label : (r : Option (Bor ℕ)) (o : Option ℕ) → option_copied r ≡ o → false ≡ is_some r → o ≡ None
no_label None o e h = sym e
no_label (Some k) o e h = let none : ⊥ = cc in absurd none

-- a name that has a label keeps it
pub old_label : (es : Places) (ns : List (List ℕ)) (name : List ℕ) (first : ℕ) → ((n : List ℕ) → first_label es n ≡ label_number ns n) → first_label es name ≡ Some first
    → (n : List ℕ) → first_label es n ≡ label_number (ns ++ name ∷ []) n
old_label es ns name first known there n = known n ∙ by (bytes_eq n name) refl ∙ sym (label_last ns name n) where
  keeps : (o : Option ℕ) (b : Bool) → o ≡ Some first → o ≡ or_last o b (length ns)
  keeps None b e = let none : ⊥ = cc in absurd none
  keeps (Some l) b e = refl

  without : (o : Option ℕ) → o ≡ or_last o false (length ns)
  without None = refl
  without (Some l) = refl

  by : (b : Bool) → bytes_eq n name ≡ b → label_number ns n ≡ or_last (label_number ns n) b (length ns)
  by true same = keeps (label_number ns n) true (ap (label_number ns) (same_name n name same) ∙ sym (known name) ∙ there)
  by false apart = without (label_number ns n)

-- ---- tests

or_false : (b : Bool) → (b || false) ≡ b
or_false true = refl
or_false false = refl

pub or_swap : (a b : Bool) → (a || b) ≡ (b || a)
or_swap true true = refl
or_swap true false = refl
or_swap false true = refl
or_swap false false = refl

or_assoc : (a b c : Bool) → ((a || b) || c) ≡ (a || (b || c))
or_assoc true b c = refl
or_assoc false b c = refl

any_behind : {A : Type 0} (f : A → Bool) (xs ys : List A) → list_any f (xs ++ ys) ≡ (list_any f xs || list_any f ys)
any_behind f [] ys = refl
any_behind f (x ∷ xs) ys = ap (λ (b : Bool). f x || b) (any_behind f xs ys) ∙ sym (or_assoc (f x) (list_any f xs) (list_any f ys))

any_none : {A : Type 0} (xs : List A) → list_any (λ x. false) xs ≡ false
any_none [] = refl
any_none (x ∷ xs) = any_none xs

less_max : (n a b : ℕ) → nat_lt n (max a b) ≡ (nat_lt n a || nat_lt n b)
less_max n a b = by (nat_lt n a) (nat_lt n b) refl refl where
  by : (x y : Bool) → nat_lt n a ≡ x → nat_lt n b ≡ y → nat_lt n (max a b) ≡ (x || y)
  by true y e f = let less = ltb-true n a e in lt-ltb n (max a b) (omega (arith, less))
  by false true e f = let less = ltb-true n b f in lt-ltb n (max a b) (omega (arith, less))
  by false false e f =
      let first = ltb-false n a e in
      let second = ltb-false n b f in
      le-ltb n (max a b) (omega (arith, first, second))

same_bytes : (a b : List ℕ) → bytes_eq a b ≡ bytes_eq b a
same_bytes a b = by (bytes_eq a b) (bytes_eq b a) refl refl where
  by : (x y : Bool) → bytes_eq a b ≡ x → bytes_eq b a ≡ y → x ≡ y
  by true true e f = refl
  by false false e f = refl
  by true false e f = let is = (bytes_eq-Decides b a).1 (sym (same_name a b e)) in let none : ⊥ = cc in absurd none
  by false true e f = let is = (bytes_eq-Decides a b).1 (sym (same_name b a f)) in let none : ⊥ = cc in absurd none

or_middle : (a b c d : Bool) → ((a || b) || (c || d)) ≡ ((a || c) || (b || d))
or_middle true b c d = refl
or_middle false true true d = refl
or_middle false true false d = refl
or_middle false false true d = refl
or_middle false false false d = refl

-- ---- names that are jumped to

jumped_one : (jumped : List (List ℕ)) (n : List ℕ) (ls : List (List ℕ)) → list_any (λ l. among (jumped ++ n ∷ []) l) ls ≡ (list_any (λ l. among jumped l) ls || among ls n)
jumped_one jumped n [] = refl
jumped_one jumped n (l ∷ ls) =
    let here : among (jumped ++ n ∷ []) l ≡ (among jumped l || bytes_eq n l) =
    any_behind (λ m. bytes_eq l m) jumped (n ∷ []) ∙ ap (λ (b : Bool). among jumped l || b) (or_false (bytes_eq l n) ∙ same_bytes l n) in
    ap₂ (λ (a b : Bool). a || b) here (jumped_one jumped n ls) ∙ or_middle (among jumped l) (bytes_eq n l) (list_any (λ m. among jumped m) ls) (among ls n)

looks_one : (switched : Bool) (items : Items) (jumped : List (List ℕ)) (a : Ahead) (name : List ℕ) → Looks switched items jumped a → Looks switched items (jumped ++ name ∷ []) (with_jumps a (name ∷ []))
looks_one switched items jumped a name h = record {
  labels = h.labels;
  cases = h.cases;
  reach = λ n. less_max n a.reach (placed a.labels.entries name) ∙ ap₂ (λ (x y : Bool). x || y) (h.reach n) (h.labels n name) ∙ sym (jumped_one jumped name (labels_ahead (items_behind n items)));
}

-- the jumps of one item more
pub looks_more : (switched : Bool) (items : Items) (jumped : List (List ℕ)) (a : Ahead) (names : List (List ℕ)) → Looks switched items jumped a → Looks switched items (jumped ++ names) (with_jumps a names)
looks_more switched items jumped a [] h = subst (λ (js : List (List ℕ)). Looks switched items js a) (sym (append-nil jumped)) h
looks_more switched items jumped a (n ∷ ns) h =
    subst (λ (js : List (List ℕ)). Looks switched items js (with_jumps a (n ∷ ns))) (append_assoc jumped (n ∷ []) ns)
    (looks_more switched items (jumped ++ n ∷ []) (with_jumps a (n ∷ [])) ns (looks_one switched items jumped a n h))

reached_behind : (places : Places) (xs ys : List (List ℕ)) (reach : ℕ) → reached places ys (reached places xs reach) ≡ reached places (xs ++ ys) reach
reached_behind places [] ys reach = refl
reached_behind places (x ∷ xs) ys reach = reached_behind places xs ys (max reach (placed places x))

pub jumps_twice : (a : Ahead) (xs ys : List (List ℕ)) → with_jumps (with_jumps a xs) ys ≡ with_jumps a (xs ++ ys)
jumps_twice a xs ys = ap (λ (r : ℕ). record a { reach = r }) (reached_behind a.labels.entries xs ys a.reach)

-- whether a jump passes over the item with a number
pub passed_over : (switched : Bool) (items : Items) (jumped : List (List ℕ)) (a : Ahead) (n : ℕ) → Looks switched items jumped a → is_passed_at a n ≡ is_passed switched jumped (items_behind n items)
passed_over switched items jumped a n h =
    ap₂ (λ (x y : Bool). x || y) (h.cases n) (h.reach n) ∙ or_swap (switched && has_case_ahead (items_behind n items)) (list_any (λ l. among jumped l) (labels_ahead (items_behind n items)))

-- ---- items from left to right

pub behind_at : (n : ℕ) (is : List Item) → items_behind n (trees is) ≡ trees (drop (n + 1) is)
behind_at n [] = ap trees (sym (drop_all (n + 1) [] (omega arith)))
behind_at zero (Declares d ∷ is) = refl
behind_at zero (Does' p s ∷ is) = refl
behind_at (suc n) (Declares d ∷ is) = let next : suc n + 1 ≡ suc (n + 1) = omega arith in behind_at n is ∙ ap (λ (k : ℕ). trees (drop k (Declares d ∷ is))) (sym next)
behind_at (suc n) (Does' p s ∷ is) = let next : suc n + 1 ≡ suc (n + 1) = omega arith in behind_at n is ∙ ap (λ (k : ℕ). trees (drop k (Does' p s ∷ is))) (sym next)

none_behind : (n : ℕ) (is : List Item) → length is ≤ n + 1 → items_behind n (trees is) ≡ done
none_behind n [] h = refl
none_behind zero (Declares d ∷ []) h = refl
none_behind zero (Does' p s ∷ []) h = refl
none_behind zero (Declares d ∷ y ∷ is) h = let none : ⊥ = omega (arith, h) in absurd none
none_behind zero (Does' p s ∷ y ∷ is) h = let none : ⊥ = omega (arith, h) in absurd none
none_behind (suc n) (Declares d ∷ is) h = none_behind n is (omega (arith, h))
none_behind (suc n) (Does' p s ∷ is) h = none_behind n is (omega (arith, h))

labels_push : (is : List Item) (x : Item) → labels_ahead (trees (is ++ x ∷ [])) ≡ labels_ahead (trees is) ++ labels_ahead (view_item x done)
labels_push [] x = refl
labels_push (Declares d ∷ is) x = labels_push is x
labels_push (Does' p s ∷ is) x = ap (λ (ls : List (List ℕ)). labels_before (view_statement s) ++ ls) (labels_push is x) ∙ sym (append_assoc (labels_before (view_statement s)) (labels_ahead (trees is)) (labels_ahead (view_item x done)))

cases_push : (is : List Item) (x : Item) → has_case_ahead (trees (is ++ x ∷ [])) ≡ (has_case_ahead (trees is) || has_case_ahead (view_item x done))
cases_push [] x = refl
cases_push (Declares d ∷ is) x = cases_push is x
cases_push (Does' p s ∷ is) x = ap (λ (b : Bool). has_case_before (view_statement s) || b) (cases_push is x) ∙ sym (or_assoc (has_case_before (view_statement s)) (has_case_ahead (trees is)) (has_case_ahead (view_item x done)))

labels_within : (n : ℕ) (is : List Item) (x : Item) → n < length is → labels_ahead (items_behind n (trees (is ++ x ∷ []))) ≡ labels_ahead (items_behind n (trees is)) ++ labels_ahead (view_item x done)
labels_within n [] x h = let none : ⊥ = omega (arith, h) in absurd none
labels_within zero (Declares d ∷ is) x h = labels_push is x
labels_within zero (Does' p s ∷ is) x h = labels_push is x
labels_within (suc n) (Declares d ∷ is) x h = labels_within n is x (omega (arith, h))
labels_within (suc n) (Does' p s ∷ is) x h = labels_within n is x (omega (arith, h))

cases_within : (n : ℕ) (is : List Item) (x : Item) → n < length is → has_case_ahead (items_behind n (trees (is ++ x ∷ []))) ≡ (has_case_ahead (items_behind n (trees is)) || has_case_ahead (view_item x done))
cases_within n [] x h = let none : ⊥ = omega (arith, h) in absurd none
cases_within zero (Declares d ∷ is) x h = cases_push is x
cases_within zero (Does' p s ∷ is) x h = cases_push is x
cases_within (suc n) (Declares d ∷ is) x h = cases_within n is x (omega (arith, h))
cases_within (suc n) (Does' p s ∷ is) x h = cases_within n is x (omega (arith, h))

less_or_not : {P : Type 0} (n l : ℕ) → (n < l → P) → (l ≤ n → P) → P
less_or_not {P} n l less not_less = by (nat_lt n l) refl where
  by : (b : Bool) → nat_lt n l ≡ b → P
  by true e = less (ltb-true n l e)
  by false e = not_less (ltb-false n l e)

-- an item with labels and cases before it, or none, more
module _ (switched : Bool) (is : List Item) (x : Item) (a b : Ahead) (h : Looks switched (trees is) [] a)
    (labels_noted : (name : List ℕ) → placed b.labels.entries name ≡ (if among (labels_ahead (view_item x done)) name then length is else placed a.labels.entries name))
    (cases_noted : b.cases ≡ (if switched && has_case_ahead (view_item x done) then length is else a.cases)) (reach_noted : b.reach ≡ a.reach) where
  long : length (is ++ x ∷ []) ≡ length is + 1
  long = length-append is (x ∷ [])

  labels_now : (n : ℕ) (name : List ℕ) → nat_lt n (placed b.labels.entries name) ≡ among (labels_ahead (items_behind n (trees (is ++ x ∷ [])))) name
  labels_now n name = less_or_not n (length is) inner outer where
    here : Bool
    here = among (labels_ahead (view_item x done)) name

    inner : n < length is → nat_lt n (placed b.labels.entries name) ≡ among (labels_ahead (items_behind n (trees (is ++ x ∷ [])))) name
    inner less =
        ap (nat_lt n) (labels_noted name) ∙ by here
        ∙ sym (ap (λ (ls : List (List ℕ)). among ls name) (labels_within n is x less) ∙ any_behind (λ m. bytes_eq name m) (labels_ahead (items_behind n (trees is))) (labels_ahead (view_item x done))) where
          by : (y : Bool) → nat_lt n (if y then length is else placed a.labels.entries name) ≡ (among (labels_ahead (items_behind n (trees is))) name || y)
          by true = lt-ltb n (length is) less ∙ or_swap true (among (labels_ahead (items_behind n (trees is))) name)
          by false = h.labels n name ∙ sym (or_false (among (labels_ahead (items_behind n (trees is))) name))

    outer : length is ≤ n → nat_lt n (placed b.labels.entries name) ≡ among (labels_ahead (items_behind n (trees (is ++ x ∷ [])))) name
    outer more =
        ap (nat_lt n) (labels_noted name) ∙ by here
        ∙ sym (ap (λ (rest : Items). among (labels_ahead rest) name) (none_behind n (is ++ x ∷ []) (omega (arith, long, more)))) where
          by : (y : Bool) → nat_lt n (if y then length is else placed a.labels.entries name) ≡ false
          by true = le-ltb n (length is) more
          by false = h.labels n name ∙ ap (λ (rest : Items). among (labels_ahead rest) name) (none_behind n is (omega (arith, more)))

  cases_now : (n : ℕ) → nat_lt n b.cases ≡ (switched && has_case_ahead (items_behind n (trees (is ++ x ∷ []))))
  cases_now n = less_or_not n (length is) inner outer where
    here : Bool
    here = has_case_ahead (view_item x done)

    inner : n < length is → nat_lt n b.cases ≡ (switched && has_case_ahead (items_behind n (trees (is ++ x ∷ []))))
    inner less = ap (nat_lt n) cases_noted ∙ by switched here (h.cases n) ∙ sym (ap (λ (c : Bool). switched && c) (cases_within n is x less)) where
      by : (w y : Bool) → nat_lt n a.cases ≡ (w && has_case_ahead (items_behind n (trees is)))
          → nat_lt n (if w && y then length is else a.cases) ≡ (w && (has_case_ahead (items_behind n (trees is)) || y))
      by true true e = lt-ltb n (length is) less ∙ or_swap true (has_case_ahead (items_behind n (trees is)))
      by true false e = e ∙ sym (or_false (has_case_ahead (items_behind n (trees is))))
      by false y e = e

    outer : length is ≤ n → nat_lt n b.cases ≡ (switched && has_case_ahead (items_behind n (trees (is ++ x ∷ []))))
    outer more =
        ap (nat_lt n) cases_noted ∙ by switched here (h.cases n ∙ ap (λ (rest : Items). switched && has_case_ahead rest) (none_behind n is (omega (arith, more))))
        ∙ sym (ap (λ (rest : Items). switched && has_case_ahead rest) (none_behind n (is ++ x ∷ []) (omega (arith, long, more)))) where
          by : (w y : Bool) → nat_lt n a.cases ≡ (w && false) → nat_lt n (if w && y then length is else a.cases) ≡ (w && false)
          by true true e = le-ltb n (length is) more
          by true false e = e
          by false y e = e

  pub looks_pushed : Looks switched (trees (is ++ x ∷ [])) [] b
  looks_pushed = record {
    labels = labels_now;
    cases = cases_now;
    reach = λ n. ap (nat_lt n) reach_noted ∙ h.reach n ∙ any_none (labels_ahead (items_behind n (trees is))) ∙ sym (any_none (labels_ahead (items_behind n (trees (is ++ x ∷ [])))));
  }

pub looks_does : (switched : Bool) (is now : List Item) (s : Box Stmt Global) (a b : Ahead) (number : ℕ) → now ≡ is ++ Does s ∷ [] → number ≡ length is → Looks switched (trees is) [] a → Notes a switched (view_statement s.value) number b → Looks switched (trees now) [] b
looks_does switched is now s a b number pushed last h notes =
    subst (λ (xs : List Item). Looks switched (trees xs) [] b) (sym pushed)
    (looks_pushed switched is (Does s) a b h
    (λ name. notes.labels name ∙ ap₂ (λ (c : Bool) (k : ℕ). if c then k else placed a.labels.entries name) (ap (λ (ls : List (List ℕ)). among ls name) (sym (append-nil (labels_before (view_statement s.value))))) last)
    (notes.cases ∙ ap₂ (λ (c : Bool) (k : ℕ). if switched && c then k else a.cases) (sym (or_false (has_case_before (view_statement s.value)))) last)
    notes.reach)

pub looks_declares : (switched : Bool) (is now : List Item) (d : Box Declaration Global) (a : Ahead) → now ≡ is ++ Declares d ∷ [] → Looks switched (trees is) [] a → Looks switched (trees now) [] a
looks_declares switched is now d a pushed h =
    subst (λ (xs : List Item). Looks switched (trees xs) [] a) (sym pushed) (looks_pushed switched is (Declares d) a a h (λ name. refl) (by switched) refl) where
      by : (w : Bool) → a.cases ≡ (if w && false then length is else a.cases)
      by true = refl
      by false = refl

-- at the start of a list
pub looks_first : (switched : Bool) (a : Ahead) → a.labels.entries ≡ [] → a.cases ≡ 0 → a.reach ≡ 0 → Looks switched done [] a
looks_first switched a none cases reach = record {
  labels = λ n name. ap (λ (es : Places). nat_lt n (placed es name)) none ∙ le-ltb n 0 (omega arith);
  cases = λ n. ap (nat_lt n) cases ∙ le-ltb n 0 (omega arith) ∙ by switched;
  reach = λ n. ap (nat_lt n) reach ∙ le-ltb n 0 (omega arith);
} where
  by : (w : Bool) → false ≡ (w && false)
  by true = refl
  by false = refl

-- a label before the statement of an item
pub label_noted : (old mid : Ahead) (k : Vec ℕ Global) (name : List ℕ) (number : ℕ) (n : List ℕ) → k.items ≡ name → mid.labels.entries ≡ insert_entry (λ (x y : Vec ℕ Global). pointwise nat_eq x.items y.items) old.labels.entries k number
    → placed mid.labels.entries n ≡ (if bytes_eq n name then number else placed old.labels.entries n)
label_noted old mid k name number n own added =
    ap (λ (es : Places). placed es n) added ∙ ap place_by (label_after old.labels.entries k number n) ∙ ap (λ (m : List ℕ). place_by (if bytes_eq n m then Some number else first_label old.labels.entries n)) own
    ∙ by (bytes_eq n name) where
      by : (b : Bool) → place_by (if b then Some number else first_label old.labels.entries n) ≡ (if b then number else placed old.labels.entries n)
      by true = refl
      by false = refl

pub either_noted : (a b : Bool) (number x y : ℕ) → y ≡ (if b then number else x) → (if a then number else y) ≡ (if b || a then number else x)
either_noted true true number x y e = refl
either_noted true false number x y e = refl
either_noted false true number x y e = e
either_noted false false number x y e = e

pub notes_label : (old mid new : Ahead) (switched : Bool) (line number : ℕ) (name : List ℕ) (s : Statement) (k : Vec ℕ Global) → k.items ≡ name
    → mid.labels.entries ≡ insert_entry (λ (x y : Vec ℕ Global). pointwise nat_eq x.items y.items) old.labels.entries k number → mid.cases ≡ old.cases → mid.reach ≡ old.reach
    → Notes mid switched s number new → Notes old switched (labelled line name s) number new
notes_label old mid new switched line number name s k own added cases reach h = record {
  labels = λ n. h.labels n ∙ either_noted (among (labels_before s) n) (bytes_eq n name) number (placed old.labels.entries n) (placed mid.labels.entries n) (label_noted old mid k name number n own added);
  cases = h.cases ∙ ap (λ (m : ℕ). if switched && has_case_before s then number else m) cases;
  reach = h.reach ∙ reach;
}

-- the jumps and the labels of an item before those of others
pub item_jumps : (a : Ahead) (is : List Item) (i : ℕ) (x : Item) → i < length is → x ≡ get_or is i x
    → with_jumps a (jumps_of (trees (drop i is))) ≡ with_jumps (with_jumps a (first_jumps (view_item x done))) (jumps_of (trees (drop (i + 1) is)))
item_jumps a is i x h e =
    ap (λ (xs : List Item). with_jumps a (jumps_of (trees xs))) (drop_more is i x h) ∙ ap (λ (y : Item). with_jumps a (jumps_of (view_item y (trees (drop (i + 1) is))))) (sym e) ∙ by x where
      by : (y : Item) → with_jumps a (jumps_of (view_item y (trees (drop (i + 1) is)))) ≡ with_jumps (with_jumps a (first_jumps (view_item y done))) (jumps_of (trees (drop (i + 1) is)))
      by (Declares d) = refl
      by (Does' p s) = sym (jumps_twice a (jumps_in (view_statement s)) (jumps_of (trees (drop (i + 1) is))))

pub item_labels : (is : List Item) (i : ℕ) (x : Item) → i < length is → x ≡ get_or is i x → labels_of (trees (drop i is)) ≡ labels_of (view_item x (trees (drop (i + 1) is)))
item_labels is i x h e = ap (λ (xs : List Item). labels_of (trees xs)) (drop_more is i x h) ∙ ap (λ (y : Item). labels_of (view_item y (trees (drop (i + 1) is)))) (sym e)

jumped_next : (jumped : List (List ℕ)) (x : Item) (rest : Items) → jumped ++ first_jumps (view_item x done) ≡ jumped_behind jumped (view_item x rest)
jumped_next jumped (Declares d) rest = append-nil jumped
jumped_next jumped (Does' p s) rest = refl

-- behind one item more
pub looks_next : (switched : Bool) (items : Items) (jumped : List (List ℕ)) (a b : Ahead) (x : Item) (rest : Items) → b ≡ with_jumps a (first_jumps (view_item x done)) → Looks switched items jumped a
    → Looks switched items (jumped_behind jumped (view_item x rest)) b
looks_next switched items jumped a b x rest noted h =
    subst (λ (js : List (List ℕ)). Looks switched items js b) (jumped_next jumped x rest)
    (subst (Looks switched items (jumped ++ first_jumps (view_item x done))) (sym noted) (looks_more switched items jumped a (first_jumps (view_item x done)) h))

pub passes_at : (switched : Bool) (is : List Item) (jumped : List (List ℕ)) (a : Ahead) (n i : ℕ) → n ≡ i → Looks switched (trees is) jumped a → Passes a switched n jumped (trees (drop (i + 1) is))
passes_at switched is jumped a n i at h =
    passed_over switched (trees is) jumped a n h ∙ ap (is_passed switched jumped) (behind_at n is ∙ ap (λ (k : ℕ). trees (drop (k + 1) is)) at)
