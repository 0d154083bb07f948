-- The items of `--unwindset`: one text, and texts between commas.
use Rattle.std.proofs.Common.{◌≡◌, ◌≢◌, ◌∙◌, ◌<◌, ◌≤◌, ◌==◌, ◌||◌, ◌&&◌, inl, inr, ℕ, Bool, eqb-true, true, false, zero, suc, refl, sym, ap, subst, true≢false, lit≤, arith, List, [], ◌∷◌, ◌++◌, length, get_or, take, ◌+◌, map, Option, Some, None, MatchOption}
use Rattle.std.specs.Prelude.{◌⊎◌}
use Rattle.std.specs.Char.{digit_value}
use Rattle.std.specs.List.{slice_split, list_any, before_first, after_first}
use Rattle.std.specs.Str.Parse.{AllDigits}
use Rattle.std.proofs.lemmas.Bool.Decides.{nat_tests}
use Rattle.std.proofs.lemmas.Str.Pattern.{IsSplitOnceResult, split_parts}
use Rattle.std.specs.Borrow.{Bor}
use Rattle.clap.proofs.CutLemmas.{list_any-Lacks, list_any-at, before_first-at, after_first-at, slice_split-Lacks, slice_split-at}
use Rattle.clap.proofs.WalkLemmas.{both}
use Rattle.std.proofs.lemmas.List.{length-map, get_or-map, map_more, map_push}
use Rattle.core_tree.specs.declared.bounds.LoopBound.{LoopBound}
use Rattle.core_tree.specs.Ranges.{LoopLimit, loop_limit, loop_limits, is_unwinding, are_loop_limits}
use Rattle.report.specs.Identifiers.{is_letter, is_digit, is_word_byte, all_word_bytes, is_identifier}
use Rattle.options.specs.Values.{IsNumber, IsNumberIn, AreItems, AreLimits, IsItem, one, more, are_once}
use Rattle.options.specs.Cut.{Lacks, IsCut, AreEach, limit}
use Rattle.options.proofs.Digits.{number_same}

lacks_more : (c x : ℕ) (xs : List ℕ) → x ≢ c → Lacks c xs → Lacks c (x ∷ xs)
lacks_more c x xs other h zero lt = other
lacks_more c x xs other h (suc i) lt = h i (omega (arith, lt))

lacks_append : (c : ℕ) (xs ys : List ℕ) → Lacks c xs → Lacks c ys → Lacks c (xs ++ ys)
lacks_append c [] ys h g = g
lacks_append c (x ∷ xs) ys h g = lacks_more c x (xs ++ ys) (h 0 (omega arith)) (lacks_append c xs ys (λ i lt. h (suc i) (omega (arith, lt))) g)

word_lacks : (c : ℕ) (f : List ℕ) → is_word_byte c ≡ false → all_word_bytes f ≡ true → Lacks c f
word_lacks c [] other all = λ i lt. absurd (omega (arith, lt))
word_lacks c (x ∷ xs) other all =
    let parts = both (is_word_byte x) (all_word_bytes xs) all in
    lacks_more c x xs (λ e. true≢false (sym parts.0 ∙ ap is_word_byte e ∙ other)) (word_lacks c xs other parts.1)

-- a byte that no identifier has
identifier_lacks : (c : ℕ) (f : List ℕ) → is_word_byte c ≡ false → is_identifier f ≡ true → Lacks c f
identifier_lacks c [] other e = λ i lt. absurd (omega (arith, lt))
identifier_lacks c (x ∷ xs) other e =
    let parts = both (is_letter x) (all_word_bytes xs) e in
    let first : is_word_byte x ≡ true = ap (λ b. b || is_digit x) parts.0 in
    lacks_more c x xs (λ s. true≢false (sym first ∙ ap is_word_byte s ∙ other)) (word_lacks c xs other parts.1)

-- a byte that is no digit
digits_lack : (c : ℕ) (ds : List ℕ) → 10 ≤ digit_value c → AllDigits 10 ds → Lacks c ds
digits_lack c [] other all = λ i lt. absurd (omega (arith, lt))
digits_lack c (d ∷ ds) other all =
    lacks_more c d ds (λ e. let below : digit_value c < 10 = subst (λ y. digit_value y < 10) e all.0 in absurd (omega (arith, below, other))) (digits_lack c ds other all.1)

-- ---- cuts

pub lacks_none : (c : ℕ) (text front back : List ℕ) → Lacks c text → IsCut c text front back → ⊥
lacks_none c text front back lacks x = true≢false (sym (list_any-at c front back) ∙ ap (list_any (λ n. n == c)) (sym x.joined) ∙ list_any-Lacks c text lacks)

-- what `split_once` tells at a byte of ASCII
pub cut_is : (c : ℕ) (text : List ℕ) (r : Option (Bor (List ℕ) × Bor (List ℕ))) → IsSplitOnceResult c text r → c < 128 → MatchOption r (Lacks c text) (λ p. IsCut c text p.0.now p.1.now)
cut_is c text r h small = go r (split_parts c text r h small)
  where
    go : (o : Option (Bor (List ℕ) × Bor (List ℕ))) → MatchOption o ((i : ℕ) → i < length text → get_or text i 0 ≢ c) (λ x. (text ≡ x.0.now ++ (c ∷ x.1.now)) × ((i : ℕ) → i < length x.0.now → get_or x.0.now i 0 ≢ c))
        → MatchOption o (Lacks c text) (λ p. IsCut c text p.0.now p.1.now)
    go None lacks = lacks
    go (Some p) parts = record { joined = parts.0; first = parts.1 }

-- there is one first byte
cut_same : (c : ℕ) (text a b d e : List ℕ) → IsCut c text a b → IsCut c text d e → (a ≡ d) × (b ≡ e)
cut_same c text a b d e x y =
    let same : a ++ c ∷ b ≡ d ++ c ∷ e = sym x.joined ∙ y.joined in (
      sym (before_first-at c a b x.first) ∙ ap (before_first (λ n. n == c)) same ∙ before_first-at c d e y.first,
      sym (after_first-at c a b x.first) ∙ ap (after_first (λ n. n == c)) same ∙ after_first-at c d e y.first,
    )

-- ---- one item

item_cut : (text : List ℕ) (l : LoopLimit) (i : IsItem text l) → IsCut 46 text l.function (i.place ++ (58 ∷ i.bound))
item_cut text l i = record { joined = i.written; first = identifier_lacks 46 l.function refl i.function }

place_lacks : (text : List ℕ) (l : LoopLimit) (i : IsItem text l) → Lacks 58 i.place
place_lacks text l i = digits_lack 58 i.place (lit≤ tt) i.number.digits.1

pub no_point : (text : List ℕ) → Lacks 46 text → (l : LoopLimit) → IsItem text l → ⊥
no_point text lacks l i = lacks_none 46 text l.function (i.place ++ (58 ∷ i.bound)) lacks (item_cut text l i)

-- a text that is cut at its first point
module _ (text f rest : List ℕ) (x : IsCut 46 text f rest) where
  pub no_colon : Lacks 58 rest → (l : LoopLimit) → IsItem text l → ⊥
  no_colon lacks l i =
      let same = cut_same 46 text f rest l.function (i.place ++ (58 ∷ i.bound)) x (item_cut text l i) in
      lacks_none 58 rest i.place i.bound lacks (record { joined = same.1; first = place_lacks text l i })

  pub no_name : is_identifier f ≡ false → (l : LoopLimit) → IsItem text l → ⊥
  no_name e l i =
      let same = cut_same 46 text f rest l.function (i.place ++ (58 ∷ i.bound)) x (item_cut text l i) in
      true≢false (sym i.function ∙ ap is_identifier (sym same.0) ∙ e)

  -- and what follows at its first colon
  module _ (place bound : List ℕ) (y : IsCut 58 rest place bound) where
    numbers_same : (l : LoopLimit) (i : IsItem text l) → (place ≡ i.place) × (bound ≡ i.bound)
    numbers_same l i =
        let same = cut_same 46 text f rest l.function (i.place ++ (58 ∷ i.bound)) x (item_cut text l i) in
        cut_same 58 rest place bound i.place i.bound y (record { joined = same.1; first = place_lacks text l i })

    pub no_place : ((n : ℕ) → IsNumber place n → ⊥) → (l : LoopLimit) → IsItem text l → ⊥
    no_place none l i = none l.number (subst (λ t. IsNumber t l.number) (sym (numbers_same l i).0) i.number)

    pub no_bound : ((n : ℕ) → IsNumberIn 1 1000 bound n → ⊥) → (l : LoopLimit) → IsItem text l → ⊥
    no_bound none l i = none l.unwind (subst (λ t. IsNumberIn 1 1000 t l.unwind) (sym (numbers_same l i).1) i.unwind)

    pub is_item : (n k : ℕ) → is_identifier f ≡ true → IsNumber place n → IsNumberIn 1 1000 bound k → IsItem text (limit f n k)
    is_item n k e number unwind = record {
      place = place;
      bound = bound;
      written = x.joined ∙ ap (λ (t : List ℕ). f ++ (46 ∷ t)) y.joined;
      function = e;
      number = number;
      unwind = unwind;
    }

limit_same : (f g : List ℕ) (m n j k : ℕ) → f ≡ g → m ≡ n → j ≡ k → limit f m j ≡ limit g n k
limit_same f g m n j k e h i = ap (λ (x : List ℕ). limit x m j) e ∙ ap (λ (x : ℕ). limit g x j) h ∙ ap (λ (x : ℕ). limit g n x) i

-- a text is one item at most
item_same : (text : List ℕ) (l m : LoopLimit) → IsItem text l → IsItem text m → l ≡ m
item_same text l m i j =
    let same = cut_same 46 text l.function (i.place ++ (58 ∷ i.bound)) m.function (j.place ++ (58 ∷ j.bound)) (item_cut text l i) (item_cut text m j) in
    let x : IsCut 58 (j.place ++ (58 ∷ j.bound)) i.place i.bound = record { joined = sym same.1; first = place_lacks text l i } in
    let y : IsCut 58 (j.place ++ (58 ∷ j.bound)) j.place j.bound = record { joined = refl; first = place_lacks text m j } in
    let inner = cut_same 58 (j.place ++ (58 ∷ j.bound)) i.place i.bound j.place j.bound x y in
    limit_same l.function m.function l.number m.number l.unwind m.unwind same.0
    (number_same j.place l.number m.number (subst (λ (t : List ℕ). IsNumber t l.number) inner.0 i.number) j.number)
    (number_same j.bound l.unwind m.unwind (subst (λ (t : List ℕ). IsNumber t l.unwind) inner.1 i.unwind.number) j.unwind.number)

item_lacks_comma : (text : List ℕ) (l : LoopLimit) → IsItem text l → Lacks 44 text
item_lacks_comma text l i =
    subst (Lacks 44) (sym i.written)
    (lacks_append 44 l.function (46 ∷ (i.place ++ (58 ∷ i.bound))) (identifier_lacks 44 l.function refl i.function)
    (lacks_more 44 46 (i.place ++ (58 ∷ i.bound)) (λ e. absurd (omega (arith, e)))
    (lacks_append 44 i.place (58 ∷ i.bound) (digits_lack 44 i.place (lit≤ tt) i.number.digits.1)
    (lacks_more 44 58 i.bound (λ e. absurd (omega (arith, e))) (digits_lack 44 i.bound (lit≤ tt) i.unwind.number.digits.1)))))

-- ---- many items

-- items are cut into their texts
pub cut_items : (text : List ℕ) (ls : List LoopLimit) → AreItems text ls → AreEach (slice_split (λ x. x == 44) text) ls
cut_items _ _ (one text l is) = subst (λ (ts : List (List ℕ)). AreEach ts (l ∷ [])) (sym (slice_split-Lacks 44 text (item_lacks_comma text l is))) (is, tt)
cut_items _ _ (more text rest l ls is items) =
    subst (λ (ts : List (List ℕ)). AreEach ts (l ∷ ls)) (sym (slice_split-at 44 text rest (item_lacks_comma text l is))) (is, cut_items rest ls items)

same_test : (c : ℕ) → (c == c) ≡ true
same_test c = grind (arith, nat_tests)

differs : (x c : ℕ) → (x == c) ≡ false → x ≢ c
differs x c e same = true≢false (sym (same_test c) ∙ ap (λ (y : ℕ). y == c) (sym same) ∙ e)

abbrev pub Found : ℕ → List ℕ → Type 0
Found c text = Lacks c text ⊎ ((front : List ℕ) × (back : List ℕ) × IsCut c text front back)

pub found : (c : ℕ) (text : List ℕ) → Found c text
found c [] = inl (λ i lt. absurd (omega (arith, lt)))
found c (x ∷ xs) = go (x == c) refl (found c xs)
  where
    go : (b : Bool) → (x == c) ≡ b → Found c xs → Found c (x ∷ xs)
    go true e f = inr ([], xs, record { joined = ap (λ (n : ℕ). n ∷ xs) (eqb-true x c e); first = λ i lt. absurd (omega (arith, lt)) })
    go false e (inl lacks) = inl (lacks_more c x xs (differs x c e) lacks)
    go false e (inr y) = inr (x ∷ y.0, y.1, record { joined = ap (λ (t : List ℕ). x ∷ t) y.2.joined; first = lacks_more c x y.0 (differs x c e) y.2.first })

never_empty : (text : List ℕ) → AreEach (slice_split (λ x. x == 44) text) [] → ⊥
never_empty text = go (found 44 text)
  where
    go : Found 44 text → AreEach (slice_split (λ x. x == 44) text) [] → ⊥
    go (inl lacks) each = subst (λ (ts : List (List ℕ)). AreEach ts []) (slice_split-Lacks 44 text lacks) each
    go (inr y) each = subst (λ (ts : List (List ℕ)). AreEach ts []) (ap (slice_split (λ x. x == 44)) y.2.joined ∙ slice_split-at 44 y.0 y.1 y.2.first) each

-- texts between commas, each an item, are items
pub join_items : (ls : List LoopLimit) (text : List ℕ) → AreEach (slice_split (λ x. x == 44) text) ls → AreItems text ls
join_items [] text each = absurd (never_empty text each)
join_items (l ∷ ls) text each = go (found 44 text) (join_items ls)
  where
    last : (ms : List LoopLimit) → AreEach [] ms → [] ≡ ms
    last [] e = refl
    last (m ∷ ms) e = absurd e

    go : Found 44 text → ((rest : List ℕ) → AreEach (slice_split (λ x. x == 44) rest) ls → AreItems rest ls) → AreItems text (l ∷ ls)
    go (inl lacks) ih =
        let only = subst (λ (ts : List (List ℕ)). AreEach ts (l ∷ ls)) (slice_split-Lacks 44 text lacks) each in
        subst (λ (ms : List LoopLimit). AreItems text (l ∷ ms)) (last ls only.1) (one text l only.0)
    go (inr y) ih =
        let parts = subst (λ (ts : List (List ℕ)). AreEach ts (l ∷ ls)) (ap (slice_split (λ x. x == 44)) y.2.joined ∙ slice_split-at 44 y.0 y.1 y.2.first) each in
        subst (λ (t : List ℕ). AreItems t (l ∷ ls)) (sym y.2.joined) (more y.0 y.1 l ls parts.0 (ih y.1 parts.1))

-- one more text, and its item
each_push : (texts : List (List ℕ)) (ls : List LoopLimit) (text : List ℕ) (l : LoopLimit) → AreEach texts ls → IsItem text l → AreEach (texts ++ text ∷ []) (ls ++ l ∷ [])
each_push [] [] text l each is = (is, tt)
each_push [] (m ∷ ls) text l each is = absurd each
each_push (t ∷ texts) [] text l each is = absurd each
each_push (t ∷ texts) (m ∷ ls) text l each is = (each.0, each_push texts ls text l each.1 is)

-- each of the texts is an item
each_at : (texts : List (List ℕ)) (ls : List LoopLimit) (n : ℕ) (d : List ℕ) → n < length texts → AreEach texts ls → (l : LoopLimit) × IsItem (get_or texts n d) l
each_at [] ls n d within each = absurd (omega (arith, within))
each_at (t ∷ texts) [] n d within each = absurd each
each_at (t ∷ texts) (l ∷ ls) zero d within each = (l, each.0)
each_at (t ∷ texts) (l ∷ ls) (suc n) d within each = each_at texts ls n d (omega (arith, within)) each.1

-- ---- the same of texts as code has them

pub text_is_item : (texts : List (Bor (List ℕ))) (ls : List LoopLimit) (n : ℕ) (d : Bor (List ℕ)) → n < length texts → AreEach (map (λ x. x.now) texts) ls
    → ((l : LoopLimit) → IsItem (get_or texts n d).now l → ⊥) → ⊥
text_is_item texts ls n d within each none =
    let within_texts = subst (λ (m : ℕ). n < m) (sym (length-map texts (λ (x : Bor (List ℕ)). x.now))) within in
    let at = each_at (map (λ x. x.now) texts) ls n [] within_texts each in
    none at.0 (subst (λ (t : List ℕ). IsItem t at.0) (get_or-map (λ (x : Bor (List ℕ)). x.now) texts n d [] within) at.1)

pub bound_more : (texts : List (Bor (List ℕ))) (n : ℕ) (d : Bor (List ℕ)) (bounds next : List LoopBound) (b : LoopBound) (l : LoopLimit) → n < length texts
    → AreEach (map (λ x. x.now) (take n texts)) (loop_limits bounds) → IsItem (get_or texts n d).now l → loop_limit b ≡ l → next ≡ bounds ++ b ∷ [] → AreEach (map (λ x. x.now) (take (n + 1) texts)) (loop_limits next)
bound_more texts n d bounds next b l within each is own grown =
    let here : IsItem (get_or texts n d).now (loop_limit b) = subst (λ (m : LoopLimit). IsItem (get_or texts n d).now m) (sym own) is in
    let step = each_push (map (λ x. x.now) (take n texts)) (loop_limits bounds) (get_or texts n d).now (loop_limit b) each here in
    let limits : loop_limits next ≡ loop_limits bounds ++ loop_limit b ∷ [] = ap loop_limits grown ∙ map_push loop_limit bounds b in
    subst (λ (ts : List (List ℕ)). AreEach ts (loop_limits next)) (sym (map_more (λ (x : Bor (List ℕ)). x.now) texts n d within))
    (subst (λ (ms : List LoopLimit). AreEach (map (λ x. x.now) (take n texts) ++ (get_or texts n d).now ∷ []) ms) (sym limits) step)

each_same : (texts : List (List ℕ)) (ls ms : List LoopLimit) → AreEach texts ls → AreEach texts ms → ls ≡ ms
each_same [] [] [] a b = refl
each_same [] [] (m ∷ ms) a b = absurd b
each_same [] (l ∷ ls) ms a b = absurd a
each_same (t ∷ texts) [] ms a b = absurd a
each_same (t ∷ texts) (l ∷ ls) [] a b = absurd b
each_same (t ∷ texts) (l ∷ ls) (m ∷ ms) a b = ap (λ (x : LoopLimit). x ∷ ls) (item_same t l m a.0 b.0) ∙ ap (λ (xs : List LoopLimit). m ∷ xs) (each_same texts ls ms a.1 b.1)

items_same : (text : List ℕ) (ls ms : List LoopLimit) → AreItems text ls → AreItems text ms → ls ≡ ms
items_same text ls ms a b = each_same (slice_split (λ x. x == 44) text) ls ms (cut_items text ls a) (cut_items text ms b)

-- items of which two are of one loop ask for nothing
pub twice_is_none : (text : List ℕ) (ls : List LoopLimit) → AreItems text ls → are_once ls ≡ false → (ms : List LoopLimit) → AreLimits (Some text) ms → ⊥
twice_is_none text ls items twice ms asked = true≢false (sym asked.1 ∙ ap are_once (items_same text ms ls asked.0 items) ∙ twice)

-- a text asks for one list of bounds at most
pub limits_same : (o : Option (List ℕ)) (ls ms : List LoopLimit) → AreLimits o ls → AreLimits o ms → ls ≡ ms
limits_same None ls ms a b = a ∙ sym b
limits_same (Some text) ls ms a b = items_same text ls ms a.0 b.0

-- ---- what the bounds keep

unwinding_kept : (k : ℕ) → 1 ≤ k → k ≤ 1000 → is_unwinding k ≡ true
unwinding_kept k low high = grind (arith, nat_tests)

items_kept : (text : List ℕ) (ls : List LoopLimit) → AreItems text ls → are_loop_limits ls ≡ true
items_kept _ _ (one text l is) = ap (λ (b : Bool). b && true) (unwinding_kept l.unwind is.unwind.at_least is.unwind.at_most)
items_kept _ _ (more text rest l ls is items) =
    ap (λ (b : Bool). b && are_loop_limits ls) (unwinding_kept l.unwind is.unwind.at_least is.unwind.at_most) ∙ items_kept rest ls items

pub limits_kept : (o : Option (List ℕ)) (ls : List LoopLimit) → AreLimits o ls → are_loop_limits ls ≡ true
limits_kept None ls a = ap are_loop_limits a
limits_kept (Some text) ls a = items_kept text ls a.0

pub limits_once : (o : Option (List ℕ)) (ls : List LoopLimit) → AreLimits o ls → are_once ls ≡ true
limits_once None ls a = ap are_once a
limits_once (Some text) ls a = a.1
