-- Loops of which none stands twice.
use Rattle.std.proofs.Common.{◌≡◌, ◌∙◌, ◌||◌, ◌&&◌, ◌<◌, ◌+◌, ℕ, Bool, true, false, not, refl, sym, ap, ap₂, true≢false, List, [], ◌∷◌, ◌++◌, map, take, drop, length, get_or, subst, if◌then◌else◌}
use Rattle.std.specs.List.{list_any, list_all}
use Rattle.std.proofs.lemmas.List.{map_push, take_more, map-append, take-append-drop}
use Rattle.std.proofs.lemmas.List.Recursion.{and_push}
use Rattle.core_tree.specs.declared.bounds.LoopBound.{LoopBound}
use Rattle.core_tree.specs.Ranges.{LoopLimit, loop_limit, loop_limits}
use Rattle.options.specs.declared.loops.Loop.{Loop}
use Rattle.options.specs.Values.{is_same_loop, are_once}
use Rattle.options.specs.Cut.{Key, key, key_of, is_same_key}

in_turn : (a s b c : Bool) → ((a && not s) && (b && not c)) ≡ ((a && b) && not (s || c))
in_turn true true true c = refl
in_turn true true false c = refl
in_turn true false true c = refl
in_turn true false false c = refl
in_turn false s b c = refl

-- one loop more
pub once_push : (ls : List LoopLimit) (x : LoopLimit) → are_once (ls ++ x ∷ []) ≡ (are_once ls && not (list_any (λ m. is_same_loop x m) ls))
once_push [] x = refl
once_push (l ∷ ls) x =
    ap₂ (λ (a b : Bool). a && b)
    (and_push (list_all (λ k. not (is_same_loop k l))) (λ k. not (is_same_loop k l)) refl (λ k ks. refl) ls x)
    (once_push ls x)
    ∙ in_turn (list_all (λ k. not (is_same_loop k l)) ls) (is_same_loop x l) (are_once ls) (list_any (λ m. is_same_loop x m) ls)

not_true : (b : Bool) → not b ≡ true → b ≡ false
not_true true e = sym e
not_true false e = refl

not_false : (b : Bool) → not b ≡ false → b ≡ true
not_false true e = refl
not_false false e = sym e

first_false : (a b : Bool) → a ≡ false → (a && b) ≡ false
first_false a b e = ap (λ (x : Bool). x && b) e

last_false : (a b : Bool) → b ≡ false → (a && b) ≡ false
last_false true b e = e
last_false false b e = refl

not_all_more : (test : LoopLimit → Bool) (ks ms : List LoopLimit) → list_all test ks ≡ false → list_all test (ks ++ ms) ≡ false
not_all_more test [] ms f = absurd (true≢false f)
not_all_more test (k ∷ ks) ms f = go (test k) f (not_all_more test ks ms)
  where
    go : (b : Bool) → (b && list_all test ks) ≡ false → (list_all test ks ≡ false → list_all test (ks ++ ms) ≡ false) → (b && list_all test (ks ++ ms)) ≡ false
    go true g ih = ih g
    go false g ih = refl

-- what stands twice in the front stands twice
twice_more : (ls ms : List LoopLimit) → are_once ls ≡ false → are_once (ls ++ ms) ≡ false
twice_more [] ms e = absurd (true≢false e)
twice_more (l ∷ ls) ms e = go (list_all (λ k. not (is_same_loop k l)) ls) refl e (twice_more ls ms)
  where
    go : (a : Bool) → list_all (λ k. not (is_same_loop k l)) ls ≡ a → (a && are_once ls) ≡ false → (are_once ls ≡ false → are_once (ls ++ ms) ≡ false)
        → (list_all (λ k. not (is_same_loop k l)) (ls ++ ms) && are_once (ls ++ ms)) ≡ false
    go false is f ih = first_false _ _ (not_all_more (λ k. not (is_same_loop k l)) ls ms is)
    go true is f ih = last_false _ _ (ih f)

-- ---- the loops that were seen

-- these loops of a set are those of bounds
pub record Seen (keys : List Loop) (ls : List LoopLimit) : Type 0 where
  pub known : map key_of keys ≡ map key ls
  pub once : are_once ls ≡ true

pub none_seen : Seen [] []
none_seen = record { known = refl; once = refl }

any_by_key : {X : Type 0} (shown : X → Key) (test : X → Bool) (k : Key) → ((x : X) → test x ≡ is_same_key k (shown x)) → (xs : List X) → list_any test xs ≡ list_any (is_same_key k) (map shown xs)
any_by_key shown test k same [] = refl
any_by_key shown test k same (x ∷ xs) = ap₂ (λ (a b : Bool). a || b) (same x) (any_by_key shown test k same xs)

-- whether the loop of a bound was seen
pub seen_is : (keys : List Loop) (ls : List LoopLimit) (new : Loop) (x : LoopLimit) (test : Loop → Bool) → Seen keys ls → key_of new ≡ key x → ((m : Loop) → test m ≡ is_same_key (key_of new) (key_of m))
    → list_any test keys ≡ list_any (λ m. is_same_loop x m) ls
seen_is keys ls new x test seen is same =
    any_by_key key_of test (key_of new) same keys
    ∙ ap₂ (λ (k : Key) (ks : List Key). list_any (is_same_key k) ks) is seen.known
    ∙ sym (any_by_key key (λ m. is_same_loop x m) (key x) (λ m. refl) ls)

pub seen_more : (keys : List Loop) (ls : List LoopLimit) (new : Loop) (x : LoopLimit) → Seen keys ls → key_of new ≡ key x → list_any (λ m. is_same_loop x m) ls ≡ false → Seen (keys ++ new ∷ []) (ls ++ x ∷ [])
seen_more keys ls new x seen is none = record {
  known = map_push key_of keys new ∙ ap₂ (λ (ks : List Key) (k : Key). ks ++ k ∷ []) seen.known is ∙ sym (map_push key ls x);
  once = once_push ls x ∙ ap₂ (λ (a b : Bool). a && not b) seen.once none;
}

-- ---- in a loop over bounds

abbrev limits_to : ℕ → List LoopBound → List LoopLimit
limits_to n bounds = loop_limits (take n bounds)

next_limits : (bounds : List LoopBound) (n : ℕ) (d : LoopBound) → n < length bounds → limits_to (n + 1) bounds ≡ limits_to n bounds ++ loop_limit (get_or bounds n d) ∷ []
next_limits bounds n d within = ap loop_limits (take_more bounds n d within) ∙ map_push loop_limit (take n bounds) (get_or bounds n d)

pub front_twice : (bounds : List LoopBound) (n : ℕ) → are_once (limits_to n bounds) ≡ false → are_once (loop_limits bounds) ≡ false
front_twice bounds n twice =
    ap (λ (bs : List LoopBound). are_once (loop_limits bs)) (sym (take-append-drop n bounds))
    ∙ ap are_once (map-append loop_limit (take n bounds) (drop n bounds))
    ∙ twice_more (limits_to n bounds) (loop_limits (drop n bounds)) twice

-- one step, where a set of loops was asked with `test`
module _ (bounds : List LoopBound) (n : ℕ) (d : LoopBound) (within : n < length bounds) (keys : List Loop) (new : Loop) (test : Loop → Bool) (seen : Seen keys (limits_to n bounds))
    (is : key_of new ≡ key (loop_limit (get_or bounds n d))) (same : (m : Loop) → test m ≡ is_same_key (key_of new) (key_of m)) where
  was_seen : list_any test keys ≡ list_any (λ m. is_same_loop (loop_limit (get_or bounds n d)) m) (limits_to n bounds)
  was_seen = seen_is keys (limits_to n bounds) new (loop_limit (get_or bounds n d)) test seen is same

  pub new_step : (next : List Loop) (is_new : Bool) → is_new ≡ not (list_any test keys) → is_new ≡ true → next ≡ (if list_any test keys then keys else (keys ++ new ∷ [])) → Seen next (limits_to (n + 1) bounds)
  new_step next is_new added yes_new grown =
      let none : list_any test keys ≡ false = not_true (list_any test keys) (sym added ∙ yes_new) in
      let step : Seen (keys ++ new ∷ []) (limits_to n bounds ++ loop_limit (get_or bounds n d) ∷ []) =
      seen_more keys (limits_to n bounds) new (loop_limit (get_or bounds n d)) seen is (sym was_seen ∙ none) in
      let same_keys : next ≡ keys ++ new ∷ [] = grown ∙ ap (λ (b : Bool). if b then keys else (keys ++ new ∷ [])) none in
      subst (λ (ks : List Loop). Seen ks (limits_to (n + 1) bounds)) (sym same_keys)
      (subst (λ (ls : List LoopLimit). Seen (keys ++ new ∷ []) ls) (sym (next_limits bounds n d within)) step)

  pub old_step : (is_new : Bool) → is_new ≡ not (list_any test keys) → is_new ≡ false → are_once (loop_limits bounds) ≡ false
  old_step is_new added no_new =
      let x = loop_limit (get_or bounds n d) in
      let twice : list_any (λ m. is_same_loop x m) (limits_to n bounds) ≡ true = sym was_seen ∙ not_false (list_any test keys) (sym added ∙ no_new) in
      front_twice bounds (n + 1)
      (ap are_once (next_limits bounds n d within) ∙ once_push (limits_to n bounds) x ∙ last_false (are_once (limits_to n bounds)) (not (list_any (λ m. is_same_loop x m) (limits_to n bounds))) (ap not twice))
