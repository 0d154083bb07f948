-- From the end of a round to the next, and into loops.
use Rattle.std.proofs.Common.{◌≡◌, ℕ, zero, suc, ◌+◌, ◌-◌, ◌<◌, ◌≤◌, Bool, true, false, ◌&&◌, List, [], ◌∷◌, Option, Some, None, refl, sym, ap, ◌∙◌, subst, arith}
use Rattle.std.specs.Prelude.{if◌then◌else◌}
use Rattle.std.proofs.lemmas.Bool.{false≢true}
use Rattle.std.proofs.lemmas.Option.{none-some}
use Rattle.words.specs.declared.check.Class.TheVariants as classes
use Rattle.c_types.specs.declared.integers.IntegerType.{IntegerType}
use Rattle.actions.specs.declared.action.Next.{Next}
use Rattle.actions.specs.declared.action.Next.TheVariants.{Broken, Blocked}
use Rattle.actions.specs.Behaviour.{Behaviour}
use Rattle.goto_prog.specs.declared.nodes.Node.{Node}
use Rattle.goto_prog.specs.Meaning.{Memory, Given, at}
use Rattle.goto_prog.specs.Threads.{Calls, acting, final}
use Rattle.goto_prog.specs.Nodes.{Nodes, repeats, nodes_of, node_count, nodes_fit}
use Rattle.goto_prog.specs.Running.{acts, is_act}
use Rattle.goto_prog.specs.Structured.{Bounded, passed, rounds, round_count, tests, nodes_before}
use Rattle.goto_prog.specs.Walking.{LoopLevel, Cursor, nodes_behind, first_level, round_of, next_round, into_loop, place_count, levels_fit, place_fits, levels_behind, places_from, does_from, first_of, round_weight, nodes_weights, levels_weights, place_weight, Activation, does, instruction_at, GoesOn, Stops, HandsOver}
use Rattle.goto_prog.proofs.Registers.{both}
use Rattle.goto_prog.proofs.Places.{place_some}

-- ---- the end of a function

no_nodes_hand : (b : Bounded) (calls : Calls) (hands : Given → Behaviour) (ns : List Node) (ls : List LoopLevel) (m : Memory) → ns ≡ [] → first_level ls ≡ None
    → at (acting calls hands) (nodes_before b (acting calls hands) (nodes_of ns) (levels_behind b (acting calls hands) ls)) 0 m ≡ hands None
no_nodes_hand b calls hands ns [] m none last = ap (λ (xs : List Node). at (acting calls hands) (nodes_before b (acting calls hands) (nodes_of xs) (levels_behind b (acting calls hands) [])) 0 m) none
no_nodes_hand b calls hands ns (l ∷ ls) m none last = absurd (none-some l (sym last))

pub hands_nothing : (b : Bounded) (a : Activation) → a.place.nodes ≡ [] → first_level a.place.levels ≡ None → HandsOver b a None
hands_nothing b a none last = record {
  same = λ calls hands. no_nodes_hand b calls hands a.place.nodes a.place.levels a.working.memory none last;
  falls = λ w. place_some b w a.place;
}

-- ---- the end of a round

or_level : LoopLevel → Option LoopLevel → LoopLevel
or_level k None = k
or_level k (Some l) = l

some_level : (k l : LoopLevel) → Some k ≡ Some l → k ≡ l
unfolding or_level
some_level k l h = ap (or_level k) h

one_less : (n : ℕ) → 0 < n → n ≡ suc (n - 1)
one_less n lt = omega (arith, lt)

module _ (b : Bounded) (calls : Calls) (hands : Given → Behaviour) where
  abbrev does_at : List Node → List LoopLevel → Memory → Behaviour
  does_at ns ls m = at (acting calls hands) (nodes_before b (acting calls hands) (nodes_of ns) (levels_behind b (acting calls hands) ls)) 0 m

  abbrev round : LoopLevel → List LoopLevel → (Memory → Behaviour) → Memory → Behaviour
  round l ls again =
      let o = acting calls hands in
      at o (nodes_before b o (nodes_of l.body) (again ∷ nodes_before b o (nodes_of l.behind) (levels_behind b o ls))) 0

  round_same : (p : Cursor) (ls : List LoopLevel) (l : LoopLevel) (m : Memory) → p.nodes ≡ [] → p.levels ≡ ls → first_level ls ≡ Some l → 0 < l.left → does_from b (acting calls hands) (round_of p ls) m ≡ does_at p.nodes ls m
  round_same p [] l m none are found more = absurd (none-some l found)
  round_same p (k ∷ ls) l m none are found more =
      let some : 0 < k.left = subst (λ (x : LoopLevel). 0 < x.left) (sym (some_level k l found)) more in
      sym (ap (λ (xs : List Node). does_at xs (k ∷ ls) m) none ∙ ap (λ n. rounds b.limits.assertions k.line k.function (round k ls) n m) (one_less k.left some))

  passed_final : (s : Bool) (x y : Next) → (if s then final x else final y) ≡ final (if s then x else y)
  passed_final true x y = refl
  passed_final false x y = refl

  unwind_same : (ns : List Node) (ls : List LoopLevel) (l : LoopLevel) (m : Memory) → ns ≡ [] → first_level ls ≡ Some l → l.left ≡ 0
      → does_at ns ls m ≡ final (if b.limits.assertions then Broken classes.Unwind l.line l.function else Blocked)
  unwind_same ns [] l m none found left = absurd (none-some l found)
  unwind_same ns (k ∷ ls) l m none found left =
      ap (λ (xs : List Node). does_at xs (k ∷ ls) m) none
      ∙ ap (λ (x : LoopLevel). rounds b.limits.assertions x.line x.function (round x ls) x.left m) (some_level k l found)
      ∙ ap (λ n. rounds b.limits.assertions l.line l.function (round l ls) n m) left
      ∙ passed_final b.limits.assertions (Broken classes.Unwind l.line l.function) Blocked

module _ (b : Bounded) (w : ℕ → ℕ) where
  round_falls : (p : Cursor) (ls : List LoopLevel) (l : LoopLevel) → p.nodes ≡ [] → p.levels ≡ ls → first_level ls ≡ Some l → 0 < l.left
      → place_weight b w (round_of p ls) < first_of b w (nodes_weights b w (nodes_of p.nodes) (levels_weights b w ls))
  round_falls p [] l none are found more = absurd (none-some l found)
  round_falls p (k ∷ ls) l none are found more =
      let some : 0 < k.left = subst (λ (x : LoopLevel). 0 < x.left) (sym (some_level k l found)) more in
      let behind = nodes_weights b w (nodes_of k.behind) (levels_weights b w ls) in
      let weigh = λ (again : ℕ). first_of b w (nodes_weights b w (nodes_of k.body) (again ∷ behind)) in
      let whole = ap (λ (xs : List Node). first_of b w (nodes_weights b w (nodes_of xs) (levels_weights b w (k ∷ ls)))) none ∙ ap (λ n. round_weight b w weigh (first_of b w behind) n) (one_less k.left some) in
      omega (arith, whole)

module _ (b : Bounded) (a : Activation) (l : LoopLevel) (none : a.place.nodes ≡ []) (found : first_level a.place.levels ≡ Some l) where
  no_instruction : (ns : List Node) → ns ≡ [] → instruction_at ns ≡ None
  no_instruction ns h = ap instruction_at h

  pub goes_round : 0 < l.left → GoesOn b a (record a { place = next_round a.place })
  goes_round more = record {
    same = λ calls hands. round_same b calls hands a.place a.place.levels l a.working.memory none refl found more;
    falls = λ w. round_falls b w a.place a.place.levels l none refl found more;
  }

  not_act : (s : Bool) (line f : ℕ) → is_act (if s then Broken classes.Unwind line f else Blocked) ≡ false
  not_act true line f = refl
  not_act false line f = refl

  pub stops_unwind : l.left ≡ 0 → Stops b a a (if b.limits.assertions then Broken classes.Unwind l.line l.function else Blocked)
  stops_unwind left = record {
    unchanged = refl;
    next_is = λ calls hands. sym (λ k. unwind_same b calls hands a.place.nodes a.place.levels l a.working.memory none found left k []);
    acting = λ act. absurd (false≢true (sym (not_act b.limits.assertions l.line l.function) ∙ act));
  }

-- ---- into a loop

module _ (ts : List IntegerType) (ss : List ℕ) where
  both_true : (x y : Bool) → x ≡ true → y ≡ true → (x && y) ≡ true
  both_true x y first second = λ k. first k && second k

  pub fits_into : (p : Cursor) (line f n left : ℕ) (rotated : Bool) (body : List Node) → place_fits ts ss p ≡ true → nodes_of p.nodes ≡ repeats line f n rotated (nodes_of body) (nodes_of (nodes_behind p.nodes))
      → place_fits ts ss (into_loop line f left body p) ≡ true
  fits_into p line f n left rotated body fits is =
      let parts = both (nodes_fit ts ss (place_count p.levels) (nodes_of p.nodes)) (levels_fit ts ss p.levels) fits in
      let nodes = subst (λ (ns : Nodes). nodes_fit ts ss (place_count p.levels) ns ≡ true) is parts.0 in
      both_true _ _ nodes parts.1

module _ (b : Bounded) (a : Activation) (line f n : ℕ) (rotated : Bool) (body : List Node) (is : nodes_of a.place.nodes ≡ repeats line f n rotated (nodes_of body) (nodes_of (nodes_behind a.place.nodes))) where
  pub goes_into : (left : ℕ) → left ≡ round_count rotated (tests b f n) → GoesOn b a (record a { place = into_loop line f left body a.place })
  goes_into left count = record {
    same = λ calls hands.
        (let o = acting calls hands in
        let behind = nodes_before b o (nodes_of (nodes_behind a.place.nodes)) (levels_behind b o a.place.levels) in
        ap (λ k. rounds b.limits.assertions line f (λ again. at o (nodes_before b o (nodes_of body) (again ∷ behind)) 0) k a.working.memory) count
        ∙ sym (ap (λ (ns : Nodes). at o (nodes_before b o ns (levels_behind b o a.place.levels)) 0 a.working.memory) is));
    falls = λ w.
        (let behind = nodes_weights b w (nodes_of (nodes_behind a.place.nodes)) (levels_weights b w a.place.levels) in
        let weigh = λ (again : ℕ). first_of b w (nodes_weights b w (nodes_of body) (again ∷ behind)) in
        let old = ap (λ (ns : Nodes). first_of b w (nodes_weights b w ns (levels_weights b w a.place.levels))) is in
        let new = ap (λ k. round_weight b w weigh (first_of b w behind) k) count in
        omega (arith, old, new));
  }
