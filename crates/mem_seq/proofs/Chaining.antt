-- Parts of one kind that become one node.
use Rattle.std.proofs.Common.{◌≡◌, ℕ, ◌<◌, ◌^◌, Bool, true, false, ◌&&◌, ◌||◌, List, [], ◌∷◌, ◌++◌, map, refl, sym, ap, subst, ◌∙◌, arith}
use Rattle.std.specs.Prelude.{All}
use Rattle.std.specs.List.{list_all, list_any}
use Rattle.std.proofs.lemmas.List.{map-append}
use Rattle.std.proofs.lemmas.List.Elements.{All-weaker, All-push}
use Rattle.word_dag.specs.declared.nodes.Id.{Id}
use Rattle.word_dag.specs.declared.nodes.Node.{Node}
use Rattle.word_dag.specs.declared.nodes.Quantifier.{Quantifier}
use Rattle.word_dag.specs.declared.nodes.Quantifier.TheVariants as quantifiers
use Rattle.word_dag.specs.Meaning.{value, holds, bit_value}
use Rattle.word_dag.specs.Fitting.{is_ordered}
use Rattle.word_dag.specs.Growth.{Within, Extends, IsTruthValue}
use Rattle.word_dag.proofs.Bounds.{value_below}
use Rattle.word_dag.proofs.Grown.{map_stays}
use Rattle.word_dag.proofs.Truth.{bit_holds}
use Rattle.value_nodes.specs.Values.{IsTest}
use Rattle.mem_seq.specs.declared.chain.Chain.{Chain}
use Rattle.mem_seq.specs.Chains.{joined, quantified_with, chain_value, ChainIn}

-- ---- truths

and_true : (a : Bool) → (a && true) ≡ a
and_true true = refl
and_true false = refl

or_false : (a : Bool) → (a || false) ≡ a
or_false true = refl
or_false false = refl

and_third : (a b c : Bool) → (a && (b && c)) ≡ ((a && b) && c)
and_third true b c = refl
and_third false b c = refl

or_third : (a b c : Bool) → (a || (b || c)) ≡ ((a || b) || c)
or_third true b c = refl
or_third false b c = refl

and_first : (a b c : Bool) → ((a && b) && c) ≡ (b && (a && c))
and_first true true c = refl
and_first true false c = refl
and_first false true c = refl
and_first false false c = refl

or_first : (a b c : Bool) → ((a || b) || c) ≡ (b || (a || c))
or_first true true c = refl
or_first true false c = refl
or_first false true c = refl
or_first false false c = refl

all_push : (ns : List ℕ) (n : ℕ) → list_all holds (ns ++ n ∷ []) ≡ (list_all holds ns && holds n)
all_push [] n = and_true (holds n)
all_push (m ∷ ns) n = ap (λ b. holds m && b) (all_push ns n) ∙ and_third (holds m) (list_all holds ns) (holds n)

any_push : (ns : List ℕ) (n : ℕ) → list_any holds (ns ++ n ∷ []) ≡ (list_any holds ns || holds n)
any_push [] n = or_false (holds n)
any_push (m ∷ ns) n = ap (λ b. holds m || b) (any_push ns n) ∙ or_third (holds m) (list_any holds ns) (holds n)

pub with_push : (q : Quantifier) (ns : List ℕ) (n : ℕ) (later : Bool) → quantified_with q (ns ++ n ∷ []) later ≡ joined q (holds n) (quantified_with q ns later)
with_push quantifiers.All ns n later = ap (λ b. b && later) (all_push ns n) ∙ and_first (list_all holds ns) (holds n) later
with_push quantifiers.Any ns n later = ap (λ b. b || later) (any_push ns n) ∙ or_first (list_any holds ns) (holds n) later

pub with_none : (q : Quantifier) (later : Bool) → quantified_with q [] later ≡ later
with_none quantifiers.All later = refl
with_none quantifiers.Any later = refl

-- ---- what stays

pub truth_stays : (d e : List Node) (i : Id) → Extends d e → IsTruthValue d i → IsTruthValue e i
truth_stays d e i x bit = record { there = omega (arith, x.longer, bit.there); width_is = x.width_stays i bit.there ∙ bit.width_is }

pub chain_stays : (v : ℕ → ℕ) (d e : List Node) (c : Chain) → Extends d e → ChainIn d c → chain_value v e c ≡ chain_value v d c
chain_stays v d e c x inside =
    let parts = map_stays v d e c.parts.items x (All-weaker (IsTruthValue d) (Within d) (λ i h. h.there) c.parts.items inside.parts) in
    let later = x.value_stays v c.later inside.later.there in
    λ k. quantified_with c.quantifier (parts k) (holds (later k))

-- ---- steps

-- a chain by its parts
chain_is : (v : ℕ → ℕ) (d : List Node) (c : Chain) (q : Quantifier) (parts : List Id) (later : Id) → c.quantifier ≡ q → c.parts.items ≡ parts → c.later ≡ later → chain_value v d c ≡ quantified_with q (map (value v d) parts) (holds (value v d later))
chain_is v d c q parts later p r s = λ k. quantified_with (p k) (map (value v d) (r k)) (holds (value v d (s k)))

chain_in_is : (d : List Node) (c : Chain) (parts : List Id) (later : Id) → c.parts.items ≡ parts → c.later ≡ later → All (IsTruthValue d) parts → IsTruthValue d later → ChainIn d c
chain_in_is d c parts later r s all bit = record { parts = subst (All (IsTruthValue d)) (sym r) all; later = subst (IsTruthValue d) (sym s) bit }

-- one part more, of the same kind
pub pushed_in : (d : List Node) (old new : Chain) (i : Id) → ChainIn d old → IsTruthValue d i → new.parts.items ≡ old.parts.items ++ i ∷ [] → new.later ≡ old.later → ChainIn d new
pushed_in d old new i inside bit pushed last = chain_in_is d new (old.parts.items ++ i ∷ []) old.later pushed last (All-push (IsTruthValue d) old.parts.items i inside.parts bit) inside.later

pub pushed : (d : List Node) (old new : Chain) (q : Quantifier) (i : Id) → old.quantifier ≡ q → new.quantifier ≡ q → new.parts.items ≡ old.parts.items ++ i ∷ [] → new.later ≡ old.later → (v : ℕ → ℕ) → chain_value v d new ≡ joined q (holds (value v d i)) (chain_value v d old)
pushed d old new q i was is parts last v =
    chain_is v d new q (old.parts.items ++ i ∷ []) old.later is parts last
    ∙ ap (λ (ns : List ℕ). quantified_with q ns (holds (value v d old.later))) (map-append (value v d) old.parts.items (i ∷ []))
    ∙ with_push q (map (value v d) old.parts.items) (value v d i) (holds (value v d old.later))
    ∙ (λ k. joined q (holds (value v d i)) (quantified_with (sym was k) (map (value v d) old.parts.items) (holds (value v d old.later))))

-- without parts the kind says nothing
pub turned : (d : List Node) (c : Chain) (q : Quantifier) → c.parts.items ≡ [] → (v : ℕ → ℕ) → chain_value v d (record c { quantifier = q }) ≡ chain_value v d c
turned d c q none v =
    (λ k. quantified_with q (map (value v d) (none k)) (holds (value v d c.later))) ∙ with_none q (holds (value v d c.later))
    ∙ sym ((λ k. quantified_with c.quantifier (map (value v d) (none k)) (holds (value v d c.later))) ∙ with_none c.quantifier (holds (value v d c.later)))

-- one part more, behind all so far in the form of this kind
pub pushed_after : (d e : List Node) (old middle new : Chain) (q : Quantifier) (i : Id) → Extends d e → IsTruthValue d i → middle.quantifier ≡ q → ((v : ℕ → ℕ) → chain_value v e middle ≡ chain_value v d old)
    → ((v : ℕ → ℕ) → chain_value v e new ≡ joined middle.quantifier (holds (value v e i)) (chain_value v e middle)) → (v : ℕ → ℕ) → chain_value v e new ≡ joined q (holds (value v d i)) (chain_value v d old)
pushed_after d e old middle new q i x bit kind same more v = more v ∙ (λ k. joined (kind k) (holds (x.value_stays v i bit.there k)) (same v k))

-- only one node
pub only : (d : List Node) (c : Chain) (i : Id) → c.parts.items ≡ [] → c.later ≡ i → (v : ℕ → ℕ) → chain_value v d c ≡ holds (value v d i)
only d c i none last v = chain_is v d c c.quantifier [] i refl none last ∙ with_none c.quantifier (holds (value v d i))

-- ---- the node of it all

pub finished : (d e : List Node) (old c : Chain) → is_ordered e ≡ true → ChainIn e c → c.parts.items ≡ [] → ((v : ℕ → ℕ) → chain_value v e c ≡ chain_value v d old) → IsTest e c.later (λ v. chain_value v d old)
finished d e old c ordered inside none same = record {
  there = inside.later.there;
  width_is = inside.later.width_is;
  value_is = λ v.
      sym (bit_holds (value v e c.later) (subst (λ (w : ℕ). value v e c.later < 2 ^ w) inside.later.width_is (value_below v e c.later ordered inside.later.there)))
      ∙ ap bit_value (sym (only e c c.later none refl v) ∙ same v);
}
