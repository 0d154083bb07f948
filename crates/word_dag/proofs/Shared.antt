-- Nodes that are there already: what they mean, and where they stand.
use Rattle.std.proofs.Common.{◌≡◌, ℕ, ◌<◌, ◌≤◌, Bool, true, false, List, [], ◌∷◌, ◌++◌, ◌⊎◌, inl, inr, length, get_or, Option, Some, is_some, Result, Ok, Err, IfOk, OnOk, OnErr, IsTrue, refl, sym, ap, subst, ◌∙◌, arith, true≢false, if◌then◌else◌}
use Rattle.std.proofs.lemmas.Bool.{cases_lt}
use Rattle.std.proofs.lemmas.List.{get_or_append_left, get_or_push, get_or_default, length_push}
use Rattle.std.specs.Map.{lookup}
use Rattle.indexmap.specs.IndexMap.{IndexMap, get}
use Rattle.word_dag.specs.declared.nodes.Id.{Id}
use Rattle.word_dag.specs.declared.nodes.Node.{Node}
use Rattle.word_dag.specs.declared.nodes.Node.TheVariants.{Constant, Variable}
use Rattle.word_dag.specs.Meaning.{node_width, node_value, widths, values}
use Rattle.word_dag.specs.Fitting.{fits, is_ordered}
use Rattle.word_dag.specs.Folding.{is_literal, is_constant}
use Rattle.word_dag.specs.Growth.{Stands, Extends, Makes, Grows, MeansSame}
use Rattle.word_dag.specs.Index.{IsIndex, IsNoted}
use Rattle.word_dag.proofs.Folds.{length_widths}
use Rattle.word_dag.proofs.Operands.{Agree, node_width-agree, node_value-agree}
use Rattle.word_dag.proofs.Order.{width_is_final, value_is_final}
use Rattle.word_dag.proofs.Grown.{extends_itself, extends_push}

-- ---- what a node means

-- a node that fits behind the nodes of d means the same where it stands in e
pub made_behind : (d e : List Node) (m : Node) (i : Id) → Extends d e → is_ordered e ≡ true → fits (widths d) m ≡ true → Stands e m i → Makes d e m i
made_behind d e m i x ordered fit s =
    let wide : Agree (length (widths d)) (widths d) (widths e) = record { same = λ j h. x.width_stays (record { index = j }) (omega (arith, length_widths d, h)) } in
    record {
      there = s.0;
      width_is = width_is_final e i.index m ordered s.0 ∙ ap (node_width (widths e)) s.1 ∙ node_width-agree (widths d) (widths e) m wide fit;
      value_is = λ v.
          let same : Agree (length (widths d)) (values v d) (values v e) = record { same = λ j h. x.value_stays v (record { index = j }) (omega (arith, length_widths d, h)) } in
          value_is_final v e i.index m ordered s.0 ∙ ap (node_value v (widths e) (values v e)) s.1 ∙ node_value-agree v (widths d) (values v d) (widths e) (values v e) m wide same fit;
    }

pub made_same : (d e : List Node) (n m : Node) (i : Id) → MeansSame d n m → Makes d e m i → Makes d e n i
made_same d e n m i same made = record { there = made.there; width_is = made.width_is ∙ same.width_is; value_is = λ v. made.value_is v ∙ same.value_is v }

pub constant_stands : (e : List Node) (m : Node) (i : Id) → Stands e m i → is_literal m ≡ true → is_constant e i ≡ true
constant_stands e m i s h = ap is_literal (get_or_default e i.index (Variable 0 0) m s.0 ∙ s.1) ∙ h

-- ---- how the graph grows

pub extends_kept : (d e : List Node) (m : Node) → (e ≡ d) ⊎ (e ≡ d ++ m ∷ []) → Extends d e
extends_kept d e m (inl same) = subst (Extends d) (sym same) (extends_itself d)
extends_kept d e m (inr more) = subst (Extends d) (sym more) (extends_push d m)

literal_grows : (d e : List Node) (n m : Node) → is_literal m ≡ true → e ≡ d ++ m ∷ [] → Grows d e n
literal_grows d e n (Constant bits w) h more = inr (inr (bits, w, more))
literal_grows d e n _ h more = absurd (true≢false (sym h))

pub grows_kept : (d e : List Node) (n m : Node) → (m ≡ n) ⊎ (is_literal m ≡ true) → (e ≡ d) ⊎ (e ≡ d ++ m ∷ []) → Grows d e n
grows_kept d e n m which (inl same) = inl same
grows_kept d e n m (inl is) (inr more) = inr (inl (more ∙ (λ k. d ++ is k ∷ [])))
grows_kept d e n m (inr h) (inr more) = literal_grows d e n m h more

-- ---- the places

stays : (ns : List Node) (n m : Node) (place : ℕ) → (place < length ns) × (get_or ns place m ≡ m) → (place < length (ns ++ n ∷ [])) × (get_or (ns ++ n ∷ []) place m ≡ m)
stays ns n m place s = (omega (arith, length_push ns n, s.0), get_or_append_left ns (n ∷ []) m place s.0 ∙ s.1)

module _ {S : Type 0} (eq : Node → Node → Bool) (same : (n m : Node) → eq n m ≡ true → n ≡ m) (ns : List Node) (p q : IndexMap Node ℕ S) (n : Node) (index : IsIndex eq ns p) (noted : IsNoted eq p q n (length ns)) where
  some_place : (a b : ℕ) → Some a ≡ Some b → a ≡ b
  some_place a b h = cc

  sound_old : (m : Node) (place : ℕ) → get eq p m ≡ Some place → (place < length (ns ++ n ∷ [])) × (get_or (ns ++ n ∷ []) place m ≡ m)
  sound_old m place h = stays ns n m place (index.sound m place h)

  sound_new : (m : Node) (place : ℕ) (b : Bool) → eq n m ≡ b → (if b then Some (length ns) else get eq p m) ≡ Some place → (place < length (ns ++ n ∷ [])) × (get_or (ns ++ n ∷ []) place m ≡ m)
  sound_new m place true is h =
      let here : length ns ≡ place = some_place (length ns) place h in
      (omega (arith, length_push ns n, here), (λ k. get_or (ns ++ n ∷ []) (sym here k) m) ∙ get_or_push ns n m (length ns) refl ∙ same n m is)
  sound_new m place false is h = sound_old m place h

  sound_by : (b : Bool) → is_some (get eq p n) ≡ b → (m : Node) (place : ℕ) → get eq q m ≡ Some place → (place < length (ns ++ n ∷ [])) × (get_or (ns ++ n ∷ []) place m ≡ m)
  sound_by true is m place h = sound_old m place (sym (noted.there is m) ∙ h)
  sound_by false is m place h = sound_new m place (eq n m) refl (sym (noted.added is m) ∙ h)

  whole_new : (b : Bool) (o : Option ℕ) → is_some o ≡ true → is_some (if b then Some (length ns) else o) ≡ true
  whole_new true o h = refl
  whole_new false o h = h

  whole_old : (b : Bool) → is_some (get eq p n) ≡ b → (m : Node) → is_some (get eq p m) ≡ true → is_some (get eq q m) ≡ true
  whole_old true is m h = ap is_some (noted.there is m) ∙ h
  whole_old false is m h = ap is_some (noted.added is m) ∙ whole_new (eq n m) (get eq p m) h

  whole_by : (m : Node) (place : ℕ) → (place < length ns) ⊎ (length ns ≤ place) → place < length (ns ++ n ∷ []) → get_or (ns ++ n ∷ []) place m ≡ m → is_some (get eq q m) ≡ true
  whole_by m place (inl l) more h = whole_old (is_some (get eq p n)) refl m (index.whole m place l (sym (get_or_append_left ns (n ∷ []) m place l) ∙ h))
  whole_by m place (inr l) more h =
      let here : place ≡ length ns = omega (arith, length_push ns n, more, l) in
      let own : n ≡ m = sym (get_or_push ns n m (length ns) refl) ∙ (λ k. get_or (ns ++ n ∷ []) (sym here k) m) ∙ h in
      subst (λ (k : Node). is_some (get eq q k) ≡ true) own noted.own

  pub index_put : IsIndex eq (ns ++ n ∷ []) q
  index_put = record {
    sound = sound_by (is_some (get eq p n)) refl;
    whole = λ m place l h. whole_by m place (cases_lt place (length ns)) l h;
  }

-- places with the same entries
pub index_same : {S : Type 0} (eq : Node → Node → Bool) (ns : List Node) (p q : IndexMap Node ℕ S) → q.entries ≡ p.entries → IsIndex eq ns p → IsIndex eq ns q
index_same eq ns p q same index =
    let found : (n : Node) → get eq q n ≡ get eq p n = λ n. ap (λ (es : List (Node × ℕ)). lookup (eq n) es) same in
    record { sound = λ n place h. index.sound n place (sym (found n) ∙ h); whole = λ n place l h. ap is_some (found n) ∙ index.whole n place l h }

-- ---- where a node stands

pub place_there : {S : Type 0} (eq : Node → Node → Bool) (ns : List Node) (p : IndexMap Node ℕ S) → IsIndex eq ns p → (n : Node) (place : ℕ) → get eq p n ≡ Some place → Stands ns n (record { index = place })
place_there eq ns p index n place h = index.sound n place h

pub stands_last : (d e : List Node) (n : Node) (i : Id) → e ≡ d ++ n ∷ [] → i ≡ record { index = length d } → Stands e n i
stands_last d e n i more last =
    subst (λ (xs : List Node). Stands xs n i) (sym more) (subst (λ (j : Id). Stands (d ++ n ∷ []) n j) (sym last) (omega (arith, length_push d n), get_or_push d n n (length d) refl))

-- ---- what `make` and `put` give

pub made_kept : {E : Type 0} (r : Result Id E) (d e : List Node) (n m : Node) → MeansSame d n m → IsTrue (fits (widths d) m) → IsTrue (is_ordered e) → (e ≡ d) ⊎ (e ≡ d ++ m ∷ []) → IfOk r (Stands e m) → IfOk r (Makes d e n)
made_kept (Ok i) d e n m same fit ordered grows s = made_same d e n m i same (made_behind d e m i (extends_kept d e m grows) ordered fit s)
made_kept (Err x) d e n m same fit ordered grows s = tt

pub grows_put : {E : Type 0} (r : Result Id E) (d e : List Node) (n : Node) → OnOk r (e ≡ d ++ n ∷ []) → OnErr r (e ≡ d) → (e ≡ d) ⊎ (e ≡ d ++ n ∷ [])
grows_put (Ok i) d e n more none = inr more
grows_put (Err x) d e n more none = inl none
