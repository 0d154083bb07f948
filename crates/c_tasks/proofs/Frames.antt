-- The structure values on top are the last of the code's list.
use Rattle.std.proofs.Common.{◌≡◌, ◌≤◌, ◌<◌, ◌+◌, ◌-◌, ℕ, get_or, zero, suc, min, List, [], ◌∷◌, ◌++◌, length, take, drop, refl, ap, sym, ◌∙◌, arith, length-append, length-drop, append_assoc}
use Rattle.std.proofs.lemmas.List.{take-append-drop, take_at, drop_at, take_min, drop_min, append-nil, take_more, get_or-drop, map-append}
use Rattle.std.proofs.Math.ListN.{get_or-map, length-map}
use Rattle.core_tree.specs.declared.functions.Variable.{Variable}
use Rattle.c_meaning.specs.Meaning.{sizes_of}
use Rattle.c_values.specs.Variables.{zeros, first_variables}
use Rattle.c_tasks.specs.Items.{blocks_on}
use Rattle.c_tasks.specs.Tasks.{structures_in, frame_on}
use Rattle.c_tasks.proofs.Tops.{structures_push}

count_in : (bs : List (List ℕ)) → length (structures_in bs) ≡ length bs
count_in [] = refl
count_in (b ∷ bs) = let h = count_in bs in let e = length-append (structures_in bs) (b ∷ []) in omega (arith, h, e)

twice : (bs : List (List ℕ)) → structures_in (structures_in bs) ≡ bs
twice [] = refl
twice (b ∷ bs) = structures_push (structures_in bs) b ∙ ap (λ cs. b ∷ cs) (twice bs)

joined : (ks cs : List (List ℕ)) → structures_in (ks ++ cs) ≡ structures_in cs ++ structures_in ks
joined [] cs = sym (append-nil (structures_in cs))
joined (k ∷ ks) cs = ap (λ bs. bs ++ k ∷ []) (joined ks cs) ∙ append_assoc (structures_in cs) (structures_in ks) (k ∷ [])

blocks_taken : (count : ℕ) (bs : List (List ℕ)) → blocks_on count bs ≡ structures_in (take count bs)
blocks_taken zero bs = refl
blocks_taken (suc n) [] = refl
blocks_taken (suc n) (b ∷ bs) = ap (λ cs. cs ++ b ∷ []) (blocks_taken n bs)

module _ (count : ℕ) (bs : List (List ℕ)) where
  abbrev first : ℕ
  first = length bs - count

  split : structures_in bs ≡ structures_in (drop first bs) ++ structures_in (take first bs)
  split = ap structures_in (sym (take-append-drop first bs)) ∙ joined (take first bs) (drop first bs)

  on_top : length (structures_in (drop first bs)) ≡ min count (length (structures_in bs))
  on_top = omega (arith, count_in (drop first bs), count_in bs, length-drop first bs)

  pub blocks_below : structures_in (take first bs) ≡ drop count (structures_in bs)
  blocks_below =
      let n = min count (length (structures_in bs)) in
      sym (drop_at (structures_in (drop first bs)) (structures_in (take first bs)) n on_top) ∙ ap (drop n) (sym split) ∙ drop_min count (structures_in bs)

  blocks_above : blocks_on count (structures_in bs) ≡ drop first bs
  blocks_above =
      let n = min count (length (structures_in bs)) in
      let e : take count (structures_in bs) ≡ structures_in (drop first bs) =
      sym (take_min count (structures_in bs)) ∙ ap (take n) split ∙ take_at (structures_in (drop first bs)) (structures_in (take first bs)) n on_top in
      blocks_taken count (structures_in bs) ∙ ap structures_in e ∙ twice (drop first bs)

  pub frame_above : (sizes : List ℕ) → drop first bs ++ first_variables (drop (length bs - first) sizes) ≡ frame_on count (structures_in bs) sizes
  frame_above sizes =
      let args = blocks_on count (structures_in bs) in
      let e : length bs - first ≡ length args = omega (arith, ap (λ (cs : List (List ℕ)). length cs) blocks_above, length-drop first bs) in
      ap (λ n. drop first bs ++ first_variables (drop n sizes)) e ∙ ap (λ (cs : List (List ℕ)). cs ++ first_variables (drop (length args) sizes)) (sym blocks_above)

-- one block more
pub more_variables : (start now : List (List ℕ)) (sizes : List ℕ) (from place size : ℕ) → from ≤ place → place < length sizes → size ≡ get_or sizes place size → now ≡ start ++ first_variables (take (place - from) (drop from sizes)) →
    now ++ zeros size ∷ [] ≡ start ++ first_variables (take (place + 1 - from) (drop from sizes))
more_variables start now sizes from place size h l e same =
    let k = place - from in
    let ys = drop from sizes in
    let within : k < length ys = omega (arith, h, l, length-drop from sizes) in
    let there : get_or ys k size ≡ size = get_or-drop from sizes k size ∙ ap (λ n. get_or sizes n size) (omega (arith, h)) ∙ sym e in
    let next : take (k + 1) ys ≡ take k ys ++ size ∷ [] = take_more ys k size within ∙ ap (λ (n : ℕ). take k ys ++ n ∷ []) there in
    let count : place + 1 - from ≡ k + 1 = omega (arith, h) in
    ap (λ (cs : List (List ℕ)). cs ++ zeros size ∷ []) same ∙ append_assoc start (first_variables (take k ys)) (zeros size ∷ [])
    ∙ ap (λ (cs : List (List ℕ)). start ++ cs) (sym (map-append zeros (take k ys) (size ∷ [])) ∙ ap first_variables (sym next) ∙ ap (λ n. first_variables (take n ys)) (sym count))

-- so of a list of variables
pub more_blocks : (start now : List (List ℕ)) (vs : List Variable) (from place : ℕ) (x : Variable) → from ≤ place → place < length vs → x ≡ get_or vs place x → now ≡ start ++ first_variables (take (place - from) (drop from (sizes_of vs))) →
    now ++ zeros x.size ∷ [] ≡ start ++ first_variables (take (place + 1 - from) (drop from (sizes_of vs)))
more_blocks start now vs from place x h l e same =
    let size : Variable → ℕ = λ (v : Variable). v.size in
    let there : x.size ≡ get_or (sizes_of vs) place x.size = ap size e ∙ sym (get_or-map size vs place x) in
    more_variables start now (sizes_of vs) from place x.size h (omega (arith, l, length-map vs size)) there same
