-- A tree at a place of a file.
use Rattle.std.proofs.Common.{◌≡◌, ◌≤◌, ℕ, List, ◌++◌, length, Some, ap, sym, subst, ◌∙◌, arith}
use Rattle.std.proofs.lemmas.List.{append_assoc}
use Rattle.c_token.specs.declared.token.Token.{Token}
use Rattle.c_tree.specs.Tree.{Tree}
use Rattle.c_tree.specs.Names.{Scope}
use Rattle.c_parse_expr.specs.inner.Reading.{Read, reader}
use Rattle.c_parse_expr.specs.Standing.{Stands}
use Rattle.std.proofs.Common.{◌-◌, take, drop, length-append}
use Rattle.std.proofs.lemmas.List.{drop_at}
use Rattle.std.proofs.lemmas.List.{take-append-drop}
use Rattle.c_parse_expr.specs.declared.place.Level.{Level}
use Rattle.c_parse_expr.specs.declared.place.Level.TheVariants as levels
use Rattle.c_parse_expr.specs.Standing.{number_of}
use Rattle.c_parse_expr.proofs.Sound.{reads}

number_small : (l : Level) → number_of l ≤ 15
number_small levels.Comma = omega arith
number_small levels.Assignment = omega arith
number_small levels.Conditional = omega arith

ends_with : (xs front rest : List Token) → xs ≡ front ++ rest → drop (length xs - length rest) xs ≡ rest
ends_with xs front rest e =
    let long = ap (λ (ys : List Token). length ys) e ∙ length-append front rest in
    ap (λ (ys : List Token). drop (length xs - length rest) ys) e ∙ drop_at front rest (length xs - length rest) (omega (arith, long))

back_at : (at : ℕ) (xs own rest : List Token) → drop at xs ≡ own ++ rest → drop (length xs - length rest) xs ≡ rest
back_at at xs own rest e =
    ends_with xs (take at xs ++ own) rest (sym (take-append-drop at xs) ∙ ap (λ (ys : List Token). take at xs ++ ys) e ∙ sym (append_assoc (take at xs) own rest))

pub same_reading : (bytes b : List ℕ) (names : Scope) (items xs back : List Token) (at k l : ℕ) (o : Read) → b ≡ bytes → xs ≡ items → back ≡ drop at xs → l ≡ k → reader b names 400 l back ≡ o → reader bytes names 400 k (drop at items) ≡ o
same_reading bytes b names items xs back at k l o e f g h i =
    ap (λ (x : List ℕ). reader x names 400 k (drop at items)) (sym e)
    ∙ ap (λ (x : ℕ). reader b names 400 x (drop at items)) (sym h)
    ∙ ap (λ (ys : List Token). reader b names 400 l (drop at ys)) (sym f)
    ∙ ap (λ (ys : List Token). reader b names 400 l ys) (sym g) ∙ i

pub place_found : (bytes : List ℕ) (names : Scope) (items : List Token) (at len : ℕ) (level : Level) (t : Tree) (rest : List Token) → length items ≡ len → reader bytes names 400 (number_of level) (drop at items) ≡ Some (t, rest) → Stands bytes names 400 (number_of level) t (drop at items) (drop (len - length rest) items)
place_found bytes names items at len level t rest e f =
    let s = reads bytes names 400 (number_of level) (drop at items) (t, rest) (number_small level) f in
    subst (λ (ys : List Token). Stands bytes names 400 (number_of level) t (drop at items) ys)
    (sym (back_at at items s.own rest s.front) ∙ ap (λ (n : ℕ). drop (n - length rest) items) e) s
