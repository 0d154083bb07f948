-- One more piece of a text is written.
use Rattle.std.proofs.Common.{◌≡◌, ℕ, List, ◌++◌, take, drop, Option, Some, None, sym, refl, ap, ◌∙◌}
use mathlib.Core.List.{append_assoc}
use Rattle.std.proofs.lemmas.List.{take-append-drop}
use Rattle.outside.specs.Sink.{appended}
use Rattle.cbmc_top.specs.Writing.{IsWriting}

appended_twice : (taken : Option (List ℕ)) (a b : List ℕ) → appended (appended taken a) b ≡ appended taken (a ++ b)
appended_twice None a b = refl
appended_twice (Some t) a b = ap Some (append_assoc t a b)

pub writing_more : (before now later : Option (List ℕ)) (text rest left : List ℕ) (n : ℕ) → IsWriting before now text rest → later ≡ appended now (take n rest) → left ≡ drop n rest → IsWriting before later text left
writing_more before now later text rest left n w taken is = record {
  front = w.front ++ take n rest;
  whole = w.whole ∙ ap (λ x. w.front ++ x) (sym (take-append-drop n rest)) ∙ sym (append_assoc w.front (take n rest) (drop n rest)) ∙ ap (λ x. (w.front ++ take n rest) ++ x) (sym is);
  taken = taken ∙ ap (λ x. appended x (take n rest)) w.taken ∙ appended_twice before w.front (take n rest);
}
