use Rattle.std.proofs.Common.{◌≡◌, ◌++◌, ◌∷◌, [], ℕ, List, refl, length, vec_len, ap, sym, ◌∙◌, arith}
use Rattle.std.proofs.lemmas.Bool.Decides.{nat_tests}
use Rattle.std.proofs.lemmas.Option.{MatchOption-at_some, MatchOption-at_none}
use Rattle.std.specs.Prelude.{codes}
use Rattle.report.specs.Report.{spaced_words}
use Rattle.report.proofs.OneLine.{words_one}
use Rattle.report.proofs.Fronts.{behind_one, number_one}
use Rattle.report.proofs.lines.inputs_line.Goals as goal

pub returns-in_default-2 : goal.returns-in_default-2
returns-in_default-2 c = λ thread words is e.
    let p = c.in-Some.ensures in
    let few = p.1 in
    let small = is.thread in
    let after = behind_one (codes "inputs ") _ _ c.args.text.now p.0 e in
    let one = number_one c.in-Some.thread thread (58 ∷ c.in-Some.rest.now) (58 ∷ (spaced_words words ++ 10 ∷ [])) _ (omega arith) (omega arith) refl refl refl after in
    MatchOption-at_none _ _ c.in_default-2.is c.in_ok-words.ensures words is.words (behind_one (58 ∷ []) _ _ _ refl one.1)

pub returns-then-is_empty : goal.returns-then-is_empty
returns-then-is_empty c = λ thread words is e.
    let p = c.in-Some.ensures in
    let few = p.1 in
    let small = is.thread in
    let after = behind_one (codes "inputs ") _ _ c.args.text.now p.0 e in
    let one = number_one c.in-Some.thread thread (58 ∷ c.in-Some.rest.now) (58 ∷ (spaced_words words ++ 10 ∷ [])) _ (omega arith) (omega arith) refl refl refl after in
    let got = MatchOption-at_some _ _ c.in-Some-2.words c.in-Some-2.is c.in_ok-words.ensures in
    let same = words_one words c.in-Some-2.words.items [] [] is.words got.0 (sym (behind_one (58 ∷ []) _ _ _ refl one.1) ∙ got.1) in
    let some = is.some in
    let none = c.if-is_empty.ensures in
    let zero : vec_len c.in-Some-2.words ≡ 0 = grind (arith, nat_tests) in
    omega (arith, ap (λ (z : List ℕ). length z) same.0)
