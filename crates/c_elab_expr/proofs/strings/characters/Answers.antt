use Rattle.std.proofs.Common.{◌≡◌, ◌<◌, ℕ, List, length, drop, ap, ◌∙◌, arith, rules}
use Rattle.std.proofs.lemmas.List.{length-drop}
use Rattle.c_elab_expr.specs.Strings.{element_length, characters_behind}
use Rattle.c_elab_expr.proofs.Elements.{next_character}
use Rattle.c_elab_expr.proofs.strings.characters.Goals as goal

pub loop-rest-preserved : goal.loop-rest-preserved
loop-rest-preserved c =
    let rest = c.loop-rest.rest.now in
    let some : 0 < length rest = search rules in
    let next = next_character rest some in
    let gone : characters_behind 0 c.split_at.result.1.now ≡ characters_behind 0 (drop (element_length rest) rest) =
    ap (λ (bs : List ℕ). characters_behind 0 bs) c.split_at.ensures.back ∙ ap (λ (n : ℕ). characters_behind 0 (drop n rest)) c.element_length.ensures.is in
    let shorter = ap (λ (bs : List ℕ). length bs) c.split_at.ensures.back ∙ length-drop c.element_length.result rest in
    let one = c.element_length.ensures.some in
    let within = c.element_length.ensures.within in
    let counted = c.loop-rest.invariant.0 in
    let fewer = c.loop-rest.invariant.1 in
    (omega (arith, next, gone, counted), omega (arith, shorter, one, within, fewer))
