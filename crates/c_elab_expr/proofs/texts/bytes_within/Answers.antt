use Rattle.std.proofs.Common.{◌≡◌, ◌<◌, ◌%◌, ℕ, List, [], ◌∷◌, ◌++◌, length, map, Some, sym, ap, ◌∙◌, arith, rules}
use Rattle.std.proofs.lemmas.List.{map-append, append-nil, nil_from_length}
use Rattle.c_lexer.specs.Literals.{bytes_behind}
use Rattle.c_lexer.proofs.Elements.{with_front, element_none, front_more, front_start}
use Rattle.c_elab_expr.specs.Texts.{text_bytes}
use Rattle.c_elab_expr.proofs.texts.bytes_within.Goals as goal

pub elements-init : goal.elements-init
elements-init c = ([], c.new-bytes.ensures.items, front_start (bytes_behind 0 c.args.text.now))

pub elements-preserved : goal.elements-preserved
elements-preserved c =
    let inv = c.elements.invariant in
    let rest = c.elements.rest.now in
    let e = c.in-Some.element in
    let within = c.in-Some.ensures.within in
    let more : 0 < length rest = omega (arith, within) in
    let low : ℕ → ℕ = λ b. b % 256 in (
      inv.0 ++ e.byte ∷ [],
      c.in_ok-push-in-Some.ensures.items ∙ ap (λ (xs : List ℕ). xs ++ c.byte_of.result ∷ []) inv.1 ∙ ap (λ (x : ℕ). map low inv.0 ++ x ∷ []) c.byte_of.ensures ∙ sym (map-append low inv.0 (e.byte ∷ [])),
      ap (λ (bs : List ℕ). with_front (inv.0 ++ e.byte ∷ []) (bytes_behind 0 bs)) c.split_at.ensures.back ∙ front_more inv.0 rest e more within.0 (sym c.in-Some.ensures.value) ∙ inv.2,
    )

pub returns-in-None : goal.returns-in-None
returns-in-None c =
    let inv = c.elements.invariant in
    let rest = c.elements.rest.now in
    let more : 0 < length rest = search rules in
    c.new.ensures.items ∙ ap text_bytes (sym (ap (with_front inv.0) (element_none rest more (sym c.in-None.ensures.value))) ∙ inv.2)

pub returns : goal.returns
returns c =
    let inv = c.elements.invariant in
    let rest = c.elements.rest.now in
    let empty : length rest ≡ 0 = search rules in
    let none = nil_from_length rest empty in
    inv.1 ∙ ap text_bytes (sym (ap Some (append-nil inv.0)) ∙ sym (ap (λ (bs : List ℕ). with_front inv.0 (bytes_behind 0 bs)) none) ∙ inv.2)
