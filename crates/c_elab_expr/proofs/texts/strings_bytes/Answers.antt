use Rattle.std.proofs.Common.{◌≡◌, ◌<◌, ◌+◌, ℕ, List, [], ◌∷◌, ◌++◌, length, get_or, take, map, sym, ap, ◌∙◌, arith}
use Rattle.std.proofs.lemmas.List.{append_assoc, append-nil, take_more}
use Rattle.c_lexer.specs.Literals.{bytes_behind, string_bytes}
use Rattle.c_tree.specs.declared.expr.Name.{Name}
use Rattle.c_tree.specs.Tree.{view_name}
use Rattle.c_elab_expr.specs.Texts.{text_bytes, bytes_of}
use Rattle.c_elab_expr.proofs.texts.strings_bytes.Goals as goal

names_push : (parts : List Name) (part : Name) → bytes_of (map view_name (parts ++ part ∷ [])) ≡ bytes_of (map view_name parts) ++ text_bytes (string_bytes (view_name part))
names_push [] part = append-nil (text_bytes (string_bytes (view_name part)))
names_push (p ∷ ps) part =
    let here = text_bytes (string_bytes (view_name p)) in
    ap (λ (bs : List ℕ). here ++ bs) (names_push ps part) ∙ sym (append_assoc here (bytes_of (map view_name ps)) (text_bytes (string_bytes (view_name part))))

bytes_more : (parts : List Name) (i : ℕ) (part : Name) → i < length parts → part ≡ get_or parts i part
    → bytes_of (map view_name (take (i + 1) parts)) ≡ bytes_of (map view_name (take i parts)) ++ text_bytes (string_bytes (view_name part))
bytes_more parts i part h is =
    ap (λ (ps : List Name). bytes_of (map view_name ps)) (take_more parts i part h) ∙ ap (λ (p : Name). bytes_of (map view_name (take i parts ++ p ∷ []))) (sym is)
    ∙ names_push (take i parts) part

pub parts-preserved : goal.parts-preserved
parts-preserved c =
    let part = c.part-item.result in
    let one : c.in_ok-more.more.items ≡ text_bytes (string_bytes (view_name part)) =
    c.in_ok-more.ensures ∙ ap (λ (bs : List ℕ). text_bytes (bytes_behind 0 bs)) c.enclosed.ensures ∙ ap (λ (bs : List ℕ). text_bytes (string_bytes bs)) c.deref.ensures.value in
    c.in_ok-extend_from_slice.ensures.items
    ∙ ap (λ (xs : List ℕ). c.parts.bytes.items ++ xs) (c.deref-in-parts.ensures.value ∙ one)
    ∙ ap (λ (xs : List ℕ). xs ++ text_bytes (string_bytes (view_name part))) c.parts.invariant
    ∙ sym (bytes_more c.args.parts.now c.parts.part-index part (omega arith) c.part-item.is)
