use Rattle.std.proofs.Common.{◌≡◌, ◌==◌, length, ◌<◌, ◌+◌, ℕ, List, take, ap, sym, ◌∙◌, arith}
use Rattle.c_tree.specs.declared.declaration.Specifier.{Specifier}
use Rattle.c_tree.specs.declared.declaration.MemberDeclaration.{MemberDeclaration}
use Rattle.c_tree.specs.declared.declaration.FullDeclarator.{FullDeclarator}
use Rattle.c_tree.specs.declared.declaration.DeclaratorSuffix.{DeclaratorSuffix}
use Rattle.c_tree.specs.declared.declaration.Parameter.{Parameter}
use Rattle.c_tree.specs.Declarations.{view_part, parts_of, members_of, view_full, fulls_of, view_full_suffix, full_suffixes_of, full_end, full_unnamed, full_named, full_inside, parameters_of, part_depth, parts_depth, members_depth, full_depth, fulls_depth, full_suffixes_depth, parameters_depth}
use Rattle.c_tree.specs.declared.expr.PointerMark.{PointerMark}
use Rattle.c_tree.specs.Tree.{view_name, pointed}
use Rattle.c_tree.proofs.DeclarationViews.{view_record, view_unnamed, view_named, view_inside, view_takes, full_behind_least, full_behind_levels}
use Rattle.c_tree.proofs.Deepest.{deepest_within, deepest_more, of_specifier, parts_deepest, of_member, members_deepest, of_declarator, fulls_deepest, of_suffix, full_suffixes_deepest, unnamed_empty, unnamed_more, of_parameter, parameters_deepest}
use Rattle.c_tree.proofs.file_levels.+specifiers.Goals as goal

pub part_depth-members_depth-requires : goal.part_depth-members_depth-requires
part_depth-members_depth-requires t c =
    let e = ap (λ (s : Specifier). part_depth (view_part s)) c.in-Record.is ∙ ap part_depth (view_record c.in-Record.line c.in-Record.kind c.in-Record.tag c.in-Record.members) in
    let same = ap (λ (ms : List MemberDeclaration). members_depth (members_of ms)) c.deref.ensures.value in
    let small : part_depth (view_part c.args.specifier.now) < 4294967296 = c.requires in
    (omega (arith, e, same), omega (arith, e, same))

pub part_depth-overflow_add-result : goal.part_depth-overflow_add-result
part_depth-overflow_add-result t c =
    let e = ap (λ (s : Specifier). part_depth (view_part s)) c.in-Record.is ∙ ap part_depth (view_record c.in-Record.line c.in-Record.kind c.in-Record.tag c.in-Record.members) in
    let same = ap (λ (ms : List MemberDeclaration). members_depth (members_of ms)) c.deref.ensures.value in
    omega (arith, e, same)

pub part_depth-returns-in-Record : goal.part_depth-returns-in-Record
part_depth-returns-in-Record t c =
    let e = ap (λ (s : Specifier). part_depth (view_part s)) c.in-Record.is ∙ ap part_depth (view_record c.in-Record.line c.in-Record.kind c.in-Record.tag c.in-Record.members) in
    let same = ap (λ (ms : List MemberDeclaration). members_depth (members_of ms)) c.deref.ensures.value in
    omega (arith, e, same)

pub parts_depth-part_depth-requires : goal.parts_depth-part_depth-requires
parts_depth-part_depth-requires t c =
    let below = deepest_within of_specifier c.args.specifiers.now c.loop-specifier.specifier-index c.specifier-item.result (omega arith) in
    let all = parts_deepest c.args.specifiers.now in
    let e = ap (λ (x : Specifier). of_specifier x) c.specifier-item.is in
    (omega (arith, below, all, e), omega (arith, below, all, e))

pub parts_depth-loop-specifier-preserved : goal.parts_depth-loop-specifier-preserved
parts_depth-loop-specifier-preserved t c =
    let one = deepest_more of_specifier c.args.specifiers.now c.loop-specifier.specifier-index c.specifier-item.result (omega arith) in
    let next = parts_deepest (take (c.loop-specifier.specifier-index + 1) c.args.specifiers.now) in
    let before = parts_deepest (take c.loop-specifier.specifier-index c.args.specifiers.now) in
    let e = ap (λ (x : Specifier). of_specifier x) c.specifier-item.is in
    omega (arith, one, next, before, e)

pub members_depth-parts_depth-requires : goal.members_depth-parts_depth-requires
members_depth-parts_depth-requires t c =
    let below = deepest_within of_member c.args.members.now c.loop-member.member-index c.member-item.result (omega arith) in
    let all = members_deepest c.args.members.now in
    let e = ap (λ (x : MemberDeclaration). of_member x) c.member-item.is in
    let first = ap (λ (ss : List Specifier). parts_depth (parts_of ss)) c.deref.ensures.value in
    (omega (arith, below, all, e, first), omega (arith, below, all, e, first))

pub members_depth-fulls_depth-requires : goal.members_depth-fulls_depth-requires
members_depth-fulls_depth-requires t c =
    let below = deepest_within of_member c.args.members.now c.loop-member.member-index c.member-item.result (omega arith) in
    let all = members_deepest c.args.members.now in
    let e = ap (λ (x : MemberDeclaration). of_member x) c.member-item.is in
    let second = ap (λ (ds : List FullDeclarator). fulls_depth (fulls_of ds)) c.deref-in-loop-member.ensures.value in
    (omega (arith, below, all, e, second), omega (arith, below, all, e, second))

pub members_depth-loop-member-preserved : goal.members_depth-loop-member-preserved
members_depth-loop-member-preserved t c =
    let one = deepest_more of_member c.args.members.now c.loop-member.member-index c.member-item.result (omega arith) in
    let next = members_deepest (take (c.loop-member.member-index + 1) c.args.members.now) in
    let before = members_deepest (take c.loop-member.member-index c.args.members.now) in
    let e = ap (λ (x : MemberDeclaration). of_member x) c.member-item.is in
    let first = ap (λ (ss : List Specifier). parts_depth (parts_of ss)) c.deref.ensures.value in
    let second = ap (λ (ds : List FullDeclarator). fulls_depth (fulls_of ds)) c.deref-in-loop-member.ensures.value in
    omega (arith, one, next, before, e, first, second)

pub fulls_depth-full_depth-requires : goal.fulls_depth-full_depth-requires
fulls_depth-full_depth-requires t c =
    let below = deepest_within of_declarator c.args.declarators.now c.loop-declarator.declarator-index c.declarator-item.result (omega arith) in
    let all = fulls_deepest c.args.declarators.now in
    let e = ap (λ (x : FullDeclarator). of_declarator x) c.declarator-item.is in
    (omega (arith, below, all, e), omega (arith, below, all, e))

pub fulls_depth-loop-declarator-preserved : goal.fulls_depth-loop-declarator-preserved
fulls_depth-loop-declarator-preserved t c =
    let one = deepest_more of_declarator c.args.declarators.now c.loop-declarator.declarator-index c.declarator-item.result (omega arith) in
    let next = fulls_deepest (take (c.loop-declarator.declarator-index + 1) c.args.declarators.now) in
    let before = fulls_deepest (take c.loop-declarator.declarator-index c.args.declarators.now) in
    let e = ap (λ (x : FullDeclarator). of_declarator x) c.declarator-item.is in
    omega (arith, one, next, before, e)

pub full_suffixes_depth-full_suffix_depth-requires : goal.full_suffixes_depth-full_suffix_depth-requires
full_suffixes_depth-full_suffix_depth-requires t c =
    let below = deepest_within of_suffix c.args.suffixes.now c.loop-suffix.suffix-index c.suffix-item.result (omega arith) in
    let all = full_suffixes_deepest c.args.suffixes.now in
    let e = ap (λ (x : DeclaratorSuffix). of_suffix x) c.suffix-item.is in
    (omega (arith, below, all, e), omega (arith, below, all, e))

pub full_suffixes_depth-loop-suffix-preserved : goal.full_suffixes_depth-loop-suffix-preserved
full_suffixes_depth-loop-suffix-preserved t c =
    let one = deepest_more of_suffix c.args.suffixes.now c.loop-suffix.suffix-index c.suffix-item.result (omega arith) in
    let next = full_suffixes_deepest (take (c.loop-suffix.suffix-index + 1) c.args.suffixes.now) in
    let before = full_suffixes_deepest (take c.loop-suffix.suffix-index c.args.suffixes.now) in
    let e = ap (λ (x : DeclaratorSuffix). of_suffix x) c.suffix-item.is in
    omega (arith, one, next, before, e)

pub parameters_depth-parts_depth-requires : goal.parameters_depth-parts_depth-requires
parameters_depth-parts_depth-requires t c =
    let below = deepest_within of_parameter c.args.parameters.now c.loop-parameter.parameter-index c.parameter-item.result (omega arith) in
    let all = parameters_deepest c.args.parameters.now in
    let e = ap (λ (x : Parameter). of_parameter x) c.parameter-item.is in
    let first = ap (λ (ss : List Specifier). parts_depth (parts_of ss)) c.deref.ensures.value in
    (omega (arith, below, all, e, first), omega (arith, below, all, e, first))

pub parameters_depth-full_depth-requires : goal.parameters_depth-full_depth-requires
parameters_depth-full_depth-requires t c =
    let below = deepest_within of_parameter c.args.parameters.now c.loop-parameter.parameter-index c.parameter-item.result (omega arith) in
    let all = parameters_deepest c.args.parameters.now in
    let e = ap (λ (x : Parameter). of_parameter x) c.parameter-item.is in
    (omega (arith, below, all, e), omega (arith, below, all, e))

pub parameters_depth-loop-parameter-preserved : goal.parameters_depth-loop-parameter-preserved
parameters_depth-loop-parameter-preserved t c =
    let one = deepest_more of_parameter c.args.parameters.now c.loop-parameter.parameter-index c.parameter-item.result (omega arith) in
    let next = parameters_deepest (take (c.loop-parameter.parameter-index + 1) c.args.parameters.now) in
    let before = parameters_deepest (take c.loop-parameter.parameter-index c.args.parameters.now) in
    let e = ap (λ (x : Parameter). of_parameter x) c.parameter-item.is in
    let first = ap (λ (ss : List Specifier). parts_depth (parts_of ss)) c.deref.ensures.value in
    omega (arith, one, next, before, e, first)

pub full_suffix_depth-parameters_depth-requires : goal.full_suffix_depth-parameters_depth-requires
full_suffix_depth-parameters_depth-requires t c =
    let e = ap (λ (s : DeclaratorSuffix). of_suffix s) c.in-Parameters.is ∙ ap full_suffixes_depth (view_takes c.in-Parameters.line c.in-Parameters.parameters c.in-Parameters.variadic full_end) in
    let same = ap (λ (ps : List Parameter). parameters_depth (parameters_of ps)) c.deref-in-Parameters.ensures.value in
    let small : full_suffixes_depth (view_full_suffix c.args.suffix.now full_end) < 4294967296 = c.requires in
    (omega (arith, e, same), omega (arith, e, same))

pub full_suffix_depth-returns-in-Parameters : goal.full_suffix_depth-returns-in-Parameters
full_suffix_depth-returns-in-Parameters t c =
    let e = ap (λ (s : DeclaratorSuffix). of_suffix s) c.in-Parameters.is ∙ ap full_suffixes_depth (view_takes c.in-Parameters.line c.in-Parameters.parameters c.in-Parameters.variadic full_end) in
    let same = ap (λ (ps : List Parameter). parameters_depth (parameters_of ps)) c.deref-in-Parameters.ensures.value in
    omega (arith, e, same)

-- the levels are those behind the pointers that are there
at_pointers : (ps qs : List PointerMark) (levels result : ℕ) → ps ≡ qs → result ≡ pointed ps levels → result ≡ pointed qs levels
at_pointers ps qs levels result e f = f ∙ ap (λ (xs : List PointerMark). pointed xs levels) e

pub full_depth-full_suffixes_depth-requires : goal.full_depth-full_suffixes_depth-requires
full_depth-full_suffixes_depth-requires t c =
    let e = ap (λ (d : FullDeclarator). of_declarator d) c.in-Unnamed.is ∙ ap full_depth (view_unnamed c.in-Unnamed.pointers c.in-Unnamed.suffixes) in
    let least = full_behind_least c.in-Unnamed.pointers.items (full_unnamed (full_suffixes_of c.in-Unnamed.suffixes.items)) in
    let none = c.are_none.ensures ∙ ap (λ (ss : List DeclaratorSuffix). length ss == 0) c.deref.ensures.value in
    let one = unnamed_more c.in-Unnamed.suffixes.items c.are_none.result none c.if-are_none.false in
    let same = ap (λ (ss : List DeclaratorSuffix). full_suffixes_depth (full_suffixes_of ss)) c.deref-else-are_none-2.ensures.value in
    let small : full_depth (view_full c.args.declarator.now) < 4294967296 = c.requires in
    (omega (arith, e, least, one, same), omega (arith, e, least, one, same))

pub full_depth-overflow_add-full_suffixes_depth : goal.full_depth-overflow_add-full_suffixes_depth
full_depth-overflow_add-full_suffixes_depth t c =
    let e = ap (λ (d : FullDeclarator). of_declarator d) c.in-Unnamed.is ∙ ap full_depth (view_unnamed c.in-Unnamed.pointers c.in-Unnamed.suffixes) in
    let least = full_behind_least c.in-Unnamed.pointers.items (full_unnamed (full_suffixes_of c.in-Unnamed.suffixes.items)) in
    let none = c.are_none.ensures ∙ ap (λ (ss : List DeclaratorSuffix). length ss == 0) c.deref.ensures.value in
    let one = unnamed_more c.in-Unnamed.suffixes.items c.are_none.result none c.if-are_none.false in
    let same = ap (λ (ss : List DeclaratorSuffix). full_suffixes_depth (full_suffixes_of ss)) c.deref-else-are_none-2.ensures.value in
    let small : full_depth (view_full c.args.declarator.now) < 4294967296 = c.requires in
    omega (arith, e, least, one, same)

pub full_depth-returns-then-are_none : goal.full_depth-returns-then-are_none
full_depth-returns-then-are_none t c =
    let e = ap (λ (d : FullDeclarator). of_declarator d) c.in-Unnamed.is ∙ ap full_depth (view_unnamed c.in-Unnamed.pointers c.in-Unnamed.suffixes) in
    let none = c.are_none.ensures ∙ ap (λ (ss : List DeclaratorSuffix). length ss == 0) c.deref.ensures.value in
    let one = unnamed_empty c.in-Unnamed.suffixes.items c.are_none.result none c.if-are_none.true in
    full_behind_levels c.in-Unnamed.pointers.items (full_unnamed (full_suffixes_of c.in-Unnamed.suffixes.items)) 0 c.pointed_depth.result (at_pointers c.deref-then-are_none.result.now c.in-Unnamed.pointers.items 0 c.pointed_depth.result c.deref-then-are_none.ensures.value c.pointed_depth.ensures) (sym one) ∙ sym e

pub full_depth-returns-else-are_none : goal.full_depth-returns-else-are_none
full_depth-returns-else-are_none t c =
    let e = ap (λ (d : FullDeclarator). of_declarator d) c.in-Unnamed.is ∙ ap full_depth (view_unnamed c.in-Unnamed.pointers c.in-Unnamed.suffixes) in
    let none = c.are_none.ensures ∙ ap (λ (ss : List DeclaratorSuffix). length ss == 0) c.deref.ensures.value in
    let one = unnamed_more c.in-Unnamed.suffixes.items c.are_none.result none c.if-are_none.false in
    let same = ap (λ (ss : List DeclaratorSuffix). full_suffixes_depth (full_suffixes_of ss)) c.deref-else-are_none-2.ensures.value in
    full_behind_levels c.in-Unnamed.pointers.items (full_unnamed (full_suffixes_of c.in-Unnamed.suffixes.items)) (c.full_suffixes_depth.result + 1) c.pointed_depth-else-are_none.result (at_pointers c.deref-else-are_none.result.now c.in-Unnamed.pointers.items (c.full_suffixes_depth.result + 1) c.pointed_depth-else-are_none.result c.deref-else-are_none.ensures.value c.pointed_depth-else-are_none.ensures) (omega (arith, one, same)) ∙ sym e

pub full_depth-full_suffixes_depth-requires-in-Named : goal.full_depth-full_suffixes_depth-requires-in-Named
full_depth-full_suffixes_depth-requires-in-Named t c =
    let e = ap (λ (d : FullDeclarator). of_declarator d) c.in-Named.is ∙ ap full_depth (view_named c.in-Named.pointers c.in-Named.line c.in-Named.name c.in-Named.suffixes) in
    let least = full_behind_least c.in-Named.pointers.items (full_named c.in-Named.line (view_name c.in-Named.name) (full_suffixes_of c.in-Named.suffixes.items)) in
    let same = ap (λ (ss : List DeclaratorSuffix). full_suffixes_depth (full_suffixes_of ss)) c.deref-in-Named-2.ensures.value in
    let small : full_depth (view_full c.args.declarator.now) < 4294967296 = c.requires in
    (omega (arith, e, least, same), omega (arith, e, least, same))

pub full_depth-overflow_add-full_suffixes_depth-in-Named : goal.full_depth-overflow_add-full_suffixes_depth-in-Named
full_depth-overflow_add-full_suffixes_depth-in-Named t c =
    let e = ap (λ (d : FullDeclarator). of_declarator d) c.in-Named.is ∙ ap full_depth (view_named c.in-Named.pointers c.in-Named.line c.in-Named.name c.in-Named.suffixes) in
    let least = full_behind_least c.in-Named.pointers.items (full_named c.in-Named.line (view_name c.in-Named.name) (full_suffixes_of c.in-Named.suffixes.items)) in
    let same = ap (λ (ss : List DeclaratorSuffix). full_suffixes_depth (full_suffixes_of ss)) c.deref-in-Named-2.ensures.value in
    let small : full_depth (view_full c.args.declarator.now) < 4294967296 = c.requires in
    omega (arith, e, least, same)

pub full_depth-returns-in-Named : goal.full_depth-returns-in-Named
full_depth-returns-in-Named t c =
    let e = ap (λ (d : FullDeclarator). of_declarator d) c.in-Named.is ∙ ap full_depth (view_named c.in-Named.pointers c.in-Named.line c.in-Named.name c.in-Named.suffixes) in
    let same = ap (λ (ss : List DeclaratorSuffix). full_suffixes_depth (full_suffixes_of ss)) c.deref-in-Named-2.ensures.value in
    full_behind_levels c.in-Named.pointers.items (full_named c.in-Named.line (view_name c.in-Named.name) (full_suffixes_of c.in-Named.suffixes.items)) (c.full_suffixes_depth-in-Named.result + 1) c.pointed_depth-in-Named.result (at_pointers c.deref-in-Named.result.now c.in-Named.pointers.items (c.full_suffixes_depth-in-Named.result + 1) c.pointed_depth-in-Named.result c.deref-in-Named.ensures.value c.pointed_depth-in-Named.ensures) (omega (arith, same)) ∙ sym e

pub full_depth-full_depth-requires : goal.full_depth-full_depth-requires
full_depth-full_depth-requires t c =
    let e = ap (λ (d : FullDeclarator). of_declarator d) c.in-Inside.is ∙ ap full_depth (view_inside c.in-Inside.pointers c.in-Inside.line c.in-Inside.inner c.in-Inside.suffixes) in
    let least = full_behind_least c.in-Inside.pointers.items (full_inside c.in-Inside.line (view_full c.in-Inside.inner.value) (full_suffixes_of c.in-Inside.suffixes.items)) in
    let one = ap (λ (d : FullDeclarator). of_declarator d) c.deref-in-Inside-2.ensures in
    let small : full_depth (view_full c.args.declarator.now) < 4294967296 = c.requires in
    (omega (arith, e, least, one), omega (arith, e, least, one))

pub full_depth-full_suffixes_depth-requires-in-Inside : goal.full_depth-full_suffixes_depth-requires-in-Inside
full_depth-full_suffixes_depth-requires-in-Inside t c =
    let e = ap (λ (d : FullDeclarator). of_declarator d) c.in-Inside.is ∙ ap full_depth (view_inside c.in-Inside.pointers c.in-Inside.line c.in-Inside.inner c.in-Inside.suffixes) in
    let least = full_behind_least c.in-Inside.pointers.items (full_inside c.in-Inside.line (view_full c.in-Inside.inner.value) (full_suffixes_of c.in-Inside.suffixes.items)) in
    let same = ap (λ (ss : List DeclaratorSuffix). full_suffixes_depth (full_suffixes_of ss)) c.deref-in-Inside-3.ensures.value in
    let small : full_depth (view_full c.args.declarator.now) < 4294967296 = c.requires in
    (omega (arith, e, least, same), omega (arith, e, least, same))

pub full_depth-overflow_add-larger : goal.full_depth-overflow_add-larger
full_depth-overflow_add-larger t c =
    let e = ap (λ (d : FullDeclarator). of_declarator d) c.in-Inside.is ∙ ap full_depth (view_inside c.in-Inside.pointers c.in-Inside.line c.in-Inside.inner c.in-Inside.suffixes) in
    let least = full_behind_least c.in-Inside.pointers.items (full_inside c.in-Inside.line (view_full c.in-Inside.inner.value) (full_suffixes_of c.in-Inside.suffixes.items)) in
    let one = ap (λ (d : FullDeclarator). of_declarator d) c.deref-in-Inside-2.ensures in
    let same = ap (λ (ss : List DeclaratorSuffix). full_suffixes_depth (full_suffixes_of ss)) c.deref-in-Inside-3.ensures.value in
    let small : full_depth (view_full c.args.declarator.now) < 4294967296 = c.requires in
    omega (arith, e, least, one, same)

pub full_depth-returns-in-Inside : goal.full_depth-returns-in-Inside
full_depth-returns-in-Inside t c =
    let e = ap (λ (d : FullDeclarator). of_declarator d) c.in-Inside.is ∙ ap full_depth (view_inside c.in-Inside.pointers c.in-Inside.line c.in-Inside.inner c.in-Inside.suffixes) in
    let one = ap (λ (d : FullDeclarator). of_declarator d) c.deref-in-Inside-2.ensures in
    let same = ap (λ (ss : List DeclaratorSuffix). full_suffixes_depth (full_suffixes_of ss)) c.deref-in-Inside-3.ensures.value in
    full_behind_levels c.in-Inside.pointers.items (full_inside c.in-Inside.line (view_full c.in-Inside.inner.value) (full_suffixes_of c.in-Inside.suffixes.items)) (c.larger.result + 1) c.pointed_depth-in-Inside.result (at_pointers c.deref-in-Inside.result.now c.in-Inside.pointers.items (c.larger.result + 1) c.pointed_depth-in-Inside.result c.deref-in-Inside.ensures.value c.pointed_depth-in-Inside.ensures) (omega (arith, one, same)) ∙ sym e
