use Rattle.std.proofs.Common.{length, List, ap, ◌∙◌, arith}
use Rattle.c_tree.specs.declared.declaration.Specifier.{Specifier}
use Rattle.c_tree.specs.declared.declaration.MemberDeclaration.{MemberDeclaration}
use Rattle.c_tree.specs.declared.declaration.FullDeclarator.{FullDeclarator}
use Rattle.c_tree.specs.declared.declaration.DeclaratorSuffix.{DeclaratorSuffix}
use Rattle.c_tree.specs.declared.declaration.Parameter.{Parameter}
use Rattle.c_tree.specs.Declarations.{view_part, parts_of, members_of, view_full, fulls_of, full_suffixes_of, full_end, parameters_of, part_depth, parts_depth, members_depth, full_depth, fulls_depth, full_suffixes_depth, parameters_depth, full_unnamed, full_named, full_inside}
use Rattle.c_tree.proofs.DeclarationViews.{view_record, view_unnamed, view_named, view_inside, view_takes, full_behind_least}
use Rattle.c_tree.proofs.Deepest.{deepest_within, of_specifier, parts_deepest, of_member, members_deepest, of_declarator, fulls_deepest, of_suffix, full_suffixes_deepest, of_parameter, parameters_deepest}
use Rattle.properties.proofs.Behind.{by_specifier, parts_in_turn, by_member, members_in_turn, by_full, fulls_in_turn, by_full_suffix, full_suffixes_in_turn, by_parameter, parameters_in_turn, one_more, at_end, unnamed_above}
use Rattle.properties.specs.declared.spots.Spot.{Spot}
use Rattle.properties.specs.Spots.{with_parts, with_full, with_fulls}
use Rattle.properties.proofs.Arms.{record_arm, unnamed_arm, named_arm, full_inside_arm, parameters_arm}
use Rattle.c_tree.specs.Tree.{view_name}
use Rattle.properties.proofs.declarations.+specifiers.Goals as goal

pub push_part-push_members-requires : goal.push_part-push_members-requires
push_part-push_members-requires t c =
    let e = ap (λ (s : Specifier). part_depth (view_part s)) c.in-Record.is ∙ ap part_depth (view_record c.in-Record.line c.in-Record.kind c.in-Record.tag c.in-Record.members) in
    let same = ap (λ (ms : List MemberDeclaration). members_depth (members_of ms)) c.deref.ensures.value in
    omega (arith, e, same)

pub push_parts-push_part-requires : goal.push_parts-push_part-requires
push_parts-push_part-requires t c =
    let below = deepest_within of_specifier c.args.specifiers.now c.loop-specifier.specifier-index c.specifier-item.result (omega arith) in
    let all = parts_deepest c.args.specifiers.now in
    let e = ap (λ (x : Specifier). of_specifier x) c.specifier-item.is in
    omega (arith, below, all, e)

pub push_members-push_parts-requires : goal.push_members-push_parts-requires
push_members-push_parts-requires t c =
    let below = deepest_within of_member c.args.members.now c.loop-member.member-index c.member-item.result (omega arith) in
    let all = members_deepest c.args.members.now in
    let e = ap (λ (x : MemberDeclaration). of_member x) c.member-item.is in
    let first = ap (λ (ss : List Specifier). parts_depth (parts_of ss)) c.deref.ensures.value in
    omega (arith, below, all, e, first)

pub push_members-push_fulls-requires : goal.push_members-push_fulls-requires
push_members-push_fulls-requires t c =
    let below = deepest_within of_member c.args.members.now c.loop-member.member-index c.member-item.result (omega arith) in
    let all = members_deepest c.args.members.now in
    let e = ap (λ (x : MemberDeclaration). of_member x) c.member-item.is in
    let second = ap (λ (ds : List FullDeclarator). fulls_depth (fulls_of ds)) c.deref-in-loop-member.ensures.value in
    omega (arith, below, all, e, second)

pub push_fulls-push_full-requires : goal.push_fulls-push_full-requires
push_fulls-push_full-requires t c =
    let below = deepest_within of_declarator c.args.declarators.now c.loop-declarator.declarator-index c.declarator-item.result (omega arith) in
    let all = fulls_deepest c.args.declarators.now in
    let e = ap (λ (x : FullDeclarator). of_declarator x) c.declarator-item.is in
    omega (arith, below, all, e)

pub push_full_suffixes-push_full_suffix-requires : goal.push_full_suffixes-push_full_suffix-requires
push_full_suffixes-push_full_suffix-requires t c =
    let below = deepest_within of_suffix c.args.suffixes.now c.loop-suffix.suffix-index c.suffix-item.result (omega arith) in
    let all = full_suffixes_deepest c.args.suffixes.now in
    let e = ap (λ (x : DeclaratorSuffix). of_suffix x) c.suffix-item.is in
    omega (arith, below, all, e)

pub push_parameters-push_parts-requires : goal.push_parameters-push_parts-requires
push_parameters-push_parts-requires t c =
    let below = deepest_within of_parameter c.args.parameters.now c.loop-parameter.parameter-index c.parameter-item.result (omega arith) in
    let all = parameters_deepest c.args.parameters.now in
    let e = ap (λ (x : Parameter). of_parameter x) c.parameter-item.is in
    let first = ap (λ (ss : List Specifier). parts_depth (parts_of ss)) c.deref.ensures.value in
    omega (arith, below, all, e, first)

pub push_parameters-push_full-requires : goal.push_parameters-push_full-requires
push_parameters-push_full-requires t c =
    let below = deepest_within of_parameter c.args.parameters.now c.loop-parameter.parameter-index c.parameter-item.result (omega arith) in
    let all = parameters_deepest c.args.parameters.now in
    let e = ap (λ (x : Parameter). of_parameter x) c.parameter-item.is in
    omega (arith, below, all, e)

pub push_full_suffix-push_parameters-requires : goal.push_full_suffix-push_parameters-requires
push_full_suffix-push_parameters-requires t c =
    let e = ap (λ (s : DeclaratorSuffix). of_suffix s) c.in-Parameters.is ∙ ap full_suffixes_depth (view_takes c.in-Parameters.line c.in-Parameters.parameters c.in-Parameters.variadic full_end) in
    let same = ap (λ (ps : List Parameter). parameters_depth (parameters_of ps)) c.deref-in-Parameters.ensures.value in
    omega (arith, e, same)

pub push_full-push_full_suffixes-requires : goal.push_full-push_full_suffixes-requires
push_full-push_full_suffixes-requires t c =
    let e = ap (λ (d : FullDeclarator). of_declarator d) c.in-Unnamed.is ∙ ap full_depth (view_unnamed c.in-Unnamed.pointers c.in-Unnamed.suffixes) in
    let same = ap (λ (ss : List DeclaratorSuffix). full_suffixes_depth (full_suffixes_of ss)) c.deref.ensures.value in
    let many = ap (λ (ss : List DeclaratorSuffix). length ss) c.deref.ensures.value in
    let least = full_behind_least c.in-Unnamed.pointers.items (full_unnamed (full_suffixes_of c.in-Unnamed.suffixes.items)) in
    omega (arith, e, same, many, least, unnamed_above c.in-Unnamed.suffixes.items)

pub push_full-push_full_suffixes-requires-in-Named : goal.push_full-push_full_suffixes-requires-in-Named
push_full-push_full_suffixes-requires-in-Named t c =
    let e = ap (λ (d : FullDeclarator). of_declarator d) c.in-Named.is ∙ ap full_depth (view_named c.in-Named.pointers c.in-Named.line c.in-Named.name c.in-Named.suffixes) in
    let same = ap (λ (ss : List DeclaratorSuffix). full_suffixes_depth (full_suffixes_of ss)) c.deref-in-Named.ensures.value in
    let least = full_behind_least c.in-Named.pointers.items (full_named c.in-Named.line (view_name c.in-Named.name) (full_suffixes_of c.in-Named.suffixes.items)) in
    omega (arith, e, same, least)

pub push_full-push_full-requires : goal.push_full-push_full-requires
push_full-push_full-requires t c =
    let e = ap (λ (d : FullDeclarator). of_declarator d) c.in-Inside.is ∙ ap full_depth (view_inside c.in-Inside.pointers c.in-Inside.line c.in-Inside.inner c.in-Inside.suffixes) in
    let one = ap (λ (d : FullDeclarator). of_declarator d) c.deref-in-Inside.ensures in
    let least = full_behind_least c.in-Inside.pointers.items (full_inside c.in-Inside.line (view_full c.in-Inside.inner.value) (full_suffixes_of c.in-Inside.suffixes.items)) in
    omega (arith, e, one, least)

pub push_full-push_full_suffixes-requires-in-Inside : goal.push_full-push_full_suffixes-requires-in-Inside
push_full-push_full_suffixes-requires-in-Inside t c =
    let e = ap (λ (d : FullDeclarator). of_declarator d) c.in-Inside.is ∙ ap full_depth (view_inside c.in-Inside.pointers c.in-Inside.line c.in-Inside.inner c.in-Inside.suffixes) in
    let same = ap (λ (ss : List DeclaratorSuffix). full_suffixes_depth (full_suffixes_of ss)) c.deref-in-Inside-2.ensures.value in
    let least = full_behind_least c.in-Inside.pointers.items (full_inside c.in-Inside.line (view_full c.in-Inside.inner.value) (full_suffixes_of c.in-Inside.suffixes.items)) in
    omega (arith, e, same, least)

pub push_parts-loop-specifier-preserved : goal.push_parts-loop-specifier-preserved
push_parts-loop-specifier-preserved t c =
    one_more by_specifier _ _ _ c.args.specifiers.now c.loop-specifier.specifier-index c.specifier-item.result (omega arith) c.loop-specifier.invariant c.specifier-item.is c.in_ok-push_part.ensures

pub push_parts-returns : goal.push_parts-returns
push_parts-returns t c = at_end by_specifier _ _ _ c.args.specifiers.now c.loop-specifier.specifier-index c.loop-specifier-test.false c.loop-specifier.invariant (parts_in_turn _ c.args.specifiers.now)

pub push_fulls-loop-declarator-preserved : goal.push_fulls-loop-declarator-preserved
push_fulls-loop-declarator-preserved t c =
    one_more by_full _ _ _ c.args.declarators.now c.loop-declarator.declarator-index c.declarator-item.result (omega arith) c.loop-declarator.invariant c.declarator-item.is c.in_ok-push_full.ensures

pub push_fulls-returns : goal.push_fulls-returns
push_fulls-returns t c = at_end by_full _ _ _ c.args.declarators.now c.loop-declarator.declarator-index c.loop-declarator-test.false c.loop-declarator.invariant (fulls_in_turn _ c.args.declarators.now)

pub push_full_suffixes-loop-suffix-preserved : goal.push_full_suffixes-loop-suffix-preserved
push_full_suffixes-loop-suffix-preserved t c =
    one_more by_full_suffix _ _ _ c.args.suffixes.now c.loop-suffix.suffix-index c.suffix-item.result (omega arith) c.loop-suffix.invariant c.suffix-item.is c.in_ok-push_full_suffix.ensures

pub push_full_suffixes-returns : goal.push_full_suffixes-returns
push_full_suffixes-returns t c = at_end by_full_suffix _ _ _ c.args.suffixes.now c.loop-suffix.suffix-index c.loop-suffix-test.false c.loop-suffix.invariant (full_suffixes_in_turn _ c.args.suffixes.now)

pub push_members-loop-member-preserved : goal.push_members-loop-member-preserved
push_members-loop-member-preserved t c =
    one_more by_member _ _ _ c.args.members.now c.loop-member.member-index c.member-item.result (omega arith) c.loop-member.invariant c.member-item.is
    (c.in_ok-push_fulls.ensures ∙ ap (λ (ds : List FullDeclarator). with_fulls c.push_parts.new.spots.items (fulls_of ds)) c.deref-in-loop-member.ensures.value
    ∙ ap (λ (b : List Spot). with_fulls b (fulls_of c.member-item.result.declarators.items)) (c.in_ok-push_parts.ensures ∙ ap (λ (ss : List Specifier). with_parts c.loop-member.spots.items (parts_of ss)) c.deref.ensures.value))

pub push_members-returns : goal.push_members-returns
push_members-returns t c = at_end by_member _ _ _ c.args.members.now c.loop-member.member-index c.loop-member-test.false c.loop-member.invariant (members_in_turn _ c.args.members.now)

pub push_parameters-loop-parameter-preserved : goal.push_parameters-loop-parameter-preserved
push_parameters-loop-parameter-preserved t c =
    one_more by_parameter _ _ _ c.args.parameters.now c.loop-parameter.parameter-index c.parameter-item.result (omega arith) c.loop-parameter.invariant c.parameter-item.is
    (c.in_ok-push_full.ensures
    ∙ ap (λ (b : List Spot). with_full b (view_full c.parameter-item.result.declarator)) (c.in_ok-push_parts.ensures ∙ ap (λ (ss : List Specifier). with_parts c.loop-parameter.spots.items (parts_of ss)) c.deref.ensures.value))

pub push_parameters-returns : goal.push_parameters-returns
push_parameters-returns t c = at_end by_parameter _ _ _ c.args.parameters.now c.loop-parameter.parameter-index c.loop-parameter-test.false c.loop-parameter.invariant (parameters_in_turn _ c.args.parameters.now)

pub push_part-returns-in_ok-push_members-in-Record : goal.push_part-returns-in_ok-push_members-in-Record
push_part-returns-in_ok-push_members-in-Record t c =
    record_arm _ _ c.in-Record.line c.in-Record.kind c.in-Record.tag c.in-Record.members c.args.specifier.now _ c.in-Record.is c.in_ok-push_members-in-Record.ensures c.deref.ensures.value

pub push_full-returns-in_ok-push_full_suffixes-in-Unnamed : goal.push_full-returns-in_ok-push_full_suffixes-in-Unnamed
push_full-returns-in_ok-push_full_suffixes-in-Unnamed t c =
    unnamed_arm _ _ c.in-Unnamed.pointers c.in-Unnamed.suffixes c.args.declarator.now _ c.in-Unnamed.is c.in_ok-push_full_suffixes-in-Unnamed.ensures c.deref.ensures.value

pub push_full-returns-in_ok-push_full_suffixes-in-Named : goal.push_full-returns-in_ok-push_full_suffixes-in-Named
push_full-returns-in_ok-push_full_suffixes-in-Named t c =
    named_arm _ _ c.in-Named.pointers c.in-Named.line c.in-Named.name c.in-Named.suffixes c.args.declarator.now _ c.in-Named.is c.in_ok-push_full_suffixes-in-Named.ensures c.deref-in-Named.ensures.value

pub push_full-returns-in_ok-push_full_suffixes-in-Inside : goal.push_full-returns-in_ok-push_full_suffixes-in-Inside
push_full-returns-in_ok-push_full_suffixes-in-Inside t c =
    full_inside_arm _ _ _ c.in-Inside.pointers c.in-Inside.line c.in-Inside.inner c.in-Inside.suffixes c.args.declarator.now _ _ c.in-Inside.is c.in_ok-push_full-in-Inside.ensures c.deref-in-Inside.ensures
    c.in_ok-push_full_suffixes-in-Inside.ensures c.deref-in-Inside-2.ensures.value

pub push_full_suffix-returns-in_ok-push_parameters-in-Parameters : goal.push_full_suffix-returns-in_ok-push_parameters-in-Parameters
push_full_suffix-returns-in_ok-push_parameters-in-Parameters t c =
    parameters_arm _ _ c.in-Parameters.line c.in-Parameters.parameters c.in-Parameters.variadic c.args.suffix.now _ c.in-Parameters.is c.in_ok-push_parameters-in-Parameters.ensures c.deref-in-Parameters.ensures.value
