use Rattle.std.proofs.Common.{List, ap, sym, ◌∙◌, arith}
use Rattle.c_tree.specs.declared.declaration.Specifier.{Specifier}
use Rattle.c_tree.specs.declared.declaration.MemberDeclaration.{MemberDeclaration}
use Rattle.c_tree.specs.Declarations.{view_part, parts_of, members_of, part_depth, parts_depth, members_depth, with_part, with_parts, with_members}
use Rattle.c_tree.proofs.DeclarationViews.{view_record}
use Rattle.c_tree.proofs.Deepest.{deepest_within, of_specifier, parts_deepest, of_member, members_deepest}
use Rattle.c_parse_parts.proofs.DeclaredNames.{parts_more, members_more}
use Rattle.c_parse_parts.proofs.declared.+declared.Goals as goal

pub declare_part-declare_members-requires : goal.declare_part-declare_members-requires
declare_part-declare_members-requires t c =
    let e = ap (λ (s : Specifier). part_depth (view_part s)) c.in-Record.is ∙ ap part_depth (view_record c.in-Record.line c.in-Record.kind c.in-Record.tag c.in-Record.members) in
    let same = ap (λ (ms : List MemberDeclaration). members_depth (members_of ms)) c.deref.ensures.value in
    (omega (arith, e, same), tt)

pub declare_part-returns-in_ok-declare_members-in-Record : goal.declare_part-returns-in_ok-declare_members-in-Record
declare_part-returns-in_ok-declare_members-in-Record t c =
    let made = ap (λ (s : Specifier). with_part c.args.names.now (view_part s)) c.in-Record.is ∙ ap (with_part c.args.names.now) (view_record c.in-Record.line c.in-Record.kind c.in-Record.tag c.in-Record.members) in
    let same = ap (λ (ms : List MemberDeclaration). with_members c.args.names.now (members_of ms)) c.deref.ensures.value in
    c.in_ok-declare_members-in-Record.ensures ∙ same ∙ sym made

pub declare_parts-declare_part-requires : goal.declare_parts-declare_part-requires
declare_parts-declare_part-requires t c =
    let below = deepest_within of_specifier c.args.specifiers.now c.loop-specifier.specifier-index c.specifier-item.result (omega arith) in
    let all = parts_deepest c.args.specifiers.now in
    let e = ap (λ (x : Specifier). of_specifier x) c.specifier-item.is in
    (omega (arith, below, all, e), tt)

pub declare_parts-loop-specifier-preserved : goal.declare_parts-loop-specifier-preserved
declare_parts-loop-specifier-preserved t c =
    parts_more c.args.names.now c.loop-specifier.names c.declare_part.new.names c.args.specifiers.now c.loop-specifier.specifier-index c.specifier-item.result (omega arith) c.loop-specifier.invariant
    (c.in_ok-declare_part.ensures ∙ ap (λ (s : Specifier). with_part c.loop-specifier.names (view_part s)) c.specifier-item.is)

pub declare_members-declare_parts-requires : goal.declare_members-declare_parts-requires
declare_members-declare_parts-requires t c =
    let below = deepest_within of_member c.args.members.now c.loop-member.member-index c.member-item.result (omega arith) in
    let all = members_deepest c.args.members.now in
    let e = ap (λ (x : MemberDeclaration). of_member x) c.member-item.is in
    let first = ap (λ (ss : List Specifier). parts_depth (parts_of ss)) c.deref.ensures.value in
    (omega (arith, below, all, e, first), tt)

pub declare_members-loop-member-preserved : goal.declare_members-loop-member-preserved
declare_members-loop-member-preserved t c =
    members_more c.args.names.now c.loop-member.names c.declare_parts.new.names c.args.members.now c.loop-member.member-index c.member-item.result (omega arith) c.loop-member.invariant
    (c.in_ok-declare_parts.ensures
    ∙ ap (λ (ss : List Specifier). with_parts c.loop-member.names (parts_of ss)) c.deref.ensures.value
    ∙ ap (λ (m : MemberDeclaration). with_parts c.loop-member.names (parts_of m.specifiers.items)) c.member-item.is)
