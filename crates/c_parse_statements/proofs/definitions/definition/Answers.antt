use Rattle.std.proofs.Common.{◌∙◌, ap, sym}
use Rattle.c_tree.specs.Declarations.{view_full, parts_of, nearest}
use Rattle.c_tree.specs.declared.statement.Definition.{Definition}
use Rattle.c_tree.specs.Statements.{view_statement}
use Rattle.c_parse_statements.specs.inner.Reading.{read_as}
use Rattle.c_parse_statements.specs.Standing.{definitions}
use Rattle.c_parse_parts.proofs.Loops.{body_extends, fits_marked, left_marked}
use Rattle.c_parse_statements.proofs.Loops.{defined}
use Rattle.c_parse_statements.proofs.definitions.definition.Goals as goal

pub leave-requires : goal.leave-requires
leave-requires c =
    let e = body_extends c.args.names.now c.block.new.names (nearest (view_full c.args.declarator)) (c.in_ok-body.ensures.names ∙ c.in_ok-declare_body.ensures) in
    fits_marked c.args.names.now c.block.new.names c.mark-mark.result c.mark-mark.ensures e

pub returns-clause-names : goal.returns-clause-names
returns-clause-names c =
    let e = body_extends c.args.names.now c.block.new.names (nearest (view_full c.args.declarator)) (c.in_ok-body.ensures.names ∙ c.in_ok-declare_body.ensures) in
    left_marked c.args.names.now c.block.new.names c.leave.new.self c.mark-mark.result c.mark-mark.ensures e c.leave.ensures

pub returns-clause-exact : goal.returns-clause-exact
returns-clause-exact c =
    defined c.args.bytes.now c.args.names.now c.declare_body.new.names (parts_of c.args.specifiers.items) (view_full c.args.declarator) c.args.line c.args.tokens.now _ _ c.is_function.result c.if-not-is_function.false c.is_function.ensures c.in_ok-declare_body.ensures c.in_ok-body.ensures.exact
    ∙ ap (λ (d : Definition). read_as (definitions (parts_of d.specifiers.items) (view_full d.declarator) (view_statement d.body.value)) c.in_ok-body.rest.now) (sym c.in_ok-definition.ensures.ok)
