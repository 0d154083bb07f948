use Rattle.c_parse_statements.proofs.Loops.{others_made, others_names}
use Rattle.c_parse_statements.proofs.definitions.others.Goals as goal

pub returns-clause-exact : goal.returns-clause-exact
returns-clause-exact c =
    others_made c.args.bytes.now c.args.names.now c.args.types c.args.tokens.now _ _ (record { declarator = c.args.declarator; initializer = c.in_ok-initializer.initializer }) c.in_ok-others.others.items c.insert.new.self.items
    c.in_ok-initializer.ensures.exact c.in_ok-others.ensures.exact c.in_ok-insert.ensures.items

pub returns-clause-names : goal.returns-clause-names
returns-clause-names c =
    λ before e. others_names before c.args.names.now c.declarators.new.names c.args.types (record { declarator = c.args.declarator; initializer = c.in_ok-initializer.initializer }) c.in_ok-others.others.items c.insert.new.self.items e c.in_ok-others.ensures.names c.in_ok-insert.ensures.items
