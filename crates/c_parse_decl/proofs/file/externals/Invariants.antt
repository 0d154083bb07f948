use Rattle.std.proofs.Common.{◌≡◌, [], length}
use Rattle.c_tree.specs.Names.{built_in_names}
use Rattle.c_tree.specs.Statements.{externals_of}
use Rattle.c_parse_statements.specs.Standing.{StandBefore, with_externals}
use Rattle.c_parse_decl.proofs.file.externals.Given as goal

abbrev pub invariant-externals : goal.invariant-externals
invariant-externals l = record {
  before : StandBefore l.bytes built_in_names (externals_of l.externals.items) l.tokens l.rest;
  names : l.names ≡ with_externals built_in_names (externals_of l.externals.items);
  begun : l.rest ≡ [] → l.externals.items ≡ [];
}

abbrev pub decreases-externals : goal.decreases-externals
decreases-externals l = length l.rest
