use Rattle.c_tree.specs.Names.{built_in_names}
use Rattle.c_tree.specs.Statements.{externals_of}
use Rattle.c_parse_decl.proofs.Externals.{no_file, none_here, one_more, more_names, whole_file, empty_by, some_left}
use Rattle.c_parse_decl.proofs.file.externals.Goals as goal

pub returns-in-Err-clause-none : goal.returns-in-Err-clause-none
returns-in-Err-clause-none c =
    λ not. no_file c.args.bytes.now c.externals.externals.items c.args.tokens.now c.externals.rest.now c.externals.invariant.before c.externals.invariant.begun
    (none_here c.args.bytes.now c.externals.names built_in_names c.externals.externals.items c.externals.rest.now c.externals.invariant.names (c.in-Err.ensures.none not))

pub returns-in-Err-clause-line : goal.returns-in-Err-clause-line
returns-in-Err-clause-line c =
    λ not. (
      c.externals.rest.now,
      record {
        tree = externals_of c.externals.externals.items;
        before = c.externals.invariant.before;
        none = none_here c.args.bytes.now c.externals.names built_in_names c.externals.externals.items c.externals.rest.now c.externals.invariant.names (c.in-Err.ensures.none not);
      },
      c.in-Err.ensures.line not,
    )

pub returns-then-is_empty-clause-found : goal.returns-then-is_empty-clause-found
returns-then-is_empty-clause-found c =
    let rest = c.in-Ok.found.1.now in
    whole_file c.args.bytes.now c.externals.externals.items c.push.new.self.items c.in-Ok.found.0 c.args.tokens.now rest c.in_ok-push.ensures.items (empty_by rest c.is_empty.result c.is_empty.ensures c.if-is_empty.true)
    (one_more c.args.bytes.now built_in_names c.externals.names c.externals.externals.items c.push.new.self.items c.in-Ok.found.0 c.args.tokens.now c.externals.rest.now rest c.in_ok-push.ensures.items c.externals.invariant.names c.externals.invariant.before c.in-Ok.ensures.found)

pub externals-preserved : goal.externals-preserved
externals-preserved c =
    let rest = c.in-Ok.found.1.now in
    record {
      before = one_more c.args.bytes.now built_in_names c.externals.names c.externals.externals.items c.push.new.self.items c.in-Ok.found.0 c.args.tokens.now c.externals.rest.now rest c.in_ok-push.ensures.items c.externals.invariant.names c.externals.invariant.before c.in-Ok.ensures.found;
      names = more_names built_in_names c.externals.names c.next_external.new.names c.externals.externals.items c.push.new.self.items c.in-Ok.found.0 c.in_ok-push.ensures.items c.externals.invariant.names c.in-Ok.ensures.names;
      begun = λ e. absurd (some_left rest c.is_empty.result c.is_empty.ensures c.if-is_empty.false e);
    }
