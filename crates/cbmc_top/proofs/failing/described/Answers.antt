use Rattle.std.proofs.Common.{◌≡◌, ℕ, true, List, Some, subst, sym, arith}
use Rattle.core_tree.specs.Trees.{CoreFile, view_core}
use Rattle.cbmc_top.specs.Programs.{text_behind}
use Rattle.cbmc_top.specs.Answers.{name_in}
use Rattle.report.specs.Identifiers.{is_identifier}
use Rattle.cbmc_top.proofs.Describing.{named, same_identifier, is_failure}
use Rattle.cbmc_top.proofs.failing.described.Goals as goal

pub name_of-requires : goal.name_of-requires
name_of-requires c =
    let number = c.args.trace.check.function in
    subst (λ (core : CoreFile). (x : List ℕ) × (name_in (view_core core) number ≡ Some x) × (is_identifier x ≡ true)) (sym c.core.ensures.is)
    (named c.requires.typed.0 (view_core c.args.file.now) c.args.bounds.now c.args.trace c.requires.typed.1 c.requires.program.1.in_profile c.requires.broken)

pub returns-clause-failure : goal.returns-clause-failure
returns-clause-failure c =
    let t = c.args.trace in
    let core = view_core c.args.file.now in
    let limits = c.args.bounds.now in
    let name = c.in_ok-function.function.bytes.items in
    let found : name_in core t.check.function ≡ Some name = subst (λ (core : CoreFile). name_in (view_core core) t.check.function ≡ Some name) c.core.ensures.is c.in_ok-function.ensures in
    let word = same_identifier core t.check.function name (named c.requires.typed.0 core limits t c.requires.typed.1 c.requires.program.1.in_profile c.requires.broken) found in
    let bytes = c.requires.program.0 in
    let program = c.requires.program.1 in
    let tree = program.is_tree in
    let line = c.told_lines.ensures bytes (text_behind bytes) tree.cutting tree.tokens program.tree core limits t.inputs t.schedule t.check tree.cut tree.expanded tree.is_tree program.typed c.requires.broken in
    let told = c.trace_is_told.ensures in
    is_failure limits core t name c.requires.broken found word told.words told.drawn told.rising told.turns told.rows told.maximal line (omega arith) (omega arith)
