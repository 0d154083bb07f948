use Rattle.std.proofs.Common.{◌≡◌, map, drop}
use Rattle.c_pre.specs.Headers.{all_defined}
use Rattle.c_pre.specs.Views.{tokens_of, macros_in}
use Rattle.c_pre.specs.Known.{findings_of, Keeps}
use Rattle.c_pre.proofs.macros.define_all.Given as goal

abbrev pub invariant-loop-row : goal.invariant-loop-row
invariant-loop-row l = record {
  defined : all_defined l.bytes (map tokens_of (drop l.row-index l.rows)) (macros_in l.macros.entries) ≡ all_defined l.bytes (map tokens_of l.rows) (macros_in l.fn.macros.entries);
  keeps : Keeps l.bytes l.fn.macros.entries (findings_of l.fn.known) l.macros.entries (findings_of l.known);
}
