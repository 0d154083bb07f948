use Rattle.std.proofs.Common.{◌≡◌, drop}
use Rattle.core_tree.specs.Trees.{items_of}
use Rattle.lowered_code.specs.Lowering.{last_case}
use Rattle.lowered_code.specs.Registers.{case_types}
use Rattle.code_draft.specs.Drafts.{next}
use Rattle.goto_lower.specs.Statements.{typed}
use Rattle.goto_lower.proofs.switches.case_registers.Given as goal

abbrev pub invariant-loop-item : goal.invariant-loop-item
invariant-loop-item l = record {
  draft : typed l.draft (case_types (items_of (drop l.item-index l.items))) ≡ typed l.initial.draft (case_types (items_of l.items));
  last : last_case l.draft.frame l.last (items_of (drop l.item-index l.items)) (next l.draft) ≡ last_case l.initial.draft.frame l.before (items_of l.items) (next l.initial.draft);
}
