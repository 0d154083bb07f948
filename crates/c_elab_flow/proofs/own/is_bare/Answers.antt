use Rattle.std.proofs.Common.{Bool, ap₂, sym, ◌∙◌}
use Rattle.std.specs.Prelude.{◌&&◌}
use Rattle.c_elab_flow.proofs.Declaring.{none_are}
use Rattle.c_elab_flow.proofs.own.is_bare.Goals as goal

pub returns-then-is_empty : goal.returns-then-is_empty
returns-then-is_empty c =
    sym (ap₂ (λ (a b : Bool). a && b) (sym c.is_empty.ensures ∙ c.if-is_empty.true) (sym (none_are c.args.suffixes.now) ∙ sym c.is_empty-then-is_empty.ensures))
