use Rattle.std.proofs.Common.{List, map, length, ap, ◌∙◌, arith, length-append, length-drop}
use Rattle.std.specs.Prelude.{if◌then◌else◌}
use Rattle.std.proofs.lemmas.List.{length-replicate}
use Rattle.std.proofs.lemmas.Result.{IfOk-weaker}
use Rattle.sat_form.specs.Satisfaction.{Literal, literal_value}
use Rattle.gate_bits.specs.Truth.{AreTruths}
use Rattle.gate_words.proofs.Shifting.{Stage_down}
use Rattle.gate_words.proofs.shifts.stage_down.Goals as goal

pub returns-clause-is : goal.returns-clause-is
returns-clause-is c =
    let moved : List Literal = c.deref.result.now in
    let is_moved = c.deref.ensures.value ∙ c.in_ok-moved.ensures in
    IfOk-weaker c.chosen.result (λ r. AreTruths c.chosen.new.cnf (length moved) r.items (λ x. if literal_value x c.args.on then map (literal_value x) moved else map (literal_value x) c.args.bits.now)) _
    (λ r are. Stage_down c.args.cnf.now c.chosen.new.cnf c.args.bits.now moved r.items c.args.on c.args.fill c.args.distance c.requires.distance is_moved (ap length is_moved ∙ simp (length-append, length-replicate, length-drop) (omega arith)) c.chosen.ensures.grows are)
    c.chosen.ensures.is
