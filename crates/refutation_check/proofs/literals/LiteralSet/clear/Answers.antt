use Rattle.std.proofs.Common.{◌≡◌, length, sym, ap, ◌∙◌}
use Rattle.sat_form.specs.Satisfaction.{index_of}
use Rattle.refutation_check.proofs.Marks.{marked-none, All-refilled}
use Rattle.refutation_check.proofs.literals.LiteralSet.clear.Goals as goal

pub returns-clause-none : goal.returns-clause-none
returns-clause-none c = λ l.
    let same : length c.next_round-self-inside.new.rounds ≡ length c.self.inside.rounds.items = c.next_round-self-inside.ensures.places ∙ ap length c.deref_mut.ensures.value in
    marked-none _ _ (index_of l)
    (All-refilled c.self.inside.rounds.items c.next_round-self-inside.new.rounds c.self.inside.rounds.len c.next_round-self-inside.result (sym c.self.inside.rounds.ok.0) same c.next_round-self-inside.ensures.later)
