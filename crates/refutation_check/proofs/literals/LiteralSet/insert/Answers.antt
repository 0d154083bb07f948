use Rattle.std.proofs.Common.{◌<◌, length, get_or, set, map, false, sym, ap, ◌∙◌, subst}
use Rattle.std.specs.Prelude.{nat_eq}
use Rattle.sat_form.specs.Satisfaction.{index_of}
use Rattle.refutation_check.specs.Sets.{Literals, holds}
use Rattle.refutation_check.proofs.Marks.{index_of-injective, marked-here, marked-other, index_of-below}
use Rattle.refutation_check.proofs.literals.LiteralSet.insert.Goals as goal

pub returns-clause-inserted : goal.returns-clause-inserted
returns-clause-inserted c =
    let below : index_of c.args.literal < length c.self.inside.rounds.items =
    index_of-below c.args.literal c.self.inside.variables (length c.self.inside.rounds.items)
    (subst (λ (x : Literals). c.args.literal.variable < x.variables) (sym c.self.view_is) c.requires) c.self.invariant.places in
    ap (λ i. get_or (map (λ r. nat_eq r c.self.inside.round) (set c.self.inside.rounds.items i c.self.inside.round)) (index_of c.args.literal) false) c.index.ensures
    ∙ marked-here c.self.inside.rounds.items c.self.inside.round (index_of c.args.literal) below

pub returns-clause-others : goal.returns-clause-others
returns-clause-others c = λ l other.
    ap (λ i. get_or (map (λ r. nat_eq r c.self.inside.round) (set c.self.inside.rounds.items i c.self.inside.round)) (index_of l) false) c.index.ensures
    ∙ marked-other c.self.inside.rounds.items c.self.inside.round (index_of c.args.literal) (index_of l) (λ e. other (sym (index_of-injective c.args.literal l e)))
    ∙ ap (λ (x : Literals). holds x l) c.self.view_is
