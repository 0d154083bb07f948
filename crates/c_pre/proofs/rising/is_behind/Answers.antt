use Rattle.std.proofs.Common.{◌≡◌, ◌≤◌, ℕ, nat_eq, false, ap, subst, arith}
use Rattle.c_pre.specs.declared.known.Link.{Link}
use Rattle.c_pre.specs.Known.{depth_of}
use Rattle.c_pre.proofs.Trees.{not_found}
use Rattle.c_pre.proofs.rising.is_behind.Goals as goal

differ : (a b : ℕ) → nat_eq a b ≡ false → a ≡ b → ⊥
differ a b e same = grind (arith, e, same)

pub returns-clause-no : goal.returns-clause-no
returns-clause-no c = λ other behind.
    let depth = ap (λ (x : Link). x.depth) c.link_at.ensures in
    differ c.in_ok-found.found c.args.other other
    (not_found c.args.nodes.now c.args.node c.in_ok-found.found c.args.other c.requires.forest c.requires.within c.in_ok-found.ensures.behind
    (subst (λ (d : ℕ). depth_of c.args.nodes.now c.in_ok-found.found ≤ d) depth c.in_ok-found.ensures.low)
    (subst (λ (d : ℕ). d ≤ depth_of c.args.nodes.now c.args.node → d ≤ depth_of c.args.nodes.now c.in_ok-found.found) depth c.in_ok-found.ensures.high) behind)
