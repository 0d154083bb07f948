use Rattle.std.proofs.Common.{List, ℕ, None, sym, ap, ◌∙◌}
use Rattle.c_pre.specs.Known.{Fates, fates_in, with_fate, findings_of, findings, is_in}
use Rattle.c_pre.proofs.Keeping.{forgets_all, forgets_name}
use Rattle.c_pre.proofs.known.forget.Goals as goal

pub returns-then-is_used : goal.returns-then-is_used
returns-then-is_used c =
    forgets_all c.args.name.now (findings_of c.args.known.now) c.nothing.result c.nothing.ensures.fates c.nothing.ensures.nodes c.nothing.ensures.used

pub returns : goal.returns
returns c =
    let known = c.args.known.now in
    forgets_name c.args.name.now (fates_in known.fates.entries) known.nodes.items (is_in known.used.keys) (findings (fates_in c.note.new.fates.entries) known.nodes.items (is_in known.used.keys)) (sym c.is_used.ensures ∙ c.if-is_used.false)
    (ap (λ (s : Fates). findings s known.nodes.items (is_in known.used.keys)) (c.in_ok-note.ensures ∙ ap (λ (n : List ℕ). with_fate n None (fates_in known.fates.entries)) (c.in_ok-key.ensures.items_if_clones_equal (λ y h e. e))))
