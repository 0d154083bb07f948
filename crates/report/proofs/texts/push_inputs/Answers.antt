use Rattle.std.proofs.Common.{ℕ, List, [], ◌∷◌, ◌++◌, string_bytes, sym, ap, ◌∙◌, append_assoc}
use Rattle.std.specs.List.{flat_map}
use Rattle.interleave.specs.Inputs.{InputLists}
use Rattle.report.specs.Report.{inputs_line}
use Rattle.report.specs.Failing.{drew}
use Rattle.report.proofs.Drawing.{lines_both}
use Rattle.report.proofs.texts.push_inputs.Goals as goal

pub loop-thread-preserved : goal.loop-thread-preserved
loop-thread-preserved c =
    let lines = λ (es : InputLists). flat_map inputs_line (drew es) in
    let text = string_bytes c.loop-thread.text in
    let thread = c.in-Some.thread.now in
    let words = c.in-Some.words.now in
    let rest = c.next.new.self in
    let one = c.in_ok-push_drawn.ensures ∙ ap (λ (ws : List ℕ). text ++ lines ((thread, ws) ∷ [])) c.as_slice.ensures in
    ap (λ (z : List ℕ). z ++ lines rest) one
    ∙ append_assoc text (lines ((thread, words) ∷ [])) (lines rest)
    ∙ ap (λ (z : List ℕ). text ++ z) (sym (lines_both (thread, words) rest) ∙ ap lines (sym c.in-Some.ensures.steps))
    ∙ c.loop-thread.invariant
